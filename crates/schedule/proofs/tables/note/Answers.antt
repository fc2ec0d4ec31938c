use Rattle.std.proofs.Common.{◌≡◌, ◌≤◌, ◌++◌, ◌∷◌, [], ◌-◌, length, take, refl, ap, sym, subst, ◌∙◌, arith, rules}
use Rattle.std.proofs.lemmas.List.{length_push, take_at}
use Rattle.event_index.specs.Tables.{IsTable}
use Rattle.rapid_text.specs.Limits.{event_limit}
use Rattle.schedule.specs.Counts.{count_in}
use Rattle.schedule.specs.Reordering.{IsCorrectReordering}
use Rattle.schedule.specs.Tables.{shadow_of}
use Rattle.schedule.proofs.CallerLemmas.{IsCorrectReordering-length}
use Rattle.schedule.proofs.SwapLemmas.{front_is}
use Rattle.schedule.proofs.TableLemmas.{AreTables-push, depth_of-small, count_of-small}
use Rattle.schedule.proofs.tables.note.Goals as goal

pub step-requires : goal.step-requires
step-requires c =
    let T = c.args.indexed.now.events in
    let P = c.args.events.now in
    let long = IsCorrectReordering-length T (P ++ c.args.event ∷ []) c.requires.enabled in
    let few : length P ≤ event_limit = omega (arith, long, length_push P c.args.event, c.event-found.ensures.well_formed.events) in
    depth_of-small T P c.args.tables.now event_limit few c.requires.tables

pub count_up-requires-clause-small : goal.count_up-requires-clause-small
count_up-requires-clause-small c =
    let T = c.args.indexed.now.events in
    let P = c.args.events.now in
    let t = c.event-found.result.thread in
    let long = IsCorrectReordering-length T (P ++ c.args.event ∷ []) c.requires.enabled in
    let few : length P ≤ event_limit = omega (arith, long, length_push P c.args.event, c.event-found.ensures.well_formed.events) in
    omega (arith, count_of-small T P c.args.tables.now event_limit t few c.requires.tables, c.make_room.ensures.same t)

pub returns-clause-ok : goal.returns-clause-ok
returns-clause-ok c =
    let T = c.args.indexed.now.events in
    let P = c.args.events.now in
    let v = c.event-found.result in
    let is : IsCorrectReordering T P = front_is T P (c.args.event ∷ []) c.requires.enabled in
    AreTables-push T P c.args.event v c.event-found.ensures.found c.event-found.ensures.disciplined is c.args.tables.now _ c.requires.tables
    c.count_up.ensures.order (count_in c.make_room.new.counts.items) c.make_room.ensures.same c.count_up.ensures.count c.in-Ok-step.ensures.ok c.shadow_of-shadow.result c.shadow_of-shadow.ensures (search rules)

pub returns-in_default-step-clause-err : goal.returns-in_default-step-clause-err
returns-in_default-step-clause-err c =
    let T = c.args.indexed.now.events in
    let P = c.args.events.now in
    let tables = c.requires.tables in
    let S = c.args.tables.now.shadows.items in
    let pushed : c.push.new.self.items ≡ S ++ c.shadow_of-shadow.result ∷ [] = c.in-Ok-push.ensures.items in
    let popped : c.pop.new.self.items ≡ take (length c.push.new.self.items - 1) c.push.new.self.items = search rules in
    let short : length c.push.new.self.items - 1 ≡ length S = omega (arith, ap length pushed, length_push S c.shadow_of-shadow.result) in
    let same : c.pop.new.self.items ≡ S =
    popped ∙ ap (λ n. take n c.push.new.self.items) short ∙ ap (take (length S)) pushed ∙ take_at S (c.shadow_of-shadow.result ∷ []) (length S) refl in
    record {
      order = c.make_room.ensures.order;
      counts = λ t. c.make_room.ensures.same t ∙ tables.counts t;
      latest = λ q. c.in_default-step.ensures.err q ∙ tables.latest q;
      shadows = subst (IsTable (shadow_of T P) (length P)) (sym same) tables.shadows;
    }
