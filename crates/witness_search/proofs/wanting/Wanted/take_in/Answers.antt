use Rattle.std.proofs.Common.{rules, ◌≡◌, ◌<◌, length, Some, sym, ◌∙◌}
use Rattle.std.proofs.lemmas.List.{get_or_default}
use Rattle.std.proofs.lemmas.Option.{same_Some}
use Rattle.schedule.proofs.CallerLemmas.{is_in-true}
use Rattle.witness_search.specs.Searches.{is_marked}
use Rattle.witness_search.proofs.FoundLemmas.{Adds-none, AreFound-push}
use Rattle.witness_search.proofs.wanting.Wanted.take_in.Goals as goal

pub returns-then-index-clause-adds : goal.returns-then-index-clause-adds
returns-then-index-clause-adds c =
    let P = c.args.self.now.events.items in
    let x = c.in-Some.event in
    let within : x < length c.args.self.now.marks.items = search rules in
    let read : is_marked c.args.self.now.marks.items x ≡ c.index.result.now = get_or_default c.args.self.now.marks.items x _ _ within ∙ sym c.index.ensures in
    Adds-none (λ e. c.args.event ≡ Some e) P
    (λ e is. rw (← same_Some x e (sym c.in-Some.is ∙ is)) (is_in-true P x (sym (c.requires.found.marked x) ∙ read ∙ c.if-index.true)))

pub returns-clause-found : goal.returns-clause-found
returns-clause-found c =
    let marks = c.args.self.now.marks.items in
    let x = c.in-Some.event in
    let within : x < length marks = search rules in
    let read : is_marked marks x ≡ c.index.result.now = get_or_default marks x _ _ within ∙ sym c.index.ensures in
    rw c.in_ok-push.ensures.items (AreFound-push c.args.self.now.events.items marks x c.requires.found within (read ∙ c.if-index.false))
