use Rattle.std.proofs.Common.{ℕ, ◌+◌, ◌-◌, ◌<◌, drop, length, slice_index, sym, ap, ◌∙◌, arith}
use Rattle.std.proofs.lemmas.List.Elements.{All-drop, All-get_or, All-take}
use Rattle.std.specs.List.{slice_get}
use Rattle.race_groups.specs.Classes.{adds_to}
use Rattle.race_groups.specs.Counts.{keeps}
use Rattle.race_groups.specs.Rows.{count_at}
use Rattle.race_groups.proofs.OwnerLemmas.{sum_by_passed}
use Rattle.race_groups.proofs.WalkLemmas.{between_fits, if_le, share_of, sum_between}
use Rattle.race_groups.proofs.walk.add_members.Goals as goal

pub loop-at-preserved-then-owner_of-thread : goal.loop-at-preserved-then-owner_of-thread
loop-at-preserved-then-owner_of-thread g c =
    let infos = c.args.classes.now.infos.items in
    let members = c.args.walk.members.now in
    let i = c.loop-at.at in
    let to = slice_index c.args.walk.runs.now i in
    let run = c.requires.runs.each i c.loop-at-test.true in
    record {
      rows = c.loop-at.invariant.rows;
      within = run.within;
      counts = λ k p q le.
          let counts : ℕ → ℕ = g.A.Shares.amount_of c.args.shares.now k in
          let share : ℕ → ℕ = share_of (keeps c.args.classes.now.lists.keys k) p q c.args.later infos counts in
          let same = sum_by_passed share members i to (omega (arith, run.more)) run.within
          (λ n from under.
          let m = slice_index members n in
          let within : m < length infos = All-get_or (λ x. x < length infos) members n 0 (omega (arith, under, run.within)) c.requires.members in
          let none = c.requires.own m within (run.one n from under ∙ sym c.owner_of.ensures ∙ c.if-owner_of-thread.true) k in
          let less = if_le (adds_to (keeps c.args.classes.now.lists.keys k) p q c.args.later (slice_get infos m)) (counts m) in
          omega (arith, none, less))
          in c.loop-at.invariant.counts k p q le ∙ ap (λ n. count_at k c.args.rows.now p q + n) (sym same);
    }

pub add_run-requires-clause-members : goal.add_run-requires-clause-members
add_run-requires-clause-members g c =
    let members = c.args.walk.members.now in
    let i = c.loop-at.at in
    All-take (λ k. k < length c.args.classes.now.infos.items) (slice_index c.args.walk.runs.now i - i) (drop i members) (All-drop (λ k. k < length c.args.classes.now.infos.items) i members c.requires.members)

pub add_run-requires-clause-room : goal.add_run-requires-clause-room
add_run-requires-clause-room g c = λ k p q le.
    let members = c.args.walk.members.now in
    let i = c.loop-at.at in
    let run = c.requires.runs.each i c.loop-at-test.true in
    let counts : ℕ → ℕ = g.A.Shares.amount_of c.args.shares.now k in
    let keep = keeps c.args.classes.now.lists.keys k in
    let inv = c.loop-at.invariant.counts k p q le in
    let fits = between_fits (share_of keep p q c.args.later c.args.classes.now.infos.items counts) members i (slice_index c.args.walk.runs.now i) (omega (arith, run.more)) counts
    (λ m. if_le (adds_to keep p q c.args.later (slice_get c.args.classes.now.infos.items m)) (counts m))
    in
    omega (arith, inv, fits, c.requires.room k p q le)

pub loop-at-preserved : goal.loop-at-preserved
loop-at-preserved g c =
    let i = c.loop-at.at in
    let to = slice_index c.args.walk.runs.now i in
    let run = c.requires.runs.each i c.loop-at-test.true in
    record {
      rows = c.in_ok-add_run.ensures.rows;
      within = run.within;
      counts = λ k p q le.
          let more = sum_between (share_of (keeps c.args.classes.now.lists.keys k) p q c.args.later c.args.classes.now.infos.items (g.A.Shares.amount_of c.args.shares.now k)) c.args.walk.members.now i to (omega (arith, run.more)) in
          omega (arith, c.in_ok-add_run.ensures.ok k p q le, c.loop-at.invariant.counts k p q le, more);
    }
