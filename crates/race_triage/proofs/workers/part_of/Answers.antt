use Rattle.std.proofs.Common.{◌≡◌, ℕ, ◌%◌, slice_index, slice_index_or, subst, sym, arith, inl, inr}
use Rattle.std.proofs.lemmas.Bool.{cases_lt}
use Rattle.race_triage.proofs.WorkerLemmas.{IsAnswered-weaker}
use Rattle.race_triage.proofs.OnceLemmas.{AreOn-weaker}
use Rattle.race_triage.specs.Verdicts.{IsAnswered, IsOwn}
use Rattle.race_triage.proofs.workers.part_of.Goals as goal

pub loop-at-preserved : goal.loop-at-preserved
loop-at-preserved g c =
    let r = c.args.found.now.tables.indexed.now in
    let place = slice_index c.args.found.now.tables.places.now in
    let rows = c.args.found.now.groups.rows.items in
    let new = c.add_own.new.verdicts.items in (
      c.in_ok-add_own.ensures.verdicts,
      λ k d below lt own. elim (cases_lt k c.loop-at.at) [
        | inl earlier ↦
            IsAnswered-weaker r place c.loop-at.verdicts.items new (slice_index_or rows k d) c.in_ok-add_own.ensures.kept (c.loop-at.invariant.1 k d earlier lt own)
        | inr late ↦
            let here : k ≡ c.loop-at.at = omega (arith, late, below) in
            subst (λ (i : ℕ). IsAnswered new (slice_index_or rows i d)) (sym here)
            (c.in_ok-add_own.ensures.answered (subst (λ (i : ℕ). i % c.args.every ≡ c.args.from) here own) d)
      ],
      c.in_ok-add_own.ensures.on,
    )

pub returns : goal.returns
returns g c =
    record {
      verdicts = c.loop-at.invariant.0;
      answered = λ k d lt own. c.loop-at.invariant.1 k d (omega (arith, lt, c.loop-at-test.false)) lt own;
      on =
          AreOn-weaker c.args.found.now.groups.rows.items (IsOwn c.args.from c.args.every c.loop-at.at) (λ at. at % c.args.every ≡ c.args.from) c.loop-at.verdicts.items
          (λ k own. own.1) c.loop-at.invariant.2;
    }
