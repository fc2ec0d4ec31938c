use Rattle.std.specs.Prelude.{⊤}
use Rattle.std.proofs.Common.{◌%◌, slice_index, slice_index_or, arith, inl, inr}
use Rattle.std.proofs.Math.Nat.{mod-lt}
use Rattle.std.proofs.lemmas.Bool.{cases_lt}
use Rattle.race_triage.specs.Verdicts.{IsBelow}
use Rattle.race_triage.proofs.OnceLemmas.{AreOn-weaker}
use Rattle.race_triage.proofs.WorkerLemmas.{IsAnswered-weaker}
use Rattle.race_triage.proofs.workers.joined.Goals as goal

pub loop-at-preserved : goal.loop-at-preserved
loop-at-preserved c =
    let r = c.args.found.now.tables.indexed.now in
    let place = slice_index c.args.found.now.tables.places.now in
    let rows = c.args.found.now.groups.rows.items in (
      c.in_ok-add_part.ensures.all,
      λ k d lt below. elim (cases_lt (k % c.args.every) c.loop-at.at) [
        | inl earlier ↦
            IsAnswered-weaker r place c.loop-at.all.items c.add_part.new.all.items (slice_index_or rows k d) c.in_ok-add_part.ensures.kept (c.loop-at.invariant.1 k d lt earlier)
        | inr late ↦ c.in_ok-add_part.ensures.answered k d lt (omega (arith, late, below))
      ],
      c.in_ok-add_part.ensures.on,
    )

pub returns : goal.returns
returns c =
    record {
      verdicts = c.loop-at.invariant.0;
      answered = λ k d lt.
          let within = mod-lt k c.requires.every in
          c.loop-at.invariant.1 k d lt (omega (arith, within, c.loop-at-test.false, c.requires.len));
      on = AreOn-weaker c.args.found.now.groups.rows.items (IsBelow c.args.every c.loop-at.at) (λ at. ⊤) c.loop-at.all.items (λ k low. tt) c.loop-at.invariant.2;
    }
