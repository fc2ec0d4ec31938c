use Rattle.std.proofs.Common.{arith}
use Rattle.race_parts.proofs.QuoteLemmas.{plain_next}
use Rattle.race_parts.proofs.quotes.plain_runs.Goals as goal

pub runs-preserved : goal.runs-preserved
runs-preserved c = (
  omega (arith, c.runs.invariant.0, c.runs-test.true, c.plain_in-plain.ensures.bound),
  plain_next c.args.text.now c.runs.at c.plain_in-plain.result (omega (arith, c.runs.invariant.0, c.runs-test.true, c.plain_in-plain.ensures.bound)) c.runs.invariant.1 c.plain_in-plain.ensures.plain,
)

pub returns-then-plain-lt-RUN-clause-plain : goal.returns-then-plain-lt-RUN-clause-plain
returns-then-plain-lt-RUN-clause-plain c =
    plain_next c.args.text.now c.runs.at c.plain_in-plain.result (omega (arith, c.runs.invariant.0, c.runs-test.true, c.plain_in-plain.ensures.bound)) c.runs.invariant.1 c.plain_in-plain.ensures.plain
