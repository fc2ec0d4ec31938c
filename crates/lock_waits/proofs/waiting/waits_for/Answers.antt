use Rattle.std.proofs.Common.{refl}
use Rattle.std.proofs.lemmas.Bool.{false≢true}
use Rattle.lock_waits.proofs.CycleLemmas.{waits_for-lock, waits_for-none, waits_for-past, waits_for-past_second}
use Rattle.lock_waits.proofs.waiting.waits_for.Goals as goal

pub returns-then-first-len : goal.returns-then-first-len
returns-then-first-len c = record {
  waits = (
    λ so. absurd (false≢true so),
    λ w. absurd (waits_for-past c.args.analysis.now c.indexed-indexed.result.now c.indexed-indexed.ensures c.args.first c.args.second c.len.result c.len.ensures.len c.if-first-len.true w),
  );
}

pub returns-then-second-len : goal.returns-then-second-len
returns-then-second-len c = record {
  waits = (
    λ so. absurd (false≢true so),
    λ w. absurd (waits_for-past_second c.args.analysis.now c.indexed-indexed.result.now c.indexed-indexed.ensures c.args.first c.args.second c.len-2.result c.len-2.ensures.len c.if-second-len.true w),
  );
}

pub returns-in-None : goal.returns-in-None
returns-in-None c = record {
  waits = (
    λ so. absurd (false≢true so),
    λ w. absurd (waits_for-none c.args.analysis.now c.indexed-indexed.result.now c.indexed-indexed.ensures c.args.first c.args.second (c.in-None.ensures.none refl) w),
  );
}

pub returns-in-Some : goal.returns-in-Some
returns-in-Some c = record {
  waits = waits_for-lock c.args.analysis.now c.indexed-indexed.result.now c.indexed-indexed.ensures c.args.first c.args.second c.in-Some.lock c.is_held.result c.in-Some.ensures.acquires c.is_held.ensures;
}
