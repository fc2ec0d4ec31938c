use Rattle.std.proofs.Common.{◌<◌, sym, subst, ◌∙◌, arith, length, All}
use Rattle.std.proofs.lemmas.Bool.{false≢true}
use Rattle.rapid_text.specs.Recording.{Recording}
use Rattle.lock_waits.proofs.CycleLemmas.{Decides-cycle, all_within}
use Rattle.lock_waits.proofs.cycles.is_cycle.Goals as goal

pub returns-then-requests-lt2 : goal.returns-then-requests-lt2
returns-then-requests-lt2 c = record { cycle = (λ so. absurd (false≢true so), λ is. absurd (omega (arith, is.several, c.if-requests-lt2.true))) }

pub returns-then-not-each_waits : goal.returns-then-not-each_waits
returns-then-not-each_waits c = record { cycle = (λ so. absurd (false≢true so), λ is. absurd (false≢true (sym c.if-not-each_waits.true ∙ c.each_waits.ensures.1 is.waits))) }

pub returns-then-not-waits_for : goal.returns-then-not-waits_for
returns-then-not-waits_for c = record { cycle = (λ so. absurd (false≢true so), λ is. absurd (false≢true (sym c.if-not-waits_for.true ∙ c.waits_for.ensures.waits.1 is.closed))) }

pub are_of_different_threads-requires : goal.are_of_different_threads-requires
are_of_different_threads-requires c =
    subst (λ (p : Recording). All (λ e. e < length p.events) c.args.requests.now) (sym c.indexed.ensures)
    (all_within c.args.analysis.now.events c.args.requests.now (omega (arith, c.if-requests-lt2.false)) (c.each_waits.ensures.0 c.if-not-each_waits.false)
    (c.waits_for.ensures.waits.0 c.if-not-waits_for.false))

pub returns : goal.returns
returns c = record {
  cycle =
      Decides-cycle c.args.analysis.now c.indexed.result.now c.indexed.ensures c.args.requests.now (omega (arith, c.if-requests-lt2.false)) (c.each_waits.ensures.0 c.if-not-each_waits.false)
      (c.waits_for.ensures.waits.0 c.if-not-waits_for.false) c.are_of_different_threads.result c.are_of_different_threads.ensures;
}
