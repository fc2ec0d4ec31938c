use Rattle.std.proofs.Common.{◌≡◌, ℕ, ◌<◌, Option, Some, None, length, get_or, refl, ◌∙◌, subst, arith}
use Rattle.std.proofs.lemmas.Grind.{get_or-set_at}
use Rattle.std.proofs.lemmas.List.{get_or_default, get_or-set_other}
use Rattle.witness_search.specs.trace_order.Layout.{IsStep}
use Rattle.witness_search.proofs.trace_order.closing.visit_acquire.Goals as goal

pub returns-clause-visit : goal.returns-clause-visit
returns-clause-visit c =
    let T = c.args.indexed.now.events in
    let latest = c.args.latest.now.items in
    let step = c.step_of-step.result in
    let low : c.args.lock < length latest = omega (arith, c.requires.lock, c.requires.locks) in
    let read : c.index.result.now ≡ get_or latest c.args.lock None = c.index.ensures ∙ get_or_default latest c.args.lock c.index.result.now None low in
    record {
      owed = step.owed;
      after = step.last;
      step = subst (λ (o : Option ℕ). IsStep T c.args.event o step.owed step.last) read c.step_of-step.ensures.step;
      taken = c.take_in.ensures.takes;
      here = get_or-set_at latest c.args.lock c.args.lock (Some step.last) None refl low;
      others = λ l other. get_or-set_other latest c.args.lock l (Some step.last) None other;
    }
