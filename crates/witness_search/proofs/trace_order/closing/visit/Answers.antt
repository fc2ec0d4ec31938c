use Rattle.std.proofs.Common.{◌≡◌, ℕ, Option, Some, IfSome, get_or, refl, subst, inl, inr}
use Rattle.rapid_text.specs.declared.event.Op.TheVariants.{Acquire}
use Rattle.event_index.specs.Events.{op_at}
use Rattle.witness_search.proofs.trace_order.TakeLemmas.{Takes-sought}
use Rattle.witness_search.proofs.trace_order.closing.visit.Goals as goal

pub returns-in-Some-clause-visit : goal.returns-in-Some-clause-visit
returns-in-Some-clause-visit c =
    let T = c.args.indexed.now.events in
    let e = c.args.event in
    record {
      middle = λ t. get_or c.take_in-2.new.row.items t 0;
      sought = Takes-sought T e c.base.result c.source_at.result (λ t. get_or c.args.row.now.items t 0) (λ t. get_or c.take_in.new.row.items t 0) (λ t. get_or c.take_in-2.new.row.items t 0)
          c.base.ensures.base c.source_at.ensures.source c.take_in.ensures.takes c.take_in-2.ensures.takes;
      rest = inl (c.in-Some.lock, subst (λ (o : Option ℕ). IfSome o (λ l. op_at T e ≡ Some (Acquire l))) c.in-Some.is c.lock_of.ensures.acquires, c.visit_acquire.ensures.visit);
    }

pub returns-in_default-clause-visit : goal.returns-in_default-clause-visit
returns-in_default-clause-visit c =
    let T = c.args.indexed.now.events in
    let e = c.args.event in
    record {
      middle = λ t. get_or c.take_in-2.new.row.items t 0;
      sought = Takes-sought T e c.base.result c.source_at.result (λ t. get_or c.args.row.now.items t 0) (λ t. get_or c.take_in.new.row.items t 0) (λ t. get_or c.take_in-2.new.row.items t 0)
          c.base.ensures.base c.source_at.ensures.source c.take_in.ensures.takes c.take_in-2.ensures.takes;
      rest = inr (c.in_default.ensures.none refl, λ t. refl, λ l. refl);
    }
