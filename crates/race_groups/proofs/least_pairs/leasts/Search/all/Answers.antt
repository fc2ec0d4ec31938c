use Rattle.std.proofs.Common.{◌≡◌, ℕ, length, slice_index, ap, ◌∙◌, sym, subst, arith, inl, inr}
use Rattle.std.proofs.lemmas.Bool.{cases_order}
use Rattle.race_groups.specs.least_pairs.Going.{AreFoundBelow, AreHeldBelow, IsOwn}
use Rattle.race_groups.specs.least_pairs.Pairs.{is_access_at}
use Rattle.race_groups.proofs.least_pairs.TakenLemmas.{IsHeld-more}
use Rattle.race_groups.proofs.least_pairs.leasts.Search.all.Goals as goal

pub loop-variable-preserved : goal.loop-variable-preserved
loop-variable-preserved c =
    let s = c.args.self.now in
    let x = c.loop-variable.variable in
    let place = slice_index s.places.now in
    let rows = s.groups.now.rows.items in
    let new = c.in_turn.new.leasts in
    let done = c.in_ok-in_turn.ensures in (
      done.found,
      λ y a b lt own pair access.
          elim (cases_order y x) [
            | inl same ↦
                (done.taken (subst (IsOwn s) same own) a b pair (ap (λ (z : ℕ). is_access_at s.indexed.now.events z a) (sym same) ∙ access)).held
            | inr (inl below) ↦ IsHeld-more s.indexed.now place rows s.most x c.loop-variable.leasts new done.more a b (c.loop-variable.invariant.1 y a b below own pair access)
            | inr (inr above) ↦ absurd (omega (arith, lt, above))
          ],
      done.noted,
    )

pub returns : goal.returns
returns c =
    let s = c.args.self.now in
    let end : c.loop-variable.variable ≡ length s.indexed.now.variables =
    omega (arith, c.loop-variable-test.false, c.loop-variable.auto.variable-end, c.variables-variable-end.ensures.len)
    in
    record {
      so_far = subst (λ (n : ℕ). AreFoundBelow s n c.loop-variable.leasts) end c.loop-variable.invariant.0;
      held =
          subst
          (λ (n : ℕ). AreHeldBelow s.indexed.now (slice_index s.places.now) s.groups.now.rows.items s.most (IsOwn s) n c.loop-variable.leasts)
          end c.loop-variable.invariant.1;
    }
