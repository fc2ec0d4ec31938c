use Rattle.std.proofs.Common.{◌≡◌, ℕ, ◌<◌, List, Vec, Global, All, Contains, ◌∷◌, [], ◌++◌, Some, length, sym, ap, ◌∙◌, subst, arith, inl, inr}
use Rattle.std.specs.List.{slice_get}
use Rattle.std.proofs.lemmas.Bool.{cases_eq}
use Rattle.std.proofs.lemmas.List.{get_or_default}
use Rattle.std.proofs.lemmas.List.Elements.{All-push, Contains-push, Contains-append_left}
use Rattle.std.proofs.lemmas.Option.{slice_get_within, get_or_from_slice_get}
use Rattle.witness_search.specs.declared.trace_order.acquires.Lane.{Lane}
use Rattle.witness_search.proofs.trace_order.acquires.shared_of.Goals as goal
use Rattle.witness_search.proofs.trace_order.acquires.shared_of.Goals.{then-len-gt1+in_ok-push, else-len-gt1}

pub loop-lock-preserved : goal.loop-lock-preserved
loop-lock-preserved c =
    let by_lock = c.args.by_lock.now in
    let n = c.loop-lock.lock in
    let shared = c.loop-lock.shared.items in
    let inv = c.loop-lock.invariant in
    let read : (v : Vec Lane Global) → slice_get by_lock n ≡ Some v → c.index-by_lock-lock.result ≡ v = λ v at.
    c.index-by_lock-lock.is ∙ get_or_default by_lock n c.index-by_lock-lock.result v
    (slice_get_within by_lock n v at) ∙ get_or_from_slice_get by_lock n v v at in
    let low : n < length by_lock = omega (arith, c.loop-lock-test.true, c.requires.len) in
    elim c.if-len-gt1.branch [
      | then-len-gt1+in_ok-push w ↦
          let is : c.if-len-gt1.shared.items ≡ shared ++ n ∷ [] = ap (λ (v : Vec ℕ Global). v.items) w.shared-is ∙ w.in_ok-push.ensures.items in
          record {
            within = subst (All (λ k. k < length by_lock)) (sym is) (All-push (λ k. k < length by_lock) shared n inv.within low);
            all = λ k v lt at several.
                subst (λ (xs : List ℕ). Contains xs k) (sym is)
                (elim (cases_eq k n) [
                  | inl one ↦ subst (Contains (shared ++ n ∷ [])) (sym one) (Contains-push shared n)
                  | inr other ↦ Contains-append_left shared (n ∷ []) k (inv.all k v (omega (arith, lt, other)) at several)
                ]);
          }
      | else-len-gt1 w ↦
          let is : c.if-len-gt1.shared.items ≡ shared = ap (λ (v : Vec ℕ Global). v.items) w.shared-is in
          record {
            within = subst (All (λ k. k < length by_lock)) (sym is) inv.within;
            all = λ k v lt at several.
                subst (λ (xs : List ℕ). Contains xs k) (sym is)
                (elim (cases_eq k n) [
                  | inl one ↦
                      let same = read v (ap (slice_get by_lock) (sym one) ∙ at) in
                      absurd (omega (arith, several, ap (λ (x : Vec Lane Global). length x.items) same, c.len.ensures, w.if-len-gt1.false))
                  | inr other ↦ inv.all k v (omega (arith, lt, other)) at several
                ]);
          }
    ]

pub returns : goal.returns
returns c = record {
  within = c.loop-lock.invariant.within;
  all = λ l v at several.
      let low = slice_get_within c.args.by_lock.now l v at in
      c.loop-lock.invariant.all l v (omega (arith, low, c.requires.len, c.loop-lock-test.false)) at several;
}
