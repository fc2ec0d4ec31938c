-- Lists that are numbered by their first uses.
use Rattle.std.proofs.Common.{◌≡◌, ℕ, List, [], ◌∷◌, ◌++◌, Vec, length, Some, position, get_or, sym, ap, ◌∙◌, arith}
use Rattle.std.specs.List.{slice_get}
use Rattle.std.specs.Option.{option_map}
use Rattle.std.specs.declared.alloc.Global.{Global}
use Rattle.std.specs.Cmp.Lexicographic.{pointwise, bytes_decides}
use Rattle.std.specs.Prelude.{nat_eq}
use Rattle.std.proofs.lemmas.List.Quantifiers.{position-Some}
use Rattle.std.proofs.lemmas.Option.{slice_get-get_or}
use Rattle.std.specs.Bool.{if◌then◌else◌}
use Rattle.std.proofs.Common.{Bool, true, false}
use Rattle.std.proofs.lemmas.List.{length-append}
use Rattle.race_groups.proofs.BuildLemmas.{length-cons, get_before}
use Rattle.race_groups.specs.Building.{IsGrown, text_at}

pub found_name : (keys : List (Vec ℕ Global)) (name : List ℕ) (i : ℕ) → position (λ v. pointwise nat_eq name v.items) keys ≡ Some i → text_at keys i ≡ Some name
found_name [] name i e = cc
found_name (k ∷ ks) name i e =
    let at = position-Some (λ v. pointwise nat_eq name v.items) (k ∷ ks) i k e in
    let key : Vec ℕ Global = get_or (k ∷ ks) i k in
    let same : name ≡ key.items = (bytes_decides name key.items).0 at.1 in
    ap (option_map (λ v. v.items)) (slice_get-get_or (k ∷ ks) i k at.0) ∙ ap Some (sym same)

pub IsGrown-same : {X : Type 0} (old new : List X) → new ≡ old → IsGrown old new
IsGrown-same old new is = record {
  kept = λ k x at. ap (λ xs. slice_get xs k) is ∙ at;
  le = omega (arith, ap length is);
  few = omega (arith, ap length is);
}

pub IsGrown-insert : (old new : List (Vec ℕ Global)) (k : Vec ℕ Global) (b : Bool) → new ≡ (if b then old else old ++ k ∷ []) → IsGrown old new
IsGrown-insert old new k true is = IsGrown-same old new is
IsGrown-insert old new k false is = record {
  kept = λ n x at. ap (λ xs. slice_get xs n) is ∙ get_before old k n x at;
  le = omega (arith, ap length is, length-append old (k ∷ []), length-cons k []);
  few = omega (arith, ap length is, length-append old (k ∷ []), length-cons k []);
}
