-- Names with their texts, put together.
use Rattle.std.proofs.Common.{◌≡◌, ℕ, cond, List, [], ◌∷◌, ◌++◌, append_assoc, Option, Some, None, refl, sym, ap, ◌∙◌, inl, inr}
use Rattle.std.specs.BTreeMap.{is_at}
use Rattle.std.specs.Option.{option_or}
use Rattle.std.specs.Cmp.Lexicographic.{nat_list_cmp_total}
use Rattle.std.proofs.lemmas.Map.Lookups.{exact_bytes, btree_map_from_get}
use Rattle.std.proofs.lemmas.Bool.{cases_Bool}
use Rattle.race_parts.specs.Parts.{bytes_cmp, held_from, joined, told_in}
use Rattle.race_parts.specs.Laws.{MergingIsAUnion}

pub joined-none : (o : Option (List ℕ)) → joined o None ≡ o
joined-none None = refl
joined-none (Some s) = refl

pub joined-assoc : (o p r : Option (List ℕ)) → joined (joined o p) r ≡ joined o (joined p r)
joined-assoc None p r = refl
joined-assoc (Some s) p r = refl

pub or-none : {X : Type 0} (o : Option X) → option_or o None ≡ o
or-none None = refl
or-none (Some x) = refl

pub or-assoc : {X : Type 0} (o p r : Option X) → option_or (option_or o p) r ≡ option_or o (option_or p r)
or-assoc None p r = refl
or-assoc (Some x) p r = refl

pub held-joined : (file : ℕ) (o p : Option (List ℕ)) → held_from file (joined o p) ≡ option_or (held_from file o) (held_from file p)
held-joined file None p = refl
held-joined file (Some s) p = refl

joined-again : (o : Option (List ℕ)) → joined o o ≡ o
joined-again None = refl
joined-again (Some s) = refl

joined-alike : (o p : Option (List ℕ)) → ((s t : List ℕ) → o ≡ Some s → p ≡ Some t → s ≡ t) → joined o p ≡ joined p o
joined-alike None None alike = refl
joined-alike None (Some t) alike = refl
joined-alike (Some s) None alike = refl
joined-alike (Some s) (Some t) alike = ap Some (alike s t refl refl)

-- one name before others
pub told-cons : (e : List ℕ × List ℕ) (es : List (List ℕ × List ℕ)) (q : List ℕ) → told_in (e ∷ es) q ≡ joined (cond (is_at (bytes_cmp q) e.0) (Some e.1) None) (told_in es q)
told-cons e es q =
    elim (cases_Bool (is_at (bytes_cmp q) e.0)) [
      | inl here ↦ ap (λ b. cond b (Some e.1) (told_in es q)) here ∙ sym (ap (λ b. joined (cond b (Some e.1) None) (told_in es q)) here)
      | inr other ↦ ap (λ b. cond b (Some e.1) (told_in es q)) other ∙ sym (ap (λ b. joined (cond b (Some e.1) None) (told_in es q)) other)
    ]

pub told-append : (xs ys : List (List ℕ × List ℕ)) (q : List ℕ) → told_in (xs ++ ys) q ≡ joined (told_in xs q) (told_in ys q)
told-append [] ys q = refl
told-append (e ∷ es) ys q =
    told-cons e (es ++ ys) q
    ∙ ap (joined (cond (is_at (bytes_cmp q) e.0) (Some e.1) None)) (told-append es ys q)
    ∙ sym (joined-assoc (cond (is_at (bytes_cmp q) e.0) (Some e.1) None) (told_in es q) (told_in ys q))
    ∙ ap (λ o. joined o (told_in ys q)) (sym (told-cons e es q))

pub union_law : MergingIsAUnion
union_law = record {
  each = told-append;
  commutes = λ xs ys alike q. told-append xs ys q ∙ joined-alike (told_in xs q) (told_in ys q) (alike q) ∙ sym (told-append ys xs q);
  associates = λ xs ys zs q. ap (λ es. told_in es q) (append_assoc xs ys zs);
  again = λ xs q. told-append xs xs q ∙ joined-again (told_in xs q);
  one = λ m n first second same. btree_map_from_get nat_list_cmp_total m n first second same exact_bytes;
}
