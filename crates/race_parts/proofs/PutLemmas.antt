-- A part more.
use Rattle.std.proofs.Common.{◌≡◌, ℕ, true, false, cond, List, Vec, Option, Some, None, refl, sym, ap, ◌∙◌, inl, inr}
use Rattle.std.specs.declared.alloc.Global.{Global}
use Rattle.std.specs.declared.cmp.Ordering.{Ordering}
use Rattle.std.specs.declared.cmp.Ordering.TheVariants.{Less, Equal, Greater}
use Rattle.std.specs.Ordering.{is_eq}
use Rattle.std.specs.Option.{option_map, option_or}
use Rattle.std.specs.BTreeMap.{BTreeMap, Updates, get, get_by, is_at}
use Rattle.std.specs.Cmp.Lexicographic.{nat_list_cmp_total}
use Rattle.std.proofs.lemmas.Cmp.{tied_itself}
use Rattle.std.proofs.lemmas.Map.Lookups.{exact_bytes}
use Rattle.std.proofs.lemmas.Bool.{cases_Bool, true≢false, false≢true}
use Rattle.race_parts.specs.Parts.{bytes_cmp, held_at, held_from, joined, name_cmp, single, text_at}
use Rattle.race_parts.specs.declared.parts.Part.{Part}
use Rattle.race_parts.proofs.UnionLemmas.{joined-none, or-none}

equal_is : (r : Ordering) → is_eq r ≡ true → r ≡ Equal
equal_is Less h = absurd (false≢true h)
equal_is Equal h = refl
equal_is Greater h = absurd (false≢true h)

same_bytes : (xs ys : List ℕ) → is_at (bytes_cmp xs) ys ≡ true → xs ≡ ys
same_bytes xs ys h = exact_bytes xs ys (equal_is (bytes_cmp xs ys) h)

pub at_itself : (xs : List ℕ) → is_at (bytes_cmp xs) xs ≡ true
at_itself xs = ap is_eq (tied_itself nat_list_cmp_total xs)

single-here : (name text q : List ℕ) → is_at (bytes_cmp q) name ≡ true → single name text q ≡ Some text
single-here name text q here = ap (λ b. cond b (Some text) None) here

single-other : (name text q : List ℕ) → is_at (bytes_cmp q) name ≡ false → single name text q ≡ None
single-other name text q other = ap (λ b. cond b (Some text) None) other

abbrev text_of : Option Part → Option (List ℕ)
text_of o = option_map (λ p. p.text.items) o

-- a look-up depends on the bytes of a name alone
text_at-same : (m : BTreeMap (Vec ℕ Global) Part) (q k : Vec ℕ Global) → q.items ≡ k.items → text_at m q ≡ text_at m k
text_at-same m q k same = ap (λ (bytes : List ℕ). option_map (λ p. p.text.items) (get_by (λ e. bytes_cmp bytes e.items) m)) same

abbrev held_of : Option Part → Option (List ℕ × ℕ)
held_of o = option_map (λ p. (p.text.items, p.file)) o

held_at-same : (m : BTreeMap (Vec ℕ Global) Part) (q k : Vec ℕ Global) → q.items ≡ k.items → held_at m q ≡ held_at m k
held_at-same m q k same = ap (λ (bytes : List ℕ). held_of (get_by (λ e. bytes_cmp bytes e.items) m)) same

-- the test fails both ways
at_back : (k q : List ℕ) → is_at (bytes_cmp k) q ≡ false → is_at (bytes_cmp q) k ≡ false
at_back k q other =
    elim (cases_Bool (is_at (bytes_cmp q) k)) [
      | inr fails ↦ fails
      | inl passes ↦ absurd (true≢false (sym (ap (λ (b : List ℕ). is_at (bytes_cmp k) b) (same_bytes q k passes) ∙ at_itself k) ∙ other))
    ]

-- the text is there
pub kept : (m : BTreeMap (Vec ℕ Global) Part) (k : Vec ℕ Global) (text : List ℕ) → text_at m k ≡ Some text → (q : Vec ℕ Global) → text_at m q ≡ joined (text_at m q) (single k.items text q.items)
kept m k text found q =
    elim (cases_Bool (is_at (bytes_cmp q.items) k.items)) [
      | inl here ↦
          let there : text_at m q ≡ Some text = text_at-same m q k (same_bytes q.items k.items here) ∙ found in
          there ∙ sym (ap (λ o. joined o (single k.items text q.items)) there)
      | inr other ↦ sym (joined-none (text_at m q)) ∙ sym (ap (joined (text_at m q)) (single-other k.items text q.items other))
    ]

-- the part is new
pub added : (m n : BTreeMap (Vec ℕ Global) Part) (k : Vec ℕ Global) (p : Part) → text_at m k ≡ None → Updates name_cmp m n k (Some p)
    → (q : Vec ℕ Global) → text_at n q ≡ joined (text_at m q) (single k.items p.text.items q.items)
added m n k p none updates q =
    elim (cases_Bool (is_at (bytes_cmp k.items) q.items)) [
      | inl here ↦
          let same : k.items ≡ q.items = same_bytes k.items q.items here in
          let back : is_at (bytes_cmp q.items) k.items ≡ true = ap (λ (b : List ℕ). is_at (bytes_cmp b) k.items) (sym same) ∙ at_itself k.items in
          let written : text_at n q ≡ Some p.text.items = ap text_of (updates.0 q) ∙ ap (λ b. text_of (cond b (Some p) (get name_cmp m q))) here in
          let before : text_at m q ≡ None = text_at-same m q k (sym same) ∙ none in
          written ∙ sym (ap (λ o. joined o (single k.items p.text.items q.items)) before ∙ single-here k.items p.text.items q.items back)
      | inr other ↦
          let back : is_at (bytes_cmp q.items) k.items ≡ false = at_back k.items q.items other in
          ap text_of (updates.0 q) ∙ ap (λ b. text_of (cond b (Some p) (get name_cmp m q))) other
          ∙ sym (joined-none (text_at m q)) ∙ sym (ap (joined (text_at m q)) (single-other k.items p.text.items q.items back))
    ]

-- the same of parts with the numbers of their files
pub held_kept : (m : BTreeMap (Vec ℕ Global) Part) (k : Vec ℕ Global) (text : List ℕ) (file : ℕ) (s : List ℕ × ℕ) → held_at m k ≡ Some s → (q : Vec ℕ Global)
    → held_at m q ≡ option_or (held_at m q) (held_from file (single k.items text q.items))
held_kept m k text file s found q =
    elim (cases_Bool (is_at (bytes_cmp q.items) k.items)) [
      | inl here ↦
          let there : held_at m q ≡ Some s = held_at-same m q k (same_bytes q.items k.items here) ∙ found in
          there ∙ sym (ap (λ o. option_or o (held_from file (single k.items text q.items))) there)
      | inr other ↦ sym (or-none (held_at m q)) ∙ sym (ap (λ o. option_or (held_at m q) (held_from file o)) (single-other k.items text q.items other))
    ]

pub held_added : (m n : BTreeMap (Vec ℕ Global) Part) (k : Vec ℕ Global) (p : Part) → held_at m k ≡ None → Updates name_cmp m n k (Some p)
    → (q : Vec ℕ Global) → held_at n q ≡ option_or (held_at m q) (held_from p.file (single k.items p.text.items q.items))
held_added m n k p none updates q =
    elim (cases_Bool (is_at (bytes_cmp k.items) q.items)) [
      | inl here ↦
          let same : k.items ≡ q.items = same_bytes k.items q.items here in
          let back : is_at (bytes_cmp q.items) k.items ≡ true = ap (λ (b : List ℕ). is_at (bytes_cmp b) k.items) (sym same) ∙ at_itself k.items in
          let written : held_at n q ≡ Some (p.text.items, p.file) = ap held_of (updates.0 q) ∙ ap (λ b. held_of (cond b (Some p) (get name_cmp m q))) here in
          let before : held_at m q ≡ None = held_at-same m q k (sym same) ∙ none in
          written ∙ sym (ap (λ o. option_or o (held_from p.file (single k.items p.text.items q.items))) before ∙ ap (held_from p.file) (single-here k.items p.text.items q.items back))
      | inr other ↦
          let back : is_at (bytes_cmp q.items) k.items ≡ false = at_back k.items q.items other in
          ap held_of (updates.0 q) ∙ ap (λ b. held_of (cond b (Some p) (get name_cmp m q))) other
          ∙ sym (or-none (held_at m q)) ∙ sym (ap (λ o. option_or (held_at m q) (held_from p.file o)) (single-other k.items p.text.items q.items back))
    ]

-- the text that is put is there
pub kept_there : (m : BTreeMap (Vec ℕ Global) Part) (k : Vec ℕ Global) (text : List ℕ) → text_at m k ≡ Some text
    → (key : Vec ℕ Global) → key.items ≡ k.items → text_at m key ≡ Some text
kept_there m k text found key same = text_at-same m key k same ∙ found

pub added_there : (m n : BTreeMap (Vec ℕ Global) Part) (k : Vec ℕ Global) (p : Part) → Updates name_cmp m n k (Some p)
    → (key : Vec ℕ Global) → key.items ≡ k.items → text_at n key ≡ Some p.text.items
added_there m n k p updates key same =
    let here : is_at (bytes_cmp k.items) key.items ≡ true = ap (λ (b : List ℕ). is_at (bytes_cmp k.items) b) same ∙ at_itself k.items in
    ap text_of (updates.0 key) ∙ ap (λ b. text_of (cond b (Some p) (get name_cmp m key))) here
