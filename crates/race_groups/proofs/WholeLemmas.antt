-- What the classes of a variable add up to for a later event: all its pairs with events before the fronts.
use Rattle.std.proofs.Common.{◌≡◌, ℕ, ◌<◌, ◌==◌, nat_lt, Bool, true, false, not, ◌&&◌, cond, List, length, sum_by, slice_index, All, Option, Some, None, refl, sym, ap, ◌∙◌, inl, inr, arith}
use Rattle.std.specs.Bool.{if◌then◌else◌}
use Rattle.std.specs.List.{slice_get}
use Rattle.std.specs.Option.{unwrap_or, option_map}
use Rattle.std.proofs.lemmas.Bool.{cases_eq, eq-eqb, ne_eqb, eqb-true, le-ltb, or_cases, and_parts, or_left, or_right, true≢false}
use Rattle.std.proofs.lemmas.Option.{slice_get-get_or}
use Rattle.std.proofs.lemmas.List.Elements.{All-get_or, All-filter}
use Rattle.std.proofs.Common.{get_or}
use Rattle.rapid_text.specs.Operations.{is_read, is_write}
use Rattle.rapid_text.specs.declared.event.Event.{Event}
use Rattle.rapid_text.specs.declared.event.Op.{Op}
use Rattle.rapid_text.specs.declared.event.Op.TheVariants.{Read, Write}
use Rattle.rapid_text.specs.Recording.{Recording, IsWellFormed}
use Rattle.event_index.specs.Events.{passes_by}
use Rattle.event_index.specs.Lookups.{before, place_of}
use Rattle.event_index.specs.Relations.{is_access, is_clash_of_ops}
use Rattle.race_groups.specs.Groups.{is_between}
use Rattle.race_groups.specs.Cuts.{is_under}
use Rattle.race_groups.specs.Classes.{accesses, members_of, adds_to}
use Rattle.race_groups.specs.Counting.{AreCounts, AreFronts, pair_count}
use Rattle.race_groups.specs.declared.class.Class.{Class}
use Rattle.race_groups.proofs.SumLemmas.{sum_by_each, sum_by_zero, sum_by_below, sum_by_at, sum_by_if, sum_by_turned, sum_by-filter}
use Rattle.race_groups.proofs.ThreadLemmas.{All-before, thread_number, thread_number_within, some_event, sum_by_fronts}
use Rattle.race_groups.proofs.WalkLemmas.{share_of}

false_no : {A : Type 0} → false ≡ true → A
false_no e = absurd (true≢false (sym e))

-- an operation accesses one variable
access_one : (k : Op) (x z : ℕ) → is_access x k ≡ true → is_access z k ≡ true → x ≡ z
access_one (Read y) x z h i =
    elim (or_cases (y == x) false h) [
      | inl e ↦ elim (or_cases (y == z) false i) [ inl f ↦ sym (eqb-true y x e) ∙ eqb-true y z f | inr f ↦ false_no f ]
      | inr e ↦ false_no e
    ]
access_one (Write y) x z h i = sym (eqb-true y x h) ∙ eqb-true y z i
access_one k x z h i = false_no h

clash_access : (o k : Op) (x : ℕ) → is_clash_of_ops o k ≡ true → is_access x k ≡ true → is_access x o ≡ true
clash_access (Read z) k x h i =
    let one : x ≡ z = access_one k x z i (or_right (is_read z k) (is_write z k) h) in
    or_left (z == x) false (eq-eqb z x (sym one))
clash_access (Write z) k x h i =
    let one : x ≡ z = access_one k x z i h in
    eq-eqb z x (sym one)
clash_access o k x h i = false_no h

clash_accesses : (o k : Op) → is_clash_of_ops o k ≡ true → (x : ℕ) × (is_access x k ≡ true)
clash_accesses (Read z) k h = (z, or_right (is_read z k) (is_write z k) h)
clash_accesses (Write z) k h = (z, h)
clash_accesses o k h = false_no h

module _ (keeps : Class → Class → Bool) (p q : ℕ) (j : Class) where
  adds_access : (o : Option Class) (x : ℕ) → is_access x j.op ≡ true → adds_to keeps p q j o ≡ true → accesses x o ≡ true
  adds_access None x h e = false_no e
  adds_access (Some i) x h e =
      clash_access i.op j.op x (and_parts (is_clash_of_ops i.op j.op) (keeps i j) (and_parts (is_clash_of_ops i.op j.op && keeps i j) (is_between p q i.place j.place) e).0).0 h

  -- what is added is of a member
  member_only : (a d : Bool) (n : ℕ) → (d ≡ true → a ≡ true) → cond a (if d then n else 0) 0 ≡ (if d then n else 0)
  member_only true d n h = refl
  member_only false true n h = false_no (h refl)
  member_only false false n h = refl

  pub members_all : (infos : List Class) (counts : ℕ → ℕ) (x : ℕ) → is_access x j.op ≡ true
      → sum_by (share_of keeps p q j infos counts) (members_of infos x) ≡ sum_by (share_of keeps p q j infos counts) (before (length infos))
  members_all infos counts x h =
      sum_by-filter (share_of keeps p q j infos counts) (λ c. accesses x (slice_get infos c)) (before (length infos))
      ∙ sum_by_each (λ c. cond (accesses x (slice_get infos c)) (share_of keeps p q j infos counts c) 0) (share_of keeps p q j infos counts) (before (length infos))
      (λ c. member_only (accesses x (slice_get infos c)) (adds_to keeps p q j (slice_get infos c)) (counts c) (adds_access (slice_get infos c) x h))

  -- a class that accesses nothing adds nothing
  none_shared : (b : Bool) (n : ℕ) → (b ≡ true → ⊥) → (if b then n else 0) ≡ 0
  none_shared true n h = absurd (h refl)
  none_shared false n h = refl

  pub none_added : (o : Option Class) → ((x : ℕ) → is_access x j.op ≡ false) → adds_to keeps p q j o ≡ true → ⊥
  none_added None h e = false_no e
  none_added (Some i) h e =
      let found = clash_accesses i.op j.op (and_parts (is_clash_of_ops i.op j.op) (keeps i j) (and_parts (is_clash_of_ops i.op j.op && keeps i j) (is_between p q i.place j.place) e).0).0 in
      true≢false (sym found.1 ∙ h found.0)

  pub members_none : (infos : List Class) (counts : ℕ → ℕ) → ((x : ℕ) → is_access x j.op ≡ false)
      → sum_by (share_of keeps p q j infos counts) (before (length infos)) ≡ 0
  members_none infos counts h =
      sum_by_each (share_of keeps p q j infos counts) (λ c. 0) (before (length infos)) (λ c. none_shared (adds_to keeps p q j (slice_get infos c)) (counts c) (none_added (slice_get infos c) h))
      ∙ sum_by_zero (before (length infos))

-- the members are classes
pub members_within : (infos : List Class) (x : ℕ) → All (λ c. c < length infos) (members_of infos x)
members_within infos x = All-filter (λ c. accesses x (slice_get infos c)) (λ c. c < length infos) (before (length infos)) (All-before (λ c. c < length infos) (length infos) (λ c lt. lt))

-- the conditions in another order
shuffled : (u s d : Bool) (n : ℕ) → cond d (cond u (cond s n 0) 0) 0 ≡ cond s (cond (u && d) n 0) 0
shuffled true true true n = refl
shuffled true true false n = refl
shuffled true false true n = refl
shuffled true false false n = refl
shuffled false true true n = refl
shuffled false true false n = refl
shuffled false false true n = refl
shuffled false false false n = refl

module _ (r : Recording) (formed : IsWellFormed r) where
  pub under_is : (u : ℕ) (ends : ℕ → ℕ) (e : ℕ) → e < length r.events
      → is_under r.events u ends e ≡ (not (thread_number r.events e == u) && nat_lt (place_of r.events e) (ends (thread_number r.events e)))
  under_is u ends e lt =
      let v = get_or r.events e some_event in
      let at = slice_get-get_or r.events e some_event lt in
      ap (passes_by (λ (v : Event). not (v.thread == u) && nat_lt (place_of r.events e) (ends v.thread))) at
      ∙ ap (λ n. not (n == u) && nat_lt (place_of r.events e) (ends n)) (sym (ap (λ o. unwrap_or (option_map (λ (v : Event). v.thread) o) 0) at))

  -- the fronts are the ends but for the thread itself
  pub front_is : (u threads : ℕ) (ends : ℕ → ℕ) (fronts : List ℕ) (place t : ℕ) → t < threads → AreFronts threads u ends fronts
      → nat_lt place (slice_index fronts t) ≡ (not (t == u) && nat_lt place (ends t))
  front_is u threads ends fronts place t lt are =
      elim (cases_eq t u) [
        | inl e ↦
            let none : slice_index fronts t ≡ 0 = ap (slice_index fronts) e ∙ are.1 in
            le-ltb place (slice_index fronts t) (omega (arith, none)) ∙ sym (ap (λ b. not b && nat_lt place (ends t)) (eq-eqb t u e))
        | inr ne ↦
            ap (nat_lt place) (are.0 t lt ne) ∙ sym (ap (λ b. not b && nat_lt place (ends t)) (ne_eqb t u ne))
      ]

  module _ (keeps : Class → Class → Bool) (p q : ℕ) (j : Class) (classes fronts counts : List ℕ) (infos : List Class) where
    pub share_whole : (u : ℕ) (ends : ℕ → ℕ) → length classes ≡ length r.events → All (λ c. c < length infos) classes → length counts ≡ length infos
        → AreCounts r.events (length r.threads) classes fronts counts → AreFronts (length r.threads) u ends fronts
        → sum_by (share_of keeps p q j infos (slice_index counts)) (before (length infos)) ≡ pair_count r.events keeps classes infos u ends j p q
    share_whole u ends len within size are fronted =
        let T = r.events in
        let D : ℕ → Bool = λ c. adds_to keeps p q j (slice_get infos c) in
        let S : ℕ → ℕ → Bool = λ e c. slice_index classes e == c in
        let F : ℕ → Bool = λ e. nat_lt (place_of T e) (slice_index fronts (thread_number T e)) in
        let term : ℕ → ℕ → ℕ = λ c e. cond (D c) (cond (F e) (cond (S e c) 1 0) 0) 0 in
        sum_by_below (share_of keeps p q j infos (slice_index counts)) (λ c. sum_by (term c) (before (length T))) (length infos)
        (λ c lt.
        let counted : slice_index counts c ≡ sum_by (λ e. cond (F e) (cond (S e c) 1 0) 0) (before (length T)) =
        are.counted c (omega (arith, size)) ∙ sum_by_fronts r formed (λ e. cond (S e c) 1 0) (slice_index fronts) are.within
        in ap (λ n. cond (D c) n 0) counted ∙ sum_by_if (D c) (λ e. cond (F e) (cond (S e c) 1 0) 0) (before (length T)))
        ∙ sum_by_turned term (before (length infos)) (before (length T))
        ∙ sum_by_below (λ e. sum_by (λ c. term c e) (before (length infos))) (λ a. cond (is_under T u ends a && D (slice_index classes a)) 1 0) (length T)
        (λ e lt.
        let here : slice_index classes e < length infos = All-get_or (λ c. c < length infos) classes e 0 (omega (arith, len)) within in
        sum_by_each (λ c. term c e) (λ c. cond (S e c) (cond (F e && D c) 1 0) 0) (before (length infos)) (λ c. shuffled (F e) (S e c) (D c) 1)
        ∙ sum_by_at (slice_index classes e) (λ c. cond (F e && D c) 1 0) (length infos) here
        ∙ ap (λ b. cond (b && D (slice_index classes e)) 1 0) (front_is u (length r.threads) ends fronts (place_of T e) (thread_number T e) (thread_number_within r formed e lt) fronted ∙ sym (under_is u ends e lt)))
