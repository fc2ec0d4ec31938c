-- From one variable to the next, and what is found at the end.
use Rattle.std.proofs.Common.{◌≡◌, ◌≢◌, ℕ, ◌+◌, ◌<◌, ◌≤◌, ◌⊎◌, ◌==◌, ◌↔◌, Bool, true, false, cond, IsTrue, IfSome, List, All, count_by, sum_by, slice_get, Option, Some, None, refl, sym, ap, ◌∙◌, subst, true≢false, arith, eq-eqb, inl, inr}
use Rattle.std.proofs.lemmas.Bool.{cases_Bool, cases_order, cond-true, cond-false, eqb-true}
use Rattle.std.proofs.lemmas.List.Elements.{All-get_or}
use Rattle.std.proofs.lemmas.List.FromFn.{length-range_with_len, get_or-range_with_len}
use Rattle.std.proofs.lemmas.List.Sums.{sum_by_push}
use Rattle.std.specs.List.{slice_index_or}
use Rattle.std.proofs.lemmas.Option.{same_Some}
use Rattle.rapid_text.specs.Recording.{Recording}
use Rattle.event_index.specs.Lookups.{before}
use Rattle.event_index.proofs.CallerLemmas.{before_more}
use Rattle.must_order.specs.Kinds.{IsKind}
use Rattle.must_order.specs.declared.kind.Kind.TheVariants.{Candidate as CandidateKind, Open as OpenKind}
use Rattle.race_groups.specs.Found.{AreOnce}
use Rattle.race_groups.specs.Groups.{IsCountOf}
use Rattle.race_groups.specs.Kinds.{IsRow}
use Rattle.race_groups.specs.declared.kinds.Row.{Row}
use Rattle.race_groups.proofs.SumLemmas.{sum_by_same, sum_by_zero}
use Rattle.race_groups.proofs.ThreadLemmas.{All-before}
use Rattle.race_groups.specs.least_pairs.Going.{AreAllTaken, AreSoFar}
use Rattle.race_groups.specs.least_pairs.Noting.{HasOwn, IsCounting}
use Rattle.race_groups.specs.least_pairs.Pairs.{AreAt, HasPair, IsPair}
use Rattle.race_groups.specs.declared.least_pairs.least.Least.{Least}
use Rattle.race_groups.proofs.least_pairs.BasicLemmas.{one_row}

-- what holds of all numbers below an end
pub all_below : (P : ℕ → Type 0) (n k : ℕ) → All P (before n) → k < n → P k
all_below P n k all lt =
    let size = length-range_with_len 0 n in
    let is : slice_index_or (before n) k k ≡ k = get_or-range_with_len 0 n k k lt ∙ omega arith in
    subst P is (All-get_or P (before n) k k (omega (arith, lt, size)) all)

abbrev one_if : Bool → ℕ
one_if t = cond t 1 0

-- one number more is counted, or is not
module _ (P : ℕ → Type 0) (x m : ℕ) (counted : IsCountOf P (before x) m) (b : Bool) (tells : IsTrue b ↔ P x) where
  abbrev more_test : ℕ → Bool
  more_test y = cond (y == x) b (counted.test y)

  test_here : more_test x ≡ b
  test_here = cond-true (x == x) b (counted.test x) (eq-eqb x x refl)

  test_below : (y : ℕ) → y < x → more_test y ≡ counted.test y
  test_below y lt = elim (cases_Bool (y == x)) [
    | inl same ↦ let is = eqb-true y x same in absurd (omega (arith, lt, is))
    | inr other ↦ cond-false (y == x) b (counted.test y) other
  ]

  tells_each : (y : ℕ) → y < x + 1 → IsTrue (more_test y) ↔ P y
  tells_each y lt = elim (cases_order y x) [
    | inl same ↦ subst (λ (k : ℕ). IsTrue (more_test k) ↔ P k) (sym same) (subst (λ (t : Bool). IsTrue t ↔ P x) (sym test_here) tells)
    | inr (inl below) ↦
        subst (λ (t : Bool). IsTrue t ↔ P y) (sym (test_below y below)) (all_below (λ k. IsTrue (counted.test k) ↔ P k) x y counted.tells below)
    | inr (inr above) ↦ absurd (omega (arith, lt, above))
  ]

  pub IsCountOf-more : (n : ℕ) → n ≡ m + cond b 1 0 → IsCountOf P (before (x + 1)) n
  IsCountOf-more n is =
      let f : ℕ → ℕ = λ y. cond (more_test y) 1 0 in
      let g : ℕ → ℕ = λ y. cond (counted.test y) 1 0 in
      let same : sum_by f (before x) ≡ sum_by g (before x) =
      sum_by_same f g (before x) (All-before (λ y. f y ≡ g y) x (λ y lt. ap (λ (t : Bool). one_if t) (test_below y lt)))
      in
      let whole : count_by more_test (before (x + 1)) ≡ count_by more_test (before x) + cond (more_test x) 1 0 =
      ap (count_by more_test) (before_more x) ∙ sum_by_push f (before x) x
      in
      let last : ◌≡◌ {A = ℕ} (cond (more_test x) 1 0) (cond b 1 0) = ap (λ (t : Bool). one_if t) test_here in
      record {
        test = more_test;
        tells = All-before (λ y. IsTrue (more_test y) ↔ P y) (x + 1) tells_each;
        count = let old = counted.count in omega (arith, is, old, same, whole, last);
      }

none_some : (n : ℕ) → ◌≢◌ {A = Option ℕ} None (Some n)
none_some n same = cc

pub next_last : (last : Option ℕ) (x : ℕ) → IfSome last (λ y. y ≤ x) → last ≢ Some (x + 1)
next_last None x reached = λ same. none_some (x + 1) same
next_last (Some y) x reached = λ same. let is = same_Some y (x + 1) same in omega (arith, is, reached)

later_last : (last : Option ℕ) (x : ℕ) → IfSome last (λ y. y ≤ x) → IfSome last (λ y. y ≤ x + 1)
later_last None x reached = reached
later_last (Some y) x reached = omega (arith, reached)

zero_last : (last : Option ℕ) (n : ℕ) → IfSome last (λ y. y ≤ 0) → last ≡ Some n → last ≡ Some 0
zero_last None n reached same = absurd (none_some n same)
zero_last (Some y) n reached same = ap Some (omega (arith, reached))

any_last : (last : Option ℕ) (n : ℕ) → IfSome last (λ y. y ≤ 0) → IfSome last (λ y. y ≤ n)
any_last None n reached = reached
any_last (Some y) n reached = omega (arith, reached)

-- where the variable, if it has what is counted, was counted, the next one is reached
next_counting : (Has : ℕ → Type 0) (x : ℕ) (l : Least) → (Has x → l.last ≡ Some x) → IsCounting Has x l.last l.variables → IsCounting Has (x + 1) l.last l.variables
next_counting Has x l was_counted c = record {
  below = l.variables;
  count = elim c.now [
    | inl counted ↦ let n = counted.2 in IsCountOf-more Has x c.below c.count true ((λ _. counted.1), λ _. refl) l.variables (omega (arith, n))
    | inr not_counted ↦
        let n = not_counted.1 in
        IsCountOf-more Has x c.below c.count false ((λ no_test. absurd (true≢false (sym no_test))), λ has. absurd (not_counted.0 (was_counted has))) l.variables
        (omega (arith, n))
  ];
  now = inr (next_last l.last x c.reached, refl);
  reached = later_last l.last x c.reached;
}

module _ (r : Recording) (place : ℕ → ℕ) (rows : List Row) (rows_are : All (IsRow r place) rows) (once : AreOnce rows) where
  module _ (most x : ℕ) (leasts : List Least) (taken : AreAllTaken r place rows most x leasts) (at : ℕ) (row : Row) (l : Least) (is : slice_get rows at ≡ Some row)
      (found : slice_get leasts at ≡ Some l) where
    -- where a pair of the variable is a candidate or open, the variable was counted
    was_counted : HasPair r place row.places x → l.last ≡ Some x
    was_counted has =
        let both : IsPair r.events has.first has.second × AreAt place row.places has.first has.second × (IsKind r has.first has.second CandidateKind ⊎ IsKind r has.first has.second OpenKind) =
        elim has.fit [ inl fit ↦ (fit.pair, fit.at, inl fit.kind) | inr fit ↦ (fit.pair, fit.at, inr fit.kind) ]
        in
        let h = (taken has.first has.second both.0 has.access).counted both.2 in
        let same = one_row r place rows rows_are once at h.at row h.row has.first has.second is h.row_is both.1 h.there in
        let one : h.found ≡ l = same_Some h.found l (sym h.found_is ∙ ap (slice_get leasts) same ∙ found) in
        sym (ap (λ (k : Least). k.last) one) ∙ h.last

  pub AreSoFar-next : (most : ℕ) (P : ℕ → Type 0) (x : ℕ) (leasts : List Least) → AreSoFar r place rows most P x leasts → AreAllTaken r place rows most x leasts
      → AreSoFar r place rows most P (x + 1) leasts
  AreSoFar-next most P x leasts far taken = record {
    len = far.len;
    each = λ at row l is found.
        let old = far.each at row l is found in
        record {
          candidate = old.candidate;
          each = old.each;
          tries = old.tries;
          variables = next_counting (HasOwn P r place row.places) x l (λ has. was_counted most x leasts taken at row l is found has.1) old.variables;
        };
  }

-- a variable without P is passed by
pub AreSoFar-skip : (r : Recording) (place : ℕ → ℕ) (rows : List Row) (most : ℕ) (P : ℕ → Type 0) (x : ℕ) (leasts : List Least) → ¬ P x
    → AreSoFar r place rows most P x leasts → AreSoFar r place rows most P (x + 1) leasts
AreSoFar-skip r place rows most P x leasts other far = record {
  len = far.len;
  each = λ at row l is found.
      let old = far.each at row l is found in
      record {
        candidate = old.candidate;
        each = old.each;
        tries = old.tries;
        variables = next_counting (HasOwn P r place row.places) x l (λ has. absurd (other has.0)) old.variables;
      };
}

-- where no pair is a candidate or open, no variable has one
pub no_variable : (r : Recording) (place : ℕ → ℕ) → ((a b : ℕ) → IsPair r.events a b → ¬ (IsKind r a b CandidateKind ⊎ IsKind r a b OpenKind))
    → (places : ℕ × ℕ) (y : ℕ) → ¬ HasPair r place places y
no_variable r place none places y has = elim has.fit [
  | inl fit ↦ none has.first has.second fit.pair (inl fit.kind)
  | inr fit ↦ none has.first has.second fit.pair (inr fit.kind)
]

-- where no variable with P has a pair, nothing is found of any of them
module _ (r : Recording) (place : ℕ → ℕ) (rows : List Row) (most : ℕ) (P : ℕ → Type 0) (leasts : List Least)
    (none : (places : ℕ × ℕ) (y : ℕ) → ¬ HasOwn P r place places y) where
  counting_none : (places : ℕ × ℕ) (n v : ℕ) (last : Option ℕ) → IsCounting (HasOwn P r place places) 0 last v → IsCounting (HasOwn P r place places) n last v
  counting_none places n v last c =
      elim c.now [
        | inl counted ↦ absurd (none places 0 counted.1)
        | inr done ↦
            let nothing : v ≡ 0 = done.1 ∙ c.count.count in
            record {
              below = v;
              count = record {
                test = λ y. false;
                tells = All-before (λ y. IsTrue false ↔ HasOwn P r place places y) n (λ y lt. ((λ no_test. absurd (true≢false (sym no_test))), λ has. absurd (none places y has)));
                count = nothing ∙ sym (sum_by_zero (before n));
              };
              now = inr ((λ same. done.0 (zero_last last n c.reached same)), refl);
              reached = any_last last n c.reached;
            }
      ]

  pub AreSoFar-none : (n : ℕ) → AreSoFar r place rows most P 0 leasts → AreSoFar r place rows most P n leasts
  AreSoFar-none n far = record {
    len = far.len;
    each = λ at row l is found.
        let old = far.each at row l is found in
        record {
          candidate = old.candidate;
          each = old.each;
          tries = old.tries;
          variables = counting_none row.places n l.variables l.last old.variables;
        };
  }
