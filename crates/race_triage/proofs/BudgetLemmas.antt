-- The rows of all pairs of places are the same, whichever call counts them, and so is how many steps their tries share.
use Rattle.std.proofs.Common.{◌≡◌, ◌≢◌, ℕ, ◌≤◌, ◌↔◌, Bool, true, cond, IsTrue, List, [], ◌∷◌, All, AllPairs, Contains, filter, count_by, get_or, refl, sym, ap, ◌∙◌, subst, arith, inl, inr}
use Rattle.std.proofs.lemmas.Bool.{cases_Bool, true≢false}
use Rattle.std.proofs.lemmas.List.Elements.{All-contains, All-contains_itself, All-head, All-tail, All-weaker, filter_passes}
use Rattle.std.proofs.lemmas.List.Kept.{AllPairs-filter}
use Rattle.std.proofs.lemmas.List.Sums.{length-filter, sum_by-cons}
use Rattle.std.proofs.lemmas.Option.{slice_get-get_or, slice_get_within, get_or_from_slice_get}
use Rattle.rapid_text.specs.Recording.{Recording}
use Rattle.must_order.specs.Kinds.{IsKind}
use Rattle.must_order.specs.declared.kind.Kind.{Kind}
use Rattle.must_order.specs.declared.kind.Kind.TheVariants.{Candidate as CandidateKind, Open as OpenKind, Guarded as GuardedKind, Forced as ForcedKind}
use Rattle.explain_report.specs.findings.Findings.{search_limit}
use Rattle.race_groups.specs.Found.{AreComplete, AreOnce, HaveConflict}
use Rattle.race_groups.specs.Groups.{group_of, IsCountOf}
use Rattle.race_groups.specs.Kinds.{IsRow, IsRowAt}
use Rattle.race_groups.specs.declared.kinds.Counts.{Counts}
use Rattle.race_groups.specs.declared.kinds.Row.{Row}
use Rattle.race_groups.proofs.RowLemmas.{between_one}
use Rattle.race_triage.specs.Verdicts.{IsBudget, budget_for, has_tries}
use Rattle.race_triage.proofs.ListLemmas.{from_filter, into_filter}
use Rattle.race_triage.proofs.OnceLemmas.{distinct-le}

-- two counts of one property are one
same_tests : {X : Type 0} (P : X → Type 0) (f g : X → Bool) (xs : List X) → All (λ (x : X). IsTrue (f x) ↔ P x) xs → All (λ (x : X). IsTrue (g x) ↔ P x) xs → count_by f xs ≡ count_by g xs
same_tests P f g [] one other = refl
same_tests P f g (x ∷ xs) one other =
    let rest = same_tests P f g xs (All-tail (λ y. IsTrue (f y) ↔ P y) x xs one) (All-tail (λ y. IsTrue (g y) ↔ P y) x xs other) in
    let a = All-head (λ y. IsTrue (f y) ↔ P y) x xs one in
    let b = All-head (λ y. IsTrue (g y) ↔ P y) x xs other in
    let here : f x ≡ g x =
    elim (cases_Bool (f x)) [
      | inl is ↦ is ∙ sym (b.1 (a.0 is))
      | inr not_so ↦ elim (cases_Bool (g x)) [
        | inl is ↦ absurd (true≢false (sym (a.1 (b.0 is)) ∙ not_so))
        | inr also ↦ not_so ∙ sym also
      ]
    ]
    in
    let c1 = sum_by-cons (λ y. cond (f y) 1 0) x xs in
    let c2 = sum_by-cons (λ y. cond (g y) 1 0) x xs in
    let same : ◌≡◌ {A = ℕ} (cond (f x) 1 0) (cond (g x) 1 0) = ap (λ (t : Bool). cond t 1 0) here in
    omega (arith, rest, c1, c2, same)

pub IsCountOf-unique : {X : Type 0} (P : X → Type 0) (xs : List X) (n m : ℕ) → IsCountOf P xs n → IsCountOf P xs m → n ≡ m
IsCountOf-unique P xs n m one other = one.count ∙ same_tests P one.test other.test xs one.tells other.tells ∙ sym other.count

abbrev pub counts_of : ℕ → ℕ → ℕ → ℕ → Counts
counts_of c o g f = record { candidates = c; open_pairs = o; guarded = g; forced = f }

pub counts_same : (r : Recording) (place : ℕ → ℕ) (places : ℕ × ℕ) (c d : Counts) → IsRowAt r place places c → IsRowAt r place places d → c ≡ d
counts_same r place places c d one other =
    let group = group_of r.events place places.0 places.1 in
    let each : (k : Kind) (n m : ℕ) → IsCountOf (λ e. IsKind r e.0 e.1 k) group n → IsCountOf (λ e. IsKind r e.0 e.1 k) group m → n ≡ m =
    λ k n m a b. IsCountOf-unique (λ e. IsKind r e.0 e.1 k) group n m a b
    in
    ap (λ n. counts_of n c.open_pairs c.guarded c.forced) (each CandidateKind c.candidates d.candidates one.candidates other.candidates)
    ∙ ap (λ n. counts_of d.candidates n c.guarded c.forced) (each OpenKind c.open_pairs d.open_pairs one.open_pairs other.open_pairs)
    ∙ ap (λ n. counts_of d.candidates d.open_pairs n c.forced) (each GuardedKind c.guarded d.guarded one.guarded other.guarded)
    ∙ ap (λ n. counts_of d.candidates d.open_pairs d.guarded n) (each ForcedKind c.forced d.forced one.forced other.forced)

abbrev pub row_of : ℕ × ℕ → Counts → Row
row_of p c = record { places = p; counts = c }

-- right rows of the same places are one
row_same : (r : Recording) (place : ℕ → ℕ) (v w : Row) → IsRow r place v → IsRow r place w → v.places ≡ w.places → v ≡ w
row_same r place v w is also same =
    let counts : v.counts ≡ w.counts = counts_same r place w.places v.counts w.counts (subst (λ (p : ℕ × ℕ). IsRowAt r place p v.counts) same is) also in
    ap (λ (p : ℕ × ℕ). row_of p v.counts) same ∙ ap (λ (c : Counts). row_of w.places c) counts

-- no two rows of a list are one
rows_apart : (rows : List Row) → AreOnce rows → AllPairs (λ (v w : Row). v ≢ w) rows
rows_apart rows once i j d lt le same =
    let v = slice_get-get_or rows i d (omega (arith, lt, le)) in
    let w = slice_get-get_or rows j d le in
    let one = once i j (get_or rows i d) (get_or rows j d) v w (ap (λ (row : Row). row.places) same) in
    omega (arith, one, lt)

-- Each row of the one list stands in the other.
module _ (r : Recording) (place : ℕ → ℕ) (xs ys : List Row) (are : All (IsRow r place) xs) (also : All (IsRow r place) ys)
    (there : All (λ (row : Row). HaveConflict r.events place row.places) xs) (once : AreOnce xs) (complete : AreComplete r.events place ys) where
  in_other : (v : Row) → Contains xs v → Contains ys v
  in_other v stands =
      let c : HaveConflict r.events place v.places = All-contains (λ (row : Row). HaveConflict r.events place row.places) xs v there stands in
      let is : IsRow r place v = All-contains (IsRow r place) xs v are stands in
      let found = complete c.first c.second c.earlier c.conflict in
      let w : Row = found.row in
      let here : Contains ys w = (found.at, slice_get_within ys found.at w found.is, get_or_from_slice_get ys found.at w w found.is) in
      let its : IsRow r place w = All-contains (IsRow r place) ys w also here in
      let both = between_one v.places.0 v.places.1 w.places.0 w.places.1 (place c.first) (place c.second) is.rising its.rising c.between found.between in
      let places : v.places ≡ w.places = ap (λ x. (x, v.places.1)) both.0 ∙ ap (λ y. (w.places.0, y)) both.1 in
      subst (Contains ys) (sym (row_same r place v w is its places)) here

  pub no_more : count_by has_tries xs ≤ count_by has_tries ys
  no_more =
      let kept = filter has_tries xs in
      let le = distinct-le (λ (v : Row). v) kept (filter has_tries ys) (AllPairs-filter (λ (v w : Row). v ≢ w) has_tries xs (rows_apart xs once))
      (All-weaker (λ (v : Row). Contains kept v) (λ (v : Row). Contains (filter has_tries ys) v)
      (λ v stands.
      into_filter has_tries ys v (in_other v (from_filter has_tries xs v stands))
      (All-contains (λ (w : Row). has_tries w ≡ true) kept v (filter_passes has_tries xs) stands))
      kept (All-contains_itself kept)) in
      omega (arith, le, length-filter has_tries xs, length-filter has_tries ys)

pub IsBudget-unique : (r : Recording) (place : ℕ → ℕ) (m n : ℕ) → IsBudget r place m → IsBudget r place n → m ≡ n
IsBudget-unique r place m n one other =
    let up = no_more r place one.rows other.rows one.are other.are one.there one.once other.complete in
    let down = no_more r place other.rows one.rows other.are one.are other.there other.once one.complete in
    let same : count_by has_tries one.rows ≡ count_by has_tries other.rows = omega (arith, up, down) in
    one.is ∙ ap budget_for same ∙ sym other.is

pub budget_few : (r : Recording) (place : ℕ → ℕ) (budget : ℕ) → IsBudget r place budget → budget ≤ search_limit
budget_few r place budget shared = omega (arith, shared.is)
