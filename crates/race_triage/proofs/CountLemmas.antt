-- What is counted by pairs of places is counted of the whole trace.
use Rattle.std.proofs.Common.{◌≡◌, ◌≢◌, ℕ, ◌+◌, ◌-◌, ◌^◌, ◌<◌, ◌≤◌, ◌↔◌, ◌||◌, min, Bool, true, false, cond, IsTrue, List, [], ◌∷◌, All, length, map, filter, count_by, sum_by, get_or, refl, sym, ap, ◌∙◌, subst, arith}
use Rattle.std.specs.Prelude.{⊤}
use Rattle.std.specs.List.{flat_map, list_any}
use Rattle.std.proofs.lemmas.Bool.{cond-true, cond-false, true≢false}
use Rattle.std.proofs.lemmas.List.{get_or-map, get_or_default, length-append, length-map}
use Rattle.std.proofs.lemmas.List.Elements.{All-cons, All-get_or, All-head, All-map, All-nil, All-tail, All-weaker}
use Rattle.std.proofs.lemmas.List.Folds.{Any-from_list_any, list_any-from_Any}
use Rattle.std.proofs.lemmas.Option.{slice_get_within}
use Rattle.std.proofs.lemmas.List.FromFn.{length-range_with_len}
use Rattle.std.proofs.lemmas.List.Sums.{count_by-le-length, length-filter, sum_by-cons, sum_by-le}
use Rattle.rapid_text.specs.Recording.{Recording, IsWellFormed}
use Rattle.rapid_text.specs.declared.event.Event.{Event}
use Rattle.trace_rules.specs.Rules.{IsDisciplined}
use Rattle.event_index.specs.Lookups.{before}
use Rattle.event_index.specs.Relations.{is_conflict}
use Rattle.shb_clocks.specs.Candidates.{IsCandidatePair}
use Rattle.must_order.specs.Kinds.{IsKind}
use Rattle.must_order.specs.MustBefore.{IsForced, IsGuarded, IsSharedBefore}
use Rattle.must_order.specs.declared.kind.Kind.{Kind}
use Rattle.must_order.specs.declared.kind.Kind.TheVariants.{Candidate, Open, Guarded, Forced}
use Rattle.race_groups.specs.Found.{HaveConflict}
use Rattle.race_groups.specs.Groups.{conflicts, group_of, is_between, pairs_below, IsCountOf}
use Rattle.race_groups.proofs.BuildLemmas.{length-cons}
use Rattle.race_groups.proofs.RowLemmas.{between_one}
use Rattle.race_groups.proofs.TellLemmas.{group_pairs, shared_by_none, IsPair as IsGroupPair}
use Rattle.race_groups.proofs.ThreadLemmas.{All-before}
use Rattle.race_triage.specs.Chosen.{is_of, is_same, part_of}
use Rattle.race_triage.specs.Pieces.{capped}
use Rattle.race_triage.specs.Texts.{all_in}
use Rattle.race_triage.specs.Totals.{ArePlacesOf, TotalsAreOfTheTrace}
use Rattle.race_triage.specs.Verdicts.{AreAllTold, AreOnceTold, IsVerdict}
use Rattle.race_triage.specs.declared.chosen.Part.TheVariants.{Races, Open as OpenPart, Never}
use Rattle.race_triage.specs.declared.verdicts.Outcome.{Outcome}
use Rattle.race_triage.specs.declared.verdicts.Outcome.TheVariants.{Race, Undecided, Apart}
use Rattle.race_triage.specs.declared.verdicts.Verdict.{Verdict}
use Rattle.race_triage.proofs.OnceLemmas.{pairs_head, pairs_tail}

-- Two tests that nothing passes both: what is counted of the elements that pass the one, and of those that pass the other.
module _ {X : Type 0} (P : X → Type 0) (p q f g : X → Bool) where
  abbrev either : X → Bool
  either x = p x || q x

  -- the test of the one, or of the other
  abbrev pub by_either : X → Bool
  by_either x = cond (p x) (f x) (g x)

  abbrev Tells : (X → Bool) → List X → Type 0
  Tells test xs = All (λ (x : X). IsTrue (test x) ↔ P x) xs

  abbrev IsBoth : List X → Type 0
  IsBoth xs = Tells by_either (filter either xs) × (count_by by_either (filter either xs) ≡ count_by f (filter p xs) + count_by g (filter q xs))

  both_more : (x : X) (xs : List X) (b c : Bool) → p x ≡ b → q x ≡ c → (b ≡ true → c ≡ true → ⊥) → Tells f (cond b (x ∷ filter p xs) (filter p xs))
      → Tells g (cond c (x ∷ filter q xs) (filter q xs)) → IsBoth xs
      → Tells by_either (cond (b || c) (x ∷ filter either xs) (filter either xs))
      × (count_by by_either (cond (b || c) (x ∷ filter either xs) (filter either xs))
      ≡ count_by f (cond b (x ∷ filter p xs) (filter p xs)) + count_by g (cond c (x ∷ filter q xs) (filter q xs)))
  both_more x xs true true at also others one other is = absurd (others refl refl)
  both_more x xs false false at also others one other is = (is.0, is.1)
  both_more x xs true false at also others one other is =
      let same : by_either x ≡ f x = cond-true (p x) (f x) (g x) at in
      let told = All-head (λ (y : X). IsTrue (f y) ↔ P y) x (filter p xs) one in
      let more = sum_by-cons (λ (y : X). cond (by_either y) 1 0) x (filter either xs) in
      let ones = sum_by-cons (λ (y : X). cond (f y) 1 0) x (filter p xs) in
      let here : ◌≡◌ {A = ℕ} (cond (by_either x) 1 0) (cond (f x) 1 0) = ap (λ (t : Bool). cond t 1 0) same in (
        All-cons (λ (y : X). IsTrue (by_either y) ↔ P y) x (filter either xs) (subst (λ (t : Bool). IsTrue t ↔ P x) (sym same) told) is.0,
        omega (arith, more, ones, here, is.1),
      )
  both_more x xs false true at also others one other is =
      let same : by_either x ≡ g x = cond-false (p x) (f x) (g x) at in
      let told = All-head (λ (y : X). IsTrue (g y) ↔ P y) x (filter q xs) other in
      let more = sum_by-cons (λ (y : X). cond (by_either y) 1 0) x (filter either xs) in
      let ones = sum_by-cons (λ (y : X). cond (g y) 1 0) x (filter q xs) in
      let here : ◌≡◌ {A = ℕ} (cond (by_either x) 1 0) (cond (g x) 1 0) = ap (λ (t : Bool). cond t 1 0) same in (
        All-cons (λ (y : X). IsTrue (by_either y) ↔ P y) x (filter either xs) (subst (λ (t : Bool). IsTrue t ↔ P x) (sym same) told) is.0,
        omega (arith, more, ones, here, is.1),
      )

  kept_tells : (h t : X → Bool) (x : X) (xs : List X) (b : Bool) → Tells h (cond b (x ∷ filter t xs) (filter t xs)) → Tells h (filter t xs)
  kept_tells h t x xs true told = All-tail (λ (y : X). IsTrue (h y) ↔ P y) x (filter t xs) told
  kept_tells h t x xs false told = told

  both_are : (xs : List X) → ((x : X) → p x ≡ true → q x ≡ true → ⊥) → Tells f (filter p xs) → Tells g (filter q xs) → IsBoth xs
  both_are [] others one other = (All-nil (λ (x : X). IsTrue (by_either x) ↔ P x), refl)
  both_are (x ∷ xs) others one other =
      let rest = both_are xs others (kept_tells f p x xs (p x) one) (kept_tells g q x xs (q x) other) in
      both_more x xs (p x) (q x) refl refl (others x) one other rest

pub counted_both : {X : Type 0} (P : X → Type 0) (p q : X → Bool) (xs : List X) (n m : ℕ) → ((x : X) → p x ≡ true → q x ≡ true → ⊥)
    → IsCountOf P (filter p xs) n → IsCountOf P (filter q xs) m → IsCountOf P (filter (λ x. p x || q x) xs) (n + m)
counted_both P p q xs n m others one other =
    let are = both_are P p q one.test other.test xs others one.tells other.tells in
    record { test = by_either P p q one.test other.test; tells = are.0; count = omega (arith, are.1, one.count, other.count) }

none_kept : {X : Type 0} (xs : List X) → filter (λ (x : X). false) xs ≡ []
none_kept [] = refl
none_kept (x ∷ xs) = none_kept xs

all_kept : {X : Type 0} (p : X → Bool) (xs : List X) → All (λ (x : X). p x ≡ true) xs → filter p xs ≡ xs
all_kept p [] all = refl
all_kept {X} p (x ∷ xs) all =
    cond-true (p x) (x ∷ filter p xs) (filter p xs) (All-head (λ (y : X). p y ≡ true) x xs all)
    ∙ ap (λ ys. x ∷ ys) (all_kept p xs (All-tail (λ (y : X). p y ≡ true) x xs all))

-- the conflicting pairs of a trace, and how many there are at most
pub conflict_pairs : (T : List Event) → All (λ e. IsGroupPair T e.0 e.1) (conflicts T)
conflict_pairs T =
    subst (All (λ e. IsGroupPair T e.0 e.1)) (all_kept (λ (e : ℕ × ℕ). true) (conflicts T) (λ i d lt. refl)) (group_pairs T (λ e. 0) 0 0)

long_map : {X Y : Type 0} (g : X → List Y) (xs : List X) → length (flat_map g xs) ≡ sum_by (λ x. length (g x)) xs
long_map g [] = refl
long_map g (x ∷ xs) = length-append (g x) (flat_map g xs) ∙ ap (λ n. length (g x) + n) (long_map g xs) ∙ sym (sum_by-cons (λ y. length (g y)) x xs)

-- the pairs whose greater number is b
abbrev pairs_to : ℕ → List (ℕ × ℕ)
pairs_to b = map (λ (a : ℕ). (a, b)) (before b)

few_to : (b n : ℕ) → b < n → n ≤ 1048576 → length (pairs_to b) ≤ 1048576
few_to b n lt few =
    let pair : ℕ → ℕ × ℕ = λ a. (a, b) in
    let same = length-map (before b) pair in
    let long = length-range_with_len 0 b in
    omega (arith, lt, few, same, long)

pub conflicts_few : (T : List Event) → length T ≤ 1048576 → length (conflicts T) ≤ 1099511627776
conflicts_few T few =
    let n = length T in
    let most = sum_by-le (λ (b : ℕ). length (pairs_to b)) 1048576 (before n) (All-before (λ b. length (pairs_to b) ≤ 1048576) n (λ b lt. few_to b n lt few)) in
    let all = long_map pairs_to (before n) in
    let long = length-range_with_len 0 n in
    let kept = length-filter (λ (e : ℕ × ℕ). is_conflict T e.0 e.1) (pairs_below n) in
    let less = count_by-le-length (λ (e : ℕ × ℕ). is_conflict T e.0 e.1) (pairs_below n) in
    omega (arith, most, all, long, kept, less, few)

-- Each pair is of one kind, so that the four counts sum up to all.
module _ (C F G L : Type 0) (free : L ↔ (¬ G)) where
  one_kind : (c o g f : Bool) → IsTrue c ↔ C → IsTrue o ↔ ((¬ C) × (¬ F) × L) → IsTrue g ↔ ((¬ C) × (¬ F) × G) → IsTrue f ↔ ((¬ C) × F)
      → ◌≡◌ {A = ℕ} (cond c 1 0 + cond o 1 0 + cond g 1 0 + cond f 1 0) 1
  one_kind true false false false pc po pg pf = refl
  one_kind false true false false pc po pg pf = refl
  one_kind false false true false pc po pg pf = refl
  one_kind false false false true pc po pg pf = refl
  one_kind true true g f pc po pg pf = absurd ((po.0 refl).0 (pc.0 refl))
  one_kind true false true f pc po pg pf = absurd ((pg.0 refl).0 (pc.0 refl))
  one_kind true false false true pc po pg pf = absurd ((pf.0 refl).0 (pc.0 refl))
  one_kind false true true f pc po pg pf = absurd (free.0 (po.0 refl).2 (pg.0 refl).2)
  one_kind false true false true pc po pg pf = absurd ((po.0 refl).1 (pf.0 refl).1)
  one_kind false false true true pc po pg pf = absurd ((pg.0 refl).1 (pf.0 refl).1)
  one_kind false false false false pc po pg pf =
      let no_c : ¬ C = λ is. true≢false (sym (pc.1 is)) in
      let no_f : ¬ F = λ is. true≢false (sym (pf.1 (no_c, is))) in
      let no_g : ¬ G = λ is. true≢false (sym (pg.1 (no_c, no_f, is))) in
      absurd (true≢false (sym (po.1 (no_c, no_f, free.1 no_g))))

module _ (r : Recording) (formed : IsWellFormed r) (rules : IsDisciplined r.events) where
  abbrev Told : Kind → (ℕ × ℕ → Bool) → List (ℕ × ℕ) → Type 0
  Told k test xs = All (λ (e : ℕ × ℕ). IsTrue (test e) ↔ IsKind r e.0 e.1 k) xs

  kinds_sum : (c o g f : ℕ × ℕ → Bool) (xs : List (ℕ × ℕ)) → Told Candidate c xs → Told Open o xs → Told Guarded g xs → Told Forced f xs
      → count_by c xs + count_by o xs + count_by g xs + count_by f xs ≡ length xs
  kinds_sum c o g f [] tc to tg tf = refl
  kinds_sum c o g f (e ∷ xs) tc to tg tf =
      let K : Kind → (ℕ × ℕ → Bool) → ℕ × ℕ → Type 0 = λ k test d. IsTrue (test d) ↔ IsKind r d.0 d.1 k in
      let rest = kinds_sum c o g f xs (All-tail (K Candidate c) e xs tc) (All-tail (K Open o) e xs to) (All-tail (K Guarded g) e xs tg) (All-tail (K Forced f) e xs tf) in
      let here =
      one_kind (IsCandidatePair r.events e.0 e.1) (IsForced r.events e.0 e.1) (IsGuarded r.events e.0 e.1) ((l : ℕ) → l < length r.locks → ¬ IsSharedBefore r.events e.0 e.1 l)
      (shared_by_none r formed rules e.0 e.1) (c e) (o e) (g e) (f e)
      (All-head (K Candidate c) e xs tc) (All-head (K Open o) e xs to) (All-head (K Guarded g) e xs tg) (All-head (K Forced f) e xs tf)
      in
      let c1 = sum_by-cons (λ (d : ℕ × ℕ). cond (c d) 1 0) e xs in
      let c2 = sum_by-cons (λ (d : ℕ × ℕ). cond (o d) 1 0) e xs in
      let c3 = sum_by-cons (λ (d : ℕ × ℕ). cond (g d) 1 0) e xs in
      let c4 = sum_by-cons (λ (d : ℕ × ℕ). cond (f d) 1 0) e xs in
      omega (arith, rest, here, c1, c2, c3, c4, length-cons e xs)

  module _ (place : ℕ → ℕ) where
    abbrev is_at : Verdict → ℕ × ℕ → Bool
    is_at v e = is_between v.row.places.0 v.row.places.1 (place e.0) (place e.1)

    abbrev is_covered : List Verdict → ℕ × ℕ → Bool
    is_covered vs e = list_any (λ (v : Verdict). is_at v e) vs

    abbrev Rises : Verdict → Type 0
    Rises v = v.row.places.0 ≤ v.row.places.1

    not_both : (v : Verdict) (vs : List Verdict) → All Rises (v ∷ vs) → AreOnceTold (v ∷ vs) → (e : ℕ × ℕ) → is_at v e ≡ true → is_covered vs e ≡ true → ⊥
    not_both v vs rising once e here there =
        let any = Any-from_list_any (λ (w : Verdict). is_at w e) vs there in
        let w : Verdict = any.1 in
        let low : Rises w = subst Rises any.3 (All-get_or Rises vs any.0 w any.2 (All-tail Rises v vs rising)) in
        let one = between_one v.row.places.0 v.row.places.1 w.row.places.0 w.row.places.1 (place e.0) (place e.1) (All-head Rises v vs rising) low here any.4 in
        let same : v.row.places ≡ w.row.places = ap (λ x. (x, v.row.places.1)) one.0 ∙ ap (λ y. (w.row.places.0, y)) one.1 in
        pairs_head (λ (a b : Verdict). a.row.places ≢ b.row.places) v vs once any.0 w any.2 (same ∙ ap (λ (u : Verdict). u.row.places) (sym any.3))

    counted_groups : (P : ℕ × ℕ → Type 0) (count : Verdict → ℕ) (vs : List Verdict) → All Rises vs → AreOnceTold vs
        → All (λ (v : Verdict). IsCountOf P (group_of r.events place v.row.places.0 v.row.places.1) (count v)) vs
        → IsCountOf P (filter (is_covered vs) (conflicts r.events)) (sum_by count vs)
    counted_groups P count [] rising once all = record {
      test = λ e. false;
      tells = subst (All (λ (e : ℕ × ℕ). IsTrue false ↔ P e)) (sym (none_kept (conflicts r.events))) (All-nil (λ (e : ℕ × ℕ). IsTrue false ↔ P e));
      count = ap (count_by (λ (e : ℕ × ℕ). false)) (sym (none_kept (conflicts r.events)));
    }
    counted_groups P count (v ∷ vs) rising once all =
        let C : Verdict → Type 0 = λ w. IsCountOf P (group_of r.events place w.row.places.0 w.row.places.1) (count w) in
        let rest = counted_groups P count vs (All-tail Rises v vs rising) (pairs_tail (λ (a b : Verdict). a.row.places ≢ b.row.places) v vs once) (All-tail C v vs all) in
        let both = counted_both P (is_at v) (is_covered vs) (conflicts r.events) (count v) (sum_by count vs) (not_both v vs rising once) (All-head C v vs all) rest in
        subst (IsCountOf P (filter (is_covered (v ∷ vs)) (conflicts r.events))) (sym (sum_by-cons count v vs)) both

    module _ (vs : List Verdict) (told : AreAllTold r.events place vs) where
      all_covered : filter (is_covered vs) (conflicts r.events) ≡ conflicts r.events
      all_covered =
          all_kept (is_covered vs) (conflicts r.events)
          (All-weaker (λ (e : ℕ × ℕ). IsGroupPair r.events e.0 e.1) (λ (e : ℕ × ℕ). is_covered vs e ≡ true)
          (λ e (p : IsGroupPair r.events e.0 e.1).
          let found = told e.0 e.1 (record { conflict = p.conflict; earlier = p.earlier; within = p.within }) in
          list_any-from_Any (λ (v : Verdict). is_at v e) vs (found.1.0, found.0, found.1.1, found.1.2, found.2))
          (conflicts r.events) (conflict_pairs r.events))

      module _ (once : AreOnceTold vs) (rising : All Rises vs) where
        -- what is counted of each two places is counted of the trace
        pub counted_whole : (P : ℕ × ℕ → Type 0) (count : Verdict → ℕ)
            → All (λ (v : Verdict). IsCountOf P (group_of r.events place v.row.places.0 v.row.places.1) (count v)) vs
            → IsCountOf P (conflicts r.events) (sum_by count vs)
        counted_whole P count all = subst (λ (xs : List (ℕ × ℕ)). IsCountOf P xs (sum_by count vs)) all_covered (counted_groups P count vs rising once all)

-- a verdict where there is none
abbrev some_verdict : Verdict
some_verdict = record {
  first = 0;
  second = 0;
  row = record { places = (0, 0); counts = record { candidates = 0; open_pairs = 0; guarded = 0; forced = 0 } };
  variables = 0;
  outcome = Apart;
}

capped_few : (n : ℕ) → n ≤ 1099511627776 → capped n ≡ n
capped_few n le = below (2 ^ 64 - 1) n (omega (arith, le))
  where
    below : (most k : ℕ) → k ≤ most → min k most ≡ k
    below most k low = omega (arith, low)

counted_few : {X : Type 0} (P : X → Type 0) (xs : List X) (n : ℕ) → IsCountOf P xs n → n ≤ length xs
counted_few P xs n is = let le = count_by-le-length is.test xs in omega (arith, le, is.count)

-- where a test tells what always holds, all are counted
all_counted : {X : Type 0} (P : X → Type 0) (xs : List X) (n : ℕ) → ((x : X) → P x) → IsCountOf P xs n → n ≡ length xs
all_counted {X} P xs n holds is =
    let passes : filter is.test xs ≡ xs =
    all_kept is.test xs (All-weaker (λ (x : X). IsTrue (is.test x) ↔ P x) (λ (x : X). is.test x ≡ true) (λ x told. told.1 (holds x)) xs is.tells)
    in
    is.count ∙ sym (length-filter is.test xs) ∙ ap (λ (ys : List X). length ys) passes

-- each verdict is of one part
one_part : (o : Outcome) → ◌≡◌ {A = ℕ} (cond (is_same Races (part_of o)) 1 0 + cond (is_same OpenPart (part_of o)) 1 0 + cond (is_same Never (part_of o)) 1 0) 1
one_part (Race how events threads) = refl
one_part (Undecided tried) = refl
one_part Apart = refl

parts_sum : (vs : List Verdict) → count_by (is_of Races) vs + count_by (is_of OpenPart) vs + count_by (is_of Never) vs ≡ length vs
parts_sum [] = refl
parts_sum (v ∷ vs) =
    let rest = parts_sum vs in
    let here = one_part v.outcome in
    let c1 = sum_by-cons (λ (w : Verdict). cond (is_of Races w) 1 0) v vs in
    let c2 = sum_by-cons (λ (w : Verdict). cond (is_of OpenPart w) 1 0) v vs in
    let c3 = sum_by-cons (λ (w : Verdict). cond (is_of Never w) 1 0) v vs in
    omega (arith, rest, here, c1, c2, c3, length-cons v vs)

-- the verdicts' places
module _ (T : List Event) (place : ℕ → ℕ) (vs : List Verdict) where
  abbrev pub places_told : List (ℕ × ℕ)
  places_told = map (λ (v : Verdict). v.row.places) vs

  place_at : (i : ℕ) (d : ℕ × ℕ) → i < length vs → get_or places_told i d ≡ (get_or vs i some_verdict).row.places
  place_at i d lt =
      get_or-map (λ (v : Verdict). v.row.places) vs i some_verdict d lt

  pub places_are : All (λ (v : Verdict). v.row.places.0 ≤ v.row.places.1) vs → AreOnceTold vs → All (λ (v : Verdict). HaveConflict T place v.row.places) vs
      → AreAllTold T place vs → ArePlacesOf T place places_told
  places_are rising once there told =
      let long = length-map vs (λ (v : Verdict). v.row.places) in
      record {
        rising = All-map (λ (p : ℕ × ℕ). p.0 ≤ p.1) (λ (v : Verdict). v.row.places) vs rising;
        once = λ i j d lt le same.
            once i j some_verdict lt (omega (arith, le, long))
            (sym (place_at i d (omega (arith, lt, le, long))) ∙ same ∙ place_at j d (omega (arith, le, long)));
        conflicts = All-map (HaveConflict T place) (λ (v : Verdict). v.row.places) vs there;
        all = λ a b lt conflict.
            let found = told a b (record { conflict = conflict; earlier = lt; within = slice_get_within T b conflict.w conflict.second }) in
            let at : get_or vs found.1.0 some_verdict ≡ found.0 = get_or_default vs found.1.0 some_verdict found.0 found.1.1 ∙ found.1.2 in (
              found.1.0,
              found.0.row.places,
              omega (arith, found.1.1, long),
              place_at found.1.0 found.0.row.places found.1.1 ∙ ap (λ (v : Verdict). v.row.places) at,
              found.2,
            );
      }

pub totals_law : TotalsAreOfTheTrace
totals_law r place tries apart vs t formed rules all told once few are =
    let T = r.events in
    let V : Verdict → Type 0 = IsVerdict r place tries apart in
    let rising = All-weaker V (λ (v : Verdict). v.row.places.0 ≤ v.row.places.1) (λ v is. is.row.rising) vs all in
    let most = conflicts_few T formed.events in
    let whole : (k : Kind) (count : Verdict → ℕ) → All (λ (v : Verdict). IsCountOf (λ e. IsKind r e.0 e.1 k) (group_of T place v.row.places.0 v.row.places.1) (count v)) vs
    → IsCountOf (λ e. IsKind r e.0 e.1 k) (conflicts T) (sum_by count vs) =
    λ k count each. counted_whole r formed rules place vs told once rising (λ e. IsKind r e.0 e.1 k) count each
    in
    let kept : (k : Kind) (count : Verdict → ℕ) (n : ℕ) → n ≡ capped (sum_by count vs)
    → IsCountOf (λ e. IsKind r e.0 e.1 k) (conflicts T) (sum_by count vs) → IsCountOf (λ e. IsKind r e.0 e.1 k) (conflicts T) n =
    λ k count n is counted.
    let le = counted_few (λ e. IsKind r e.0 e.1 k) (conflicts T) (sum_by count vs) counted in
    subst (IsCountOf (λ e. IsKind r e.0 e.1 k) (conflicts T)) (sym (is ∙ capped_few (sum_by count vs) (omega (arith, le, most)))) counted
    in
    let each_pair : All (λ (v : Verdict). IsCountOf (λ e. ⊤) (group_of T place v.row.places.0 v.row.places.1) (all_in v.row.counts)) vs =
    All-weaker V (λ (v : Verdict). IsCountOf (λ e. ⊤) (group_of T place v.row.places.0 v.row.places.1) (all_in v.row.counts))
    (λ v is.
    let group = group_of T place v.row.places.0 v.row.places.1 in
    let row = is.row in
    let sum = kinds_sum r formed rules row.candidates.test row.open_pairs.test row.guarded.test row.forced.test group
    row.candidates.tells row.open_pairs.tells row.guarded.tells row.forced.tells in
    let small = length-filter (λ e. is_between v.row.places.0 v.row.places.1 (place e.0) (place e.1)) (conflicts T) in
    let less = count_by-le-length (λ e. is_between v.row.places.0 v.row.places.1 (place e.0) (place e.1)) (conflicts T) in
    let cs = v.row.counts in
    let four : cs.candidates + cs.open_pairs + cs.guarded + cs.forced ≡ length group =
    omega (arith, sum, row.candidates.count, row.open_pairs.count, row.guarded.count, row.forced.count)
    in
    let is_all : all_in cs ≡ length group = capped_few (cs.candidates + cs.open_pairs + cs.guarded + cs.forced) (omega (arith, four, small, less, most)) ∙ four in
    record {
      test = λ e. true;
      tells = λ i d lt. ((λ h. tt), (λ h. refl));
      count = is_all ∙ sym (ap (λ (ys : List (ℕ × ℕ)). length ys) (all_kept (λ (e : ℕ × ℕ). true) group (λ i d lt. refl))) ∙ length-filter (λ (e : ℕ × ℕ). true) group;
    })
    vs all
    in
    let pairs = counted_whole r formed rules place vs told once rising (λ e. ⊤) (λ v. all_in v.row.counts) each_pair in
    let all_pairs = all_counted (λ (e : ℕ × ℕ). ⊤) (conflicts T) (sum_by (λ (v : Verdict). all_in v.row.counts) vs) (λ e. tt) pairs in
    let sums = parts_sum vs in
    let races = capped_few (count_by (is_of Races) vs) (omega (arith, sums, few)) in
    let opens = capped_few (count_by (is_of OpenPart) vs) (omega (arith, sums, few)) in
    let never = capped_few (count_by (is_of Never) vs) (omega (arith, sums, few)) in
    let long = capped_few (length vs) (omega (arith, few)) in
    record {
      events = are.events;
      threads = are.threads;
      pairs = are.pairs ∙ capped_few (sum_by (λ (v : Verdict). all_in v.row.counts) vs) (omega (arith, all_pairs, most)) ∙ all_pairs;
      candidates =
          kept Candidate (λ v. v.row.counts.candidates) t.candidates are.candidates
          (whole Candidate (λ v. v.row.counts.candidates) (All-weaker V _ (λ v is. is.row.candidates) vs all));
      open_pairs =
          kept Open (λ v. v.row.counts.open_pairs) t.open_pairs are.open_pairs
          (whole Open (λ v. v.row.counts.open_pairs) (All-weaker V _ (λ v is. is.row.open_pairs) vs all));
      guarded =
          kept Guarded (λ v. v.row.counts.guarded) t.guarded are.guarded
          (whole Guarded (λ v. v.row.counts.guarded) (All-weaker V _ (λ v is. is.row.guarded) vs all));
      forced =
          kept Forced (λ v. v.row.counts.forced) t.forced are.forced
          (whole Forced (λ v. v.row.counts.forced) (All-weaker V _ (λ v is. is.row.forced) vs all));
      places = places_told T place vs;
      are_places = places_are T place vs rising once (All-weaker V (λ (v : Verdict). HaveConflict T place v.row.places) (λ v is. is.there) vs all) told;
      count = are.places ∙ long ∙ sym (length-map vs (λ (v : Verdict). v.row.places));
      parts = omega (arith, are.places, long, are.races, races, are.undecided, opens, are.apart, never, sums);
    }
