-- What several workers found of different variables, put together row by row.
use Rattle.std.proofs.Common.{◌≡◌, ◌≢◌, ℕ, ◌+◌, ◌<◌, ◌≤◌, ◌⊎◌, ◌↔◌, ◌%◌, Bool, true, false, true≢false, cond, IsTrue, IfSome, List, All, Contains, length, count_by, sum_by, get_or, set, slice_get, slice_index, Option, Some, None, le_refl, refl, sym, ap, ◌∙◌, subst, arith, get_or-set_same, inl, inr}
use Rattle.std.proofs.lemmas.Bool.{cases_eq, cases_lt}
use Rattle.std.proofs.lemmas.List.{get_or_default, get_or-set_other}
use Rattle.std.proofs.lemmas.List.Elements.{All-contains, All-weaker}
use Rattle.std.proofs.lemmas.List.FromFn.{length-range_with_len}
use Rattle.std.proofs.lemmas.List.Sums.{count_by-le-length}
use Rattle.std.proofs.lemmas.Option.{get_or_from_slice_get, slice_get-get_or, slice_get_cases, slice_get_within}
use Rattle.rapid_text.specs.Recording.{Recording, IsWellFormed}
use Rattle.event_index.specs.Lookups.{before}
use Rattle.race_groups.specs.Groups.{IsCountOf}
use Rattle.race_groups.specs.declared.kinds.Row.{Row}
use Rattle.race_groups.proofs.SumLemmas.{sum_by_same, sum_by-plus}
use Rattle.race_groups.proofs.ThreadLemmas.{All-before}
use Rattle.race_groups.specs.least_pairs.Going.{AreFoundOf, AreHeldBelow, AreMore, AreSoFar, IsSound, IsTurn}
use Rattle.race_groups.specs.least_pairs.Joining.{AreJoined, IsBelow, IsJoined}
use Rattle.race_groups.specs.least_pairs.Noting.{HasOwn, IsNothing, IsSoFar}
use Rattle.race_groups.specs.least_pairs.Pairs.{HasPair, IsFit, IsOpenOf}
use Rattle.race_groups.specs.least_pairs.Taking.{AreTries, HoldsTry, HoldsUp}
use Rattle.race_groups.specs.declared.least_pairs.least.Least.{Least}
use Rattle.race_groups.specs.declared.least_pairs.leasts.Search.{Search}
use Rattle.race_groups.specs.declared.least_pairs.tries.Try.{Try}
use Rattle.race_groups.specs.declared.least_pairs.wanted.Wanted.TheVariants.{Candidate}
use Rattle.race_groups.proofs.least_pairs.EndLemmas.{variables_counted}
use Rattle.race_groups.proofs.least_pairs.NextLemmas.{all_below, next_last, AreSoFar-none}
use Rattle.race_groups.proofs.least_pairs.NotingLemmas.{AreSoFar-start}
use Rattle.race_groups.proofs.least_pairs.TakenLemmas.{IsHeld-more}

-- one of two tests, or the other
abbrev or_else : Bool → Bool → Bool
or_else s t = cond s true t

either_cases : (s t : Bool) → or_else s t ≡ true → (s ≡ true) ⊎ (t ≡ true)
either_cases true t is = inl refl
either_cases false t is = inr is

either_first : (s t : Bool) → s ≡ true → or_else s t ≡ true
either_first true t is = refl
either_first false t is = absurd (true≢false (sym is))

either_second : (s t : Bool) → t ≡ true → or_else s t ≡ true
either_second true t is = refl
either_second false t is = is

abbrev one_if : Bool → ℕ
one_if t = cond t 1 0

one_of_both : (s t : Bool) → (s ≡ true → t ≡ true → ⊥) → one_if (or_else s t) ≡ one_if s + one_if t
one_of_both true true apart = absurd (apart refl refl)
one_of_both true false apart = refl
one_of_both false true apart = refl
one_of_both false false apart = refl

-- what is counted of two kinds of numbers that have none in common
module _ (P Q R : ℕ → Type 0) (n a b : ℕ) (one : IsCountOf P (before n) a) (other : IsCountOf Q (before n) b) (apart : (y : ℕ) → P y → Q y → ⊥)
    (both : (y : ℕ) → R y ↔ (P y ⊎ Q y)) where
  one_tells : (y : ℕ) → y < n → IsTrue (one.test y) ↔ P y
  one_tells y lt = all_below (λ k. IsTrue (one.test k) ↔ P k) n y one.tells lt

  other_tells : (y : ℕ) → y < n → IsTrue (other.test y) ↔ Q y
  other_tells y lt = all_below (λ k. IsTrue (other.test k) ↔ Q k) n y other.tells lt

  abbrev both_test : ℕ → Bool
  both_test y = or_else (one.test y) (other.test y)

  both_tell : (y : ℕ) → y < n → IsTrue (both_test y) ↔ R y
  both_tell y lt = (
    λ is. (both y).1 (elim (either_cases (one.test y) (other.test y) is) [
      | inl first ↦ inl ((one_tells y lt).0 first)
      | inr second ↦ inr ((other_tells y lt).0 second)
    ]),
    λ has. elim ((both y).0 has) [
      | inl first ↦ either_first (one.test y) (other.test y) ((one_tells y lt).1 first)
      | inr second ↦ either_second (one.test y) (other.test y) ((other_tells y lt).1 second)
    ],
  )

  pub IsCountOf-both : (c : ℕ) → c ≡ a + b → IsCountOf R (before n) c
  IsCountOf-both c is =
      let f : ℕ → ℕ = λ y. one_if (one.test y) in
      let g : ℕ → ℕ = λ y. one_if (other.test y) in
      let h : ℕ → ℕ = λ y. one_if (both_test y) in
      let same : sum_by h (before n) ≡ sum_by (λ y. f y + g y) (before n) =
      sum_by_same h (λ y. f y + g y) (before n) (All-before (λ y. h y ≡ f y + g y) n
      (λ y lt. one_of_both (one.test y) (other.test y) (λ first second. apart y ((one_tells y lt).0 first) ((other_tells y lt).0 second))))
      in
      let parts : sum_by (λ y. f y + g y) (before n) ≡ sum_by f (before n) + sum_by g (before n) = sum_by-plus f g (before n) in
      let first : a ≡ sum_by f (before n) = one.count in
      let second : b ≡ sum_by g (before n) = other.count in
      let whole : c ≡ sum_by h (before n) = omega (arith, is, same, parts, first, second) in
      record {
        test = both_test;
        tells = All-before (λ y. IsTrue (both_test y) ↔ R y) n both_tell;
        count = whole;
      }

count_few : (P : ℕ → Type 0) (n a : ℕ) → IsCountOf P (before n) a → a ≤ n
count_few P n a is =
    let few = count_by-le-length is.test (before n) in
    let long : length (before n) ≡ n = length-range_with_len 0 n in
    let count = is.count in
    omega (arith, few, long, count)

none_some : (n : ℕ) → ◌≢◌ {A = Option ℕ} None (Some n)
none_some n same = cc

-- One row: what was found of the variables with P and of those with Q is what was found of those with R.
module _ (r : Recording) (formed : IsWellFormed r) (place : ℕ → ℕ) (places : ℕ × ℕ) (most : ℕ) (P Q R : ℕ → Type 0) (apart : (y : ℕ) → P y → Q y → ⊥)
    (both : (y : ℕ) → R y ↔ (P y ⊎ Q y)) (l p : Least) (one : IsSoFar r place places most P (length r.variables) l) (other : IsSoFar r place places most Q (length r.variables) p) where
  abbrev X : ℕ
  X = length r.variables

  both_has : (y : ℕ) → HasOwn R r place places y ↔ (HasOwn P r place places y ⊎ HasOwn Q r place places y)
  both_has y = (
    λ has. elim ((both y).0 has.0) [ inl first ↦ inl (first, has.1) | inr second ↦ inr (second, has.1) ],
    λ either. elim either [ inl has ↦ ((both y).1 (inl has.0), has.1) | inr has ↦ ((both y).1 (inr has.0), has.1) ],
  )

  both_count : (c : ℕ) → c ≡ l.variables + p.variables → IsCountOf (HasOwn R r place places) (before X) c
  both_count =
      IsCountOf-both (HasOwn P r place places) (HasOwn Q r place places) (HasOwn R r place places) X l.variables p.variables
      (variables_counted r formed place places most P l one) (variables_counted r formed place places most Q p other)
      (λ y first second. apart y first.0 second.0) both_has

  pub room_row : l.variables + p.variables ≤ 4294967295
  room_row =
      let few = count_few (HasOwn R r place places) X (l.variables + p.variables) (both_count (l.variables + p.variables) refl) in
      let limit = formed.variables in
      omega (arith, few, limit)

  pub IsSoFar-joined : (m : Least) → IsJoined most p l m → IsSoFar r place places most R X m
  IsSoFar-joined m is = record {
    candidate = elim is.either [
      | inl old ↦ subst (λ o. IfSome o (λ (q : ℕ × ℕ). IsFit r place places Candidate q.1 q.0)) (sym old) one.candidate
      | inr new ↦ subst (λ o. IfSome o (λ (q : ℕ × ℕ). IsFit r place places Candidate q.1 q.0)) (sym new) other.candidate
    ];
    each =
        All-weaker (λ (t : Try). Contains p.tries.items t ⊎ Contains l.tries.items t) (λ (t : Try). IsOpenOf r place places t.between t.pair.1 t.pair.0)
        (λ t either. elim either [
          | inl new ↦ All-contains (λ (u : Try). IsOpenOf r place places u.between u.pair.1 u.pair.0) p.tries.items t other.each new
          | inr old ↦ All-contains (λ (u : Try). IsOpenOf r place places u.between u.pair.1 u.pair.0) l.tries.items t one.each old
        ]) m.tries.items is.tries.each;
    tries = is.tries.tries;
    variables = record {
      below = m.variables;
      count = both_count m.variables is.variables;
      now = inr (λ some. none_some X (sym is.last ∙ some), refl);
      reached = subst (λ o. IfSome o (λ (y : ℕ). y ≤ X)) (sym is.last) tt;
    };
  }

-- all rows
module _ (s : Search) (sound : IsSound s) (every w : ℕ) (part old : List Least) (one : AreFoundOf s (IsBelow every w) old) (other : AreFoundOf s (IsTurn every w) part) where
  abbrev r : Recording
  r = s.indexed.now

  abbrev place : ℕ → ℕ
  place = slice_index s.places.now

  abbrev rows : List Row
  rows = s.groups.now.rows.items

  apart_turn : (y : ℕ) → IsBelow every w y → IsTurn every w y → ⊥
  apart_turn y below turn = omega (arith, below, turn)

  both_turn : (y : ℕ) → IsBelow every (w + 1) y ↔ (IsBelow every w y ⊎ IsTurn every w y)
  both_turn y = (
    λ below. elim (cases_lt (y % every) w) [ inl low ↦ inl low | inr high ↦ inr (omega (arith, below, high)) ],
    λ either. elim either [ inl low ↦ omega (arith, low) | inr turn ↦ omega (arith, turn) ],
  )

  same_len : length part ≡ length old
  same_len = other.so_far.len ∙ sym one.so_far.len

  row_at : (at : ℕ) → at < length old → (row : Row) × (slice_get rows at ≡ Some row)
  row_at at lt = elim (slice_get_cases rows at).1 [
    | inl there ↦ (there.0, there.2)
    | inr none ↦ let high = none.0 in let len = one.so_far.len in absurd (omega (arith, high, len, lt))
  ]

  old_row : (at : ℕ) (d : Least) (lt : at < length old) → IsSoFar r place (row_at at lt).0.places s.most (IsBelow every w) (length r.variables) (get_or old at d)
  old_row at d lt = one.so_far.each at (row_at at lt).0 (get_or old at d) (row_at at lt).1 (slice_get-get_or old at d lt)

  part_row : (at : ℕ) (d : Least) (lt : at < length old) → IsSoFar r place (row_at at lt).0.places s.most (IsTurn every w) (length r.variables) (get_or part at d)
  part_row at d lt =
      let len = same_len in
      other.so_far.each at (row_at at lt).0 (get_or part at d) (row_at at lt).1 (slice_get-get_or part at d (omega (arith, lt, len)))

  pub room_all : IsWellFormed r → (at : ℕ) (d : Least) → at < length old → (get_or old at d).variables + (get_or part at d).variables ≤ 4294967295
  room_all formed at d lt =
      room_row r formed place (row_at at lt).0.places s.most (IsBelow every w) (IsTurn every w) (IsBelow every (w + 1)) apart_turn both_turn (get_or old at d) (get_or part at d)
      (old_row at d lt) (part_row at d lt)

  pub old_tries : All (λ (l : Least). AreTries s.most l.tries.items) old
  old_tries at d lt = (old_row at d lt).tries

  pub part_tries : All (λ (l : Least). AreTries s.most l.tries.items) part
  part_tries at d lt = let len = same_len in (part_row at d (omega (arith, lt, len))).tries

  pub part_len : length part ≡ length old
  part_len = same_len

  module _ (formed : IsWellFormed r) (new : List Least) (joined : AreJoined s.most part old new) where
    joined_at : (at : ℕ) (m : Least) → slice_get new at ≡ Some m → (at < length old) × IsJoined s.most (get_or part at m) (get_or old at m) m
    joined_at at m is =
        let low = slice_get_within new at m is in
        let len = joined.len in
        let lt : at < length old = omega (arith, low, len) in
        (lt, subst (IsJoined s.most (get_or part at m) (get_or old at m)) (get_or_from_slice_get new at m m is) (joined.each at m lt))

    new_so_far : AreSoFar r place rows s.most (IsBelow every (w + 1)) (length r.variables) new
    new_so_far = record {
      len = joined.len ∙ one.so_far.len;
      each = λ at row m row_is is.
          let here = joined_at at m is in
          let lt : at < length old = here.0 in
          let len = same_len in
          IsSoFar-joined r formed place row.places s.most (IsBelow every w) (IsTurn every w) (IsBelow every (w + 1)) apart_turn both_turn (get_or old at m) (get_or part at m)
          (one.so_far.each at row (get_or old at m) row_is (slice_get-get_or old at m lt))
          (other.so_far.each at row (get_or part at m) row_is (slice_get-get_or part at m (omega (arith, lt, len)))) m here.1;
    }

    -- what was held stays held; of the last variable that was counted nothing is claimed
    old_more : AreMore s.most (length r.variables + 1) old new
    old_more = record {
      len = joined.len;
      each = λ at l m l_is is.
          let here = joined_at at m is in
          let lt : at < length old = here.0 in
          let same : get_or old at m ≡ l = get_or_from_slice_get old at l m l_is in
          let far = old_row at m lt in
          record {
            last = λ last. absurd (next_last (get_or old at m).last (length r.variables) far.variables.reached (ap (λ (k : Least). k.last) same ∙ last));
            candidate = λ p holds. here.1.candidate p (subst (λ (k : Least). HoldsUp p k.candidate) (sym same) holds);
            tries = λ of p holds. here.1.tries.more of p (subst (λ (k : Least). HoldsTry s.most of p k.tries.items) (sym same) holds);
          };
    }

    part_more : AreMore s.most (length r.variables + 1) part new
    part_more = record {
      len = joined.len ∙ sym same_len;
      each = λ at l m l_is is.
          let here = joined_at at m is in
          let lt : at < length old = here.0 in
          let same : get_or part at m ≡ l = get_or_from_slice_get part at l m l_is in
          let far = part_row at m lt in
          record {
            last = λ last. absurd (next_last (get_or part at m).last (length r.variables) far.variables.reached (ap (λ (k : Least). k.last) same ∙ last));
            candidate = λ p holds. here.1.other p (subst (λ (k : Least). HoldsUp p k.candidate) (sym same) holds);
            tries = λ of p holds. here.1.tries.other of p (subst (λ (k : Least). HoldsTry s.most of p k.tries.items) (sym same) holds);
          };
    }

    new_held : AreHeldBelow r place rows s.most (IsBelow every (w + 1)) (length r.variables) new
    new_held y a b lt below pair access = elim ((both_turn y).0 below) [
      | inl earlier ↦ IsHeld-more r place rows s.most (length r.variables + 1) old new old_more a b (one.held y a b lt earlier pair access)
      | inr turn ↦ IsHeld-more r place rows s.most (length r.variables + 1) part new part_more a b (other.held y a b lt turn pair access)
    ]

    pub AreFoundOf-joined : AreFoundOf s (IsBelow every (w + 1)) new
    AreFoundOf-joined = record { so_far = new_so_far; held = new_held }

-- before the first part
pub AreFoundOf-none : (s : Search) (every : ℕ) (leasts : List Least) → length leasts ≡ length s.groups.now.rows.items → All IsNothing leasts
    → AreFoundOf s (IsBelow every 0) leasts
AreFoundOf-none s every leasts len nothing =
    let place = slice_index s.places.now in
    let rows = s.groups.now.rows.items in
    record {
      so_far =
          AreSoFar-none s.indexed.now place rows s.most (IsBelow every 0) leasts (λ places y has. (let low = has.0 in omega (arith, low))) (length s.indexed.now.variables)
          (AreSoFar-start s.indexed.now place rows s.most (IsBelow every 0) leasts len nothing);
      held = λ y a b lt below pair access. absurd (omega (arith, below));
    }

-- The rows of a list from one on are not joined yet.
module _ (most : ℕ) (part old now : List Least) (at : ℕ) (lt : at < length now) (left : (k : ℕ) (d : Least) → at ≤ k → get_or now k d ≡ get_or old k d) where
  here_left : (f d : Least) → get_or now at f ≡ get_or old at d
  here_left f d = get_or_default now at f d lt ∙ left at d (le_refl at)

  pub joined_room : (e f : Least) → at < length old
      → ((k : ℕ) (d : Least) → k < length old → (get_or old k d).variables + (get_or part k d).variables ≤ 4294967295)
      → (get_or now at f).variables + (get_or part at e).variables ≤ 4294967295
  joined_room e f inside room =
      subst (λ (l : Least). l.variables + (get_or part at e).variables ≤ 4294967295) (sym (here_left f e)) (room at e inside)

  pub joined_tries : (f : Least) → at < length old → All (λ (l : Least). AreTries most l.tries.items) old → AreTries most (get_or now at f).tries.items
  joined_tries f inside all = subst (λ (l : Least). AreTries most l.tries.items) (sym (here_left f f)) (all at f inside)

  -- one row more is set to what was joined
  module _ (m : Least) where
    pub joined_done : ((k : ℕ) (d : Least) → k < at → IsJoined most (get_or part k d) (get_or old k d) (get_or now k d))
        → (e f : Least) → at < length part → IsJoined most (get_or part at e) (get_or now at f) m
        → (k : ℕ) (d : Least) → k < at + 1 → IsJoined most (get_or part k d) (get_or old k d) (get_or (set now at m) k d)
    joined_done done e f within is k d low = elim (cases_eq k at) [
      | inl same ↦
          let one : get_or part at e ≡ get_or part at d = get_or_default part at e d within in
          let two : get_or now at f ≡ get_or old at d = here_left f d in
          let three : m ≡ get_or (set now at m) at d = sym (get_or-set_same now at m d lt) in
          subst (λ (j : ℕ). IsJoined most (get_or part j d) (get_or old j d) (get_or (set now at m) j d)) (sym same)
          (subst (λ (x : Least). IsJoined most x (get_or old at d) (get_or (set now at m) at d)) one
          (subst (λ (x : Least). IsJoined most (get_or part at e) x (get_or (set now at m) at d)) two
          (subst (IsJoined most (get_or part at e) (get_or now at f)) three is)))
      | inr apart ↦
          subst (IsJoined most (get_or part k d) (get_or old k d)) (sym (get_or-set_other now at k m d apart)) (done k d (omega (arith, low, apart)))
    ]

    pub joined_left : (k : ℕ) (d : Least) → at + 1 ≤ k → get_or (set now at m) k d ≡ get_or old k d
    joined_left k d high =
        let apart : k ≢ at = λ same. omega (arith, same, high) in
        get_or-set_other now at k m d apart ∙ left k d (omega (arith, high))
