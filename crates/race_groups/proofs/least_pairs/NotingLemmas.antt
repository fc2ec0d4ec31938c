-- What is known of all rows, when a pair more is taken in at one.
use Rattle.std.proofs.Common.{◌≡◌, ℕ, suc, ◌+◌, ◌<◌, ◌≤◌, true, false, true≢false, List, [], length, All, Option, Some, None, IfSome, Vec, get_or, set, slice_get, length-set, le_refl, refl, sym, ap, ◌∙◌, subst, inl, inr, arith, get_or-set_same}
use Rattle.std.specs.declared.alloc.Global.{Global}
use Rattle.std.proofs.lemmas.List.Elements.{All-nil, All-get_or, All-contains}
use Rattle.std.proofs.lemmas.List.FromFn.{length-range_with_len}
use Rattle.std.proofs.lemmas.List.Sums.{count_by-le-length}
use Rattle.std.proofs.lemmas.Option.{same_Some, slice_get_within, slice_get-get_or, get_or_from_slice_get}
use Rattle.rapid_text.specs.Recording.{Recording, IsWellFormed}
use Rattle.rapid_text.specs.declared.event.Event.{Event}
use Rattle.trace_rules.specs.Rules.{IsDisciplined}
use Rattle.trace_rules.proofs.Counts.{slice_get-set}
use Rattle.event_index.specs.Lookups.{before}
use Rattle.must_order.specs.Kinds.{IsKind}
use Rattle.must_order.specs.MustBefore.{IsForced}
use Rattle.must_order.specs.declared.kind.Kind.TheVariants.{Open as OpenKind}
use Rattle.shb_clocks.specs.Candidates.{IsCandidatePair}
use Rattle.race_groups.specs.Classes.{AreClasses, AreLocks, is_kept_pair}
use Rattle.race_groups.specs.Ends.{IsKnownBefore}
use Rattle.race_groups.specs.Shared.{keeps_shared}
use Rattle.race_groups.specs.declared.class.Class.{Class}
use Rattle.race_groups.specs.declared.kinds.Row.{Row}
use Rattle.race_groups.proofs.TellLemmas.{sharing_tells, shared_by_none}
use Rattle.race_groups.specs.least_pairs.Going.{AreSoFar, AreMore}
use Rattle.race_groups.specs.least_pairs.Taking.{AreTries, HoldsTry, HoldsUp, IsCandidateNoted, IsOpenNoted, IsVariableNoted}
use Rattle.race_groups.specs.least_pairs.Noting.{HasOwn, IsCounting, IsMore, IsNothing, IsSoFar}
use Rattle.race_groups.specs.least_pairs.Pairs.{IsFit, IsOpenOf, IsPair, is_access_at}
use Rattle.race_groups.specs.declared.least_pairs.least.Least.{Least}
use Rattle.race_groups.specs.declared.least_pairs.tries.Between.{Between}
use Rattle.race_groups.specs.declared.least_pairs.tries.Try.{Try}
use Rattle.race_groups.specs.declared.least_pairs.wanted.Wanted.TheVariants.{Candidate, Open}

AreTries-nil : (most : ℕ) → AreTries most []
AreTries-nil most = record {
  rising = λ i j d lt within. absurd (omega arith);
  once = λ i j d lt within. absurd (omega arith);
  few = omega arith;
}

module _ (Has : ℕ → Type 0) where
  IsCounting-none : (last : Option ℕ) (n : ℕ) → last ≡ None → n ≡ 0 → IsCounting Has 0 last n
  IsCounting-none last n last_is n_is = record {
    below = 0;
    count = record { test = λ x. true; tells = All-nil (λ x. (true ≡ true → Has x) × (Has x → true ≡ true)); count = refl };
    now = inr (λ some. cc, n_is);
    reached = subst (λ o. IfSome o (λ y. y ≤ 0)) (sym last_is) tt;
  }

  -- so many variables are counted below x, and at most one more
  IsCounting-few : (x n : ℕ) (last : Option ℕ) → IsCounting Has x last n → n ≤ x + 1
  IsCounting-few x n last counting =
      let few = count_by-le-length counting.count.test (before x) in
      let long : length (before x) ≡ x = length-range_with_len 0 x in
      let count = counting.count.count in
      elim counting.now [
        | inl here ↦ let is = here.2 in omega arith
        | inr there ↦ let is = there.1 in omega arith
      ]

  -- after the variable was counted
  IsCounting-noted : (x : ℕ) (l m : Least) → IsVariableNoted x l m → Has x → IsCounting Has x l.last l.variables → IsCounting Has x m.last m.variables
  IsCounting-noted x l m noted has counting = record {
    below = counting.below;
    count = counting.count;
    now = inl (
      noted.0,
      has,
      elim noted.1 [
        | inl old ↦ elim counting.now [
          | inl here ↦ old.1 ∙ here.2
          | inr there ↦ absurd (there.0 old.0)
        ]
        | inr fresh ↦ elim counting.now [
          | inl here ↦ absurd (fresh.0 here.0)
          | inr there ↦ fresh.1 ∙ ap suc there.1
        ]
      ],
    );
    reached = subst (λ o. IfSome o (λ y. y ≤ x)) (sym noted.0) (le_refl x);
  }

module _ (r : Recording) (place : ℕ → ℕ) (rows : List Row) (most : ℕ) (P : ℕ → Type 0) where
  IsSoFar-none : (places : ℕ × ℕ) (l : Least) → IsNothing l → IsSoFar r place places most P 0 l
  IsSoFar-none places l none = record {
    candidate = subst (λ o. IfSome o (λ p. IsFit r place places Candidate p.1 p.0)) (sym none.candidate) tt;
    each =
        subst (All (λ (t : Try). IsOpenOf r place places t.between t.pair.1 t.pair.0)) (sym none.tries)
        (All-nil (λ (t : Try). IsOpenOf r place places t.between t.pair.1 t.pair.0));
    tries = subst (AreTries most) (sym none.tries) (AreTries-nil most);
    variables = IsCounting-none (HasOwn P r place places) l.last l.variables none.last none.variables;
  }

  pub AreSoFar-start : (leasts : List Least) → length leasts ≡ length rows → All IsNothing leasts → AreSoFar r place rows most P 0 leasts
  AreSoFar-start leasts len none = record {
    len = len;
    each = λ at row l row_is is.
        let mine = All-get_or IsNothing leasts at l (slice_get_within leasts at l is) none in
        IsSoFar-none row.places l (subst IsNothing (get_or_from_slice_get leasts at l l is) mine);
  }

IsMore-same : (most x : ℕ) (l m : Least) → l ≡ m → IsMore most x l m
IsMore-same most x l m same =
    subst (IsMore most x l) same (record { last = λ is. is; candidate = λ p holds. holds; tries = λ of p holds. holds })

-- One row's part is exchanged.
module _ (r : Recording) (place : ℕ → ℕ) (rows : List Row) (most : ℕ) (P : ℕ → Type 0) (x : ℕ) (leasts : List Least) (so_far : AreSoFar r place rows most P x leasts) (at : ℕ) (row : Row) (row_is : slice_get rows at ≡ Some row) where
  pub row_within : at < length leasts
  row_within = let len = so_far.len in let within = slice_get_within rows at row row_is in omega arith

  old_is : (d : Least) → slice_get leasts at ≡ Some (get_or leasts at d)
  old_is d = slice_get-get_or leasts at d row_within

  pub old_so_far : (d : Least) → IsSoFar r place row.places most P x (get_or leasts at d)
  old_so_far d = so_far.each at row (get_or leasts at d) row_is (old_is d)

  -- another variable can be counted
  pub few_variables : (d : Least) → IsWellFormed r → x < length r.variables → (get_or leasts at d).variables < 4294967295
  few_variables d formed within =
      let few = IsCounting-few (HasOwn P r place row.places) x (get_or leasts at d).variables (get_or leasts at d).last (old_so_far d).variables in
      let limit = formed.variables in
      omega arith

  pub new_is : (m : Least) → slice_get (set leasts at m) at ≡ Some m
  new_is m =
      slice_get-get_or (set leasts at m) at m (omega (arith, row_within, length-set leasts at m)) ∙ ap Some (get_or-set_same leasts at m m row_within)

  pub AreSoFar-set : (m : Least) → IsSoFar r place row.places most P x m → AreSoFar r place rows most P x (set leasts at m)
  AreSoFar-set m far = record {
    len = length-set leasts at m ∙ so_far.len;
    each = λ k other l other_is is. elim (slice_get-set leasts at k m l row_within is) [
      | inl here ↦
          let same : row ≡ other = same_Some row other (sym row_is ∙ ap (slice_get rows) (sym here.0) ∙ other_is) in
          subst (λ (y : Row). IsSoFar r place y.places most P x l) same (subst (IsSoFar r place row.places most P x) here.1 far)
      | inr there ↦ so_far.each k other l other_is there.1
    ];
  }

  pub AreMore-set : (d m : Least) → IsMore most x (get_or leasts at d) m → AreMore most x leasts (set leasts at m)
  AreMore-set d m more = record {
    len = length-set leasts at m;
    each = λ k l n l_is n_is. elim (slice_get-set leasts at k m n row_within n_is) [
      | inl here ↦
          let same : get_or leasts at d ≡ l = same_Some (get_or leasts at d) l (sym (old_is d) ∙ ap (slice_get leasts) (sym here.0) ∙ l_is) in
          subst (λ y. IsMore most x y n) same (subst (IsMore most x (get_or leasts at d)) here.1 more)
      | inr there ↦ IsMore-same most x l n (same_Some l n (sym l_is ∙ there.1))
    ];
  }

-- What is known of a row after a pair of events more, or the variable alone, was taken in.
module _ (r : Recording) (place : ℕ → ℕ) (places : ℕ × ℕ) (most : ℕ) (P : ℕ → Type 0) (x : ℕ) (own : P x) (l m : Least) (so_far : IsSoFar r place places most P x l) where
  abbrev IsFound : ℕ × ℕ → Type 0
  IsFound p = IsFit r place places Candidate p.1 p.0

  abbrev IsTried : Try → Type 0
  IsTried t = IsOpenOf r place places t.between t.pair.1 t.pair.0

  pub so_far_candidate : (a b : ℕ) → IsFit r place places Candidate a b → is_access_at r.events x a ≡ true → IsCandidateNoted x (b, a) l m
      → IsSoFar r place places most P x m
  so_far_candidate a b fit access noted = record {
    candidate = elim noted.each [
      | inl fresh ↦ subst (λ o. IfSome o IsFound) (sym fresh) fit
      | inr old ↦ subst (λ o. IfSome o IsFound) (sym old) so_far.candidate
    ];
    each = subst (All IsTried) (sym noted.tries) so_far.each;
    tries = subst (AreTries most) (sym noted.tries) so_far.tries;
    variables =
        IsCounting-noted (HasOwn P r place places) x l m noted.variable (own, record { first = a; second = b; fit = inl fit; access = access })
        so_far.variables;
  }

  pub so_far_variable : (a b : ℕ) → IsFit r place places Open a b → is_access_at r.events x a ≡ true → IsVariableNoted x l m
      → m.candidate ≡ l.candidate → m.tries ≡ l.tries → IsSoFar r place places most P x m
  so_far_variable a b fit access noted candidate tries = record {
    candidate = subst (λ o. IfSome o IsFound) (sym candidate) so_far.candidate;
    each = subst (λ (v : Vec Try Global). All IsTried v.items) (sym tries) so_far.each;
    tries = subst (λ (v : Vec Try Global). AreTries most v.items) (sym tries) so_far.tries;
    variables =
        IsCounting-noted (HasOwn P r place places) x l m noted (own, record { first = a; second = b; fit = inr fit; access = access })
        so_far.variables;
  }

  pub so_far_open : (of : Between) (a b : ℕ) → x ≡ of.variable → IsOpenOf r place places of a b → IsOpenNoted most (record { between = of; pair = (b, a) }) l m
      → IsSoFar r place places most P x m
  so_far_open of a b is opens noted = record {
    candidate = subst (λ o. IfSome o IsFound) (sym noted.candidate) so_far.candidate;
    each = λ k d lt. elim (noted.noted.each k d lt) [
      | inl fresh ↦ subst IsTried (sym fresh) opens
      | inr old ↦ All-contains IsTried l.tries.items (get_or m.tries.items k d) so_far.each old
    ];
    tries = noted.noted.tries;
    variables =
        IsCounting-noted (HasOwn P r place places) x l m (subst (λ y. IsVariableNoted y l m) (sym is) noted.variable)
        (own, record { first = a; second = b; fit = inr opens.fit; access = subst (λ y. is_access_at r.events y a ≡ true) (sym is) opens.of_these.variable })
        so_far.variables;
  }

-- what was held of it is held
module _ (most x : ℕ) (l m : Least) where
  pub more_candidate : (p : ℕ × ℕ) → IsCandidateNoted x p l m → IsMore most x l m
  more_candidate p noted = record {
    last = λ _. noted.variable.0;
    candidate = noted.more;
    tries = λ of q holds. subst (HoldsTry most of q) (sym noted.tries) holds;
  }

  pub more_variable : IsVariableNoted x l m → m.candidate ≡ l.candidate → m.tries ≡ l.tries → IsMore most x l m
  more_variable noted candidate tries = record {
    last = λ _. noted.0;
    candidate = λ q holds. subst (HoldsUp q) (sym candidate) holds;
    tries = λ of q holds. subst (λ (v : Vec Try Global). HoldsTry most of q v.items) (sym tries) holds;
  }

  pub more_open : (t : Try) → x ≡ t.between.variable → IsOpenNoted most t l m → IsMore most x l m
  more_open t is noted = record {
    last = λ _. noted.variable.0 ∙ ap Some (sym is);
    candidate = λ q holds. subst (HoldsUp q) (sym noted.candidate) holds;
    tries = noted.noted.more;
  }

-- what SHB keeps before the base of the later one is no candidate
known_is_apart : (T : List Event) (a b : ℕ) → a < b → IsKnownBefore T a b → ¬ IsCandidatePair T a b
known_is_apart T a b lt known (inl is) = is.apart known.0 known.1 known.2
known_is_apart T a b lt known (inr is) = let other = is.earlier in absurd (omega arith)

-- a pair that SHB keeps before the base, must-before does not, and no lock guards, is open
pub known_is_open : (r : Recording) (place : ℕ → ℕ) (classes : List ℕ) (infos : List Class) (lists : List (Vec ℕ Global)) (a b : ℕ)
    → IsWellFormed r → IsDisciplined r.events → AreClasses r.events place classes infos → AreLocks r.events lists classes infos
    → IsPair r.events a b → IsKnownBefore r.events a b → ¬ IsForced r.events a b
    → is_kept_pair (keeps_shared lists) classes infos a b ≡ false → IsKind r a b OpenKind
known_is_open r place classes infos lists a b formed rules are locks pair known loose apart =
    let not_candidate : ¬ IsCandidatePair r.events a b = known_is_apart r.events a b pair.earlier known in
    let tells = sharing_tells r formed rules place classes infos lists are locks a b pair.conflict in (
      not_candidate,
      loose,
      (shared_by_none r formed rules a b).1 (λ guarded. true≢false (sym (tells.1 guarded) ∙ apart)),
    )
