-- The cuts of SHB and of must-before.
use Rattle.std.proofs.Common.{◌≡◌, ℕ, ◌<◌, ◌≤◌, List, length, Option, Some, None, ◌↔◌, ◌⊎◌, cond, nat_lt, refl, sym, ap, ◌∙◌, subst, arith, inl, inr}
use Rattle.std.proofs.lemmas.Bool.{cases_eq, cases_lt, lt-ltb, le-ltb}
use Rattle.std.proofs.lemmas.Option.{slice_get_within, get_or_from_slice_get}
use Rattle.std.proofs.lemmas.List.Elements.{All-get_or}
use Rattle.rapid_text.specs.Recording.{Recording, IsWellFormed, IsNamed}
use Rattle.rapid_text.specs.declared.event.Event.{Event}
use Rattle.trace_rules.specs.Rules.{IsDisciplined}
use Rattle.event_index.specs.Events.{thread_at}
use Rattle.event_index.specs.Lookups.{events_of, place_of, base_of}
use Rattle.event_index.proofs.CallerLemmas.{base_of-earlier, thread_event}
use Rattle.shb_clocks.specs.HappensBefore.{IsShbBefore, chain}
use Rattle.shb_clocks.specs.Known.{TellsShb, known_of}
use Rattle.shb_clocks.specs.SharedRows.{Counted, count_of}
use Rattle.shb_clocks.proofs.CallerLemmas.{base-after, Edge-base, IsShbBefore-le, along_thread}
use Rattle.must_order.specs.MustBefore.{IsMustBefore, IsForced, link, by_base}
use Rattle.must_order.specs.Telling.{TellsMust}
use Rattle.must_order.proofs.OrderLemmas.{IsMustBefore-trans, IsMustBefore-le}
use Rattle.must_order.proofs.OrderLemmas as must
use Rattle.race_groups.specs.Cuts.{IsCutOf}
use Rattle.race_groups.specs.Ends.{IsKnownBefore, known_by, known_before, counted_by, counted_before}

-- the base of b is there, and is related to a
abbrev pub IsBeforeBase : List Event → (ℕ → ℕ → Type 0) → ℕ → ℕ → Type 0
IsBeforeBase T R a b = (d : ℕ) × (base_of T b ≡ Some d) × R a d

option_cases : (o : Option ℕ) → (o ≡ None) ⊎ ((d : ℕ) × (o ≡ Some d))
option_cases None = inl refl
option_cases (Some d) = inr (d, refl)

module _ (T : List Event) (rules : IsDisciplined T) where
  -- the base of a later event of the thread
  later_base : (b c u : ℕ) → b < c → thread_at T b ≡ Some u → thread_at T c ≡ Some u → (e : ℕ) × (base_of T c ≡ Some e) × (thread_at T e ≡ Some u) × (b ≤ e)
  later_base b c u lt tb tc =
      let found = thread_event T c u tc in
      let after = base-after T c found.0 found.1 b lt (tb ∙ ap Some (sym found.2)) in
      (after.0, after.1, after.2 ∙ ap Some found.2, after.3)

  module _ (R : ℕ → ℕ → Type 0) (before : (a d : ℕ) → R a d → a ≤ d) (step : (a b c e u : ℕ) → R a c → base_of T b ≡ Some c → thread_at T b ≡ Some u → thread_at T e ≡ Some u → b ≤ e → R a e) where
    kept_on : (a b c u : ℕ) → b ≤ c → thread_at T b ≡ Some u → thread_at T c ≡ Some u → IsBeforeBase T R a b → IsBeforeBase T R a c
    kept_on a b c u le tb tc known =
        elim (cases_eq b c) [
          | inl is ↦ subst (IsBeforeBase T R a) is known
          | inr ne ↦
              let e = later_base b c u (omega arith) tb tc in
              (e.0, e.1, step a b known.0 e.0 u known.2 known.1 tb e.2 e.3)
        ]

    earlier_than : (a b : ℕ) → IsBeforeBase T R a b → a < b
    earlier_than a b known =
        let le = before a known.0 known.2 in
        let lt = base_of-earlier T rules b known.0 known.1 in
        omega (arith, le, lt)

  -- SHB
  shb_step : (a b c e u : ℕ) → IsShbBefore T a c → base_of T b ≡ Some c → thread_at T b ≡ Some u → thread_at T e ≡ Some u → b ≤ e → IsShbBefore T a e
  shb_step a b c e u known is tb te le = along_thread T a b e u (chain c b known (Edge-base T b c is)) tb te le

  -- counts that tell such a relation of each event are a cut before its base
  module _ (R : ℕ → ℕ → Type 0) (before : (a d : ℕ) → R a d → a ≤ d) (step : (a b c e u : ℕ) → R a c → base_of T b ≡ Some c → thread_at T b ≡ Some u → thread_at T e ≡ Some u → b ≤ e → R a e) (count : ℕ → ℕ → ℕ) (within : (d t : ℕ) → d < length T → count d t ≤ length (events_of T t)) (tells : (a d t : ℕ) → d < length T → thread_at T a ≡ Some t → (place_of T a < count d t) ↔ R a d) (ends : ℕ → ℕ → ℕ) (none_is : (b t : ℕ) → base_of T b ≡ None → ends b t ≡ 0) (some_is : (b d t : ℕ) → base_of T b ≡ Some d → ends b t ≡ count d t) where
    end_within : (b t : ℕ) → b < length T → ends b t ≤ length (events_of T t)
    end_within b t lt =
        elim (option_cases (base_of T b)) [
          | inl none ↦ let is = none_is b t none in omega (arith, is)
          | inr some ↦
              let is = some_is b some.0 t some.1 in
              let early = base_of-earlier T rules b some.0 some.1 in
              let le = within some.0 t (omega (arith, early)) in
              omega (arith, is, le)
        ]

    end_reached : (a b t : ℕ) → b < length T → thread_at T a ≡ Some t → place_of T a < ends b t → IsBeforeBase T R a b
    end_reached a b t lt at low =
        elim (option_cases (base_of T b)) [
          | inl none ↦ let is = none_is b t none in absurd (omega (arith, is))
          | inr some ↦
              let is = some_is b some.0 t some.1 in
              let early = base_of-earlier T rules b some.0 some.1 in
              (some.0, some.1, (tells a some.0 t (omega (arith, early)) at).0 (omega (arith, is)))
        ]

    end_counted : (a b t : ℕ) → b < length T → thread_at T a ≡ Some t → IsBeforeBase T R a b → place_of T a < ends b t
    end_counted a b t lt at known =
        let is = some_is b known.0 t known.1 in
        let early = base_of-earlier T rules b known.0 known.1 in
        let low = (tells a known.0 t (omega (arith, early)) at).1 known.2 in
        omega (arith, is, low)

    pub IsCutOf-ends : IsCutOf T (IsBeforeBase T R) ends
    IsCutOf-ends = record {
      within = end_within;
      reached = λ a b t lt at low. end_reached a b t lt at low;
      counted = λ a b t lt at known. end_counted a b t lt at known;
      earlier = λ a b known. earlier_than R before step a b known;
      kept = λ a b c u le tb tc known. kept_on R before step a b c u le tb tc known;
    }

  -- what SHB keeps before an event's base
  pub IsCutOf-known : TellsShb T (known_of T) → IsCutOf T (IsKnownBefore T) (known_before T)
  IsCutOf-known told =
      IsCutOf-ends (IsShbBefore T) (IsShbBefore-le T rules) shb_step (known_of T)
      (λ d t lt. told.within d t)
      (λ a d t lt at. told.tells a d t at)
      (known_before T)
      (λ b t none. ap (λ o. known_by T o t) none)
      (λ b d t some. ap (λ o. known_by T o t) some)

  -- must-before
  must_step : (a b c e u : ℕ) → IsMustBefore T a c → base_of T b ≡ Some c → thread_at T b ≡ Some u → thread_at T e ≡ Some u → b ≤ e → IsMustBefore T a e
  must_step a b c e u known is tb te le =
      IsMustBefore-trans T a b e (link a c b known (by_base is)) (must.along_thread T rules b e u tb te le)

  -- the rows of must-before count what is forced
  module _ (rows : Counted) (threads : ℕ) (wide : rows.width ≡ threads) (named : (a t : ℕ) → thread_at T a ≡ Some t → t < threads) (told : TellsMust T threads (count_of rows)) where
    abbrev count : ℕ → ℕ → ℕ
    count d t = cond (nat_lt t rows.width) (count_of rows d t) 0

    count_within : (d t : ℕ) → d < length T → count d t ≤ length (events_of T t)
    count_within d t lt =
        elim (cases_lt t threads) [
          | inl low ↦
              let is : count d t ≡ count_of rows d t = ap (λ b. cond b (count_of rows d t) 0) (lt-ltb t rows.width (omega (arith, wide))) in
              let le = told.within d t lt low in
              omega (arith, is, le)
          | inr high ↦
              let is : count d t ≡ 0 = ap (λ b. cond b (count_of rows d t) 0) (le-ltb t rows.width (omega (arith, wide))) in
              omega (arith, is)
        ]

    count_tells : (a d t : ℕ) → d < length T → thread_at T a ≡ Some t → (place_of T a < count d t) ↔ IsMustBefore T a d
    count_tells a d t lt at =
        let low = named a t at in
        let is : count d t ≡ count_of rows d t = ap (λ b. cond b (count_of rows d t) 0) (lt-ltb t rows.width (omega (arith, wide))) in
        let both = told.tells a d t lt low at in
        (λ under. both.0 (omega (arith, is)), λ known. (let under = both.1 known in omega (arith, is, under)))

    pub IsCutOf-forced : IsCutOf T (IsForced T) (counted_before rows T)
    IsCutOf-forced =
        IsCutOf-ends (IsMustBefore T) (IsMustBefore-le T rules) must_step count count_within count_tells (counted_before rows T)
        (λ b t none. ap (λ o. counted_by rows o t) none)
        (λ b d t some. ap (λ o. counted_by rows o t) some)

-- the thread of an event has a name
pub thread_named : (r : Recording) → IsWellFormed r → (a t : ℕ) → thread_at r.events a ≡ Some t → t < length r.threads
thread_named r formed a t at =
    let found = thread_event r.events a t at in
    let named : IsNamed r found.0 =
    subst (IsNamed r) (get_or_from_slice_get r.events a found.0 found.0 found.1) (All-get_or (IsNamed r) r.events a found.0 (slice_get_within r.events a found.0 found.1) formed.named)
    in
    let is : found.0.thread ≡ t = found.2 in
    let low = named.0 in
    omega (arith, is, low)
