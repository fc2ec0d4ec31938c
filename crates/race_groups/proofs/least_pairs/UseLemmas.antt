-- The uses of a variable: one access more, and how far a run of them goes.
use Rattle.std.proofs.Common.{◌≡◌, ◌≢◌, ℕ, ◌+◌, ◌<◌, ◌≤◌, true, Bool, List, [], ◌∷◌, ◌++◌, All, Some, length, set, filter, slice_index, refl, sym, ap, ◌∙◌, subst, inl, inr, arith}
use Rattle.std.specs.List.{slice_get, AllPairs}
use Rattle.std.proofs.lemmas.Bool.{cases_eq}
use Rattle.std.proofs.lemmas.List.{get_or-set_same, get_or-set_other, length-set}
use Rattle.std.proofs.lemmas.List.Elements.{All-get_or, All-push, All-same, All-set, All-weaker, filter_passes}
use Rattle.std.proofs.lemmas.List.FromFn.{length-range_with_len, get_or-range_with_len}
use Rattle.std.proofs.lemmas.List.Kept.{AllPairs-filter}
use Rattle.std.proofs.lemmas.Option.{same_Some, slice_get-get_or, slice_get_within, get_or_from_slice_get}
use Rattle.rapid_text.specs.declared.event.Event.{Event}
use Rattle.event_index.specs.Lookups.{before}
use Rattle.must_order.proofs.JoinLemmas.{slice_get-last}
use Rattle.race_groups.proofs.BuildLemmas.{get_before}
use Rattle.race_groups.specs.least_pairs.Lanes.{access_op}
use Rattle.race_groups.specs.least_pairs.Uses.{AreUses, IsAlike, IsBehind, IsCovered, IsEventOf, IsOfUse, IsOwner, IsRun, IsUse, IsUsed, IsUseNoted, IsUseWidened, IsWidened}
use Rattle.race_groups.specs.declared.least_pairs.uses.Of.{Of}
use Rattle.race_groups.specs.declared.least_pairs.uses.Use.{Use}
use Rattle.race_groups.proofs.least_pairs.BasicLemmas.{at_get}

-- what stands in a list after a write: the new element, and the others as before
pub get_set_here : {X : Type 0} (xs : List X) (i : ℕ) (y : X) → i < length xs → slice_get (set xs i y) i ≡ Some y
get_set_here xs i y lt = slice_get-get_or (set xs i y) i y (omega (arith, length-set xs i y, lt)) ∙ ap Some (get_or-set_same xs i y y lt)

pub get_set_other : {X : Type 0} (xs : List X) (i k : ℕ) (y x : X) → k ≢ i → slice_get xs k ≡ Some x → slice_get (set xs i y) k ≡ Some x
get_set_other xs i k y x other at =
    let low : k < length xs = slice_get_within xs k x at in
    slice_get-get_or (set xs i y) k x (omega (arith, length-set xs i y, low))
    ∙ ap Some (get_or-set_other xs i k y x other ∙ get_or_from_slice_get xs k x x at)

-- the events that pass a test rise
before_rises : (n : ℕ) → AllPairs (λ (a b : ℕ). a < b) (before n)
before_rises n i j d lt within =
    let size = length-range_with_len 0 n in
    let first = get_or-range_with_len 0 n i d (omega arith) in
    let second = get_or-range_with_len 0 n j d (omega arith) in
    omega arith

pub kept_rises : (p : ℕ → Bool) (n : ℕ) (es : List ℕ) → es ≡ filter p (before n) → (i j : ℕ) → i < j → j < length es → slice_index es i < slice_index es j
kept_rises p n es is = subst (λ (xs : List ℕ). (i j : ℕ) → i < j → j < length xs → slice_index xs i < slice_index xs j) (sym is)
    (λ i j lt within. AllPairs-filter (λ (a b : ℕ). a < b) p (before n) (before_rises n) i j 0 lt within)

pub kept_passes : (p : ℕ → Bool) (n : ℕ) (es : List ℕ) → es ≡ filter p (before n) → (i : ℕ) → i < length es → p (slice_index es i) ≡ true
kept_passes p n es is i lt = All-get_or (λ e. p e ≡ true) es i 0 lt (All-same (λ e. p e ≡ true) es (filter p (before n)) is (filter_passes p (before n)))

-- a run that goes on
pub IsRun-more : (uses : List Use) (i n t : ℕ) (u v : Use) → slice_get uses i ≡ Some u → slice_get uses (i + 1) ≡ Some v → IsOwner t u → IsOwner t v
    → IsRun uses (i + 1) n → IsRun uses i n
IsRun-more uses i n t u v at next first second run = record {
  more = omega (arith, run.more);
  within = run.within;
  one = λ s k p q from to here there own.
      elim (cases_eq k i) [
        | inl is ↦
            let same : p ≡ q = same_Some p q (sym here ∙ ap (slice_get uses) (sym is) ∙ there) in
            subst (IsOwner s) same own
        | inr other ↦
            let mine : u ≡ p = same_Some u p (sym at ∙ here) in
            let one : s ≡ t = sym own.0 ∙ ap (λ (w : Use). w.first.thread) (sym mine) ∙ first.0 in
            run.one s k v q (omega (arith, from, other)) to next there (subst (λ r. IsOwner r v) (sym one) second)
      ];
}

pub IsRun-single : (uses : List Use) (i : ℕ) → i < length uses → IsRun uses i (i + 1)
IsRun-single uses i lt = record {
  more = omega arith;
  within = omega arith;
  one = λ s k p q from to here there own.
      let is : i ≡ k = omega arith in
      subst (IsOwner s) (same_Some p q (sym here ∙ ap (slice_get uses) is ∙ there)) own;
}

module _ (T : List Event) (place : ℕ → ℕ) (x : ℕ) where
  -- what is of a use is of one of the same place and kind
  pub IsEventOf-alike : (u v : Use) (f : Of) → v.place ≡ u.place → v.is_writing ≡ u.is_writing → IsEventOf T place x u f → IsEventOf T place x v f
  IsEventOf-alike u v f located writes is = record {
    event = is.event ∙ ap (λ (w : Bool). Some (record { thread = f.thread; op = access_op w x })) (sym writes);
    located = is.located ∙ sym located;
  }

  IsUse-widened : (u v : Use) (f : Of) → IsWidened u f v → IsEventOf T place x u f → IsUse T place x u → IsUse T place x v
  IsUse-widened u v f wide of is =
      let alike : (g : Of) → IsEventOf T place x u g → IsEventOf T place x v g = λ g. IsEventOf-alike u v g wide.located wide.writes in
      record {
        first = alike v.first (subst (IsEventOf T place x u) (sym wide.first) is.first);
        other = elim wide.other [
          | inl same ↦ alike v.other (subst (IsEventOf T place x u) (sym same) is.other)
          | inr more ↦ alike v.other (subst (IsEventOf T place x u) (sym more) of)
        ];
      }

  IsOfUse-widened : (u v : Use) (f : Of) (e t : ℕ) → IsWidened u f v → IsOfUse T place x u e t → IsOfUse T place x v e t
  IsOfUse-widened u v f e t wide of = record {
    event = IsEventOf-alike u v (record { event = e; thread = t }) wide.located wide.writes of.event;
    covered = wide.kept e t of.covered;
  }

  -- one access more, as a use of its own
  module _ (uses : List Use) (w : Use) where
    IsUsed-before : (e : ℕ) → IsUsed T place x uses e → IsUsed T place x (uses ++ w ∷ []) e
    IsUsed-before e is = record { at = is.at; found = is.found; thread = is.thread; is = get_before uses w is.at is.found is.is; of_use = is.of_use }

    IsUsed-last : (e t : ℕ) → IsOfUse T place x w e t → IsUsed T place x (uses ++ w ∷ []) e
    IsUsed-last e t of = record { at = length uses; found = w; thread = t; is = slice_get-last uses w; of_use = of }

  -- or into one that there was
  module _ (uses : List Use) (n : ℕ) (u v : Use) (f : Of) (at : slice_get uses n ≡ Some u) (wide : IsWidened u f v) where
    IsUsed-set : (e : ℕ) → IsUsed T place x uses e → IsUsed T place x (set uses n v) e
    IsUsed-set e is = elim (cases_eq is.at n) [
      | inl same ↦
          let one : is.found ≡ u = same_Some is.found u (sym is.is ∙ ap (slice_get uses) same ∙ at) in
          record {
            at = n;
            found = v;
            thread = is.thread;
            is = get_set_here uses n v (slice_get_within uses n u at);
            of_use = IsOfUse-widened u v f e is.thread wide (subst (λ (w : Use). IsOfUse T place x w e is.thread) one is.of_use);
          }
      | inr other ↦ record { at = is.at; found = is.found; thread = is.thread; is = get_set_other uses n is.at v is.found other is.is; of_use = is.of_use }
    ]

    IsUsed-now : (e t : ℕ) → IsOfUse T place x v e t → IsUsed T place x (set uses n v) e
    IsUsed-now e t of = record { at = n; found = v; thread = t; is = get_set_here uses n v (slice_get_within uses n u at); of_use = of }

  -- The access f was taken in.
  module _ (here : ℕ) (writing : Bool) (f : Of) (event : slice_get T f.event ≡ Some (record { thread = f.thread; op = access_op writing x })) (located : place f.event ≡ here) where
    abbrev fresh : Use
    fresh = record { place = here; is_writing = writing; first = f; other = f }

    of_fresh : IsEventOf T place x fresh f
    of_fresh = record { event = event; located = located }

    fresh_covers : IsCovered fresh f.event f.thread
    fresh_covers = record { first = omega arith; other = λ apart. absurd (apart refl) }

    of_alike : (u : Use) → IsAlike here writing u → IsEventOf T place x u f
    of_alike u alike = IsEventOf-alike fresh u f alike.located alike.writes of_fresh

    pushed : (es : List ℕ) (old : List Use) → AreUses T place x es old → AreUses T place x (es ++ f.event ∷ []) (old ++ fresh ∷ [])
    pushed es old are = record {
      each = All-push (IsUse T place x) old fresh are.each (record { first = of_fresh; other = of_fresh });
      used = All-push (IsUsed T place x (old ++ fresh ∷ [])) es f.event
          (All-weaker (IsUsed T place x old) (IsUsed T place x (old ++ fresh ∷ [])) (IsUsed-before old fresh) es are.used)
          (IsUsed-last old fresh f.event f.thread (record { event = of_fresh; covered = fresh_covers }));
    }

    widened : (es : List ℕ) (old new : List Use) → All (IsBehind f.event) old → IsUseWidened here writing f old new → AreUses T place x es old → AreUses T place x (es ++ f.event ∷ []) new
    widened es old new behind one are =
        let n = one.number in
        let u = one.had in
        let v = one.has in
        let of : IsEventOf T place x u f = of_alike u one.alike in
        let now : List Use = set old n v in
        let is : AreUses T place x (es ++ f.event ∷ []) now = record {
          each = All-set (IsUse T place x) old n v (IsUse-widened u v f one.is of (at_get (IsUse T place x) old n u are.each one.there)) are.each;
          used = All-push (IsUsed T place x now) es f.event
              (All-weaker (IsUsed T place x old) (IsUsed T place x now) (IsUsed-set old n u v f one.there one.is) es are.used)
              (IsUsed-now old n u v f one.there one.is f.event f.thread (record {
                event = IsEventOf-alike u v f one.is.located one.is.writes of;
                covered = one.is.taken (at_get (IsBehind f.event) old n u behind one.there);
              }));
        } in
        subst (AreUses T place x (es ++ f.event ∷ [])) (sym one.set) is

    pub AreUses-noted : (es : List ℕ) (old new : List Use) → All (IsBehind f.event) old → IsUseNoted here writing f old new → AreUses T place x es old → AreUses T place x (es ++ f.event ∷ []) new
    AreUses-noted es old new behind (inl is) are = subst (AreUses T place x (es ++ f.event ∷ [])) (sym is) (pushed es old are)
    AreUses-noted es old new behind (inr one) are = widened es old new behind one are

-- no use has an event that comes after a later access
behind_widened : (n : ℕ) (u v : Use) (f : Of) → IsWidened u f v → f.event ≤ n → IsBehind n u → IsBehind n v
behind_widened n u v f wide le behind = (
  subst (λ (g : Of). g.event ≤ n) (sym wide.first) behind.0,
  elim wide.other [
    | inl same ↦ subst (λ (g : Of). g.event ≤ n) (sym same) behind.1
    | inr more ↦ subst (λ (g : Of). g.event ≤ n) (sym more) le
  ],
)

pub AreBehind-noted : (n here : ℕ) (writing : Bool) (f : Of) (old new : List Use) → f.event ≤ n → IsUseNoted here writing f old new → All (IsBehind n) old → All (IsBehind n) new
AreBehind-noted n here writing f old new le (inl is) all =
    All-same (IsBehind n) new (old ++ record { place = here; is_writing = writing; first = f; other = f } ∷ []) is (All-push (IsBehind n) old (record { place = here; is_writing = writing; first = f; other = f }) all (le, le))
AreBehind-noted n here writing f old new le (inr one) all =
    All-same (IsBehind n) new (set old one.number one.has) one.set
    (All-set (IsBehind n) old one.number one.has (behind_widened n one.had one.has f one.is le (at_get (IsBehind n) old one.number one.had all one.there)) all)

-- the runs from a place on, with that of the place before
pub AreRuns-more : (uses : List Use) (runs : List ℕ) (done at end : ℕ) → length runs ≡ length uses → at + 1 + done ≡ length uses → IsRun uses at end
    → ((i : ℕ) → length uses ≤ i + done → i < length uses → IsRun uses i (slice_index runs i))
    → (i : ℕ) → length uses ≤ i + (done + 1) → i < length uses → IsRun uses i (slice_index (set runs at end) i)
AreRuns-more uses runs done at end len here run rest i from low =
    elim (cases_eq i at) [
      | inl is ↦
          let now : slice_index (set runs at end) i ≡ end = ap (slice_index (set runs at end)) is ∙ get_or-set_same runs at end 0 (omega (arith, len, here)) in
          subst (IsRun uses i) (sym now) (subst (λ k. IsRun uses k end) (sym is) run)
      | inr other ↦ subst (IsRun uses i) (sym (get_or-set_other runs at i end 0 other)) (rest i (omega (arith, from, here, other)) low)
    ]
