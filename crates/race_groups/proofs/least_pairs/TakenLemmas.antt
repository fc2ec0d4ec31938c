-- What was taken in stays so, and the lanes have all pairs of their variable.
use Rattle.std.proofs.Common.{◌≡◌, ℕ, ◌+◌, ◌<◌, ◌==◌, true, List, length, filter, Contains, Some, slice_get, slice_index, get_or, sym, ap, ◌∙◌, subst, arith, inl, inr}
use Rattle.std.proofs.lemmas.Bool.{cases_eq, eqb-true, true≢false}
use Rattle.std.proofs.lemmas.Grind.{get_or_default_zero}
use Rattle.std.proofs.lemmas.List.{get_or_default}
use Rattle.std.proofs.lemmas.Option.{slice_get-get_or}
use Rattle.rapid_text.specs.declared.event.Event.{Event}
use Rattle.rapid_text.specs.declared.event.Op.{Op}
use Rattle.rapid_text.specs.declared.event.Op.TheVariants.{Read, Write, Acquire, Release, Fork, Join}
use Rattle.event_index.specs.Lookups.{before}
use Rattle.event_index.specs.Relations.{is_access}
use Rattle.event_index.proofs.CallerLemmas.{passes_here}
use Rattle.race_groups.specs.least_pairs.Pairs.{IsPair, is_access_at}
use Rattle.rapid_text.specs.Recording.{Recording}
use Rattle.race_groups.specs.declared.kinds.Row.{Row}
use Rattle.race_groups.specs.least_pairs.Going.{AreMore, AreTakenBefore, AreTakenWith, IsHeld, IsTaken}
use Rattle.race_groups.specs.least_pairs.Lanes.{IsInLanes}
use Rattle.race_groups.specs.declared.least_pairs.lanes.Lane.{Lane}
use Rattle.race_groups.specs.declared.least_pairs.lanes.Later.{Later}
use Rattle.race_groups.specs.declared.least_pairs.leasts.Search.{Search}
use Rattle.race_groups.proofs.least_pairs.AccessLemmas.{access_before, accesses_before}
use Rattle.race_groups.specs.declared.least_pairs.least.Least.{Least}
use Rattle.race_groups.proofs.least_pairs.HeldLemmas.{candidate_stays, open_stays, variable_stays}
use Rattle.race_groups.proofs.least_pairs.LaneFacts.{at_place}
use Rattle.race_groups.proofs.least_pairs.WindowLemmas.{only_left}

module _ (r : Recording) (place : ℕ → ℕ) (rows : List Row) (most x : ℕ) (old new : List Least) (more : AreMore most x old new) (a b : ℕ) where
  pub IsHeld-more : IsHeld r place rows most old a b → IsHeld r place rows most new a b
  IsHeld-more h = record {
    candidate = λ kind. candidate_stays most x old new more place rows a b (h.candidate kind);
    opens = λ of these kind. open_stays most x old new more place rows of a b (h.opens of these kind);
  }

  pub IsTaken-more : IsTaken r place rows most x old a b → IsTaken r place rows most x new a b
  IsTaken-more h = record {
    held = IsHeld-more h.held;
    counted = λ either. variable_stays most x old new more place rows a b (h.counted either);
  }

-- an operation accesses one variable
pub access_one : (op : Op) (x y : ℕ) → is_access x op ≡ true → is_access y op ≡ true → x ≡ y
access_one (Read z) x y one other = sym (eqb-true z x (only_left (z == x) one)) ∙ eqb-true z y (only_left (z == y) other)
access_one (Write z) x y one other = sym (eqb-true z x one) ∙ eqb-true z y other
access_one (Acquire l) x y one other = absurd (true≢false (sym one))
access_one (Release l) x y one other = absurd (true≢false (sym one))
access_one (Fork u) x y one other = absurd (true≢false (sym one))
access_one (Join u) x y one other = absurd (true≢false (sym one))

-- the later event of a pair accesses the variable of the earlier one
pub access_both : (T : List Event) (x a b : ℕ) → IsPair T a b → is_access_at T x a ≡ true → is_access_at T x b ≡ true
access_both T x a b pair is =
    let c = pair.conflict in
    let y = c.clash.variable in
    let same : x ≡ y = access_one c.v.op x y (sym (passes_here (λ (e : Event). is_access x e.op) T a c.v c.first) ∙ is) c.clash.first in
    passes_here (λ (e : Event). is_access x e.op) T b c.w c.second ∙ ap (λ (z : ℕ). is_access z c.w.op) same ∙ c.clash.second

-- what a list has stands at a place of it
pub at_some : {X : Type 0} (xs : List X) (x : X) → Contains xs x → (i : ℕ) × (i < length xs) × (slice_get xs i ≡ Some x)
at_some xs x (i, lt, is) = (i, lt, slice_get-get_or xs i x lt ∙ ap Some is)

-- more was found
pub AreTakenBefore-more : (s : Search) (x n : ℕ) (old new : List Least) → AreMore s.most x old new → AreTakenBefore s x old n → AreTakenBefore s x new n
AreTakenBefore-more s x n old new more before a b pair access lt =
    IsTaken-more s.indexed.now (slice_index s.places.now) s.groups.now.rows.items s.most x old new more a b (before a b pair access lt)

pub AreTakenWith-more : (s : Search) (old new : List Least) (l : Lane) (later : Later) → AreMore s.most later.variable old new → AreTakenWith s old l later → AreTakenWith s new l later
AreTakenWith-more s old new l later more taken k lt pair =
    IsTaken-more s.indexed.now (slice_index s.places.now) s.groups.now.rows.items s.most later.variable old new more (at_place l k) later.event (taken k lt pair)

-- One access more was taken in with all before it, which are in the lanes.
module _ (s : Search) (x : ℕ) (xs : List ℕ) (are : xs ≡ filter (is_access_at s.indexed.now.events x) (before (length s.indexed.now.events))) (n : ℕ) (lt : n < length xs)
    (old new : List Least) (more : AreMore s.most x old new) (lanes : List Lane) (later : Later) (event_is : later.event ≡ slice_index xs n) (variable_is : later.variable ≡ x)
    (whole : (i : ℕ) → i < n → IsInLanes lanes (slice_index xs i)) (taken : (i : ℕ) (l : Lane) → slice_get lanes i ≡ Some l → AreTakenWith s new l later) where
  abbrev Taken : ℕ → ℕ → Type 0
  Taken a b = IsTaken s.indexed.now (slice_index s.places.now) s.groups.now.rows.items s.most x new a b

  with_all : (a : ℕ) → IsPair s.indexed.now.events a later.event → is_access_at s.indexed.now.events x a ≡ true → Taken a later.event
  with_all a pair access =
      let early = pair.earlier in
      let here = get_or_default xs n (length s.indexed.now.events) 0 lt in
      let at = access_before s.indexed.now.events x xs are n a access (omega (arith, early, event_is, here)) in
      let there : IsInLanes lanes a = subst (IsInLanes lanes) at.2 (whole at.0 at.1) in
      let i = at_some lanes there.lane there.among in
      let k : ℕ = there.at.0 in
      let is : at_place there.lane k ≡ a = sym (get_or_default_zero there.lane.events.items k a there.at.1) ∙ there.at.2 in
      let pair_then : IsPair s.indexed.now.events (at_place there.lane k) later.event = subst (λ (d : ℕ). IsPair s.indexed.now.events d later.event) (sym is) pair in
      subst (λ (d : ℕ). Taken d later.event) is
      (subst (λ (y : ℕ). IsTaken s.indexed.now (slice_index s.places.now) s.groups.now.rows.items s.most y new (at_place there.lane k) later.event) variable_is
      (taken i.0 there.lane i.2 k there.at.1 pair_then))

  pub taken_on : AreTakenBefore s x old (get_or xs n (length s.indexed.now.events)) → AreTakenBefore s x new (get_or xs (n + 1) (length s.indexed.now.events))
  taken_on known a b pair access under =
      let at = access_before s.indexed.now.events x xs are (n + 1) b (access_both s.indexed.now.events x a b pair access) under in
      elim (cases_eq at.0 n) [
        | inl same ↦
            let is : later.event ≡ b = event_is ∙ ap (slice_index xs) (sym same) ∙ at.2 in
            subst (Taken a) is (with_all a (subst (IsPair s.indexed.now.events a) (sym is) pair) access)
        | inr apart ↦
            let low : at.0 < n = omega (arith, at.1) in
            let here = get_or_default xs n (length s.indexed.now.events) 0 lt in
            let up = accesses_before s.indexed.now.events x xs are at.0 n low lt in
            IsTaken-more s.indexed.now (slice_index s.places.now) s.groups.now.rows.items s.most x old new more a b
            (known a b pair access (omega (arith, up, here, at.2)))
      ]
