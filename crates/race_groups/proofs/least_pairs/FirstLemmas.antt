-- What is kept of each row while the uses are gone through.
use Rattle.std.proofs.Common.{◌≡◌, ℕ, ◌+◌, ◌<◌, ◌⊎◌, true, false, List, All, Contains, Option, Some, None, length, set, filter, refl, sym, ap, ◌∙◌, subst, inl, inr, arith}
use Rattle.std.specs.List.{slice_get}
use Rattle.std.proofs.lemmas.Bool.{cases_eq, or_cases, true≢false}
use Rattle.std.proofs.lemmas.List.{length-set}
use Rattle.std.proofs.lemmas.List.Elements.{All-contains}
use Rattle.std.proofs.lemmas.List.FromFn.{length-range_with_len, get_or-range_with_len}
use Rattle.std.proofs.lemmas.Option.{none-some, same_Some, slice_get_within}
use Rattle.rapid_text.specs.Operations.{is_read, is_write}
use Rattle.rapid_text.specs.Recording.{Recording, IsNamed, IsNamedOp, IsWellFormed}
use Rattle.rapid_text.specs.declared.event.Event.{Event}
use Rattle.rapid_text.specs.declared.event.Op.{Op}
use Rattle.rapid_text.proofs.CallerLemmas.{read-from_test, write-from_test}
use Rattle.trace_rules.proofs.Counts.{slice_get-set}
use Rattle.event_index.specs.Lookups.{before}
use Rattle.event_index.specs.Relations.{IsConflicting, is_access}
use Rattle.event_index.proofs.CallerLemmas.{passes_here}
use Rattle.schedule.proofs.ListLemmas.{Contains-filter}
use Rattle.race_groups.specs.Found.{AreComplete, AreOnce}
use Rattle.race_groups.specs.Groups.{is_between}
use Rattle.race_groups.specs.Kinds.{IsRow}
use Rattle.race_groups.specs.declared.kinds.Row.{Row}
use Rattle.race_groups.specs.least_pairs.Lanes.{access_op}
use Rattle.race_groups.specs.least_pairs.Taking.{HoldsUp}
use Rattle.race_groups.specs.least_pairs.Order.{IsUpTo}
use Rattle.race_groups.specs.least_pairs.Pairs.{AreAt, IsFit, IsLeastPair, IsPair, is_access_at}
use Rattle.race_groups.specs.least_pairs.Uses.{AreFirsts, AreFirstsHeld, AreFirstsNoted, AreUses, AreUsesHeld, IsFirstHeld, IsUsed}
use Rattle.race_groups.specs.declared.least_pairs.uses.Use.{Use}
use Rattle.race_groups.specs.declared.least_pairs.wanted.Wanted.TheVariants.{Any as AnyKind}
use Rattle.race_groups.proofs.least_pairs.UseLemmas.{get_set_here, get_set_other}
use Rattle.race_groups.proofs.least_pairs.BetweenLemmas.{between_here, between_over, is_writing_one}
use Rattle.race_groups.proofs.least_pairs.OrderLemmas.{IsUpTo-refl, IsUpTo-trans}
use Rattle.race_groups.proofs.least_pairs.BasicLemmas.{access_one, at_get, one_row}

-- What was held is held when further pairs were taken in.
module _ (r : Recording) (place : ℕ → ℕ) (rows : List Row) where
  pub IsFirstHeld-more : (old new : List (Option (ℕ × ℕ))) (a b : ℕ) → AreFirstsNoted r place rows old new → IsFirstHeld place rows old a b → IsFirstHeld place rows new a b
  IsFirstHeld-more old new a b noted held =
      let now = noted.more held.at held.kept held.kept_is in
      record {
        at = held.at;
        row = held.row;
        kept = now.0;
        row_is = held.row_is;
        kept_is = now.1;
        there = held.there;
        up = IsUpTo-trans now.0 held.kept (b, a) now.2 held.up;
      }

  pub AreUsesHeld-more : (x : ℕ) (old new : List (Option (ℕ × ℕ))) (u v : Use) → AreFirstsNoted r place rows old new
      → AreUsesHeld r.events place x rows old u v → AreUsesHeld r.events place x rows new u v
  AreUsesHeld-more x old new u v noted are = record {
    held = λ e f s t one two apart.
        let had = are.held e f s t one two apart in
        (λ lt. IsFirstHeld-more old new e f noted (had.0 lt), λ lt. IsFirstHeld-more old new f e noted (had.1 lt));
  }

  pub AreFirstsNoted-refl : (firsts : List (Option (ℕ × ℕ))) → AreFirsts r place rows firsts → AreFirstsNoted r place rows firsts firsts
  AreFirstsNoted-refl firsts are = record { firsts = are; more = λ at p is. (p, is, IsUpTo-refl p) }

  pub AreFirstsNoted-trans : (old mid new : List (Option (ℕ × ℕ))) → AreFirstsNoted r place rows old mid → AreFirstsNoted r place rows mid new → AreFirstsNoted r place rows old new
  AreFirstsNoted-trans old mid new one two = record {
    firsts = two.firsts;
    more = λ at p is.
        let a = one.more at p is in
        let b = two.more at a.0 a.1 in
        (b.0, b.1, IsUpTo-trans b.0 a.0 p b.2 a.2);
  }

  -- A pair is taken in at the row of its places.
  module _ (old : List (Option (ℕ × ℕ))) (are : AreFirsts r place rows old) (at : ℕ) (row : Row) (row_is : slice_get rows at ≡ Some row)
      (known now : Option (ℕ × ℕ)) (known_is : slice_get old at ≡ Some known) (pair : ℕ × ℕ)
      (fit : IsPair r.events pair.1 pair.0) (there : AreAt place row.places pair.1 pair.0)
      (either : (now ≡ known) ⊎ (now ≡ Some pair))
      (kept : (p : ℕ × ℕ) → HoldsUp p known → HoldsUp p now) (taken : (p : ℕ × ℕ) → HoldsUp p (Some pair) → HoldsUp p now) where
    inside : at < length old
    inside = slice_get_within old at known known_is

    is_fit : (p : ℕ × ℕ) → now ≡ Some p → (now ≡ known) ⊎ (now ≡ Some pair) → IsFit r place row.places AnyKind p.1 p.0
    is_fit p is (inl had) = are.each at row p row_is (known_is ∙ ap Some (sym had ∙ is))
    is_fit p is (inr new) =
        let same : pair ≡ p = same_Some pair p (sym new ∙ is) in
        subst (λ (q : ℕ × ℕ). IsFit r place row.places AnyKind q.1 q.0) same (record { pair = fit; at = there; kind = tt })

    pub AreFirstsNoted-set : AreFirstsNoted r place rows old (set old at now)
    AreFirstsNoted-set = record {
      firsts = record {
        len = omega (arith, length-set old at now, are.len);
        each = λ k v p here is.
            elim (slice_get-set old at k now (Some p) inside is) [
              | inl mine ↦
                  let same : row ≡ v = same_Some row v (sym row_is ∙ ap (slice_get rows) (sym mine.0) ∙ here) in
                  subst (λ (w : Row). IsFit r place w.places AnyKind p.1 p.0) same (is_fit p mine.1 either)
              | inr other ↦ are.each k v p here other.1
            ];
      };
      more = λ k p is.
          elim (cases_eq k at) [
            | inl same ↦
                let was : known ≡ Some p = same_Some known (Some p) (sym known_is ∙ ap (slice_get old) (sym same) ∙ is) in
                let held = kept p (p, was, IsUpTo-refl p) in
                (held.0, ap (slice_get (set old at now)) same ∙ get_set_here old at now inside ∙ ap Some held.1, held.2)
            | inr other ↦ (p, get_set_other old at k now (Some p) other is, IsUpTo-refl p)
          ];
    }

    pub IsFirstHeld-set : IsFirstHeld place rows (set old at now) pair.1 pair.0
    IsFirstHeld-set =
        let held = taken pair (pair, refl, IsUpTo-refl pair) in
        record {
          at = at;
          row = row;
          kept = held.0;
          row_is = row_is;
          kept_is = get_set_here old at now inside ∙ ap Some held.1;
          there = there;
          up = held.2;
        }

  -- each conflicting pair has a row, so it is not looked up in vain
  pub row_there : AreComplete r.events place rows → (first second : ℕ) (pair : ℕ × ℕ) → IsPair r.events pair.1 pair.0 → AreAt place (first, second) pair.1 pair.0
      → ((at : ℕ) (row : Row) → slice_get rows at ≡ Some row → is_between row.places.0 row.places.1 first second ≡ false) → ⊥
  row_there complete first second pair fit there none =
      let found = complete pair.1 pair.0 fit.earlier fit.conflict in
      let is = between_over found.row.places.0 found.row.places.1 first second (place pair.1) (place pair.0) first second found.between there
      (between_here first second) in
      true≢false (sym is ∙ none found.at found.row found.is)

  -- at the end
  none_kept : (firsts : List (Option (ℕ × ℕ))) (at : ℕ) (p : ℕ × ℕ) → slice_get firsts at ≡ Some None → slice_get firsts at ≡ Some (Some p) → ⊥
  none_kept firsts at p none is = none-some p (same_Some None (Some p) (sym none ∙ is))

  module _ (firsts : List (Option (ℕ × ℕ))) (are : AreFirsts r place rows firsts) (each : All (IsRow r place) rows) (once : AreOnce rows)
      (held : (a b : ℕ) → IsPair r.events a b → IsFirstHeld place rows firsts a b) where
    pub IsLeastPair-from : (at : ℕ) (row : Row) (first : Option (ℕ × ℕ)) → slice_get rows at ≡ Some row → slice_get firsts at ≡ Some first
        → IsLeastPair r place row.places AnyKind first
    IsLeastPair-from at row None row_is is = λ a b fit.
        let h = held a b fit.pair in
        none_kept firsts at h.kept is (ap (slice_get firsts) (sym (one_row r place rows each once at h.at row h.row a b row_is h.row_is fit.at h.there)) ∙ h.kept_is)
    IsLeastPair-from at row (Some p) row_is is = (
      are.each at row p row_is is,
      λ a b fit.
          let h = held a b fit.pair in
          let kept : slice_get firsts at ≡ Some (Some h.kept) = ap (slice_get firsts) (sym (one_row r place rows each once at h.at row h.row a b row_is h.row_is fit.at h.there)) ∙ h.kept_is in
          let same : p ≡ h.kept = same_Some p h.kept (same_Some (Some p) (Some h.kept) (sym is ∙ kept)) in
          subst (λ (q : ℕ × ℕ). IsUpTo q (b, a)) (sym same) h.up,
    )

-- Where all pairs of the uses of a variable are held, of which one writes, all pairs of the variable are.
module _ (T : List Event) (place : ℕ → ℕ) (x : ℕ) (rows : List Row) (firsts : List (Option (ℕ × ℕ))) (es : List ℕ) (uses : List Use)
    (are : AreUses T place x es uses) (whole : es ≡ filter (is_access_at T x) (before (length T)))
    (held : (k j : ℕ) (u v : Use) → slice_get uses k ≡ Some u → slice_get uses j ≡ Some v → u.is_writing ≡ true → AreUsesHeld T place x rows firsts u v) where
  used : (e : ℕ) → e < length T → is_access_at T x e ≡ true → IsUsed T place x uses e
  used e lt access =
      let within : Contains (before (length T)) e = (e, omega (arith, lt, length-range_with_len 0 (length T)), omega (arith, get_or-range_with_len 0 (length T) e e lt)) in
      All-contains (IsUsed T place x uses) es e are.used (subst (λ (xs : List ℕ). Contains xs e) (sym whole) (Contains-filter (is_access_at T x) (before (length T)) e within access))

  event_is : (e : ℕ) (v : Event) → slice_get T e ≡ Some v → (is : IsUsed T place x uses e) → v ≡ record { thread = is.thread; op = access_op is.found.is_writing x }
  event_is e v at is = same_Some v (record { thread = is.thread; op = access_op is.found.is_writing x }) (sym at ∙ is.of_use.event.event)

  writes_of : (e y : ℕ) (v : Event) → slice_get T e ≡ Some v → (is : IsUsed T place x uses e) → is_write y v.op ≡ true → is.found.is_writing ≡ true
  writes_of e y v at is writes = is_writing_one is.found.is_writing x y (subst (λ (w : Event). is_write y w.op ≡ true) (event_is e v at is) writes)

  -- two events that conflict and are of uses
  both_held : (a b : ℕ) → a < b → (c : IsConflicting T a b) → IsUsed T place x uses a → IsUsed T place x uses b → IsFirstHeld place rows firsts a b
  both_held a b lt c first second =
      let v_is : c.v.thread ≡ first.thread = ap (λ (w : Event). w.thread) (event_is a c.v c.first first) in
      let w_is : c.w.thread ≡ second.thread = ap (λ (w : Event). w.thread) (event_is b c.w c.second second) in
      let y = c.clash.variable in
      elim (or_cases (is_write y c.v.op) (is_write y c.w.op) c.clash.writes) [
        | inl writes ↦
            ((held first.at second.at first.found second.found first.is second.is (writes_of a y c.v c.first first writes)).held a b first.thread second.thread first.of_use second.of_use
            (λ same. c.clash.threads (v_is ∙ same ∙ sym w_is))).0 lt
        | inr writes ↦
            ((held second.at first.at second.found first.found second.is first.is (writes_of b y c.w c.second second writes)).held b a second.thread first.thread second.of_use first.of_use
            (λ same. c.clash.threads (v_is ∙ sym same ∙ sym w_is))).1 lt
      ]

  pub AreFirstsHeld-from : AreFirstsHeld T place rows x firsts
  AreFirstsHeld-from a b pair access =
      let c = pair.conflict in
      let y = c.clash.variable in
      let first = used a (slice_get_within T a c.v c.first) access in
      let one : x ≡ y = access_one first.found.is_writing x y (subst (λ (w : Event). is_access y w.op ≡ true) (event_is a c.v c.first first) c.clash.first) in
      let other : is_access_at T x b ≡ true = passes_here (λ (w : Event). is_access x w.op) T b c.w c.second ∙ ap (λ z. is_access z c.w.op) one ∙ c.clash.second in
      both_held a b pair.earlier c first (used b pair.within other)

-- The variable of a conflicting pair has a name.
pub named_access : (r : Recording) (y : ℕ) (op : Op) → IsNamedOp r op → is_access y op ≡ true → y < length r.variables
named_access r y op named access =
    elim (or_cases (is_read y op) (is_write y op) access) [
      | inl reads ↦ subst (IsNamedOp r) (read-from_test y op reads) named
      | inr writes ↦ subst (IsNamedOp r) (write-from_test y op writes) named
    ]

pub all_held : (r : Recording) → IsWellFormed r → (place : ℕ → ℕ) (rows : List Row) (firsts : List (Option (ℕ × ℕ)))
    → ((y : ℕ) → y < length r.variables → AreFirstsHeld r.events place rows y firsts) → (a b : ℕ) → IsPair r.events a b → IsFirstHeld place rows firsts a b
all_held r formed place rows firsts held a b pair =
    let c = pair.conflict in
    let y = c.clash.variable in
    let named : IsNamed r c.v = at_get (IsNamed r) r.events a c.v formed.named c.first in
    held y (named_access r y c.v.op named.1 c.clash.first) a b pair (passes_here (λ (w : Event). is_access y w.op) r.events a c.v c.first ∙ c.clash.first)

-- the variables that were gone through, and one more
pub AreFirstsHeld-more : (r : Recording) (place : ℕ → ℕ) (rows : List Row) (old new : List (Option (ℕ × ℕ))) (x : ℕ) → AreFirstsNoted r place rows old new
    → ((y : ℕ) → y < x → AreFirstsHeld r.events place rows y old) → AreFirstsHeld r.events place rows x new → (y : ℕ) → y < x + 1 → AreFirstsHeld r.events place rows y new
AreFirstsHeld-more r place rows old new x noted had here y low =
    elim (cases_eq y x) [
      | inl is ↦ subst (λ z. AreFirstsHeld r.events place rows z new) (sym is) here
      | inr other ↦ λ a b pair access. IsFirstHeld-more r place rows old new a b noted (had y (omega (arith, low, other)) a b pair access)
    ]
