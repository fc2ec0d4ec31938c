-- What is found of each row once all variables were gone through.
use Rattle.std.proofs.Common.{◌≡◌, ◌≢◌, ℕ, ◌<◌, ◌⊎◌, ◌↔◌, true, IsTrue, IfSome, List, All, length, slice_get, Option, Some, None, refl, sym, ap, ◌∙◌, subst, arith, inl, inr}
use Rattle.std.specs.List.{slice_index_or}
use Rattle.std.proofs.lemmas.Bool.{cases_order}
use Rattle.std.proofs.lemmas.List.Elements.{All-get_or}
use Rattle.std.proofs.lemmas.Option.{same_Some}
use Rattle.indexmap.proofs.IndexTableLemmas.Writes.{index_any_default}
use Rattle.rapid_text.specs.Recording.{Recording, IsWellFormed, IsNamed}
use Rattle.rapid_text.specs.declared.event.Event.{Event}
use Rattle.event_index.specs.Lookups.{before}
use Rattle.event_index.specs.Relations.{is_access}
use Rattle.event_index.proofs.CallerLemmas.{passes_here, passes_event}
use Rattle.race_groups.specs.Found.{AreOnce}
use Rattle.race_groups.specs.Groups.{IsCountOf}
use Rattle.race_groups.specs.Kinds.{IsRow}
use Rattle.race_groups.specs.declared.kinds.Row.{Row}
use Rattle.race_groups.specs.least_pairs.Going.{AreHeldBelow, AreSoFar}
use Rattle.race_groups.specs.least_pairs.Taking.{HoldsTry}
use Rattle.race_groups.specs.least_pairs.Noting.{HasOwn, IsSoFar}
use Rattle.race_groups.specs.least_pairs.Order.{IsAhead, IsUpTo}
use Rattle.race_groups.specs.least_pairs.Pairs.{AreFirstTries, AreLeasts, HasPair, IsFit, IsLeastPair, IsOf, IsOpenOf, IsPair, is_access_at}
use Rattle.race_groups.specs.declared.least_pairs.least.Least.{Least}
use Rattle.race_groups.specs.declared.least_pairs.tries.Between.{Between}
use Rattle.race_groups.specs.declared.least_pairs.tries.Try.{Try}
use Rattle.race_groups.specs.declared.least_pairs.wanted.Wanted.TheVariants.{Candidate}
use Rattle.race_groups.proofs.ThreadLemmas.{All-before}
use Rattle.race_groups.proofs.least_pairs.FirstLemmas.{named_access}
use Rattle.race_groups.proofs.least_pairs.NextLemmas.{all_below}
use Rattle.race_groups.proofs.least_pairs.RowLemmas.{no_candidate}
use Rattle.race_groups.proofs.least_pairs.TakenLemmas.{access_one}
use Rattle.race_groups.proofs.least_pairs.WindowLemmas.{between}
use Rattle.race_groups.proofs.least_pairs.BasicLemmas.{at_get, one_row}

none_some : {X : Type 0} (x : X) → ◌≢◌ {A = Option X} None (Some x)
none_some x same = cc

same_between : (o k : Between) → o.variable ≡ k.variable → o.earlier ≡ k.earlier → o.later ≡ k.later → o ≡ k
same_between o k v e l =
    ap (λ (n : ℕ). between n o.earlier o.later) v ∙ ap (λ (n : ℕ). between k.variable n o.later) e ∙ ap (λ (n : ℕ). between k.variable k.earlier n) l

-- a pair is of one variable and two threads
one_between : (T : List Event) (a b : ℕ) (o k : Between) → IsOf T o a b → IsOf T k a b → o ≡ k
one_between T a b o k one other =
    let first = passes_event (λ (v : Event). is_access o.variable v.op) T a one.variable in
    let v : Event = first.0 in
    let also : is_access k.variable v.op ≡ true = sym (passes_here (λ (w : Event). is_access k.variable w.op) T a v first.1) ∙ other.variable in
    same_between o k (access_one v.op o.variable k.variable first.2 also) (same_Some o.earlier k.earlier (sym one.earlier ∙ other.earlier))
    (same_Some o.later k.later (sym one.later ∙ other.later))

-- pairs that stand one after the other and are not the same
ahead : (p q : ℕ × ℕ) → IsUpTo p q → (p.0 ≡ q.0 → p.1 ≡ q.1 → ⊥) → IsAhead p q
ahead p q up apart = elim up [
  | inl lt ↦ inl lt
  | inr same ↦
      let is = same.0 in
      let le = same.1 in
      elim (cases_order p.1 q.1) [
        | inl also ↦ absurd (apart is also)
        | inr (inl lt) ↦ inr (is, lt)
        | inr (inr gt) ↦ absurd (omega (arith, le, gt))
      ]
]

-- what is read at a place does not rest on what stands for a place that is none
slice_index_or-default : {X : Type 0} (xs : List X) (k : ℕ) (d e : X) → k < length xs → slice_index_or xs k d ≡ slice_index_or xs k e
slice_index_or-default xs k d e lt = index_any_default xs k d e lt

moved : (P : ℕ → ℕ → Type 0) (p q : ℕ × ℕ) → q.0 ≡ p.0 → q.1 ≡ p.1 → P p.1 p.0 → P q.1 q.0
moved P p q later earlier holds = subst (λ (a : ℕ). P a q.0) (sym earlier) (subst (λ (b : ℕ). P p.1 b) (sym later) holds)

All-from_tries : (ts : List Try) (P : Try → Type 0) → ((i : ℕ) (d : Try) → i < length ts → P (slice_index_or ts i d)) → All P ts
All-from_tries ts P each = λ i d lt. each i d lt

-- once all variables were gone through, those with P were counted
pub variables_counted : (r : Recording) → IsWellFormed r → (place : ℕ → ℕ) (places : ℕ × ℕ) (most : ℕ) (P : ℕ → Type 0) (l : Least)
    → IsSoFar r place places most P (length r.variables) l → IsCountOf (HasOwn P r place places) (before (length r.variables)) l.variables
variables_counted r formed place places most P l here =
    let X : ℕ = length r.variables in
    let c = here.variables in
    elim c.now [
      | inl counted ↦
          let has : HasPair r place places X = counted.1.1 in
          let event = passes_event (λ (v : Event). is_access X v.op) r.events has.first has.access in
          let v : Event = event.0 in
          let named : IsNamed r v = at_get (IsNamed r) r.events has.first v formed.named event.1 in
          let low = named_access r X v.op named.1 event.2 in
          absurd (omega (arith, low))
      | inr done ↦ subst (IsCountOf (HasOwn P r place places) (before X)) (sym done.1) c.count
    ]

module _ (r : Recording) (formed : IsWellFormed r) (place : ℕ → ℕ) (rows : List Row) (rows_are : All (IsRow r place) rows) (once : AreOnce rows) (most : ℕ) (P : ℕ → Type 0) (all : (y : ℕ) → P y)
    (leasts : List Least) (far : AreSoFar r place rows most P (length r.variables) leasts) (held : AreHeldBelow r place rows most P (length r.variables) leasts) (at : ℕ) (row : Row) (l : Least)
    (is : slice_get rows at ≡ Some row) (found : slice_get leasts at ≡ Some l) where
  abbrev X : ℕ
  X = length r.variables

  here : IsSoFar r place row.places most P X l
  here = far.each at row l is found

  -- the variable of a pair has a name
  variable_of : (a b : ℕ) → IsPair r.events a b → (y : ℕ) × (y < X) × (is_access_at r.events y a ≡ true)
  variable_of a b pair =
      let c = pair.conflict in
      let y = c.clash.variable in
      let named : IsNamed r c.v = at_get (IsNamed r) r.events a c.v formed.named c.first in
      (y, named_access r y c.v.op named.1 c.clash.first, passes_here (λ (w : Event). is_access y w.op) r.events a c.v c.first ∙ c.clash.first)

  found_same : (k : ℕ) (m : Least) → k ≡ at → slice_get leasts k ≡ Some m → m ≡ l
  found_same k m same at_k = same_Some m l (sym at_k ∙ ap (slice_get leasts) same ∙ found)

  candidate_up : (a b : ℕ) → IsFit r place row.places Candidate a b → (q : ℕ × ℕ) × (l.candidate ≡ Some q) × IsUpTo q (b, a)
  candidate_up a b fit =
      let v = variable_of a b fit.pair in
      let h = (held v.0 a b v.1 (all v.0) fit.pair v.2).candidate fit.kind in
      let same = found_same h.at h.found (one_row r place rows rows_are once at h.at row h.row a b is h.row_is fit.at h.there) h.found_is in
      (h.holds.0, sym (ap (λ (m : Least). m.candidate) same) ∙ h.holds.1, h.holds.2)

  open_held : (of : Between) (a b : ℕ) → IsOpenOf r place row.places of a b → (0 < row.counts.candidates) ⊎ HoldsTry most of (b, a) l.tries.items
  open_held of a b o =
      let v = variable_of a b o.fit.pair in
      let h = (held v.0 a b v.1 (all v.0) o.fit.pair v.2).opens of o.of_these o.fit.kind in
      let place_is = one_row r place rows rows_are once at h.at row h.row a b is h.row_is o.fit.at h.there in
      let same = found_same h.at h.found place_is h.found_is in
      let row_is : h.row ≡ row = same_Some h.row row (sym h.row_is ∙ ap (slice_get rows) place_is ∙ is) in
      elim h.holds [
        | inl some ↦ inl (subst (λ (w : Row). 0 < w.counts.candidates) row_is some)
        | inr tries ↦ inr (subst (λ (m : Least). HoldsTry most of (b, a) m.tries.items) same tries)
      ]

  least_candidate : (known : Option (ℕ × ℕ)) → l.candidate ≡ known → IsLeastPair r place row.places Candidate known
  least_candidate None none = λ a b fit. let up = candidate_up a b fit in none_some up.0 (sym none ∙ up.1)
  least_candidate (Some p) some = (
    subst (λ (o : Option (ℕ × ℕ)). IfSome o (λ q. IsFit r place row.places Candidate q.1 q.0)) some here.candidate,
    λ a b fit.
        let up = candidate_up a b fit in
        let same : up.0 ≡ p = same_Some up.0 p (sym up.1 ∙ some) in
        subst (λ (q : ℕ × ℕ). IsUpTo q (b, a)) same up.2,
  )

  module _ (none : l.candidate ≡ None) where
    counts_none : row.counts.candidates ≡ 0
    counts_none = no_candidate r place row (at_get (IsRow r place) rows at row rows_are is) (least_candidate None none)

    tried : (of : Between) (a b : ℕ) → IsOpenOf r place row.places of a b → HoldsTry most of (b, a) l.tries.items
    tried of a b o = elim (open_held of a b o) [ inl some ↦ absurd (omega (arith, some, counts_none)) | inr tries ↦ tries ]

    each_at : (i : ℕ) (d : Try) → i < length l.tries.items
        → IsOpenOf r place row.places (slice_index_or l.tries.items i d).between (slice_index_or l.tries.items i d).pair.1 (slice_index_or l.tries.items i d).pair.0
    each_at i d lt = All-get_or (λ (t : Try). IsOpenOf r place row.places t.between t.pair.1 t.pair.0) l.tries.items i d lt here.each

    least_at : (i : ℕ) (d : Try) → i < length l.tries.items → (a b : ℕ) → IsOpenOf r place row.places (slice_index_or l.tries.items i d).between a b
        → IsUpTo (slice_index_or l.tries.items i d).pair (b, a)
    least_at i d lt a b o =
        let ts = l.tries.items in
        let t = slice_index_or ts i d in
        elim (tried t.between a b o) [
          | inl some ↦
              let k : ℕ = some.0 in
              let u : Try = some.1 in
              let at_k : slice_index_or ts k d ≡ u = slice_index_or-default ts k d u some.2 ∙ some.3 in
              elim (cases_order i k) [
                | inl same ↦ subst (λ (w : Try). IsUpTo w.pair (b, a)) (sym (ap (λ (j : ℕ). slice_index_or ts j d) same ∙ at_k)) some.4.1
                | inr (inl lt') ↦
                    absurd (here.tries.once i k d lt' some.2 (sym some.4.0 ∙ ap (λ (w : Try). w.between) (sym at_k)))
                | inr (inr gt) ↦ absurd (here.tries.once k i d gt lt (ap (λ (w : Try). w.between) at_k ∙ some.4.0))
              ]
          | inr full ↦ All-get_or (λ (w : Try). IsUpTo w.pair (b, a)) ts i d lt full.1
        ]

    first_tries : AreFirstTries r place row.places most l.tries.items
    first_tries = record {
      each = here.each;
      least = All-from_tries l.tries.items (λ (t : Try). (a b : ℕ) → IsOpenOf r place row.places t.between a b → IsUpTo t.pair (b, a)) least_at;
      rising = λ i j d lt inside.
          let ts = l.tries.items in
          let one = each_at i d (omega (arith, lt, inside)) in
          let other = each_at j d inside in
          let t = slice_index_or ts i d in
          let u = slice_index_or ts j d in
          ahead t.pair u.pair (here.tries.rising i j d lt inside)
          (λ later earlier. here.tries.once i j d lt inside (one_between r.events t.pair.1 t.pair.0 t.between u.between one.of_these (moved (λ a b. IsOf r.events u.between a b) u.pair t.pair later earlier other.of_these)));
      few = here.tries.few;
      first = λ of a b o. elim (tried of a b o) [
        | inl some ↦ inl (some.0, some.1, some.2, some.3, some.4.0)
        | inr full ↦ inr full
      ];
    }

  counted_all : IsCountOf (HasPair r place row.places) (before X) l.variables
  counted_all =
      let c = variables_counted r formed place row.places most P l here in
      record {
        test = c.test;
        tells = All-before (λ y. IsTrue (c.test y) ↔ HasPair r place row.places y) X
            (λ y lt. let told = all_below (λ k. IsTrue (c.test k) ↔ HasOwn P r place row.places k) X y c.tells lt in ((λ is. (told.0 is).1), λ has. told.1 (all y, has)));
        count = c.count;
      }

  pub AreLeasts-from : AreLeasts r place row.places most l
  AreLeasts-from = record {
    candidate = least_candidate l.candidate refl;
    tries = first_tries;
    variables = counted_all;
  }
