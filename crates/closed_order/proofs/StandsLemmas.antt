-- Which of two events stands first in a correct reordering.
use Rattle.std.proofs.Common.{◌≡◌, ◌≢◌, ℕ, ◌+◌, ◌<◌, ◌≤◌, ◌⊎◌, Bool, true, false, List, [], ◌∷◌, ◌++◌, length, take, reverse, find, get_or, Contains, Option, Some, None, slice_get, refl, sym, ap, ◌∙◌, subst, arith, inl, inr}
use Rattle.std.proofs.lemmas.Bool.{cases_Bool, cases_lt, cases_order, cond-true, cond-false, true≢false}
use Rattle.std.proofs.lemmas.List.{get_or-take, get_or_default, length-take-le, get_or_append_left, get_or_push, length_push}
use Rattle.std.proofs.lemmas.Option.{same_Some, none-some, slice_get-get_or, slice_get_within, get_or_from_slice_get}
use Rattle.rapid_text.specs.declared.event.Event.{Event}
use Rattle.schedule.specs.Reordering.{IsCorrectReordering}
use Rattle.schedule.proofs.CallerLemmas.{Allows, Allows-enabled, IsCorrectReordering-distinct, find-reverse_push}
use Rattle.schedule.proofs.LockLemmas.{AtEach-grows}
use Rattle.must_order.specs.Laws.{StandsBefore}
use Rattle.must_order.proofs.CallerLemmas.{IsReached}

-- the last member that passes a test: no later one passes it
pub record IsLastIn (p : ℕ → Bool) (xs : List ℕ) (w : ℕ) : Type 0 where
  pub at : ℕ
  pub within : at < length xs
  pub here : get_or xs at w ≡ w
  pub no_later : (k : ℕ) → at < k → k < length xs → p (get_or xs k w) ≡ false

-- what stands at two places of a correct reordering stands at one
module _ (T : List Event) (P : List ℕ) (is : IsCorrectReordering T P) where
  pub one_place : (i j e : ℕ) → slice_get P i ≡ Some e → slice_get P j ≡ Some e → i ≡ j
  one_place i j e at_i at_j =
      let low : i < length P = slice_get_within P i e at_i in
      let high : j < length P = slice_get_within P j e at_j in
      let same : get_or P i 0 ≡ get_or P j 0 = get_or_from_slice_get P i e 0 at_i ∙ sym (get_or_from_slice_get P j e 0 at_j) in
      elim (cases_order i j) [
        | inl one ↦ one
        | inr apart ↦ elim apart [
          | inl below ↦ absurd (IsCorrectReordering-distinct T P is i j 0 below high same)
          | inr above ↦ absurd (IsCorrectReordering-distinct T P is j i 0 above low (sym same))
        ]
      ]

  pub stands_through : (d m e : ℕ) → StandsBefore P d m → StandsBefore P m e → StandsBefore P d e
  stands_through d m e s t =
      let one : s.j ≡ t.i = one_place s.j t.i m s.second t.first in
      record {
        i = s.i;
        j = t.j;
        before = omega (arith, s.before, one, t.before);
        first = s.first;
        second = t.second;
      }

  pub never_itself : (e : ℕ) → ¬ StandsBefore P e e
  never_itself e s = omega (arith, s.before, one_place s.i s.j e s.first s.second)

  -- of two events one stands first
  pub one_first : (d e : ℕ) → d ≢ e → Contains P d → Contains P e → StandsBefore P d e ⊎ StandsBefore P e d
  one_first d e other (i, low, at_i) (j, high, at_j) =
      let first : slice_get P i ≡ Some d = slice_get-get_or P i d low ∙ ap Some at_i in
      let second : slice_get P j ≡ Some e = slice_get-get_or P j e high ∙ ap Some at_j in
      elim (cases_order i j) [
        | inl one ↦ absurd (other (same_Some d e (sym first ∙ ap (slice_get P) one ∙ second)))
        | inr apart ↦ elim apart [
          | inl below ↦ inl (record { i = i; j = j; before = below; first = first; second = second })
          | inr above ↦ inr (record { i = j; j = i; before = above; first = second; second = first })
        ]
      ]

-- where an event stands it is a member
pub member_at : (P : List ℕ) (i e : ℕ) → slice_get P i ≡ Some e → Contains P e
member_at P i e at = (i, slice_get_within P i e at, get_or_from_slice_get P i e e at)

pub first_member : (P : List ℕ) (d e : ℕ) → StandsBefore P d e → Contains P d
first_member P d e s = member_at P s.i d s.first

pub second_member : (P : List ℕ) (d e : ℕ) → StandsBefore P d e → Contains P e
second_member P d e s = member_at P s.j e s.second

-- what stands before an event is in the list that is reached before it
module _ (T : List Event) (P : List ℕ) (is : IsCorrectReordering T P) (e : ℕ) (r : IsReached T P e) where
  stands_here : slice_get P r.at ≡ Some e
  stands_here = slice_get-get_or P r.at e r.within ∙ ap Some r.here

  pub early : (d : ℕ) → StandsBefore P d e → Contains (take r.at P) d
  early d s =
      let one : s.j ≡ r.at = one_place T P is s.j r.at e s.second stands_here in
      let low : s.i < r.at = omega (arith, s.before, one) in
      let long : length (take r.at P) ≡ r.at = length-take-le r.at P (omega (arith, r.within)) in (
        s.i,
        omega (arith, low, long),
        get_or-take r.at P s.i d low ∙ get_or_from_slice_get P s.i d d s.first,
      )

  pub stands_early : (d : ℕ) → Contains (take r.at P) d → StandsBefore P d e
  stands_early d (i, lt, at) =
      let long : length (take r.at P) ≡ r.at = length-take-le r.at P (omega (arith, r.within)) in
      let low : i < r.at = omega (arith, lt, long) in
      record {
        i = i;
        j = r.at;
        before = low;
        first = slice_get-get_or P i d (omega (arith, low, r.within)) ∙ ap Some (sym (get_or-take r.at P i d low) ∙ at);
        second = stands_here;
      }

  pub allowed : Allows T (take r.at P) e
  allowed = Allows-enabled T (take r.at P) e r.after

-- what is found from the end is the last that passes
pub last_found : (p : ℕ → Bool) (xs : List ℕ) (w : ℕ) → find p (reverse xs) ≡ Some w → IsLastIn p xs w
last_found p xs w =
    AtEach-grows (λ ys. find p (reverse ys) ≡ Some w → IsLastIn p ys w) (λ _ _. Unit {0}) xs
    (λ h. absurd (none-some w h))
    (λ ys e earlier _ h.
    let next = sym (find-reverse_push p ys e) ∙ h in
    elim (cases_Bool (p e)) [
      | inl passes ↦
          let same : e ≡ w = same_Some e w (sym (cond-true (p e) (Some e) (find p (reverse ys)) passes) ∙ next) in
          record {
            at = length ys;
            within = omega (arith, length_push ys e);
            here = get_or_push ys e w (length ys) refl ∙ same;
            no_later = λ k low high. absurd (omega (arith, low, high, length_push ys e));
          }
      | inr fails ↦
          let last = earlier (sym (cond-false (p e) (Some e) (find p (reverse ys)) fails) ∙ next) in
          record {
            at = last.at;
            within = omega (arith, last.within, length_push ys e);
            here = get_or_append_left ys (e ∷ []) w last.at last.within ∙ last.here;
            no_later = λ k low high.
                elim (cases_lt k (length ys)) [
                  | inl inside ↦ ap p (get_or_append_left ys (e ∷ []) w k inside) ∙ last.no_later k low inside
                  | inr end ↦
                      let is_end : k ≡ length ys = omega (arith, high, length_push ys e) in
                      ap p (get_or_push ys e w k (sym is_end)) ∙ fails
                ];
          }
    ])
    (λ _ _. tt)
