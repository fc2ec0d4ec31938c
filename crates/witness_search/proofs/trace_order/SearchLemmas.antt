-- The steps of a search by counts.
use Rattle.std.proofs.Common.{◌≡◌, ◌≢◌, ℕ, ◌+◌, ◌<◌, ◌≤◌, ◌&&◌, Bool, true, false, List, length, get_or, set, slice_get, get_or-set_same, get_or-set_other, Option, Some, None, IfSome, refl, sym, ap, count_by, ◌∙◌, subst, arith, inl, inr}
use Rattle.std.proofs.lemmas.Bool.{cases_eq, cases_lt, cond_below, cond_above}
use Rattle.std.proofs.lemmas.List.{get_or_default}
use Rattle.std.proofs.lemmas.Option.{same_Some, slice_get_past, slice_get-get_or}
use Rattle.std.proofs.lemmas.List.FromFn.{length-map-range_with_len}
use Rattle.rapid_text.specs.declared.event.Event.{Event}
use Rattle.event_index.specs.Events.{is_of_thread}
use Rattle.event_index.specs.Least.{IsLeastOf}
use Rattle.event_index.specs.Lookups.{events_of, last_write}
use Rattle.schedule.specs.Refusals.{next_of}
use Rattle.event_index.specs.Relations.{IsConflicting}
use Rattle.event_index.proofs.CallerLemmas.{Decides-is_conflict, thread_here}
use Rattle.schedule.specs.Shows.{does_show, is_ready}
use Rattle.witness_search.specs.Searches.{IsStepBelow, lesser}
use Rattle.witness_search.specs.trace_order.Counting.{IsAt, IsKept, IsUp, counts, counted_events, marks_of}

pub marks_length : (T : List Event) (row : ℕ → ℕ) → length (marks_of T row) ≡ length T
marks_length T row = length-map-range_with_len (counts T row) 0 (length T)

pub lesser_within : (n : ℕ) (x y : Option ℕ) → IfSome x (λ e. e < n) → IfSome y (λ e. e < n) → IfSome (lesser x y) (λ e. e < n)
lesser_within n None y left right = right
lesser_within n (Some x) None left right = left
lesser_within n (Some x) (Some y) left right =
    elim (cases_lt y x) [
      | inl below ↦ rw (← cond_below y x (Some y) (Some x) below) right
      | inr above ↦ rw (← cond_above y x (Some y) (Some x) (Some x) above refl) left
    ]

pub no_step_below : (T : List Event) (a b : ℕ) (marks : List Bool) (P : List ℕ) → IsLeastOf (IsStepBelow T a b marks P 0) None
no_step_below T a b marks P e (t, low, step) = omega (arith, low)

-- the pair is shown where both are ready
pub shown_first : (T : List Event) (P : List ℕ) (a b : ℕ) (x : Bool) → IsConflicting T a b → x ≡ is_ready T P a → x ≡ false → x ≡ does_show T P a b
shown_first T P a b x conflict is not_so =
    not_so ∙ sym (ap (λ c. c && (is_ready T P a && is_ready T P b)) ((Decides-is_conflict T a b).1 conflict) ∙ ap (λ r. r && is_ready T P b) (sym is ∙ not_so))

pub shown_second : (T : List Event) (P : List ℕ) (a b : ℕ) (x y : Bool) → IsConflicting T a b → x ≡ is_ready T P a → x ≡ true → y ≡ is_ready T P b → y ≡ does_show T P a b
shown_second T P a b x y conflict is so also =
    also ∙ sym (ap (λ c. c && (is_ready T P a && is_ready T P b)) ((Decides-is_conflict T a b).1 conflict) ∙ ap (λ r. r && is_ready T P b) (sym is ∙ so))

-- where a search stands, by a row that is read as a slice
pub at_read : (T : List Event) (start : ℕ → ℕ) (row xs : List ℕ) (last : ℕ → Option (Option ℕ)) (P : List ℕ) → xs ≡ row → IsAt T start (λ t. get_or row t 0) last P
    → IsAt T start (λ t. get_or xs t 0) last P
at_read T start row xs last P is at = subst (λ (ys : List ℕ). IsAt T start (λ t. get_or ys t 0) last P) (sym is) at

-- a count that is one more
pub IsUp-set : (T : List Event) (e : ℕ) (v : Event) → slice_get T e ≡ Some v → (row : List ℕ) (x : ℕ) → x ≡ get_or row v.thread x → v.thread < length row
    → IsUp T e (λ t. get_or row t 0) (λ t. get_or (set row v.thread (x + 1)) t 0)
IsUp-set T e v found row x read low = record {
  thread = v.thread;
  of = thread_here T e v found;
  here = get_or-set_same row v.thread (x + 1) 0 low ∙ ap (λ n. n + 1) (read ∙ get_or_default row v.thread x 0 low);
  others = λ u other. get_or-set_other row v.thread u (x + 1) 0 other;
}

-- the next event of a thread, by the place at which the search stands
module _ (T : List Event) (P : List ℕ) (t count : ℕ) (te : List ℕ) (are : te ≡ events_of T t) where
  pub next_none : count ≡ count_by (is_of_thread T t) P → length te ≤ count → next_of T P t ≡ None
  next_none is past = ap (slice_get (events_of T t)) (sym is) ∙ slice_get_past (events_of T t) count (omega (arith, past, ap length are))

  pub next_some : (e d : ℕ) → count < length te → e ≡ get_or te count d → slice_get (events_of T t) count ≡ Some e
  next_some e d low read =
      ap (λ xs. slice_get xs count) (sym are) ∙ slice_get-get_or te count d low ∙ ap Some (sym read)

  pub next_place : count ≡ count_by (is_of_thread T t) P → count < length te → next_of T P t ≡ Some (get_or te count 0)
  next_place is low = ap (slice_get (events_of T t)) (sym is) ∙ next_some (get_or te count 0) 0 low refl

-- more is noted
module _ (T : List Event) (start : ℕ → ℕ) where
  pub IsKept-same : (last : ℕ → Option (Option ℕ)) → IsKept T start last last
  IsKept-same last = record { noted = λ x o is. inl is; none = λ x is. is }

  pub IsKept-then : (last middle next : ℕ → Option (Option ℕ)) → IsKept T start last middle → IsKept T start middle next → IsKept T start last next
  IsKept-then last middle next one two = record {
    noted = λ x o is. elim (two.noted x o is) [
      | inl old ↦ one.noted x o old
      | inr new ↦ inr (one.none x new.0, new.1)
    ];
    none = λ x is. one.none x (two.none x is);
  }

  pub IsKept-put :
      (last next : ℕ → Option (Option ℕ)) (x : ℕ) (found : Option ℕ) → last x ≡ None → found ≡ last_write T x (counted_events T start) → next x ≡ Some found
      → ((y : ℕ) → y ≢ x → next y ≡ last y) → IsKept T start last next
  IsKept-put last next x found none is here rest = record {
    noted = λ y o also. elim (cases_eq y x) [
      | inl one ↦
          let same_found : found ≡ o = same_Some found o (sym here ∙ ap next (sym one) ∙ also) in
          inr (ap last one ∙ none, sym same_found ∙ is ∙ ap (λ z. last_write T z (counted_events T start)) (sym one))
      | inr other ↦ inl (sym (rest y other) ∙ also)
    ];
    none = λ y also. elim (cases_eq y x) [
      | inl one ↦ ap last one ∙ none
      | inr other ↦ sym (rest y other) ∙ also
    ];
  }

  pub IsAt-kept : (row : ℕ → ℕ) (last next : ℕ → Option (Option ℕ)) (P : List ℕ) → IsAt T start row last P → IsKept T start last next → IsAt T start row next P
  IsAt-kept row last next P at kept = record {
    correct = at.correct;
    counts = at.counts;
    within = at.within;
    size = at.size;
    noted = λ x o is. elim (kept.noted x o is) [
      | inl old ↦ at.noted x o old
      | inr new ↦ at.other x new.0 ∙ sym new.1
    ];
    other = λ x is. at.other x (kept.none x is);
  }
