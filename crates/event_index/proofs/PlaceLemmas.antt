-- The place of an event and the list of its thread's events tell the same.
use Rattle.std.proofs.Common.{◌≡◌, ℕ, zero, suc, ◌+◌, ◌<◌, ◌≤◌, true, false, cond, eqb, List, [], ◌∷◌, ◌++◌, Some, length, get_or, refl, sym, ap, ◌∙◌, subst, arith, add-one, append-nil, inl, inr, le_refl}
use Rattle.std.specs.List.{filter, slice_get}
use Rattle.std.specs.Option.{option_map}
use Rattle.std.proofs.lemmas.Bool.{eq-eqb, eqb-true, cases_Bool, cases_eq, cases_lt}
use Rattle.std.proofs.lemmas.List.{length_push, get_or_append_left, get_or_push}
use Rattle.std.proofs.lemmas.Option.{none-some, same_Some, slice_get-get_or, slice_get_within, get_or_from_slice_get}
use Rattle.rapid_text.specs.declared.event.Event.{Event}
use Rattle.rapid_text.specs.declared.event.Op.TheVariants.{Read}
use Rattle.event_index.specs.Events.{thread_at, is_of_thread}
use Rattle.event_index.specs.Lookups.{before, events_of, place_of}
use Rattle.event_index.specs.Layout.{count_before}
use Rattle.event_index.proofs.ScanLemmas.{filter_more_before}
use Rattle.event_index.proofs.StepLemmas.{passes_here, count_more, place_of-count}

-- the thread's events among the first e
abbrev pub events_before : List Event → ℕ → ℕ → List ℕ
events_before T t e = filter (is_of_thread T t) (before e)

more_yes : (T : List Event) (t e : ℕ) → is_of_thread T t e ≡ true → events_before T t (e + 1) ≡ events_before T t e ++ e ∷ []
more_yes T t e h = filter_more_before (is_of_thread T t) e ∙ ap (λ b. events_before T t e ++ cond b (e ∷ []) []) h

more_no : (T : List Event) (t e : ℕ) → is_of_thread T t e ≡ false → events_before T t (e + 1) ≡ events_before T t e
more_no T t e h =
    filter_more_before (is_of_thread T t) e ∙ ap (λ b. events_before T t e ++ cond b (e ∷ []) []) h ∙ append-nil (events_before T t e)

-- there are as many of them as the count says
pub length-events_before : (T : List Event) (t e : ℕ) → e ≤ length T → length (events_before T t e) ≡ count_before T e t
length-events_before T t zero within = refl
length-events_before T t (suc e) within =
    let d : Event = record { thread = 0; op = Read 0 } in
    let v : Event = get_or T e d in
    let at : slice_get T e ≡ Some v = slice_get-get_or T e d (omega arith) in
    let before_it : length (events_before T t e) ≡ count_before T e t = length-events_before T t e (omega arith) in
    let count : count_before T (e + 1) t ≡ count_before T e t + cond (eqb v.thread t) 1 0 = count_more (λ w. eqb w.thread t) T e v at in
    let test : is_of_thread T t e ≡ eqb v.thread t = passes_here (λ w. eqb w.thread t) T e v at in
    subst (λ (n : ℕ). length (events_before T t n) ≡ count_before T n t) (add-one e)
    (elim (cases_Bool (eqb v.thread t)) [
      | inl passes ↦ rw (more_yes T t e (test ∙ passes)) (omega (arith, length_push (events_before T t e) e, before_it, rw passes at count))
      | inr fails ↦ rw (more_no T t e (test ∙ fails)) (omega (arith, before_it, rw fails at count))
    ])

-- an element stays where it is when one more follows
kept : (xs : List ℕ) (y k e : ℕ) → slice_get xs k ≡ Some e → slice_get (xs ++ y ∷ []) k ≡ Some e
kept xs y k e at =
    let within = slice_get_within xs k e at in
    slice_get-get_or (xs ++ y ∷ []) k e (omega (arith, within, length_push xs y))
    ∙ ap Some (get_or_append_left xs (y ∷ []) e k within ∙ get_or_from_slice_get xs k e e at)

-- the last one
at_end : (xs : List ℕ) (y k : ℕ) → length xs ≡ k → slice_get (xs ++ y ∷ []) k ≡ Some y
at_end xs y k size = slice_get-get_or (xs ++ y ∷ []) k y (omega (arith, size, length_push xs y)) ∙ ap Some (get_or_push xs y y k size)

placed : (T : List Event) (e : ℕ) (v : Event) → slice_get T e ≡ Some v → (n : ℕ) → e < n → n ≤ length T
    → slice_get (events_before T v.thread n) (count_before T e v.thread) ≡ Some e
placed T e v at zero low within = absurd (omega arith)
placed T e v at (suc n) low within =
    subst (λ (m : ℕ). slice_get (events_before T v.thread m) (count_before T e v.thread) ≡ Some e) (add-one n)
    (elim (cases_eq e n) [
      | inl here ↦
          let test : is_of_thread T v.thread e ≡ true = passes_here (λ w. eqb w.thread v.thread) T e v at ∙ eq-eqb v.thread v.thread refl in
          rw (← here) (rw (more_yes T v.thread e test)
          (at_end (events_before T v.thread e) e (count_before T e v.thread) (length-events_before T v.thread e (omega arith))))
      | inr other ↦
          let before_it = placed T e v at n (omega arith) (omega arith) in
          elim (cases_Bool (is_of_thread T v.thread n)) [
            | inl passes ↦ rw (more_yes T v.thread n passes) (kept (events_before T v.thread n) n (count_before T e v.thread) e before_it)
            | inr fails ↦ rw (more_no T v.thread n fails) before_it
          ]
    ])

-- an event stands at its place among the events of its thread
pub events_of-place : (T : List Event) (e : ℕ) (v : Event) → slice_get T e ≡ Some v → slice_get (events_of T v.thread) (place_of T e) ≡ Some e
events_of-place T e v at = rw (place_of-count T e v at) (placed T e v at (length T) (slice_get_within T e v at) (le_refl (length T)))

-- what is read from a list with one more at its end
read_push : (xs : List ℕ) (y k e : ℕ) → slice_get (xs ++ y ∷ []) k ≡ Some e → length xs ≤ k → (length xs ≡ k) × (y ≡ e)
read_push xs y k e at late =
    let within = slice_get_within (xs ++ y ∷ []) k e at in
    let size : length xs ≡ k = omega (arith, within, length_push xs y) in
    (size, same_Some y e (sym (at_end xs y k size) ∙ at))

read_before : (xs : List ℕ) (y k e : ℕ) → slice_get (xs ++ y ∷ []) k ≡ Some e → k < length xs → slice_get xs k ≡ Some e
read_before xs y k e at early =
    let here : get_or (xs ++ y ∷ []) k e ≡ e = get_or_from_slice_get (xs ++ y ∷ []) k e e at in
    slice_get-get_or xs k e early ∙ ap Some (sym (get_or_append_left xs (y ∷ []) e k early) ∙ here)

found_at : (T : List Event) (t n k e : ℕ) → n ≤ length T → slice_get (events_before T t n) k ≡ Some e → (e < n) × (is_of_thread T t e ≡ true) × (count_before T e t ≡ k)
found_at T t zero k e within at = absurd (none-some e at)
found_at T t (suc n) k e within at =
    let now : slice_get (events_before T t (n + 1)) k ≡ Some e = rw (add-one n) at in
    elim (cases_Bool (is_of_thread T t n)) [
      | inl passes ↦
          let pushed : slice_get (events_before T t n ++ n ∷ []) k ≡ Some e = ap (λ (xs : List ℕ). slice_get xs k) (sym (more_yes T t n passes)) ∙ now in
          elim (cases_lt k (length (events_before T t n))) [
            | inl early ↦
                let rest = found_at T t n k e (omega arith) (read_before (events_before T t n) n k e pushed early) in
                (omega (arith, rest.0), rest.1, rest.2)
            | inr late ↦
                let is = read_push (events_before T t n) n k e pushed late in (
                  omega (arith, is.1),
                  ap (is_of_thread T t) (sym is.1) ∙ passes,
                  ap (λ (m : ℕ). count_before T m t) (sym is.1) ∙ sym (length-events_before T t n (omega arith)) ∙ is.0,
                )
          ]
      | inr fails ↦
          let rest = found_at T t n k e (omega arith) (ap (λ (xs : List ℕ). slice_get xs k) (sym (more_no T t n fails)) ∙ now) in
          (omega (arith, rest.0), rest.1, rest.2)
    ]

-- what stands at place k among the events of a thread is an event of the thread, and k is its place
pub place_of-events_of : (T : List Event) (t k e : ℕ) → slice_get (events_of T t) k ≡ Some e
    → (e < length T) × (thread_at T e ≡ Some t) × (place_of T e ≡ k)
place_of-events_of T t k e at =
    let found = found_at T t (length T) k e (le_refl (length T)) at in
    let d : Event = record { thread = 0; op = Read 0 } in
    let v : Event = get_or T e d in
    let there : slice_get T e ≡ Some v = slice_get-get_or T e d found.0 in
    let thread : v.thread ≡ t = eqb-true v.thread t (sym (passes_here (λ w. eqb w.thread t) T e v there) ∙ found.1) in (
      found.0,
      ap (option_map (λ (w : Event). w.thread)) there ∙ ap Some thread,
      place_of-count T e v there ∙ ap (count_before T e) thread ∙ found.2,
    )
