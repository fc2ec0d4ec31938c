-- What the pass over the sections knows, with one event more.
use Rattle.std.proofs.Common.{◌≡◌, ◌≢◌, ℕ, zero, suc, ◌+◌, ◌-◌, ◌<◌, ◌≤◌, ◌⊎◌, Bool, true, false, cond, eqb, List, [], ◌∷◌, ◌++◌, Option, Some, None, length, get_or, set, take, replicate, refl, sym, ap, ◌∙◌, subst, subst₂, arith, eq-eqb, inl, inr, true≢false, add-one, get_or-set_same, get_or-set_other}
use Rattle.std.specs.List.{find, range_with_len, slice_get}
use Rattle.std.specs.Option.{option_or}
use Rattle.std.proofs.lemmas.Bool.{eqb-true, cases_eq, cases_lt, cases_order, and_parts, and_from, and_left, and_right, ne_eqb, cond-true, cond-false, false_from_ne_true}
use Rattle.std.proofs.lemmas.List.{get_or-replicate, get_or_default, length-replicate}
use Rattle.std.proofs.lemmas.List.Folds.{find-append}
use Rattle.std.proofs.lemmas.Option.{same_Some, slice_get-get_or, slice_get_within}
use Rattle.rapid_text.specs.Operations.{is_acquire, is_release}
use Rattle.rapid_text.specs.Recording.{Recording}
use Rattle.rapid_text.specs.declared.event.Event.{Event}
use Rattle.rapid_text.specs.declared.event.Op.{Op}
use Rattle.rapid_text.specs.declared.event.Op.TheVariants.{Read, Write, Acquire, Release, Fork, Join}
use Rattle.trace_rules.specs.Rules.{hold_count, IsDisciplined}
use Rattle.trace_rules.proofs.TableLemmas.{IsApartFrom-rest}
use Rattle.event_index.specs.Events.{passes_at}
use Rattle.event_index.specs.Lookups.{is_end, section_by, section_of, end_before, section_end}
use Rattle.event_index.specs.Layout.{IsTable}
use Rattle.event_index.specs.Open.{HasOp, IsOpen, IsStack, IsHeld, AreOpen}
use Rattle.event_index.specs.declared.sections.Open.{Open}
use Rattle.event_index.proofs.ScanLemmas.{range_more, find_none, none_found}
use Rattle.event_index.proofs.StepLemmas.{passes_here}
use Rattle.event_index.proofs.TableLemmas.{IsTable-set, IsTable-like, IsTable-replicate}
use Rattle.event_index.proofs.HoldLemmas.{takes, frees, takes_from, frees_from, frees_is, acquire_frees_not, release_takes_not, takes_not_thread, frees_not_thread, takes_not_lock, frees_not_lock, hold_same, hold_taken, hold_freed, hold_cases}

-- ---- the end of a section, one event further

-- what an event that does not pass adds to a find
stays : (o : Option ℕ) (i : ℕ) (b : Bool) → (o ≡ None → b ≡ false) → o ≡ option_or o (cond b (Some i) None)
stays None i b h = sym (cond-false b (Some i) None (h refl))
stays (Some e) i b h = refl

-- one event more to look at
find_more : (test : ℕ → Bool) (e i : ℕ) → e < i → find test (range_with_len (e + 1) (i + 1 - (e + 1))) ≡ option_or (find test (range_with_len (e + 1) (i - (e + 1)))) (cond (test i) (Some i) None)
find_more test e i h =
    let size : i + 1 - (e + 1) ≡ i - (e + 1) + 1 = omega arith in
    let last : e + 1 + (i - (e + 1)) ≡ i = omega arith in
    ap (λ (n : ℕ). find test (range_with_len (e + 1) n)) size
    ∙ ap (find test) (range_more (e + 1) (i - (e + 1)) ∙ ap (λ (k : ℕ). range_with_len (e + 1) (i - (e + 1)) ++ k ∷ []) last)
    ∙ find-append test (range_with_len (e + 1) (i - (e + 1))) (i ∷ [])

-- before the event itself there is nothing to look at
find_late : (test : ℕ → Bool) (e i : ℕ) → i ≤ e + 1 → find test (range_with_len (e + 1) (i - (e + 1))) ≡ None
find_late test e i h =
    let size : i - (e + 1) ≡ 0 = omega arith in
    ap (λ (n : ℕ). find test (range_with_len (e + 1) n)) size

-- why event i does not end the section of e
abbrev EndsNot : List Event → ℕ → ℕ → ℕ → ℕ → Type 0
EndsNot T i e t l = e < i → find (is_end T e t l) (range_with_len (e + 1) (i - (e + 1))) ≡ None → is_end T e t l i ≡ false

not_later : (T : List Event) (i e t l : ℕ) → EndsNot T i e t l → find (is_end T e t l) (range_with_len (e + 1) (i - (e + 1))) ≡ find (is_end T e t l) (range_with_len (e + 1) (i + 1 - (e + 1)))
not_later T i e t l h =
    elim (cases_lt e i) [
      | inr late ↦ find_late (is_end T e t l) e i (omega arith) ∙ sym (find_late (is_end T e t l) e (i + 1) (omega arith))
      | inl early ↦ stays (find (is_end T e t l) (range_with_len (e + 1) (i - (e + 1)))) i (is_end T e t l i) (h early) ∙ sym (find_more (is_end T e t l) e i early)
    ]

section_by-same : (T : List Event) (i e t : ℕ) (op : Op) → ((l : ℕ) → op ≡ Acquire l → EndsNot T i e t l) → section_by T i e t op ≡ section_by T (i + 1) e t op
section_by-same T i e t (Acquire l) h = not_later T i e t l (h l refl)
section_by-same T i e t op h = refl

-- event i ends no section of e
section_of-same : (T : List Event) (i e : ℕ) (o : Option Event) → ((v : Event) (l : ℕ) → o ≡ Some v → v.op ≡ Acquire l → EndsNot T i e v.thread l)
    → section_of T i e o ≡ section_of T (i + 1) e o
section_of-same T i e None h = refl
section_of-same T i e (Some v) h = section_by-same T i e v.thread v.op (λ l op. h v l refl op)

-- ---- when a section is open

-- an acquire that nothing ended up to i: behind it its thread holds the lock more often than before it
pub held_above : (T : List Event) → IsDisciplined T → (a t l i : ℕ) (v : Event) → slice_get T a ≡ Some v → takes v t l ≡ true → frees v t l ≡ false
    → ((j : ℕ) → a + 1 ≤ j → j < i → is_end T a t l j ≡ false) → i ≤ length T
    → (j : ℕ) → a < j → j ≤ i → hold_count (take a T) t l < hold_count (take j T) t l
held_above T rules a t l i v at h f ends within zero low high = absurd (omega arith)
held_above T rules a t l i v at h f ends within (suc j) low high =
    let d : Event = record { thread = 0; op = Read 0 } in
    let there : slice_get T j ≡ Some (get_or T j d) = slice_get-get_or T j d (omega arith) in
    rw (← add-one j)
    (elim (cases_eq a j) [
      | inl same ↦ rw (← same) (omega (arith, hold_taken T rules a t l v at h f))
      | inr other ↦
          let before = held_above T rules a t l i v at h f ends within j (omega arith) (omega arith) in
          elim (hold_cases T rules j t l (get_or T j d) there) [
            | inl up ↦ omega (arith, before)
            | inr down ↦
                let no_end : hold_count (take (j + 1) T) t l ≡ hold_count (take a T) t l → ⊥ =
                λ back. absurd (true≢false (sym (and_from _ _ (passes_here (λ u. frees u t l) T j (get_or T j d) there ∙ down.0) (eq-eqb _ _ back))
                ∙ ends j (omega arith) (omega arith))) in
                omega (arith, before, no_end, down.1)
          ]
    ])

-- an event that does not free the lock for the thread ends no section of it
ends_not : (T : List Event) (i e t l : ℕ) (v : Event) → slice_get T i ≡ Some v → frees v t l ≡ false → is_end T e t l i ≡ false
ends_not T i e t l v at h =
    and_left (passes_at (λ w. frees w t l) T i) (eqb (hold_count (take (i + 1) T) t l) (hold_count (take e T) t l))
    (passes_here (λ w. frees w t l) T i v at ∙ h)

-- a stack of acquires stays open while its thread holds the lock as often
stack_more : (T : List Event) (outer later : List (Option ℕ)) (i t l d : ℕ) (top : Option ℕ)
    → ((a : ℕ) → a < i → get_or outer a None ≡ get_or later a None) → d ≤ hold_count (take (i + 1) T) t l → IsStack T outer i t l d top
    → IsStack T later (i + 1) t l d top
stack_more T outer later i t l zero top same more stack = stack
stack_more T outer later i t l (suc d) top same more (a, is, was, below) = (
  a,
  is,
  record {
    early = omega (arith, was.early);
    acquire = was.acquire;
    depth = was.depth;
    above = λ j low high. elim (cases_eq j (i + 1)) [ inl last ↦ rw last (omega arith) | inr other ↦ was.above j low (omega arith) ];
  },
  rw (← same a was.early) (stack_more T outer later i t l d (get_or outer a None) same (omega arith) below),
)

-- what holds of a lock that an event leaves alone
held_same : (T : List Event) (outer later : List (Option ℕ)) (i l : ℕ) (v : Event) (top : Option ℕ) → slice_get T i ≡ Some v
    → ((a : ℕ) → a < i → get_or outer a None ≡ get_or later a None) → ((t : ℕ) → takes v t l ≡ false) → ((t : ℕ) → frees v t l ≡ false)
    → IsHeld T outer i l top → IsHeld T later (i + 1) l top
held_same T outer later i l v top at same takes_no frees_no held =
    let t = held.holder in
    let stays : hold_count (take (i + 1) T) t l ≡ hold_count (take i T) t l = hold_same T i t l v at (takes_no t) (frees_no t) in
    record {
      holder = t;
      others = λ u other. hold_same T i u l v at (takes_no u) (frees_no u) ∙ held.others u other;
      stack = rw stays (stack_more T outer later i t l (hold_count (take i T) t l) top same (omega (arith, stays)) held.stack);
    }

-- the stack of a lock that no other thread holds
stack_of : (T : List Event) (outer : List (Option ℕ)) (i t l : ℕ) (top : Option ℕ) → ((u : ℕ) → u ≢ t → hold_count (take i T) u l ≡ 0)
    → IsHeld T outer i l top → IsStack T outer i t l (hold_count (take i T) t l) top
stack_of T outer i t l top others held =
    elim (cases_eq held.holder t) [
      | inl same ↦ rw (← same) held.stack
      | inr other ↦
          let empty : IsStack T outer i held.holder l 0 top =
          subst (λ (d : ℕ). IsStack T outer i held.holder l d top) (others held.holder other) held.stack in
          rw (held.others t (λ e. other (sym e))) empty
    ]

-- an event by its thread and what it does
by_op : (v : Event) (op : Op) → v.op ≡ op → v ≡ record { thread = v.thread; op = op }
by_op v op is = ap (λ (o : Op). (let w : Event = record { thread = v.thread; op = o } in w)) is

-- a lock that an event takes
held_taken : (T : List Event) → IsDisciplined T → (outer : List (Option ℕ)) (i l : ℕ) (v : Event) (top : Option ℕ) → slice_get T i ≡ Some v
    → v.op ≡ Acquire l → i < length outer → IsHeld T outer i l top → IsHeld T (set outer i top) (i + 1) l (Some i)
held_taken T rules outer i l v top at op within held =
    let t = v.thread in
    let free : (u : ℕ) → u ≢ t → hold_count (take i T) u l ≡ 0 = λ u other. rules.acquires_free i l u v at op other in
    let frees_no : (u : ℕ) → frees v u l ≡ false = λ u. acquire_frees_not v u l l op in
    let more : hold_count (take (i + 1) T) t l ≡ hold_count (take i T) t l + 1 = hold_taken T rules i t l v at (takes_from v t l refl op) (frees_no t) in
    let next : hold_count (take (i + 1) T) t l ≡ suc (hold_count (take i T) t l) = more ∙ add-one _ in
    let later : (a : ℕ) → a < i → get_or outer a None ≡ get_or (set outer i top) a None = λ a lt. sym (get_or-set_other outer i a top None (λ e. absurd (omega arith))) in
    let below : IsStack T (set outer i top) (i + 1) t l (hold_count (take i T) t l) top =
    stack_more T outer (set outer i top) i t l (hold_count (take i T) t l) top later (omega arith) (stack_of T outer i t l top free held) in
    let stack : IsStack T (set outer i top) (i + 1) t l (suc (hold_count (take i T) t l)) (Some i) = (
      i,
      refl,
      record {
        early = omega arith;
        acquire = at ∙ ap Some (by_op v (Acquire l) op);
        depth = refl;
        above = λ j low high.
            let last : j ≡ i + 1 = omega arith in
            rw last (omega arith);
      },
      rw (get_or-set_same outer i top None within) below,
    ) in
    record {
      holder = t;
      others = λ u other. hold_same T i u l v at (takes_not_thread v u l (λ e. other (sym e))) (frees_no u) ∙ free u other;
      stack = rw next stack;
    }

-- the locks after an acquire
pub begun_held : (T : List Event) → IsDisciplined T → (outer top : List (Option ℕ)) (i lock : ℕ) (v : Event) → slice_get T i ≡ Some v
    → v.op ≡ Acquire lock → i < length outer → lock < length top → (l : ℕ) → IsHeld T outer i l (get_or top l None)
    → IsHeld T (set outer i (get_or top lock None)) (i + 1) l (get_or (set top lock (Some i)) l None)
begun_held T rules outer top i lock v at op within known l held =
    elim (cases_eq l lock) [
      | inl same ↦
          rw (ap (λ (m : ℕ). get_or (set top lock (Some i)) m None) same ∙ get_or-set_same top lock (Some i) None known) (rw (← same)
          (held_taken T rules outer i l v (get_or top l None) at (op ∙ ap Acquire (sym same)) within held))
      | inr other ↦
          rw (get_or-set_other top lock l (Some i) None other) (held_same T outer (set outer i (get_or top lock None)) i l v (get_or top l None) at
          (λ a lt. sym (get_or-set_other outer i a (get_or top lock None) None (λ e. absurd (omega arith))))
          (λ t. takes_not_lock v t l lock op (λ e. other (sym e))) (λ t. acquire_frees_not v t l lock op) held)
    ]

-- an acquire ends no section
pub begun_ends : (T : List Event) (i lock n : ℕ) (v : Event) (ends : List (Option ℕ)) → slice_get T i ≡ Some v → v.op ≡ Acquire lock
    → IsTable (end_before T i) n ends → IsTable (end_before T (i + 1)) n ends
begun_ends T i lock n v ends at op table =
    IsTable-like (end_before T i) (end_before T (i + 1)) n ends table (λ e within. section_of-same T i e (slice_get T e) (λ w l there acquire early unended.
    ends_not T i e w.thread l v at (acquire_frees_not v w.thread l lock op)))

-- a release of l, and the acquire a whose section it ends
record Ending (T : List Event) (outer : List (Option ℕ)) (i l : ℕ) (v : Event) (top : Option ℕ) (a : ℕ) : Type 0 where
  d : ℕ
  is_top : top ≡ Some a
  is_open : IsOpen T i v.thread l d a
  below : IsStack T outer i v.thread l d (get_or outer a None)
  others : (u : ℕ) → u ≢ v.thread → hold_count (take i T) u l ≡ 0
  after : hold_count (take (i + 1) T) v.thread l ≡ d

-- a stack that is not empty has a top
top_of : (T : List Event) (outer : List (Option ℕ)) (i t l d : ℕ) (top : Option ℕ) → 0 < d → IsStack T outer i t l d top → (k : ℕ) × (d ≡ k + 1) × IsStack T outer i t l (suc k) top
top_of T outer i t l zero top more stack = absurd (omega arith)
top_of T outer i t l (suc d) top more stack = (d, sym (add-one d), stack)

-- a release ends the section of the top of its lock's stack
ending : (T : List Event) → IsDisciplined T → (outer : List (Option ℕ)) (i l : ℕ) (v : Event) (top : Option ℕ) → slice_get T i ≡ Some v → v.op ≡ Release l
    → IsHeld T outer i l top → (a : ℕ) × Ending T outer i l v top a
ending T rules outer i l v top at op held =
    let t = v.thread in
    let has : 0 < hold_count (take i T) t l = rules.releases_held i l v at op in
    let freed : hold_count (take (i + 1) T) t l + 1 ≡ hold_count (take i T) t l = hold_freed T rules i t l v at (release_takes_not v t l l op) (frees_from v t l refl op) in
    let mine : held.holder ≡ t = elim (cases_eq held.holder t) [ inl same ↦ same | inr other ↦ absurd (omega (arith, held.others t (λ e. other (sym e)))) ] in
    let stack : IsStack T outer i t l (hold_count (take i T) t l) top = rw (← mine) held.stack in
    let (d, count, (a, is, was, below)) = top_of T outer i t l (hold_count (take i T) t l) top has stack in
    let after : hold_count (take (i + 1) T) t l ≡ d = omega (arith, freed, count) in
    (a, record { d = d; is_top = is; is_open = was; below = below; others = λ u other. held.others u (λ e. other (e ∙ mine)); after = after })

-- the locks after a release
ended_held : (T : List Event) → (outer top : List (Option ℕ)) (i lock a : ℕ) (v : Event) → slice_get T i ≡ Some v → v.op ≡ Release lock
    → lock < length top → Ending T outer i lock v (get_or top lock None) a → (l : ℕ) → IsHeld T outer i l (get_or top l None)
    → IsHeld T outer (i + 1) l (get_or (set top lock (get_or outer a None)) l None)
ended_held T outer top i lock a v at op known end l held =
    elim (cases_eq l lock) [
      | inl same ↦
          let t = v.thread in
          let here : IsHeld T outer (i + 1) lock (get_or outer a None) =
          record {
            holder = t;
            others = λ u other. hold_same T i u lock v at (release_takes_not v u lock lock op) (frees_not_thread v u lock (λ e. other (sym e)))
                ∙ end.others u other;
            stack = rw end.after (stack_more T outer outer i t lock end.d (get_or outer a None) (λ b lt. refl) (omega (arith, end.after)) end.below);
          } in
          rw same (rw (get_or-set_same top lock (get_or outer a None) None known) here)
      | inr other ↦
          rw (get_or-set_other top lock l (get_or outer a None) None other) (held_same T outer outer i l v (get_or top l None) at (λ b lt. refl)
          (λ t. release_takes_not v t l lock op) (λ t. frees_not_lock v t l lock op (λ e. other (sym e))) held)
    ]

-- two open acquires of one lock by one thread were made at different counts
one_open : (T : List Event) → IsDisciplined T → (i t l d a e : ℕ) (w : Event) → IsOpen T i t l d a → slice_get T e ≡ Some w → takes w t l ≡ true
    → frees w t l ≡ false → e ≢ a → e < i → i ≤ length T → find (is_end T e t l) (range_with_len (e + 1) (i - (e + 1))) ≡ None
    → hold_count (take e T) t l ≢ d
one_open T rules i t l d a e w was there h f other early within unended same =
    let ends : (j : ℕ) → e + 1 ≤ j → j < i → is_end T e t l j ≡ false =
    λ j low high. find_none (is_end T e t l) (e + 1) (i - (e + 1)) unended j low (omega arith) in
    elim (cases_order e a) [
      | inl is ↦ other is
      | inr apart ↦
          elim apart [
            | inl lt ↦
                let here = held_above T rules e t l i w there h f ends within a lt (omega (arith, was.early)) in
                omega (arith, here, was.depth)
            | inr lt ↦
                let more = was.above e lt (omega arith) in
                omega (arith, more)
          ]
    ]

-- the end of the section of a, once it is there
end_found : (T : List Event) (outer : List (Option ℕ)) (i l a : ℕ) (v : Event) (top : Option ℕ) → slice_get T i ≡ Some v → v.op ≡ Release l
    → Ending T outer i l v top a → end_before T (i + 1) a ≡ Some i
end_found T outer i l a v top at op end =
    let t = v.thread in
    let was = end.is_open in
    let test = is_end T a t l in
    let none : find test (range_with_len (a + 1) (i - (a + 1))) ≡ None =
    none_found test (a + 1) (i - (a + 1)) (λ j low high.
    let more = was.above (j + 1) (omega arith) (omega (arith, was.early)) in
    let differ : hold_count (take (j + 1) T) t l ≡ hold_count (take a T) t l → ⊥ = λ e. absurd (omega (arith, more, was.depth)) in
    and_right (passes_at (λ w. frees w t l) T j) (eqb (hold_count (take (j + 1) T) t l) (hold_count (take a T) t l)) (ne_eqb _ _ differ)) in
    let now : test i ≡ true =
    and_from _ _ (passes_here (λ w. frees w t l) T i v at ∙ frees_from v t l refl op)
    (eq-eqb (hold_count (take (i + 1) T) t l) (hold_count (take a T) t l) (end.after ∙ sym was.depth)) in
    ap (section_of T (i + 1) a) was.acquire ∙ find_more test a i was.early ∙ ap (λ o. option_or o (cond (test i) (Some i) None)) none
    ∙ cond-true (test i) (Some i) None now

-- a release ends no other section
ends_no_other : (T : List Event) → IsDisciplined T → (outer : List (Option ℕ)) (i l a : ℕ) (v : Event) (top : Option ℕ) → slice_get T i ≡ Some v
    → v.op ≡ Release l → Ending T outer i l v top a → (e : ℕ) → e ≢ a → end_before T i e ≡ end_before T (i + 1) e
ends_no_other T rules outer i l a v top at op end e other =
    let within = slice_get_within T i v at in
    section_of-same T i e (slice_get T e) (λ w m there acquire early unended. false_from_ne_true (is_end T e w.thread m i) (λ h.
    let parts = and_parts (passes_at (λ u. frees u w.thread m) T i) (eqb (hold_count (take (i + 1) T) w.thread m) (hold_count (take e T) w.thread m)) h in
    let is = frees_is v w.thread m (sym (passes_here (λ u. frees u w.thread m) T i v at) ∙ parts.0) in
    let one : Release m ≡ Release l = sym is.1 ∙ op in
    let locks : m ≡ l = cc in
    let threads : w.thread ≡ v.thread = sym is.0 in
    let back : hold_count (take (i + 1) T) w.thread m ≡ hold_count (take e T) w.thread m = eqb-true _ _ parts.1 in
    let mine : hold_count (take (i + 1) T) v.thread l ≡ hold_count (take e T) v.thread l =
    subst₂ (λ (u n : ℕ). hold_count (take (i + 1) T) u n ≡ hold_count (take e T) u n) threads locks back in
    one_open T rules i v.thread l end.d a e w end.is_open there (takes_from w v.thread l threads (acquire ∙ ap Acquire locks))
    (acquire_frees_not w v.thread l m acquire) other early (omega arith)
    (subst₂ (λ (u n : ℕ). find (is_end T e u n) (range_with_len (e + 1) (i - (e + 1))) ≡ None) threads locks unended) (sym mine ∙ end.after)))

-- what a release makes of what is known
pub ended : (T : List Event) → IsDisciplined T → (ends outer top : List (Option ℕ)) (i lock n : ℕ) (v : Event) → slice_get T i ≡ Some v
    → v.op ≡ Release lock → lock < length top → IsTable (end_before T i) n ends → IsHeld T outer i lock (get_or top lock None)
    → (a : ℕ) × (get_or top lock None ≡ Some a) × (a < i) × IsTable (end_before T (i + 1)) n (set ends a (Some i)) × ((l : ℕ) → IsHeld T outer i l (get_or top l None) → IsHeld T outer (i + 1) l (get_or (set top lock (get_or outer a None)) l None))
ended T rules ends outer top i lock n v at op known table held =
    let (a, end) = ending T rules outer i lock v (get_or top lock None) at op held in (
      a,
      end.is_top,
      end.is_open.early,
      IsTable-set (end_before T i) (end_before T (i + 1)) n ends a (Some i) table (sym (end_found T outer i lock a v (get_or top lock None) at op end))
          (λ e within other. ends_no_other T rules outer i lock a v (get_or top lock None) at op end e other),
      ended_held T outer top i lock a v at op known end,
    )

-- neither an acquire nor a release
abbrev pub IsOffLocks : Op → Type 0
IsOffLocks op = ((x : ℕ) × (op ≡ Read x)) ⊎ (((x : ℕ) × (op ≡ Write x)) ⊎ (((u : ℕ) × (op ≡ Fork u)) ⊎ ((u : ℕ) × (op ≡ Join u))))

-- what is known after an event that is off all locks
pub passed_by : (r : Recording) (i : ℕ) (v : Event) (known : Open) → slice_get r.events i ≡ Some v → IsOffLocks v.op → AreOpen r i known
    → AreOpen r (i + 1) known
passed_by r i v known at off was =
    let takes_no : (t l : ℕ) → takes v t l ≡ false = λ t l. and_right (eqb v.thread t) (is_acquire l v.op) (IsApartFrom-rest v.op off l).0 in
    let frees_no : (t l : ℕ) → frees v t l ≡ false = λ t l. and_right (eqb v.thread t) (is_release l v.op) (IsApartFrom-rest v.op off l).1 in
    record {
      ends = IsTable-like (end_before r.events i) (end_before r.events (i + 1)) (length r.events) known.ends.items was.ends
          (λ e within. section_of-same r.events i e (slice_get r.events e) (λ w l there acquire early unended. ends_not r.events i e w.thread l v at (frees_no w.thread l)));
      outer = was.outer;
      top = was.top;
      held = λ l within. held_same r.events known.outer.items known.outer.items i l v (get_or known.top.items l None) at (λ a lt. refl)
          (λ t. takes_no t l) (λ t. frees_no t l) (was.held l within);
    }

section_by-none : (T : List Event) (e t : ℕ) (op : Op) → section_by T 0 e t op ≡ None
section_by-none T e t (Acquire l) = find_late (is_end T e t l) e 0 (omega arith)
section_by-none T e t op = refl

section_of-none : (T : List Event) (e : ℕ) (o : Option Event) → section_of T 0 e o ≡ None
section_of-none T e None = refl
section_of-none T e (Some v) = section_by-none T e v.thread v.op

-- what is known before the first event
pub nothing_known : (r : Recording) (known : Open) → known.ends.items ≡ replicate (length r.events) None
    → known.top.items ≡ replicate (length r.locks) None → known.outer.items ≡ replicate (length r.events) None → AreOpen r 0 known
nothing_known r known ends top outer =
    record {
      ends = rw ends (IsTable-replicate (end_before r.events 0) (length r.events) None (λ e within. section_of-none r.events e (slice_get r.events e)));
      outer = ap length outer ∙ length-replicate (length r.events) None;
      top = ap length top ∙ length-replicate (length r.locks) None;
      held = λ l within.
          let empty : get_or known.top.items l None ≡ None = ap (λ (xs : List (Option ℕ)). get_or xs l None) top ∙ get_or-replicate (length r.locks) l None None within in
          record { holder = 0; others = λ u other. refl; stack = empty };
    }

-- what is known after the last event
pub all_known : (r : Recording) (i : ℕ) (known : Open) → i ≡ length r.events → AreOpen r i known → IsTable (section_end r.events) (length r.events) known.ends.items
all_known r i known all was = subst (λ (k : ℕ). IsTable (end_before r.events k) (length r.events) known.ends.items) all was.ends

-- what a release makes of what is known, and the acquire whose section it ends
pub top_found : (r : Recording) → IsDisciplined r.events → (i lock : ℕ) (known : Open) → HasOp r.events i (Release lock) → lock < length r.locks
    → AreOpen r i known → (x : Option ℕ) → x ≡ get_or known.top.items lock x
    → (a : ℕ) × (x ≡ Some a) × (a < i) × IsTable (end_before r.events (i + 1)) (length r.events) (set known.ends.items a (Some i)) × ((l : ℕ) → l < length r.locks → IsHeld r.events known.outer.items (i + 1) l (get_or (set known.top.items lock (get_or known.outer.items a None)) l None))
top_found r rules i lock known release within was x is =
    let lock_within : lock < length known.top.items = omega (arith, was.top) in
    let found = ended r.events rules known.ends.items known.outer.items known.top.items i lock (length r.events) release.0 release.1 release.2 lock_within was.ends (was.held lock within) in (
      found.0,
      is ∙ get_or_default known.top.items lock x None lock_within ∙ found.1,
      found.2,
      found.3,
      λ l inside. found.4 l (was.held l inside),
    )

-- the same of the acquire that is read
pub top_read : (r : Recording) → IsDisciplined r.events → (i lock : ℕ) (known : Open) → HasOp r.events i (Release lock) → lock < length r.locks
    → AreOpen r i known → (x : Option ℕ) → x ≡ get_or known.top.items lock x → (b : ℕ) → x ≡ Some b
    → (b < i) × IsTable (end_before r.events (i + 1)) (length r.events) (set known.ends.items b (Some i)) × ((l : ℕ) → l < length r.locks → IsHeld r.events known.outer.items (i + 1) l (get_or (set known.top.items lock (get_or known.outer.items b None)) l None))
top_read r rules i lock known release within was x is b read =
    let (a, top, low, ends, held) = top_found r rules i lock known release within was x is in
    let same : a ≡ b = same_Some a b (sym top ∙ read) in
    rw (← same) (low, ends, held)
