-- A window that is made is one.
use Rattle.std.proofs.Common.{◌≡◌, ◌≢◌, ℕ, zero, suc, ◌+◌, ◌-◌, ◌*◌, ◌<◌, ◌≤◌, ◌⊎◌, ◌==◌, ◌&&◌, false, cond, List, ◌++◌, length, take, drop, count_by, Contains, Some, refl, sym, ap, ◌∙◌, subst, arith, add-one, inl, inr}
use Rattle.std.specs.List.{slice_get}
use Rattle.std.specs.Option.{option_map}
use Rattle.std.proofs.lemmas.Bool.{cases_lt, cases_Bool, and_parts, eqb-true}
use Rattle.std.proofs.lemmas.List.{length-append, take_at, take-append-le, length-take-le, length-drop}
use Rattle.std.proofs.lemmas.List.Sums.{sum_by-append}
use Rattle.std.proofs.lemmas.Option.{slice_get_within, slice_get-get_or, get_or_from_slice_get}
use Rattle.rapid_text.specs.Operations.{is_acquire, is_release}
use Rattle.rapid_text.specs.declared.event.Event.{Event}
use Rattle.rapid_text.specs.declared.event.Op.TheVariants.{Read, Write, Acquire, Release, Fork}
use Rattle.trace_rules.specs.Rules.{IsDisciplined, acquire_count, release_count, hold_count}
use Rattle.event_index.specs.Events.{op_at}
use Rattle.event_index.proofs.CallerLemmas.{count_more, op_event, op_here}
use Rattle.witness_search.proofs.KeptLemmas.{event_there}
use Rattle.window.specs.Window.{IsTaken, IsWindow, IsPrologueOp, IsAwaiting, HasLink}
use Rattle.window.specs.Made.{does, chain_of, reads_of, part_of, window_by, links_of, front_of, AreHolds, AreOthers, AreReaders, IsUnused}
use Rattle.window.specs.Laws.{WindowIsMade}
use Rattle.window.proofs.PlaceLemmas.{get_front, get_behind, get_drop, get_take}
use Rattle.window.proofs.ChainLemmas.{IsCovered, covered-reads, covered-chain, chain-length, reads-length, chain-ops, reads-ops, chain-linked, chain-ends, chain-last, chain-takes, chain-frees, reads-takes, reads-frees, chain-thread, reads-thread, reads-read}

-- a thread takes nothing before its fork
none_before_fork : (T : List Event) → IsDisciplined T → (f t l : ℕ) → op_at T f ≡ Some (Fork t) → (j : ℕ) → j ≤ f → acquire_count (take j T) t l ≡ 0
none_before_fork T rules f t l forks zero le = refl
none_before_fork T rules f t l forks (suc j) le =
    let g = op_event T f (Fork t) forks in
    let (v, at) = event_there T j (omega (arith, slice_get_within T f g.0 g.1)) in
    let rest = none_before_fork T rules f t l forks j (omega arith) in
    let one = count_more (λ w. w.thread == t && is_acquire l w.op) T j v at in
    let fails : (v.thread == t && is_acquire l v.op) ≡ false =
    elim (cases_Bool (v.thread == t && is_acquire l v.op)) [
      | inr no_one ↦ no_one
      | inl passes ↦ absurd (rules.no_event_before_fork j f t v g.0 (omega arith) at g.1 g.2 (eqb-true v.thread t (and_parts (v.thread == t) (is_acquire l v.op) passes).0))
    ] in
    subst (λ (i : ℕ). acquire_count (take i T) t l ≡ 0) (add-one j)
    (one ∙ ap (λ b. acquire_count (take j T) t l + cond b 1 0) fails ∙ omega (arith, rest))

module _ (T : List Event) (k m x lock : ℕ) (holds : List (ℕ × ℕ)) (readers : List ℕ) (rules : IsDisciplined T) (begins : k ≤ m) (within : m ≤ length T)
    (held : AreHolds T k m holds) (others : AreOthers lock holds) (wait : AreReaders T k m holds readers) (unused : IsUnused T k m x lock) where
  abbrev C : List Event
  C = chain_of x lock holds

  abbrev R : List Event
  R = reads_of x lock readers

  abbrev L : List Event
  L = part_of T k m

  abbrev W : List Event
  W = window_by T k m x lock holds readers

  abbrev c : ℕ
  c = links_of holds

  abbrev n : ℕ
  n = front_of holds readers

  -- the end of the chain
  abbrev e0 : ℕ
  e0 = 7 * length holds

  long_C : length C ≡ e0
  long_C = chain-length x lock holds

  long_R : length R ≡ 3 * length readers
  long_R = reads-length x lock readers

  long_L : length L ≡ m - k
  long_L = length-take-le (m - k) (drop k T) (omega (arith, begins, within, length-drop k T))

  long_front : length (C ++ R) ≡ n
  long_front = omega (arith, length-append C R, long_C, long_R)

  long_W : length W ≡ n + (m - k)
  long_W = omega (arith, length-append (C ++ R) L, long_front, long_L)

  at_front : (i : ℕ) → i < n → slice_get W i ≡ slice_get (C ++ R) i
  at_front i lt = get_front (C ++ R) L i (omega (arith, lt, long_front))

  at_chain : (i : ℕ) → i < e0 → slice_get W i ≡ slice_get C i
  at_chain i lt = at_front i (omega (arith, lt)) ∙ get_front C R i (omega (arith, lt, long_C))

  at_reads : (i : ℕ) → i < 3 * length readers → slice_get W (e0 + i) ≡ slice_get R i
  at_reads i lt =
      let spot : e0 + i ≡ length C + i = omega (arith, long_C) in
      at_front (e0 + i) (omega (arith, lt)) ∙ ap (slice_get (C ++ R)) spot ∙ get_behind C R i

  at_read : (i : ℕ) → e0 ≤ i → i < n → slice_get W i ≡ slice_get R (i - e0)
  at_read i low high =
      let spot : e0 + (i - e0) ≡ i = omega (arith, low) in
      ap (slice_get W) (sym spot) ∙ at_reads (i - e0) (omega (arith, low, high))

  at_part : (i : ℕ) → i < m - k → slice_get W (n + i) ≡ slice_get T (k + i)
  at_part i lt =
      let spot : n + i ≡ length (C ++ R) + i = omega (arith, long_front) in
      ap (slice_get W) spot ∙ get_behind (C ++ R) L i ∙ get_take (m - k) (drop k T) i lt ∙ get_drop k T i

  -- an event of the trace from k to m that stands in the window
  at_event : (e : ℕ) (v : Event) → n ≤ e → slice_get W e ≡ Some v → (slice_get T (k + (e - n)) ≡ Some v) × (k + (e - n) < m)
  at_event e v low at =
      let high : e < length W = slice_get_within W e v at in
      let spot : n + (e - n) ≡ e = omega arith in
      let fits : e - n < m - k = omega (arith, high, long_W, low) in
      (sym (at_part (e - n) fits) ∙ ap (slice_get W) spot ∙ at, omega (arith, fits, begins))

  at_forth : (d : ℕ) → k ≤ d → d < m → slice_get W (n + (d - k)) ≡ slice_get T d
  at_forth d low high =
      let spot : k + (d - k) ≡ d = omega arith in
      at_part (d - k) (omega (arith, low, high)) ∙ ap (slice_get T) spot

  made_ops : (i : ℕ) (v : Event) → i < n → slice_get W i ≡ Some v → IsPrologueOp x lock v.op
  made_ops i v lt at =
      elim (cases_lt i e0) [
        | inl low ↦ chain-ops x lock holds i v (sym (at_chain i low) ∙ at)
        | inr le ↦ elim (reads-ops x lock readers (i - e0) v (sym (at_read i le lt) ∙ at)) [
          | inl read ↦ inl read
          | inr rest ↦ elim rest [
            | inl takes ↦ inr (inr (inr (lock, takes)))
            | inr frees ↦ inr (inr (inl frees))
          ]
        ]
      ]

  front_is : take n W ≡ C ++ R
  front_is = take_at (C ++ R) L n long_front

  front_takes : (t l : ℕ) → l ≢ lock → acquire_count (take n W) t l ≡ count_by (λ h. h.0 == t && h.1 == l) holds
  front_takes t l other =
      ap (λ es. acquire_count es t l) front_is
      ∙ omega (
        arith,
        sum_by-append (λ (e : Event). cond {A = ℕ} (e.thread == t && is_acquire l e.op) 1 0) C R,
        reads-takes x lock t l other readers,
        chain-takes x lock t l other holds,
      )

  all_frees : (t l : ℕ) → l ≢ lock → release_count W t l ≡ release_count L t l
  all_frees t l other =
      let f : Event → ℕ = λ e. cond (e.thread == t && is_release l e.op) 1 0 in
      omega (arith, sum_by-append f (C ++ R) L, sum_by-append f C R, chain-frees x lock t l other holds, reads-frees x lock t l other readers)

  made_taken : (t l : ℕ) → l ≢ lock → IsTaken T W k n t l
  made_taken t l other =
      let h = held t l in
      let same = front_takes t l other in
      record {
        most = omega (arith, h.most, same);
        enough = elim h.enough [
          | inl all ↦ inl (same ∙ all)
          | inr rest ↦ elim rest [
            | inl fewer ↦ inr (inl (omega (arith, fewer, same, all_frees t l other)))
            | inr off ↦ inr (inr (λ e v low at. let here = at_event e v low at in off (k + (e - n)) v (omega arith) here.1 here.0))
          ]
        ];
      }

  covered : IsCovered x lock (C ++ R)
  covered = covered-chain x lock holds R others (covered-reads x lock readers)

  -- a beginning of the prologue
  some_front : (i : ℕ) → i < n → take i W ≡ take i (C ++ R)
  some_front i lt = take-append-le i (C ++ R) L (omega (arith, lt, long_front))

  made_free : (i u : ℕ) (v : Event) → i < n → slice_get W i ≡ Some v → v.op ≡ Acquire lock → hold_count (take i W) u lock ≡ 0
  made_free i u v lt at takes =
      let even = covered.free i u v (sym (at_front i lt) ∙ at) takes in
      ap (λ es. hold_count es u lock) (some_front i lt) ∙ omega (arith, even)

  made_held : (i : ℕ) (v : Event) → i < n → slice_get W i ≡ Some v → ((l : ℕ) × (v.op ≡ Acquire l)) ⊎ (0 < hold_count (take i W) v.thread lock)
  made_held i v lt at =
      elim (covered.held i v (sym (at_front i lt) ∙ at)) [
        | inl takes ↦ inl takes
        | inr so ↦
            let some : 0 < hold_count (take i (C ++ R)) v.thread lock = omega (arith, so) in
            inr (subst (λ (es : List Event). 0 < hold_count es v.thread lock) (sym (some_front i lt)) some)
      ]

  made_linked : (i : ℕ) (d : Event) → i + 1 < c → slice_get W i ≡ Some d → (d.op ≡ Release lock) ⊎ HasLink W x lock c i d
  made_linked i d lt at =
      elim (chain-linked x lock holds i d lt (sym (at_chain i (omega (arith, lt))) ∙ at)) [
        | inl frees ↦ inl frees
        | inr link ↦
            inr (record {
              place = link.place;
              event = link.event;
              later = link.later;
              within = link.within;
              found = at_chain link.place (omega (arith, link.within)) ∙ link.found;
              kept = link.kept;
              link = elim link.link [
                | inl same ↦ inl same
                | inr r ↦ inr (r.0, r.1, λ h v low high there. r.2 h v low high (sym (at_chain h (omega (arith, high, link.within))) ∙ there))
              ];
            })
      ]

  made_ends : (i : ℕ) (v : Event) → i + 1 ≡ c → slice_get W i ≡ Some v → v.op ≡ Write x
  made_ends i v last at = chain-ends x lock holds i v last (sym (at_chain i (omega (arith, last))) ∙ at)

  made_reads : (i : ℕ) (v : Event) → c ≤ i → i < n → slice_get W i ≡ Some v → (v.op ≡ Read x) ⊎ ((v.op ≡ Acquire lock) ⊎ (v.op ≡ Release lock))
  made_reads i v low high at =
      elim (cases_lt i e0) [
        | inl front ↦ inr (inr (chain-last x lock holds i v (omega (arith, low, front)) (sym (at_chain i front) ∙ at)))
        | inr le ↦ reads-ops x lock readers (i - e0) v (sym (at_read i le high) ∙ at)
      ]

  made_awaited : (e : ℕ) (v : Event) → n ≤ e → slice_get W e ≡ Some v → IsAwaiting W n x c v
  made_awaited e v low at =
      let here = at_event e v low at in
      elim (wait.waits (k + (e - n)) v (omega arith) here.1 here.0) [
        | inl none ↦ inl (ap (λ (hs : List (ℕ × ℕ)). links_of hs) none)
        | inr rest ↦ elim rest [
          | inl forked ↦
              let f : ℕ = forked.0 in
              let does_fork : op_at W (n + (f - k)) ≡ Some (Fork v.thread) = ap (option_map (λ (w : Event). w.op)) (at_forth f forked.1 forked.2) ∙ forked.3 in
              inr (inl (n + (f - k), omega arith, does_fork))
          | inr reader ↦
              let (i, lt, is) = reader in
              let read = reads-read x lock readers i v.thread (slice_get-get_or readers i v.thread lt ∙ ap Some is) in
              inr (inr (e0 + read.0, does v.thread (Read x), omega (arith, read.1), at_reads read.0 read.1 ∙ read.2, refl, inr (omega arith, refl)))
        ]
      ]

  made_unforked : (i f : ℕ) (d : Event) → i < n → n ≤ f → slice_get W i ≡ Some d → op_at W f ≢ Some (Fork d.thread)
  made_unforked i f d lt low at forks =
      let g = op_event W f (Fork d.thread) forks in
      let here = at_event f g.0 low g.1 in
      let there : op_at T (k + (f - n)) ≡ Some (Fork d.thread) = op_here T (k + (f - n)) g.0 here.0 ∙ ap Some g.2 in
      elim (cases_lt i e0) [
        | inl front ↦
            let h = chain-thread x lock holds i d (sym (at_chain i front) ∙ at) in
            let none = none_before_fork T rules (k + (f - n)) d.thread h.0 there k (omega arith) in
            omega (arith, h.1, none, (held d.thread h.0).most)
        | inr le ↦
            let r = reads-thread x lock readers (i - e0) d (sym (at_read i le lt) ∙ at) in
            let one : Contains readers d.thread = (r.0, slice_get_within readers r.0 d.thread r.1, get_or_from_slice_get readers r.0 d.thread d.thread r.1) in
            wait.unforked d.thread (k + (f - n)) one (omega arith) here.1 there
      ]

  pub made : IsWindow T W k m n x lock c
  made = record {
    begins = begins;
    within = within;
    size = long_W;
    same = at_part;
    unused = λ e v low at. let here = at_event e v low at in unused.variable (k + (e - n)) v (omega arith) here.1 here.0;
    unlocked = λ e v low at. let here = at_event e v low at in unused.off (k + (e - n)) v (omega arith) here.1 here.0;
    chain = omega arith;
    ops = made_ops;
    taken = made_taken;
    free = made_free;
    held = made_held;
    linked = made_linked;
    ends = made_ends;
    reads = made_reads;
    awaited = made_awaited;
    unforked = made_unforked;
  }

pub made_law : WindowIsMade
made_law T k m x lock holds readers rules begins within held others wait unused = made T k m x lock holds readers rules begins within held others wait unused
