-- A correct reordering of the window, behind the events before k, is one of the trace.
use Rattle.std.proofs.Common.{◌≡◌, ◌≢◌, ℕ, zero, suc, ◌+◌, ◌-◌, ◌<◌, ◌≤◌, ◌==◌, ◌&&◌, Bool, true, false, nat_lt, List, [], ◌∷◌, ◌++◌, length, take, count_by, get_or, Contains, Some, slice_get, sym, ap, ◌∙◌, subst, arith, add-one, inl, inr}
use Rattle.std.proofs.lemmas.Bool.{cases_Bool, cases_lt, and_parts, ltb-true}
use Rattle.std.proofs.lemmas.List.{take_more, take_all}
use Rattle.std.proofs.lemmas.List.FromFn.{length-range_with_len, get_or-range_with_len}
use Rattle.std.proofs.lemmas.Option.{same_Some, slice_get_within}
use Rattle.rapid_text.specs.Operations.{is_acquire, is_release}
use Rattle.rapid_text.specs.declared.event.Event.{Event}
use Rattle.rapid_text.specs.declared.event.Op.{Op}
use Rattle.rapid_text.specs.declared.event.Op.TheVariants.{Read, Acquire, Release, Fork, Join}
use Rattle.trace_rules.specs.Rules.{IsDisciplined, acquire_count, release_count, hold_count}
use Rattle.trace_rules.proofs.CallerLemmas.{release_count-le, acquire-from_test, release-from_test}
use Rattle.event_index.specs.Events.{op_at, thread_at, passes_at}
use Rattle.event_index.specs.Lookups.{before, last_write, last_writer_by, fork_of}
use Rattle.event_index.specs.Relations.{IsConflicting}
use Rattle.event_index.proofs.CallerLemmas.{before_more, passes_event, thread_event, op_event, thread_here, op_here, fork_of-op, thread_within}
use Rattle.shb_clocks.proofs.CallerLemmas.{fork_of-is}
use Rattle.schedule.specs.Reordering.{IsCorrectReordering, SeesItsWriter, FindsLockFree, JoinsEnded, events_at}
use Rattle.schedule.specs.Shows.{IsReady, Shows}
use Rattle.schedule.proofs.CallerLemmas.{Allows, Allows-enabled, IsEnabled-allowed, IsEnabled-at, IsCorrectReordering-nil, IsCorrectReordering-take, count_by-events_at, releases_within_list}
use Rattle.schedule.proofs.CountLemmas.{same_counts, is_release_of_thread}
use Rattle.schedule.proofs.LatestLemmas.{never_counted}
use Rattle.witness_search.proofs.KeptLemmas.{event_there, count_by-before}
use Rattle.must_order.proofs.ListLemmas.{Contains-push_other}
use Rattle.must_order.proofs.ReadyLemmas.{IsReady-allowed, next_of-ready}
use Rattle.std.proofs.lemmas.List.Elements.{Contains-push}
use Rattle.window.specs.Window.{IsWindow, back, resumed}
use Rattle.window.specs.Laws.{WindowIsSound}
use Rattle.window.proofs.WindowLemmas.{releases_within, tag, arg, releases_lock, found_back, back_below, found_forth}
use Rattle.window.proofs.DisciplineLemmas.{window-disciplined}
use Rattle.window.proofs.SplitLemmas.{split, front_counted}
use Rattle.window.proofs.ResumeLemmas.{AreWithin, resumed-nil, resumed_yes, resumed_no, has_early, has_back, only_back, resumed-counts, resumed-writes, known}
use Rattle.window.proofs.PullLemmas.{chain_has}

-- what stands after a fork, a join in a trace that keeps the rules
module _ (T : List Event) (rules : IsDisciplined T) where
  -- the fork of an event's thread stands before the event
  pub fork_first : (e f t : ℕ) → thread_at T e ≡ Some t → op_at T f ≡ Some (Fork t) → f < e
  fork_first e f t of op =
      let v = thread_event T e t of in
      let g = op_event T f (Fork t) op in
      elim (cases_lt f e) [
        | inl lt ↦ lt
        | inr le ↦ elim (cases_lt e f) [
          | inl late ↦ absurd (rules.no_event_before_fork e f t v.0 g.0 late v.1 g.1 g.2 v.2)
          | inr ge ↦
              let one : f ≡ e = omega arith in
              let same : g.0 ≡ v.0 = same_Some g.0 v.0 (sym g.1 ∙ ap (slice_get T) one ∙ v.1) in
              absurd (rules.no_own_fork f g.0 g.1 (g.2 ∙ ap Fork (sym (ap (λ (w : Event). w.thread) same ∙ v.2))))
        ]
      ]

  -- the events of a joined thread stand before the join
  pub join_last : (e d u : ℕ) → op_at T e ≡ Some (Join u) → thread_at T d ≡ Some u → d < e
  join_last e d u op of =
      let v = op_event T e (Join u) op in
      let w = thread_event T d u of in
      elim (cases_lt d e) [
        | inl lt ↦ lt
        | inr le ↦ elim (cases_lt e d) [
          | inl late ↦ absurd (rules.no_event_after_join e d v.0 w.0 late v.1 w.1 (v.2 ∙ ap Join (sym w.2)))
          | inr ge ↦
              let one : d ≡ e = omega arith in
              let same : w.0 ≡ v.0 = same_Some w.0 v.0 (sym w.1 ∙ ap (slice_get T) one ∙ v.1) in
              absurd (rules.no_own_join e v.0 v.1 (v.2 ∙ ap Join (sym (sym (ap (λ (w : Event). w.thread) same) ∙ w.2))))
        ]
      ]

  -- and its fork does
  pub join_after_fork : (e f u : ℕ) → op_at T e ≡ Some (Join u) → op_at T f ≡ Some (Fork u) → f < e
  join_after_fork e f u op forks =
      let v = op_event T e (Join u) op in
      let g = op_event T f (Fork u) forks in
      elim (cases_lt f e) [
        | inl lt ↦ lt
        | inr le ↦ elim (cases_lt e f) [
          | inl late ↦ absurd (rules.no_join_before_fork e f u v.0 g.0 late v.1 g.1 g.2 v.2)
          | inr ge ↦
              let one : f ≡ e = omega arith in
              let same : g.0 ≡ v.0 = same_Some g.0 v.0 (sym g.1 ∙ ap (slice_get T) one ∙ v.1) in
              absurd (omega (arith, ap tag (sym g.2 ∙ ap (λ (w : Event). w.op) same ∙ v.2)))
        ]
      ]

  -- The trace as it was recorded is a correct reordering.
  before_has : (j d : ℕ) → d < j → Contains (before j) d
  before_has j d lt = (d, omega (arith, length-range_with_len 0 j), get_or-range_with_len 0 j d d lt ∙ omega arith)

  before_below : (j d : ℕ) → Contains (before j) d → d < j
  before_below j d (i, lt, at) =
      let low : i < j = omega (arith, length-range_with_len 0 j) in
      omega (arith, get_or-range_with_len 0 j i d low)

  module _ (j : ℕ) (v : Event) (at : slice_get T j ≡ Some v) (correct : IsCorrectReordering T (before j)) where
    recorded_ready : IsReady T (before j) j
    recorded_ready = record {
      thread = v.thread;
      of_thread = thread_here T j v at;
      fresh = λ has. absurd (omega (arith, before_below j j has));
      earlier = λ d lt of. before_has j d lt;
      fork = λ f forks. before_has j f (fork_first j f v.thread (thread_here T j v at) (fork_of-op T v.thread f forks));
    }

    recorded_free : FindsLockFree T (before j) j
    recorded_free l u takes other =
        let within : j < length T = slice_get_within T j v at in
        let acquires : Event → Bool = λ w. w.thread == u && is_acquire l w.op in
        let releases : Event → Bool = λ w. w.thread == u && is_release l w.op in
        let mine : v.op ≡ Acquire l = same_Some v.op (Acquire l) (sym (op_here T j v at) ∙ takes) in
        let free : hold_count (take j T) u l ≡ 0 = rules.acquires_free j l u v at mine (λ same. other (thread_here T j v at ∙ ap Some (sym same))) in
        let a = count_by-events_at T acquires (before j) ∙ count_by-before T acquires j (omega arith) in
        let r = count_by-events_at T releases (before j) ∙ count_by-before T releases j (omega arith) in
        omega (arith, free, a, r, release_count-le T rules j u l)

    recorded_allowed : Allows T (before j) j
    recorded_allowed = record {
      v = v;
      found = at;
      next = next_of-ready T (before j) correct j recorded_ready v.thread (thread_here T j v at);
      forked = λ t f of forks. before_has j f (fork_first j f t of (fork_of-op T t f forks));
      writer = λ y reads. sym (ap (last_writer_by T j) reads);
      lock = recorded_free;
      ended = λ u joins. record {
        events = λ d of. before_has j d (join_last j d u joins of);
        fork = λ f forks. before_has j f (join_after_fork j f u joins (fork_of-op T u f forks));
      };
    }

  pub recorded : (j : ℕ) → j ≤ length T → IsCorrectReordering T (before j)
  recorded zero fits = IsCorrectReordering-nil T
  recorded (suc j) fits =
      let (v, at) = event_there T j (omega arith) in
      let rest = recorded j (omega arith) in
      subst (λ (i : ℕ). IsCorrectReordering T (before i)) (add-one j)
      (subst (IsCorrectReordering T) (sym (before_more j)) (IsEnabled-allowed T (before j) j rest (recorded_allowed j v at rest)))

module _ (T W : List Event) (k m n x lock c : ℕ) (rules : IsDisciplined T) (is : IsWindow T W k m n x lock c) where
  W_rules : IsDisciplined W
  W_rules = window-disciplined T W k m n x lock c rules is

  pub thread_back : (e t : ℕ) → n ≤ e → thread_at W e ≡ Some t → thread_at T (back n k e) ≡ Some t
  thread_back e t high of =
      let v = thread_event W e t of in
      thread_here T (back n k e) v.0 (found_back T W k m n x lock c is e v.0 high v.1) ∙ ap Some v.2

  pub op_back : (e : ℕ) (op : Op) → n ≤ e → op_at W e ≡ Some op → op_at T (back n k e) ≡ Some op
  op_back e op high does =
      let v = op_event W e op does in
      op_here T (back n k e) v.0 (found_back T W k m n x lock c is e v.0 high v.1) ∙ ap Some v.2

  pub thread_forth : (d t : ℕ) → k ≤ d → d < m → thread_at T d ≡ Some t → thread_at W (n + (d - k)) ≡ Some t
  thread_forth d t low high of =
      let v = thread_event T d t of in
      thread_here W (n + (d - k)) v.0 (found_forth T W k m n x lock c is d low high ∙ v.1) ∙ ap Some v.2

  pub op_forth : (d : ℕ) (op : Op) → k ≤ d → d < m → op_at T d ≡ Some op → op_at W (n + (d - k)) ≡ Some op
  op_forth d op low high does =
      let v = op_event T d op does in
      op_here W (n + (d - k)) v.0 (found_forth T W k m n x lock c is d low high ∙ v.1) ∙ ap Some v.2

  -- an event of the trace that stands before one of the window is before k or of the window
  pub has_forth : (P : List ℕ) (e d : ℕ) → n ≤ e → e < length W → d < back n k e → (k ≤ d → Contains P (n + (d - k))) → Contains (resumed n k P) d
  has_forth P e d high within lt has =
      elim (cases_lt d k) [
        | inl low ↦ has_early n k P d low
        | inr le ↦
            let here : back n k (n + (d - k)) ≡ d = omega arith in
            subst (Contains (resumed n k P)) here (has_back n k P (n + (d - k)) (omega arith) (has le))
      ]

  -- what is ready in the window is ready in the trace
  pub ready_back : (P : List ℕ) (e : ℕ) → n ≤ e → IsReady W P e → IsReady T (resumed n k P) (back n k e)
  ready_back P e high ready =
      let t : ℕ = ready.thread in
      let within : e < length W = thread_within W e t ready.of_thread in
      let below : back n k e < m = back_below T W k m n x lock c is e high within in
      let of : thread_at T (back n k e) ≡ Some t = thread_back e t high ready.of_thread in
      record {
        thread = t;
        of_thread = of;
        fresh = λ has. elim (only_back n k P (back n k e) has) [
          | inl low ↦ absurd (omega arith)
          | inr one ↦
              let same : one.0 ≡ e = omega (arith, one.1, one.3, high) in
              ready.fresh (subst (Contains P) same one.2)
        ];
        earlier = λ d lt also. has_forth P e d high within lt
            (λ low. ready.earlier (n + (d - k)) (omega arith) (thread_forth d t low (omega arith) also));
        fork = λ f forks.
            let op : op_at T f ≡ Some (Fork t) = fork_of-op T t f forks in
            let lt : f < back n k e = fork_first T rules (back n k e) f t of op in
            has_forth P e f high within lt
            (λ low. ready.fork (n + (f - k)) (fork_of-is W W_rules (n + (f - k)) t (op_forth f (Fork t) low (omega arith) op)));
      }

  -- and what conflicts there conflicts here
  pub conflict_back : (a b : ℕ) → n ≤ a → n ≤ b → IsConflicting W a b → IsConflicting T (back n k a) (back n k b)
  conflict_back a b first second h = record {
    v = h.v;
    w = h.w;
    first = found_back T W k m n x lock c is a h.v first h.first;
    second = found_back T W k m n x lock c is b h.w second h.second;
    clash = h.clash;
  }

  pub in_window : (P : List ℕ) → IsCorrectReordering W P → AreWithin W P
  in_window P correct i lt = correct.in_trace i 0 lt

  -- the numbers before an event of the window
  pub front_resumed : (j : ℕ) → j ≤ n → resumed n k (before j) ≡ before k
  front_resumed zero fits = resumed-nil n k
  front_resumed (suc j) fits =
      subst (λ (i : ℕ). resumed n k (before i) ≡ before k) (add-one j)
      (ap (resumed n k) (before_more j) ∙ resumed_no n k (before j) j (omega arith) ∙ front_resumed j (omega arith))

  pub before_resumed : (i : ℕ) → resumed n k (before (n + i)) ≡ before (k + i)
  before_resumed zero =
      let here : n ≡ n + 0 = omega arith in
      let also : k ≡ k + 0 = omega arith in
      ap (λ j. resumed n k (before j)) (sym here) ∙ front_resumed n (omega arith) ∙ ap before also
  before_resumed (suc i) =
      let here : n + suc i ≡ n + i + 1 = omega arith in
      let also : k + i + 1 ≡ k + suc i = omega arith in
      let spot : back n k (n + i) ≡ k + i = omega arith in
      ap (λ j. resumed n k (before j)) here
      ∙ ap (resumed n k) (before_more (n + i))
      ∙ resumed_yes n k (before (n + i)) (n + i) (omega arith)
      ∙ ap (λ l. l ++ back n k (n + i) ∷ []) (before_resumed i)
      ∙ ap (λ j. before (k + i) ++ j ∷ []) spot
      ∙ sym (before_more (k + i))
      ∙ ap before also

  pub before_within : (e : ℕ) → e ≤ length W → AreWithin W (before e)
  before_within e fits i lt =
      let low : i < e = omega (arith, lt, length-range_with_len 0 e) in
      omega (arith, get_or-range_with_len 0 e i 0 low)

  -- in front of n nothing lets a lock go, and what takes one is of the chain
  pub release_behind : (u l d : ℕ) → l ≢ lock → (nat_lt d n && passes_at (λ w. w.thread == u && is_release l w.op) W d) ≡ false
  release_behind u l d other =
      elim (cases_Bool (nat_lt d n && passes_at (λ w. w.thread == u && is_release l w.op) W d)) [
        | inr fails ↦ fails
        | inl so ↦
            let parts = and_parts (nat_lt d n) (passes_at (λ w. w.thread == u && is_release l w.op) W d) so in
            let v = passes_event (λ w. w.thread == u && is_release l w.op) W d parts.1 in
            let op : v.0.op ≡ Release l = release-from_test l v.0.op (and_parts (v.0.thread == u) (is_release l v.0.op) v.2).1 in
            absurd (other (releases_lock x lock l v.0.op op (is.ops d v.0 (ltb-true d n parts.0) v.1)))
      ]

  acquire_chain : (u l i : ℕ) → l ≢ lock → i < n → passes_at (λ w. w.thread == u && is_acquire l w.op) W i ≡ true
      → (i < c) × ((v : Event) × (slice_get W i ≡ Some v) × (v.op ≢ Release lock))
  acquire_chain u l i other lt so =
      let v = passes_event (λ w. w.thread == u && is_acquire l w.op) W i so in
      let op : v.0.op ≡ Acquire l = acquire-from_test l v.0.op (and_parts (v.0.thread == u) (is_acquire l v.0.op) v.2).1 in
      let kept : v.0.op ≢ Release lock = λ frees. absurd (omega (arith, ap tag op, ap tag frees)) in
      elim (cases_lt i c) [
        | inl low ↦ (low, (v.0, v.1, kept))
        | inr le ↦ elim (is.reads i v.0 le lt v.1) [
          | inl read ↦ absurd (omega (arith, ap tag op, ap tag read))
          | inr rest ↦ elim rest [
            | inl own ↦ absurd (other (sym (ap arg op) ∙ ap arg own))
            | inr frees ↦ absurd (kept frees)
          ]
        ]
      ]

  -- a list of the window lets a lock go no oftener than the window does
  pub releases_in : (P : List ℕ) → IsCorrectReordering W P → (u l : ℕ) → release_count (events_at W P) u l ≤ release_count W u l
  releases_in P correct u l =
      let same = same_counts W P u (correct.thread_order u) in
      omega (arith, same.2 (λ v. v.thread == u && is_release l v.op) (is_release_of_thread u l), releases_within T W k m n x lock c is u l same.0 same.1)

  -- An event of the window that P allows.
  module _ (P : List ℕ) (correct : IsCorrectReordering W P) (Q_is : IsCorrectReordering T (resumed n k P)) (e : ℕ) (high : n ≤ e) (a : Allows W P e) where
    within : e < length W
    within = slice_get_within W e a.v a.found

    ready_T : IsReady T (resumed n k P) (back n k e)
    ready_T = ready_back P e high (IsReady-allowed W P e correct a)

    found_T : slice_get T (back n k e) ≡ Some a.v
    found_T = found_back T W k m n x lock c is e a.v high a.found

    -- the chain is in the list
    chain_in : (i : ℕ) (d : Event) → i < c → slice_get W i ≡ Some d → d.op ≢ Release lock → Contains P i
    chain_in i d lt at kept =
        Contains-push_other P e i
        (chain_has T W k m n x lock c is W_rules (P ++ e ∷ []) (IsEnabled-allowed W P e correct a) e i d high (Contains-push P e) lt at kept)
        (λ same. absurd (omega (arith, is.chain)))

    joins_T : JoinsEnded T (resumed n k P) (back n k e)
    joins_T u joins =
        let mine : a.v.op ≡ Join u = same_Some a.v.op (Join u) (sym (op_here T (back n k e) a.v found_T) ∙ joins) in
        let there = a.ended u (op_here W e a.v a.found ∙ ap Some mine) in
        let below : back n k e < m = back_below T W k m n x lock c is e high within in
        record {
          events = λ d of. has_forth P e d high within (join_last T rules (back n k e) d u joins of)
              (λ low. there.events (n + (d - k)) (thread_forth d u low (omega (arith, join_last T rules (back n k e) d u joins of)) of));
          fork = λ f forks.
              let op : op_at T f ≡ Some (Fork u) = fork_of-op T u f forks in
              let lt : f < back n k e = join_after_fork T rules (back n k e) f u joins op in
              has_forth P e f high within lt
              (λ low. there.fork (n + (f - k)) (fork_of-is W W_rules (n + (f - k)) u (op_forth f (Fork u) low (omega arith) op)));
        }

    -- other threads hold nothing of a lock that is taken
    lock_T : FindsLockFree T (resumed n k P) (back n k e)
    lock_T l u takes other =
        let Q : List ℕ = resumed n k P in
        let acquires : Event → Bool = λ w. w.thread == u && is_acquire l w.op in
        let releases : Event → Bool = λ w. w.thread == u && is_release l w.op in
        let mine : a.v.op ≡ Acquire l = same_Some a.v.op (Acquire l) (sym (op_here T (back n k e) a.v found_T) ∙ takes) in
        let apart : l ≢ lock = λ same. (is.unlocked e a.v high a.found).0 (mine ∙ ap Acquire same) in
        let even : acquire_count (events_at W P) u l ≡ release_count (events_at W P) u l =
        a.lock l u (op_here W e a.v a.found ∙ ap Some mine) (λ of. other (thread_back e u high of)) in
        let a_all = count_by-events_at W acquires P ∙ split (passes_at acquires W) n P in
        let r_all = count_by-events_at W releases P ∙ split (passes_at releases W) n P in
        let r_none : count_by (λ d. nat_lt d n && passes_at releases W d) P ≡ 0 =
        never_counted (λ d. nat_lt d n && passes_at releases W d) (λ d. release_behind u l d apart) P in
        let a_front : count_by (passes_at acquires W) (before n) ≤ count_by (λ d. nat_lt d n && passes_at acquires W d) P =
        front_counted (passes_at acquires W) P n (λ i lt passes. let h = acquire_chain u l i apart lt passes in chain_in i h.1.0 h.0 h.1.1 h.1.2) in
        let a_pro = count_by-before W acquires n (omega (arith, is.size)) in
        let a_T = count_by-events_at T acquires Q ∙ resumed-counts T W k m n x lock c is acquires P (in_window P correct) in
        let r_T = count_by-events_at T releases Q ∙ resumed-counts T W k m n x lock c is releases P (in_window P correct) in
        let a_k = count_by-before T acquires k (omega (arith, is.begins, is.within)) in
        let r_k = count_by-before T releases k (omega (arith, is.begins, is.within)) in
        let le = releases_within_list T Q u l rules (Q_is.thread_order u) in
        let low = release_count-le T rules k u l in
        let few = releases_in P correct u l in
        elim (is.taken u l apart).enough [
          | inl all ↦ omega (arith, even, a_all, r_all, r_none, a_front, a_pro, a_T, r_T, a_k, r_k, le, all, low)
          | inr rest ↦ elim rest [
            | inl fewer ↦ absurd (omega (arith, even, a_all, a_front, a_pro, fewer, few))
            | inr off ↦ absurd ((off e a.v high a.found).0 mine)
          ]
        ]

    -- a read keeps its writer
    writer_T : SeesItsWriter T (resumed n k P) (back n k e)
    writer_T y reads =
        let mine : a.v.op ≡ Read y = same_Some a.v.op (Read y) (sym (op_here T (back n k e) a.v found_T) ∙ reads) in
        let does : op_at W e ≡ Some (Read y) = op_here W e a.v a.found ∙ ap Some mine in
        let other : y ≢ x = λ same. (is.unused e a.v high a.found).0 (mine ∙ ap Read same) in
        let kept : last_write W y P ≡ last_write W y (before e) = a.writer y does ∙ ap (last_writer_by W e) does in
        let spot : n + (e - n) ≡ e = omega arith in
        let numbers : resumed n k (before e) ≡ before (back n k e) =
        subst (λ (j : ℕ). resumed n k (before j) ≡ before (back n k e)) spot (before_resumed (e - n)) in
        resumed-writes T W k m n x lock c is y other P (in_window P correct)
        ∙ ap (known T W k m n x lock c is y other) kept
        ∙ sym (resumed-writes T W k m n x lock c is y other (before e) (before_within e (omega (arith, within))))
        ∙ ap (last_write T y) numbers
        ∙ sym (ap (last_writer_by T (back n k e)) reads)

    pub allowed_T : Allows T (resumed n k P) (back n k e)
    allowed_T = record {
      v = a.v;
      found = found_T;
      next = next_of-ready T (resumed n k P) Q_is (back n k e) ready_T a.v.thread (thread_here T (back n k e) a.v found_T);
      forked = λ t f of forks.
          let same : ready_T.thread ≡ t = same_Some ready_T.thread t (sym ready_T.of_thread ∙ of) in
          ready_T.fork f (ap (fork_of T) same ∙ forks);
      writer = writer_T;
      lock = lock_T;
      ended = joins_T;
    }

  -- event by event
  sound_up : (P : List ℕ) → IsCorrectReordering W P → (j : ℕ) → j ≤ length P → IsCorrectReordering T (resumed n k (take j P))
  sound_up P correct zero fits = subst (IsCorrectReordering T) (sym (resumed-nil n k)) (recorded T rules k (omega (arith, is.begins, is.within)))
  sound_up P correct (suc j) fits =
      let e : ℕ = get_or P j 0 in
      let front : IsCorrectReordering W (take j P) = IsCorrectReordering-take W P j (omega arith) correct in
      let a : Allows W (take j P) e = Allows-enabled W (take j P) e (IsEnabled-at W P j 0 (omega arith) correct) in
      let rest : IsCorrectReordering T (resumed n k (take j P)) = sound_up P correct j (omega arith) in
      subst (λ (i : ℕ). IsCorrectReordering T (resumed n k (take i P))) (add-one j)
      (subst (λ (l : List ℕ). IsCorrectReordering T (resumed n k l)) (sym (take_more P j 0 (omega arith)))
      (elim (cases_lt e n) [
        | inl low ↦ subst (IsCorrectReordering T) (sym (resumed_no n k (take j P) e low)) rest
        | inr high ↦
            subst (IsCorrectReordering T) (sym (resumed_yes n k (take j P) e high))
            (IsEnabled-allowed T (resumed n k (take j P)) (back n k e) rest (allowed_T (take j P) front rest e high a))
      ]))

  pub resumed_is : (P : List ℕ) → IsCorrectReordering W P → IsCorrectReordering T (resumed n k P)
  resumed_is P correct = subst (λ (l : List ℕ). IsCorrectReordering T (resumed n k l)) (take_all (length P) P (omega arith)) (sound_up P correct (length P) (omega arith))

  pub shows_back : (P : List ℕ) (a b : ℕ) → n ≤ a → n ≤ b → Shows W P a b → Shows T (resumed n k P) (back n k a) (back n k b)
  shows_back P a b first second shows = record {
    conflict = conflict_back a b first second shows.conflict;
    first = ready_back P a first shows.first;
    second = ready_back P b second shows.second;
  }

pub sound_law : WindowIsSound
sound_law T W k m n x lock c P rules is correct =
    (resumed_is T W k m n x lock c rules is P correct, λ a b first second shows. shows_back T W k m n x lock c rules is P a b first second shows)
