-- A correct reordering of the trace that begins as it was recorded up to k is, behind the prologue, one of the window.
use Rattle.std.proofs.Common.{◌≡◌, ◌≢◌, ℕ, zero, suc, ◌+◌, ◌-◌, ◌<◌, ◌≤◌, ◌==◌, ◌&&◌, Bool, true, cond, nat_lt, List, [], ◌∷◌, ◌++◌, length, take, drop, map, reverse, count_by, get_or, All, Contains, Option, Some, None, slice_get, refl, sym, ap, ◌∙◌, subst, arith, add-one, inl, inr}
use Rattle.std.proofs.lemmas.Bool.{cases_lt, false≢true, lt-ltb, le-ltb}
use Rattle.std.proofs.lemmas.List.{take_more, take_all, take-append-drop, append_assoc, append-nil, map_push}
use Rattle.std.proofs.lemmas.List.Elements.{Contains-append_left}
use Rattle.std.proofs.lemmas.List.FromFn.{length-range_with_len, get_or-range_with_len}
use Rattle.std.proofs.lemmas.List.Sums.{sum_by-append, sum_by-cons, sum_by_push}
use Rattle.std.proofs.lemmas.Option.{same_Some}
use Rattle.rapid_text.specs.Operations.{is_acquire, is_release, is_write}
use Rattle.rapid_text.specs.declared.event.Event.{Event}
use Rattle.rapid_text.specs.declared.event.Op.TheVariants.{Read, Acquire, Fork, Join}
use Rattle.trace_rules.specs.Rules.{IsDisciplined, acquire_count, release_count}
use Rattle.trace_rules.proofs.CallerLemmas.{release_count-le}
use Rattle.event_index.specs.Events.{op_at, thread_at, passes_at, is_write_at}
use Rattle.event_index.specs.Lookups.{before, last_write, last_writer_by, fork_of}
use Rattle.event_index.proofs.CallerLemmas.{before_more, find_last_is, find-passes, passes_event, op_event, thread_here, op_here, fork_of-op}
use Rattle.shb_clocks.proofs.CallerLemmas.{fork_of-is}
use Rattle.schedule.specs.Reordering.{IsCorrectReordering, SeesItsWriter, FindsLockFree, JoinsEnded, events_at}
use Rattle.schedule.specs.Shows.{IsReady, Shows}
use Rattle.schedule.proofs.CallerLemmas.{Allows, Allows-enabled, IsEnabled-allowed, count_by-events_at}
use Rattle.schedule.proofs.LatestLemmas.{never_counted}
use Rattle.schedule.proofs.SwapLemmas.{front_is}
use Rattle.witness_search.proofs.KeptLemmas.{event_there, count_by-before}
use Rattle.must_order.proofs.ReadyLemmas.{IsReady-allowed, next_of-ready}
use Rattle.window.specs.Window.{IsWindow, back, forth, resumed, entered}
use Rattle.window.specs.Laws.{WindowIsComplete}
use Rattle.window.proofs.WindowLemmas.{tag, low_tag, writes_x, there, found_forth}
use Rattle.window.proofs.DisciplineLemmas.{window-disciplined}
use Rattle.window.proofs.SplitLemmas.{split}
use Rattle.window.proofs.ResumeLemmas.{resumed_yes, has_back, only_back, resumed-counts, resumed-writes, known}
use Rattle.window.proofs.SoundLemmas.{recorded, releases_in, thread_back, op_back, in_window, before_resumed, front_resumed, before_within, release_behind}

module _ (T W : List Event) (k m n x lock c : ℕ) (rules : IsDisciplined T) (is : IsWindow T W k m n x lock c) where
  -- a write of another variable than x stands behind the prologue
  write_behind : (y i : ℕ) → y ≢ x → is_write_at W y i ≡ true → n ≤ i
  write_behind y i other so =
      let v = passes_event (λ w. is_write y w.op) W i so in
      elim (cases_lt i n) [
        | inl low ↦ absurd (false≢true (sym (writes_x x lock y v.0.op other (is.ops i v.0 low v.1)) ∙ v.2))
        | inr le ↦ le
      ]

  last_behind : (y i : ℕ) (P : List ℕ) → y ≢ x → last_write W y P ≡ Some i → n ≤ i
  last_behind y i P other last = write_behind y i other (find-passes (is_write_at W y) (reverse P) i last)

  -- a fork stands behind the prologue
  fork_behind : (f t : ℕ) → op_at W f ≡ Some (Fork t) → n ≤ f
  fork_behind f t op =
      let g = op_event W f (Fork t) op in
      elim (cases_lt f n) [
        | inl low ↦ absurd (omega (arith, ap tag g.2, low_tag x lock g.0.op (is.ops f g.0 low g.1)))
        | inr le ↦ le
      ]

  -- what is known of the last write tells which write of the window it is
  module _ (y : ℕ) (other : y ≢ x) where
    early : (i : ℕ) → last_write T y (before k) ≡ Some (back n k i) → ⊥
    early i last = let found = find_last_is (is_write_at T y) k (back n k i) last in omega (arith, found.0)

    known_same : (o p : Option ℕ) → ((i : ℕ) → o ≡ Some i → n ≤ i) → ((i : ℕ) → p ≡ Some i → n ≤ i)
        → known T W k m n x lock c is y other o ≡ known T W k m n x lock c is y other p → o ≡ p
    known_same None None first second same = refl
    known_same None (Some i) first second same = absurd (early i same)
    known_same (Some i) None first second same = absurd (early i (sym same))
    known_same (Some i) (Some j) first second same =
        let one : back n k i ≡ back n k j = same_Some (back n k i) (back n k j) same in
        let equal : i ≡ j = omega (arith, one, first i refl, second j refl) in
        ap Some equal

  -- A list of the window that has the whole prologue.
  module _ (P : List ℕ) (front : (i : ℕ) → i < n → Contains P i) where
    from_back : (d : ℕ) → n ≤ d → Contains (resumed n k P) (back n k d) → Contains P d
    from_back d high has =
        elim (only_back n k P (back n k d) has) [
          | inl low ↦ absurd (omega arith)
          | inr one ↦
              let same : one.0 ≡ d = omega (arith, one.1, one.3, high) in
              subst (Contains P) same one.2
        ]

    from_either : (d : ℕ) → (n ≤ d → Contains (resumed n k P) (back n k d)) → Contains P d
    from_either d has =
        elim (cases_lt d n) [
          | inl low ↦ front d low
          | inr le ↦ from_back d le (has le)
        ]

    fork_from : (f t : ℕ) → fork_of W t ≡ Some f → ((g : ℕ) → fork_of T t ≡ Some g → Contains (resumed n k P) g) → Contains P f
    fork_from f t forks has =
        let op : op_at W f ≡ Some (Fork t) = fork_of-op W t f forks in
        let high : n ≤ f = fork_behind f t op in
        from_back f high (has (back n k f) (fork_of-is T rules (back n k f) t (op_back T W k m n x lock c rules is f (Fork t) high op)))

    ready_forth : (e : ℕ) → n ≤ e → e < length W → IsReady T (resumed n k P) (back n k e) → IsReady W P e
    ready_forth e high within ready =
        let v = event_there W e within in
        let t : ℕ = v.0.thread in
        let of : thread_at W e ≡ Some t = thread_here W e v.0 v.1 in
        let same : ready.thread ≡ t = same_Some ready.thread t (sym ready.of_thread ∙ thread_back T W k m n x lock c rules is e t high of) in
        record {
          thread = t;
          of_thread = of;
          fresh = λ has. ready.fresh (has_back n k P e high has);
          earlier = λ d lt also. from_either d (λ low. ready.earlier (back n k d) (omega (arith, lt, low)) (thread_back T W k m n x lock c rules is d t low also ∙ ap Some (sym same)));
          fork = λ f forks. fork_from f t forks (λ g there. ready.fork g (ap (fork_of T) same ∙ there));
        }

    -- An event of the window that the trace allows.
    module _ (correct : IsCorrectReordering W P) (Q_is : IsCorrectReordering T (resumed n k P))
        (counted : (p : ℕ → Bool) → count_by (λ i. nat_lt i n && p i) P ≡ count_by p (before n))
        (e : ℕ) (high : n ≤ e) (within : e < length W) (a : Allows T (resumed n k P) (back n k e)) where
      found_W : slice_get W e ≡ Some a.v
      found_W = there T W k m n x lock c is e high within ∙ a.found

      ready_W : IsReady W P e
      ready_W = ready_forth e high within (IsReady-allowed T (resumed n k P) (back n k e) Q_is a)

      writer_W : SeesItsWriter W P e
      writer_W y reads =
          let mine : a.v.op ≡ Read y = same_Some a.v.op (Read y) (sym (op_here W e a.v found_W) ∙ reads) in
          let other : y ≢ x = λ same. (is.unused e a.v high found_W).0 (mine ∙ ap Read same) in
          let does : op_at T (back n k e) ≡ Some (Read y) = op_here T (back n k e) a.v a.found ∙ ap Some mine in
          let spot : n + (e - n) ≡ e = omega arith in
          let numbers : resumed n k (before e) ≡ before (back n k e) =
          subst (λ (j : ℕ). resumed n k (before j) ≡ before (back n k e)) spot (before_resumed T W k m n x lock c rules is (e - n)) in
          known_same y other (last_write W y P) (last_write W y (before e)) (λ i. last_behind y i P other) (λ i. last_behind y i (before e) other)
          (sym (resumed-writes T W k m n x lock c is y other P (in_window T W k m n x lock c rules is P correct))
          ∙ a.writer y does
          ∙ ap (last_writer_by T (back n k e)) does
          ∙ sym (ap (last_write T y) numbers)
          ∙ resumed-writes T W k m n x lock c is y other (before e) (before_within T W k m n x lock c rules is e (omega (arith, within))))
          ∙ sym (ap (last_writer_by W e) reads)

      joins_W : JoinsEnded W P e
      joins_W u joins =
          let mine : a.v.op ≡ Join u = same_Some a.v.op (Join u) (sym (op_here W e a.v found_W) ∙ joins) in
          let there = a.ended u (op_here T (back n k e) a.v a.found ∙ ap Some mine) in
          record {
            events = λ d of. from_either d (λ low. there.events (back n k d) (thread_back T W k m n x lock c rules is d u low of));
            fork = λ f forks. fork_from f u forks there.fork;
          }

      lock_W : FindsLockFree W P e
      lock_W l u takes other =
          let Q : List ℕ = resumed n k P in
          let acquires : Event → Bool = λ w. w.thread == u && is_acquire l w.op in
          let releases : Event → Bool = λ w. w.thread == u && is_release l w.op in
          let mine : a.v.op ≡ Acquire l = same_Some a.v.op (Acquire l) (sym (op_here W e a.v found_W) ∙ takes) in
          let apart : l ≢ lock = λ same. (is.unlocked e a.v high found_W).0 (mine ∙ ap Acquire same) in
          let even : acquire_count (events_at T Q) u l ≡ release_count (events_at T Q) u l =
          a.lock l u (op_here T (back n k e) a.v a.found ∙ ap Some mine) (λ of. other (thread_here W e a.v found_W ∙ sym (thread_here T (back n k e) a.v a.found) ∙ of)) in
          let a_all = count_by-events_at W acquires P ∙ split (passes_at acquires W) n P in
          let r_all = count_by-events_at W releases P ∙ split (passes_at releases W) n P in
          let r_none : count_by (λ d. nat_lt d n && passes_at releases W d) P ≡ 0 =
          never_counted (λ d. nat_lt d n && passes_at releases W d) (λ d. release_behind T W k m n x lock c rules is u l d apart) P in
          let a_front : count_by (λ d. nat_lt d n && passes_at acquires W d) P ≡ count_by (passes_at acquires W) (before n) = counted (passes_at acquires W) in
          let a_pro = count_by-before W acquires n (omega (arith, is.size)) in
          let a_T = count_by-events_at T acquires Q ∙ resumed-counts T W k m n x lock c is acquires P (in_window T W k m n x lock c rules is P correct) in
          let r_T = count_by-events_at T releases Q ∙ resumed-counts T W k m n x lock c is releases P (in_window T W k m n x lock c rules is P correct) in
          let a_k = count_by-before T acquires k (omega (arith, is.begins, is.within)) in
          let r_k = count_by-before T releases k (omega (arith, is.begins, is.within)) in
          let low = release_count-le T rules k u l in
          let few = releases_in T W k m n x lock c rules is P correct u l in
          elim (is.taken u l apart).enough [
            | inl all ↦ omega (arith, even, a_all, r_all, r_none, a_front, a_pro, a_T, r_T, a_k, r_k, all, low)
            | inr rest ↦ elim rest [
              | inl fewer ↦ absurd (omega (arith, even, r_all, r_none, a_T, r_T, a_k, r_k, low, few, fewer, (is.taken u l apart).most))
              | inr off ↦ absurd ((off e a.v high found_W).0 mine)
            ]
          ]

      allowed_W : Allows W P e
      allowed_W = record {
        v = a.v;
        found = found_W;
        next = next_of-ready W P correct e ready_W a.v.thread (thread_here W e a.v found_W);
        forked = λ t f of forks.
            let same : ready_W.thread ≡ t = same_Some ready_W.thread t (sym ready_W.of_thread ∙ of) in
            ready_W.fork f (ap (fork_of W) same ∙ forks);
        writer = writer_W;
        lock = lock_W;
        ended = joins_W;
      }

  -- The prologue, and then a list.
  entered_front : (S : List ℕ) (i : ℕ) → i < n → Contains (entered n k S) i
  entered_front S i lt = Contains-append_left (before n) (map (forth n k) S) i (i, omega (arith, lt, length-range_with_len 0 n), get_or-range_with_len 0 n i i lt ∙ omega arith)

  count_before_n : (p : ℕ → Bool) (j : ℕ) → j ≤ n → count_by (λ i. nat_lt i n && p i) (before j) ≡ count_by p (before j)
  count_before_n p zero le = refl
  count_before_n p (suc j) le =
      let q : ℕ → Bool = λ i. nat_lt i n && p i in
      let one : count_by p (before (j + 1)) ≡ count_by p (before j) + cond (p j) 1 0 = ap (count_by p) (before_more j) ∙ sum_by_push (λ d. cond (p d) 1 0) (before j) j in
      let two : count_by q (before (j + 1)) ≡ count_by q (before j) + cond (q j) 1 0 = ap (count_by q) (before_more j) ∙ sum_by_push (λ d. cond (q d) 1 0) (before j) j in
      let here : cond {A = ℕ} (q j) 1 0 ≡ cond (p j) 1 0 = ap (λ b. cond {A = ℕ} (b && p j) 1 0) (lt-ltb j n (omega arith)) in
      subst (λ (i : ℕ). count_by q (before i) ≡ count_by p (before i)) (add-one j) (omega (arith, one, two, here, count_before_n p j (omega arith)))

  count_behind : (p : ℕ → Bool) (S : List ℕ) → count_by (λ i. nat_lt i n && p i) (map (forth n k) S) ≡ 0
  count_behind p [] = refl
  count_behind p (d ∷ S) =
      let none : cond {A = ℕ} (nat_lt (forth n k d) n && p (forth n k d)) 1 0 ≡ 0 = ap (λ b. cond {A = ℕ} (b && p (forth n k d)) 1 0) (le-ltb (forth n k d) n (omega arith)) in
      omega (arith, none, count_behind p S, sum_by-cons (λ i. cond {A = ℕ} (nat_lt i n && p i) 1 0) (forth n k d) (map (forth n k) S))

  entered_count : (S : List ℕ) (p : ℕ → Bool) → count_by (λ i. nat_lt i n && p i) (entered n k S) ≡ count_by p (before n)
  entered_count S p =
      omega (arith, sum_by-append (λ i. cond {A = ℕ} (nat_lt i n && p i) 1 0) (before n) (map (forth n k) S), count_before_n p n (omega arith), count_behind p S)

  entered_push : (S : List ℕ) (d : ℕ) → entered n k (S ++ d ∷ []) ≡ entered n k S ++ forth n k d ∷ []
  entered_push S d = ap (λ l. before n ++ l) (map_push (forth n k) S d) ∙ sym (append_assoc (before n) (map (forth n k) S) (forth n k d ∷ []))

  module _ (S : List ℕ) (all : IsCorrectReordering T (before k ++ S)) (low : All (λ d. d < m) S) where
    -- each beginning is a correct reordering of the trace
    beginning : (j : ℕ) → IsCorrectReordering T (before k ++ take j S)
    beginning j =
        front_is T (before k ++ take j S) (drop j S)
        (subst (IsCorrectReordering T) (ap (λ l. before k ++ l) (sym (take-append-drop j S)) ∙ sym (append_assoc (before k) (take j S) (drop j S))) all)

    -- so far: the list is correct, and resumes the beginning
    record Entered (j : ℕ) : Type 0 where
      pub correct : IsCorrectReordering W (entered n k (take j S))
      pub resumes : resumed n k (entered n k (take j S)) ≡ before k ++ take j S

    entered_up : (j : ℕ) → j ≤ length S → Entered j
    entered_up zero fits =
        let none : entered n k [] ≡ before n = append-nil (before n) in
        record {
          correct = subst (IsCorrectReordering W) (sym none) (recorded W (window-disciplined T W k m n x lock c rules is) n (omega (arith, is.size)));
          resumes = ap (resumed n k) none ∙ front_resumed T W k m n x lock c rules is n (omega arith) ∙ sym (append-nil (before k));
        }
    entered_up (suc j) fits =
        let rest : Entered j = entered_up j (omega arith) in
        let d : ℕ = get_or S j 0 in
        let more : take (j + 1) S ≡ take j S ++ d ∷ [] = take_more S j 0 (omega arith) in
        let longer : before k ++ take (j + 1) S ≡ (before k ++ take j S) ++ d ∷ [] = ap (λ l. before k ++ l) more ∙ sym (append_assoc (before k) (take j S) (d ∷ [])) in
        let Q_is : IsCorrectReordering T (before k ++ take j S) = beginning j in
        let a : Allows T (before k ++ take j S) d = Allows-enabled T (before k ++ take j S) d (subst (IsCorrectReordering T) longer (beginning (j + 1))) in
        let ready = IsReady-allowed T (before k ++ take j S) d Q_is a in
        let above : k ≤ d =
        elim (cases_lt d k) [
          | inl lt ↦ absurd (ready.fresh (Contains-append_left (before k) (take j S) d (d, omega (arith, lt, length-range_with_len 0 k), get_or-range_with_len 0 k d d lt ∙ omega arith)))
          | inr le ↦ le
        ] in
        let below : d < m = low j 0 (omega arith) in
        let P : List ℕ = entered n k (take j S) in
        let e : ℕ = forth n k d in
        let same : back n k e ≡ d = omega (arith, above) in
        let pushed : entered n k (take (j + 1) S) ≡ P ++ e ∷ [] = ap (entered n k) more ∙ entered_push (take j S) d in
        let allowed : Allows T (resumed n k P) (back n k e) =
        subst (λ (b : ℕ). Allows T (resumed n k P) b) (sym same) (subst (λ (l : List ℕ). Allows T l d) (sym rest.resumes) a) in
        let next : Allows W P e =
        allowed_W P (entered_front (take j S)) rest.correct (subst (IsCorrectReordering T) (sym rest.resumes) Q_is) (entered_count (take j S)) e (omega arith) (omega (arith, is.size, above, below)) allowed in
        subst Entered (add-one j)
        (record {
          correct = subst (IsCorrectReordering W) (sym pushed) (IsEnabled-allowed W P e rest.correct next);
          resumes = ap (resumed n k) pushed ∙ resumed_yes n k P e (omega arith) ∙ ap (λ l. l ++ back n k e ∷ []) rest.resumes
              ∙ ap (λ b. (before k ++ take j S) ++ b ∷ []) same ∙ sym longer;
        })

    whole : take (length S) S ≡ S
    whole = take_all (length S) S (omega arith)

    pub entered_is : IsCorrectReordering W (entered n k S)
    entered_is = subst (λ (l : List ℕ). IsCorrectReordering W (entered n k l)) whole (entered_up (length S) (omega arith)).correct

    pub entered_resumes : resumed n k (entered n k S) ≡ before k ++ S
    entered_resumes = subst (λ (l : List ℕ). resumed n k (entered n k l) ≡ before k ++ l) whole (entered_up (length S) (omega arith)).resumes

    ready_in : (a : ℕ) → k ≤ a → a < m → IsReady T (before k ++ S) a → IsReady W (entered n k S) (forth n k a)
    ready_in a above below ready =
        let same : back n k (forth n k a) ≡ a = omega (arith, above) in
        ready_forth (entered n k S) (entered_front S) (forth n k a) (omega arith) (omega (arith, is.size, above, below))
        (subst (λ (b : ℕ). IsReady T (resumed n k (entered n k S)) b) (sym same) (subst (λ (l : List ℕ). IsReady T l a) (sym entered_resumes) ready))

    pub shows_forth : (a b : ℕ) → k ≤ a → a < m → k ≤ b → b < m → Shows T (before k ++ S) a b → Shows W (entered n k S) (forth n k a) (forth n k b)
    shows_forth a b above below also too shows = record {
      conflict = record {
        v = shows.conflict.v;
        w = shows.conflict.w;
        first = found_forth T W k m n x lock c is a above below ∙ shows.conflict.first;
        second = found_forth T W k m n x lock c is b also too ∙ shows.conflict.second;
        clash = shows.conflict.clash;
      };
      first = ready_in a above below shows.first;
      second = ready_in b also too shows.second;
    }

pub complete_law : WindowIsComplete
complete_law T W k m n x lock c S rules is all low =
    (entered_is T W k m n x lock c rules is S all low, entered_resumes T W k m n x lock c rules is S all low, λ a b above below also too shows. shows_forth T W k m n x lock c rules is S all low a b above below also too shows)
