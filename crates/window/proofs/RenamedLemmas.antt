-- A trace under other numbers has the same correct reorderings.
use Rattle.std.proofs.Common.{◌≡◌, ℕ, zero, suc, ◌-◌, ◌<◌, ◌≤◌, ◌==◌, ◌&&◌, ◌||◌, Bool, true, false, cond, List, [], ◌∷◌, length, take, map, find, reverse, count_by, get_or, Option, Some, None, slice_get, refl, sym, ap, ap₂, ◌∙◌, subst, arith, add-one, eq-eqb, inl, inr}
use Rattle.std.specs.Option.{option_map}
use Rattle.std.proofs.lemmas.Bool.{cases_eq, ne_eqb, eqb-true, and_parts, false≢true}
use Rattle.std.proofs.lemmas.List.{length-map, take_more, take_all, take-map}
use Rattle.std.proofs.lemmas.List.Sums.{sum_by-cons}
use Rattle.std.proofs.lemmas.Option.{none-some, same_Some, slice_get-map}
use Rattle.rapid_text.specs.Operations.{is_read, is_write, is_acquire, is_release, is_fork}
use Rattle.rapid_text.specs.declared.event.Event.{Event}
use Rattle.rapid_text.specs.declared.event.Op.{Op}
use Rattle.rapid_text.specs.declared.event.Op.TheVariants.{Read, Write, Acquire, Release, Fork, Join}
use Rattle.trace_rules.specs.Rules.{IsDisciplined, acquire_count, release_count, hold_count}
use Rattle.event_index.specs.Events.{op_at, thread_at, passes_at, passes_by, is_write_at, is_fork_at}
use Rattle.event_index.specs.Lookups.{before, last_write, last_writer, last_writer_by, fork_of}
use Rattle.event_index.specs.Relations.{is_access, IsConflicting}
use Rattle.event_index.proofs.CallerLemmas.{find-same, find-passes, passes_event, thread_event, op_event, thread_here, op_here}
use Rattle.schedule.specs.Reordering.{IsCorrectReordering, events_at}
use Rattle.schedule.specs.Shows.{IsReady, Shows}
use Rattle.schedule.proofs.CallerLemmas.{Allows, Allows-enabled, IsEnabled-allowed, IsEnabled-at, IsCorrectReordering-nil, IsCorrectReordering-take, count_by-events_at}
use Rattle.schedule.proofs.LatestLemmas.{count_by-same, none_counted}
use Rattle.must_order.proofs.ReadyLemmas.{IsReady-allowed, next_of-ready}
use Rattle.window.specs.Laws.{RenamingKeepsReorderings}
use Rattle.window.proofs.WindowLemmas.{tag, arg}
use Rattle.window.specs.Renamed.{Names, AreApart, renamed_op, renamed_event, renamed}

or_first : (a : Bool) → (a || false) ≡ true → a ≡ true
or_first true h = refl
or_first false h = h

-- a test of equal numbers
same_test : (f : ℕ → ℕ) → ((a b : ℕ) → f a ≡ f b → a ≡ b) → (a b : ℕ) → (f a == f b) ≡ (a == b)
same_test f apart a b =
    elim (cases_eq a b) [
      | inl same ↦ eq-eqb (f a) (f b) (ap f same) ∙ sym (eq-eqb a b same)
      | inr other ↦ ne_eqb (f a) (f b) (λ same. other (apart a b same)) ∙ sym (ne_eqb a b other)
    ]

module _ (f : Names) (apart : AreApart f) where
  write_test : (y : ℕ) (op : Op) → is_write (f.variable y) (renamed_op f op) ≡ is_write y op
  write_test y (Write x) = same_test f.variable apart.variables x y
  write_test y (Read x) = refl
  write_test y (Acquire l) = refl
  write_test y (Release l) = refl
  write_test y (Fork u) = refl
  write_test y (Join u) = refl

  read_test : (y : ℕ) (op : Op) → is_read (f.variable y) (renamed_op f op) ≡ is_read y op
  read_test y (Read x) = same_test f.variable apart.variables x y
  read_test y (Write x) = refl
  read_test y (Acquire l) = refl
  read_test y (Release l) = refl
  read_test y (Fork u) = refl
  read_test y (Join u) = refl

  fork_test : (t : ℕ) (op : Op) → is_fork (f.thread t) (renamed_op f op) ≡ is_fork t op
  fork_test t (Fork u) = same_test f.thread apart.threads u t
  fork_test t (Read x) = refl
  fork_test t (Write x) = refl
  fork_test t (Acquire l) = refl
  fork_test t (Release l) = refl
  fork_test t (Join u) = refl

  acquire_test : (l : ℕ) (op : Op) → is_acquire (f.lock l) (renamed_op f op) ≡ is_acquire l op
  acquire_test l (Acquire k) = same_test f.lock apart.locks k l
  acquire_test l (Read x) = refl
  acquire_test l (Write x) = refl
  acquire_test l (Release k) = refl
  acquire_test l (Fork u) = refl
  acquire_test l (Join u) = refl

  release_test : (l : ℕ) (op : Op) → is_release (f.lock l) (renamed_op f op) ≡ is_release l op
  release_test l (Release k) = same_test f.lock apart.locks k l
  release_test l (Read x) = refl
  release_test l (Write x) = refl
  release_test l (Acquire k) = refl
  release_test l (Fork u) = refl
  release_test l (Join u) = refl

  -- what an operation was
  was_read : (y : ℕ) (op : Op) → renamed_op f op ≡ Read y → (x : ℕ) × (op ≡ Read x) × (f.variable x ≡ y)
  was_read y (Read z) h = (z, refl, ap arg h)
  was_read y (Write z) h = absurd (omega (arith, ap tag h))
  was_read y (Acquire z) h = absurd (omega (arith, ap tag h))
  was_read y (Release z) h = absurd (omega (arith, ap tag h))
  was_read y (Fork z) h = absurd (omega (arith, ap tag h))
  was_read y (Join z) h = absurd (omega (arith, ap tag h))

  was_acquire : (y : ℕ) (op : Op) → renamed_op f op ≡ Acquire y → (x : ℕ) × (op ≡ Acquire x) × (f.lock x ≡ y)
  was_acquire y (Read z) h = absurd (omega (arith, ap tag h))
  was_acquire y (Write z) h = absurd (omega (arith, ap tag h))
  was_acquire y (Acquire z) h = (z, refl, ap arg h)
  was_acquire y (Release z) h = absurd (omega (arith, ap tag h))
  was_acquire y (Fork z) h = absurd (omega (arith, ap tag h))
  was_acquire y (Join z) h = absurd (omega (arith, ap tag h))

  was_join : (y : ℕ) (op : Op) → renamed_op f op ≡ Join y → (x : ℕ) × (op ≡ Join x) × (f.thread x ≡ y)
  was_join y (Read z) h = absurd (omega (arith, ap tag h))
  was_join y (Write z) h = absurd (omega (arith, ap tag h))
  was_join y (Acquire z) h = absurd (omega (arith, ap tag h))
  was_join y (Release z) h = absurd (omega (arith, ap tag h))
  was_join y (Fork z) h = absurd (omega (arith, ap tag h))
  was_join y (Join z) h = (z, refl, ap arg h)

  was_fork : (y : ℕ) (op : Op) → renamed_op f op ≡ Fork y → (x : ℕ) × (op ≡ Fork x) × (f.thread x ≡ y)
  was_fork y (Read z) h = absurd (omega (arith, ap tag h))
  was_fork y (Write z) h = absurd (omega (arith, ap tag h))
  was_fork y (Acquire z) h = absurd (omega (arith, ap tag h))
  was_fork y (Release z) h = absurd (omega (arith, ap tag h))
  was_fork y (Fork z) h = (z, refl, ap arg h)
  was_fork y (Join z) h = absurd (omega (arith, ap tag h))

  module _ (V : List Event) where
    abbrev W : List Event
    W = renamed f V

    get_same : (e : ℕ) → slice_get W e ≡ option_map (renamed_event f) (slice_get V e)
    get_same e = slice_get-map (renamed_event f) V e

    here : (e : ℕ) (v : Event) → slice_get V e ≡ Some v → slice_get W e ≡ Some (renamed_event f v)
    here e v at = get_same e ∙ ap (option_map (renamed_event f)) at

    there_by : (o : Option Event) (w : Event) → option_map (renamed_event f) o ≡ Some w → (v : Event) × (o ≡ Some v) × (renamed_event f v ≡ w)
    there_by None w h = absurd (none-some w h)
    there_by (Some v) w h = (v, refl, same_Some (renamed_event f v) w h)

    back_event : (e : ℕ) (w : Event) → slice_get W e ≡ Some w → (v : Event) × (slice_get V e ≡ Some v) × (renamed_event f v ≡ w)
    back_event e w at = there_by (slice_get V e) w (sym (get_same e) ∙ at)

    -- tests, by what they test
    passes_both : (p q : Event → Bool) → ((v : Event) → p (renamed_event f v) ≡ q v) → (e : ℕ) → passes_at p W e ≡ passes_at q V e
    passes_both p q same e = ap (passes_by p) (get_same e) ∙ by_option (slice_get V e)
      where
        by_option : (o : Option Event) → passes_by p (option_map (renamed_event f) o) ≡ passes_by q o
        by_option None = refl
        by_option (Some v) = same v

    thread_forth : (e t : ℕ) → thread_at V e ≡ Some t → thread_at W e ≡ Some (f.thread t)
    thread_forth e t of = let v = thread_event V e t of in thread_here W e (renamed_event f v.0) (here e v.0 v.1) ∙ ap (λ u. Some (f.thread u)) v.2

    thread_back : (e u : ℕ) → thread_at W e ≡ Some u → (t : ℕ) × (thread_at V e ≡ Some t) × (f.thread t ≡ u)
    thread_back e u of =
        let w = thread_event W e u of in
        let v = back_event e w.0 w.1 in
        (v.0.thread, thread_here V e v.0 v.1, ap (λ (z : Event). z.thread) v.2 ∙ w.2)

    -- of a thread that is known
    thread_is : (e t : ℕ) → thread_at W e ≡ Some (f.thread t) → thread_at V e ≡ Some t
    thread_is e t of = let b = thread_back e (f.thread t) of in b.1 ∙ ap Some (apart.threads b.0 t b.2)

    op_forth : (e : ℕ) (op : Op) → op_at V e ≡ Some op → op_at W e ≡ Some (renamed_op f op)
    op_forth e op does = let v = op_event V e op does in op_here W e (renamed_event f v.0) (here e v.0 v.1) ∙ ap (λ o. Some (renamed_op f o)) v.2

    op_back : (e : ℕ) (op : Op) → op_at W e ≡ Some op → (o : Op) × (op_at V e ≡ Some o) × (renamed_op f o ≡ op)
    op_back e op does =
        let w = op_event W e op does in
        let v = back_event e w.0 w.1 in
        (v.0.op, op_here V e v.0 v.1, ap (λ (z : Event). z.op) v.2 ∙ w.2)

    long : length W ≡ length V
    long = length-map V (renamed_event f)

    -- the look-ups
    fork_same : (t : ℕ) → fork_of W (f.thread t) ≡ fork_of V t
    fork_same t =
        ap (λ n. find (is_fork_at W (f.thread t)) (before n)) long
        ∙ find-same (is_fork_at W (f.thread t)) (is_fork_at V t) (passes_both (λ v. is_fork (f.thread t) v.op) (λ v. is_fork t v.op) (λ v. fork_test t v.op)) (before (length V))

    writes_same : (y : ℕ) (es : List ℕ) → last_write W (f.variable y) es ≡ last_write V y es
    writes_same y es =
        find-same (is_write_at W (f.variable y)) (is_write_at V y) (passes_both (λ v. is_write (f.variable y) v.op) (λ v. is_write y v.op) (λ v. write_test y v.op)) (reverse es)

    acquires_same : (u l : ℕ) (P : List ℕ) → acquire_count (events_at W P) (f.thread u) (f.lock l) ≡ acquire_count (events_at V P) u l
    acquires_same u l P =
        count_by-events_at W (λ v. v.thread == f.thread u && is_acquire (f.lock l) v.op) P
        ∙ count_by-same (passes_at (λ v. v.thread == f.thread u && is_acquire (f.lock l) v.op) W) (passes_at (λ v. v.thread == u && is_acquire l v.op) V)
        (passes_both (λ v. v.thread == f.thread u && is_acquire (f.lock l) v.op) (λ v. v.thread == u && is_acquire l v.op) (λ v. ap₂ (λ a b. a && b) (same_test f.thread apart.threads v.thread u) (acquire_test l v.op))) P
        ∙ sym (count_by-events_at V (λ v. v.thread == u && is_acquire l v.op) P)

    releases_same : (u l : ℕ) (P : List ℕ) → release_count (events_at W P) (f.thread u) (f.lock l) ≡ release_count (events_at V P) u l
    releases_same u l P =
        count_by-events_at W (λ v. v.thread == f.thread u && is_release (f.lock l) v.op) P
        ∙ count_by-same (passes_at (λ v. v.thread == f.thread u && is_release (f.lock l) v.op) W) (passes_at (λ v. v.thread == u && is_release l v.op) V)
        (passes_both (λ v. v.thread == f.thread u && is_release (f.lock l) v.op) (λ v. v.thread == u && is_release l v.op) (λ v. ap₂ (λ a b. a && b) (same_test f.thread apart.threads v.thread u) (release_test l v.op))) P
        ∙ sym (count_by-events_at V (λ v. v.thread == u && is_release l v.op) P)

    -- readiness
    ready_forth : (P : List ℕ) (e : ℕ) → IsReady V P e → IsReady W P e
    ready_forth P e ready = record {
      thread = f.thread ready.thread;
      of_thread = thread_forth e ready.thread ready.of_thread;
      fresh = ready.fresh;
      earlier = λ d lt of. ready.earlier d lt (thread_is d ready.thread of);
      fork = λ g forks. ready.fork g (sym (fork_same ready.thread) ∙ forks);
    }

    ready_back : (P : List ℕ) (e : ℕ) → IsReady W P e → IsReady V P e
    ready_back P e ready =
        let b = thread_back e ready.thread ready.of_thread in
        record {
          thread = b.0;
          of_thread = b.1;
          fresh = ready.fresh;
          earlier = λ d lt of. ready.earlier d lt (thread_forth d b.0 of ∙ ap Some b.2);
          fork = λ g forks. ready.fork g (ap (fork_of W) (sym b.2) ∙ fork_same b.0 ∙ forks);
        }

    -- who is counted in W is of V
    counted_forth : (P : List ℕ) (u l : ℕ) → ((t : ℕ) → f.thread t ≡ u → acquire_count (events_at W P) u l ≡ release_count (events_at W P) u l)
        → acquire_count (events_at W P) u l ≡ release_count (events_at W P) u l
    counted_forth P u l same = by_find (find (passes_at acquires W) (reverse P)) (find (passes_at releases W) (reverse P)) refl refl
      where
        acquires : Event → Bool
        acquires v = v.thread == u && is_acquire l v.op

        releases : Event → Bool
        releases v = v.thread == u && is_release l v.op

        by_find : (o p : Option ℕ) → find (passes_at acquires W) (reverse P) ≡ o → find (passes_at releases W) (reverse P) ≡ p
            → acquire_count (events_at W P) u l ≡ release_count (events_at W P) u l
        by_find None None first second =
            count_by-events_at W acquires P ∙ none_counted (passes_at acquires W) P first
            ∙ sym (count_by-events_at W releases P ∙ none_counted (passes_at releases W) P second)
        by_find (Some e) p first second =
            let w = passes_event acquires W e (find-passes (passes_at acquires W) (reverse P) e first) in
            let of : thread_at W e ≡ Some u = thread_here W e w.0 w.1 ∙ ap Some (eqb-true w.0.thread u (and_parts (w.0.thread == u) (is_acquire l w.0.op) w.2).0) in
            let t = thread_back e u of in
            same t.0 t.2
        by_find None (Some e) first second =
            let w = passes_event releases W e (find-passes (passes_at releases W) (reverse P) e second) in
            let of : thread_at W e ≡ Some u = thread_here W e w.0 w.1 ∙ ap Some (eqb-true w.0.thread u (and_parts (w.0.thread == u) (is_release l w.0.op) w.2).0) in
            let t = thread_back e u of in
            same t.0 t.2

    -- a read sees the same write
    writer_same : (e x : ℕ) → op_at V e ≡ Some (Read x) → last_writer W e ≡ last_writer V e
    writer_same e x reads =
        ap (last_writer_by W e) (op_forth e (Read x) reads) ∙ writes_same x (before e) ∙ sym (ap (last_writer_by V e) reads)

    module _ (P : List ℕ) (e : ℕ) (V_is : IsCorrectReordering V P) (W_is : IsCorrectReordering W P) where
      allows_forth : Allows V P e → Allows W P e
      allows_forth a =
          let ready = ready_forth P e (IsReady-allowed V P e V_is a) in
          record {
            v = renamed_event f a.v;
            found = here e a.v a.found;
            next = next_of-ready W P W_is e ready (f.thread a.v.thread) (thread_here W e (renamed_event f a.v) (here e a.v a.found));
            forked = λ t g of forks.
                let same : ready.thread ≡ t = same_Some ready.thread t (sym ready.of_thread ∙ of) in
                ready.fork g (ap (fork_of W) same ∙ forks);
            writer = λ y reads.
                let o = op_back e (Read y) reads in
                let z = was_read y o.0 o.2 in
                let does : op_at V e ≡ Some (Read z.0) = o.1 ∙ ap Some z.1 in
                ap (λ q. last_write W q P) (sym z.2) ∙ writes_same z.0 P ∙ a.writer z.0 does ∙ sym (writer_same e z.0 does);
            lock = λ l u takes other.
                let o = op_back e (Acquire l) takes in
                let z = was_acquire l o.0 o.2 in
                let does : op_at V e ≡ Some (Acquire z.0) = o.1 ∙ ap Some z.1 in
                counted_forth P u l
                (λ t same.
                let even : acquire_count (events_at V P) t z.0 ≡ release_count (events_at V P) t z.0 = a.lock z.0 t does (λ of. other (thread_forth e t of ∙ ap Some same)) in
                sym (ap₂ (λ b q. acquire_count (events_at W P) b q) same z.2) ∙ acquires_same t z.0 P ∙ even ∙ sym (releases_same t z.0 P)
                ∙ ap₂ (λ b q. release_count (events_at W P) b q) same z.2);
            ended = λ u joins.
                let o = op_back e (Join u) joins in
                let z = was_join u o.0 o.2 in
                let there = a.ended z.0 (o.1 ∙ ap Some z.1) in
                record {
                  events = λ d of. there.events d (thread_is d z.0 (of ∙ ap Some (sym z.2)));
                  fork = λ g forks. there.fork g (sym (fork_same z.0) ∙ ap (fork_of W) z.2 ∙ forks);
                };
          }

      allows_back : Allows W P e → Allows V P e
      allows_back a =
          let ready = ready_back P e (IsReady-allowed W P e W_is a) in
          let b = back_event e a.v a.found in
          record {
            v = b.0;
            found = b.1;
            next = next_of-ready V P V_is e ready b.0.thread (thread_here V e b.0 b.1);
            forked = λ t g of forks.
                let same : ready.thread ≡ t = same_Some ready.thread t (sym ready.of_thread ∙ of) in
                ready.fork g (ap (fork_of V) same ∙ forks);
            writer = λ y reads. sym (writes_same y P) ∙ a.writer (f.variable y) (op_forth e (Read y) reads) ∙ writer_same e y reads;
            lock = λ l u takes other.
                sym (acquires_same u l P) ∙ a.lock (f.lock l) (f.thread u) (op_forth e (Acquire l) takes) (λ of. other (thread_is e u of)) ∙ releases_same u l P;
            ended = λ u joins.
                let there = a.ended (f.thread u) (op_forth e (Join u) joins) in
                record {
                  events = λ d of. there.events d (thread_forth d u of);
                  fork = λ g forks. there.fork g (fork_same u ∙ forks);
                };
          }

    forth_up : (P : List ℕ) → IsCorrectReordering V P → (j : ℕ) → j ≤ length P → IsCorrectReordering W (take j P)
    forth_up P is zero fits = IsCorrectReordering-nil W
    forth_up P is (suc j) fits =
        let e : ℕ = get_or P j 0 in
        let rest = forth_up P is j (omega arith) in
        let a : Allows V (take j P) e = Allows-enabled V (take j P) e (IsEnabled-at V P j 0 (omega arith) is) in
        subst (λ (i : ℕ). IsCorrectReordering W (take i P)) (add-one j)
        (subst (IsCorrectReordering W) (sym (take_more P j 0 (omega arith)))
        (IsEnabled-allowed W (take j P) e rest (allows_forth (take j P) e (IsCorrectReordering-take V P j (omega arith) is) rest a)))

    back_up : (P : List ℕ) → IsCorrectReordering W P → (j : ℕ) → j ≤ length P → IsCorrectReordering V (take j P)
    back_up P is zero fits = IsCorrectReordering-nil V
    back_up P is (suc j) fits =
        let e : ℕ = get_or P j 0 in
        let rest = back_up P is j (omega arith) in
        let a : Allows W (take j P) e = Allows-enabled W (take j P) e (IsEnabled-at W P j 0 (omega arith) is) in
        subst (λ (i : ℕ). IsCorrectReordering V (take i P)) (add-one j)
        (subst (IsCorrectReordering V) (sym (take_more P j 0 (omega arith)))
        (IsEnabled-allowed V (take j P) e rest (allows_back (take j P) e rest (IsCorrectReordering-take W P j (omega arith) is) a)))

    -- conflicts
    access_test : (y : ℕ) (op : Op) → is_access (f.variable y) (renamed_op f op) ≡ is_access y op
    access_test y op = ap₂ (λ a b. a || b) (read_test y op) (write_test y op)

    was_access : (y : ℕ) (op : Op) → is_access y (renamed_op f op) ≡ true → (x : ℕ) × (f.variable x ≡ y)
    was_access y (Read x) h = (x, eqb-true (f.variable x) y (or_first (f.variable x == y) h))
    was_access y (Write x) h = (x, eqb-true (f.variable x) y h)
    was_access y (Acquire l) h = absurd (false≢true h)
    was_access y (Release l) h = absurd (false≢true h)
    was_access y (Fork u) h = absurd (false≢true h)
    was_access y (Join u) h = absurd (false≢true h)

    conflict_forth : (a b : ℕ) → IsConflicting V a b → IsConflicting W a b
    conflict_forth a b h = record {
      v = renamed_event f h.v;
      w = renamed_event f h.w;
      first = here a h.v h.first;
      second = here b h.w h.second;
      clash = record {
        threads = λ same. h.clash.threads (apart.threads h.v.thread h.w.thread same);
        variable = f.variable h.clash.variable;
        first = access_test h.clash.variable h.v.op ∙ h.clash.first;
        second = access_test h.clash.variable h.w.op ∙ h.clash.second;
        writes = ap₂ (λ p q. p || q) (write_test h.clash.variable h.v.op) (write_test h.clash.variable h.w.op) ∙ h.clash.writes;
      };
    }

    conflict_back : (a b : ℕ) → IsConflicting W a b → IsConflicting V a b
    conflict_back a b h =
        let v = back_event a h.v h.first in
        let w = back_event b h.w h.second in
        let y : ℕ = h.clash.variable in
        let on_v : is_access y (renamed_op f v.0.op) ≡ true = ap (λ (z : Event). is_access y z.op) v.2 ∙ h.clash.first in
        let on_w : is_access y (renamed_op f w.0.op) ≡ true = ap (λ (z : Event). is_access y z.op) w.2 ∙ h.clash.second in
        let x = was_access y v.0.op on_v in
        record {
          v = v.0;
          w = w.0;
          first = v.1;
          second = w.1;
          clash = record {
            threads = λ same. h.clash.threads (sym (ap (λ (z : Event). z.thread) v.2) ∙ ap f.thread same ∙ ap (λ (z : Event). z.thread) w.2);
            variable = x.0;
            first = sym (access_test x.0 v.0.op) ∙ ap (λ q. is_access q (renamed_op f v.0.op)) x.1 ∙ on_v;
            second = sym (access_test x.0 w.0.op) ∙ ap (λ q. is_access q (renamed_op f w.0.op)) x.1 ∙ on_w;
            writes =
                ap₂ (λ p q. p || q) (sym (write_test x.0 v.0.op)) (sym (write_test x.0 w.0.op))
                ∙ ap (λ q. is_write q (renamed_op f v.0.op) || is_write q (renamed_op f w.0.op)) x.1
                ∙ ap₂ (λ (p q : Event). is_write y p.op || is_write y q.op) v.2 w.2
                ∙ h.clash.writes;
          };
        }

    shows_forth : (P : List ℕ) (a b : ℕ) → Shows V P a b → Shows W P a b
    shows_forth P a b h = record { conflict = conflict_forth a b h.conflict; first = ready_forth P a h.first; second = ready_forth P b h.second }

    shows_back : (P : List ℕ) (a b : ℕ) → Shows W P a b → Shows V P a b
    shows_back P a b h = record { conflict = conflict_back a b h.conflict; first = ready_back P a h.first; second = ready_back P b h.second }

    -- the rules
    count_same : (p q : Event → Bool) → ((v : Event) → p (renamed_event f v) ≡ q v) → (es : List Event) → count_by p (map (renamed_event f) es) ≡ count_by q es
    count_same p q same [] = refl
    count_same p q same (e ∷ es) =
        omega (
          arith,
          sum_by-cons (λ v. cond {A = ℕ} (p v) 1 0) (renamed_event f e) (map (renamed_event f) es),
          sum_by-cons (λ v. cond {A = ℕ} (q v) 1 0) e es,
          ap (λ b. cond {A = ℕ} b 1 0) (same e),
          count_same p q same es,
        )

    hold_same : (j u l : ℕ) → hold_count (take j W) (f.thread u) (f.lock l) ≡ hold_count (take j V) u l
    hold_same j u l =
        ap (λ es. hold_count es (f.thread u) (f.lock l)) (take-map (renamed_event f) j V)
        ∙ ap₂ (λ a b. a - b)
        (count_same (λ v. v.thread == f.thread u && is_acquire (f.lock l) v.op) (λ v. v.thread == u && is_acquire l v.op) (λ v. ap₂ (λ a b. a && b) (same_test f.thread apart.threads v.thread u) (acquire_test l v.op)) (take j V))
        (count_same (λ v. v.thread == f.thread u && is_release (f.lock l) v.op) (λ v. v.thread == u && is_release l v.op) (λ v. ap₂ (λ a b. a && b) (same_test f.thread apart.threads v.thread u) (release_test l v.op)) (take j V))

    disciplined_back : IsDisciplined W → IsDisciplined V
    disciplined_back rules = record {
      no_event_after_join = λ i j d e lt at also joins. rules.no_event_after_join i j (renamed_event f d) (renamed_event f e) lt (here i d at) (here j e also) (ap (renamed_op f) joins);
      no_own_fork = λ j e at forks. rules.no_own_fork j (renamed_event f e) (here j e at) (ap (renamed_op f) forks);
      no_own_join = λ j e at joins. rules.no_own_join j (renamed_event f e) (here j e at) (ap (renamed_op f) joins);
      no_second_fork = λ i j u d e lt at also forks first.
          rules.no_second_fork i j (f.thread u) (renamed_event f d) (renamed_event f e) lt (here i d at) (here j e also) (ap (renamed_op f) forks) (ap (renamed_op f) first);
      no_event_before_fork = λ i j u d e lt at also forks same.
          rules.no_event_before_fork i j (f.thread u) (renamed_event f d) (renamed_event f e) lt (here i d at) (here j e also) (ap (renamed_op f) forks) (ap f.thread same);
      no_join_before_fork = λ i j u d e lt at also forks joins.
          rules.no_join_before_fork i j (f.thread u) (renamed_event f d) (renamed_event f e) lt (here i d at) (here j e also) (ap (renamed_op f) forks) (ap (renamed_op f) joins);
      acquires_free = λ j l u e at takes other.
          sym (hold_same j u l) ∙ rules.acquires_free j (f.lock l) (f.thread u) (renamed_event f e) (here j e at) (ap (renamed_op f) takes) (λ same. other (apart.threads u e.thread same));
      releases_held = λ j l e at frees.
          let held = rules.releases_held j (f.lock l) (renamed_event f e) (here j e at) (ap (renamed_op f) frees) in
          subst (λ (n : ℕ). 0 < n) (hold_same j e.thread l) held;
    }

pub renamed_law : RenamingKeepsReorderings
renamed_law = record {
  reorderings = λ f V P apart. (
    λ is. subst (IsCorrectReordering (renamed f V)) (take_all (length P) P (omega arith)) (forth_up f apart V P is (length P) (omega arith)),
    λ is. subst (IsCorrectReordering V) (take_all (length P) P (omega arith)) (back_up f apart V P is (length P) (omega arith)),
  );
  shown = λ f V P a b apart. (shows_forth f apart V P a b, shows_back f apart V P a b);
  disciplined = λ f V apart rules. disciplined_back f apart V rules;
}
