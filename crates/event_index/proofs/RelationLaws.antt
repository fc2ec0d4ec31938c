-- The tests of two events agree with the relations that they stand for.
use Rattle.std.proofs.Common.{◌≡◌, ◌≢◌, ℕ, Bool, true, false, not, ◌&&◌, ◌||◌, eqb, List, Option, Some, None, Decides, refl, sym, ◌∙◌, ⊎_elim, true≢false, eq-eqb}
use Rattle.std.proofs.Math.Bool.{or_comm}
use Rattle.std.proofs.lemmas.Bool.{eqb-true, eqb-false, ne_eqb, and_parts, and_from, or_cases, or_left, or_right, not-true, not_from_false, false_from_ne_true}
use Rattle.std.specs.List.{slice_get}
use Rattle.rapid_text.specs.Operations.{is_read, is_write, is_fork, is_join}
use Rattle.rapid_text.specs.declared.event.Event.{Event}
use Rattle.rapid_text.specs.declared.event.Op.{Op}
use Rattle.rapid_text.specs.declared.event.Op.TheVariants.{Read, Write, Acquire, Release, Fork, Join}
use Rattle.rapid_text.proofs.CallerLemmas.{fork-from_test, join-from_test}
use Rattle.event_index.specs.Relations.{is_access, is_on_lock, is_on_thread, Clash, IsConflicting, AreApart, IsIndependent, is_clash_of_ops, is_clash, is_tie_of_ops, is_apart, pass_both, is_conflict, is_independent}

-- two operations access variable x, and at least one writes it
abbrev pub ClashOn : Op → Op → ℕ → Type 0
ClashOn a b x = (is_access x a ≡ true) × (is_access x b ≡ true) × ((is_write x a || is_write x b) ≡ true)

-- `x == x`
same : (x : ℕ) → eqb x x ≡ true
same x = eq-eqb x x refl

false_no : {A : Type 0} → false ≡ true → A
false_no e = absurd (true≢false (sym e))

clash_found : (a b : Op) → is_clash_of_ops a b ≡ true → (x : ℕ) × ClashOn a b x
clash_found (Read x) b h = (x, (or_left (eqb x x) false (same x), or_right (is_read x b) (is_write x b) h, h))
clash_found (Write x) b h = (x, (same x, h, or_left (eqb x x) (is_write x b) (same x)))
clash_found a b h = false_no h

clash_shown : (a b : Op) (x : ℕ) → ClashOn a b x → is_clash_of_ops a b ≡ true
clash_shown (Read y) b x h =
    let same_variable : y ≡ x = ⊎_elim (eqb-true y x) false_no (or_cases (eqb y x) false h.0) in
    rw same_variable h.2
clash_shown (Write y) b x h = rw (eqb-true y x h.0) h.1
clash_shown a b x h = false_no h.0

pub Decides-is_clash : (v w : Event) → Decides (is_clash v w) (Clash v w)
Decides-is_clash v w = (
  λ h.
      let parts = and_parts (not (eqb v.thread w.thread)) (is_clash_of_ops v.op w.op) h in
      let (x, on) = clash_found v.op w.op parts.1 in
      record { threads = eqb-false v.thread w.thread (not-true _ parts.0); variable = x; first = on.0; second = on.1; writes = on.2 },
  λ clash. and_from (not (eqb v.thread w.thread)) (is_clash_of_ops v.op w.op) (not_from_false _ (ne_eqb v.thread w.thread clash.threads))
      (clash_shown v.op w.op clash.variable (clash.first, clash.second, clash.writes)),
)

-- what clashes is tied
tie_from_clash : (a b : Op) → is_clash_of_ops a b ≡ true → is_tie_of_ops a b ≡ true
tie_from_clash (Read x) b h = h
tie_from_clash (Write x) b h = h
tie_from_clash a b h = false_no h

-- what is on one lock is tied
tie_from_lock : (a b : Op) (l : ℕ) → is_on_lock l a ≡ true → is_on_lock l b ≡ true → is_tie_of_ops a b ≡ true
tie_from_lock (Acquire m) b l h k =
    let same_lock : m ≡ l = ⊎_elim (eqb-true m l) false_no (or_cases (eqb m l) false h) in
    rw same_lock k
tie_from_lock (Release m) b l h k = rw (eqb-true m l h) k
tie_from_lock a b l h k = false_no h

on_thread_fork : (op : Op) (u : ℕ) → op ≡ Fork u → is_on_thread u op ≡ true
on_thread_fork op u e = rw e (or_left (eqb u u) false (same u))

on_thread_join : (op : Op) (u : ℕ) → op ≡ Join u → is_on_thread u op ≡ true
on_thread_join op u e = rw e (same u)

not_on_thread : (u : ℕ) (op : Op) → op ≢ Fork u → op ≢ Join u → is_on_thread u op ≡ false
not_on_thread u op f j =
    false_from_ne_true (is_on_thread u op)
    (λ h. ⊎_elim (λ e. f (fork-from_test u op e)) (λ e. j (join-from_test u op e)) (or_cases (is_fork u op) (is_join u op) h))

-- operations with none of the four ties are not tied
no_tie : (a b : Op) → ((x : ℕ) → ¬ ClashOn a b x) → ((l : ℕ) → is_on_lock l a ≡ true → is_on_lock l b ≢ true) → ((u : ℕ) → a ≡ Fork u → b ≢ Join u)
    → ((u : ℕ) → a ≡ Join u → b ≢ Fork u) → is_tie_of_ops a b ≡ false
no_tie (Read x) b c l f j = false_from_ne_true (is_write x b) (λ h. let found = clash_found (Read x) b h in c found.0 found.1)
no_tie (Write x) b c l f j = false_from_ne_true (is_access x b) (λ h. let found = clash_found (Write x) b h in c found.0 found.1)
no_tie (Acquire m) b c l f j = false_from_ne_true (is_on_lock m b) (l m (or_left (eqb m m) false (same m)))
no_tie (Release m) b c l f j = false_from_ne_true (is_on_lock m b) (l m (same m))
no_tie (Fork u) b c l f j = false_from_ne_true (is_join u b) (λ h. f u refl (join-from_test u b h))
no_tie (Join u) b c l f j = false_from_ne_true (is_fork u b) (λ h. j u refl (fork-from_test u b h))

pub apart_from_test : (v w : Event) → is_apart v w ≡ true → AreApart v w
apart_from_test v w h =
    let threads = not (eqb v.thread w.thread) in
    let first = not (is_on_thread w.thread v.op) in
    let second = not (is_on_thread v.thread w.op) in
    let last = and_parts (threads && first && second) (not (is_tie_of_ops v.op w.op)) h in
    let more = and_parts (threads && first) second last.0 in
    let others = and_parts threads first more.0 in
    let no_tie_here : (is_tie_of_ops v.op w.op ≡ true) → ⊥ = λ e. true≢false (sym e ∙ not-true _ last.1) in
    let first_off : (is_on_thread w.thread v.op ≡ true) → ⊥ = λ e. true≢false (sym e ∙ not-true _ others.1) in
    let second_off : (is_on_thread v.thread w.op ≡ true) → ⊥ = λ e. true≢false (sym e ∙ not-true _ more.1) in
    record {
      threads = eqb-false v.thread w.thread (not-true _ others.0);
      no_clash = λ clash. no_tie_here (tie_from_clash v.op w.op (clash_shown v.op w.op clash.variable (clash.first, clash.second, clash.writes)));
      no_lock = λ l e k. no_tie_here (tie_from_lock v.op w.op l e k);
      first_no_fork = λ e. first_off (on_thread_fork v.op w.thread e);
      first_no_join = λ e. first_off (on_thread_join v.op w.thread e);
      second_no_fork = λ e. second_off (on_thread_fork w.op v.thread e);
      second_no_join = λ e. second_off (on_thread_join w.op v.thread e);
      no_fork_and_join = λ u e f. no_tie_here (rw (e, f) (same u));
      no_join_and_fork = λ u e f. no_tie_here (rw (e, f) (same u));
    }

pub test_from_apart : (v w : Event) → AreApart v w → is_apart v w ≡ true
test_from_apart v w apart =
    let threads = not_from_false _ (ne_eqb v.thread w.thread apart.threads) in
    let first = not_from_false _ (not_on_thread w.thread v.op apart.first_no_fork apart.first_no_join) in
    let second = not_from_false _ (not_on_thread v.thread w.op apart.second_no_fork apart.second_no_join) in
    let ops = not_from_false _ (no_tie v.op w.op (λ x on. apart.no_clash
    (record { threads = apart.threads; variable = x; first = on.0; second = on.1; writes = on.2 })) apart.no_lock apart.no_fork_and_join
    apart.no_join_and_fork) in
    and_from _ _ (and_from _ _ (and_from _ _ threads first) second) ops

pub Decides-is_apart : (v w : Event) → Decides (is_apart v w) (AreApart v w)
Decides-is_apart v w = (apart_from_test v w, test_from_apart v w)

-- two events that pass a test are there
found_both : (test : Event → Event → Bool) (a b : Option Event) → pass_both test a b ≡ true
    → (v : Event) × (w : Event) × (a ≡ Some v) × (b ≡ Some w) × (test v w ≡ true)
found_both test None b h = false_no h
found_both test (Some v) None h = false_no h
found_both test (Some v) (Some w) h = (v, w, refl, refl, h)

-- the test of a conflict tells the relation
pub Decides-is_conflict : (T : List Event) (a b : ℕ) → Decides (is_conflict T a b) (IsConflicting T a b)
Decides-is_conflict T a b = (
  λ h.
      let (v, w, first, second, passes) = found_both is_clash (slice_get T a) (slice_get T b) h in
      record { v = v; w = w; first = first; second = second; clash = (Decides-is_clash v w).0 passes },
  λ conflict. rw (conflict.first, conflict.second) ((Decides-is_clash conflict.v conflict.w).1 conflict.clash),
)

-- the test of independence tells the relation
pub Decides-is_independent : (T : List Event) (a b : ℕ) → Decides (is_independent T a b) (IsIndependent T a b)
Decides-is_independent T a b = (
  λ h.
      let (v, w, first, second, passes) = found_both is_apart (slice_get T a) (slice_get T b) h in
      record { v = v; w = w; first = first; second = second; apart = (Decides-is_apart v w).0 passes },
  λ independent. rw (independent.first, independent.second) ((Decides-is_apart independent.v independent.w).1 independent.apart),
)

-- independence does not ask for the order of the two
pub IsIndependent-sym : (T : List Event) (a b : ℕ) → IsIndependent T a b → IsIndependent T b a
IsIndependent-sym T a b i =
    record {
      v = i.w;
      w = i.v;
      first = i.second;
      second = i.first;
      apart = record {
        threads = λ same. i.apart.threads (sym same);
        no_clash = λ clash. i.apart.no_clash
            (record {
              threads = i.apart.threads;
              variable = clash.variable;
              first = clash.second;
              second = clash.first;
              writes = or_comm (is_write clash.variable i.v.op) (is_write clash.variable i.w.op) ∙ clash.writes;
            });
        no_lock = λ l on_w on_v. i.apart.no_lock l on_v on_w;
        first_no_fork = i.apart.second_no_fork;
        first_no_join = i.apart.second_no_join;
        second_no_fork = i.apart.first_no_fork;
        second_no_join = i.apart.first_no_join;
        no_fork_and_join = λ u forks joins. i.apart.no_join_and_fork u joins forks;
        no_join_and_fork = λ u joins forks. i.apart.no_fork_and_join u forks joins;
      };
    }
