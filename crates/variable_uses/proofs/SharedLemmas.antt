-- The threads of variables, one event further, and on which variables two sets of events conflict.
use Rattle.std.proofs.Common.{◌≡◌, ◌≢◌, ℕ, ◌+◌, ◌<◌, ◌==◌, ◌↔◌, ◌&&◌, ◌||◌, Bool, true, false, List, [], ◌∷◌, ◌++◌, Some, set, replicate, length, refl, sym, ap, ◌∙◌, subst, arith, inl, inr, eq-eqb}
use Rattle.std.specs.List.{slice_get, slice_index_or}
use Rattle.std.proofs.lemmas.Bool.{cases_eq, and_parts, and_from, and_right, or_cases, or_from, or_left, or_parts, or_right, ne_eqb}
use Rattle.std.proofs.Math.ListN.{get_or-append}
use Rattle.std.proofs.Math.Seq.{get_or-append_seam}
use Rattle.std.proofs.lemmas.Option.{same_Some, slice_get_within}
use Rattle.rapid_text.specs.Operations.{is_read, is_write}
use Rattle.rapid_text.specs.declared.event.Event.{Event}
use Rattle.rapid_text.specs.declared.event.Op.{Op}
use Rattle.rapid_text.specs.declared.event.Op.TheVariants.{Read, Write, Acquire, Release, Fork, Join}
use Rattle.trace_rules.proofs.Counts.{slice_get-set}
use Rattle.event_index.specs.Events.{passes_at, passes_by, thread_at}
use Rattle.event_index.specs.Relations.{is_access}
use Rattle.event_index.proofs.CallerLemmas.{passes_event, thread_here}
use Rattle.variable_uses.specs.Owners.{AreOwners, nobody, AreSharingsBefore, AreTwo, IsSharingAt, accesses_flagged, are_two, with_thread, writes_flagged}
use Rattle.variable_uses.specs.Shared.{IsShared}
use Rattle.variable_uses.specs.declared.choosing.Sharing.{Sharing}
use Rattle.variable_uses.specs.declared.choosing.Threads.{Threads}
use Rattle.variable_uses.specs.declared.choosing.Threads.TheVariants.{Nobody}
use Rattle.variable_uses.proofs.OrderLemmas.{each_replicated}
use Rattle.variable_uses.proofs.OwnerLemmas.{AreOwners-more, AreOwners-no, AreTwo-from, AreTwo-to}

and_true : (b : Bool) → (b && true) ≡ b
and_true true = refl
and_true false = refl

-- what an operation accesses
pub read_here : (op : Op) (x : ℕ) → op ≡ Read x → is_access x op ≡ true
read_here op x is = ap (is_access x) is ∙ or_left (x == x) false (eq-eqb x x refl)

pub read_writes_not : (op : Op) (x : ℕ) → op ≡ Read x → is_write x op ≡ false
read_writes_not op x is = ap (is_write x) is

pub read_only : (op : Op) (x : ℕ) → op ≡ Read x → (y : ℕ) → y ≢ x → is_access y op ≡ false
read_only op x is y ne = ap (is_access y) is ∙ or_from (x == y) false (ne_eqb x y (λ same. ne (sym same))) refl

pub write_here : (op : Op) (x : ℕ) → op ≡ Write x → is_access x op ≡ true
write_here op x is = ap (is_access x) is ∙ or_right false (x == x) (eq-eqb x x refl)

pub write_writes : (op : Op) (x : ℕ) → op ≡ Write x → is_write x op ≡ true
write_writes op x is = ap (is_write x) is ∙ eq-eqb x x refl

pub write_only : (op : Op) (x : ℕ) → op ≡ Write x → (y : ℕ) → y ≢ x → is_access y op ≡ false
write_only op x is y ne = ap (is_access y) is ∙ or_from false (x == y) refl (ne_eqb x y (λ same. ne (sym same)))

pub no_access : (op : Op) → ((x : ℕ) → op ≡ Read x → ⊥) → ((x : ℕ) → op ≡ Write x → ⊥) → (y : ℕ) → is_access y op ≡ false
no_access (Read x) no_read no_write y = absurd (no_read x refl)
no_access (Write x) no_read no_write y = absurd (no_write x refl)
no_access (Acquire l) no_read no_write y = refl
no_access (Release l) no_read no_write y = refl
no_access (Fork u) no_read no_write y = refl
no_access (Join u) no_read no_write y = refl

module _ (T : List Event) (ones others : List Bool) (n : ℕ) (v : Event) (found : slice_get T n ≡ Some v) where
  -- the tests at the event
  access_here : (flags : List Bool) (x : ℕ) → accesses_flagged T flags x n ≡ (slice_index_or flags n false && is_access x v.op)
  access_here flags x = ap (λ o. slice_index_or flags n false && passes_by (λ w. is_access x w.op) o) found

  writes_at : (flags : List Bool) (x : ℕ) → writes_flagged T flags x n ≡ (slice_index_or flags n false && is_write x v.op)
  writes_at flags x = ap (λ o. slice_index_or flags n false && passes_by (λ w. is_write x w.op) o) found

  accesses_yes : (flags : List Bool) (x : ℕ) (flag : Bool) → slice_index_or flags n false ≡ flag → is_access x v.op ≡ true → accesses_flagged T flags x n ≡ flag
  accesses_yes flags x flag is does = access_here flags x ∙ ap (λ b. slice_index_or flags n false && b) does ∙ and_true (slice_index_or flags n false) ∙ is

  accesses_no : (flags : List Bool) (x : ℕ) → is_access x v.op ≡ false → accesses_flagged T flags x n ≡ false
  accesses_no flags x fails = access_here flags x ∙ and_right (slice_index_or flags n false) (is_access x v.op) fails

  writes_yes : (flags : List Bool) (x : ℕ) (flag : Bool) → slice_index_or flags n false ≡ flag → is_write x v.op ≡ true → writes_flagged T flags x n ≡ flag
  writes_yes flags x flag is does = writes_at flags x ∙ ap (λ b. slice_index_or flags n false && b) does ∙ and_true (slice_index_or flags n false) ∙ is

  writes_no : (flags : List Bool) (x : ℕ) → is_write x v.op ≡ false → writes_flagged T flags x n ≡ false
  writes_no flags x fails = writes_at flags x ∙ and_right (slice_index_or flags n false) (is_write x v.op) fails

  -- a variable that the event does not access
  not_accessed : (x : ℕ) (s : Sharing) → is_access x v.op ≡ false → IsSharingAt T ones others n x s → IsSharingAt T ones others (n + 1) x s
  not_accessed x s fails old =
      let no_write : is_write x v.op ≡ false = (or_parts (is_read x v.op) (is_write x v.op) fails).1 in
      record {
        ones_of = AreOwners-no T (accesses_flagged T ones x) n v.thread s.ones (accesses_no ones x fails) old.ones_of;
        one_writers_of = AreOwners-no T (writes_flagged T ones x) n v.thread s.one_writers (writes_no ones x no_write) old.one_writers_of;
        others_of = AreOwners-no T (accesses_flagged T others x) n v.thread s.others (accesses_no others x fails) old.others_of;
        other_writers_of = AreOwners-no T (writes_flagged T others x) n v.thread s.other_writers (writes_no others x no_write) old.other_writers_of;
      }

  -- the variable that it reads, or writes
  module _ (x : ℕ) (s t : Sharing) (one other : Bool) (is_one : slice_index_or ones n false ≡ one) (is_other : slice_index_or others n false ≡ other) (old : IsSharingAt T ones others n x s) where
    of : thread_at T n ≡ Some v.thread
    of = thread_here T n v found

    pub IsSharingAt-read : is_access x v.op ≡ true → is_write x v.op ≡ false → t.ones ≡ with_thread s.ones v.thread one → t.one_writers ≡ s.one_writers → t.others ≡ with_thread s.others v.thread other → t.other_writers ≡ s.other_writers
        → IsSharingAt T ones others (n + 1) x t
    IsSharingAt-read does no_write first second third fourth = record {
      ones_of = subst (AreOwners T (accesses_flagged T ones x) (n + 1)) (sym first) (AreOwners-more T (accesses_flagged T ones x) n v.thread s.ones one (accesses_yes ones x one is_one does) of old.ones_of);
      one_writers_of = subst (AreOwners T (writes_flagged T ones x) (n + 1)) (sym second) (AreOwners-no T (writes_flagged T ones x) n v.thread s.one_writers (writes_no ones x no_write) old.one_writers_of);
      others_of = subst (AreOwners T (accesses_flagged T others x) (n + 1)) (sym third) (AreOwners-more T (accesses_flagged T others x) n v.thread s.others other (accesses_yes others x other is_other does) of old.others_of);
      other_writers_of = subst (AreOwners T (writes_flagged T others x) (n + 1)) (sym fourth) (AreOwners-no T (writes_flagged T others x) n v.thread s.other_writers (writes_no others x no_write) old.other_writers_of);
    }

    pub IsSharingAt-write : is_access x v.op ≡ true → is_write x v.op ≡ true → t.ones ≡ with_thread s.ones v.thread one → t.one_writers ≡ with_thread s.one_writers v.thread one → t.others ≡ with_thread s.others v.thread other
        → t.other_writers ≡ with_thread s.other_writers v.thread other → IsSharingAt T ones others (n + 1) x t
    IsSharingAt-write does writes first second third fourth = record {
      ones_of = subst (AreOwners T (accesses_flagged T ones x) (n + 1)) (sym first) (AreOwners-more T (accesses_flagged T ones x) n v.thread s.ones one (accesses_yes ones x one is_one does) of old.ones_of);
      one_writers_of = subst (AreOwners T (writes_flagged T ones x) (n + 1)) (sym second) (AreOwners-more T (writes_flagged T ones x) n v.thread s.one_writers one (writes_yes ones x one is_one writes) of old.one_writers_of);
      others_of = subst (AreOwners T (accesses_flagged T others x) (n + 1)) (sym third) (AreOwners-more T (accesses_flagged T others x) n v.thread s.others other (accesses_yes others x other is_other does) of old.others_of);
      other_writers_of = subst (AreOwners T (writes_flagged T others x) (n + 1)) (sym fourth) (AreOwners-more T (writes_flagged T others x) n v.thread s.other_writers other (writes_yes others x other is_other writes) of old.other_writers_of);
    }

  module _ (sharing : List Sharing) (are : AreSharingsBefore T ones others n sharing) where
    -- an event that is no access
    pub AreSharingsBefore-none : ((x : ℕ) → is_access x v.op ≡ false) → AreSharingsBefore T ones others (n + 1) sharing
    AreSharingsBefore-none fails x s at = not_accessed x s (fails x) (are x s at)

    -- an access of the variable y
    pub AreSharingsBefore-one : (y : ℕ) (t : Sharing) (after : List Sharing) → y < length sharing → after ≡ set sharing y t → IsSharingAt T ones others (n + 1) y t → ((x : ℕ) → x ≢ y → is_access x v.op ≡ false)
        → AreSharingsBefore T ones others (n + 1) after
    AreSharingsBefore-one y t after within put mine fails x s at = elim (slice_get-set sharing y x t s within (ap (λ xs. slice_get xs x) (sym put) ∙ at)) [
      | inl here ↦ subst (λ z. IsSharingAt T ones others (n + 1) z s) (sym here.0) (subst (IsSharingAt T ones others (n + 1) y) here.1 mine)
      | inr kept ↦ not_accessed x s (fails x kept.0) (are x s kept.1)
    ]

-- a variable is shared exactly if its threads say so
module _ (T : List Event) (ones others : List Bool) (x : ℕ) where
  flagged : (flags : List Bool) (test : Event → Bool) (e : ℕ) → (slice_index_or flags e false && passes_at test T e) ≡ true → (slice_index_or flags e false ≡ true) × ((v : Event) × (slice_get T e ≡ Some v) × (test v ≡ true))
  flagged flags test e h = let parts = and_parts (slice_index_or flags e false) (passes_at test T e) h in (parts.0, passes_event test T e parts.1)

  within : (flags : List Bool) (test : Event → Bool) (e : ℕ) → (slice_index_or flags e false && passes_at test T e) ≡ true → e < length T
  within flags test e h = let found = flagged flags test e h in slice_get_within T e found.1.0 found.1.1

  event_of : (e t : ℕ) (v : Event) → slice_get T e ≡ Some v → thread_at T e ≡ Some t → v.thread ≡ t
  event_of e t v at of = same_Some v.thread t (sym (thread_here T e v at) ∙ of)

  write_accesses : (op : Op) → is_write x op ≡ true → is_access x op ≡ true
  write_accesses op writes = or_right (is_read x op) (is_write x op) writes

  -- from two events
  first_writes : AreTwo T (writes_flagged T ones x) (accesses_flagged T others x) → IsShared T ones others x
  first_writes two =
      let one = flagged ones (λ v. is_write x v.op) two.a two.one in
      let other = flagged others (λ v. is_access x v.op) two.b two.other in
      record {
        a = two.a;
        b = two.b;
        v = one.1.0;
        w = other.1.0;
        one = one.0;
        other = other.0;
        first = one.1.1;
        second = other.1.1;
        threads = λ same. two.apart (sym (event_of two.a two.t one.1.0 one.1.1 two.of_one) ∙ same ∙ event_of two.b two.u other.1.0 other.1.1 two.of_other);
        v_accesses = write_accesses one.1.0.op one.1.2;
        w_accesses = other.1.2;
        writes = or_left (is_write x one.1.0.op) (is_write x other.1.0.op) one.1.2;
      }

  second_writes : AreTwo T (accesses_flagged T ones x) (writes_flagged T others x) → IsShared T ones others x
  second_writes two =
      let one = flagged ones (λ v. is_access x v.op) two.a two.one in
      let other = flagged others (λ v. is_write x v.op) two.b two.other in
      record {
        a = two.a;
        b = two.b;
        v = one.1.0;
        w = other.1.0;
        one = one.0;
        other = other.0;
        first = one.1.1;
        second = other.1.1;
        threads = λ same. two.apart (sym (event_of two.a two.t one.1.0 one.1.1 two.of_one) ∙ same ∙ event_of two.b two.u other.1.0 other.1.1 two.of_other);
        v_accesses = one.1.2;
        w_accesses = write_accesses other.1.0.op other.1.2;
        writes = or_right (is_write x one.1.0.op) (is_write x other.1.0.op) other.1.2;
      }

  -- to two events
  passes : (flags : List Bool) (test : Event → Bool) (e : ℕ) (v : Event) → slice_index_or flags e false ≡ true → slice_get T e ≡ Some v → test v ≡ true → (slice_index_or flags e false && passes_at test T e) ≡ true
  passes flags test e v flag at does = and_from (slice_index_or flags e false) (passes_at test T e) flag (ap (passes_by test) at ∙ does)

  two_of : (first second : ℕ → Bool) (s : IsShared T ones others x) → first s.a ≡ true → second s.b ≡ true → AreTwo T first second
  two_of first second s one other = record {
    a = s.a;
    b = s.b;
    t = s.v.thread;
    u = s.w.thread;
    one = one;
    other = other;
    of_one = thread_here T s.a s.v s.first;
    of_other = thread_here T s.b s.w s.second;
    apart = s.threads;
  }

  module _ (s : Sharing) (are : IsSharingAt T ones others (length T) x s) where
    said : IsShared T ones others x → (are_two s.one_writers s.others || are_two s.ones s.other_writers) ≡ true
    said shared = elim (or_cases (is_write x shared.v.op) (is_write x shared.w.op) shared.writes) [
      | inl first ↦
          or_left (are_two s.one_writers s.others) (are_two s.ones s.other_writers)
          (AreTwo-to T (length T) (writes_flagged T ones x) (accesses_flagged T others x) (λ e h. within ones (λ v. is_write x v.op) e h) (λ e h. within others (λ v. is_access x v.op) e h) s.one_writers s.others are.one_writers_of are.others_of
          (two_of (writes_flagged T ones x) (accesses_flagged T others x) shared (passes ones (λ v. is_write x v.op) shared.a shared.v shared.one shared.first first)
          (passes others (λ v. is_access x v.op) shared.b shared.w shared.other shared.second shared.w_accesses)))
      | inr second ↦
          or_right (are_two s.one_writers s.others) (are_two s.ones s.other_writers)
          (AreTwo-to T (length T) (accesses_flagged T ones x) (writes_flagged T others x) (λ e h. within ones (λ v. is_access x v.op) e h) (λ e h. within others (λ v. is_write x v.op) e h) s.ones s.other_writers are.ones_of are.other_writers_of
          (two_of (accesses_flagged T ones x) (writes_flagged T others x) shared (passes ones (λ v. is_access x v.op) shared.a shared.v shared.one shared.first shared.v_accesses)
          (passes others (λ v. is_write x v.op) shared.b shared.w shared.other shared.second second)))
    ]

    shown : (are_two s.one_writers s.others || are_two s.ones s.other_writers) ≡ true → IsShared T ones others x
    shown h = elim (or_cases (are_two s.one_writers s.others) (are_two s.ones s.other_writers) h) [
      | inl first ↦
          first_writes (AreTwo-from T (length T) (writes_flagged T ones x) (accesses_flagged T others x) (λ e h. within ones (λ v. is_write x v.op) e h) (λ e h. within others (λ v. is_access x v.op) e h) s.one_writers s.others are.one_writers_of are.others_of first)
      | inr second ↦
          second_writes (AreTwo-from T (length T) (accesses_flagged T ones x) (writes_flagged T others x) (λ e h. within ones (λ v. is_access x v.op) e h) (λ e h. within others (λ v. is_write x v.op) e h) s.ones s.other_writers are.ones_of are.other_writers_of second)
    ]

    pub Decides-shared : ((are_two s.one_writers s.others || are_two s.ones s.other_writers) ≡ true) ↔ IsShared T ones others x
    Decides-shared = (shown, said)

-- one variable more
pub chosen_push : (P : ℕ → Type 0) (chosen after : List Bool) (n : ℕ) (b : Bool) → length chosen ≡ n → after ≡ chosen ++ b ∷ [] → ((x : ℕ) → x < n → (slice_index_or chosen x false ≡ true) ↔ P x) → ((b ≡ true) ↔ P n)
    → (x : ℕ) → x < n + 1 → (slice_index_or after x false ≡ true) ↔ P x
chosen_push P chosen after n b len is before_n here x lt = elim (cases_eq x n) [
  | inl same ↦
      let value : slice_index_or after x false ≡ b = ap (λ xs. slice_index_or xs x false) is ∙ ap (λ k. slice_index_or (chosen ++ b ∷ []) k false) (same ∙ sym len) ∙ get_or-append_seam chosen b [] false in
      (λ h. subst P (sym same) (here.0 (sym value ∙ h)), λ p. value ∙ here.1 (subst P same p))
  | inr ne ↦
      let low : x < n = omega (arith, lt, ne) in
      let value : slice_index_or after x false ≡ slice_index_or chosen x false = ap (λ xs. slice_index_or xs x false) is ∙ get_or-append chosen (b ∷ []) false x (omega (arith, low, len)) in
      (λ h. (before_n x low).0 (sym value ∙ h), λ p. value ∙ (before_n x low).1 p)
]

-- before the first event
no_owners : (T : List Event) (test : ℕ → Bool) (threads : Threads) → threads ≡ Nobody → AreOwners T test 0 threads
no_owners T test threads is = subst (AreOwners T test 0) (sym is) (nobody (λ e lt. absurd (omega (arith, lt))))

pub AreSharingsBefore-begin : (T : List Event) (ones others : List Bool) (k : ℕ) (s : Sharing) (sharing : List Sharing) → s.ones ≡ Nobody → s.one_writers ≡ Nobody → s.others ≡ Nobody → s.other_writers ≡ Nobody → sharing ≡ replicate k s
    → AreSharingsBefore T ones others 0 sharing
AreSharingsBefore-begin T ones others k s sharing first second third fourth are x t at =
    subst (IsSharingAt T ones others 0 x) (each_replicated k s x t (ap (λ xs. slice_get xs x) (sym are) ∙ at))
    (record {
      ones_of = no_owners T (accesses_flagged T ones x) s.ones first;
      one_writers_of = no_owners T (writes_flagged T ones x) s.one_writers second;
      others_of = no_owners T (accesses_flagged T others x) s.others third;
      other_writers_of = no_owners T (writes_flagged T others x) s.other_writers fourth;
    })
