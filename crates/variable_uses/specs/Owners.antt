-- Which threads have events that pass a test, as far as one, another or several matter. No public clause cites this
-- module. `T` is the events of a trace, named by their numbers.
use Rattle.std.specs.Prelude.{◌≡◌, ◌≢◌, ℕ, ◌<◌, ◌==◌, ◌&&◌, Bool, true, false, cond, List, Some, slice_get, slice_index_or}
use Rattle.rapid_text.specs.Operations.{is_write}
use Rattle.rapid_text.specs.declared.event.Event.{Event}
use Rattle.event_index.specs.Events.{passes_at, thread_at}
use Rattle.event_index.specs.Relations.{is_access}
use Rattle.variable_uses.specs.declared.choosing.Sharing.{Sharing}
use Rattle.variable_uses.specs.declared.choosing.Threads.{Threads}
use Rattle.variable_uses.specs.declared.choosing.Threads.TheVariants.{Nobody, Only, Several}

-- the threads with one more
abbrev pub with_thread : Threads → ℕ → Bool → Threads
with_thread threads t false = threads
with_thread Nobody t true = Only t
with_thread (Only u) t true = cond (u == t) (Only u) Several
with_thread Several t true = Several

-- these are the threads of those of the first n events that pass the test
pub data AreOwners (T : List Event) (test : ℕ → Bool) (n : ℕ) : Threads → Type 0 where
  nobody : ((e : ℕ) → e < n → test e ≡ false) → AreOwners T test n Nobody
  only : (t a : ℕ) → a < n → test a ≡ true → thread_at T a ≡ Some t → ((e : ℕ) → e < n → test e ≡ true → thread_at T e ≡ Some t) → AreOwners T test n (Only t)
  several : (a b t u : ℕ) → a < n → b < n → test a ≡ true → test b ≡ true → thread_at T a ≡ Some t → thread_at T b ≡ Some u → t ≢ u → AreOwners T test n Several

-- whether event e has a flag and accesses the variable; whether it has a flag and writes the variable
abbrev pub accesses_flagged : List Event → List Bool → ℕ → ℕ → Bool
accesses_flagged T flags x e = slice_index_or flags e false && passes_at (λ v. is_access x v.op) T e

abbrev pub writes_flagged : List Event → List Bool → ℕ → ℕ → Bool
writes_flagged T flags x e = slice_index_or flags e false && passes_at (λ v. is_write x v.op) T e

-- the threads that access the variable, and those that write it, in the first n events of both sets
pub record IsSharingAt (T : List Event) (ones others : List Bool) (n x : ℕ) (s : Sharing) : Type 0 where
  pub ones_of : AreOwners T (accesses_flagged T ones x) n s.ones
  pub one_writers_of : AreOwners T (writes_flagged T ones x) n s.one_writers
  pub others_of : AreOwners T (accesses_flagged T others x) n s.others
  pub other_writers_of : AreOwners T (writes_flagged T others x) n s.other_writers

-- the same of each variable
abbrev pub AreSharingsBefore : List Event → List Bool → List Bool → ℕ → List Sharing → Type 0
AreSharingsBefore T ones others n sharing = (x : ℕ) (s : Sharing) → slice_get sharing x ≡ Some s → IsSharingAt T ones others n x s

-- two events of different threads pass these tests
pub record AreTwo (T : List Event) (first second : ℕ → Bool) : Type 0 where
  pub a : ℕ
  pub b : ℕ
  pub t : ℕ
  pub u : ℕ
  pub one : first a ≡ true
  pub other : second b ≡ true
  pub of_one : thread_at T a ≡ Some t
  pub of_other : thread_at T b ≡ Some u
  pub apart : t ≢ u

-- whether some thread of the first is not some thread of the second
abbrev pub are_two : Threads → Threads → Bool
are_two Nobody other = false
are_two (Only t) Nobody = false
are_two (Only t) (Only u) = cond (t == u) false true
are_two (Only t) Several = true
are_two Several Nobody = false
are_two Several (Only u) = true
are_two Several Several = true
