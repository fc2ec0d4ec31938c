-- Classes of events: events of one class have the same place and operation. `T` is the events of a trace.
use Rattle.std.specs.Prelude.{◌≡◌, ◌⊎◌, ℕ, ◌<◌, ◌&&◌, Bool, true, false, List, filter, length, All, slice_get, slice_index, Option, Some, None, Vec}
use Rattle.std.specs.declared.alloc.Global.{Global}
use Rattle.rapid_text.specs.declared.event.Event.{Event}
use Rattle.rapid_text.specs.declared.event.Op.{Op}
use Rattle.rapid_text.specs.declared.event.Op.TheVariants.{Write}
use Rattle.event_index.specs.Lookups.{before}
use Rattle.event_index.specs.Relations.{is_access, is_clash_of_ops}
use Rattle.race_groups.specs.Groups.{is_between}
use Rattle.race_groups.specs.Holding.{AreLocksOf}
use Rattle.race_groups.specs.declared.class.Class.{Class}

-- Each event has a class, with its place and its operation.
pub record AreClasses (T : List Event) (place : ℕ → ℕ) (classes : List ℕ) (infos : List Class) : Type 0 where
  pub len : length classes ≡ length T
  pub within : All (λ c. c < length infos) classes
  pub op : (e : ℕ) (v : Event) (i : Class) → slice_get T e ≡ Some v → slice_get infos (slice_index classes e) ≡ Some i → i.op ≡ v.op
  pub located : (e : ℕ) (i : Class) → e < length T → slice_get infos (slice_index classes e) ≡ Some i → i.place ≡ place e

-- the class exists and accesses the variable
abbrev pub accesses : ℕ → Option Class → Bool
accesses x None = false
accesses x (Some i) = is_access x i.op

-- the classes that access the variable
abbrev pub members_of : List Class → ℕ → List ℕ
members_of infos x = filter (λ c. accesses x (slice_get infos c)) (before (length infos))

-- the operation writes; the class exists and writes
abbrev pub is_writing_op : Op → Bool
is_writing_op (Write x) = true
is_writing_op op = false

abbrev pub is_writing : Option Class → Bool
is_writing None = false
is_writing (Some i) = is_writing_op i.op

-- the classes that write the variable
abbrev pub writers_of : List Class → ℕ → List ℕ
writers_of infos x = filter (λ c. is_writing (slice_get infos c)) (members_of infos x)

-- These are the classes of the variable; or, if the operation only reads, the classes that write the variable.
abbrev pub AreConflicting : List Class → ℕ → Op → List ℕ → Type 0
AreConflicting infos x op cs = (cs ≡ members_of infos x) ⊎ ((is_writing_op op ≡ false) × (cs ≡ writers_of infos x))

-- the class exists, its operation clashes with that of class j, their places are p and q, and their pairs are kept
abbrev pub adds_to : (Class → Class → Bool) → ℕ → ℕ → Class → Option Class → Bool
adds_to keeps p q j None = false
adds_to keeps p q j (Some i) = is_clash_of_ops i.op j.op && keeps i j && is_between p q i.place j.place

-- For each variable that a class accesses, the classes that access it.
pub record AreMembers (infos : List Class) (members : List (Vec ℕ Global)) : Type 0 where
  pub within : (x : ℕ) → All (λ i. is_access x i.op ≡ true → x < length members) infos
  pub lists : (x : ℕ) (v : Vec ℕ Global) → slice_get members x ≡ Some v → v.items ≡ members_of infos x

-- For each variable those of its classes that write it.
pub record AreWriters (infos : List Class) (members writers : List (Vec ℕ Global)) : Type 0 where
  pub len : length writers ≡ length members
  pub lists : (x : ℕ) (v : Vec ℕ Global) → slice_get writers x ≡ Some v → v.items ≡ writers_of infos x

-- The class of an access refers to locks that the event's thread holds before it.
abbrev pub AreLocks : List Event → List (Vec ℕ Global) → List ℕ → List Class → Type 0
AreLocks T lists classes infos =
    (e x : ℕ) (i : Class) → e < length T → slice_get infos (slice_index classes e) ≡ Some i → is_access x i.op ≡ true → AreLocksOf T lists e i.held

-- whether pairs of the two classes are kept
abbrev pub keeps_by : (Class → Class → Bool) → Option Class → Option Class → Bool
keeps_by keeps (Some i) (Some j) = keeps i j
keeps_by keeps i j = false

-- whether the pair of events is kept, by the classes of both
abbrev pub is_kept_pair : (Class → Class → Bool) → List ℕ → List Class → ℕ → ℕ → Bool
is_kept_pair keeps classes infos a b = keeps_by keeps (slice_get infos (slice_index classes a)) (slice_get infos (slice_index classes b))
