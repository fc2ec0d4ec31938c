-- What a call on a pair answers of the bytes that it reads, and what its writer has taken. `one` and `other` name the pair, `a` is its earlier
-- event, `b` the later. All notions here are this project's own.
use Rattle.std.specs.Prelude.{◌≡◌, ◌⊎◌, ℕ, Bool, List, ◌++◌, None, Option, Result, Ok, Err, ⊤}
use Rattle.std.specs.Io.KnownBytes.{Appends}
use Rattle.rapid_text.specs.Recording.{Recording}
use Rattle.event_index.specs.Relations.{IsConflicting}
use Rattle.must_order.specs.Kinds.{IsKind}
use Rattle.must_order.specs.declared.kind.Kind.{Kind}
use Rattle.must_order.specs.declared.kind.Kind.TheVariants.{Candidate as CandidateKind, Forced as ForcedKind, Guarded as GuardedKind, Open as OpenKind}
use Rattle.witness_search.specs.trace_order.Orders.{IsTurned}
use Rattle.witness_search.specs.trace_order.Refusals.{IsNeverShownInOrder}
use Rattle.explain_report.specs.Told.{contradicted_text, IsForcedTold, IsGuardedTold, IsRaceTold, IsUndecidedTold}
use Rattle.explain_report.specs.declared.verdict.How.{How}
use Rattle.explain_report.specs.findings.Findings.{search_limit, IsFinding, IsNeverShown, IsShownByNone}
use Rattle.explain_report.specs.declared.findings.finding.Finding.{Finding}
use Rattle.explain_report.specs.declared.findings.finding.Finding.TheVariants.{Race, Forced, Guarded, Contradicted, Undecided}
use Rattle.client_scripts.specs.Loading.{IsTraceOf}
use Rattle.client_scripts.specs.Replay.{AppendsPart, IsFault, of_trace}
use Rattle.client_scripts.specs.declared.fault.ReplayFault.TheVariants.{Write, OutOfMemory}
use Rattle.explain_report.specs.declared.places.name.Name.{Name}
use Rattle.calls.specs.pair.Forms.{IsPrinted}
use Rattle.calls.specs.pair.Named.{IsNamedPair, IsNoPair}
use Rattle.calls.specs.pair.Requests.{AreNoRequests, IsDeadlockExplained, IsDeadlockWitness, IsNoDeadlock}
use Rattle.calls.specs.declared.pair.fault.PairFault.{PairFault}
use Rattle.calls.specs.declared.pair.form.Form.{Form}
use Rattle.calls.specs.declared.pair.fault.PairFault.TheVariants.{Replay, NoSuchPair, NotShown, NoDeadlock, TooManyHeld}

-- the text explains a finding on the pair: its words, both accesses with the locks that are held, and the reason; of a race, all runs of
-- its schedule, or the first ones of many as one block
abbrev pub IsFindingTold : Recording → Finding → Bool → ℕ → ℕ → List ℕ → Type 0
IsFindingTold r (Race how events) all a b text = IsRaceTold r how events all a b text
IsFindingTold r (Forced chains) all a b text = IsForcedTold r chains.items a b text
IsFindingTold r (Guarded lock) all a b text = IsGuardedTold r lock a b text
IsFindingTold r (Contradicted steps) all a b text = text ≡ contradicted_text r steps.items a b
IsFindingTold r (Undecided events) all a b text = IsUndecidedTold r a b text

-- the text explains a right finding on a and b
pub record IsPairTold (r : Recording) (all : Bool) (a b : ℕ) (text : List ℕ) : Type 0 where
  pub finding : Finding
  pub found : IsFinding r a b finding
  pub never : IsNeverShown r.events a b finding
  pub printed : IsFindingTold r finding all a b text

-- the two that the names mean conflict, and the text explains a right finding on the pair
pub record IsPairExplained (r : Recording) (one other : Name) (all : Bool) (text : List ℕ) : Type 0 where
  pub a : ℕ
  pub b : ℕ
  pub pair : IsNamedPair r one other a b
  pub conflict : IsConflicting r.events a b
  pub told : IsPairTold r all a b text

-- the text explains the pair or the requests that the names mean
abbrev pub IsExplanation : Recording → Name → Name → Bool → List ℕ → Type 0
IsExplanation r one other all text = IsPairExplained r one other all text ⊎ IsDeadlockExplained r one other all text

-- the text prints, in this form, a correct reordering that shows the pair
pub record IsPairWitness (r : Recording) (one other : Name) (form : Form) (text : List ℕ) : Type 0 where
  pub a : ℕ
  pub b : ℕ
  pub pair : IsNamedPair r one other a b
  pub how : How
  pub events : List ℕ
  pub found : IsFinding r a b (Race how events)
  pub printed : IsPrinted r events a b form text

-- the text prints, in this form, a schedule of the pair or of the requests that the names mean
abbrev pub IsWitness : Recording → Name → Name → Form → List ℕ → Type 0
IsWitness r one other form text = IsPairWitness r one other form text ⊎ IsDeadlockWitness r one other form text

-- no schedule is printed of a conflicting pair of this kind: no schedule exists, or none in the order of the trace, and none was
-- found
abbrev pub IsNotShown : Recording → ℕ → ℕ → Kind → Type 0
IsNotShown r a b CandidateKind = ⊥
IsNotShown r a b ForcedKind = IsConflicting r.events a b × IsKind r a b ForcedKind × IsShownByNone r.events a b
IsNotShown r a b GuardedKind = IsConflicting r.events a b × IsKind r a b GuardedKind × IsShownByNone r.events a b
IsNotShown r a b OpenKind =
    IsConflicting r.events a b × IsKind r a b OpenKind × IsNeverShownInOrder r.events a b × IsTurned r.events a b search_limit None

-- these events are a correct reordering that shows the pair
abbrev pub IsListed : Recording → ℕ → ℕ → List ℕ → Type 0
IsListed r a b events = (how : How) × IsFinding r a b (Race how events)

-- why there are none
abbrev pub IsUnlisted : Recording → ℕ → ℕ → PairFault → Type 0
IsUnlisted r a b (Replay OutOfMemory) = ⊤
IsUnlisted r a b (Replay fault) = ⊥
IsUnlisted r a b NoSuchPair = ⊥
IsUnlisted r a b (NotShown kind) = IsNotShown r a b kind
IsUnlisted r a b (NoDeadlock is_apart) = ⊥
IsUnlisted r a b TooManyHeld = ⊥

-- why a pair of this trace is not explained
abbrev pub IsUnexplained : Recording → Name → Name → PairFault → Type 0
IsUnexplained r one other (Replay OutOfMemory) = ⊤
IsUnexplained r one other (Replay fault) = ⊥
IsUnexplained r one other NoSuchPair = IsNoPair r one other × AreNoRequests r one other
IsUnexplained r one other (NotShown kind) = ⊥
IsUnexplained r one other (NoDeadlock is_apart) = ⊥
IsUnexplained r one other TooManyHeld = ⊥

-- why no schedule of it is printed
abbrev pub IsUnwitnessed : Recording → Name → Name → PairFault → Type 0
IsUnwitnessed r one other (Replay OutOfMemory) = ⊤
IsUnwitnessed r one other (Replay fault) = ⊥
IsUnwitnessed r one other NoSuchPair = IsNoPair r one other × AreNoRequests r one other
IsUnwitnessed r one other (NotShown kind) = (a b : ℕ) × IsNamedPair r one other a b × IsNotShown r a b kind
IsUnwitnessed r one other (NoDeadlock is_apart) = IsNoPair r one other × IsNoDeadlock r one other is_apart
IsUnwitnessed r one other TooManyHeld = ⊥

-- What was written of a trace where `Prints` says which texts are right, and `Refuses` which faults: the whole text; or the writer
-- failed, and it is a beginning of the text; or, at another fault, nothing.
abbrev pub IsWritten : (Recording → List ℕ → Type 0) → (Recording → PairFault → Type 0) → Recording → Option (List ℕ) → Option (List ℕ) → Result Unit PairFault → Type 0
IsWritten Prints Refuses r old new (Ok done) = (text : List ℕ) × Prints r text × Appends old new text
IsWritten Prints Refuses r old new (Err (Replay Write)) = (text : List ℕ) × Prints r text × AppendsPart old new text
IsWritten Prints Refuses r old new (Err fault) = Refuses r fault × (new ≡ old)

-- The same of the trace that the bytes say; at a fault of theirs nothing was written.
abbrev pub IsAnswered : (Recording → List ℕ → Type 0) → (Recording → PairFault → Type 0) → List ℕ → Option (List ℕ) → Option (List ℕ) → Result Unit PairFault → Type 0
IsAnswered Prints Refuses bytes old new (Ok done) = (r : Recording) × IsTraceOf bytes r × IsWritten Prints Refuses r old new (Ok done)
IsAnswered Prints Refuses bytes old new (Err (Replay Write)) =
    (r : Recording) × IsTraceOf bytes r × IsWritten Prints Refuses r old new (Err (Replay Write))
IsAnswered Prints Refuses bytes old new (Err (Replay OutOfMemory)) = new ≡ old
IsAnswered Prints Refuses bytes old new (Err (Replay fault)) = IsFault (of_trace bytes) fault × (new ≡ old)
IsAnswered Prints Refuses bytes old new (Err NoSuchPair) =
    (r : Recording) × IsTraceOf bytes r × IsWritten Prints Refuses r old new (Err NoSuchPair)
IsAnswered Prints Refuses bytes old new (Err (NotShown kind)) =
    (r : Recording) × IsTraceOf bytes r × IsWritten Prints Refuses r old new (Err (NotShown kind))
IsAnswered Prints Refuses bytes old new (Err (NoDeadlock is_apart)) =
    (r : Recording) × IsTraceOf bytes r × IsWritten Prints Refuses r old new (Err (NoDeadlock is_apart))
IsAnswered Prints Refuses bytes old new (Err TooManyHeld) =
    (r : Recording) × IsTraceOf bytes r × IsWritten Prints Refuses r old new (Err TooManyHeld)

-- what `explain` answers of the pair, if all runs of a schedule are wanted or not
abbrev pub IsExplained : List ℕ → Name → Name → Bool → Option (List ℕ) → Option (List ℕ) → Result Unit PairFault → Type 0
IsExplained bytes one other all old new result =
    IsAnswered (λ r text. IsExplanation r one other all text) (λ r fault. IsUnexplained r one other fault) bytes old new result

-- what `witness` answers of the pair, in this form
abbrev pub IsWitnessed : List ℕ → Name → Name → Form → Option (List ℕ) → Option (List ℕ) → Result Unit PairFault → Type 0
IsWitnessed bytes one other form old new result =
    IsAnswered (λ r text. IsWitness r one other form text) (λ r fault. IsUnwitnessed r one other fault) bytes old new result
