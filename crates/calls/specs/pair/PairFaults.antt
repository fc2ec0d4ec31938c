-- What is printed of a fault of a call on a pair, without a line end.
use Rattle.std.specs.Prelude.{ℕ, Bool, true, false, List, ◌++◌, codes}
use Rattle.client_scripts.specs.FaultTexts.{fault_words}
use Rattle.must_order.specs.declared.kind.Kind.{Kind}
use Rattle.must_order.specs.declared.kind.Kind.TheVariants.{Candidate, Forced, Guarded, Open}
use Rattle.calls.specs.declared.pair.fault.PairFault.{PairFault}
use Rattle.calls.specs.declared.pair.fault.PairFault.TheVariants.{Replay, NoSuchPair, NotShown, NoDeadlock, TooManyHeld}

-- the word for a kind
abbrev pub kind_text : Kind → List ℕ
kind_text Candidate = codes "candidate"
kind_text Forced = codes "forced"
kind_text Guarded = codes "guarded"
kind_text Open = codes "open"

-- whether no correct reordering shows the requests, or none was found
abbrev pub apart_text : Bool → List ℕ
apart_text true = codes "apart"
apart_text false = codes "undecided"

abbrev pub pair_fault_words : PairFault → List ℕ
pair_fault_words (Replay fault) = fault_words fault
pair_fault_words NoSuchPair = codes "no such pair"
pair_fault_words (NotShown kind) = codes "not shown: " ++ kind_text kind
pair_fault_words (NoDeadlock is_apart) = codes "not shown: " ++ apart_text is_apart
pair_fault_words TooManyHeld = codes "too many held locks"
