-- The recording of a list of events, as one more comes.
use Rattle.std.proofs.Common.{◌≡◌, ℕ, true, cond, List, [], ◌∷◌, ◌++◌, map, refl, sym, ap, ◌∙◌, subst}
use Rattle.std.specs.Prelude.{All, flat_map, bytes_eq}
use Rattle.std.specs.List.{list_any}
use Rattle.std.proofs.lemmas.List.{append-nil, append_assoc, map_push}
use Rattle.std.proofs.lemmas.List.Elements.{All-head, All-tail, All-push, All-weaker, All-nil}
use Rattle.rapid_text.specs.declared.event.Event.{Event}
use Rattle.rapid_text.specs.declared.event.Kind.{Kind}
use Rattle.rapid_text.specs.declared.event.Kind.TheVariants.{Reads, Writes, Acquires, Releases, Forks, Joins}
use Rattle.rapid_text.specs.declared.event.Op.{Op}
use Rattle.rapid_text.specs.declared.event.Op.TheVariants.{Read, Write, Acquire, Release, Fork, Join}
use Rattle.rapid_text.specs.Growth.{with_thread, with_operand, with_names, with_event}
use Rattle.rapid_text.specs.Reading.{NamedEvent, first_uses, name_where, names_thread, names_variable, names_lock, thread_uses, variable_uses, lock_uses, number_of, numbered, numbered_op, recording_of}
use Rattle.rapid_text.specs.Recording.{Recording}
use Rattle.rapid_text.proofs.FirstUses.{first_uses-push, KeepsTable, KeepsTable-refl, KeepsTable-trans, KeepsTable-with_name, with_name-noted}

-- what one more event uses
flat_map_push : {X Y : Type 0} (f : X → List Y) (xs : List X) (x : X) → flat_map f (xs ++ x ∷ []) ≡ flat_map f xs ++ f x
flat_map_push f [] x = append-nil (f x)
flat_map_push f (y ∷ xs) x = ap (λ ys. f y ++ ys) (flat_map_push f xs x) ∙ sym (append_assoc (f y) (flat_map f xs) (f x))

-- no use more
no_use : (uses : List (List ℕ)) → first_uses (uses ++ []) ≡ first_uses uses
no_use uses = ap first_uses (append-nil uses)

-- a recording by the uses of its names
abbrev of_uses : List Event → List (List ℕ) → List (List ℕ) → List (List ℕ) → List (List ℕ) → Recording
of_uses e t v l ls =
    record { events = e; threads = first_uses t; variables = first_uses v; locks = first_uses l; locations = ls }

-- its tables behind one more operand
threads_operand : (kind : Kind) (name : List ℕ) (e : List Event) (t v l ls : List (List ℕ)) → first_uses (t ++ cond (names_thread kind) (name ∷ []) []) ≡ (with_operand (of_uses e t v l ls) kind name).threads
threads_operand Forks name e t v l ls = first_uses-push t name
threads_operand Joins name e t v l ls = first_uses-push t name
threads_operand kind name e t v l ls = no_use t

variables_operand : (kind : Kind) (name : List ℕ) (e : List Event) (t v l ls : List (List ℕ)) → first_uses (v ++ cond (names_variable kind) (name ∷ []) []) ≡ (with_operand (of_uses e t v l ls) kind name).variables
variables_operand Reads name e t v l ls = first_uses-push v name
variables_operand Writes name e t v l ls = first_uses-push v name
variables_operand kind name e t v l ls = no_use v

locks_operand : (kind : Kind) (name : List ℕ) (e : List Event) (t v l ls : List (List ℕ)) → first_uses (l ++ cond (names_lock kind) (name ∷ []) []) ≡ (with_operand (of_uses e t v l ls) kind name).locks
locks_operand Acquires name e t v l ls = first_uses-push l name
locks_operand Releases name e t v l ls = first_uses-push l name
locks_operand kind name e t v l ls = no_use l

-- the tables of one event more
module _ (es : List NamedEvent) (e : NamedEvent) where
  after_thread : with_operand (of_uses (recording_of es).events (thread_uses es ++ e.thread ∷ []) (variable_uses es) (lock_uses es) (recording_of es).locations) e.kind e.name ≡ with_names (recording_of es) e
  after_thread = ap (λ (ts : List (List ℕ)). with_operand (record (recording_of es) { threads = ts }) e.kind e.name) (first_uses-push (thread_uses es) e.thread)

  pub threads-push : first_uses (thread_uses (es ++ e ∷ [])) ≡ (with_names (recording_of es) e).threads
  threads-push =
      ap first_uses (flat_map_push (λ (x : NamedEvent). x.thread ∷ name_where names_thread x) es e ∙ sym (append_assoc (thread_uses es) (e.thread ∷ []) (name_where names_thread e)))
      ∙ threads_operand e.kind e.name (recording_of es).events (thread_uses es ++ e.thread ∷ []) (variable_uses es) (lock_uses es) (recording_of es).locations
      ∙ ap (λ (r : Recording). r.threads) after_thread

  pub variables-push : first_uses (variable_uses (es ++ e ∷ [])) ≡ (with_names (recording_of es) e).variables
  variables-push =
      ap first_uses (flat_map_push (name_where names_variable) es e)
      ∙ variables_operand e.kind e.name (recording_of es).events (thread_uses es ++ e.thread ∷ []) (variable_uses es) (lock_uses es) (recording_of es).locations
      ∙ ap (λ (r : Recording). r.variables) after_thread

  pub locks-push : first_uses (lock_uses (es ++ e ∷ [])) ≡ (with_names (recording_of es) e).locks
  locks-push =
      ap first_uses (flat_map_push (name_where names_lock) es e)
      ∙ locks_operand e.kind e.name (recording_of es).events (thread_uses es ++ e.thread ∷ []) (variable_uses es) (lock_uses es) (recording_of es).locations
      ∙ ap (λ (r : Recording). r.locks) after_thread

-- the names of an event stand in the tables
abbrev HasOperand : Recording → Kind → List ℕ → Type 0
HasOperand r Reads name = list_any (bytes_eq name) r.variables ≡ true
HasOperand r Writes name = list_any (bytes_eq name) r.variables ≡ true
HasOperand r Acquires name = list_any (bytes_eq name) r.locks ≡ true
HasOperand r Releases name = list_any (bytes_eq name) r.locks ≡ true
HasOperand r Forks name = list_any (bytes_eq name) r.threads ≡ true
HasOperand r Joins name = list_any (bytes_eq name) r.threads ≡ true

abbrev pub Knows : Recording → NamedEvent → Type 0
Knows r e = (list_any (bytes_eq e.thread) r.threads ≡ true) × HasOperand r e.kind e.name

-- each table keeps its names and their numbers
record Keeps (r s : Recording) : Type 0 where
  threads : KeepsTable r.threads s.threads
  variables : KeepsTable r.variables s.variables
  locks : KeepsTable r.locks s.locks

Keeps-operand : (r : Recording) (kind : Kind) (name : List ℕ) → Keeps r (with_operand r kind name)
Keeps-operand r Reads name = record { threads = KeepsTable-refl r.threads; variables = KeepsTable-with_name r.variables name; locks = KeepsTable-refl r.locks }
Keeps-operand r Writes name = record { threads = KeepsTable-refl r.threads; variables = KeepsTable-with_name r.variables name; locks = KeepsTable-refl r.locks }
Keeps-operand r Acquires name = record { threads = KeepsTable-refl r.threads; variables = KeepsTable-refl r.variables; locks = KeepsTable-with_name r.locks name }
Keeps-operand r Releases name = record { threads = KeepsTable-refl r.threads; variables = KeepsTable-refl r.variables; locks = KeepsTable-with_name r.locks name }
Keeps-operand r Forks name = record { threads = KeepsTable-with_name r.threads name; variables = KeepsTable-refl r.variables; locks = KeepsTable-refl r.locks }
Keeps-operand r Joins name = record { threads = KeepsTable-with_name r.threads name; variables = KeepsTable-refl r.variables; locks = KeepsTable-refl r.locks }

Keeps-names : (r : Recording) (e : NamedEvent) → Keeps r (with_names r e)
Keeps-names r e =
    let first = KeepsTable-with_name r.threads e.thread in
    let then = Keeps-operand (with_thread r e.thread) e.kind e.name in
    record { threads = KeepsTable-trans r.threads (with_thread r e.thread).threads (with_names r e).threads first then.threads; variables = then.variables; locks = then.locks }

HasOperand-keeps : (r s : Recording) (kind : Kind) (name : List ℕ) → Keeps r s → HasOperand r kind name → HasOperand s kind name
HasOperand-keeps r s Reads name k h = k.variables.stays name h
HasOperand-keeps r s Writes name k h = k.variables.stays name h
HasOperand-keeps r s Acquires name k h = k.locks.stays name h
HasOperand-keeps r s Releases name k h = k.locks.stays name h
HasOperand-keeps r s Forks name k h = k.threads.stays name h
HasOperand-keeps r s Joins name k h = k.threads.stays name h

Knows-keeps : (r s : Recording) (e : NamedEvent) → Keeps r s → Knows r e → Knows s e
Knows-keeps r s e k h = (k.threads.stays e.thread h.0, HasOperand-keeps r s e.kind e.name k h.1)

numbered_op-keeps : (r s : Recording) (kind : Kind) (name : List ℕ) → Keeps r s → HasOperand r kind name → numbered_op s.threads s.variables s.locks kind name ≡ numbered_op r.threads r.variables r.locks kind name
numbered_op-keeps r s Reads name k h = ap Read (k.variables.number name h)
numbered_op-keeps r s Writes name k h = ap Write (k.variables.number name h)
numbered_op-keeps r s Acquires name k h = ap Acquire (k.locks.number name h)
numbered_op-keeps r s Releases name k h = ap Release (k.locks.number name h)
numbered_op-keeps r s Forks name k h = ap Fork (k.threads.number name h)
numbered_op-keeps r s Joins name k h = ap Join (k.threads.number name h)

numbered-keeps : (r s : Recording) (e : NamedEvent) → Keeps r s → Knows r e → numbered s.threads s.variables s.locks e ≡ numbered r.threads r.variables r.locks e
numbered-keeps r s e k h =
    ap (λ (n : ℕ). let x : Event = record { thread = n; op = numbered_op s.threads s.variables s.locks e.kind e.name } in x) (k.threads.number e.thread h.0)
    ∙ ap (λ (o : Op). let x : Event = record { thread = number_of r.threads e.thread; op = o } in x) (numbered_op-keeps r s e.kind e.name k h.1)

all_numbered-keeps : (r s : Recording) (es : List NamedEvent) → Keeps r s → All (Knows r) es → map (numbered s.threads s.variables s.locks) es ≡ map (numbered r.threads r.variables r.locks) es
all_numbered-keeps r s [] k h = refl
all_numbered-keeps r s (e ∷ es) k h =
    ap (λ (x : Event). x ∷ map (numbered s.threads s.variables s.locks) es) (numbered-keeps r s e k (All-head (Knows r) e es h))
    ∙ ap (λ (xs : List Event). numbered r.threads r.variables r.locks e ∷ xs) (all_numbered-keeps r s es k (All-tail (Knows r) e es h))

-- the new event's names stand there
HasOperand-noted : (r : Recording) (kind : Kind) (name : List ℕ) → HasOperand (with_operand r kind name) kind name
HasOperand-noted r Reads name = with_name-noted r.variables name
HasOperand-noted r Writes name = with_name-noted r.variables name
HasOperand-noted r Acquires name = with_name-noted r.locks name
HasOperand-noted r Releases name = with_name-noted r.locks name
HasOperand-noted r Forks name = with_name-noted r.threads name
HasOperand-noted r Joins name = with_name-noted r.threads name

Knows-noted : (r : Recording) (e : NamedEvent) → Knows (with_names r e) e
Knows-noted r e = (
  (Keeps-operand (with_thread r e.thread) e.kind e.name).threads.stays e.thread (with_name-noted r.threads e.thread),
  HasOperand-noted (with_thread r e.thread) e.kind e.name,
)

-- what holds of the names alone holds with the event at the end
HasOperand-last : (r s : Recording) (kind : Kind) (name : List ℕ) → r.threads ≡ s.threads → r.variables ≡ s.variables → r.locks ≡ s.locks → HasOperand r kind name → HasOperand s kind name
HasOperand-last r s Reads name t v l h = subst (λ ns. list_any (bytes_eq name) ns ≡ true) v h
HasOperand-last r s Writes name t v l h = subst (λ ns. list_any (bytes_eq name) ns ≡ true) v h
HasOperand-last r s Acquires name t v l h = subst (λ ns. list_any (bytes_eq name) ns ≡ true) l h
HasOperand-last r s Releases name t v l h = subst (λ ns. list_any (bytes_eq name) ns ≡ true) l h
HasOperand-last r s Forks name t v l h = subst (λ ns. list_any (bytes_eq name) ns ≡ true) t h
HasOperand-last r s Joins name t v l h = subst (λ ns. list_any (bytes_eq name) ns ≡ true) t h

-- a recording by its fields
recording_is : (e e' : List Event) (t t' v v' l l' p p' : List (List ℕ)) → e ≡ e' → t ≡ t' → v ≡ v' → l ≡ l' → p ≡ p' → (let x : Recording = record { events = e; threads = t; variables = v; locks = l; locations = p } in x) ≡ (let x : Recording = record { events = e'; threads = t'; variables = v'; locks = l'; locations = p' } in x)
recording_is e e' t t' v v' l l' p p' a b c d f = cc

-- the operand leaves the events and the locations
operand_events : (r : Recording) (kind : Kind) (name : List ℕ) → ((with_operand r kind name).events ≡ r.events) × ((with_operand r kind name).locations ≡ r.locations)
operand_events r Forks name = (refl, refl)
operand_events r Joins name = (refl, refl)
operand_events r kind name = (refl, refl)

-- all events' names stand in their recording's tables
abbrev pub IsKnown : List NamedEvent → Type 0
IsKnown es = All (Knows (recording_of es)) es

-- the recording of one event more
pub recording_of-push : (es : List NamedEvent) (e : NamedEvent) → IsKnown es → recording_of (es ++ e ∷ []) ≡ with_event (recording_of es) e
recording_of-push es e all =
    let r : Recording = recording_of es in
    let s : Recording = with_names r e in
    let same = operand_events (with_thread r e.thread) e.kind e.name in
    let tables : map (numbered (first_uses (thread_uses (es ++ e ∷ []))) (first_uses (variable_uses (es ++ e ∷ []))) (first_uses (lock_uses (es ++ e ∷ [])))) (es ++ e ∷ []) ≡ map (numbered s.threads s.variables s.locks) (es ++ e ∷ []) =
    ap (λ ts. map (numbered ts (first_uses (variable_uses (es ++ e ∷ []))) (first_uses (lock_uses (es ++ e ∷ [])))) (es ++ e ∷ [])) (threads-push es e)
    ∙ ap (λ vs. map (numbered s.threads vs (first_uses (lock_uses (es ++ e ∷ [])))) (es ++ e ∷ [])) (variables-push es e)
    ∙ ap (λ ls. map (numbered s.threads s.variables ls) (es ++ e ∷ [])) (locks-push es e) in
    let events : map (numbered s.threads s.variables s.locks) (es ++ e ∷ []) ≡ s.events ++ numbered s.threads s.variables s.locks e ∷ [] =
    map_push (numbered s.threads s.variables s.locks) es e
    ∙ ap (λ (xs : List Event). xs ++ numbered s.threads s.variables s.locks e ∷ []) (all_numbered-keeps r s es (Keeps-names r e) all ∙ sym same.0) in
    let places : map (λ (x : NamedEvent). x.location) (es ++ e ∷ []) ≡ s.locations ++ e.location ∷ [] =
    map_push (λ (x : NamedEvent). x.location) es e ∙ ap (λ ls. ls ++ e.location ∷ []) (sym same.1) in
    recording_is (recording_of (es ++ e ∷ [])).events (with_event r e).events (recording_of (es ++ e ∷ [])).threads s.threads (recording_of (es ++ e ∷ [])).variables s.variables (recording_of (es ++ e ∷ [])).locks s.locks (recording_of (es ++ e ∷ [])).locations (with_event r e).locations
    (tables ∙ events) (threads-push es e) (variables-push es e) (locks-push es e) places

pub IsKnown-nil : IsKnown []
IsKnown-nil = All-nil (Knows (recording_of []))

-- and its names stand in its tables
pub IsKnown-push : (es : List NamedEvent) (e : NamedEvent) → IsKnown es → IsKnown (es ++ e ∷ [])
IsKnown-push es e all =
    let r : Recording = recording_of es in
    let s : Recording = with_names r e in
    let t : Recording = recording_of (es ++ e ∷ []) in
    let move : (x : NamedEvent) → Knows s x → Knows t x =
    λ x h. (subst (λ ns. list_any (bytes_eq x.thread) ns ≡ true) (sym (threads-push es e)) h.0, HasOperand-last s t x.kind x.name (sym (threads-push es e)) (sym (variables-push es e)) (sym (locks-push es e)) h.1) in
    All-push (Knows t) es e
    (All-weaker (Knows r) (Knows t) (λ x h. move x (Knows-keeps r s x (Keeps-names r e) h)) es all)
    (move e (Knows-noted r e))
