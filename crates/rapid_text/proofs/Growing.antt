-- A recording grows by one event.
use Rattle.std.proofs.Common.{◌≡◌, ℕ, ◌<◌, ◌≤◌, ◌+◌, List, [], ◌∷◌, ◌++◌, length, refl, sym, ap, ◌∙◌, subst, arith}
use Rattle.std.specs.Prelude.{All, bytes_eq}
use Rattle.std.specs.List.{position_or_len}
use Rattle.std.proofs.lemmas.List.{length_push}
use Rattle.std.proofs.lemmas.List.Elements.{All-push, All-weaker}
use Rattle.rapid_text.specs.declared.event.Event.{Event}
use Rattle.rapid_text.specs.declared.event.Kind.{Kind}
use Rattle.rapid_text.specs.declared.event.Kind.TheVariants.{Reads, Writes, Acquires, Releases, Forks, Joins}
use Rattle.rapid_text.specs.declared.event.Op.{Op}
use Rattle.rapid_text.specs.declared.event.Op.TheVariants.{Read, Write, Acquire, Release, Fork, Join}
use Rattle.rapid_text.specs.Limits.{event_limit, thread_limit}
use Rattle.rapid_text.specs.Growth.{with_name, with_thread, with_operand, with_names, with_event, IsNumber, IsTight}
use Rattle.rapid_text.specs.Reading.{NamedEvent, number_of, numbered, numbered_op}
use Rattle.rapid_text.specs.Recording.{Recording, IsNamed, IsNamedOp}
use Rattle.rapid_text.proofs.Numbering.{IsNumber-with_name, IsNumber-within, length-with_name, number-with_name, number_of-is, number_of-within}

-- the last event and the last location, told in two ways
pub with_last : (r : Recording) (events : List Event) (locations : List (List ℕ)) (event : Event) (location : List ℕ) → events ≡ r.events ++ event ∷ [] → locations ≡ r.locations ++ location ∷ [] → record r { events = events; locations = locations } ≡ record r { events = r.events ++ event ∷ []; locations = r.locations ++ location ∷ [] }
with_last r events locations event location e l =
    ap (λ (es : List Event). record r { events = es; locations = locations }) e
    ∙ ap (λ (ls : List (List ℕ)). record r { events = r.events ++ event ∷ []; locations = ls }) l

-- the name of an operation leaves the threads' numbers
operand-keeps : (r : Recording) (kind : Kind) (name other : List ℕ) (n : ℕ) → IsNumber r.threads other n → IsNumber (with_operand r kind name).threads other n
operand-keeps r Forks name other n h = IsNumber-with_name r.threads other name n h
operand-keeps r Joins name other n h = IsNumber-with_name r.threads other name n h
operand-keeps r kind name other n h = h

abbrev last_put : Recording → Event → List ℕ → Recording
last_put s event location = record s { events = s.events ++ event ∷ []; locations = s.locations ++ location ∷ [] }

-- the steps by which its names are noted
pub with_names-steps : (r : Recording) (e : NamedEvent) (names : List (List ℕ)) (s : Recording) → names ≡ with_name r.threads e.thread → s ≡ with_operand (record r { threads = names }) e.kind e.name → s ≡ with_names r e
with_names-steps r e names s named operand = operand ∙ ap (λ (ns : List (List ℕ)). with_operand (record r { threads = ns }) e.kind e.name) named

-- the steps by which an event is recorded
pub with_event-steps : (r : Recording) (e : NamedEvent) (names : List (List ℕ)) (thread : ℕ) (op : Op) (s t : Recording) → names ≡ with_name r.threads e.thread → IsNumber names e.thread thread → s ≡ with_operand (record r { threads = names }) e.kind e.name → op ≡ numbered_op s.threads s.variables s.locks e.kind e.name → t ≡ record s { events = s.events ++ record { thread = thread; op = op } ∷ []; locations = s.locations ++ e.location ∷ [] } → t ≡ with_event r e
with_event-steps r e names thread op s t named number operand operation put =
    let known : IsNumber s.threads e.thread thread = subst (λ (q : Recording). IsNumber q.threads e.thread thread) (sym operand) (operand-keeps (record r { threads = names }) e.kind e.name e.thread thread number) in
    let whole : s ≡ with_names r e = operand ∙ ap (λ (ns : List (List ℕ)). with_operand (record r { threads = ns }) e.kind e.name) named in
    put
    ∙ ap (λ (n : ℕ). last_put s (record { thread = n; op = op }) e.location) (sym (number_of-is s.threads e.thread thread known))
    ∙ ap (λ (o : Op). last_put s (record { thread = number_of s.threads e.thread; op = o }) e.location) operation
    ∙ ap (λ (q : Recording). last_put q (numbered q.threads q.variables q.locks e) e.location) whole

-- no table becomes shorter
record Grows (r s : Recording) : Type 0 where
  threads : length r.threads ≤ length s.threads
  variables : length r.variables ≤ length s.variables
  locks : length r.locks ≤ length s.locks

IsNamedOp-grows : (r s : Recording) (op : Op) → Grows r s → IsNamedOp r op → IsNamedOp s op
IsNamedOp-grows r s (Read x) g h = omega (arith, g.variables, h)
IsNamedOp-grows r s (Write x) g h = omega (arith, g.variables, h)
IsNamedOp-grows r s (Acquire l) g h = omega (arith, g.locks, h)
IsNamedOp-grows r s (Release l) g h = omega (arith, g.locks, h)
IsNamedOp-grows r s (Fork u) g h = omega (arith, g.threads, h)
IsNamedOp-grows r s (Join u) g h = omega (arith, g.threads, h)

IsNamed-grows : (r s : Recording) (e : Event) → Grows r s → IsNamed r e → IsNamed s e
IsNamed-grows r s e g h = (omega (arith, g.threads, h.0), IsNamedOp-grows r s e.op g h.1)

-- an operation's name lengthens one table by one at most
record Steps (r s : Recording) : Type 0 where
  grows : Grows r s
  events : s.events ≡ r.events
  locations : s.locations ≡ r.locations
  variables : length s.variables ≤ length r.variables + 1
  locks : length s.locks ≤ length r.locks + 1

operand-steps : (r : Recording) (kind : Kind) (name : List ℕ) → Steps r (with_operand r kind name)
operand-steps r Reads name = let h = length-with_name r.variables name in record { events = refl; locations = refl; grows = record { threads = omega arith; variables = h.0; locks = omega arith }; variables = h.1; locks = omega arith }
operand-steps r Writes name = let h = length-with_name r.variables name in record { events = refl; locations = refl; grows = record { threads = omega arith; variables = h.0; locks = omega arith }; variables = h.1; locks = omega arith }
operand-steps r Acquires name = let h = length-with_name r.locks name in record { events = refl; locations = refl; grows = record { threads = omega arith; variables = omega arith; locks = h.0 }; variables = omega arith; locks = h.1 }
operand-steps r Releases name = let h = length-with_name r.locks name in record { events = refl; locations = refl; grows = record { threads = omega arith; variables = omega arith; locks = h.0 }; variables = omega arith; locks = h.1 }
operand-steps r Forks name = let h = length-with_name r.threads name in record { events = refl; locations = refl; grows = record { threads = h.0; variables = omega arith; locks = omega arith }; variables = omega arith; locks = omega arith }
operand-steps r Joins name = let h = length-with_name r.threads name in record { events = refl; locations = refl; grows = record { threads = h.0; variables = omega arith; locks = omega arith }; variables = omega arith; locks = omega arith }

-- the operation's number has a name
operand-named : (r : Recording) (kind : Kind) (name : List ℕ) → let s = with_operand r kind name in IsNamedOp s (numbered_op s.threads s.variables s.locks kind name)
operand-named r Reads name = number_of-within r.variables name
operand-named r Writes name = number_of-within r.variables name
operand-named r Acquires name = number_of-within r.locks name
operand-named r Releases name = number_of-within r.locks name
operand-named r Forks name = number_of-within r.threads name
operand-named r Joins name = number_of-within r.threads name

-- an event that is no fault keeps a recording within the limits
pub IsTight-with_event : (r : Recording) (e : NamedEvent) → IsTight r → length r.events < event_limit → length (with_names r e).threads ≤ thread_limit → IsTight (with_event r e)
IsTight-with_event r e tight room few =
    let known : Recording = with_thread r e.thread in
    let s : Recording = with_names r e in
    let event : Event = numbered s.threads s.variables s.locks e in
    let first : length r.threads ≤ length known.threads = (length-with_name r.threads e.thread).0 in
    let steps : Steps known s = operand-steps known e.kind e.name in
    let grows : Grows r s = record { threads = omega (arith, first, steps.grows.threads); variables = steps.grows.variables; locks = steps.grows.locks } in
    let whole : Grows r (with_event r e) = record { threads = grows.threads; variables = grows.variables; locks = grows.locks } in
    let tables : Grows s (with_event r e) = record { threads = omega arith; variables = omega arith; locks = omega arith } in
    let n : ℕ = position_or_len (bytes_eq e.thread) r.threads in
    let thread : IsNumber s.threads e.thread n = operand-keeps known e.kind e.name e.thread n (number-with_name r.threads e.thread) in
    let longer : length (s.events ++ event ∷ []) ≡ length r.events + 1 = length_push s.events event ∙ ap (λ (xs : List Event). length xs + 1) steps.events in
    let more : length (s.locations ++ e.location ∷ []) ≡ length r.locations + 1 = length_push s.locations e.location ∙ ap (λ (xs : List (List ℕ)). length xs + 1) steps.locations in
    record {
      events = omega (arith, longer, room);
      threads = few;
      variables = omega (arith, longer, steps.variables, tight.variables);
      locks = omega (arith, longer, steps.locks, tight.locks);
      locations = omega (arith, longer, more, tight.locations);
      named = All-push (IsNamed (with_event r e)) s.events event
          (All-weaker (IsNamed r) (IsNamed (with_event r e)) (λ x h. IsNamed-grows r (with_event r e) x whole h) s.events (subst (All (IsNamed r)) (sym steps.events) tight.named))
          (omega (arith, number_of-is s.threads e.thread n thread, IsNumber-within s.threads e.thread n thread), IsNamedOp-grows s (with_event r e) (numbered_op s.threads s.variables s.locks e.kind e.name) tables (operand-named known e.kind e.name));
    }
