-- The window of a trace as a text: a line with its numbers in the trace, its prologue, and its part of the trace.
use Rattle.std.specs.Prelude.{◌≡◌, ◌⊎◌, ℕ, All, ◌+◌, ◌-◌, ◌/◌, ◌<◌, ◌≤◌, Bool, ◌||◌, true, false, nat_lt, if◌then◌else◌, List, [], ◌∷◌, ◌++◌, length, take, drop, replicate, bytes_eq, codes}
use Rattle.std.specs.Fmt.{decimal}
use Rattle.std.specs.List.{list_any}
use Rattle.rapid_text.specs.declared.event.Event.{Event}
use Rattle.rapid_text.specs.Canonical.{event_text, events_text}
use Rattle.rapid_text.specs.Limits.{event_limit, name_limit}
use Rattle.rapid_text.specs.Recording.{IsNamed, Recording}
use Rattle.window.specs.declared.cutting.Window.{Window}
use Rattle.window.specs.declared.fault.CutFault.{CutFault}
use Rattle.window.specs.declared.fault.CutFault.TheVariants.{NoName, NoSuchEvent, OutOfMemory}
use Rattle.window.specs.Made.{chain_of, reads_of, part_of, holds_at, readers_at, readers_of, prologue_length}
use Rattle.window.specs.Window.{back}

-- `window` with j underscores after it
abbrev pub name_with : ℕ → List ℕ
name_with j = codes "window" ++ replicate j 95

-- whether a variable or a lock has the name
abbrev pub is_taken : Recording → List ℕ → Bool
is_taken r name = list_any (bytes_eq name) r.variables || list_any (bytes_eq name) r.locks

-- the name has as few underscores as make it new
pub record IsNewName (r : Recording) (name : List ℕ) : Type 0 where
  pub underscores : ℕ
  pub is : name ≡ name_with underscores
  pub short : length name ≤ name_limit
  pub new : is_taken r name ≡ false
  pub fewest : (j : ℕ) → j < underscores → is_taken r (name_with j) ≡ true

-- every possible name is taken
abbrev pub HasNoNewName : Recording → Type 0
HasNoNewName r = (j : ℕ) → length (name_with j) ≤ name_limit → is_taken r (name_with j) ≡ true

-- the recording with a further variable and a further lock of this name
abbrev pub with_name : Recording → List ℕ → Recording
with_name r name = record r { variables = r.variables ++ name ∷ []; locks = r.locks ++ name ∷ [] }

-- the events have names, no matter what the further variable and lock are called
abbrev pub AreNamed : Recording → List Event → Type 0
AreNamed r events = (name : List ℕ) → All (IsNamed (with_name r name)) events

-- the line of an event with this location; the prologue's variable and lock have this name
abbrev pub own_line : Recording → List ℕ → Event → List ℕ → List ℕ
own_line r name event location = event_text (with_name r name) event location

-- the lines of the events, which have no location
abbrev pub own_lines : Recording → List ℕ → List Event → List ℕ
own_lines r name events = events_text (with_name r name) events []

-- the lines of the trace from k to m
abbrev pub span_lines : Recording → List ℕ → ℕ → ℕ → List ℕ
span_lines r name k m = events_text (with_name r name) (part_of r.events k m) (take (m - k) (drop k r.locations))

-- the holds of the trace at k that are enough, the threads that wait for them, and those that have an event from k
-- to m and are not forked there
abbrev pub own_holds : Recording → ℕ → ℕ → List (ℕ × ℕ)
own_holds r k m = holds_at r.events k m (length r.threads) (length r.locks)

abbrev pub own_readers : Recording → ℕ → ℕ → List ℕ
own_readers r k m = readers_at r.events k m (length r.threads) (length r.locks)

abbrev pub own_threads : Recording → ℕ → ℕ → List ℕ
own_threads r k m = readers_of r.events k m (length r.threads)

-- the events of the prologue; its variable and its lock have the numbers after those of the trace
abbrev pub prologue_of : Recording → ℕ → ℕ → List Event
prologue_of r k m =
    let threads = length r.threads in
    let locks = length r.locks in
    chain_of (length r.variables) locks (holds_at r.events k m threads locks)
    ++ reads_of (length r.variables) locks (readers_at r.events k m threads locks)

-- the number of events of the prologue
abbrev pub prologue_size : Recording → ℕ → ℕ → ℕ
prologue_size r k m = prologue_length r.events k m (length r.threads) (length r.locks)

-- the line with the window's numbers in the trace; readers of traces skip it
abbrev pub begin_line : ℕ → ℕ → ℕ → List ℕ
begin_line k m n =
    (codes "window|begin(FROM " ++ decimal k)
    ++ ((codes " TO " ++ decimal m) ++ ((codes " PROLOGUE " ++ decimal n) ++ codes ")|\n"))

-- the window of the trace at k to m, as a text
unfoldable pub window_text : Recording → List ℕ → ℕ → ℕ → List ℕ
window_text r name k m =
    begin_line k m (prologue_size r k m)
    ++ (events_text (with_name r name) (prologue_of r k m) []
    ++ events_text (with_name r name) (part_of r.events k m) (take (m - k) (drop k r.locations)))

-- the same if event k has the number q in a longer trace
unfoldable pub window_text_at : Recording → List ℕ → ℕ → ℕ → ℕ → List ℕ
window_text_at r name q k m =
    begin_line q (q + (m - k)) (prologue_size r k m)
    ++ (events_text (with_name r name) (prologue_of r k m) []
    ++ events_text (with_name r name) (part_of r.events k m) (take (m - k) (drop k r.locations)))

-- the window at k to m is no longer than a trace may be
abbrev pub Fits : Recording → ℕ → ℕ → Type 0
Fits r k m = prologue_size r k m + (m - k) ≤ event_limit

-- the end of the trace, or of a window with `most` events
abbrev pub last_end : Recording → ℕ → ℕ → ℕ
last_end r k most = if nat_lt (length r.events) (k + most) then length r.events else k + most

-- The window at k with at most `most` events ends at m. It has them all, unless a window with twice as many events as
-- this one would be longer than a trace may be.
pub record IsEnd (r : Recording) (k most m : ℕ) : Type 0 where
  pub some : k < m
  pub within : m ≤ last_end r k most
  pub fits : Fits r k m
  pub longest :
      (m ≡ last_end r k most)
      ⊎ ((j : ℕ) × (m - k ≡ (j - k) / 2) × (event_limit < prologue_size r k j + (j - k)) × (j ≤ last_end r k most))

-- The text is the window of the trace at k, with at most `most` events.
pub record IsCut (r : Recording) (k most : ℕ) (text : List ℕ) : Type 0 where
  pub name : List ℕ
  pub end : ℕ
  pub named : IsNewName r name
  pub ends : IsEnd r k most end
  pub is : text ≡ window_text r name k end

-- The same if event k has the number q in a longer trace.
pub record IsCutAt (r : Recording) (q k most : ℕ) (text : List ℕ) : Type 0 where
  pub name : List ℕ
  pub end : ℕ
  pub named : IsNewName r name
  pub ends : IsEnd r k most end
  pub is : text ≡ window_text_at r name q k end

-- The window has such a text, its numbers in the longer trace, and the number of events in its prologue.
pub record IsCutAs (r : Recording) (q k most : ℕ) (w : Window) : Type 0 where
  pub cut : IsCutAt r q k most w.text.items
  pub from_is : w.from ≡ q
  pub to_is : w.to ≡ q + (cut.end - k)
  pub prologue_is : w.prologue ≡ prologue_size r k cut.end

-- the number in the trace of an event of the window
abbrev pub back_in : Window → ℕ → ℕ
back_in w event = back w.prologue w.from event

-- why there is no window of the trace at k
abbrev pub IsCutFault : Recording → ℕ → CutFault → Type 0
IsCutFault r k fault =
    (fault ≡ OutOfMemory)
    ⊎ (((fault ≡ NoSuchEvent) × (length r.events ≤ k)) ⊎ ((fault ≡ NoName) × HasNoNewName r))
