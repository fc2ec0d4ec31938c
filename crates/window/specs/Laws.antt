-- What a window says about its trace.
use Rattle.std.specs.Prelude.{◌≡◌, ◌⊎◌, ◌↔◌, ℕ, ◌++◌, ◌<◌, All, ◌-◌, ◌*◌, ◌≤◌, List, length}
use Rattle.rapid_text.specs.declared.event.Event.{Event}
use Rattle.trace_rules.specs.Rules.{IsDisciplined}
use Rattle.schedule.specs.Reordering.{IsCorrectReordering}
use Rattle.schedule.specs.Shows.{Shows}
use Rattle.event_index.specs.Lookups.{before}
use Rattle.window.specs.Made.{AreHolds, AreOthers, AreReaders, IsUnused, IsBounded, window_by, window_of, links_of, front_of, chain_length, prologue_length}
use Rattle.window.specs.Renamed.{Names, AreApart, renamed}
use Rattle.window.specs.Window.{IsWindow, back, forth, resumed, entered}

-- a window of a trace that keeps the rules keeps them too
abbrev pub WindowIsDisciplined : Type 0
WindowIsDisciplined = (T W : List Event) (k m n x lock c : ℕ) → IsDisciplined T → IsWindow T W k m n x lock c → IsDisciplined W

-- a correct reordering of the window, after the events before k, is one of the trace, and shows there what it shows
-- in the window
abbrev pub WindowIsSound : Type 0
WindowIsSound =
    (T W : List Event) (k m n x lock c : ℕ) (P : List ℕ)
    → IsDisciplined T
    → IsWindow T W k m n x lock c
    → IsCorrectReordering W P
    → IsCorrectReordering T (resumed n k P)
    × ((a b : ℕ) → n ≤ a → n ≤ b → Shows W P a b → Shows T (resumed n k P) (back n k a) (back n k b))

-- the window that is built meets the definition, in any order of its holds and readers
abbrev pub WindowIsMade : Type 0
WindowIsMade =
    (T : List Event) (k m x lock : ℕ) (holds : List (ℕ × ℕ)) (readers : List ℕ)
    → IsDisciplined T
    → k ≤ m
    → m ≤ length T
    → AreHolds T k m holds
    → AreOthers lock holds
    → AreReaders T k m holds readers
    → IsUnused T k m x lock
    → IsWindow T (window_by T k m x lock holds readers) k m (front_of holds readers) x lock (links_of holds)

-- take a correct reordering of the trace's first m events that begins as recorded up to k: its later events, after
-- the prologue, are one of the window, and show there what they show in the trace
abbrev pub WindowIsComplete : Type 0
WindowIsComplete =
    (T W : List Event) (k m n x lock c : ℕ) (S : List ℕ)
    → IsDisciplined T
    → IsWindow T W k m n x lock c
    → IsCorrectReordering T (before k ++ S)
    → All (λ d. d < m) S
    → IsCorrectReordering W (entered n k S)
    × (resumed n k (entered n k S) ≡ before k ++ S)
    × ((a b : ℕ) → k ≤ a → a < m → k ≤ b → b < m → Shows T (before k ++ S) a b → Shows W (entered n k S) (forth n k a) (forth n k b))

-- `window_of` meets the definition of a window
abbrev pub WindowOfIsWindow : Type 0
WindowOfIsWindow =
    (T : List Event) (k m x lock threads locks : ℕ)
    → IsDisciplined T
    → k ≤ m
    → m ≤ length T
    → IsBounded T threads locks
    → IsUnused T k m x lock
    → IsWindow
    T
    (window_of T k m x lock threads locks)
    k
    m
    (prologue_length T k m threads locks)
    x
    lock
    (chain_length T k m threads locks)

-- a prologue has at most seventeen times as many events as its part of the trace
abbrev pub ProloguesAreShort : Type 0
ProloguesAreShort =
    (T : List Event) (k m threads locks : ℕ) → k ≤ m → m ≤ length T → prologue_length T k m threads locks ≤ 17 * (m - k)

-- no correct reordering shows the pair
abbrev pub IsNeverShown : List Event → ℕ → ℕ → Type 0
IsNeverShown T a b = (P : List ℕ) → IsCorrectReordering T P → ¬ Shows T P a b

-- no correct reordering shows the pair that begins with the events before k as recorded, and continues with events
-- before m
abbrev pub IsNeverShownFrom : List Event → ℕ → ℕ → ℕ → ℕ → Type 0
IsNeverShownFrom T k m a b = (S : List ℕ) → IsCorrectReordering T (before k ++ S) → All (λ d. d < m) S → ¬ Shows T (before k ++ S) a b

-- no correct reordering of the window shows a pair with an event of the prologue
abbrev pub PrologueIsApart : Type 0
PrologueIsApart =
    (T W : List Event) (k m n x lock c a b : ℕ) (P : List ℕ)
    → IsDisciplined T
    → IsWindow T W k m n x lock c
    → IsCorrectReordering W P
    → (a < n) ⊎ (b < n)
    → ¬ Shows W P a b

-- The window never shows a pair exactly if no such list of the trace shows it: one that begins as recorded up to k
-- and has no event from m on.
abbrev pub ApartInWindow : Type 0
ApartInWindow =
    (T W : List Event) (k m n x lock c a b : ℕ)
    → IsDisciplined T
    → IsWindow T W k m n x lock c
    → n ≤ a
    → a < length W
    → n ≤ b
    → b < length W
    → IsNeverShown W a b ↔ IsNeverShownFrom T k m (back n k a) (back n k b)

-- a window of the events read so far is a window of the trace, no matter which events follow
abbrev pub WindowOfABeginning : Type 0
WindowOfABeginning = (T more W : List Event) (k m n x lock c : ℕ) → IsWindow T W k m n x lock c → IsWindow (T ++ more) W k m n x lock c

-- other numbers for threads, variables and locks change nothing
pub record RenamingKeepsReorderings : Type 0 where
  pub reorderings : (f : Names) (V : List Event) (P : List ℕ) → AreApart f → IsCorrectReordering V P ↔ IsCorrectReordering (renamed f V) P
  pub shown : (f : Names) (V : List Event) (P : List ℕ) (a b : ℕ) → AreApart f → Shows V P a b ↔ Shows (renamed f V) P a b
  pub disciplined : (f : Names) (V : List Event) → AreApart f → IsDisciplined (renamed f V) → IsDisciplined V
