-- What the text of a window says about its trace.
use Rattle.std.specs.Prelude.{◌≡◌, ℕ, ◌<◌, ◌≤◌, List, Ok}
use Rattle.rapid_text.specs.Reading.{reading_of}
use Rattle.rapid_text.specs.Recording.{Recording, IsWellFormed}
use Rattle.trace_rules.specs.Rules.{IsDisciplined}
use Rattle.schedule.specs.Reordering.{IsCorrectReordering}
use Rattle.schedule.specs.Shows.{Shows}
use Rattle.window.specs.Cuts.{IsCut, IsCutAt, prologue_size}
use Rattle.window.specs.Renamed.{Names, AreApart, renamed}
use Rattle.window.specs.Window.{IsWindow, back, resumed}

-- The text reads as a complete trace. It is the window of the trace from k to m, except that threads, variables and
-- locks have other numbers.
pub record IsWindowText (r : Recording) (k m : ℕ) (text : List ℕ) : Type 0 where
  pub inner : Recording
  pub reads : reading_of text ≡ Ok inner
  pub names : Names
  pub apart : AreApart names
  pub variable : ℕ
  pub lock : ℕ
  pub chain : ℕ
  pub is : IsWindow r.events (renamed names inner.events) k m (prologue_size r k m) variable lock chain
  pub keeps : IsDisciplined inner.events

-- the text that is cut from a trace reads as the window of that trace
abbrev pub CutReadsAsWindow : Type 0
CutReadsAsWindow =
    (bytes : List ℕ) (r : Recording) (k most : ℕ) (text : List ℕ)
    → reading_of bytes ≡ Ok r
    → IsWellFormed r
    → IsDisciplined r.events
    → (cut : IsCut r k most text)
    → IsWindowText r k cut.end text

-- the same if the events have other numbers in a longer trace
abbrev pub CutAtReadsAsWindow : Type 0
CutAtReadsAsWindow =
    (bytes : List ℕ) (r : Recording) (q k most : ℕ) (text : List ℕ)
    → reading_of bytes ≡ Ok r
    → IsWellFormed r
    → IsDisciplined r.events
    → q < 1000000000000000000
    → (cut : IsCutAt r q k most text)
    → IsWindowText r k cut.end text

-- A race of the text is a race of the trace. If a correct reordering of the text shows a pair, so do the events
-- before k as recorded, followed by that reordering.
abbrev pub CutIsSound : Type 0
CutIsSound =
    (r : Recording) (k m a b : ℕ) (text P : List ℕ)
    → IsDisciplined r.events
    → (window : IsWindowText r k m text)
    → IsCorrectReordering window.inner.events P
    → prologue_size r k m ≤ a
    → prologue_size r k m ≤ b
    → Shows window.inner.events P a b
    → IsCorrectReordering r.events (resumed (prologue_size r k m) k P)
    × Shows r.events (resumed (prologue_size r k m) k P) (back (prologue_size r k m) k a) (back (prologue_size r k m) k b)
