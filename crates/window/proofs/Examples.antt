-- The definition, evaluated on small traces: threads 0 to 2, locks 0 and 1, variable 9 is x, lock 8 is the prologue's.
use Rattle.std.proofs.Common.{◌≡◌, List, [], ◌∷◌, refl}
use Rattle.rapid_text.specs.declared.event.Event.{Event}
use Rattle.rapid_text.specs.declared.event.Op.TheVariants.{Read, Write, Acquire, Release, Fork}
use Rattle.window.specs.Made.{does, window_of, holds_at, readers_of}
use Rattle.window.specs.Window.{resumed, entered}

-- 0 takes lock 0 twice and lock 1; 1 writes; 0 lets lock 0 go once; 0 forks 2; 2 reads; 1 reads
abbrev pub trace : List Event
trace =
    does 0 (Acquire 0) ∷ does 0 (Acquire 0) ∷ does 0 (Acquire 1) ∷ does 1 (Write 3) ∷ does 0 (Release 0) ∷ does 0 (Fork 2) ∷ does 2 (Read 3)
    ∷ does 1 (Read 3) ∷ []

-- neither lock is touched from 5 to 8: no prologue
pub none_touched : window_of trace 5 8 9 8 3 2 ≡ does 0 (Fork 2) ∷ does 2 (Read 3) ∷ does 1 (Read 3) ∷ []
none_touched = refl

-- from 3 to 8 lock 0, held twice, is let go once
pub holds_are : holds_at trace 3 8 3 2 ≡ (0, 0) ∷ (0, 0) ∷ []
holds_are = refl

pub readers_are : readers_of trace 3 8 3 ≡ 0 ∷ 1 ∷ []
readers_are = refl

pub window_is :
    window_of trace 3 8 9 8 3 2
    ≡ does 0 (Acquire 8) ∷ does 0 (Read 9) ∷ does 0 (Release 8) ∷ does 0 (Acquire 0) ∷ does 0 (Acquire 8) ∷ does 0 (Write 9) ∷ does 0 (Release 8)
    ∷ does 0 (Acquire 8) ∷ does 0 (Read 9) ∷ does 0 (Release 8) ∷ does 0 (Acquire 0) ∷ does 0 (Acquire 8) ∷ does 0 (Write 9) ∷ does 0 (Release 8)
    ∷ does 0 (Acquire 8) ∷ does 0 (Read 9) ∷ does 0 (Release 8) ∷ does 1 (Acquire 8) ∷ does 1 (Read 9) ∷ does 1 (Release 8)
    ∷ does 1 (Write 3) ∷ does 0 (Release 0) ∷ does 0 (Fork 2) ∷ does 2 (Read 3) ∷ does 1 (Read 3) ∷ []
window_is = refl

pub none_held : window_of trace 0 1 9 8 3 2 ≡ does 0 (Acquire 0) ∷ []
none_held = refl

pub resumed_list : resumed 8 5 (0 ∷ 1 ∷ 2 ∷ 3 ∷ 4 ∷ 5 ∷ 7 ∷ 10 ∷ []) ≡ 0 ∷ 1 ∷ 2 ∷ 3 ∷ 4 ∷ 7 ∷ []
resumed_list = refl

pub entered_list : entered 8 5 (7 ∷ []) ≡ 0 ∷ 1 ∷ 2 ∷ 3 ∷ 4 ∷ 5 ∷ 6 ∷ 7 ∷ 10 ∷ []
entered_list = refl
