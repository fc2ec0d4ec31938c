-- Boards of proposals: this project's own.
use Rattle.std.specs.Prelude.{◌≡◌, ℕ, List, All}
use denote.Ref.{Bor}
use Rattle.rapid_text.specs.Recording.{Recording}
use Rattle.schedule.specs.Reordering.{IsCorrectReordering}
use Rattle.schedule.specs.Scheduled.{Scheduled}
use Rattle.schedule.specs.Shows.{Shows}
use Rattle.moves.specs.declared.board.Proposal.{Proposal}

-- the proposal of two events and a borrowed schedule
abbrev pub lent_proposal : ℕ × ℕ × Bor Scheduled → Proposal
lent_proposal parts = record { first = parts.0; second = parts.1; schedule = parts.2.now }

-- the proposal's schedule shows its pair
abbrev pub IsShown : Proposal → Type 0
IsShown p = Shows p.schedule.trace.events p.schedule.events p.first p.second

-- each proposal's schedule is of the trace T
abbrev pub IsBoardOf : Recording → List Proposal → Type 0
IsBoardOf T B = All (λ (p : Proposal). p.schedule.trace ≡ T) B

-- each proposal's list is a correct reordering of the trace T
abbrev pub AreProposed : Recording → List Proposal → Type 0
AreProposed T B = All (λ (p : Proposal). IsCorrectReordering T.events p.schedule.events) B
