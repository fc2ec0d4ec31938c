-- What a batch of commands requires before it is run. No public clause cites this module.
use Rattle.std.specs.Prelude.{◌<◌, ℕ, List, length}
use Rattle.rapid_text.specs.Recording.{Recording}
use Rattle.moves.specs.declared.board.Proposal.{Proposal}
use Rattle.moves.specs.declared.command.Command.{Command}
use Rattle.moves.specs.Ages.{age}
use Rattle.moves.specs.Boards.{IsBoardOf}
use Rattle.moves.specs.Rows.{Rows, IsListing, IsOfTrace, Below}

-- the commands of this entry may be run on the rows W
pub record MayRun (T : Recording) (B : List Proposal) (entry : ℕ) (D : List Command) (W : Rows) : Type 0 where
  pub listing : IsListing W
  pub of_trace : IsOfTrace T W
  pub board : IsBoardOf T B
  pub late : Below (age entry 0) W
  pub few : length D < 4294967296
