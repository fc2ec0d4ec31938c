-- Which commands are taken back without memory, and by which steps. No public clause cites this module.
use Rattle.std.specs.Prelude.{Bool, true, false}
use Rattle.moves.specs.declared.command.Command.{Command}
use Rattle.moves.specs.declared.command.Command.TheVariants.{Fresh, Add, Back, Swap, Branch, Drop, Adopt}
use Rattle.moves.specs.declared.inverse.Inverse.{Inverse}
use Rattle.moves.specs.declared.inverse.Step.{Step}
use Rattle.moves.specs.declared.inverse.Step.TheVariants.{Goes, Comes, Was, Loses, Gains, Exchanges}

-- The command makes a row, appends an event, or exchanges two events: taking it back needs no memory.
abbrev pub builds : Command → Bool
builds (Fresh x) = true
builds (Add x e) = true
builds (Back x) = false
builds (Swap x i) = true
builds (Branch x k to) = true
builds (Drop x) = false
builds (Adopt x p) = false

-- the step adds no row and appends no event
abbrev pub spares_memory : Step → Bool
spares_memory Goes = true
spares_memory (Comes r) = false
spares_memory (Was s) = true
spares_memory Loses = true
spares_memory (Gains e) = false
spares_memory (Exchanges i) = true

abbrev pub is_spare : Inverse → Bool
is_spare i = spares_memory i.step
