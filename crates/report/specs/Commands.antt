-- The text of a command and of a batch: the script line for it, without the client.
use Rattle.std.specs.Prelude.{ℕ, List, [], ◌∷◌, ◌++◌, flat_map, codes, decimal}
use Rattle.moves.specs.declared.command.Command.{Command}
use Rattle.moves.specs.declared.command.Command.TheVariants.{Fresh, Add, Back, Swap, Branch, Drop, Adopt}

abbrev pub command_words : Command → List ℕ
command_words (Fresh name) = codes "new " ++ name
command_words (Add name event) = codes "add " ++ name ++ codes " " ++ decimal event
command_words (Back name) = codes "back " ++ name
command_words (Swap name at) = codes "swap " ++ name ++ codes " " ++ decimal at
command_words (Branch name length to) = codes "branch " ++ name ++ codes " " ++ decimal length ++ codes " " ++ to
command_words (Drop name) = codes "drop " ++ name
command_words (Adopt name proposal) = codes "adopt " ++ name ++ codes " " ++ decimal proposal

-- each command after ` ; `
abbrev pub separated : List Command → List ℕ
separated commands = flat_map (λ command. codes " ; " ++ command_words command) commands

-- the commands, with ` ; ` between two
abbrev pub commands_words : List Command → List ℕ
commands_words [] = []
commands_words (command ∷ commands) = command_words command ++ separated commands
