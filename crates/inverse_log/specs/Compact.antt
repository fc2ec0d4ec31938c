-- Which command the log keeps in few bytes. No public clause cites this module.
use Rattle.std.specs.Prelude.{ℕ, List}
use Rattle.moves.specs.declared.command.Command.{Command}
use Rattle.moves.specs.declared.command.Command.TheVariants.{Fresh, Add, Back, Swap, Branch, Drop, Adopt}
use Rattle.inverse_log.specs.declared.compact.Kind.{Kind}
use Rattle.inverse_log.specs.declared.compact.Kind.TheVariants as kind
use Rattle.inverse_log.specs.declared.compact.Form.{Form}
use Rattle.inverse_log.specs.declared.compact.Form.TheVariants as form

-- the command of this kind, with its name and its number
abbrev pub command_of : Kind → List ℕ → ℕ → Command
command_of kind.Fresh x n = Fresh x
command_of kind.Add x n = Add x n
command_of kind.Back x n = Back x
command_of kind.Swap x n = Swap x n
command_of kind.Drop x n = Drop x
command_of kind.Adopt x n = Adopt x n

-- the command in this form
abbrev pub command_in : Form → Command
command_in (form.Short k n x) = command_of k x n
command_in (form.Branch n x to) = Branch x n to
command_in (form.Apart box) = box.value
