-- The call that a script gives: made, borrowed, or not made yet.
use denote.Ref.{Bor}
use Rattle.inverse_log.specs.declared.call.Call.{Call}
use Rattle.script_language.specs.declared.script.ScriptCall.{ScriptCall}
use Rattle.script_language.specs.declared.script.ScriptCall.TheVariants.{Made, Lent}
use Rattle.script_language.specs.declared.plain.GivenCall.{GivenCall}
use Rattle.script_language.specs.declared.plain.GivenCall.TheVariants.{Plain, Lent as LentAsItIs}

-- the call
abbrev pub call_given : ScriptCall → Call
call_given (Made call) = call
call_given (Lent call) = call.now

-- the same for a call that may not be made yet
abbrev pub call_there : GivenCall → Call
call_there (Plain call) = call
call_there (LentAsItIs call) = call.now
