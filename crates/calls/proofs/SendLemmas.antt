-- A script may go to another thread, with the calls that it keeps.
use denote.Param.Send.{IsSend, sendable}
use Rattle.std.proofs.Crossing.{crosses}
use Rattle.inverse_log.proofs.call.Call.TheSendSync as CallSend
use Rattle.script_language.specs.contracts.script.Script as Script
use Rattle.script_language.proofs.script.Script.TheSendSync as ScriptSend

pub script_send : IsSend Script.the_row
script_send = search (ScriptSend.the_send, CallSend.the_send, sendable, crosses) depth 20
