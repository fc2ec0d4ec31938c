-- A call that owns no memory, before it is made. No public clause cites this module.
use Rattle.std.specs.Prelude.{◌≢◌, ◌+◌, ◌≤◌, length}
use Rattle.inverse_log.specs.declared.call.Call.{Call}
use Rattle.inverse_log.specs.declared.call.Call.TheVariants.{Undo}
use Rattle.script_language.specs.Kept.{name_in, to_in, call_in, HasNames}
use Rattle.script_language.specs.declared.kept.Form.TheVariants.{Owned}
use Rattle.script_language.specs.declared.plain.PlainCall.TheInside.{Inside}

-- the call
abbrev pub plain_call : Inside → Call
plain_call p = call_in p.kept.now.form (name_in p.names.now p.kept.now) (to_in p.names.now p.kept.now) p.kept.now.number Undo

-- The kept names are within the bytes of all names, and are the names of the form.
pub record IsPlain (p : Inside) : Type 0 where
  pub form : p.kept.now.form ≢ Owned
  pub within : p.kept.now.at + p.kept.now.name + p.kept.now.to ≤ length p.names.now
  pub named : HasNames p.kept.now.form (name_in p.names.now p.kept.now) (to_in p.names.now p.kept.now)
