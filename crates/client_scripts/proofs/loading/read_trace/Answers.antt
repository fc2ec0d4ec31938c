use Rattle.std.proofs.Common.{refl}
use Rattle.client_scripts.specs.Replay.{of_trace}
use Rattle.client_scripts.proofs.CallerLemmas.{input-fault}
use Rattle.client_scripts.proofs.LoadingLemmas.{loads, unloads, loads-not_read, loads-not_script, loads-not_write}
use Rattle.client_scripts.proofs.loading.read_trace.Goals as goal

pub returns-in-Err-clause-unread : goal.returns-in-Err-clause-unread
returns-in-Err-clause-unread g c =
    input-fault of_trace (λ _. refl) (g.S.Source.rest c.args.reader.now) c.in-Err.fault c.in-Err.ensures.input

pub returns-in-Ok-clause-read : goal.returns-in-Ok-clause-read
returns-in-Ok-clause-read g c =
    let input = c.in-Ok.ensures.input in
    loads _ c.in-Ok.text.items c.in-Ok.text.items refl input.0 input.1 c.load_owned.result c.load_owned.ensures

pub returns-in-Ok-clause-unread : goal.returns-in-Ok-clause-unread
returns-in-Ok-clause-unread g c =
    let input = c.in-Ok.ensures.input in
    unloads _ c.in-Ok.text.items c.in-Ok.text.items refl input.0 input.1 c.load_owned.result c.load_owned.ensures

pub returns-in-Ok-clause-input : goal.returns-in-Ok-clause-input
returns-in-Ok-clause-input g c why = loads-not_read c.in-Ok.text.items c.load_owned.result c.load_owned.ensures 2 why

pub returns-in-Ok-clause-no_script : goal.returns-in-Ok-clause-no_script
returns-in-Ok-clause-no_script g c = loads-not_script c.in-Ok.text.items c.load_owned.result c.load_owned.ensures

pub returns-in-Ok-clause-unwritten : goal.returns-in-Ok-clause-unwritten
returns-in-Ok-clause-unwritten g c = loads-not_write c.in-Ok.text.items c.load_owned.result c.load_owned.ensures
