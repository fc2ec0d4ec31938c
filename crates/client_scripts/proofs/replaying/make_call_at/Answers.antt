use Rattle.std.proofs.Common.{Some, ap, ◌∙◌}
use Rattle.script_language.specs.ScriptCalls.{call_there}
use Rattle.script_language.proofs.CallerLemmas.{asked-both}
use Rattle.client_scripts.proofs.RunLemmas.{makes-call}
use Rattle.client_scripts.proofs.replaying.make_call_at.Goals as goal

pub returns-in-Plain-clause-made : goal.returns-in-Plain-clause-made
returns-in-Plain-clause-made c =
    let client = c.client-client.result in
    let call = c.in-Plain.call in
    let made = c.make_plain.ensures in
    makes-call _ _ c.args.at _ c.make_plain.result _ _ _ (client, call)
    (asked-both _ (client, call) c.client-client.ensures.client (c.given.ensures ∙ ap (λ g. Some (call_there g)) c.in-Plain.is)) made.text made.accepted made.log

pub returns-in-Lent-clause-made : goal.returns-in-Lent-clause-made
returns-in-Lent-clause-made c =
    let client = c.client-client.result in
    let call = c.in-Lent.call.now in
    let made = c.tell_answer.ensures in
    makes-call _ _ c.args.at _ c.tell_answer.result _ _ _ (client, call)
    (asked-both _ (client, call) c.client-client.ensures.client (c.given.ensures ∙ ap (λ g. Some (call_there g)) c.in-Lent.is)) made.text made.accepted made.log
