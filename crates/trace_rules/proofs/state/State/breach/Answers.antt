use Rattle.std.proofs.Common.{◌<◌, length, take, sym, ◌∙◌, subst}
use Rattle.rapid_text.specs.Recording.{IsNamedOp}
use Rattle.trace_rules.proofs.TableLemmas.{breach_at-running, life_at, hold_read}
use Rattle.trace_rules.proofs.state.State.breach.Goals as goal

pub returns-in-Release : goal.returns-in-Release
returns-in-Release c =
    let e = c.event-event.ensures in
    let within : c.in-Release.lock < length c.args.raw.now.locks = subst (IsNamedOp c.args.raw.now) c.in-Release.is e.named.1 in
    let is = hold_read c.args.raw.now c.args.at _ _ _ c.requires.tables.holds c.requires.tables.locks within c.index-in-Release.ensures in
    c.breach_of_release.ensures.breach _ _ is
    ∙ sym (breach_at-running c.args.raw.now _ _ c.requires.tables _ _ _ e.found e.named.0 c.index.ensures c.if-index.false c.in-Release.is)

pub returns-in-Fork : goal.returns-in-Fork
returns-in-Fork c =
    let e = c.event-event.ensures in
    let within : c.in-Fork.thread < length c.args.raw.now.threads = subst (IsNamedOp c.args.raw.now) c.in-Fork.is e.named.1 in
    c.breach_of_fork.ensures _ (life_at c.args.raw.now c.args.at _ c.requires.tables _ _ within c.index-in-Fork.ensures)
    ∙ sym (breach_at-running c.args.raw.now _ _ c.requires.tables _ _ _ e.found e.named.0 c.index.ensures c.if-index.false c.in-Fork.is)

pub returns-in-Join : goal.returns-in-Join
returns-in-Join c =
    let e = c.event-event.ensures in
    c.breach_of_join.ensures (take c.args.at c.args.raw.now.events) ∙ sym (breach_at-running c.args.raw.now _ _ c.requires.tables _ _ _ e.found e.named.0 c.index.ensures c.if-index.false c.in-Join.is)
