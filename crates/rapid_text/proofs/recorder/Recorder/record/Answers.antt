use Rattle.std.proofs.Common.{◌≡◌, ◌≤◌, ◌<◌, length, sym, ap, subst, arith}
use Rattle.std.proofs.lemmas.List.{length-map}
use Rattle.rapid_text.specs.LineLayout.{named_in}
use Rattle.rapid_text.specs.Recorded.{recorded}
use Rattle.rapid_text.specs.Recording.{Recording}
use Rattle.rapid_text.specs.Growth.{names_of, with_names, IsTight}
use Rattle.rapid_text.specs.Limits.{event_limit, thread_limit}
use Rattle.rapid_text.proofs.Numbering.{items}
use Rattle.rapid_text.proofs.Growing.{with_names-steps, with_event-steps, IsTight-with_event}
use Rattle.rapid_text.proofs.recorder.Recorder.record.Goals as goal

pub returns-clause-ok : goal.returns-clause-ok
returns-clause-ok c =
    with_event-steps (recorded c.args.self.now) (named_in c.args.fields) (names_of c.number.new.self.names) c.in_ok-thread.thread c.in_ok-op.op
    (recorded c.number_operation.new.self) (recorded c.put_last.new.self)
    c.in_ok-thread.ensures.names c.in_ok-thread.ensures.number c.in_ok-op.ensures.names c.in_ok-op.ensures.number c.in_ok-put_last.ensures.ok

pub returns-clause-ready : goal.returns-clause-ready
returns-clause-ready c =
    let old = recorded c.args.self.now in
    let said = named_in c.args.fields in
    let named : Recording = recorded c.number_operation.new.self in
    let keys = c.number_operation.new.self.threads.names.keys in
    let whole : named ≡ with_names old said =
    with_names-steps old said (names_of c.number.new.self.names) named c.in_ok-thread.ensures.names c.in_ok-op.ensures.names in
    let room : length old.events < event_limit = omega (arith, c.if-len-ge-MAX_EVENTS.false, c.len.ensures, c.args.self.now.events.ok.0) in
    let few : length (with_names old said).threads ≤ thread_limit =
    omega (arith, c.if-len-gt-MAX_THREADS.false, c.len-2.ensures.len, length-map keys items, ap (λ (q : Recording). length q.threads) whole) in
    record {
      tight = subst IsTight (sym (returns-clause-ok c)) (IsTight-with_event old said c.requires.tight room few);
      parts = c.in_ok-put_last.ensures.parts;
    }
