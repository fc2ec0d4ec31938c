use Rattle.std.proofs.Common.{◌≡◌, ◌∙◌, [], refl, Err, rules, sym, subst, ℕ, List, take, false, arith}
use Rattle.std.proofs.lemmas.Bool.Decides.{nat_tests}
use Rattle.std.proofs.lemmas.List.{nil_from_length, length-take-le}
use Rattle.std.proofs.lemmas.List.Elements.{All-nil}
use Rattle.kept_log.specs.Lines.{IsLine, is_line_feed}
use Rattle.std.proofs.lemmas.Result.{on_ok_weaker, IfErr-weaker}
use Rattle.std.specs.Result.{IfErr}
use Rattle.std.specs.Io.KnownBytes.{Consumes}
use Rattle.client_scripts.specs.declared.fault.ReadCause.TheVariants.{TooLong, Device as DeviceFailed}
use Rattle.kept_session.specs.Runs.{IsHalted}
use Rattle.kept_session.proofs.RunLemmas.{Keeps-same, underway-start, underway-more, underway-fault, underway-last_fault, underway-out, underway-end, underway-unread}
use Rattle.kept_session.proofs.running.run_pieces.Goals as goal

pub returns-in-Err-clause-halted : goal.returns-in-Err-clause-halted
returns-in-Err-clause-halted g c =
    let inv = c.reads.invariant in
    underway-unread _ _ _ _ _ _ c.reads.session.log _ _ (g.S.Source.rest c.reads.reader) _ _ _ inv.underway _ DeviceFailed c.unread.result c.in-Err.ensures.bytes inv.working c.unread.ensures (λ _. tt)

pub returns-then-is_empty-clause-answered : goal.returns-then-is_empty-clause-answered
returns-then-is_empty-clause-answered g c =
    let inv = c.reads.invariant in
    underway-end _ _ _ _ _ _ c.reads.session.log c.reads.pending.begun.items _ (g.S.Source.rest c.reads.reader) _ _ _ inv.underway
    (subst (λ n. Consumes (g.S.Source.rest c.reads.reader) (g.S.Source.rest c.read.new.self) (take n c.read.new.buf)) c.if-count-eq0.true c.in-Ok.ensures.bytes.0)
    (nil_from_length c.reads.pending.begun.items (grind (arith, nat_tests)))

pub returns-then-count-eq0-clause-answered : goal.returns-then-count-eq0-clause-answered
returns-then-count-eq0-clause-answered g c =
    let inv = c.reads.invariant in
    let none : Consumes (g.S.Source.rest c.reads.reader) (g.S.Source.rest c.read.new.self) [] =
    subst (λ n. Consumes (g.S.Source.rest c.reads.reader) (g.S.Source.rest c.read.new.self) (take n c.read.new.buf)) c.if-count-eq0.true c.in-Ok.ensures.bytes.0 in
    on_ok_weaker c.answer_begun.result (λ answered. underway-out _ _ _ _ _ _ c.reads.session.log _ _ _ (g.S.Source.rest c.reads.reader) _ _ _ _ inv.underway c.reads.session.bench.trace inv.trace none inv.begun answered) c.answer_begun.ensures.answered

pub returns-then-count-eq0-clause-halted : goal.returns-then-count-eq0-clause-halted
returns-then-count-eq0-clause-halted g c =
    let inv = c.reads.invariant in
    let none : Consumes (g.S.Source.rest c.reads.reader) (g.S.Source.rest c.read.new.self) [] =
    subst (λ n. Consumes (g.S.Source.rest c.reads.reader) (g.S.Source.rest c.read.new.self) (take n c.read.new.buf)) c.if-count-eq0.true c.in-Ok.ensures.bytes.0 in
    IfErr-weaker c.answer_begun.result _ _ (λ fault halted. underway-last_fault _ _ _ _ _ _ c.reads.session.log _ _ _ (g.S.Source.rest c.reads.reader) _ _ _ _ inv.underway c.reads.session.bench.trace _ fault inv.trace none halted) c.answer_begun.ensures.halted

pub returns-in_err-take_in-clause-halted : goal.returns-in_err-take_in-clause-halted
returns-in_err-take_in-clause-halted g c =
    let inv = c.reads.invariant in
    let fault = c.in_err-take_in.field-0.0 in
    let same : c.from_residual.result ≡ Err fault = search rules in
    subst
    (λ r. IfErr r
    (λ f. (bytes : List ℕ) × Consumes (g.S.Source.rest c.args.reader.now) (g.S.Source.rest c.read.new.self) bytes
    × IsHalted g.D.Device c.args.session.now.bench.trace c.args.client 1 c.args.session.now.log c.take_in.new.session.log bytes (g.K.Sink.has_failed c.take_in.new.writer) (g.K.Sink.taken c.args.writer.now) (g.K.Sink.taken c.take_in.new.writer) f))
    (sym same)
    (underway-fault _ _ _ _ _ _ c.reads.session.log _ _ _ (g.S.Source.rest c.reads.reader) _ _ _ _ inv.underway c.reads.session.bench.trace _ _ fault inv.trace c.in-Ok.ensures.bytes.0 c.in_err-take_in.ensures.halted)

pub reads-preserved : goal.reads-preserved
reads-preserved g c =
    let inv = c.reads.invariant in
    let one = c.in_ok-take_in.ensures in
    record {
      in_step = one.in_step;
      trace = one.trace ∙ inv.trace;
      read = grind arith;
      working = one.working;
      room = search (rules, arith);
      begun = one.begun;
      underway = underway-more _ _ _ _ _ _ c.reads.session.log _ _ _ (g.S.Source.rest c.reads.reader) _ _ _ _ inv.underway c.reads.session.bench.trace _ _ _ inv.trace c.in-Ok.ensures.bytes.0 (omega (arith, length-take-le c.in-Ok.count c.read.new.buf c.in-Ok.ensures.bound, c.if-count-eq0.false)) one.taken_in;
    }

pub returns-clause-halted : goal.returns-clause-halted
returns-clause-halted g c =
    let inv = c.reads.invariant in
    underway-unread _ _ _ _ _ _ c.reads.session.log _ _ (g.S.Source.rest c.reads.reader) _ _ _ inv.underway _ TooLong c.unread-2.result (Keeps-same (g.S.Source.rest c.reads.reader)) inv.working c.unread-2.ensures (λ some. omega (arith, some, c.reads-test.false))

pub reads-init : goal.reads-init
reads-init g c = record {
  in_step = c.requires.in_step;
  trace = refl;
  read = refl;
  working = c.requires.writer;
  room = c.requires.room;
  begun = subst IsLine (sym c.new.ensures.items) (All-nil (λ b. is_line_feed b ≡ false));
  underway = underway-start _ _ _ c.args.session.now.log c.new.result.items (g.S.Source.rest c.args.reader.now) (g.K.Sink.taken c.args.writer.now) c.new.ensures.items;
}
