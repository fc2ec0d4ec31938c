use Rattle.std.proofs.Common.{◌≡◌, ◌≤◌, ◌∙◌, ◌++◌, ◌∷◌, inl, refl, false, Err, rules, arith, ap, sym, subst, ℕ, List, length, length-append}
use Rattle.std.proofs.lemmas.List.Elements.{All-append}
use Rattle.std.proofs.lemmas.Result.{on_ok_weaker, IfErr-weaker}
use Rattle.std.specs.Result.{IfErr}
use Rattle.client_scripts.specs.declared.fault.ReplayFault.TheVariants.{OutOfMemory as NoMemory}
use Rattle.kept_log.specs.Lines.{IsLine, is_line_feed}
use Rattle.kept_session.specs.Runs.{IsHalted}
use Rattle.kept_session.specs.declared.fault.SessionFault.TheVariants.{Replay}
use Rattle.kept_session.proofs.RunLemmas.{keep_fault, keep_other, unanswered, taken_line, taken_turn, halted_taken, halted-feed}
use Rattle.kept_session.proofs.SplitLemmas.{behind_feed}
use Rattle.kept_session.proofs.running.take_in.Goals as goal

pub returns-in_default-clause-taken_in : goal.returns-in_default-clause-taken_in
returns-in_default-clause-taken_in g c =
    let line : IsLine (c.args.pending.now.begun.items ++ c.args.bytes.now) = All-append (λ b. is_line_feed b ≡ false) c.args.pending.now.begun.items c.args.bytes.now c.requires.begun (c.in_default.ensures.none refl) in
    on_ok_weaker c.keep_begun.result (λ begun. taken_line _ _ _ _ _ _ _ _ (g.K.Sink.taken c.args.writer.now) line begun c.keep_begun.ensures.number) c.keep_begun.ensures.begun

pub returns-in_default-clause-halted : goal.returns-in_default-clause-halted
returns-in_default-clause-halted g c =
    let line : IsLine (c.args.pending.now.begun.items ++ c.args.bytes.now) = All-append (λ b. is_line_feed b ≡ false) c.args.pending.now.begun.items c.args.bytes.now c.requires.begun (c.in_default.ensures.none refl) in
    IfErr-weaker c.keep_begun.result _ _ (λ fault is. halted_taken _ _ _ _ _ _ _ _ _ _ _ _ fault (taken_line _ _ _ _ _ _ _ _ (g.K.Sink.taken c.args.writer.now) line refl c.keep_begun.ensures.number) c.requires.writer (keep_fault (c.args.pending.now.begun.items ++ c.args.bytes.now) _ fault (omega arith) is))
    c.keep_begun.ensures.fault

pub returns-in_err-extend_from_slice-clause-halted : goal.returns-in_err-extend_from_slice-clause-halted
returns-in_err-extend_from_slice-clause-halted g c =
    let same : c.from_residual.result ≡ Err (Replay NoMemory) = search rules in
    subst
    (λ r. IfErr r
    (IsHalted g.D.Device c.args.session.now.bench.trace c.args.client c.args.pending.now.number c.args.session.now.log c.args.session.now.log (c.args.pending.now.begun.items ++ c.args.bytes.now) (g.K.Sink.has_failed c.args.writer.now)
    (g.K.Sink.taken c.args.writer.now) (g.K.Sink.taken c.args.writer.now)))
    (sym same)
    (unanswered _ _ _ c.args.pending.now.number c.args.session.now.log c.args.session.now.log _ _ (g.K.Sink.taken c.args.writer.now) (Replay NoMemory) c.requires.writer (inl (inl refl)) (inl (inl (inl refl))) (λ _. inl (inl refl)) (λ is. absurd cc) (λ is. absurd cc) tt (λ why is. absurd cc))

pub returns-in_err-answer_begun-clause-halted : goal.returns-in_err-answer_begun-clause-halted
returns-in_err-answer_begun-clause-halted g c =
    let fault = c.in_err-answer_begun.field-0.0 in
    let one = c.in_err-answer_begun.ensures in
    let all : c.args.pending.now.begun.items ++ c.args.bytes.now ≡ c.extend_from_slice.new.self.items ++ 10 ∷ c.in-Some.rest.now =
    behind_feed c.args.pending.now.begun.items _ c.in-Some.lines.now c.in-Some.rest.now _ c.in-Some.ensures.some.0 c.in_ok-extend_from_slice.ensures.items in
    let same : c.from_residual-in_err-answer_begun.result ≡ Err fault = search rules in
    subst
    (λ r. IfErr r
    (IsHalted g.D.Device c.args.session.now.bench.trace c.args.client c.args.pending.now.number c.args.session.now.log c.answer_begun.new.session.log (c.args.pending.now.begun.items ++ c.args.bytes.now)
    (g.K.Sink.has_failed c.answer_begun.new.writer) (g.K.Sink.taken c.args.writer.now) (g.K.Sink.taken c.answer_begun.new.writer)))
    (sym same)
    (halted-feed _ _ _ _ _ _ c.extend_from_slice.new.self.items c.in-Some.rest.now _ _ _ _ fault one.halted all one.lines_read)

pub returns-clause-taken_in : goal.returns-clause-taken_in
returns-clause-taken_in g c =
    let one = c.in_ok-answer_begun.ensures in
    let all : c.args.pending.now.begun.items ++ c.args.bytes.now ≡ c.extend_from_slice.new.self.items ++ 10 ∷ c.in-Some.rest.now =
    behind_feed c.args.pending.now.begun.items _ c.in-Some.lines.now c.in-Some.rest.now _ c.in-Some.ensures.some.0 c.in_ok-extend_from_slice.ensures.items in
    on_ok_weaker c.keep_begun-2.result
    (λ begun. taken_turn _ _ _ _ _ _ _ c.extend_from_slice.new.self.items c.in-Some.rest.now _ _ _ _ one.answered all c.in-Some.ensures.some.1 (begun ∙ ap (λ (b : List ℕ). b ++ c.in-Some.rest.now) one.begun) (c.keep_begun-2.ensures.number ∙ one.next))
    c.keep_begun-2.ensures.begun

pub returns-clause-halted : goal.returns-clause-halted
returns-clause-halted g c =
    let one = c.in_ok-answer_begun.ensures in
    let all : c.args.pending.now.begun.items ++ c.args.bytes.now ≡ c.extend_from_slice.new.self.items ++ 10 ∷ c.in-Some.rest.now =
    behind_feed c.args.pending.now.begun.items _ c.in-Some.lines.now c.in-Some.rest.now _ c.in-Some.ensures.some.0 c.in_ok-extend_from_slice.ensures.items in
    let fewer : length (c.answer_begun.new.pending.begun.items ++ c.in-Some.rest.now) ≤ length (c.args.pending.now.begun.items ++ c.args.bytes.now) =
    omega (arith, ap length one.begun, ap length all, length-append c.answer_begun.new.pending.begun.items c.in-Some.rest.now, length-append c.extend_from_slice.new.self.items (10 ∷ c.in-Some.rest.now)) in
    IfErr-weaker c.keep_begun-2.result _ _
    (λ fault is. halted_taken _ _ _ _ _ _ _ _ _ _ _ _ fault (taken_turn _ _ _ _ _ _ _ c.extend_from_slice.new.self.items c.in-Some.rest.now _ c.in-Some.rest.now _ _ one.answered all c.in-Some.ensures.some.1 refl one.next) one.working (keep_fault (c.answer_begun.new.pending.begun.items ++ c.in-Some.rest.now) _ fault fewer is))
    c.keep_begun-2.ensures.fault

pub returns-in_default-clause-reader : goal.returns-in_default-clause-reader
returns-in_default-clause-reader g c = IfErr-weaker c.keep_begun.result _ _ (keep_other (c.args.pending.now.begun.items ++ c.args.bytes.now)) c.keep_begun.ensures.fault

pub returns-clause-reader : goal.returns-clause-reader
returns-clause-reader g c = IfErr-weaker c.keep_begun-2.result _ _ (keep_other (c.answer_begun.new.pending.begun.items ++ c.in-Some.rest.now)) c.keep_begun-2.ensures.fault
