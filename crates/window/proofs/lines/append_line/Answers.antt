-- The pieces that were appended are the line.
use Rattle.std.proofs.Common.{ℕ, List, [], ◌++◌, codes, ap, sym, ◌∙◌}
use Rattle.std.proofs.lemmas.Option.{get_or_from_slice_get}
use Rattle.rapid_text.specs.Canonical.{op_text}
use Rattle.window.specs.Cuts.{with_name}
use Rattle.rapid_text.proofs.Appended.{appended-line}
use Rattle.window.proofs.lines.append_line.Goals as goal

pub returns : goal.returns
returns c =
    let r = with_name c.args.trace.now c.args.own.now in
    let event = c.args.event in
    appended-line c.args.text.now.items _ _ _ _ _ _ c.thread_name.result.now (op_text r event.op) c.args.location.now c.in_ok-extend_from_slice.ensures.items c.in_ok-push.ensures.items c.in_ok-append_operation.ensures c.in_ok-push-2.ensures.items c.in_ok-extend_from_slice-2.ensures.items c.in_ok-push-3.ensures.items
    ∙ ap (λ (thread : List ℕ). c.args.text.now.items ++ (thread ++ codes "|" ++ op_text r event.op ++ codes "|" ++ c.args.location.now ++ codes "\n")) (sym (get_or_from_slice_get r.threads event.thread c.thread_name.result.now [] c.thread_name.ensures))
