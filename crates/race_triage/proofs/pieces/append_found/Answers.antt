use Rattle.std.proofs.Common.{◌++◌, List, ℕ, [], codes, sym, ap, ◌∙◌}
use Rattle.std.proofs.lemmas.Option.{get_or_from_slice_get}
use Rattle.rapid_text.specs.Canonical.{op_text}
use Rattle.race_triage.proofs.PieceLemmas.{five_pieces}
use Rattle.race_triage.proofs.pieces.append_found.Goals as goal

pub returns : goal.returns
returns c =
    let r = c.args.trace.now in
    let event = c.args.event in
    five_pieces c.args.out.now.items _ _ c.thread_name.result.now _ (op_text r event.op) c.in_ok-append_words.ensures c.in_ok-append_words-2.ensures _ _ _ _ c.args.location.now
    c.in_ok-append_operation.ensures c.in_ok-append_words-3.ensures c.in_ok-append_words-4.ensures
    ∙ ap (λ (thread : List ℕ). c.args.out.now.items ++ (thread ++ codes "|" ++ op_text r event.op ++ codes "|" ++ c.args.location.now))
    (sym (get_or_from_slice_get r.threads event.thread c.thread_name.result.now [] c.thread_name.ensures))
