use Rattle.std.proofs.Common.{◌≡◌, ◌∙◌, ◌++◌, ℕ, List, [], Bool, cond, length, sym, ap, take, arith}
use Rattle.std.proofs.lemmas.List.{take_all}
use Rattle.window.specs.HeadText.{noted_lines}
use Rattle.window.specs.Heads.{level_names}
use Rattle.window.specs.Streams.{is_named}
use Rattle.window.proofs.HeadLemmas.{noted_more}
use Rattle.window.proofs.heads.is_any_noted.Goals as goal

pub loop-thread-preserved : goal.loop-thread-preserved
loop-thread-preserved c = λ line.
    let noted = level_names c.args.noted.now in
    let name = c.thread_name.result.now in
    sym (noted_more line noted c.args.raw.now.threads c.loop-thread.thread name c.thread_name.ensures)
    ∙ ap (λ (y : List ℕ). y ++ cond (is_named noted name) (line name) []) (c.loop-thread.invariant line)
    ∙ ap (λ (b : Bool). cond b (line name) []) (sym c.is_noted.ensures ∙ c.if-is_noted.false)

pub returns : goal.returns
returns c = record {
  none = λ same line.
      let names = c.args.raw.now.threads in
      let end : c.loop-thread.thread ≡ length names = omega (arith, c.loop-thread-test.false, c.loop-thread.auto.thread-end, c.threads-thread-end.ensures.len) in
      let whole : take c.loop-thread.thread names ≡ names = ap (λ (n : ℕ). take n names) end ∙ take_all (length names) names (omega arith) in
      ap (noted_lines line (level_names c.args.noted.now)) (sym whole) ∙ c.loop-thread.invariant line;
}
