use Rattle.std.proofs.Common.{refl}
use Rattle.std.proofs.lemmas.Result.{on_ok_weaker}
use Rattle.explain_report.proofs.PieceLemmas.{four_pieces}
use Rattle.explain_report.proofs.apart.append_guarded.Goals as goal

pub returns : goal.returns
returns c =
    let one = c.in_ok-append_section.ensures in
    on_ok_weaker c.append_section-2.result
    (λ two. (
      _,
      four_pieces c.args.out.now.items _ _ _ _ _ (simp c.indexed.ensures at c.in_ok-append_guarded_head.ensures) c.in_ok-append_pair.ensures _ _ _ one.1 two.1,
      (one.0, two.0, one.2, two.2, refl),
    ))
    c.append_section-2.ensures
