use Rattle.std.proofs.Common.{◌≡◌, ◌≢◌, ℕ, ◌<◌, ◌++◌, Bool, List, [], nat_lt, cond, codes, sym, subst, arith}
use Rattle.std.proofs.lemmas.Bool.{lt-ltb}
use Rattle.explain_report.specs.Verdicts.{count_text}
use Rattle.explain_report.proofs.PieceLemmas.{three_pieces}
use Rattle.explain_report.proofs.contradicted.append_left_out.Goals as goal

pub returns : goal.returns
returns c =
    let n = c.args.count in
    let some : n ≢ 0 = c.if-count-eq0.false in
    let words : List ℕ = codes "the first " ++ count_text n (codes "step") ++ codes " are left out\n" in
    subst (λ (b : Bool). c.append_words-2.new.out.items ≡ c.args.out.now.items ++ cond b words []) (sym (lt-ltb 0 n (omega (arith, some))))
    (three_pieces c.args.out.now.items _ _ _ _ _ c.in_ok-append_words.ensures c.in_ok-append_count.ensures _ c.in_ok-append_words-2.ensures)
