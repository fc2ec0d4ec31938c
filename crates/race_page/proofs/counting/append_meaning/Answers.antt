use Rattle.std.proofs.Common.{◌++◌, codes}
use Rattle.race_page.proofs.PieceLemmas.{one_more}
use Rattle.race_page.proofs.counting.append_meaning.Goals as goal

pub returns : goal.returns
returns c =
    let old = c.args.out.now.items in
    let begin = codes "</td><td>" in
    let word = c.args.meaning.now in
    let first = c.extend_from_slice.new.self.items in
    let second = c.extend_from_slice-2.new.self.items in
    let begun = one_more old first second begin word c.in_ok-extend_from_slice.ensures.items c.in_ok-extend_from_slice-2.ensures.items in
    one_more old second c.extend_from_slice-3.new.self.items (begin ++ word) (codes "</td></tr>\n") begun c.in_ok-extend_from_slice-3.ensures.items
