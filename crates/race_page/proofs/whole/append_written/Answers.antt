use Rattle.std.proofs.Common.{ℕ, List, ◌++◌, ap}
use Rattle.race_page.proofs.PieceLemmas.{alone}
use Rattle.race_page.proofs.whole.append_written.Goals as goal

pub returns-clause-ok : goal.returns-clause-ok
returns-clause-ok c =
    let begin = alone _ _ _ _ c.new-begin.ensures.items c.in_ok-append_begin.ensures c.as_slice.ensures.value in
    λ vs closed. (
      c.as_slice.result.now ++ c.bytes.result.now ++ c.args.end.now,
      c.in_ok-append_all.ensures.ok,
      record {
        file = c.file_of.result.now;
        named = c.file_of.ensures;
        parts = c.bytes.result.now;
        end = c.args.end.now;
        printed = ap (λ (xs : List ℕ). xs ++ c.bytes.result.now ++ c.args.end.now) begin;
        made = rw c.bytes.ensures.text c.bytes.ensures.parts;
        closed = closed;
      },
    )
