use Rattle.moves.proofs.CopyLemmas.{row_new, row_free, row_ends}
use Rattle.moves.proofs.listing.Listing.row_of_trace_at.Goals as goal

pub returns-clause-new : goal.returns-clause-new
returns-clause-new c = row_new c.args.indexed.now c.args.self.now c.args.at c.row_at-name.result.0 c.row_at-name.result.1.now c.len.ensures.listing c.requires.of_trace c.row_at-name.ensures

pub returns-clause-free : goal.returns-clause-free
returns-clause-free c = row_free c.args.indexed.now c.args.self.now c.args.at c.row_at-name.result.0 c.row_at-name.result.1.now c.len.ensures.listing c.requires.of_trace c.row_at-name.ensures

pub returns-clause-end : goal.returns-clause-end
returns-clause-end c = row_ends c.args.indexed.now c.args.self.now c.args.at c.row_at-name.result.0 c.row_at-name.result.1.now c.len.ensures.listing c.requires.of_trace c.row_at-name.ensures
