use Rattle.moves.proofs.listing.Listing.copied.Goals as goal

pub put_copy-requires-clause-free : goal.put_copy-requires-clause-free
put_copy-requires-clause-free c = rw c.loop-at.invariant c.row_of_trace_at-name.ensures.free
