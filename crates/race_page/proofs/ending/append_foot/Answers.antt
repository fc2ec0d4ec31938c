use Rattle.race_page.proofs.ending.append_foot.Goals as goal

pub returns : goal.returns
returns c = (c.bytes.result.now, rw c.bytes.ensures.text c.bytes.ensures.piece, c.in_ok-extend_from_slice.ensures.items)
