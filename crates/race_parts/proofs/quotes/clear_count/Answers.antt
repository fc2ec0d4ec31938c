use Rattle.rapid_text.proofs.Marked.{clear-below}
use Rattle.race_parts.proofs.quotes.clear_count.Goals as goal

pub returns : goal.returns
returns c k lt = clear-below c.args.bits k c.ranges.bits.fits lt
