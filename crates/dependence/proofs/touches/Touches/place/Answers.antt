use Rattle.std.proofs.Common.{bytes_eq}
use Rattle.dependence.specs.Lists.{under}
use Rattle.dependence.proofs.NumberLemmas.{reached_again}
use Rattle.dependence.proofs.touches.Touches.place.Goals as goal

pub place_name-requires-2 : goal.place_name-requires-2
place_name-requires-2 c =
    let x = c.reads-read.result in
    reached_again (bytes_eq x c.writes-written.result) c.args.entry (under c.place_name.new.self x) (under c.args.self.now x) (c.requires x) (c.in_ok-place_name.ensures.ok x)
