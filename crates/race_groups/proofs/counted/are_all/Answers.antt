use Rattle.std.proofs.Common.{ℕ, length, slice_index, arith}
use Rattle.event_index.specs.Lookups.{count_before}
use Rattle.race_groups.specs.Counts.{keeps}
use Rattle.race_groups.specs.Cuts.{IsCut}
use Rattle.race_groups.specs.Ends.{known_before, counted_before}
use Rattle.race_groups.specs.Rows.{Part, of_all, of_candidates, of_ordered, of_guarded}
use Rattle.race_groups.proofs.PairLemmas.{group_is}
use Rattle.race_groups.proofs.TotalLemmas.{threads_nothing}
use Rattle.race_groups.proofs.TotalGroupLemmas.{total_all}
use Rattle.race_groups.proofs.TurnLemmas.{AreSummed-joined}
use Rattle.race_groups.proofs.counted.are_all.Goals as goal

pub returns : goal.returns
returns c =
    let b = c.args._basis in
    let r = b.indexed.now in
    let T = r.events in
    let formed = c.requires.basis.formed in
    let cuts = c.requires.basis.cuts in
    let numbers = b.classes.now.numbers.items in
    let infos = b.classes.now.infos.items in
    let lists = b.classes.now.lists.keys in
    let place = slice_index c.args._places.now in
    let summed = AreSummed-joined b c.requires.basis c.args._rows.now c.requires.joined in
    let none = λ (k : Part) (p q : ℕ). threads_nothing T (keeps lists k) numbers infos p q (length r.threads) in
    let counted = λ (k : Part) (end : ℕ → ℕ → ℕ) (cut : IsCut T end) (p q : ℕ). group_is r formed place (keeps lists k) numbers infos end c.requires.classes cut p q in
    record {
      are = c.requires.rows;
      ends = counted_before b.forced.now T;
      all = λ p q le. let twice = total_all r formed place numbers infos lists c.requires.classes p q in omega (arith, summed of_all p q le, twice);
      candidates = λ p q le.
          omega (arith, summed of_candidates p q le, none of_candidates p q, counted of_candidates (count_before T) cuts.earlier p q, counted of_candidates (known_before T) cuts.known p q);
      ordered = λ p q le.
          omega (arith, summed of_ordered p q le, none of_ordered p q, counted of_ordered (known_before T) cuts.known p q, counted of_ordered (counted_before b.forced.now T) cuts.forced p q);
      guarded = λ p q le.
          omega (arith, summed of_guarded p q le, none of_guarded p q, counted of_guarded (known_before T) cuts.known p q, counted of_guarded (counted_before b.forced.now T) cuts.forced p q);
      tells_known = c.requires.basis.known;
      tells_forced = c.requires.basis.must;
    }
