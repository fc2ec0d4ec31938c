use Rattle.std.proofs.Common.{◌≡◌, ◌≢◌, ℕ, ◌+◌, ◌<◌, ◌≤◌, length, slice_index}
use Rattle.event_index.specs.Lookups.{events_of}
use Rattle.race_groups.specs.Counting.{weigh, weight}
use Rattle.race_groups.proofs.weighing.weigh_all.Given as goal

abbrev pub invariant-loop-thread : goal.invariant-loop-thread
invariant-loop-thread g l =
    record {
      fronts_len : length l.fronts ≡ length l.classed.indexed.now.threads;
      own : slice_index l.fronts l.later.thread ≡ 0;
      done : (t : ℕ) → t < l.thread → t ≢ l.later.thread → slice_index l.fronts t ≡ g.C.Cut.end_of l.cut l.later.event t;
      behind : (t : ℕ) → t < length l.classed.indexed.now.threads → t ≢ l.later.thread → slice_index l.fronts t ≤ g.C.Cut.end_of l.cut l.later.event t;
      inside : (t : ℕ) → t < length l.classed.indexed.now.threads → slice_index l.fronts t ≤ length (events_of l.classed.indexed.now.events t);
      moved :
          (c : ℕ) → c < length l.sums → slice_index l.sums c + weight l.classed.indexed.now.events (length l.classed.indexed.now.threads) l.fn.fronts (weigh l.classed.numbers.now l.left c)
          ≡ slice_index l.fn.sums c + weight l.classed.indexed.now.events (length l.classed.indexed.now.threads) l.fronts (weigh l.classed.numbers.now l.left c);
    }
