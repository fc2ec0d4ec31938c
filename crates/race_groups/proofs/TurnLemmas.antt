-- What is counted in turns: the workers together count all, and none of them more.
use Rattle.std.proofs.Common.{◌≡◌, ℕ, ◌+◌, ◌<◌, ◌≤◌, ◌%◌, ◌==◌, Bool, true, false, cond, length, sum_by, Result, Ok, subst, ◌∙◌, arith}
use Rattle.std.proofs.Math.Nat.{mod-lt}
use Rattle.std.proofs.lemmas.List.Sums.{sum_by-le-sum_by}
use Rattle.event_index.specs.Lookups.{before}
use Rattle.indexmap.specs.IndexMap.{IndexMap}
use Rattle.race_groups.specs.Basis.{AreFewAll, AreInTurn, AreJoined, AreSummed, IsBasis, IsPart, thread_of, threads_in, threads_of, total_of, totals_in, totals_of}
use Rattle.race_groups.specs.Classes.{AreClasses}
use Rattle.race_groups.specs.Counts.{keeps}
use Rattle.race_groups.specs.Ends.{lower_of, upper_of}
use Rattle.race_groups.specs.Found.{AreTooMany}
use Rattle.race_groups.specs.Rows.{Part, count_at, AreMore}
use Rattle.race_groups.specs.Turns.{in_turn, turns_of}
use Rattle.race_groups.specs.declared.basis.Basis.{Basis}
use Rattle.race_groups.specs.declared.class.Class.{Class}
use Rattle.race_groups.specs.declared.rows.RowsRefusal.{RowsRefusal}
use Rattle.race_groups.specs.declared.rows.Sums.{Sums}
use Rattle.race_groups.proofs.CompleteLemmas.{AreTooMany-from}
use Rattle.race_groups.proofs.PairLemmas.{sum_by_below-le}
use Rattle.race_groups.proofs.SumLemmas.{sum_by_below_more, sum_by_each, sum_by_key, sum_by_turned}
use Rattle.race_groups.proofs.TotalGroupLemmas.{total_le, upper_le}
use Rattle.race_groups.proofs.TwoClassLemmas.{both_turned, totals_all}

-- all turns together
pub turns_all : (every : ℕ) (f : ℕ → ℕ) (n : ℕ) → 0 < every → sum_by (λ w. turns_of every w f n) (before every) ≡ sum_by f (before n)
turns_all every f n some =
    sum_by_turned (λ w t. in_turn every w f t) (before every) (before n)
    ∙ sum_by_each (λ t. sum_by (λ w. in_turn every w f t) (before every)) f (before n) (λ t. sum_by_key (t % every) (f t) every (mod-lt t some))

one_le : (b : Bool) (n : ℕ) → cond b n 0 ≤ n
one_le true n = omega arith
one_le false n = omega arith

-- one of them
pub turns_le : (every from : ℕ) (f : ℕ → ℕ) (n : ℕ) → turns_of every from f n ≤ sum_by f (before n)
turns_le every from f n = sum_by-le-sum_by (in_turn every from f) f (before n) (λ t. one_le (t % every == from) (f t))

module _ (b : Basis) (is : IsBasis b) (k : Part) (p q : ℕ) where
  all_totals : sum_by (total_of b k p q) (before (length b.classes.now.infos.items)) ≡ totals_of b k p q
  all_totals =
      let r = b.indexed.now in
      let lists = b.classes.now.lists.keys in
      let numbers = b.classes.now.numbers.items in
      let infos = b.classes.now.infos.items in
      totals_all r is.formed numbers infos is.numbers is.classes (keeps lists k) p q k (both_turned r numbers infos lists p q k)

  -- no worker counts more than all
  pub totals_in-le : (from : ℕ) → totals_in b from k p q ≤ totals_of b k p q
  totals_in-le from = omega (arith, turns_le b.every from (total_of b k p q) (length b.classes.now.infos.items), all_totals)

  -- the first of its classes, and one more
  pub total_turns : (from j : ℕ) → j < length b.classes.now.infos.items
      → turns_of b.every from (total_of b k p q) j + in_turn b.every from (total_of b k p q) j ≤ totals_of b k p q
  total_turns from j low =
      omega (arith, sum_by_below-le (in_turn b.every from (total_of b k p q)) j (length b.classes.now.infos.items) low, totals_in-le from)

  pub totals_joined : sum_by (λ w. totals_in b w k p q) (before b.every) ≡ totals_of b k p q
  totals_joined = turns_all b.every (total_of b k p q) (length b.classes.now.infos.items) is.turns ∙ all_totals

  pub threads_joined : (keep : Class → Class → Bool) (end : ℕ → ℕ → ℕ) → sum_by (λ w. threads_in b w (length b.indexed.now.threads) keep end p q) (before b.every)
      ≡ threads_of b (length b.indexed.now.threads) keep end p q
  threads_joined keep end = turns_all b.every (λ t. thread_of b t keep end p q) (length b.indexed.now.threads) is.turns

module _ {S : Type 0} (b : Basis) (is : IsBasis b) where
  -- what all workers counted
  pub AreSummed-joined : (m : IndexMap (ℕ × ℕ) Sums S) → AreJoined b b.every m → AreSummed b (length b.indexed.now.threads) m
  AreSummed-joined m joined = λ k p q le.
      let keep = keeps b.classes.now.lists.keys k in
      let lower = lower_of b.indexed.now.events b.forced.now k in
      let upper = upper_of b.indexed.now.events k in
      omega (arith, joined k p q le, totals_joined b is k p q, threads_joined b is k p q keep lower, threads_joined b is k p q keep upper)

  -- what the first of one has counted
  pub AreJoined-first : (m : IndexMap (ℕ × ℕ) Sums S) → AreInTurn b 0 (length b.indexed.now.threads) m → AreJoined b 1 m
  AreJoined-first m first = λ k p q le.
      let keep = keeps b.classes.now.lists.keys k in
      let lower : ℕ → ℕ = λ w. threads_in b w (length b.indexed.now.threads) keep (lower_of b.indexed.now.events b.forced.now k) p q in
      let upper : ℕ → ℕ = λ w. threads_in b w (length b.indexed.now.threads) keep (upper_of b.indexed.now.events k) p q in
      let total : ℕ → ℕ = λ w. totals_in b w k p q in
      omega (arith, first k p q le, sum_by_below_more lower 0, sum_by_below_more upper 0, sum_by_below_more total 0)

  module _ (old part new : IndexMap (ℕ × ℕ) Sums S) (n : ℕ) (joined : AreJoined b n old) (one : AreInTurn b n (length b.indexed.now.threads) part) where
    -- one worker more
    pub AreJoined-more : ((k : Part) (p q : ℕ) → p ≤ q → count_at k new p q ≡ count_at k old p q + count_at k part p q) → AreJoined b (n + 1) new
    AreJoined-more added = λ k p q le.
        let keep = keeps b.classes.now.lists.keys k in
        let lower : ℕ → ℕ = λ w. threads_in b w (length b.indexed.now.threads) keep (lower_of b.indexed.now.events b.forced.now k) p q in
        let upper : ℕ → ℕ = λ w. threads_in b w (length b.indexed.now.threads) keep (upper_of b.indexed.now.events k) p q in
        let total : ℕ → ℕ = λ w. totals_in b w k p q in
        omega (arith, joined k p q le, one k p q le, added k p q le, sum_by_below_more lower n, sum_by_below_more upper n, sum_by_below_more total n)

  -- it counts no more than there is
  pub joined_few : (old part : IndexMap (ℕ × ℕ) Sums S) (n : ℕ) → n < b.every → AreJoined b n old → AreInTurn b n (length b.indexed.now.threads) part
      → (k : Part) (p q : ℕ) → p ≤ q
      → count_at k old p q + count_at k part p q
      ≤ totals_of b k p q + threads_of b (length b.indexed.now.threads) (keeps b.classes.now.lists.keys k) (upper_of b.indexed.now.events k) p q
  joined_few old part n low joined one k p q le =
      let keep = keeps b.classes.now.lists.keys k in
      let upper : ℕ → ℕ = λ w. threads_in b w (length b.indexed.now.threads) keep (upper_of b.indexed.now.events k) p q in
      let total : ℕ → ℕ = λ w. totals_in b w k p q in
      omega (arith, joined k p q le, one k p q le, sum_by_below-le upper n b.every low, sum_by_below-le total n b.every low, totals_joined b is k p q, threads_joined b is k p q keep (upper_of b.indexed.now.events k))

-- more rows than so many, of which none counts more than there is
pub AreTooMany-few : {S : Type 0} (b : Basis) → IsBasis b → (place : ℕ → ℕ) → AreClasses b.indexed.now.events place b.classes.now.numbers.items b.classes.now.infos.items
    → (limit : ℕ) (m : IndexMap (ℕ × ℕ) Sums S) → AreMore limit m → AreFewAll b m → AreTooMany b.indexed.now.events place limit
AreTooMany-few b is place classes limit m more few =
    let r = b.indexed.now in
    let numbers = b.classes.now.numbers.items in
    let infos = b.classes.now.infos.items in
    let lists = b.classes.now.lists.keys in
    AreTooMany-from r.events place limit m more
    (λ k p q le.
    let most = total_le r is.formed place numbers infos lists classes k p q in
    let upper = upper_le r is.formed place numbers infos lists classes is.cuts.known k p q in
    omega (arith, few k p q le, most, upper))

-- what a worker counted, where it was not refused
pub part_is : {S : Type 0} (b : Basis) (place : ℕ → ℕ) (limit from : ℕ) (part : Result (IndexMap (ℕ × ℕ) Sums S) RowsRefusal) (m : IndexMap (ℕ × ℕ) Sums S)
    → part ≡ Ok m → IsPart b place limit from part → AreInTurn b from (length b.indexed.now.threads) m
part_is {S} b place limit from part m is one = (subst (λ (p : Result (IndexMap (ℕ × ℕ) Sums S) RowsRefusal). IsPart b place limit from p) is one).counted
