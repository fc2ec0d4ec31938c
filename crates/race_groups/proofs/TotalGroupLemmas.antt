-- What all threads count together, in pairs of a group.
use Rattle.std.proofs.Common.{◌≡◌, ℕ, ◌*◌, ◌^◌, ◌<◌, ◌≤◌, Bool, List, Vec, length, sum_by, refl, ap, ◌∙◌, arith}
use Rattle.std.specs.declared.alloc.Global.{Global}
use Rattle.std.proofs.lemmas.List.FromFn.{length-range_with_len}
use Rattle.std.proofs.lemmas.List.Sums.{sum_by-le, sum_by-le-sum_by, count_by-le-length}
use Rattle.rapid_text.specs.Recording.{Recording, IsWellFormed}
use Rattle.event_index.specs.Lookups.{before, count_before, events_of}
use Rattle.race_groups.specs.Classes.{AreClasses}
use Rattle.race_groups.specs.Counting.{thread_sum, threads_sum, total_ends}
use Rattle.race_groups.specs.Counts.{is_below, keeps}
use Rattle.race_groups.specs.Cuts.{IsCut}
use Rattle.race_groups.specs.Ends.{known_before, upper_of}
use Rattle.race_groups.specs.Groups.{group_of}
use Rattle.race_groups.specs.Rows.{Part, of_all, of_candidates, of_ordered, of_guarded}
use Rattle.race_groups.specs.declared.class.Class.{Class}
use Rattle.race_groups.proofs.CutLemmas.{IsCut-from}
use Rattle.race_groups.proofs.DoubledLemmas.{doubled_all}
use Rattle.race_groups.proofs.EarlierLemmas.{IsCutOf-earlier}
use Rattle.race_groups.proofs.LoopLemmas.{later_sum-le}
use Rattle.race_groups.proofs.PairLemmas.{group_is}
use Rattle.race_groups.proofs.TellLemmas.{count_all}
use Rattle.race_groups.proofs.ThreadLemmas.{sum_by_threads}
use Rattle.race_groups.proofs.TotalLemmas.{threads_nothing}

-- they fit
pub total_room : (r : Recording) → IsWellFormed r → (keeps : Class → Class → Bool) (classes : List ℕ) (infos : List Class) (end : ℕ → ℕ → ℕ) (p q : ℕ)
    → threads_sum r.events keeps classes infos end p q (length r.threads) ≤ 2 ^ 40
total_room r formed keeps classes infos end p q =
    let T = r.events in
    let less = sum_by-le-sum_by (thread_sum T keeps classes infos end p q) (λ u. sum_by (λ e. length T) (events_of T u)) (before (length r.threads)) (λ u. later_sum-le T keeps classes infos u end p q (events_of T u)) in
    let whole : sum_by (λ u. sum_by (λ e. length T) (events_of T u)) (before (length r.threads)) ≡ sum_by (λ e. length T) (before (length T)) = sum_by_threads r formed (λ e. length T) in
    let few = sum_by-le (λ e. length T) 1048576 (before (length T)) (λ i d below. formed.events) in
    let size = length-range_with_len 0 (length T) in
    omega (arith, less, whole, few, size, formed.events)

module _ (r : Recording) (formed : IsWellFormed r) (place : ℕ → ℕ) (classes : List ℕ) (infos : List Class) (lists : List (Vec ℕ Global)) (are : AreClasses r.events place classes infos) where
  -- all pairs are counted twice
  pub total_all : (p q : ℕ) → threads_sum r.events (keeps lists of_all) classes infos (total_ends r.events of_all) p q (length r.threads) ≡ 2 * length (group_of r.events place p q)
  total_all p q =
      doubled_all r formed place (keeps lists of_all) (λ i j. refl) classes infos are p q (λ i j. refl) ∙ ap (λ n. 2 * n) (count_all (group_of r.events place p q))

  -- no part counts more at first
  pub total_le : (k : Part) (p q : ℕ) → threads_sum r.events (keeps lists k) classes infos (total_ends r.events k) p q (length r.threads) ≤ 2 * length (group_of r.events place p q)
  total_le of_all p q = let all = total_all p q in omega (arith, all)
  total_le of_candidates p q = let none = threads_nothing r.events (keeps lists of_candidates) classes infos p q (length r.threads) in omega (arith, none)
  total_le of_ordered p q = let none = threads_nothing r.events (keeps lists of_ordered) classes infos p q (length r.threads) in omega (arith, none)
  total_le of_guarded p q = let none = threads_nothing r.events (keeps lists of_guarded) classes infos p q (length r.threads) in omega (arith, none)

  -- nor is there more below a cut
  cut_le : (k : Part) (end : ℕ → ℕ → ℕ) → IsCut r.events end → (p q : ℕ) → threads_sum r.events (keeps lists k) classes infos end p q (length r.threads) ≤ length (group_of r.events place p q)
  cut_le k end cut p q =
      let whole = group_is r formed place (keeps lists k) classes infos end are cut p q in
      let few = count_by-le-length (is_below r.events classes infos lists k end) (group_of r.events place p q) in
      omega (arith, whole, few)

  pub upper_le : IsCut r.events (known_before r.events) → (k : Part) (p q : ℕ) → threads_sum r.events (keeps lists k) classes infos (upper_of r.events k) p q (length r.threads) ≤ length (group_of r.events place p q)
  upper_le cut of_all p q = let none = threads_nothing r.events (keeps lists of_all) classes infos p q (length r.threads) in omega (arith, none)
  upper_le cut of_candidates p q = cut_le of_candidates (count_before r.events) (IsCut-from r.events (λ a b. a < b) (count_before r.events) (IsCutOf-earlier r.events)) p q
  upper_le cut of_ordered p q = cut_le of_ordered (known_before r.events) cut p q
  upper_le cut of_guarded p q = cut_le of_guarded (known_before r.events) cut p q
