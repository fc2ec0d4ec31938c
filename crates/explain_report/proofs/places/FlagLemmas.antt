-- How many flags there are.
use Rattle.std.proofs.Common.{◌≡◌, ℕ, Bool, List, length, Result, Ok, Err, Vec, IfOk, ap, ◌∙◌}
use Rattle.std.specs.declared.alloc.Global.{Global}
use Rattle.std.proofs.lemmas.List.{length-map}
use Rattle.std.proofs.lemmas.List.FromFn.{length-map-range_with_len}
use Rattle.std.specs.Prelude.{◌==◌, ◌&&◌, map, nat_lt}
use Rattle.event_index.specs.Lookups.{before}
use Rattle.rapid_text.specs.Recording.{Recording}
use Rattle.rapid_text.specs.declared.memory.OutOfMemory.{OutOfMemory}
use Rattle.explain_report.specs.places.Accesses.{flags_of_place, least_misfit, misfit_at, misfits_of}

-- as many as there are in the list that they are
pub as_many : (result : Result (Vec Bool Global) OutOfMemory) (xs : List Bool) (n : ℕ) → length xs ≡ n → IfOk result (λ flags. flags.items ≡ xs)
    → IfOk result (λ flags. length flags.items ≡ n)
as_many (Ok flags) xs n len is = ap length is ∙ len
as_many (Err refused) xs n len is = tt

pub length-flags_of_event : (number n : ℕ) → length (map (λ e. e == number) (before n)) ≡ n
length-flags_of_event number n = length-map-range_with_len (λ e. e == number) 0 n

pub length-flags_of_place : (r : Recording) (word : List ℕ) → length (flags_of_place r word) ≡ length r.events
length-flags_of_place r word =
    length-map (misfits_of r word) (λ m. nat_lt m 3 && m == least_misfit (misfits_of r word))
    ∙ length-map-range_with_len (misfit_at r word) 0 (length r.events)
