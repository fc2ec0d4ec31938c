use Rattle.std.specs.Prelude.{◌≡◌, ℕ, ◌+◌, All, vec_len}
use Rattle.std.specs.Vec.Iter.{into_iter_items}
use Rattle.workspace_lock.specs.Seating.{fresh_rows}
use Rattle.calls.proofs.ToldLemmas.{Handing}
use Rattle.calls.proofs.seating.seat_all.Given as goal

abbrev pub invariant-loop-script : goal.invariant-loop-script
invariant-loop-script l =
    (l.seats.site ≡ l.fn.seats.site)
    × All (λ job. job.0.site ≡ l.fn.seats.site) l.jobs.items
    × ((more : ℕ) → l.fn.seats.rows ≡ fresh_rows l.fn.seats.site 1 (vec_len l.fn.scripts + more) → Handing l.fn.seats.site more l.fn.scripts.items l.jobs.items (into_iter_items l.script-iterator) l.seats.rows)
