-- The requests to workers, what they find, and what is made of that. No public clause cites this module. `T` is the events
-- of a trace.
use Rattle.std.specs.Prelude.{◌≡◌, ℕ, zero, suc, List, [], ◌∷◌, ◌++◌, length, replicate, All, Contains, Option, Some, None, Result}
use Rattle.rapid_text.specs.Recording.{Recording}
use Rattle.shb_clocks.specs.Candidates.{AreFirstCandidates}
use Rattle.inverse_log.specs.declared.call.Call.TheVariants.{Propose}
use Rattle.inverse_log.specs.declared.refusal.SeatRefusal.{SeatRefusal}
use Rattle.inverse_log.specs.declared.reply.Reply.{Reply}
use Rattle.search_pool.specs.declared.outcome.Outcome.{Outcome}
use Rattle.search_pool.specs.declared.outcome.Outcome.TheVariants.{Witness}
use Rattle.search_pool.specs.declared.request.Posed.{Posed}
use Rattle.search_pool.specs.declared.request.Request.{Request}
use Rattle.search_pool.specs.declared.request.Way.TheVariants.{Slice}
use Rattle.workspace_lock.specs.Seating.{Site, SeatView, SeatsView, fresh_seat}
use Rattle.workspace_lock.specs.Runs.{Ran}
use Rattle.calls.specs.Searches.{slice_limit, ProposesSlices}

-- the request is for the slice of a pair in `pairs`
abbrev pub IsSliceRequest : List (ℕ × ℕ) → Request → Type 0
IsSliceRequest pairs request = Contains pairs (request.first, request.second) × (request.way ≡ Slice)

-- so it is with each
abbrev pub AreSlices : List (ℕ × ℕ) → List Posed → Type 0
AreSlices pairs pending = All (λ (p : Posed). IsSliceRequest pairs p.request) pending

-- a witness was proposed through the seat s, which is n then; at another outcome nothing was done
abbrev pub ProposesOutcome : ℕ → ℕ → Outcome → SeatView → SeatView → Type 0
ProposesOutcome a b (Witness P) s n = (answer : Result Reply SeatRefusal) × Ran s (Propose a b P) answer n
ProposesOutcome a b outcome s n = n ≡ s

-- slices of the first candidates were proposed through the seat s, which is n then
abbrev pub SearchesBy : Recording → SeatView → SeatView → Type 0
SearchesBy trace s n = (pairs : List (ℕ × ℕ)) × AreFirstCandidates trace.events slice_limit pairs × ProposesSlices trace.events pairs s n

-- the seats after those of the scripts, at the end: the seat of the client with this number, if there are workers
abbrev pub AreBehind : ℕ → Recording → Site → ℕ → List (Option SeatView) → Type 0
AreBehind zero trace site client rows = rows ≡ []
AreBehind (suc workers) trace site client rows = (last : SeatView) × SearchesBy trace (fresh_seat site client) last × (rows ≡ Some last ∷ [])
