-- The client that proposes what workers find: slices of the first candidates. All notions here are this project's own. `T` is
-- the events of a trace.
use Rattle.std.specs.Prelude.{ℕ, zero, suc, List, All, Contains, Result, ⊤}
use Rattle.rapid_text.specs.Recording.{Recording}
use Rattle.rapid_text.specs.declared.event.Event.{Event}
use Rattle.shb_clocks.specs.Candidates.{AreFirstCandidates}
use Rattle.witness_search.specs.Slices.{IsSlice}
use Rattle.inverse_log.specs.declared.call.Call.{Call}
use Rattle.inverse_log.specs.declared.call.Call.TheVariants.{Propose}
use Rattle.inverse_log.specs.declared.entry.Entry.{Entry}
use Rattle.inverse_log.specs.declared.entry.Entry.TheVariants.{Proposed}
use Rattle.inverse_log.specs.declared.refusal.SeatRefusal.{SeatRefusal}
use Rattle.inverse_log.specs.declared.reply.Reply.{Reply}
use Rattle.inverse_log.specs.Log.{own_entries}
use Rattle.workspace_lock.specs.Turns.{Sees}
use Rattle.workspace_lock.specs.Seating.{Site, SeatView, mark_in, fresh_seat}
use Rattle.workspace_lock.specs.Runs.{Runs}

-- how many candidates are sliced at most
abbrev pub slice_limit : ℕ
slice_limit = 64

-- these are the candidates that are sliced: the first ones
abbrev pub AreToSlice : Recording → List (ℕ × ℕ) → Type 0
AreToSlice trace pairs = AreFirstCandidates trace.events slice_limit pairs

-- how many clients there are beside those of the scripts: one, where there are workers
abbrev pub further_clients : ℕ → ℕ
further_clients zero = 0
further_clients (suc workers) = 1

-- the pair is in the list, and P is its slice
pub record IsSliceOf (T : List Event) (pairs : List (ℕ × ℕ)) (a b : ℕ) (P : List ℕ) : Type 0 where
  pub pair : Contains pairs (a, b)
  pub slice : IsSlice T a b P

-- the call proposes the slice of a pair in the list
abbrev pub AsksSlice : List Event → List (ℕ × ℕ) → Call → Type 0
AsksSlice T pairs (Propose a b P) = IsSliceOf T pairs a b P
AsksSlice T pairs call = ⊥

-- and so does the entry
abbrev pub HasSlice : List Event → List (ℕ × ℕ) → Entry → Type 0
HasSlice T pairs (Proposed c a b P) = IsSliceOf T pairs a b P
HasSlice T pairs e = ⊥

-- Slices of pairs in the list were proposed, one after another, through the seat s, which is n then.
pub record ProposesSlices (T : List Event) (pairs : List (ℕ × ℕ)) (s n : SeatView) : Type 0 where
  pub calls : List Call
  pub answers : List (Result Reply SeatRefusal)
  pub run : Runs s calls answers n
  pub slices : All (AsksSlice T pairs) calls

-- The client has proposed slices of some of the first candidates through its seat. The log has all that the seat has seen,
-- and no other entries of the client. So each entry of the client proposes such a slice.
pub record HasSearched (trace : Recording) (site : Site) (log : List Entry) (client : ℕ) : Type 0 where
  pub pairs : List (ℕ × ℕ)
  pub first : AreFirstCandidates trace.events slice_limit pairs
  pub last : SeatView
  pub proposes : ProposesSlices trace.events pairs (fresh_seat site client) last
  pub seen : Sees (mark_in last) log
  pub entries : All (HasSlice trace.events pairs) (own_entries log client)

-- so has the client after those of the scripts, if there are workers
abbrev pub IsSearched : ℕ → Recording → Site → List Entry → ℕ → Type 0
IsSearched zero trace site log client = ⊤
IsSearched (suc workers) trace site log client = HasSearched trace site log client
