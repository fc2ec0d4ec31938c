-- What is asked of workers, what they find, and what a client has proposed of that.
use Rattle.std.proofs.Common.{◌≡◌, ◌==◌, ℕ, List, [], ◌∷◌, ◌++◌, Result, Ok, Err, All, Contains, refl, sym, ap, ◌∙◌, subst, inl, inr}
use Rattle.std.proofs.lemmas.List.Elements.{All-append, All-cons, All-nil, All-head, All-tail, All-push, All-filter, filter-append}
use Rattle.rapid_text.specs.Recording.{Recording}
use Rattle.rapid_text.specs.declared.event.Event.{Event}
use Rattle.inverse_log.specs.declared.call.Call.{Call}
use Rattle.inverse_log.specs.declared.call.Call.TheVariants.{Do, Batch as DoAll, Undo, UndoAt, Propose, Show, List as ListNames, Races}
use Rattle.inverse_log.specs.declared.entry.Entry.{Entry}
use Rattle.inverse_log.specs.declared.entry.Entry.TheVariants.{Proposed}
use Rattle.inverse_log.specs.declared.refusal.Refusal.{Refusal}
use Rattle.inverse_log.specs.declared.refusal.SeatRefusal.{SeatRefusal}
use Rattle.inverse_log.specs.declared.refusal.SeatRefusal.TheVariants.{Bench as ByBench, SeatSpent}
use Rattle.inverse_log.specs.declared.reply.Reply.{Reply}
use Rattle.inverse_log.specs.Answer.{Called, answer_of, logged}
use Rattle.inverse_log.specs.Log.{Benched, own_entries, client_of}
use Rattle.inverse_log.proofs.CallerLemmas.{called_next}
use Rattle.search_pool.specs.Outcomes.{IsRight, IsSliced}
use Rattle.search_pool.specs.Pools.{Pooled, Collects, Submits}
use Rattle.search_pool.specs.declared.outcome.Found.{Found}
use Rattle.search_pool.specs.declared.outcome.Outcome.{Outcome}
use Rattle.search_pool.specs.declared.outcome.Outcome.TheVariants.{Witness, Nothing, NoSlice, BadBase, OutOfMemory}
use Rattle.search_pool.specs.declared.request.Posed.{Posed}
use Rattle.search_pool.specs.declared.request.Request.{Request}
use Rattle.witness_search.specs.Slices.{IsSlice}
use Rattle.workspace_lock.specs.Turns.{Sees}
use Rattle.workspace_lock.specs.Seating.{Site, SeatView, mark_in, fresh_seat}
use Rattle.workspace_lock.specs.Runs.{RanAt, Ran, Runs}
use Rattle.workspace_lock.proofs.CallerLemmas.{runs_snoc}
use Rattle.calls.specs.Searches.{IsSliceOf, AsksSlice, HasSlice, ProposesSlices, HasSearched}
use Rattle.calls.specs.Requests.{AreSlices, IsSliceRequest, ProposesOutcome, SearchesBy}
use Rattle.calls.specs.Told.{fresh_bench}

module _ (T : List Event) (pairs : List (ℕ × ℕ)) where
  -- no entries, or the one that the call makes
  logged_slice : (c : ℕ) (call : Call) (a : Result Reply Refusal) → AsksSlice T pairs call → All (HasSlice T pairs) (logged c call a)
  logged_slice c call (Err why) is = All-nil (HasSlice T pairs)
  logged_slice c (Propose a b P) (Ok reply) is = All-cons (HasSlice T pairs) (Proposed c a b P) [] is (All-nil (HasSlice T pairs))
  logged_slice c (Do d) (Ok reply) is = absurd is
  logged_slice c (DoAll D) (Ok reply) is = absurd is
  logged_slice c Undo (Ok reply) is = absurd is
  logged_slice c (UndoAt k) (Ok reply) is = absurd is
  logged_slice c (Show x) (Ok reply) is = absurd is
  logged_slice c ListNames (Ok reply) is = absurd is
  logged_slice c (Races x) (Ok reply) is = absurd is

  -- all entries of the client propose slices
  abbrev OwnHave : List Entry → ℕ → Type 0
  OwnHave L c = All (HasSlice T pairs) (own_entries L c)

  own_after : (L E : List Entry) (c : ℕ) → OwnHave L c → All (HasSlice T pairs) E → OwnHave (L ++ E) c
  own_after L E c own more =
      let has = HasSlice T pairs in
      let test = λ (e : Entry). client_of e == c in
      subst (All has) (sym (filter-append test L E)) (All-append has (own_entries L c) (own_entries E c) own (All-filter test has E more))

  own_called : (trace : Recording) (L M : List Entry) (c : ℕ) (call : Call) (r : Result Reply Refusal) → AsksSlice T pairs call → Called trace L c call r M → OwnHave L c → OwnHave M c
  own_called trace L M c call r is h own =
      let answer = answer_of trace L c call in
      elim (called_next trace L M c call r h) [
        | inl same ↦ subst (λ l. OwnHave l c) (sym same) own
        | inr more ↦ subst (λ l. OwnHave l c) (sym more) (own_after L (logged c call answer) c own (logged_slice c call answer is))
      ]

  own_ran_at : (s n : SeatView) (call : Call) (r : Result Reply Refusal) → AsksSlice T pairs call → RanAt s call r n → OwnHave s.seen s.number → OwnHave n.seen n.number
  own_ran_at s n call r is h own =
      let log = h.1.0 in
      let number : n.number ≡ s.number = ap (λ (x : SeatView). x.number) h.2 in
      let was : OwnHave log s.number = subst (All (HasSlice T pairs)) (sym h.1.1.same) own in
      subst (OwnHave n.seen) (sym number) (own_called s.site.start.trace log n.seen s.number call r is h.1.2 was)

  own_ran : (s n : SeatView) (call : Call) (r : Result Reply SeatRefusal) → AsksSlice T pairs call → Ran s call r n → OwnHave s.seen s.number → OwnHave n.seen n.number
  own_ran s n call (Ok reply) is h own = own_ran_at s n call (Ok reply) is h own
  own_ran s n call (Err (ByBench refusal)) is h own = own_ran_at s n call (Err refusal) is h own
  own_ran s n call (Err SeatSpent) is h own = subst (λ (x : SeatView). OwnHave x.seen x.number) (sym h.1) own

  own_runs : (s n : SeatView) (calls : List Call) (answers : List (Result Reply SeatRefusal)) → All (AsksSlice T pairs) calls → Runs s calls answers n → OwnHave s.seen s.number → OwnHave n.seen n.number
  own_runs s n [] [] are h own = subst (λ (x : SeatView). OwnHave x.seen x.number) (sym h) own
  own_runs s n [] (a ∷ answers) are h own = absurd h
  own_runs s n (c ∷ calls) [] are h own = absurd h
  own_runs s n (c ∷ calls) (a ∷ answers) are h own =
      let first = own_ran s h.0 c a (All-head (AsksSlice T pairs) c calls are) h.1 own in
      own_runs h.0 n calls answers (All-tail (AsksSlice T pairs) c calls are) h.2 first

ran_number : (s n : SeatView) (call : Call) (r : Result Reply SeatRefusal) → Ran s call r n → n.number ≡ s.number
ran_number s n call (Ok reply) h = ap (λ (x : SeatView). x.number) h.2
ran_number s n call (Err (ByBench refusal)) h = ap (λ (x : SeatView). x.number) h.2
ran_number s n call (Err SeatSpent) h = ap (λ (x : SeatView). x.number) h.1

runs_number : (s n : SeatView) (calls : List Call) (answers : List (Result Reply SeatRefusal)) → Runs s calls answers n → n.number ≡ s.number
runs_number s n [] [] h = ap (λ (x : SeatView). x.number) h
runs_number s n [] (a ∷ answers) h = absurd h
runs_number s n (c ∷ calls) [] h = absurd h
runs_number s n (c ∷ calls) (a ∷ answers) h = runs_number h.0 n calls answers h.2 ∙ ran_number s h.0 c a h.1

-- what a client has proposed from the empty log on
pub searched : (trace : Recording) (site : Site) (log : List Entry) (client : ℕ) (last : SeatView) → site.start ≡ fresh_bench trace → SearchesBy trace (fresh_seat site client) last → Sees (mark_in last) log → HasSearched trace site log client
searched trace site log client last start by seen =
    let pairs = by.0 in
    let p = by.2 in
    let has = HasSlice trace.events pairs in
    let first = fresh_seat site client in
    let none : own_entries first.seen client ≡ [] = ap (λ (b : Benched). own_entries b.log client) start in
    let own = own_runs trace.events pairs first last p.calls p.answers p.slices p.run (subst (All has) (sym none) (All-nil has)) in
    let number = runs_number first last p.calls p.answers p.run in
    record {
      pairs = pairs;
      first = by.1;
      last = last;
      proposes = p;
      seen = seen;
      entries = subst (λ c. All has (own_entries log c)) number (subst (All has) (sym seen.same) own);
    }

-- with one of a list, all others
all_without : {X : Type 0} (P : X → Type 0) (earlier : List X) (x : X) (later : List X) → All P (earlier ++ x ∷ later) → P x × All P (earlier ++ later)
all_without P [] x later all = (All-head P x later all, All-tail P x later all)
all_without P (y ∷ earlier) x later all =
    let rest = all_without P earlier x later (All-tail P y (earlier ++ x ∷ later) all) in
    (rest.0, All-cons P y (earlier ++ later) (All-head P y (earlier ++ x ∷ later) all) rest.1)

module _ (trace : Recording) (pairs : List (ℕ × ℕ)) (before after : Pooled) (found : Found) (same : before.trace ≡ trace) (all : AreSlices pairs before.pending) (h : Collects before found after) where
  abbrev is_asked : Posed → Type 0
  is_asked p = IsSliceRequest pairs p.request

  split : is_asked h.posed × All is_asked (h.taken.earlier ++ h.taken.later)
  split = all_without is_asked h.taken.earlier h.posed h.taken.later (subst (All is_asked) h.taken.there all)

  -- the others are asked for
  pub others-asked : AreSlices pairs after.pending
  others-asked = subst (All is_asked) (sym h.taken.left) split.1

  slice_in : (P : List ℕ) → found.outcome ≡ Witness P → IsSliceOf trace.events pairs found.first found.second P
  slice_in P is =
      let T = before.trace.events in
      let r = h.posed.request in
      let right : IsSliced T r.first r.second (Witness P) = subst (λ o. IsSliced T r.first r.second o) is (subst (λ way. IsRight T r.first r.second way found.outcome) split.0.1 h.outcome.right) in
      let slice : IsSlice trace.events r.first r.second P = subst (λ (t : Recording). IsSlice t.events r.first r.second P) same right.1 in
      record {
        pair = subst (λ a. Contains pairs (a, found.second)) (sym h.first) (subst (λ b. Contains pairs (r.first, b)) (sym h.second) split.0.0);
        slice = subst (λ a. IsSlice trace.events a found.second P) (sym h.first) (subst (λ b. IsSlice trace.events r.first b P) (sym h.second) slice);
      }

  proposed : (s m n : SeatView) (o : Outcome) → found.outcome ≡ o → ProposesSlices trace.events pairs s m → ProposesOutcome found.first found.second o m n → ProposesSlices trace.events pairs s n
  proposed s m n (Witness P) is p made =
      let call = Propose found.first found.second P in
      record {
        calls = p.calls ++ call ∷ [];
        answers = p.answers ++ made.0 ∷ [];
        run = runs_snoc s p.calls p.answers m n call made.0 p.run made.1;
        slices = All-push (AsksSlice trace.events pairs) p.calls call p.slices (slice_in P is);
      }
  proposed s m n Nothing is p made = subst (ProposesSlices trace.events pairs s) (sym made) p
  proposed s m n (NoSlice why) is p made = subst (ProposesSlices trace.events pairs s) (sym made) p
  proposed s m n (BadBase place) is p made = subst (ProposesSlices trace.events pairs s) (sym made) p
  proposed s m n OutOfMemory is p made = subst (ProposesSlices trace.events pairs s) (sym made) p

  -- what was found is proposed behind what was proposed before
  pub proposed-more : (s m n : SeatView) → ProposesSlices trace.events pairs s m → ProposesOutcome found.first found.second found.outcome m n → ProposesSlices trace.events pairs s n
  proposed-more s m n p made = proposed s m n found.outcome refl p made

-- nothing was proposed yet
pub proposed-none : (T : List Event) (pairs : List (ℕ × ℕ)) (s : SeatView) → ProposesSlices T pairs s s
proposed-none T pairs s = record { calls = []; answers = []; run = refl; slices = All-nil (AsksSlice T pairs) }

-- one slice more is asked for
pub asked-more : (pairs : List (ℕ × ℕ)) (before : Pooled) (request : Request) (n : ℕ) (after : Pooled) → AreSlices pairs before.pending → Submits before request n after → IsSliceRequest pairs request → AreSlices pairs after.pending
asked-more pairs before request n after are h is =
    let asked = λ (p : Posed). IsSliceRequest pairs p.request in
    subst (All asked) (sym h.pending) (All-push asked before.pending (record { number = n; request = request }) are is)
