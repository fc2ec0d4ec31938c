-- Lemmas for the crates above: what a call through a seat adds, and calls one after another.
use Rattle.std.proofs.Common.{◌≡◌, ◌⊎◌, ◌==◌, ℕ, List, [], ◌∷◌, ◌++◌, refl, ap, ◌∙◌, subst, inl, inr, Result, Ok, Err, eq-eqb}
use Rattle.std.proofs.lemmas.List.Elements.{filter-append}
use Rattle.inverse_log.specs.declared.call.Call.{Call}
use Rattle.inverse_log.specs.declared.entry.Entry.{Entry}
use Rattle.inverse_log.specs.declared.refusal.Refusal.{Refusal}
use Rattle.inverse_log.specs.declared.reply.Reply.{Reply}
use Rattle.inverse_log.specs.Answer.{Grown}
use Rattle.inverse_log.specs.Log.{own_entries, client_of}
use Rattle.inverse_log.proofs.CallerLemmas.{called_grown}
use Rattle.inverse_log.specs.declared.refusal.SeatRefusal.{SeatRefusal}
use Rattle.inverse_log.specs.declared.refusal.SeatRefusal.TheVariants.{Bench as ByBench, SeatSpent}
use Rattle.workspace_lock.specs.Seating.{SeatView}
use Rattle.workspace_lock.specs.Runs.{RanAt, Ran, Runs}

-- the client's entries are those of before, or those and one more
abbrev pub OneMore : ℕ → List Entry → List Entry → Type 0
OneMore c L M = (own_entries M c ≡ own_entries L c) ⊎ ((e : Entry) × (own_entries M c ≡ own_entries L c ++ e ∷ []))

own_kept : (c : ℕ) (e : Entry) → client_of e ≡ c → own_entries (e ∷ []) c ≡ e ∷ []
own_kept c e is = rw (eq-eqb (client_of e) c is) refl

own_grown : (L M : List Entry) (c : ℕ) → Grown L c M → OneMore c L M
own_grown L M c (inl is) = inl (ap (λ l. own_entries l c) is)
own_grown L M c (inr more) =
    inr (more.0, ap (λ l. own_entries l c) more.1 ∙ filter-append (λ x. client_of x == c) L (more.0 ∷ []) ∙ ap (λ l. own_entries L c ++ l) (own_kept c more.0 more.2))

ran_at_own : (s n : SeatView) (call : Call) (r : Result Reply Refusal) → RanAt s call r n → OneMore s.number s.seen n.seen
ran_at_own s n call r h =
    let log = h.1.0 in
    let same = h.1.1.same in
    let P : List Entry → Type 0 = λ own. (own_entries n.seen s.number ≡ own) ⊎ ((e : Entry) × (own_entries n.seen s.number ≡ own ++ e ∷ [])) in
    subst P same (own_grown log n.seen s.number (called_grown s.site.start.trace log n.seen s.number call r h.1.2))

-- A call through a seat adds at most one entry of its client to what the seat has seen, whatever others did meanwhile.
pub ran_own : (s n : SeatView) (call : Call) (r : Result Reply SeatRefusal) → Ran s call r n → OneMore s.number s.seen n.seen
ran_own s n call (Ok reply) h = ran_at_own s n call (Ok reply) h
ran_own s n call (Err (ByBench refusal)) h = ran_at_own s n call (Err refusal) h
ran_own s n call (Err SeatSpent) h = inl (ap (λ (x : SeatView). own_entries x.seen s.number) h.1)

-- one more call after those that were made
pub runs_snoc : (s : SeatView) (cs : List Call) (answers : List (Result Reply SeatRefusal)) (m n : SeatView) (c : Call) (a : Result Reply SeatRefusal) → Runs s cs answers m → Ran m c a n → Runs s (cs ++ c ∷ []) (answers ++ a ∷ []) n
runs_snoc s [] [] m n c a r one = (n, subst (λ x. Ran x c a n) r one, refl)
runs_snoc s [] (b ∷ more) m n c a r one = absurd r
runs_snoc s (d ∷ cs) [] m n c a r one = absurd r
runs_snoc s (d ∷ cs) (b ∷ more) m n c a r one = (r.0, r.1, runs_snoc r.0 cs more m n c a r.2 one)
