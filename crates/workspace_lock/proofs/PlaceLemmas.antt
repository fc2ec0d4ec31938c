-- The steps, where the place is known by an equation.
use Rattle.std.proofs.Common.{All, ◌≡◌, ◌≢◌, ℕ, ◌+◌, ◌%◌, ◌^◌, ◌<◌, ◌≤◌, List, [], ◌∷◌, length, arith, length-append, sym, refl, ap, ◌∙◌, subst, Some, None, Result}
use mathlib.Core.Option.{none}
use Rattle.atomic_table.specs.Table.{Step, step, rest, Allows}
use Rattle.rapid_text.specs.Recording.{Recording}
use Rattle.inverse_log.specs.declared.entry.Entry.{Entry}
use Rattle.inverse_log.specs.Answer.{IsLegal, Grown, Called}
use Rattle.inverse_log.specs.Log.{Benched}
use Rattle.inverse_log.specs.declared.call.Call.{Call}
use Rattle.inverse_log.specs.declared.reply.Reply.{Reply}
use Rattle.inverse_log.specs.declared.refusal.Refusal.{Refusal}
use Rattle.workspace_lock.proofs.LogLemmas.{grown_more, grown_same}
use Rattle.inverse_log.proofs.CallerLemmas.{called_grown, called_legal}
use Rattle.workspace_lock.specs.Turns.{Mark, Sees}
use Rattle.workspace_lock.specs.Places.{idle, waits, holds, bench_of, saw, solo, mark_of, ticket_in, on_turn, IsResting, IsWaiting, GotTurn, TookBench, Looked, PlaceState}
use Rattle.workspace_lock.specs.Rule.{Kept}
use Rattle.workspace_lock.specs.Steps.{drew, watched, published, fronted, passed, ended}
use Rattle.workspace_lock.specs.Rows.{Gathers, IsEnd}
use Rattle.workspace_lock.proofs.RuleLemmas.{W}
use Rattle.workspace_lock.proofs.StepLemmas.{draws_ok, watches, publishes, fronts, passes, ends}

module _ (start : Benched) (clients slots id : ℕ) where
  pub draws_from : (m : PlaceState) → IsResting m → m.0.turns < 4294967295 → Allows (Kept start clients) slots id m 0 (λ n. (n + 1) % 2 ^ 64) (drew (step slots 0 1 0 none) m)
  draws_from m e room = draws_ok start clients slots id m (ap (λ (x : PlaceState). x.0.stage) e) (let one : length m.0.marks ≡ 1 = ap (λ (x : PlaceState). length x.0.marks) e in omega arith)

  pub watches_from : (m : PlaceState) (t : ℕ) → IsWaiting t m → Allows (Kept start clients) slots id m 1 (λ n. n) (watched (step slots 1 0 0 none) m)
  watches_from m t e = subst (λ (x : PlaceState). Allows (Kept start clients) slots id x 1 (λ n. n) (watched (step slots 1 0 0 none) x)) (sym e) (watches start clients slots id (mark_of m.0) m.0.turns t)

  pub publishes_from : (m : PlaceState) (k : Mark) (turns t : ℕ) (cs : List (ℕ × W)) (log : List Entry) → m ≡ (solo k turns (holds t), cs) → IsLegal k.start.trace log → Grown k.seen k.number log → length k.seen < length log → length log < 18446744073709551616
      → Allows (Kept start clients) slots id m 2 (λ n. (n + 1) % 2 ^ 64) (published log (step slots 2 1 0 none) m)
  publishes_from m k turns t cs log e legal grown more room = let g = grown_more k.seen k.number log grown more in let l = length-append k.seen (g.0 ∷ []) in let n = ap length g.1 in
      subst (λ (x : PlaceState × List Entry). Allows (Kept start clients) slots id x.0 2 (λ n. (n + 1) % 2 ^ 64) (published x.1 (step slots 2 1 0 none) x.0)) (λ j. (sym e j, sym g.1 j))
      (publishes start clients slots id k turns t cs g.0 (subst (IsLegal k.start.trace) g.1 legal) g.2 (omega arith))

  pub fronts_from : (m : PlaceState) → IsResting m → Allows (Kept start clients) slots id m 2 (λ n. n) (fronted (step slots 2 0 0 none) m)
  fronts_from m e = subst (λ (x : PlaceState). Allows (Kept start clients) slots id x 2 (λ n. n) (fronted (step slots 2 0 0 none) x)) (sym e) (fronts start clients slots id (mark_of m.0) m.0.turns)

  pub passes_from : (m : PlaceState) (k : Mark) (turns t : ℕ) (b : Benched) → m ≡ (solo k turns (holds t), (0, Some b) ∷ []) → b ≡ bench_of k.start.trace k.seen
      → Allows (Kept start clients) slots id m 1 (λ n. (n + 1) % 2 ^ 64) (passed (step slots 1 1 0 none) m)
  passes_from m k turns t b e is = subst (λ (x : PlaceState). Allows (Kept start clients) slots id x 1 (λ n. (n + 1) % 2 ^ 64) (passed (step slots 1 1 0 none) x))
      (sym (e ∙ ap (λ (w : Benched). (solo k turns (holds t), (0, Some w) ∷ [])) is)) (passes start clients slots id k turns t)

pub got_turn : (m0 m n : PlaceState) (st : Step W) (r t : ℕ) → IsWaiting t m0 → m ≡ m0 → watched st m r n → r ≡ t → GotTurn t m0 n
got_turn m0 m n st r t w same h e = let at = subst (λ (x : PlaceState). watched st x r n) same h in let g = at.0 (e ∙ sym (ap (λ (x : PlaceState). ticket_in x.0.stage) w)) in
    (g.0, g.1, g.2 ∙ ap (λ k. on_turn (mark_of m0.0) m0.0.turns k g.0) e)

pub not_yet : (m0 m n : PlaceState) (st : Step W) (r t : ℕ) → IsWaiting t m0 → m ≡ m0 → watched st m r n → r ≢ t → n ≡ m0
not_yet m0 m n st r t w same h ne = let at = subst (λ (x : PlaceState). watched st x r n) same h in at.1 (λ e. ne (e ∙ ap (λ (x : PlaceState). ticket_in x.0.stage) w))

pub has_bench : (m : PlaceState) (k : Mark) (turns t : ℕ) (log : List Entry) → m ≡ on_turn k turns t log → m.1 ≡ (0, Some (bench_of k.start.trace log)) ∷ rest m.1
has_bench m k turns t log e = let is = ap (λ (x : PlaceState). x.1) e in is ∙ ap (λ l. (0, Some (bench_of k.start.trace log)) ∷ rest l) (sym is)

pub bench_is : (b : Benched) (trace : Recording) → b.trace ≡ trace → b ≡ bench_of trace b.log
bench_is b trace e = ap (λ n. bench_of n b.log) e

-- what a call on the taken bench leaves may go back
pub may_go_back : (m n : PlaceState) (b after : Benched) (number : ℕ) (call : Call) (r : Result Reply Refusal) → TookBench m b n → (mark_of m.0).number ≡ number → 0 < number → number ≤ 32
    → after.trace ≡ b.trace → Called b.trace b.log number call r after.log
    → IsLegal (mark_of n.0).start.trace after.log × Grown (mark_of n.0).seen (mark_of n.0).number after.log × (after.trace ≡ (mark_of n.0).start.trace)
may_go_back m n b after number call r took is low high kept called = let k = mark_of m.0 in let e : mark_of n.0 ≡ saw k b.log = ap (λ (x : PlaceState). mark_of x.0) took.3 in
    let legal : IsLegal b.trace b.log = subst (λ z. IsLegal z b.log) (sym took.2) took.1.legal in
    let P : Mark → Type 0 = λ q. IsLegal q.start.trace after.log × Grown q.seen q.number after.log × (after.trace ≡ q.start.trace) in
    subst P (sym e) (subst (λ z. IsLegal z after.log) took.2 (called_legal b.trace b.log after.log number call r low high legal called), subst (λ z. Grown b.log z after.log) (sym is) (called_grown b.trace b.log after.log number call r called), kept ∙ took.2)

module _ (start : Benched) (clients slots id : ℕ) where
  ends_at : (ms : List Mark) (turns t : ℕ) → length ms ≡ clients → 0 < length ms
      → Allows (Kept start clients) slots id (record { marks = ms; turns = turns; stage = waits t }, []) 1 (λ n. n) (ended (step slots 1 0 0 none) (record { marks = ms; turns = turns; stage = waits t }, []))
  ends_at [] turns t all h = absurd (omega arith)
  ends_at (k ∷ ks) turns t all h = ends start clients slots id k ks turns t all

  pub ends_from : (m0 m : PlaceState) (t : ℕ) → Gathers m0 → m ≡ (record m0.0 { turns = m0.0.turns + 1; stage = waits t }, m0.1) → length m0.0.marks ≡ clients → 0 < length m0.0.marks
      → Allows (Kept start clients) slots id m 1 (λ n. n) (ended (step slots 1 0 0 none) m)
  ends_from m0 m t g e all h = let is : m ≡ (record { marks = m0.0.marks; turns = m0.0.turns + 1; stage = waits t }, []) = e ∙ ap (λ c. (record { marks = m0.0.marks; turns = m0.0.turns + 1; stage = waits t }, c)) g.empty in
      subst (λ (x : PlaceState). Allows (Kept start clients) slots id x 1 (λ n. n) (ended (step slots 1 0 0 none) x)) (sym is) (ends_at m0.0.marks (m0.0.turns + 1) t all h)

  pub last_draw : (m : PlaceState) → Gathers m → 0 < length m.0.marks → Allows (Kept start clients) slots id m 0 (λ n. (n + 1) % 2 ^ 64) (drew (step slots 0 1 0 none) m)
  last_draw m g h = let f = g.fair in draws_ok start clients slots id m g.idle_is (omega arith)

pub last_slot : (m0 m n : PlaceState) (st : Step W) (r t : ℕ) → m ≡ (record m0.0 { turns = m0.0.turns + 1; stage = waits t }, m0.1) → ended st m r n
    → (log : List Entry) × All (λ k. Sees k log) m0.0.marks × (n.1 ≡ (0, Some (bench_of (mark_of m0.0).start.trace log)) ∷ [])
last_slot m0 m n st r t e h = subst (λ (x : PlaceState). ended st x r n) e h

pub slot_first : (n : PlaceState) (b : W) → n.1 ≡ (0, b) ∷ [] → n.1 ≡ (0, b) ∷ rest n.1
slot_first n b e = e ∙ ap (λ l. (0, b) ∷ rest l) (sym e)

abbrev slot_in : List (ℕ × W) → W
slot_in [] = None
slot_in (x ∷ xs) = x.1

abbrev bench_in : Benched → W → Benched
bench_in d (Some b) = b
bench_in d None = d

pub end_is : (m0 m n : PlaceState) (st : Step W) (r t : ℕ) (o : W) (b : Benched) → m ≡ (record m0.0 { turns = m0.0.turns + 1; stage = waits t }, m0.1) → ended st m r n
    → n.1 ≡ (0, o) ∷ rest n.1 → o ≡ Some b → IsEnd (mark_of m0.0).start.trace m0.0.marks b
end_is m0 m n st r t o b e h found is = let g = last_slot m0 m n st r t e h in let last = bench_of (mark_of m0.0).start.trace g.0 in
    let same : b ≡ last = ap (bench_in b) (sym is ∙ (ap slot_in (sym found) ∙ ap slot_in g.2)) in
    subst (IsEnd (mark_of m0.0).start.trace m0.0.marks) (sym same) record { trace_is = refl; seen = g.1 }

-- nothing was logged
pub same_seen : (m : PlaceState) (k : Mark) (turns t : ℕ) (cs : List (ℕ × W)) (log : List Entry) → m ≡ (solo k turns (holds t), cs) → Grown k.seen k.number log → length log ≤ length k.seen → m ≡ (solo (saw k log) turns (holds t), cs)
same_seen m k turns t cs log e grown le = e ∙ ap (λ l. (solo (saw k l) turns (holds t), cs)) (sym (grown_same k.seen k.number log grown le))

pub looked : (m n : PlaceState) (st : Step W) (r : ℕ) → IsResting m → fronted st m r n → Looked m r n
looked m n st r e h = (h.0, h.1, h.2, h.3 ∙ ap (λ (x : PlaceState). (solo (saw (mark_of m.0) h.0) m.0.turns x.0.stage, x.1)) e)

pub passed_is : (m n : PlaceState) (k : Mark) (turns t : ℕ) (c : List (ℕ × W)) → m ≡ (solo k turns (holds t), c) → n ≡ (record m.0 { stage = idle }, []) → n ≡ (solo k turns idle, [])
passed_is m n k turns t c e h = h ∙ ap (λ (x : PlaceState). (record x.0 { stage = idle }, [])) e
