-- Each step keeps the rule.
use Rattle.std.proofs.Common.{◌≡◌, ◌≢◌, ◌==◌, ℕ, ◌+◌, ◌*◌, ◌%◌, ◌^◌, ◌<◌, ◌≤◌, List, [], ◌∷◌, ◌++◌, length, get_or, set, sym, refl, ap, ◌∙◌, subst, inl, inr, ⊎_elim, arith, length-append, Some, All}
use Rattle.std.proofs.lemmas.List.Elements.{All-cons, All-head, All-tail, All-weaker}
use mathlib.Core.Logic.{dite}
use mathlib.Core.Option.{some, none}
use native.Mathlib.Decide.{ℕ_discrete, dec_le}
use lib.ListN.{get_elem?}
use lib.Seq.{set-get_or}
use Rattle.atomic_table.specs.Table.{step, keeps, takes, gives, stepped, Allows}
use Rattle.atomic_table.proofs.Lists.{set_again, set_here}
use Rattle.inverse_log.specs.declared.entry.Entry.{Entry}
use Rattle.inverse_log.specs.Answer.{IsLegal, Grown}
use Rattle.inverse_log.specs.Log.{Benched, client_of}
use Rattle.workspace_lock.specs.Turns.{Mark, Sees}
use Rattle.workspace_lock.specs.Places.{idle, waits, holds, PlaceView, PlaceState, bench_of, saw, solo}
use Rattle.workspace_lock.specs.Rule.{claims, draws, turns_of, parts_of, Fits, AtHome, IsOut, Kept}
use Rattle.workspace_lock.specs.Steps.{drew, watched, published, fronted, ended, passed}
use Rattle.workspace_lock.proofs.SumLemmas.{at_place, sum_set, sum_one, sum_two, sum_some}
use Rattle.workspace_lock.proofs.LogLemmas.{prefix_trans, grown_begins, grown_own, past_grows}
use Rattle.workspace_lock.proofs.RuleLemmas.{W, St, one_where, one_if, none_if, same_place, idle_free, waits_free, free_idle, holder_apart, held, current_stays, drawer_marked, draws_held, undrawn, all_claimed, all_one, fits_now, at_other, home_set, framed, counts_kept, sees_fit, ticket_small, alone, none_else, other_client, out_with}

module _ (start : Benched) (clients : ℕ) where
  -- S1
  pub draws_ok : (slots id : ℕ) (me : PlaceState) → me.0.stage ≡ idle → me.0.turns < 4294967296 * length me.0.marks → Allows (Kept start clients) slots id me 0 (λ n. (n + 1) % 2 ^ 64) (drew (step slots 0 1 0 none) me)
  draws_ok slots id me is room s r _ at _ =
      let v : PlaceView = me.0 in let x : ℕ = get_or s.words 0 0 in let w : PlaceView = record v { turns = v.turns + 1; stage = waits x } in
      let found : x ≡ r.ticket = ap (λ ws. get_or ws 0 0) r.words in let small = ticket_small start clients s r in let o = r.order in
      let some_mark : 0 < length v.marks = omega arith in let before : (t : ℕ) → draws t v ≡ 0 = λ t. undrawn t v is in (
        w,
        keeps,
        tt,
        framed start clients s r id w _ _ (r.ticket + 1) r.serving r.log
            (ap (λ ws. set ws 0 ((get_or ws 0 0 + 1) % 18446744073709551616)) r.words ∙ ap (λ n. n ∷ r.serving ∷ length r.log ∷ []) (let e : (r.ticket + 1) % 18446744073709551616 ≡ r.ticket + 1 = omega arith in e))
            (omega arith) (r.legal, r.past)
            record {
              counted = let h = sum_set turns_of s.views id v w at in let c = r.counts.counted in omega arith;
              shared = let h = sum_set parts_of s.views id v w at in let c = r.counts.shared in omega arith;
              apart = λ c. let h = sum_set (claims c) s.views id v w at in let a = r.counts.apart c in omega arith;
              drawn = λ t low high. let h = sum_set (draws t) s.views id v w at in let b = before t in
                  dite (ℕ_discrete x t) (λ e. let one = one_if x t e in let z = r.counts.late t (omega arith) in omega arith) (λ n. let one = none_if x t n in let z = r.counts.drawn t low (omega arith) in omega arith);
              early = λ t low. let h = sum_set (draws t) s.views id v w at in let b = before t in let one = none_if x t (λ e. omega arith) in let z = r.counts.early t low in omega arith;
              late = λ t high. let h = sum_set (draws t) s.views id v w at in let b = before t in let one = none_if x t (λ e. omega arith) in let z = r.counts.late t (omega arith) in omega arith;
            }
            record { marked = (r.each id v at).marked; fair = omega arith; current = some_mark } (λ j d _ e. r.each j d e)
            (home_set start.trace r.log s.homes s.views id v w at (free_idle v.stage is) (waits_free x) r.home),
        refl,
      )

  unmoved : (s : St) (r : Kept start clients s) (i id : ℕ) (v : PlaceView) (c : List (ℕ × W)) → get_elem? s.views id ≡ some v → Kept start clients (stepped s i (get_or s.words i 0) id c v keeps)
  unmoved s r i id v c at = subst (λ (z : List ℕ × List PlaceView). Kept start clients record { words = z.0; homes = s.homes; views = z.1 }) (λ n. (sym (set-get_or s.words i 0) n, sym (set_again s.views id v at) n)) r

  abbrev pub with_slot : Mark → List Mark → ℕ → ℕ → List Entry → PlaceView
  with_slot k ks turns t log = record { marks = saw k log ∷ ks; turns = turns; stage = holds t }

  -- who finds its ticket served gets the slot, with the bench of the last log
  gets : (slots id i : ℕ) (k : Mark) (ks : List Mark) (turns t : ℕ) (s : St) (r : Kept start clients s) → get_elem? s.views id ≡ some (record { marks = k ∷ ks; turns = turns; stage = waits t }) → get_or s.words 1 0 ≡ t
      → (get_elem? s.homes 0 ≡ some (some (Some (bench_of k.start.trace r.log)))) × Kept start clients (stepped s 1 (get_or s.words 1 0) id [] (with_slot k ks turns (get_or s.words 1 0) r.log) (takes 0 (Some (bench_of k.start.trace r.log))))
      × All (λ m. Sees m r.log) (k ∷ ks)
  gets slots id i k ks turns t s r at e =
      let x : ℕ = get_or s.words 1 0 in let found : x ≡ r.serving = ap (λ ws. get_or ws 1 0) r.words in
      let v : PlaceView = record { marks = k ∷ ks; turns = turns; stage = waits t } in let w : PlaceView = with_slot k ks turns x r.log in
      let Fit : Mark → Type 0 = Fits start clients r.log in let known = r.each id v at in let fit = All-head Fit k ks known.marked in
      let nobody : IsOut s.homes s.views → ⊥ = λ h. let is = held r.serving r.log h.1.1.marks h.1.1.stage h.1.2 (r.each h.1.0 h.1.1 h.1.3).current h.1.4 in
      alone start clients s r id h.1.0 v h.1.1 at h.1.3 (one_if t r.serving (sym e ∙ found)) (draws_held h.1.2 r.serving h.1.1.stage h.1.4 is.1)
      (λ n. holder_apart s.views id h.1.0 v h.1.1 h.1.2 at h.1.3 (waits_free t) h.1.4 (sym n)) in
      let free : AtHome start.trace r.log s.homes s.views = ⊎_elim (λ h. h) (λ h. absurd (nobody h)) r.home in (
        ap (λ hs. get_elem? hs 0) free.0 ∙ ap (λ (b : Benched). some (some (Some (bench_of b.trace r.log)))) (sym fit.start_is),
        framed start clients s r id w _ _ r.ticket r.serving r.log (ap (λ ws. set ws 1 (get_or ws 1 0)) r.words) r.order (r.legal, r.past)
            (counts_kept start clients s r id v w at refl refl (λ c. refl) (λ t'. ap (λ n. one_where (n == t')) e))
            record { marked = All-cons Fit (saw k r.log) ks (fits_now start clients r.log r.log k fit) (All-tail Fit k ks known.marked); fair = known.fair; current = (omega arith, found, refl) }
            (λ j d _ e. r.each j d e) (inr (ap (λ hs. set hs 0 none) free.0, (id, w, x, set_here s.views id w (at_place s.views id v at).0, refl))),
        All-weaker Fit (λ m. Sees m r.log) (sees_fit start clients s r) (k ∷ ks) known.marked,
      )

  -- S2
  pub watches : (slots id : ℕ) (k : Mark) (turns t : ℕ) → Allows (Kept start clients) slots id (solo k turns (waits t), []) 1 (λ n. n) (watched (step slots 1 0 0 none) (solo k turns (waits t), []))
  watches slots id k turns t s r _ at _ = let x : ℕ = get_or s.words 1 0 in let v : PlaceView = solo k turns (waits t) in
      dite (ℕ_discrete x t)
      (λ e. let g = gets slots id 1 k [] turns t s r at e in
      (with_slot k [] turns x r.log, takes 0 (Some (bench_of k.start.trace r.log)), g.0, g.1, ((λ _. (r.log, All-head (λ m. Sees m r.log) k [] g.2, refl)), λ n. absurd (n e))))
      (λ n. (v, keeps, tt, unmoved s r 1 id v [] at, ((λ e. absurd (n e)), λ _. refl)))

  -- who has all marks finds its ticket served
  served : (id : ℕ) (k : Mark) (ks : List Mark) (turns t : ℕ) (s : St) (r : Kept start clients s) → get_elem? s.views id ≡ some (record { marks = k ∷ ks; turns = turns; stage = waits t }) → length (k ∷ ks) ≡ clients → get_or s.words 1 0 ≡ t
  served id k ks turns t s r at all = let v : PlaceView = record { marks = k ∷ ks; turns = turns; stage = waits t } in let found : get_or s.words 1 0 ≡ r.serving = ap (λ ws. get_or ws 1 0) r.words in
      let mine = sum_one (draws t) s.views id v at in let one = one_if t t refl in
      let low : r.serving ≤ t = dite (dec_le r.serving t) (λ h. h) (λ h. let z = r.counts.early t (omega arith) in absurd (omega arith)) in
      let high : t < r.ticket = dite (dec_le r.ticket t) (λ h. let z = r.counts.late t h in absurd (omega arith)) (λ h. omega arith) in
      dite (ℕ_discrete r.serving t) (λ e. found ∙ e) (λ ne. let z = r.counts.drawn r.serving (omega arith) (omega arith) in let h = sum_some (draws r.serving) s.views (omega arith) in
      let no = none_if t r.serving (λ e. ne (sym e)) in
      let other : h.0 ≢ id = λ e. let same = ap (draws r.serving) (same_place s.views id h.0 v h.1 at h.2 e) in let here = h.3 in absurd (omega arith) in
      let two = sum_two parts_of s.views id h.0 v h.1 (λ e. other (sym e)) at h.2 in let sh = r.counts.shared in
      let marked = drawer_marked r.serving r.log r.serving h.1.marks h.1.stage (r.each h.0 h.1 h.2).current h.3 in absurd (omega arith))

  pub ends : (slots id : ℕ) (k : Mark) (ks : List Mark) (turns t : ℕ) → length (k ∷ ks) ≡ clients
      → Allows (Kept start clients) slots id (record { marks = k ∷ ks; turns = turns; stage = waits t }, []) 1 (λ n. n) (ended (step slots 1 0 0 none) (record { marks = k ∷ ks; turns = turns; stage = waits t }, []))
  ends slots id k ks turns t all s r _ at _ = let g = gets slots id 1 k ks turns t s r at (served id k ks turns t s r at all) in
      (with_slot k ks turns (get_or s.words 1 0) r.log, takes 0 (Some (bench_of k.start.trace r.log)), g.0, g.1, (r.log, g.2, refl))

  -- S6
  pub publishes : (slots id : ℕ) (k : Mark) (turns t : ℕ) (cs : List (ℕ × W)) (e : Entry) → IsLegal k.start.trace (k.seen ++ e ∷ []) → client_of e ≡ k.number → length k.seen < 18446744073709551615
      → Allows (Kept start clients) slots id (solo k turns (holds t), cs) 2 (λ n. (n + 1) % 2 ^ 64) (published (k.seen ++ e ∷ []) (step slots 2 1 0 none) (solo k turns (holds t), cs))
  publishes slots id k turns t cs e legal mine room s r _ at _ =
      let after : List Entry = k.seen ++ e ∷ [] in let v : PlaceView = solo k turns (holds t) in let w : PlaceView = solo (saw k after) turns (holds t) in
      let Fit : Mark → Type 0 = Fits start clients r.log in let New : Mark → Type 0 = Fits start clients after in
      let known = r.each id v at in let fit = All-head Fit k [] known.marked in let here : k.seen ≡ r.log = known.current.2 in
      let grown : Grown r.log k.number after = subst (λ l. Grown l k.number after) here (inr (e, refl, mine)) in let longer = grown_begins r.log k.number after grown in
      let count : length r.log ≡ length k.seen = ap length (sym here) in let long = length-append k.seen (e ∷ []) in
      let still : (j : ℕ) (d : PlaceView) → j ≢ id → get_elem? s.views j ≡ some d → (m : Mark) → 1 ≤ claims m.number d → Fit m → New m = λ j d n at' m one f. record {
        start_is = f.start_is;
        clients_are = f.clients_are;
        low = f.low;
        high = f.high;
        begins = prefix_trans m.seen r.log after f.begins longer;
        same = grown_own r.log k.number after m.number (other_client start clients s r id j k [] v d m.number at at' n refl one) grown ∙ f.same;
      } in (
        w,
        keeps,
        tt,
        framed start clients s r id w _ _ r.ticket r.serving after
            (ap (λ ws. set ws 2 ((get_or ws 2 0 + 1) % 18446744073709551616)) r.words ∙ ap (λ n. r.ticket ∷ r.serving ∷ n ∷ []) (let e : (length r.log + 1) % 18446744073709551616 ≡ length after = omega arith in e))
            r.order (subst (λ (b : Benched). IsLegal b.trace after) fit.start_is legal, past_grows start.log clients r.log k.number after r.past fit.low fit.high grown)
            (counts_kept start clients s r id v w at refl refl (λ c. refl) (λ t'. refl))
            record { marked = all_one New (saw k after) (fits_now start clients r.log after k fit); fair = known.fair; current = (known.current.0, known.current.1, refl) }
            (λ j d n at'. let other = r.each j d at' in record {
              marked = all_claimed Fit New d.marks (still j d n at') other.marked;
              fair = other.fair;
              current = current_stays r.serving r.serving r.log after d.marks d.stage other.current (none_else start clients s r id j v d t at at' refl n);
            })
            (inr (out_with start clients s r id t v at refl, (id, w, t, set_here s.views id w (at_place s.views id v at).0, refl))),
        refl,
      )

  -- S7
  pub fronts : (slots id : ℕ) (k : Mark) (turns : ℕ) → Allows (Kept start clients) slots id (solo k turns idle, []) 2 (λ n. n) (fronted (step slots 2 0 0 none) (solo k turns idle, []))
  fronts slots id k turns s r _ at _ = let v : PlaceView = solo k turns idle in let w : PlaceView = solo (saw k r.log) turns idle in let Fit : Mark → Type 0 = Fits start clients r.log in
      let known = r.each id v at in let fit = All-head Fit k [] known.marked in (
        w,
        keeps,
        tt,
        framed start clients s r id w _ _ r.ticket r.serving r.log (ap (λ ws. set ws 2 (get_or ws 2 0)) r.words) r.order (r.legal, r.past) (counts_kept start clients s r id v w at refl refl (λ c. refl) (λ t'. refl))
            record { marked = all_one Fit (saw k r.log) (fits_now start clients r.log r.log k fit); fair = known.fair; current = tt } (λ j d _ e. r.each j d e)
            (home_set start.trace r.log s.homes s.views id v w at idle_free idle_free r.home),
        (r.log, sees_fit start clients s r k fit, ap (λ ws. get_or ws 2 0) r.words, refl),
      )

  -- S5
  pub passes : (slots id : ℕ) (k : Mark) (turns t : ℕ)
      → Allows (Kept start clients) slots id (solo k turns (holds t), (0, Some (bench_of k.start.trace k.seen)) ∷ []) 1 (λ n. (n + 1) % 2 ^ 64)
      (passed (step slots 1 1 0 none) (solo k turns (holds t), (0, Some (bench_of k.start.trace k.seen)) ∷ []))
  passes slots id k turns t s r _ at _ = let v : PlaceView = solo k turns (holds t) in let w : PlaceView = solo k turns idle in let known = r.each id v at in let fit = All-head (Fits start clients r.log) k [] known.marked in
      let now : t ≡ r.serving = known.current.1 in let here : k.seen ≡ r.log = known.current.2 in let small = ticket_small start clients s r in let o = r.order in
      let mine = sum_one (draws t) s.views id v at in let one = one_if t t refl in
      let below : r.serving < r.ticket = dite (ℕ_discrete r.serving r.ticket) (λ e. let z = r.counts.late t (omega arith) in absurd (omega arith)) (λ ne. omega arith) in
      let free : (j : ℕ) (d : PlaceView) → j ≢ id → get_elem? s.views j ≡ some d → (t' : ℕ) → d.stage ≡ holds t' → ⊥ = λ j d n at'. none_else start clients s r id j v d t at at' refl n in (
        w,
        gives,
        tt,
        framed start clients s r id w _ _ r.ticket (r.serving + 1) r.log
            (ap (λ ws. set ws 1 ((get_or ws 1 0 + 1) % 18446744073709551616)) r.words ∙ ap (λ n. r.ticket ∷ n ∷ length r.log ∷ []) (let e : (r.serving + 1) % 18446744073709551616 ≡ r.serving + 1 = omega arith in e))
            (omega arith) (r.legal, r.past)
            record {
              counted = let h = sum_set turns_of s.views id v w at in let c = r.counts.counted in omega arith;
              shared = let h = sum_set parts_of s.views id v w at in let c = r.counts.shared in omega arith;
              apart = λ c. let h = sum_set (claims c) s.views id v w at in let a = r.counts.apart c in omega arith;
              drawn = λ t' low high. let h = sum_set (draws t') s.views id v w at in let z = r.counts.drawn t' (omega arith) high in let no = none_if t t' (λ e. omega arith) in omega arith;
              early = λ t' low. let h = sum_set (draws t') s.views id v w at in dite (ℕ_discrete t t')
                  (λ e. let yes = one_if t t' e in let z = r.counts.drawn t' (omega arith) (omega arith) in omega arith)
                  (λ ne. let no = none_if t t' ne in let z = r.counts.early t' (omega arith) in omega arith);
              late = λ t' high. let h = sum_set (draws t') s.views id v w at in let z = r.counts.late t' high in let no = none_if t t' (λ e. omega arith) in omega arith;
            }
            record { marked = known.marked; fair = known.fair; current = tt }
            (λ j d n at'. let other = r.each j d at' in record { marked = other.marked; fair = other.fair; current = current_stays r.serving (r.serving + 1) r.log r.log d.marks d.stage other.current (free j d n at') })
            (inl (
              ap (λ hs. set hs 0 (some (Some (bench_of k.start.trace k.seen)))) (out_with start clients s r id t v at refl) ∙ ap (λ (b : Benched). some (Some b) ∷ []) (λ i. bench_of (fit.start_is i).trace (here i)),
              λ j d t'. at_other s.views id j w d (λ d. d.stage ≡ holds t' → ⊥) (idle_free t') (λ j d n at'. free j d n at' t'),
            )),
        refl,
      )
