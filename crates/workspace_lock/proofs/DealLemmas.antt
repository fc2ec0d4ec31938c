-- The seats are made from the first place.
use Rattle.std.proofs.Common.{All, Contains, ◌≡◌, ℕ, zero, suc, ◌+◌, ◌-◌, ◌≤◌, ◌<◌, List, [], ◌∷◌, ◌++◌, length, sym, refl, ap, ◌∙◌, subst, arith, length-append, Option, Some, eq-eqb, ◌==◌}
use Rattle.std.proofs.lemmas.List.{append-nil}
use Rattle.std.proofs.lemmas.List.Elements.{filter-append, All-nil, All-cons, All-head, All-contains, Contains-append_left, Contains-append_right}
use mathlib.Core.Logic.{dite}
use native.Mathlib.Decide.{dec_le, ℕ_discrete}
use Rattle.atomic_table.specs.Table.{Splits, opening}
use Rattle.atomic_table.specs.Seated.{TableId}
use Rattle.inverse_log.specs.declared.entry.Entry.{Entry}
use Rattle.inverse_log.specs.Answer.{IsLegal}
use Rattle.inverse_log.specs.Log.{Benched, own_entries, client_of}
use Rattle.workspace_lock.specs.Turns.{Mark, mark, Sees, Past, HasSeat}
use Rattle.workspace_lock.specs.Seating.{SeatView, Site, site_at, mark_at, fresh_seat, fresh_rows}
use Rattle.workspace_lock.specs.Places.{idle, solo, mark_of, seat_view, PlaceState}
use Rattle.workspace_lock.specs.Rule.{Kept, fresh_marks, opened}
use Rattle.workspace_lock.specs.Steps.{stays, goes_off}
use Rattle.workspace_lock.specs.Rows.{HasAll, Gathers, marks_in, IsSeated, AllSeated, RowsFit, IsEnd, dealt}
use Rattle.workspace_lock.proofs.RuleLemmas.{W}
use Rattle.workspace_lock.proofs.EndLemmas.{splits, opens, length_fresh}
use Rattle.workspace_lock.proofs.RowLemmas.{stands_first, stands_later}

module _ (start : Benched) (clients : ℕ) where
  from_suc : (i k : ℕ) → clients - i ≡ suc k → dealt start clients i ≡ (record { marks = mark start clients (i + 1) start.log ∷ fresh_marks start clients (suc (i + 1)) k; turns = 0; stage = idle }, [])
  from_suc i k e = ap (λ n. (record { marks = fresh_marks start clients (i + 1) n; turns = 0; stage = idle }, [])) e

  pub splits_from : (first : Benched) (n id i : ℕ) (m : PlaceState) → m ≡ dealt start clients i → Splits (Kept first n) id m.0 (stays m.0) (goes_off m.0)
  splits_from first n id i m e = splits first n id m.0 (ap (λ (x : PlaceState). x.0.stage) e) (ap (λ (x : PlaceState). x.0.turns) e)

  pub deal_next : (i : ℕ) (m n : PlaceState) → i < clients → m ≡ dealt start clients i → n ≡ (stays m.0, m.1) → n ≡ dealt start clients (i + 1)
  deal_next i m n h e is = let k : ℕ = clients - (i + 1) in let s : clients - i ≡ suc k = omega arith in let up : suc (i + 1) ≡ (i + 1) + 1 = omega arith in
      is ∙ (ap (λ (x : PlaceState). (stays x.0, x.1)) (e ∙ from_suc i k s) ∙ ap (λ j. (record { marks = fresh_marks start clients j k; turns = 0; stage = idle }, [])) up)

  pub deal_off : (i : ℕ) (m n : PlaceState) → i < clients → m ≡ dealt start clients i → n ≡ (goes_off m.0, []) → n ≡ (solo (mark start clients (i + 1) start.log) 0 idle, [])
  deal_off i m n h e is = let k : ℕ = clients - (i + 1) in let s : clients - i ≡ suc k = omega arith in is ∙ ap (λ (x : PlaceState). (goes_off x.0, [])) (e ∙ from_suc i k s)

  pub dealt_length : (i : ℕ) (m : PlaceState) → m ≡ dealt start clients i → length m.0.marks ≡ clients - i
  dealt_length i m e = ap (λ (x : PlaceState). length x.0.marks) e ∙ length_fresh start clients (i + 1) (clients - i)

  pub gathers_dealt : (i : ℕ) (m : PlaceState) → m ≡ dealt start clients i → Gathers m
  gathers_dealt i m e = subst Gathers (sym e) record { idle_is = refl; empty = refl; fair = omega arith }

  has_fresh : (c n k : ℕ) → n ≤ c → c < n + k → Contains (fresh_marks start clients n k) (mark start clients c start.log)
  has_fresh c n zero low high = absurd (omega arith)
  has_fresh c n (suc k) low high = let m : Mark = mark start clients n start.log in let ms : List Mark = fresh_marks start clients (suc n) k in
      dite (ℕ_discrete c n) (λ e. stands_first m (mark start clients c start.log) ms (ap (λ j. mark start clients j start.log) e)) (λ e. stands_later m (mark start clients c start.log) ms (has_fresh c (suc n) k (omega arith) (omega arith)))

pub rows_snoc : (site : Site) (n k : ℕ) → fresh_rows site n (suc k) ≡ fresh_rows site n k ++ Some (fresh_seat site (n + k)) ∷ []
rows_snoc site n zero = ap (λ j. Some (fresh_seat site j) ∷ []) (let e : n ≡ n + 0 = omega arith in e)
rows_snoc site n (suc k) = ap (λ l. Some (fresh_seat site n) ∷ l) (rows_snoc site (suc n) k ∙ ap (λ j. fresh_rows site (suc n) k ++ Some (fresh_seat site j) ∷ []) (let e : suc n + k ≡ n + suc k = omega arith in e))

pub rows_length : (site : Site) (n k : ℕ) → length (fresh_rows site n k) ≡ k
rows_length site n zero = refl
rows_length site n (suc k) = let r = rows_length site (suc n) k in omega arith

pub rows_seated : (site : Site) (n k : ℕ) → AllSeated site.table (fresh_rows site n k)
rows_seated site n zero = All-nil (IsSeated site.table)
rows_seated site n (suc k) = All-cons (IsSeated site.table) (Some (fresh_seat site n)) (fresh_rows site (suc n) k) refl (rows_seated site (suc n) k)

pub rows_fit : (site : Site) (n k : ℕ) → RowsFit site n (fresh_rows site n k)
rows_fit site n zero = tt
rows_fit site n (suc k) = ((refl, refl), rows_fit site (suc n) k)

has_rows : (site : Site) (c n k : ℕ) → n ≤ c → c < n + k → Contains (marks_in (fresh_rows site n k)) (mark_at site c site.start.log)
has_rows site c n zero low high = absurd (omega arith)
has_rows site c n (suc k) low high = let m : Mark = mark_at site n site.start.log in let ms : List Mark = marks_in (fresh_rows site (suc n) k) in
    dite (ℕ_discrete c n) (λ e. stands_first m (mark_at site c site.start.log) ms (ap (λ j. mark_at site j site.start.log) e)) (λ e. stands_later m (mark_at site c site.start.log) ms (has_rows site c (suc n) k (omega arith) (omega arith)))

own_grows : (first : List Entry) (e : Entry) (es : List Entry) → length (own_entries first (client_of e)) < length (own_entries (first ++ e ∷ es) (client_of e))
own_grows first e es = let c = client_of e in let s = ap length (filter-append (λ x. client_of x == c) first (e ∷ es)) ∙ length-append (own_entries first c) (own_entries (e ∷ es) c) in
    let here : own_entries (e ∷ es) c ≡ e ∷ own_entries es c = rw (eq-eqb c c refl) refl in let l = ap length here in omega arith

unchanged_by : (first log : List Entry) (n : ℕ) → ((c : ℕ) → 0 < c → c ≤ n → own_entries log c ≡ own_entries first c) → (rest : List Entry) → first ++ rest ≡ log → All (HasSeat n) rest → log ≡ first
unchanged_by first log n h [] e a = sym e ∙ append-nil first
unchanged_by first log n h (x ∷ xs) e a = let seat = All-head (HasSeat n) x xs a in let same = ap length (h (client_of x) seat.0 seat.1) in let more = own_grows first x xs in let l = ap (λ w. length (own_entries w (client_of x))) e in absurd (omega arith)

-- a log in which no client has more entries than at the start is the one at the start
unchanged : (first log : List Entry) (n : ℕ) → Past first n log → ((c : ℕ) → 0 < c → c ≤ n → own_entries log c ≡ own_entries first c) → log ≡ first
unchanged first log n p h = unchanged_by first log n h p.0 p.1 p.2

pub nothing_done : (table : TableId) (start : Benched) (clients i : ℕ) (m m1 : PlaceState) (os : List (Option SeatView)) (b : Benched) → 0 < clients → i < clients → m ≡ dealt start clients i → os ≡ fresh_rows (site_at table start clients) 1 i
    → HasAll (m.0.marks ++ marks_in os) m1.0.marks → mark_of m1.0 ≡ mark_of m.0 → IsEnd (mark_of m1.0).start.trace m1.0.marks b → b ≡ start
nothing_done table start clients i m m1 os b some less e rows all same end = let site = site_at table start clients in
    let one : ℕ → Mark = λ c. mark start clients c start.log in let left : List Mark = fresh_marks start clients (i + 1) (clients - i) in
    let there : (c : ℕ) → 0 < c → c ≤ clients → Contains (left ++ marks_in os) (one c) = λ c low high. dite (dec_le c i)
    (λ l. Contains-append_right left (marks_in os) (one c) (subst (λ r. Contains (marks_in r) (one c)) (sym rows) (has_rows site c 1 i (omega arith) (omega arith))))
    (λ l. Contains-append_left left (marks_in os) (one c) (has_fresh start clients c (i + 1) (clients - i) (omega arith) (omega arith))) in
    let sees : (c : ℕ) → 0 < c → c ≤ clients → Sees (one c) b.log = λ c low high.
    All-contains (λ k. Sees k b.log) m1.0.marks (one c) end.seen (all (one c) (subst (λ (x : PlaceState). Contains (x.0.marks ++ marks_in os) (one c)) (sym e) (there c low high))) in
    let log : b.log ≡ start.log = unchanged start.log b.log clients (sees 1 (omega arith) (omega arith)).past (λ c low high. (sees c low high).same) in
    let k : ℕ = clients - (i + 1) in
    let trace : b.trace ≡ start.trace = end.trace_is ∙ (ap (λ (x : Mark). x.start.trace) same ∙ ap (λ (x : PlaceState). (mark_of x.0).start.trace) (e ∙ from_suc start clients i k (omega arith))) in
    λ j. record { trace = trace j; log = log j }

pub rows_next : (site : Site) (os new : List (Option SeatView)) (c : SeatView) (i : ℕ) → os ≡ fresh_rows site 1 i → new ≡ os ++ Some c ∷ [] → c ≡ fresh_seat site (i + 1) → new ≡ fresh_rows site 1 (i + 1)
rows_next site os new c i e push is = let one : 1 + i ≡ i + 1 = omega arith in let up : suc i ≡ i + 1 = omega arith in
    push ∙ (λ j. e j ++ Some (is j) ∷ []) ∙ ap (λ n. fresh_rows site 1 i ++ Some (fresh_seat site n) ∷ []) (sym one) ∙ sym (rows_snoc site 1 i) ∙ ap (fresh_rows site 1) up

pub seat_dealt : (table z : TableId) (start : Benched) (clients i : ℕ) (m : PlaceState) → z ≡ table → m ≡ (solo (mark start clients (i + 1) start.log) 0 idle, []) → seat_view z m ≡ fresh_seat (site_at table start clients) (i + 1)
seat_dealt table z start clients i m t e = λ j. seat_view (t j) (e j)

pub nothing_begun : (table : TableId) (start : Benched) (clients : ℕ) (m : PlaceState) (b : Benched) → 0 < clients → m ≡ dealt start clients 0 → IsEnd (mark_of m.0).start.trace m.0.marks b → b ≡ start
nothing_begun table start clients m b some e end = nothing_done table start clients 0 m m [] b some some e refl (λ x h. subst (λ l. Contains l x) (append-nil m.0.marks) h) refl end

pub opens_from : (start v : Benched) (clients n : ℕ) (xs : List W) → v ≡ start → n ≡ length start.log → xs ≡ Some start ∷ [] → IsLegal start.trace start.log → clients ≤ 32 → Kept v clients (opening (0 ∷ 0 ∷ n ∷ []) xs (opened v clients))
opens_from start v clients n xs e is slots legal few = let P : Benched × ℕ × List W → Type 0 = λ z. Kept z.0 clients (opening (0 ∷ 0 ∷ z.1 ∷ []) z.2 (opened z.0 clients)) in
    subst P (λ j. (sym e j, sym is j, sym slots j)) (opens start clients legal few)
