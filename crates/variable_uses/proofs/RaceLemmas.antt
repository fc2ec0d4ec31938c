-- The sides of rows by a race, and the table by the keys of events in the place of the numbers of rows.
use Rattle.std.proofs.Common.{◌≡◌, ℕ, ◌+◌, ◌-◌, ◌<◌, ◌≤◌, ◌&&◌, nat_lt, Bool, true, false, List, Option, Some, Vec, length, slice_index, sym, ap, ◌∙◌, subst, arith, inl, inr, eq-eqb, eqb-true}
use Rattle.std.specs.List.{slice_get, slice_index_or}
use Rattle.std.specs.declared.alloc.Global.{Global}
use Rattle.std.proofs.Math.Path.{fun_ext}
use Rattle.std.proofs.lemmas.Bool.{cases_lt, and_parts, le-ltb, ltb-true}
use Rattle.std.proofs.lemmas.List.Elements.{All-get_or}
use Rattle.std.proofs.lemmas.Option.{slice_get_within}
use Rattle.rapid_text.specs.Recording.{Recording}
use Rattle.rapid_text.specs.declared.event.Event.{Event}
use Rattle.trace_rules.specs.Rules.{IsDisciplined}
use Rattle.event_index.specs.Events.{thread_at}
use Rattle.event_index.proofs.CallerLemmas.{thread_here}
use Rattle.variable_uses.specs.Edges.{AreEdges, AreOfRace, AreSidesBefore, AreWithin}
use Rattle.variable_uses.specs.Ends.{AreNamedBefore, is_end_of}
use Rattle.variable_uses.specs.Numbers.{AreCountsBefore, AreNumbers, has_number}
use Rattle.variable_uses.specs.Order.{IsSide}
use Rattle.variable_uses.specs.Parts.{AreHolds, IsRace}
use Rattle.variable_uses.specs.Rows.{count_in, has_key, threads_in}
use Rattle.variable_uses.specs.Seen.{AreThreadsBefore}
use Rattle.variable_uses.specs.Table.{AreColumns, is_named_row, is_of_race, locks_held}
use Rattle.variable_uses.specs.declared.columns.LockCount.{LockCount}
use Rattle.variable_uses.specs.declared.numbering.Numbering.{Numbering}
use Rattle.variable_uses.specs.declared.order.Side.{Side}
use Rattle.variable_uses.proofs.NumberLemmas.{beyond}
use Rattle.variable_uses.proofs.OrderLemmas.{after_edges, after_race, before_edges, before_race}
use Rattle.variable_uses.proofs.TableLemmas.{get_some}

-- an event with a number
within_numbers : (numbers : List ℕ) (e : ℕ) → 0 < slice_index numbers e → e < length numbers
within_numbers numbers e positive = elim (cases_lt e (length numbers)) [ inl lt ↦ lt | inr ge ↦ absurd (let none = beyond numbers e ge in omega (arith, none, positive)) ]

within_row : (numbers : List ℕ) (k e : ℕ) → has_number numbers k e ≡ true → e < length numbers
within_row numbers k e mine = within_numbers numbers e (let is = eqb-true (slice_index numbers e) (k + 1) mine in omega (arith, is))

within_end : (numbers : List ℕ) (flags : List Bool) (e : ℕ) → is_end_of numbers flags e ≡ true → e < length numbers
within_end numbers flags e is = within_numbers numbers e (ltb-true 0 (slice_index numbers e) ((and_parts (nat_lt 0 (slice_index numbers e)) (slice_index_or flags (slice_index numbers e - 1) false) is).0))

-- the entries of tables are events
pub AreWithin-race : (T : List Event) (is_race : ℕ → Bool) (table : List (Option ℕ)) → AreOfRace T is_race (length T) table → AreWithin T table
AreWithin-race T is_race table are t f at = (are t f at).0

-- the side of a row
module _ (T : List Event) (rules : IsDisciplined T) (numbers : List ℕ) (flags : List Bool) (len : length numbers ≡ length T) (firsts lasts : List (Option ℕ)) (are : AreEdges T (is_end_of numbers flags) (length T) firsts lasts) where
  real : (d : ℕ) → is_end_of numbers flags d ≡ true → (t : ℕ) × (thread_at T d ≡ Some t)
  real d is =
      let lt = within_end numbers flags d is in
      let found = get_some T d (omega (arith, lt, len)) in
      (found.0.thread, thread_here T d found.0 found.1)

  pub IsSide-edges : (sides : List Side) → AreSidesBefore T numbers (length numbers) firsts lasts sides → (k : ℕ) (side : Side) → slice_get sides k ≡ Some side → IsSide T (has_number numbers k) (is_end_of numbers flags) side
  IsSide-edges sides said k side at = record {
    before = (
      λ so e d mine race. before_race T rules (is_end_of numbers flags) firsts lasts are real e ((said.before k side at).0 so e (within_row numbers k e mine) mine) d race,
      λ all. (said.before k side at).1 (λ e lt mine. before_edges T rules (is_end_of numbers flags) firsts lasts are real e (λ d race. all e d mine race)),
    );
    after = (
      λ so e d mine race. after_race T rules (is_end_of numbers flags) firsts lasts are real e ((said.after k side at).0 so e (within_row numbers k e mine) mine) d race,
      λ all. (said.after k side at).1 (λ e lt mine. after_edges T rules (is_end_of numbers flags) firsts lasts are real e (λ d race. all e d mine race)),
    );
  }

-- rows by the keys of their events
module _ (keys : List ℕ) (s : Numbering) (are : AreNumbers keys s) (numbers : List ℕ) (same : numbers ≡ s.numbers.items) where
  test_same : (k : ℕ) → k < length s.firsts.items → has_number numbers k ≡ has_key keys (slice_index keys (slice_index s.firsts.items k))
  test_same k lt = ap (λ ns. has_number ns k) same ∙ fun_ext (λ e. are.tests k e lt)

  positive_at : (e : ℕ) → nat_lt 0 (slice_index numbers e) ≡ nat_lt 0 (slice_index keys e)
  positive_at e = ap (λ ns. nat_lt 0 (slice_index ns e)) same ∙ are.positive e

  module _ (named flags : List Bool) (n : ℕ) (len : length keys ≡ n) (flags_len : length flags ≡ length s.firsts.items) (said : AreNamedBefore numbers named n flags) where
    flag_is : (e : ℕ) → 0 < slice_index numbers e → slice_index_or flags (slice_index numbers e - 1) false ≡ is_named_row (length keys) named (has_key keys (slice_index keys e))
    flag_is e positive =
        let k : ℕ = slice_index numbers e - 1 in
        let there : 0 < slice_index s.numbers.items e = let is : slice_index numbers e ≡ slice_index s.numbers.items e = ap (λ ns. slice_index ns e) same in omega (arith, is, positive) in
        let few : slice_index s.numbers.items e ≤ length s.firsts.items = All-get_or (λ m. m ≤ length s.firsts.items) s.numbers.items e 0 (within_numbers s.numbers.items e there) are.few in
        let lt : slice_index numbers e - 1 < length s.firsts.items = let is : slice_index numbers e ≡ slice_index s.numbers.items e = ap (λ ns. slice_index ns e) same in omega (arith, is, positive, few) in
        let mine : has_number numbers k e ≡ true = eq-eqb (slice_index numbers e) (k + 1) (omega (arith, positive)) in
        let key : slice_index keys e ≡ slice_index keys (slice_index s.firsts.items k) = eqb-true (slice_index keys e) (slice_index keys (slice_index s.firsts.items k)) (sym (ap (λ test. test e) (test_same k lt)) ∙ mine) in
        said k (omega (arith, lt, flags_len)) ∙ ap (is_named_row n named) (test_same k lt) ∙ ap (λ key. is_named_row n named (has_key keys key)) (sym key)
        ∙ ap (λ m. is_named_row m named (has_key keys (slice_index keys e))) (sym len)

    end_at : (e : ℕ) → is_end_of numbers flags e ≡ is_of_race keys named e
    end_at e =
        elim (cases_lt 0 (slice_index numbers e)) [
          | inl positive ↦
              ap (λ b. nat_lt 0 (slice_index numbers e) && b) (flag_is e positive) ∙ ap (λ b. b && is_named_row (length keys) named (has_key keys (slice_index keys e))) (positive_at e)
          | inr none ↦
              let not_numbered : nat_lt 0 (slice_index numbers e) ≡ false = le-ltb 0 (slice_index numbers e) none in
              ap (λ b. b && slice_index_or flags (slice_index numbers e - 1) false) not_numbered
              ∙ sym (ap (λ b. b && is_named_row (length keys) named (has_key keys (slice_index keys e))) (sym (positive_at e) ∙ not_numbered))
        ]

    end_same : is_end_of numbers flags ≡ is_of_race keys named
    end_same = fun_ext end_at

  -- the table
  module _ (r : Recording) (named : List Bool) (rows : ℕ) (rows_are : rows ≡ length s.firsts.items) (len : length keys ≡ length r.events) (numbers_len : length numbers ≡ length r.events)
      (counts threads : Vec ℕ Global) (flags : Vec Bool Global) (sides : Vec Side Global) (locks : Vec (Vec LockCount Global) Global) (totals : Vec LockCount Global)
      (counts_len : length counts.items ≡ rows) (counted : AreCountsBefore numbers (length numbers) counts.items)
      (threads_len : length threads.items ≡ rows) (seen : AreThreadsBefore r.events numbers (length r.threads) threads.items)
      (holds : AreHolds r numbers rows (locks, totals)) (race : IsRace r numbers named rows (flags, sides)) where
    pub AreColumns-parts : AreColumns r keys named (record { firsts = s.firsts; counts = counts; threads = threads; named = flags; sides = sides; locks = locks; totals = totals })
    AreColumns-parts = record {
      firsts = are.firsts;
      counts_len = counts_len ∙ rows_are;
      threads_len = threads_len ∙ rows_are;
      named_len = race.len ∙ rows_are;
      sides_len = race.sides_len ∙ rows_are;
      locks_len = holds.len ∙ rows_are;
      counts = λ k lt. counted k (omega (arith, lt, counts_len, rows_are)) ∙ ap (count_in (length numbers)) (test_same k lt) ∙ ap (λ n. count_in n (has_key keys (slice_index keys (slice_index s.firsts.items k)))) numbers_len;
      threads = λ k lt. seen k (omega (arith, lt, threads_len, rows_are)) ∙ ap (threads_in r.events (length r.threads)) (test_same k lt);
      named_rows = λ k lt. race.flags k (let flags_len = race.len in omega (arith, lt, flags_len, rows_are)) ∙ ap (is_named_row (length r.events) named) (test_same k lt);
      sides = λ k side at.
          let lt : k < length s.firsts.items = let inside = slice_get_within sides.items k side at in let sides_len = race.sides_len in omega (arith, inside, sides_len, rows_are) in
          let is = race.sides k side at in
          subst (λ test. IsSide r.events test (is_of_race keys named) side) (test_same k lt)
          (subst (λ ends. IsSide r.events (has_number numbers k) ends side) (end_same named flags.items (length r.events) len (race.len ∙ rows_are) race.flags) is);
      locks = λ k v at.
          let lt : k < length s.firsts.items = let inside = slice_get_within locks.items k v at in let locks_len = holds.len in omega (arith, inside, locks_len, rows_are) in
          holds.locks k v at ∙ ap (locks_held r) (test_same k lt);
      totals = holds.totals ∙ ap (locks_held r) (fun_ext positive_at);
    }
