-- A row that gathers what the requests require, from its start to its end.
use Rattle.std.proofs.Common.{◌≡◌, ◌≢◌, ℕ, ◌+◌, ◌-◌, ◌*◌, ◌<◌, ◌≤◌, ◌⊎◌, set, Bool, false, Decides, le_refl, List, length, get_or, Option, Some, IfSome, Contains, take, refl, sym, ap, ◌∙◌, subst, arith, inl, inr}
use Rattle.std.proofs.lemmas.Bool.{cases_eq, cases_lt, false≢true}
use Rattle.std.proofs.lemmas.Grind.{get_or-set_at}
use Rattle.std.proofs.lemmas.List.{length-set, get_or-set_other, get_or_default}
use Rattle.std.proofs.lemmas.List.Elements.{Contains-get_or}
use Rattle.std.proofs.lemmas.Option.{same_Some, none-some, slice_get-get_or}
use Rattle.rapid_text.specs.Recording.{Recording}
use Rattle.rapid_text.specs.declared.event.Event.{Event}
use Rattle.rapid_text.specs.declared.event.Op.TheVariants.{Read, Acquire}
use Rattle.trace_rules.specs.Rules.{hold_count}
use Rattle.event_index.specs.Events.{op_at, thread_at}
use Rattle.event_index.specs.Lookups.{base_of, place_of}
use Rattle.event_index.proofs.CallerLemmas.{thread_here, events_of-length}
use Rattle.shb_clocks.proofs.PlaceLemmas.{le-from_place_of}
use Rattle.must_order.specs.Layout.{IsCounted}
use Rattle.must_order.specs.Held.{IsHeldFrom}
use Rattle.must_order.specs.MustBefore.{IsHeldBefore}
use Rattle.must_order.proofs.OwedLemmas.{acquired_lock}
use Rattle.must_order.proofs.RowLemmas.{total, sum-grows}
use Rattle.witness_search.specs.trace_order.Joining.{Joins}
use Rattle.witness_search.specs.trace_order.Layout.{IsBehind}
use Rattle.witness_search.proofs.trace_order.ClosingLemmas.{counted-grows}
use Rattle.witness_search.proofs.trace_order.LoopLemmas.{sum-bound}
use Rattle.lock_waits.specs.Gathering.{IsGathering, IsEndCounted, IsEnding, free, joined, IsBarred, CountsOneOf, none_visited}
use Rattle.lock_waits.specs.Required.{IsForeign, IsRequired, base, before, ended, IsUnended, AreRefuted}

-- a row of zeros counts nothing
nothing_counted : (T : List Event) (row : ℕ → ℕ) → ((t : ℕ) → row t ≡ 0) → (a : ℕ) → ¬ IsCounted T row a
nothing_counted T row zeros a (t, of, lt) = omega (arith, lt, zeros t)

pub IsGathering-start : (T : List Event) (es : List ℕ) (row : ℕ → ℕ) → ((t : ℕ) → row t ≡ 0) → IsGathering T es 0 row none_visited
IsGathering-start T es row zeros = record {
  sound = λ a counted. absurd (nothing_counted T row zeros a counted);
  down = λ a e must counted. absurd (nothing_counted T row zeros e counted);
  within = λ t. omega (arith, zeros t);
  le = λ t. omega arith;
  bases = λ i c lt is. absurd (omega arith);
  ended = λ e p has seen f. absurd (nothing_counted T none_visited (λ t. refl) p seen);
}

-- what is joined is required
pub IsGathering-joins : (T : List Event) (es : List ℕ) (n : ℕ) (row new visited : ℕ → ℕ) (these : ℕ → Type 0)
    → IsGathering T es n row visited → Joins T these row new → ((d : ℕ) → these d → IsRequired T es d) → IsGathering T es n new visited
IsGathering-joins T es n row new visited these is joins required = record {
  sound = λ a counted. elim (joins.sound a counted) [
    | inl old ↦ is.sound a old
    | inr up ↦ before a up.0 (required up.0 up.1) up.2
  ];
  down = joins.down is.down;
  within = joins.within is.within;
  le = λ t. omega (arith, is.le t, joins.grows t);
  bases = λ i c lt first. counted-grows T row new joins.grows c (is.bases i c lt first);
  ended = λ e p has seen f. let end = is.ended e p has seen f in (end.0, end.1, counted-grows T row new joins.grows end.0 end.2);
}

-- one more base is joined
pub IsGathering-base : (T : List Event) (es : List ℕ) (n : ℕ) (row new : ℕ → ℕ) (o : Option ℕ) → n < length es → o ≡ base_of T (get_or es n 0)
    → IsGathering T es n row none_visited → Joins T (λ d. o ≡ Some d) row new → IsGathering T es (n + 1) new none_visited
IsGathering-base T es n row new o lt known is joins =
    let more = IsGathering-joins T es n row new none_visited (λ d. o ≡ Some d) is joins (λ d it. base (get_or es n 0) d (Contains-get_or es n 0 lt) (sym known ∙ it)) in
    record {
      sound = more.sound;
      down = more.down;
      within = more.within;
      le = more.le;
      bases = λ i c low first.
          elim (cases_eq i n) [
            | inl one ↦ joins.has c (known ∙ sym (ap (λ k. base_of T (get_or es k 0)) one) ∙ first)
            | inr other ↦ more.bases i c (omega (arith, low, other)) first
          ];
      ended = more.ended;
    }

-- event p of thread t is the next to be visited
module _
    (T : List Event) (es : List ℕ) (n : ℕ) (row visited : ℕ → ℕ) (is : IsGathering T es n row visited)
    (p t : ℕ) (of : thread_at T p ≡ Some t) (next : place_of T p ≡ visited t) (behind : visited t < row t) where
  p_required : IsRequired T es p
  p_required = is.sound p (t, of, omega (arith, next, behind))

  -- if its section has no end, the requests are refuted
  pub IsUnended-barred : IsBarred T es p → IsUnended T es
  IsUnended-barred ((e, has, f), none) = record { request = e; start = p; has = has; required = p_required; foreign = f; never_ends = none }

  module _ (new after : ℕ → ℕ) (ending : IsEnding T es p row new) (more : after t ≡ visited t + 1) (others : (u : ℕ) → u ≢ t → after u ≡ visited u) where
    ending_grows : (u : ℕ) → row u ≤ new u
    ending_grows u = elim ending [ free none same ↦ omega (arith, same u) | joined r some ends joins ↦ joins.grows u ]

    joined_on : IsGathering T es n new visited
    joined_on =
        elim ending [
          | free none same ↦ record {
            sound = λ a counted. is.sound a (counted.0, counted.1, omega (arith, counted.2, same counted.0));
            down = λ a e must counted. counted-grows T row new (λ u. omega (arith, same u)) a (is.down a e must (counted.0, counted.1, omega (arith, counted.2, same counted.0)));
            within = λ u. omega (arith, same u, is.within u);
            le = λ u. omega (arith, same u, is.le u);
            bases = λ i c lt first. counted-grows T row new (λ u. omega (arith, same u)) c (is.bases i c lt first);
            ended = λ e q has seen f. let end = is.ended e q has seen f in (end.0, end.1, counted-grows T row new (λ u. omega (arith, same u)) end.0 end.2);
          }
          | joined r (e, has, f) ends joins ↦ IsGathering-joins T es n row new visited (λ d. Some r ≡ Some d) is joins (λ d it. ended e p d has p_required f (ends ∙ it))
        ]

    -- the visited event's section
    here_ended : (e : ℕ) → Contains es e → IsForeign T e p → IsEndCounted T new p
    here_ended e has f =
        elim ending [
          | free none same ↦ absurd (none (e, has, f))
          | joined r some ends joins ↦ (r, ends, joins.has r refl)
        ]

    visited_before : (q u : ℕ) → thread_at T q ≡ Some u → place_of T q < after u → (q ≡ p) ⊎ IsCounted T visited q
    visited_before q u of_q lt =
        elim (cases_eq u t) [
          | inr other ↦ inr (u, of_q, omega (arith, lt, others u other))
          | inl one ↦
              let of_t : thread_at T q ≡ Some t = of_q ∙ ap Some one in
              let value : after u ≡ visited t + 1 = ap after one ∙ more in
              elim (cases_lt (place_of T q) (visited t)) [
                | inl low ↦ inr (t, of_t, low)
                | inr high ↦
                    let le : q ≤ p = le-from_place_of T q p t of_t of (omega (arith, lt, value, next)) in
                    let ge : p ≤ q = le-from_place_of T p q t of of_t (omega (arith, high, next)) in
                    inl (omega (arith, le, ge))
              ]
        ]

    pub IsGathering-visit : IsGathering T es n new after
    IsGathering-visit = record {
      sound = joined_on.sound;
      down = joined_on.down;
      within = joined_on.within;
      le = λ u. elim (cases_eq u t) [
        | inl one ↦ omega (arith, ap after one, ap new one, more, behind, ending_grows t)
        | inr other ↦ omega (arith, others u other, joined_on.le u)
      ];
      bases = joined_on.bases;
      ended = λ e q has seen f. elim (visited_before q seen.0 seen.1 seen.2) [
        | inl one ↦ subst (IsEndCounted T new) (sym one) (here_ended e has (subst (IsForeign T e) one f))
        | inr old ↦ joined_on.ended e q has old f
      ];
    }

-- at the end all counted events were visited, so the row counts all that is required
module _ (T : List Event) (es : List ℕ) (row visited : ℕ → ℕ) (is : IsGathering T es (length es) row visited) (all : (t : ℕ) → row t ≤ visited t) where
  all_ended : (e p : ℕ) → Contains es e → IsCounted T row p → IsForeign T e p → IsEndCounted T row p
  all_ended e p has counted f = is.ended e p has (counted-grows T row visited all p counted) f

  pub required_counted : (d : ℕ) → IsRequired T es d → IsCounted T row d
  required_counted _ (base e c (k, lt, at) first) =
      is.bases k c lt (ap (base_of T) (sym (get_or_default es k e 0 lt) ∙ at) ∙ first)
  required_counted _ (before d e required must) = is.down d e must (required_counted e required)
  required_counted _ (ended e p r has required f ends) =
      let end = all_ended e p has (required_counted p required) f in
      let one : end.0 ≡ r = same_Some end.0 r (sym end.1 ∙ ends) in
      subst (IsCounted T row) one end.2

  never_unended : ¬ IsUnended T es
  never_unended u =
      let end = all_ended u.request u.start u.has (required_counted u.start u.required) u.foreign in
      none-some end.0 (sym u.never_ends ∙ end.1)

  -- so the requests are refuted exactly if it counts one of them
  pub Decides-refuted : (b : Bool) → Decides b (CountsOneOf T row es) → Decides b (AreRefuted T es)
  Decides-refuted b decides = (
    λ so. let one = decides.0 so in inl (one.0, one.1, is.sound one.0 one.2),
    λ refuted. elim refuted [
      | inl (e, has, required) ↦ decides.1 (e, has, required_counted e required)
      | inr unended ↦ absurd (never_unended unended)
    ],
  )

-- The loop, by its lists.
module _
    (T : List Event) (es : List ℕ) (n : ℕ) (row new visited : List ℕ)
    (is : IsGathering T es n (λ t. get_or row t 0) (λ t. get_or visited t 0))
    (p t width : ℕ) (len : length visited ≡ width) (wide : length row ≡ width) (of : thread_at T p ≡ Some t)
    (o : Option ℕ) (known : o ≡ Some t) (found : IfSome o (IsBehind row visited))
    (k : ℕ) (read : k ≡ get_or visited t k) (place : place_of T p ≡ k) where
  is_behind : IsBehind row visited t
  is_behind = subst (λ (q : Option ℕ). IfSome q (IsBehind row visited)) known found

  low : t < length visited
  low = omega (arith, is_behind.0, len, wide)

  value : (m : ℕ) → m ≡ get_or visited t m → m ≡ get_or visited t 0
  value m is_read = is_read ∙ get_or_default visited t m 0 low

  pub visited_fits : (m : ℕ) → m ≡ get_or visited t m → m + 1 ≤ length T
  visited_fits m is_read = omega (arith, value m is_read, is_behind.1, is.within t, events_of-length T t)

  pub unended_here : IsBarred T es p → IsUnended T es
  unended_here barred = IsUnended-barred T es n (λ u. get_or row u 0) (λ u. get_or visited u 0) is p t of (place ∙ value k read) is_behind.1 barred

  module _ (m : ℕ) (also : m ≡ get_or visited t m) (ending : IsEnding T es p (λ u. get_or row u 0) (λ u. get_or new u 0)) where
    more : get_or (set visited t (m + 1)) t 0 ≡ get_or visited t 0 + 1
    more = get_or-set_at visited t t (m + 1) 0 refl low ∙ ap (λ x. x + 1) (value m also)

    pub advanced : IsGathering T es n (λ u. get_or new u 0) (λ u. get_or (set visited t (m + 1)) u 0)
    advanced =
        IsGathering-visit T es n (λ u. get_or row u 0) (λ u. get_or visited u 0) is p t of (place ∙ value k read) is_behind.1
        (λ u. get_or new u 0) (λ u. get_or (set visited t (m + 1)) u 0) ending more (λ u other. get_or-set_other visited t u (m + 1) 0 other)

    pub smaller : width * length T - total (set visited t (m + 1)) < width * length T - total visited
    smaller =
        let size : length (set visited t (m + 1)) ≡ length visited = length-set visited t (m + 1) in
        let bound : total (set visited t (m + 1)) ≤ length (set visited t (m + 1)) * length T =
        sum-bound (set visited t (m + 1)) (length T) (λ u. omega (arith, advanced.le u, advanced.within u, events_of-length T u)) in
        let limit : total (set visited t (m + 1)) ≤ width * length T = subst (λ (w : ℕ). total (set visited t (m + 1)) ≤ w * length T) (size ∙ len) bound in
        let grown : total visited < total (set visited t (m + 1)) =
        sum-grows visited (set visited t (m + 1)) t size
        (λ u lt. elim (cases_eq u t) [
          | inl one ↦ omega (arith, more, ap (λ w. get_or visited w 0) one, ap (λ w. get_or (set visited t (m + 1)) w 0) one)
          | inr other ↦ omega (arith, get_or-set_other visited t u (m + 1) 0 other)
        ])
        low (omega (arith, more)) in
        omega (arith, grown, limit)

pub IsGathering-all : (T : List Event) (es : List ℕ) (n : ℕ) (row visited : ℕ → ℕ) → IsGathering T es n row visited → ((t : ℕ) → row t ≤ visited t) → IsGathering T es n row row
IsGathering-all T es n row visited is all = record {
  sound = is.sound;
  down = is.down;
  within = is.within;
  le = λ t. omega arith;
  bases = is.bases;
  ended = λ e p has counted f. is.ended e p has (counted-grows T row visited all p counted) f;
}

-- a request whose thread holds the lock of another thread's acquire
module _ (T : List Event) (e p l : ℕ) (takes : op_at T p ≡ Some (Acquire l)) where
  pub IsForeign-held : p < length T → thread_at T e ≢ thread_at T p → IsHeldBefore T e l → IsForeign T e p
  IsForeign-held within apart (t, of, holds) =
      let v : Event = get_or T p (record { thread = 0; op = Read 0 }) in
      let of_p : thread_at T p ≡ Some v.thread = thread_here T p v (slice_get-get_or T p _ within) in
      record {
        lock = l;
        owner = v.thread;
        thread = t;
        acquires = takes;
        of_owner = of_p;
        of_thread = of;
        other = λ same. apart (of ∙ ap Some (sym same) ∙ sym of_p);
        holds = holds;
      }

  pub held-foreign : IsForeign T e p → IsHeldBefore T e l
  held-foreign f =
      let one : f.lock ≡ l = acquired_lock T p f.lock l f.acquires takes in
      (f.thread, f.of_thread, subst (λ (k : ℕ). 0 < hold_count (take e T) f.thread k) one f.holds)

-- of two threads
pub foreign-apart : (T : List Event) (e p : ℕ) → IsForeign T e p → thread_at T e ≢ thread_at T p
foreign-apart T e p f same = f.other (same_Some f.owner f.thread (sym f.of_owner ∙ sym same ∙ f.of_thread))

-- what a test that fails says
pub fails : (P : Type 0) (b : Bool) → Decides b P → b ≡ false → ¬ P
fails P b decides not_so p = false≢true (sym not_so ∙ decides.1 p)

-- before any visit
pub IsGathering-visited : (T : List Event) (es : List ℕ) (n : ℕ) (row visited : ℕ → ℕ) → ((t : ℕ) → visited t ≡ 0) → IsGathering T es n row none_visited → IsGathering T es n row visited
IsGathering-visited T es n row visited zeros is = record {
  sound = is.sound;
  down = is.down;
  within = is.within;
  le = λ t. omega (arith, zeros t);
  bases = is.bases;
  ended = λ e p has seen f. absurd (nothing_counted T visited zeros p seen);
}

-- what is read in a trace r that is read as q
module _ (r q : Recording) (same : r ≡ q) (e l : ℕ) where
  pub held_seen : (p : ℕ) → IsHeldFrom r.events e l p → IsHeldBefore q.events e l
  held_seen p since =
      subst (λ (s : Recording). IsHeldBefore s.events e l) same (since.thread, since.of, since.held e since.earlier (le_refl e))

  pub not_held_seen : ¬ IsHeldBefore r.events e l → ¬ IsHeldBefore q.events e l
  not_held_seen unheld held = unheld (subst (λ (s : Recording). IsHeldBefore s.events e l) (sym same) held)

pub counts_read : (T : List Event) (es row xs : List ℕ) → xs ≡ row → (b : Bool) → Decides b (CountsOneOf T (λ t. get_or xs t 0) es) → Decides b (CountsOneOf T (λ t. get_or row t 0) es)
counts_read T es row xs is b decides = subst (λ (ys : List ℕ). Decides b (CountsOneOf T (λ t. get_or ys t 0) es)) is decides
