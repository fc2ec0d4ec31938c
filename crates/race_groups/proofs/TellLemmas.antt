-- What the tests of a conflicting pair tell: its kind.
use Rattle.std.proofs.Common.{◌≡◌, ℕ, ◌+◌, ◌*◌, ◌/◌, ◌<◌, ◌≤◌, ◌↔◌, Bool, true, false, ◌&&◌, IsTrue, List, [], ◌∷◌, Vec, length, All, count_by, sum_by, cond, add-one, map, Option, Some, refl, sym, ap, ◌∙◌, subst, arith, inl, inr, slice_index, get_or}
use Rattle.std.specs.List.{slice_get, flat_map}
use Rattle.std.proofs.Math.Nat.{mul-div_cancel_left}
use Rattle.std.proofs.lemmas.List.Sums.{sum_by-cons}
use Rattle.std.specs.declared.alloc.Global.{Global}
use Rattle.std.proofs.lemmas.Bool.{true≢false, cases_Bool}
use Rattle.std.proofs.lemmas.Option.{same_Some, slice_get_within, slice_get-get_or, get_or_from_slice_get}
use Rattle.std.proofs.lemmas.List.Elements.{All-filter, All-weaker, All-get_or, filter_passes, All-nil, All-cons, All-head, All-tail, All-append, All-map}
use Rattle.rapid_text.specs.Recording.{Recording, IsWellFormed, IsNamed, IsNamedOp}
use Rattle.rapid_text.specs.declared.event.Event.{Event}
use Rattle.rapid_text.specs.declared.event.Op.TheVariants.{Acquire}
use Rattle.trace_rules.specs.Rules.{IsDisciplined}
use Rattle.event_index.specs.Lookups.{before, count_before}
use Rattle.event_index.specs.Relations.{IsConflicting, is_access, is_conflict}
use Rattle.event_index.proofs.CallerLemmas.{thread_here, thread_within, op_event, Decides-is_conflict}
use Rattle.shb_clocks.specs.Candidates.{IsCandidatePair}
use Rattle.must_order.specs.Kinds.{IsKind}
use Rattle.must_order.specs.MustBefore.{IsForced, IsGuarded, IsHeldBefore, IsSharedBefore}
use Rattle.must_order.specs.declared.kind.Kind.{Kind}
use Rattle.must_order.specs.declared.kind.Kind.TheVariants.{Candidate, Open, Guarded, Forced}
use Rattle.must_order.proofs.CallerLemmas.{held_since}
use Rattle.race_groups.specs.Classes.{AreClasses, AreLocks, is_kept_pair, keeps_by}
use Rattle.indexmap.specs.IndexMap.{IndexMap, get}
use Rattle.race_groups.specs.Counts.{AreCounted}
use Rattle.race_groups.specs.Cuts.{is_cut_off}
use Rattle.race_groups.specs.Ends.{IsKnownBefore, known_before}
use Rattle.race_groups.specs.Groups.{pairs_below, conflicts, group_of, is_between, kind_by, IsCountOf}
use Rattle.race_groups.specs.Holding.{AreLocksOf, IsLent, IsTakenBy}
use Rattle.race_groups.specs.Kinds.{is_kind, kind_count, IsRowAt, IsDifference}
use Rattle.race_groups.specs.Rows.{Part, of_all, of_candidates, of_ordered, of_guarded, part, count_at, same_places}
use Rattle.race_groups.specs.declared.rows.Sums.{Sums}
use Rattle.race_groups.specs.declared.kinds.Counts.{Counts}
use Rattle.race_groups.specs.Shared.{keeps_shared, is_sharing_by, is_meeting}
use Rattle.race_groups.specs.declared.class.Class.{Class}
use Rattle.race_groups.proofs.CutLemmas.{cut_off_is}
use Rattle.race_groups.proofs.HeldLemmas.{meeting_has, has_meeting}
use Rattle.race_groups.proofs.EarlierLemmas.{IsCutOf-earlier}
use Rattle.race_groups.proofs.KindLemmas.{kinds_are}
use Rattle.race_groups.proofs.SumLemmas.{sum_by_same}
use Rattle.race_groups.proofs.ThreadLemmas.{All-before}
use Rattle.race_groups.proofs.PartLemmas.{forced_is_known}
use Rattle.race_groups.proofs.RowLemmas.{count_at-there}

-- half of what is twice
half_of : (n : ℕ) → 2 * n / 2 ≡ n
half_of n = mul-div_cancel_left n (omega arith)

-- all pairs of classes are kept
abbrev keeps_all : Class → Class → Bool
keeps_all i j = true

-- from the three tests of a pair to its kind
module _ (C F G L : Type 0) where
  pub candidate_tells : (k f g : Bool) → (k ≡ false) ↔ C → IsTrue (is_kind Candidate (kind_by k f g)) ↔ C
  candidate_tells false f g c = (λ _. c.0 refl, λ _. refl)
  candidate_tells true true g c = (λ h. absurd (true≢false (sym h)), λ is. absurd (true≢false (c.1 is)))
  candidate_tells true false true c = (λ h. absurd (true≢false (sym h)), λ is. absurd (true≢false (c.1 is)))
  candidate_tells true false false c = (λ h. absurd (true≢false (sym h)), λ is. absurd (true≢false (c.1 is)))

  pub forced_tells : (k f g : Bool) → (k ≡ false) ↔ C → (f ≡ true) ↔ F → IsTrue (is_kind Forced (kind_by k f g)) ↔ ((¬ C) × F)
  forced_tells false f g c h = (λ i. absurd (true≢false (sym i)), λ is. absurd (is.0 (c.0 refl)))
  forced_tells true true g c h = (λ _. (λ is. true≢false (c.1 is), h.0 refl), λ _. refl)
  forced_tells true false true c h = (λ i. absurd (true≢false (sym i)), λ is. absurd (true≢false (sym (h.1 is.1))))
  forced_tells true false false c h = (λ i. absurd (true≢false (sym i)), λ is. absurd (true≢false (sym (h.1 is.1))))

  pub guarded_tells : (k f g : Bool) → (k ≡ false) ↔ C → (f ≡ true) ↔ F → (g ≡ true) ↔ G → IsTrue (is_kind Guarded (kind_by k f g)) ↔ ((¬ C) × (¬ F) × G)
  guarded_tells false f g c h s = (λ i. absurd (true≢false (sym i)), λ is. absurd (is.0 (c.0 refl)))
  guarded_tells true true g c h s = (λ i. absurd (true≢false (sym i)), λ is. absurd (is.1 (h.0 refl)))
  guarded_tells true false true c h s = (λ _. (λ is. true≢false (c.1 is), λ is. true≢false (sym (h.1 is)), s.0 refl), λ _. refl)
  guarded_tells true false false c h s = (λ i. absurd (true≢false (sym i)), λ is. absurd (true≢false (sym (s.1 is.2))))

  pub open_tells : (k f g : Bool) → (k ≡ false) ↔ C → (f ≡ true) ↔ F → (g ≡ true) ↔ G → L ↔ (¬ G) → IsTrue (is_kind Open (kind_by k f g)) ↔ ((¬ C) × (¬ F) × L)
  open_tells false f g c h s l = (λ i. absurd (true≢false (sym i)), λ is. absurd (is.0 (c.0 refl)))
  open_tells true true g c h s l = (λ i. absurd (true≢false (sym i)), λ is. absurd (is.1 (h.0 refl)))
  open_tells true false true c h s l = (λ i. absurd (true≢false (sym i)), λ is. absurd (l.0 is.2 (s.0 refl)))
  open_tells true false false c h s l = (λ _. (λ is. true≢false (c.1 is), λ is. true≢false (sym (h.1 is)), l.1 (λ is. true≢false (sym (s.1 is)))), λ _. refl)

sharing_by : (o k : Option (Vec ℕ Global)) (v w : Vec ℕ Global) → o ≡ Some v → k ≡ Some w → is_sharing_by o k ≡ is_meeting v.items w.items
sharing_by o k v w is also = ap (λ x. is_sharing_by x k) is ∙ ap (is_sharing_by (Some v)) also

kept_by : (keeps : Class → Class → Bool) (o k : Option Class) (i j : Class) → o ≡ Some i → k ≡ Some j → keeps_by keeps o k ≡ keeps i j
kept_by keeps o k i j is also = ap (λ x. keeps_by keeps x k) is ∙ ap (keeps_by keeps (Some i)) also

module _ (r : Recording) (formed : IsWellFormed r) (rules : IsDisciplined r.events) where
  -- a lock that is held has a name
  lock_named : (e l : ℕ) → IsHeldBefore r.events e l → l < length r.locks
  lock_named e l holds =
      let within = thread_within r.events e holds.0 holds.1 in
      let since = held_since r.events rules e holds.0 l (omega (arith, within)) holds.2 in
      let v = op_event r.events since.0 (Acquire l) since.1.outer.acquires in
      let named : IsNamed r v.0 =
      subst (IsNamed r) (get_or_from_slice_get r.events since.0 v.0 v.0 v.1) (All-get_or (IsNamed r) r.events since.0 v.0 (slice_get_within r.events since.0 v.0 v.1) formed.named)
      in subst (IsNamedOp r) v.2 named.1

  -- who holds a lock has taken it
  taken_by : (e l : ℕ) (holds : IsHeldBefore r.events e l) → IsTakenBy r.events holds.0 l
  taken_by e l holds =
      let within = thread_within r.events e holds.0 holds.1 in
      let since = held_since r.events rules e holds.0 l (omega (arith, within)) holds.2 in
      (since.0, since.1.outer.of, since.1.outer.acquires)

  -- more than one thread takes a lock that two events hold which conflict
  lent_by : (a b l : ℕ) → IsConflicting r.events a b → IsSharedBefore r.events a b l → IsLent r.events l
  lent_by a b l conflict both =
      let one : conflict.v.thread ≡ both.0.0 = same_Some conflict.v.thread both.0.0 (sym (thread_here r.events a conflict.v conflict.first) ∙ both.0.1) in
      let other : conflict.w.thread ≡ both.1.0 = same_Some conflict.w.thread both.1.0 (sym (thread_here r.events b conflict.w conflict.second) ∙ both.1.1) in
      (both.0.0, both.1.0, λ same. conflict.clash.threads (one ∙ same ∙ sym other), taken_by a l both.0, taken_by b l both.1)

  -- no lock is shared, said of all locks that have a name
  pub shared_by_none : (a b : ℕ) → ((l : ℕ) → l < length r.locks → ¬ IsSharedBefore r.events a b l) ↔ (¬ IsGuarded r.events a b)
  shared_by_none a b = (
    (λ none guarded. let both : IsSharedBefore r.events a b guarded.0 = guarded.1 in none guarded.0 (lock_named a guarded.0 both.0) both),
    λ not_guarded l lt shared. not_guarded (l, shared),
  )

  module _ (place : ℕ → ℕ) (classes : List ℕ) (infos : List Class) (lists : List (Vec ℕ Global)) (are : AreClasses r.events place classes infos) (locks : AreLocks r.events lists classes infos) where
    -- an access has a class, which names its locks
    class_of : (e x : ℕ) (v : Event) → slice_get r.events e ≡ Some v → is_access x v.op ≡ true
        → (i : Class) × (slice_get infos (slice_index classes e) ≡ Some i) × AreLocksOf r.events lists e i.held
    class_of e x v at accessed =
        let within = slice_get_within r.events e v at in
        let some : Class = record { place = 0; op = v.op; held = 0 } in
        let low : slice_index classes e < length infos = All-get_or (λ c. c < length infos) classes e 0 (omega (arith, within, are.len)) are.within in
        let info = slice_get-get_or infos (slice_index classes e) some low in
        let i : Class = get_or infos (slice_index classes e) some in
        (i, info, locks e x i within info (ap (is_access x) (are.op e v i at info) ∙ accessed))

    -- two accesses are of classes that share a lock exactly where they are guarded
    pub sharing_tells : (a b : ℕ) → IsConflicting r.events a b → (is_kept_pair (keeps_shared lists) classes infos a b ≡ true) ↔ IsGuarded r.events a b
    sharing_tells a b conflict =
        let one = class_of a conflict.clash.variable conflict.v conflict.first conflict.clash.first in
        let other = class_of b conflict.clash.variable conflict.w conflict.second conflict.clash.second in
        let mine = one.2 in
        let theirs = other.2 in
        let is : is_kept_pair (keeps_shared lists) classes infos a b ≡ is_meeting mine.locks.items theirs.locks.items =
        kept_by (keeps_shared lists) (slice_get infos (slice_index classes a)) (slice_get infos (slice_index classes b)) one.0 other.0 one.1 other.1
        ∙ sharing_by (slice_get lists one.0.held) (slice_get lists other.0.held) mine.locks theirs.locks mine.at theirs.at
        in (
          (λ holds.
              let found = meeting_has mine.locks.items theirs.locks.items (sym is ∙ holds) in
              (found.0, (mine.held found.0 found.1, theirs.held found.0 found.2))),
          λ guarded.
              let both : IsSharedBefore r.events a b guarded.0 = guarded.1 in
              let lent = lent_by a b guarded.0 conflict both in
              is ∙ has_meeting mine.locks.items theirs.locks.items guarded.0 (mine.lent guarded.0 both.0 lent) (theirs.lent guarded.0 both.1 lent),
        )

All-flat_map : {X Y : Type 0} (P : Y → Type 0) (g : X → List Y) (xs : List X) → All (λ x. All P (g x)) xs → All P (flat_map g xs)
All-flat_map P g [] all = All-nil P
All-flat_map P g (x ∷ xs) all =
    All-append P (g x) (flat_map g xs) (All-head (λ y. All P (g y)) x xs all) (All-flat_map P g xs (All-tail (λ y. All P (g y)) x xs all))

-- both of what holds of all
pub All-both : {X : Type 0} (P Q : X → Type 0) (xs : List X) → All P xs → All Q xs → All (λ x. P x × Q x) xs
All-both P Q [] all also = All-nil (λ x. P x × Q x)
All-both P Q (x ∷ xs) all also =
    All-cons (λ y. P y × Q y) x xs (All-head P x xs all, All-head Q x xs also) (All-both P Q xs (All-tail P x xs all) (All-tail Q x xs also))

all_pairs : (n : ℕ) → All (λ e. (e.0 < e.1) × (e.1 < n)) (pairs_below n)
all_pairs n =
    let P : ℕ × ℕ → Type 0 = λ e. (e.0 < e.1) × (e.1 < n) in
    All-flat_map P (λ b. map (λ a. (a, b)) (before b)) (before n)
    (All-before (λ b. All P (map (λ a. (a, b)) (before b))) n (λ b lt. All-map P (λ a. (a, b)) (before b) (All-before (λ a. (a < b) × (b < n)) b (λ a low. (low, lt)))))

-- What holds of each pair of a group.
pub record IsPair (T : List Event) (a b : ℕ) : Type 0 where
  pub conflict : IsConflicting T a b
  pub earlier : a < b
  pub within : b < length T

pub group_pairs : (T : List Event) (place : ℕ → ℕ) (p q : ℕ) → All (λ e. IsPair T e.0 e.1) (group_of T place p q)
group_pairs T place p q =
    let C : ℕ × ℕ → Type 0 = λ e. is_conflict T e.0 e.1 ≡ true in
    let P : ℕ × ℕ → Type 0 = λ e. (e.0 < e.1) × (e.1 < length T) in
    let test : ℕ × ℕ → Bool = λ e. is_conflict T e.0 e.1 in
    All-filter (λ e. is_between p q (place e.0) (place e.1)) (λ e. IsPair T e.0 e.1) (conflicts T)
    (All-weaker (λ e. C e × P e) (λ e. IsPair T e.0 e.1)
    (λ e h. record { conflict = (Decides-is_conflict T e.0 e.1).0 h.0; earlier = h.1.0; within = h.1.1 })
    (conflicts T)
    (All-both C P (conflicts T) (filter_passes test (pairs_below (length T))) (All-filter test P (pairs_below (length T)) (all_pairs (length T)))))

same_if : (k b : Bool) → b ≡ true → ◌≡◌ {A = ℕ} (cond (k && b) 1 0) (cond k 1 0)
same_if true b is = ap (λ x. cond x 1 0) is
same_if false b is = refl

one_if : (k b : Bool) → k ≡ true → b ≡ true → ◌≡◌ {A = ℕ} (cond (k && b) 1 0) 1
one_if true b is also = ap (λ x. cond x 1 0) also
one_if false b is also = absurd (true≢false (sym is))

pub count_all : {X : Type 0} (xs : List X) → sum_by (λ x. 1) xs ≡ length xs
count_all [] = refl
count_all (x ∷ xs) = let rest = count_all xs in omega (arith, rest, sum_by-cons (λ y. 1) x xs, add-one (length xs))

some_kept : (o k : Option Class) (i j : Class) → o ≡ Some i → k ≡ Some j → keeps_by keeps_all o k ≡ true
some_kept o k i j is also = kept_by keeps_all o k i j is also

-- The counts of a pair of places, by kind.
module _ {S : Type 0} (r : Recording) (formed : IsWellFormed r) (rules : IsDisciplined r.events) (place : ℕ → ℕ) (classes : List ℕ) (infos : List Class) (lists : List (Vec ℕ Global)) (are : AreClasses r.events place classes infos) (locks : AreLocks r.events lists classes infos) (rows : IndexMap (ℕ × ℕ) Sums S) (counted : AreCounted r.events place classes infos lists rows) where
  abbrev known : ℕ × ℕ → Bool
  known e = is_cut_off r.events (known_before r.events) e.0 e.1

  abbrev forced : ℕ × ℕ → Bool
  forced e = is_cut_off r.events counted.ends e.0 e.1

  abbrev shared : ℕ × ℕ → Bool
  shared e = is_kept_pair (keeps_shared lists) classes infos e.0 e.1

  abbrev any : ℕ × ℕ → Bool
  any e = is_kept_pair keeps_all classes infos e.0 e.1

  candidate_is : (a b : ℕ) → IsPair r.events a b → (known (a, b) ≡ false) ↔ IsCandidatePair r.events a b
  candidate_is a b pair =
      let v = pair.conflict.v in
      let told = cut_off_is r.events (IsKnownBefore r.events) (known_before r.events) counted.tells_known a b v.thread pair.within (thread_here r.events a v pair.conflict.first) in (
        (λ fails. inl (record {
          conflict = pair.conflict;
          earlier = pair.earlier;
          apart = λ c base before. true≢false (sym (told.1 (c, base, before)) ∙ fails);
        })),
        λ candidate. elim (cases_Bool (known (a, b))) [
          | inl holds ↦
              elim candidate [
                | inl is ↦ let under = told.0 holds in absurd (is.apart under.0 under.1 under.2)
                | inr is ↦ let back = is.earlier in absurd (omega (arith, back, pair.earlier))
              ]
          | inr fails ↦ fails
        ],
      )

  forced_is : (a b : ℕ) → IsPair r.events a b → (forced (a, b) ≡ true) ↔ IsForced r.events a b
  forced_is a b pair =
      cut_off_is r.events (IsForced r.events) counted.ends counted.tells_forced a b pair.conflict.v.thread pair.within (thread_here r.events a pair.conflict.v pair.conflict.first)

  forced_known : (a b : ℕ) → IsPair r.events a b → forced (a, b) ≡ true → known (a, b) ≡ true
  forced_known a b pair holds =
      let told = cut_off_is r.events (IsKnownBefore r.events) (known_before r.events) counted.tells_known a b pair.conflict.v.thread pair.within (thread_here r.events a pair.conflict.v pair.conflict.first) in
      told.1 (forced_is_known r.events rules a b ((forced_is a b pair).0 holds))

  shared_is : (a b : ℕ) → IsPair r.events a b → (shared (a, b) ≡ true) ↔ IsGuarded r.events a b
  shared_is a b pair = sharing_tells r formed rules place classes infos lists are locks a b pair.conflict

  any_is : (a b : ℕ) → IsPair r.events a b → any (a, b) ≡ true
  any_is a b pair =
      let c = pair.conflict in
      let one = class_of r formed rules place classes infos lists are locks a c.clash.variable c.v c.first c.clash.first in
      let other = class_of r formed rules place classes infos lists are locks b c.clash.variable c.w c.second c.clash.second in
      some_kept (slice_get infos (slice_index classes a)) (slice_get infos (slice_index classes b)) one.0 other.0 one.1 other.1

  earlier_is : (a b : ℕ) → IsPair r.events a b → is_cut_off r.events (count_before r.events) a b ≡ true
  earlier_is a b pair =
      let told = cut_off_is r.events (λ c d. c < d) (count_before r.events) (IsCutOf-earlier r.events) a b pair.conflict.v.thread pair.within (thread_here r.events a pair.conflict.v pair.conflict.first) in
      told.1 pair.earlier

  tests_tell : (a b : ℕ) → IsPair r.events a b → (k : Kind) → IsTrue (is_kind k (kind_by (known (a, b)) (forced (a, b)) (shared (a, b)))) ↔ IsKind r a b k
  tests_tell a b pair Candidate =
      candidate_tells (IsCandidatePair r.events a b) (IsForced r.events a b) (IsGuarded r.events a b) (Unit {0}) (known (a, b)) (forced (a, b)) (shared (a, b)) (candidate_is a b pair)
  tests_tell a b pair Forced =
      forced_tells (IsCandidatePair r.events a b) (IsForced r.events a b) (IsGuarded r.events a b) (Unit {0}) (known (a, b)) (forced (a, b)) (shared (a, b)) (candidate_is a b pair) (forced_is a b pair)
  tests_tell a b pair Guarded =
      guarded_tells (IsCandidatePair r.events a b) (IsForced r.events a b) (IsGuarded r.events a b) (Unit {0}) (known (a, b)) (forced (a, b)) (shared (a, b)) (candidate_is a b pair) (forced_is a b pair) (shared_is a b pair)
  tests_tell a b pair Open =
      open_tells (IsCandidatePair r.events a b) (IsForced r.events a b) (IsGuarded r.events a b) ((l : ℕ) → l < length r.locks → ¬ IsSharedBefore r.events a b l) (known (a, b)) (forced (a, b)) (shared (a, b)) (candidate_is a b pair) (forced_is a b pair) (shared_is a b pair) (shared_by_none r formed rules a b)

  module _ (p q : ℕ) (rising : p ≤ q) where
    abbrev group : List (ℕ × ℕ)
    group = group_of r.events place p q

    pairs : All (λ e. IsPair r.events e.0 e.1) group
    pairs = group_pairs r.events place p q

    kind_is : (k : Kind) → IsCountOf (λ e. IsKind r e.0 e.1 k) group (kind_count known forced shared k group)
    kind_is k = record {
      test = λ e. is_kind k (kind_by (known e) (forced e) (shared e));
      tells = All-weaker (λ e. IsPair r.events e.0 e.1) (λ e. IsTrue (is_kind k (kind_by (known e) (forced e) (shared e))) ↔ IsKind r e.0 e.1 k) (λ e pair. tests_tell e.0 e.1 pair k) group pairs;
      count = refl;
    }

    -- all of them are earlier
    all_is : count_by (λ e. is_cut_off r.events (count_before r.events) e.0 e.1 && any e) group ≡ length group
    all_is =
        sum_by_same (λ e. cond (is_cut_off r.events (count_before r.events) e.0 e.1 && any e) 1 0) (λ e. 1) group
        (All-weaker (λ e. IsPair r.events e.0 e.1) (λ e. ◌≡◌ {A = ℕ} (cond (is_cut_off r.events (count_before r.events) e.0 e.1 && any e) 1 0) 1)
        (λ e pair. one_if (is_cut_off r.events (count_before r.events) e.0 e.1) (any e) (earlier_is e.0 e.1 pair) (any_is e.0 e.1 pair)) group pairs)
        ∙ count_all group

    without_any : (test : ℕ × ℕ → Bool) → count_by (λ e. test e && any e) group ≡ count_by test group
    without_any test =
        sum_by_same (λ e. cond (test e && any e) 1 0) (λ e. cond (test e) 1 0) group
        (All-weaker (λ e. IsPair r.events e.0 e.1) (λ e. ◌≡◌ {A = ℕ} (cond (test e && any e) 1 0) (cond (test e) 1 0)) (λ e pair. same_if (test e) (any e) (any_is e.0 e.1 pair)) group pairs)

    pub kinds_counted : (sums : Sums) → get same_places rows (p, q) ≡ Some sums → (counts : Counts) → IsDifference sums counts → IsRowAt r place (p, q) counts
    kinds_counted sums there counts of =
        let parts = kinds_are known forced shared group (All-weaker (λ e. IsPair r.events e.0 e.1) (λ e. forced e ≡ true → known e ≡ true) (λ e pair. forced_known e.0 e.1 pair) group pairs) in
        let at : (k : Part) → count_at k rows p q ≡ part k sums = λ k. count_at-there rows k p q sums there in
        let all = sym (at of_all) ∙ counted.all p q rising in
        let candidate = counted.candidates p q rising in
        let order = counted.ordered p q rising in
        let guard = counted.guarded p q rising in
        let knows = without_any known in
        let forces_some = without_any forced in
        let candidates : kind_count known forced shared Candidate group ≡ counts.candidates =
        omega (arith, parts.candidate, candidate, at of_candidates, all_is, knows, of.candidates)
        in
        let ordered : kind_count known forced shared Open group + kind_count known forced shared Guarded group ≡ sums.ordered =
        omega (arith, parts.whole, parts.candidate, parts.force, order, at of_ordered, knows, forces_some)
        in
        let guards : kind_count known forced shared Guarded group ≡ counts.guarded = omega (arith, parts.guard, guard, at of_guarded, of.guarded) in
        let opens : kind_count known forced shared Open group ≡ counts.open_pairs = omega (arith, ordered, guards, of.open_pairs, of.guarded) in
        let half : sums.all / 2 ≡ length group = ap (λ n. n / 2) all ∙ half_of (length group) in
        let forces : kind_count known forced shared Forced group ≡ counts.forced =
        omega (arith, parts.whole, half, ordered, candidates, of.candidates, of.forced)
        in record {
          rising = rising;
          candidates = subst (IsCountOf (λ e. IsKind r e.0 e.1 Candidate) group) candidates (kind_is Candidate);
          open_pairs = subst (IsCountOf (λ e. IsKind r e.0 e.1 Open) group) opens (kind_is Open);
          guarded = subst (IsCountOf (λ e. IsKind r e.0 e.1 Guarded) group) guards (kind_is Guarded);
          forced = subst (IsCountOf (λ e. IsKind r e.0 e.1 Forced) group) forces (kind_is Forced);
        }
