-- The order of pairs, and the pairs of two uses.
use Rattle.std.proofs.Common.{◌≡◌, ◌≢◌, ℕ, ◌<◌, ◌≤◌, ◌⊎◌, ◌==◌, ◌&&◌, Bool, true, false, List, Option, Some, None, refl, sym, ap, ◌∙◌, subst, inl, inr, arith}
use Rattle.std.specs.List.{slice_get}
use Rattle.std.specs.Option.{IfSome}
use Rattle.std.proofs.lemmas.Bool.{and_from, cases_eq, cases_lt, eq-eqb, or_left, or_right, true≢false}
use Rattle.std.proofs.lemmas.Option.{none-some, same_Some, slice_get_within}
use Rattle.rapid_text.specs.Operations.{is_write}
use Rattle.rapid_text.specs.declared.event.Event.{Event}
use Rattle.event_index.specs.Relations.{IsConflicting}
use Rattle.event_index.proofs.CallerLemmas.{IsConflicting-sym}
use Rattle.race_groups.specs.Groups.{is_between}
use Rattle.race_groups.specs.declared.kinds.Row.{Row}
use Rattle.race_groups.proofs.RowLemmas.{between_cases}
use Rattle.race_groups.specs.least_pairs.Lanes.{access_op}
use Rattle.race_groups.specs.least_pairs.Taking.{HoldsUp}
use Rattle.race_groups.specs.least_pairs.Order.{IsUpTo}
use Rattle.race_groups.specs.least_pairs.Pairs.{AreAt, IsPair}
use Rattle.race_groups.specs.least_pairs.Uses.{AreUsesHeld, HoldsBetween, HoldsEither, IsCovered, IsEventOf, IsFirstHeld, IsOwner, IsPairBetween, IsPairOf, IsUse}
use Rattle.race_groups.specs.declared.least_pairs.uses.Of.{Of}
use Rattle.race_groups.specs.declared.least_pairs.uses.Use.{Use}
use Rattle.race_groups.proofs.least_pairs.OrderLemmas.{IsUpTo-trans}
use Rattle.race_groups.proofs.least_pairs.BasicLemmas.{access_is}

up_by : (p q : ℕ × ℕ) → p.0 ≤ q.0 → p.1 ≤ q.1 → IsUpTo p q
up_by p q first second =
    elim (cases_lt p.0 q.0) [
      | inl less ↦ inl less
      | inr no_less ↦ inr (omega (arith, first, no_less), second)
    ]

-- the pair of two events is up to those of two that come no earlier
pair_up : (f g : Of) (p : ℕ × ℕ) (a b : ℕ) → f.event ≤ a → g.event ≤ b
    → ((p.0 ≡ f.event) × (p.1 ≡ g.event) × (g.event ≤ f.event)) ⊎ ((p.0 ≡ g.event) × (p.1 ≡ f.event) × (f.event ≤ g.event))
    → (a < b → IsUpTo p (b, a)) × (b < a → IsUpTo p (a, b))
pair_up f g p a b first second (inl is) = (
  λ lt. inl (omega (arith, is.0, first, lt)),
  λ lt. up_by p (a, b) (omega (arith, is.0, first)) (omega (arith, is.1, second)),
)
pair_up f g p a b first second (inr is) = (
  λ lt. up_by p (b, a) (omega (arith, is.0, second)) (omega (arith, is.1, first)),
  λ lt. inl (omega (arith, is.0, second, lt)),
)

pair_holds : (f g : Of) (r : Option (ℕ × ℕ)) → IfSome r (λ p. IsPairOf f g p) → (r ≡ None → f.thread ≡ g.thread) → f.thread ≢ g.thread
    → (a b : ℕ) → f.event ≤ a → g.event ≤ b → HoldsEither a b r
pair_holds f g None some none apart a b first second = absurd (apart (none refl))
pair_holds f g (Some p) some none apart a b first second =
    let up = pair_up f g p a b first second some.either in
    (λ lt. (p, refl, up.0 lt), λ lt. (p, refl, up.1 lt))

either_more : (r n : Option (ℕ × ℕ)) → ((p : ℕ × ℕ) → HoldsUp p r → HoldsUp p n) → (a b : ℕ) → HoldsEither a b r → HoldsEither a b n
either_more r n more a b held = (λ lt. more (b, a) (held.0 lt), λ lt. more (a, b) (held.1 lt))

-- Of two uses the pair of the first events, and those of a first event and the other one.
pub HoldsBetween-from : (u v : Use) (both one two later r : Option (ℕ × ℕ))
    → IfSome both (λ p. IsPairOf u.first v.first p) → (both ≡ None → u.first.thread ≡ v.first.thread)
    → IfSome one (λ p. IsPairOf u.other v.first p) → (one ≡ None → u.other.thread ≡ v.first.thread)
    → IfSome two (λ p. IsPairOf u.first v.other p) → (two ≡ None → u.first.thread ≡ v.other.thread)
    → ((p : ℕ × ℕ) → HoldsUp p one → HoldsUp p later) → ((p : ℕ × ℕ) → HoldsUp p two → HoldsUp p later)
    → ((p : ℕ × ℕ) → HoldsUp p both → HoldsUp p r) → ((p : ℕ × ℕ) → HoldsUp p later → HoldsUp p r)
    → HoldsBetween u v r
HoldsBetween-from u v both one two later r both_is both_none one_is one_none two_is two_none from_one from_two from_both from_later e f s t first second apart =
    elim (cases_eq u.first.thread v.first.thread) [
      | inr differ ↦ either_more both r from_both e f (pair_holds u.first v.first both both_is both_none differ e f first.first second.first)
      | inl same ↦
          either_more later r from_later e f
          (elim (cases_eq s u.first.thread) [
            | inr other ↦
                let it = first.other other in
                either_more one later from_one e f
                (pair_holds u.other v.first one one_is one_none (λ is. it.1 (is ∙ sym same)) e f it.0 second.first)
            | inl is ↦
                let it = second.other (λ (z : t ≡ v.first.thread). apart (is ∙ same ∙ sym z)) in
                either_more two later from_two e f
                (pair_holds u.first v.other two two_is two_none (λ z. it.1 (sym z ∙ same)) e f first.first it.0)
          ])
    ]

-- two events of different threads of uses that one thread alone has
pub HoldsBetween-owned : (u v : Use) (t : ℕ) → IsOwner t u → IsOwner t v → (e f a b : ℕ) → IsCovered u e a → IsCovered v f b → a ≢ b → ⊥
HoldsBetween-owned u v t first second e f a b one two apart =
    elim (cases_eq a u.first.thread) [
      | inr other ↦ (one.other other).1 (first.1 ∙ sym first.0)
      | inl is ↦
          elim (cases_eq b v.first.thread) [
            | inr other ↦ (two.other other).1 (second.1 ∙ sym second.0)
            | inl same ↦ apart (is ∙ first.0 ∙ sym second.0 ∙ sym same)
          ]
    ]

-- places, in one order or the other
two_over : (m n p q c d e f : ℕ) → ((c ≡ m) × (d ≡ n)) ⊎ ((c ≡ n) × (d ≡ m)) → ((c ≡ p) × (d ≡ q)) ⊎ ((c ≡ q) × (d ≡ p)) → ((e ≡ p) × (f ≡ q)) ⊎ ((e ≡ q) × (f ≡ p))
    → ((e ≡ m) × (f ≡ n)) ⊎ ((e ≡ n) × (f ≡ m))
two_over m n p q c d e f (inl a) (inl b) (inl g) = inl (omega arith, omega arith)
two_over m n p q c d e f (inl a) (inl b) (inr g) = inr (omega arith, omega arith)
two_over m n p q c d e f (inl a) (inr b) (inl g) = inr (omega arith, omega arith)
two_over m n p q c d e f (inl a) (inr b) (inr g) = inl (omega arith, omega arith)
two_over m n p q c d e f (inr a) (inl b) (inl g) = inr (omega arith, omega arith)
two_over m n p q c d e f (inr a) (inl b) (inr g) = inl (omega arith, omega arith)
two_over m n p q c d e f (inr a) (inr b) (inl g) = inl (omega arith, omega arith)
two_over m n p q c d e f (inr a) (inr b) (inr g) = inr (omega arith, omega arith)

between_from : (p q c d : ℕ) → ((c ≡ p) × (d ≡ q)) ⊎ ((c ≡ q) × (d ≡ p)) → is_between p q c d ≡ true
between_from p q c d (inl is) = or_left (c == p && d == q) (c == q && d == p) (and_from (c == p) (d == q) (eq-eqb c p is.0) (eq-eqb d q is.1))
between_from p q c d (inr is) = or_right (c == p && d == q) (c == q && d == p) (and_from (c == q) (d == p) (eq-eqb c q is.0) (eq-eqb d p is.1))

pub between_here : (p q : ℕ) → is_between p q p q ≡ true
between_here p q = between_from p q p q (inl (refl, refl))

-- two pairs of places of one pair are of all the same
pub between_over : (m n p q c d e f : ℕ) → is_between m n c d ≡ true → is_between p q c d ≡ true → is_between p q e f ≡ true → is_between m n e f ≡ true
between_over m n p q c d e f a b g = between_from m n e f (two_over m n p q c d e f (between_cases m n c d a) (between_cases p q c d b) (between_cases p q e f g))

write_is : (w : Bool) (x : ℕ) → w ≡ true → is_write x (access_op w x) ≡ true
write_is true x is = eq-eqb x x refl
write_is false x is = absurd (true≢false (sym is))

pub is_writing_one : (w : Bool) (x y : ℕ) → is_write y (access_op w x) ≡ true → w ≡ true
is_writing_one true x y is = refl
is_writing_one false x y is = absurd (true≢false (sym is))

module _ (T : List Event) (place : ℕ → ℕ) (x : ℕ) where
  -- the events of two uses, one of which writes
  uses_conflict : (u v : Use) (f g : Of) → IsEventOf T place x u f → IsEventOf T place x v g → u.is_writing ≡ true → f.thread ≢ g.thread → IsConflicting T f.event g.event
  uses_conflict u v f g first second writes apart = record {
    v = record { thread = f.thread; op = access_op u.is_writing x };
    w = record { thread = g.thread; op = access_op v.is_writing x };
    first = first.event;
    second = second.event;
    clash = record {
      threads = apart;
      variable = x;
      first = access_is u.is_writing x;
      second = access_is v.is_writing x;
      writes = or_left (is_write x (access_op u.is_writing x)) (is_write x (access_op v.is_writing x)) (write_is u.is_writing x writes);
    };
  }

  event_of : (u : Use) (f : Of) → IsUse T place x u → (f ≡ u.first) ⊎ (f ≡ u.other) → IsEventOf T place x u f
  event_of u f is (inl one) = subst (IsEventOf T place x u) (sym one) is.first
  event_of u f is (inr two) = subst (IsEventOf T place x u) (sym two) is.other

  -- events of different threads are two
  events_apart : (u v : Use) (f g : Of) → IsEventOf T place x u f → IsEventOf T place x v g → f.thread ≢ g.thread → f.event ≢ g.event
  events_apart u v f g first second apart same =
      apart (ap (λ (e : Event). e.thread) (same_Some (record { thread = f.thread; op = access_op u.is_writing x }) (record { thread = g.thread; op = access_op v.is_writing x }) (sym first.event ∙ ap (slice_get T) same ∙ second.event)))

  pair_by : (u v : Use) (f g : Of) (p : ℕ × ℕ) → IsEventOf T place x u f → IsEventOf T place x v g → u.is_writing ≡ true → f.thread ≢ g.thread
      → ((p.0 ≡ f.event) × (p.1 ≡ g.event) × (g.event ≤ f.event)) ⊎ ((p.0 ≡ g.event) × (p.1 ≡ f.event) × (f.event ≤ g.event))
      → IsPair T p.1 p.0 × AreAt place (u.place, v.place) p.1 p.0
  pair_by u v f g p first second writes apart (inl is) =
      let two = events_apart u v f g first second apart in
      let low = slice_get_within T f.event (record { thread = f.thread; op = access_op u.is_writing x }) first.event in
      let conflict = IsConflicting-sym T f.event g.event (uses_conflict u v f g first second writes apart) in (
        record {
          conflict = subst (λ b. IsConflicting T p.1 b) (sym is.0) (subst (λ a. IsConflicting T a f.event) (sym is.1) conflict);
          earlier = omega (arith, two, is.0, is.1, is.2);
          within = omega (arith, low, is.0);
        },
        between_from u.place v.place (place p.1) (place p.0) (inr (ap place is.1 ∙ second.located, ap place is.0 ∙ first.located)),
      )
  pair_by u v f g p first second writes apart (inr is) =
      let two = events_apart u v f g first second apart in
      let low = slice_get_within T g.event (record { thread = g.thread; op = access_op v.is_writing x }) second.event in
      let conflict = uses_conflict u v f g first second writes apart in (
        record {
          conflict = subst (λ b. IsConflicting T p.1 b) (sym is.0) (subst (λ a. IsConflicting T a g.event) (sym is.1) conflict);
          earlier = omega (arith, two, is.0, is.1, is.2);
          within = omega (arith, low, is.0);
        },
        between_from u.place v.place (place p.1) (place p.0) (inl (ap place is.1 ∙ first.located, ap place is.0 ∙ second.located)),
      )

  -- the pair of two uses is a conflicting one of their places
  pub pair_between : (u v : Use) (p : ℕ × ℕ) → IsUse T place x u → IsUse T place x v → u.is_writing ≡ true → IsPairBetween u v p
      → IsPair T p.1 p.0 × AreAt place (u.place, v.place) p.1 p.0
  pair_between u v p one two writes is =
      pair_by u v is.f is.g p (event_of u is.f one is.first) (event_of v is.g two is.second) writes is.pair.threads is.pair.either

  module _ (rows : List Row) (firsts : List (Option (ℕ × ℕ))) where
    held_by : (u v : Use) (p : ℕ × ℕ) → AreAt place (u.place, v.place) p.1 p.0 → IsFirstHeld place rows firsts p.1 p.0
        → (a b : ℕ) → AreAt place (u.place, v.place) a b → IsUpTo p (b, a) → IsFirstHeld place rows firsts a b
    held_by u v p at held a b there up = record {
      at = held.at;
      row = held.row;
      kept = held.kept;
      row_is = held.row_is;
      kept_is = held.kept_is;
      there = between_over held.row.places.0 held.row.places.1 u.place v.place (place p.1) (place p.0) (place a) (place b) held.there at there;
      up = IsUpTo-trans held.kept p (b, a) held.up up;
    }

    up_from : (p q : ℕ × ℕ) → HoldsUp q (Some p) → IsUpTo p q
    up_from p q (r, is, up) = subst (λ (s : ℕ × ℕ). IsUpTo s q) (sym (same_Some p r is)) up

    -- where the least pair of two uses is held, all are
    pub AreUsesHeld-some : (u v : Use) (p : ℕ × ℕ) → AreAt place (u.place, v.place) p.1 p.0 → IsFirstHeld place rows firsts p.1 p.0 → HoldsBetween u v (Some p)
        → AreUsesHeld T place x rows firsts u v
    AreUsesHeld-some u v p at held holds = record {
      held = λ e f s t one two apart.
          let up = holds e f s t one.covered two.covered apart in (
            λ lt. held_by u v p at held e f (between_from u.place v.place (place e) (place f) (inl (one.event.located, two.event.located))) (up_from p (f, e) (up.0 lt)),
            λ lt. held_by u v p at held f e (between_from u.place v.place (place f) (place e) (inr (two.event.located, one.event.located))) (up_from p (e, f) (up.1 lt)),
          );
    }

    none_held : {A : Type 0} (p : ℕ × ℕ) → HoldsUp p None → A
    none_held p (q, is, up) = absurd (none-some q is)

    -- where there is none, there is nothing to hold
    pub AreUsesHeld-none : (u v : Use) → HoldsBetween u v None → AreUsesHeld T place x rows firsts u v
    AreUsesHeld-none u v holds = record {
      held = λ e f s t one two apart.
          let up = holds e f s t one.covered two.covered apart in
          (λ lt. none_held (f, e) (up.0 lt), λ lt. none_held (e, f) (up.1 lt));
    }

    -- nor where one thread has both
    pub AreUsesHeld-owned : (u v : Use) (t : ℕ) → IsOwner t u → IsOwner t v → AreUsesHeld T place x rows firsts u v
    AreUsesHeld-owned u v t first second = record {
      held = λ e f a b one two apart. absurd (HoldsBetween-owned u v t first second e f a b one.covered two.covered apart);
    }
