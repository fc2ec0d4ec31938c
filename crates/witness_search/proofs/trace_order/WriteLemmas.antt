-- The writes of each variable.
use Rattle.std.proofs.Common.{◌≡◌, ◌≢◌, ℕ, ◌+◌, ◌<◌, Vec, Global, List, [], ◌∷◌, ◌++◌, length, get_or, set, Contains, Some, None, slice_get, sym, ap, ◌∙◌, subst, arith, inl, inr}
use Rattle.std.proofs.lemmas.Bool.{cases_eq, cases_lt, false_from_ne_true}
use Rattle.std.proofs.lemmas.List.{length-set, get_or_default}
use Rattle.std.proofs.lemmas.List.Elements.{Contains-append_left, Contains-push, Contains-push_cases, Contains-get_or}
use Rattle.std.proofs.lemmas.List.Quantifiers.{all_pairs_push}
use Rattle.std.proofs.lemmas.Option.{slice_get_within, slice_get-get_or, get_or_from_slice_get}
use Rattle.std.proofs.Common.{get_or-set_same, get_or-set_other}
use Rattle.rapid_text.specs.Recording.{Recording}
use Rattle.rapid_text.specs.declared.event.Event.{Event}
use Rattle.rapid_text.specs.declared.event.Op.TheVariants.{Write}
use Rattle.event_index.specs.Events.{op_at, is_write_at}
use Rattle.event_index.specs.Lookups.{last_write}
use Rattle.must_order.specs.Layout.{IsCounted}
use Rattle.witness_search.specs.trace_order.Counting.{counts, counted_events}
use Rattle.witness_search.specs.trace_order.Tables.{AreWritesOf, AreWritesUpTo}
use Rattle.witness_search.proofs.trace_order.StandLemmas.{counts-counted, counted-counts, last_both, none_both, op-writes, writes_at}
use Rattle.witness_search.proofs.RisingLemmas.{no_member}

none_of : (T : List Event) (x : ℕ) → AreWritesOf T 0 x []
none_of T x = record {
  rising = λ i j d ij jn. absurd (omega arith);
  members = λ e. (λ m. absurd (no_member e m), λ h. absurd (omega (arith, h.0)));
}

pub AreWrites-start : (r : Recording) (writes : List (Vec ℕ Global)) → length writes ≡ length r.variables
    → ((x : ℕ) (v : Vec ℕ Global) → slice_get writes x ≡ Some v → v.items ≡ []) → AreWritesUpTo r 0 writes
AreWrites-start r writes len empty = record { len = len; of = λ x v at. subst (AreWritesOf r.events 0 x) (sym (empty x v at)) (none_of r.events x) }

module _ (T : List Event) (n x : ℕ) (ws : List ℕ) (are : AreWritesOf T n x ws) where
  pub AreWritesOf-push : op_at T n ≡ Some (Write x) → AreWritesOf T (n + 1) x (ws ++ n ∷ [])
  AreWritesOf-push op = record {
    rising = all_pairs_push (λ a b. a < b) ws n are.rising (λ i d low. ((are.members (get_or ws i d)).0 (Contains-get_or ws i d low)).0);
    members = λ e. (
      λ m. elim (Contains-push_cases ws n e m) [
        | inl earlier ↦ let h = (are.members e).0 earlier in (omega (arith, h.0), h.1)
        | inr here ↦ (omega (arith, here), ap (op_at T) (is_n e here) ∙ op)
      ],
      λ h. elim (cases_eq e n) [
        | inl one ↦ subst (Contains (ws ++ n ∷ [])) (sym one) (Contains-push ws n)
        | inr other ↦ Contains-append_left ws (n ∷ []) e ((are.members e).1 (omega (arith, h.0, other), h.1))
      ],
    );
  }
    where
      is_n : (e : ℕ) → n ≡ e → e ≡ n
      is_n e one = sym one

  pub AreWritesOf-skip : op_at T n ≢ Some (Write x) → AreWritesOf T (n + 1) x ws
  AreWritesOf-skip other = record {
    rising = are.rising;
    members = λ e. (
      λ m. let h = (are.members e).0 m in (omega (arith, h.0), h.1),
      λ h. elim (cases_eq e n) [
        | inl one ↦ absurd (other (ap (op_at T) (sym one) ∙ h.1))
        | inr apart ↦ (are.members e).1 (omega (arith, h.0, apart), h.1)
      ],
    );
  }

module _ (r : Recording) (n : ℕ) (writes : List (Vec ℕ Global)) (are : AreWritesUpTo r n writes) where
  pub AreWrites-skip : ((x : ℕ) → op_at r.events n ≢ Some (Write x)) → AreWritesUpTo r (n + 1) writes
  AreWrites-skip none = record { len = are.len; of = λ x v at. AreWritesOf-skip r.events n x v.items (are.of x v at) (none x) }

  pub AreWrites-set : (x : ℕ) (old new : Vec ℕ Global) → slice_get writes x ≡ Some old → op_at r.events n ≡ Some (Write x) → new.items ≡ old.items ++ n ∷ []
      → AreWritesUpTo r (n + 1) (set writes x new)
  AreWrites-set x old new known op pushed = record {
    len = length-set writes x new ∙ are.len;
    of = λ m v at.
        let low : x < length writes = slice_get_within writes x old known in
        let inside : m < length (set writes x new) = slice_get_within (set writes x new) m v at in
        let value : get_or (set writes x new) m v ≡ v = get_or_from_slice_get (set writes x new) m v v at in
        elim (cases_eq m x) [
          | inl one ↦
              let mine : new ≡ v = sym (get_or-set_same writes x new v low) ∙ sym (ap (λ j. get_or (set writes x new) j v) one) ∙ value in
              subst (λ (j : ℕ). AreWritesOf r.events (n + 1) j v.items) (sym one)
              (subst (λ (w : Vec ℕ Global). AreWritesOf r.events (n + 1) x w.items) mine
              (subst (AreWritesOf r.events (n + 1) x) (sym pushed) (AreWritesOf-push r.events n x old.items (are.of x old known) op)))
          | inr other ↦
              let long : m < length writes = omega (arith, inside, length-set writes x new) in
              let same_old : get_or writes m v ≡ v = sym (get_or-set_other writes x m new v other) ∙ value in
              let found : slice_get writes m ≡ Some v = slice_get-get_or writes m v long ∙ ap Some same_old in
              AreWritesOf-skip r.events n m v.items (are.of m v found) (λ also. other (one_variable m x (sym also ∙ op)))
        ];
  }
    where
      one_variable : (m k : ℕ) → Some (Write m) ≡ Some (Write k) → m ≡ k
      one_variable m k h = cc

-- the last of them that a row counts is the last write of the events that it counts
module _ (T : List Event) (row : ℕ → ℕ) (x : ℕ) (ws : List ℕ) (are : AreWritesOf T (length T) x ws) where
  pub last_write-none : ((i : ℕ) → i < length ws → ¬ IsCounted T row (get_or ws i 0)) → None ≡ last_write T x (counted_events T row)
  last_write-none none =
      sym (none_both (is_write_at T x) (counts T row) (length T)
      (λ k low has. false_from_ne_true (is_write_at T x k)
      (λ h.
      let m = (are.members k).1 (low, op-writes T x k h) in
      let here : get_or ws m.0 0 ≡ k = get_or_default ws m.0 0 k m.1 ∙ m.2 in
      none m.0 m.1 (subst (IsCounted T row) (sym here) (counts-counted T row k has)))))

  pub last_write-found : (i : ℕ) → i < length ws → IsCounted T row (get_or ws i 0) → ((j : ℕ) → i < j → j < length ws → ¬ IsCounted T row (get_or ws j 0))
      → Some (get_or ws i 0) ≡ last_write T x (counted_events T row)
  last_write-found i low counted none =
      let w : ℕ = get_or ws i 0 in
      let mine = (are.members w).0 (Contains-get_or ws i 0 low) in
      sym (last_both (is_write_at T x) (counts T row) (length T) w mine.0 (counted-counts T row w counted) (writes_at T x w mine.1)
      (λ k up down has. false_from_ne_true (is_write_at T x k)
      (λ h.
      let m = (are.members k).1 (down, op-writes T x k h) in
      let here : get_or ws m.0 0 ≡ k = get_or_default ws m.0 0 k m.1 ∙ m.2 in
      let later : i < m.0 =
      elim (cases_lt i m.0) [
        | inl lt ↦ lt
        | inr le ↦ absurd (elim (cases_eq m.0 i) [
          | inl one ↦ let also : get_or ws m.0 0 ≡ w = ap (λ j. get_or ws j 0) one in omega (arith, also, here, up)
          | inr apart ↦ let below : get_or ws m.0 0 < get_or ws i 0 = are.rising m.0 i 0 (omega (arith, le, apart)) low in omega (arith, below, here, up)
        ])
      ] in
      none m.0 later m.1 (subst (IsCounted T row) (sym here) (counts-counted T row k has)))))
