-- The prologue of a window that is made.
use Rattle.std.proofs.Common.{◌≡◌, ◌≢◌, ℕ, zero, suc, ◌+◌, ◌*◌, ◌<◌, ◌≤◌, ◌⊎◌, ◌==◌, ◌&&◌, Bool, true, false, cond, List, [], ◌∷◌, ◌++◌, length, take, count_by, Some, refl, sym, ap, ◌∙◌, arith, eq-eqb, inl, inr}
use Rattle.std.specs.List.{slice_get}
use Rattle.std.proofs.lemmas.Bool.{and_from, ne_eqb}
use Rattle.std.proofs.lemmas.List.Sums.{sum_by-cons}
use Rattle.std.proofs.lemmas.Option.{none-some, same_Some}
use Rattle.rapid_text.specs.Operations.{is_acquire, is_release}
use Rattle.rapid_text.specs.declared.event.Event.{Event}
use Rattle.rapid_text.specs.declared.event.Op.{Op}
use Rattle.rapid_text.specs.declared.event.Op.TheVariants.{Read, Write, Acquire, Release}
use Rattle.trace_rules.specs.Rules.{acquire_count, release_count}
use Rattle.window.specs.Window.{IsPrologueOp, HasLink, NoneWrites}
use Rattle.window.specs.Made.{does, chain_of, reads_of, links_of, AreOthers}
use Rattle.window.proofs.WindowLemmas.{tag}

-- an event found is the one that is there
op_is : (v w : Event) → Some v ≡ Some w → w.op ≡ v.op
op_is v w at = sym (ap (λ (z : Event). z.op) (same_Some v w at))

thread_is : (v w : Event) → Some v ≡ Some w → w.thread ≡ v.thread
thread_is v w at = sym (ap (λ (z : Event). z.thread) (same_Some v w at))

pub never : (b : Bool) → cond {A = ℕ} (b && false) 1 0 ≡ 0
never true = refl
never false = refl

holds_first : (h : ℕ × ℕ) (holds : List (ℕ × ℕ)) (v : Event) → v.thread ≡ h.0 → (l : ℕ) × (0 < count_by (λ g. g.0 == v.thread && g.1 == l) (h ∷ holds))
holds_first h holds v same =
    let passes : (h.0 == v.thread && h.1 == h.1) ≡ true = and_from (h.0 == v.thread) (h.1 == h.1) (eq-eqb h.0 v.thread (sym same)) (eq-eqb h.1 h.1 refl) in
    let one : cond {A = ℕ} (h.0 == v.thread && h.1 == h.1) 1 0 ≡ 1 = ap (λ b. cond {A = ℕ} b 1 0) passes in
    (h.1, omega (arith, one, sum_by-cons (λ (g : ℕ × ℕ). cond {A = ℕ} (g.0 == v.thread && g.1 == h.1) 1 0) h holds))

-- how often events take and release a lock, with one more in front
module _ (u l : ℕ) where
  abbrev taking : Event → ℕ
  taking e = cond {A = ℕ} (e.thread == u && is_acquire l e.op) 1 0

  abbrev freeing : Event → ℕ
  freeing e = cond {A = ℕ} (e.thread == u && is_release l e.op) 1 0

one_here : (t u l : ℕ) → u ≡ t → cond {A = ℕ} (t == u && l == l) 1 0 ≡ 1
one_here t u l same = ap (λ b. cond {A = ℕ} b 1 0) (and_from (t == u) (l == l) (eq-eqb t u (sym same)) (eq-eqb l l refl))

none_here : (t u i l : ℕ) → i ≢ l → cond {A = ℕ} (t == u && i == l) 1 0 ≡ 0
none_here t u i l other = ap (λ b. cond {A = ℕ} (t == u && b) 1 0) (ne_eqb i l other) ∙ never (t == u)

module _ (x lock : ℕ) where
  -- The lock is taken while nobody holds it, and held at each event that takes none; in the end nobody holds it.
  pub record IsCovered (E : List Event) : Type 0 where
    pub free : (i u : ℕ) (v : Event) → slice_get E i ≡ Some v → v.op ≡ Acquire lock → acquire_count (take i E) u lock ≡ release_count (take i E) u lock
    pub held :
        (i : ℕ) (v : Event) → slice_get E i ≡ Some v
        → ((l : ℕ) × (v.op ≡ Acquire l)) ⊎ (acquire_count (take i E) v.thread lock ≡ release_count (take i E) v.thread lock + 1)
    pub even : (u : ℕ) → acquire_count E u lock ≡ release_count E u lock

  pub covered-nil : IsCovered []
  covered-nil = record {
    free = λ i u v at takes. absurd (none-some v at);
    held = λ i v at. absurd (none-some v at);
    even = λ u. refl;
  }

  -- an access under the lock
  module _ (t : ℕ) (op : Op) (low : tag op ≤ 1) (no_take : is_acquire lock op ≡ false) (no_free : is_release lock op ≡ false) where
    abbrev under : List Event → List Event
    under E = does t (Acquire lock) ∷ does t op ∷ does t (Release lock) ∷ E

    own : ℕ → ℕ
    own u = cond {A = ℕ} (t == u && lock == lock) 1 0

    none_taken : (u : ℕ) → taking u lock (does t op) ≡ 0
    none_taken u = ap (λ b. cond {A = ℕ} (t == u && b) 1 0) no_take ∙ never (t == u)

    none_freed : (u : ℕ) → freeing u lock (does t op) ≡ 0
    none_freed u = ap (λ b. cond {A = ℕ} (t == u && b) 1 0) no_free ∙ never (t == u)

    one_takes : (u : ℕ) (F : List Event) → acquire_count (does t (Acquire lock) ∷ F) u lock ≡ cond {A = ℕ} (t == u && lock == lock) 1 0 + acquire_count F u lock
    one_takes u F = sum_by-cons (taking u lock) (does t (Acquire lock)) F

    one_frees : (u : ℕ) (F : List Event) → release_count (does t (Acquire lock) ∷ F) u lock ≡ release_count F u lock
    one_frees u F = omega (arith, sum_by-cons (freeing u lock) (does t (Acquire lock)) F, never (t == u))

    two_takes : (u : ℕ) (F : List Event) → acquire_count (does t op ∷ F) u lock ≡ acquire_count F u lock
    two_takes u F = omega (arith, sum_by-cons (taking u lock) (does t op) F, none_taken u)

    two_frees : (u : ℕ) (F : List Event) → release_count (does t op ∷ F) u lock ≡ release_count F u lock
    two_frees u F = omega (arith, sum_by-cons (freeing u lock) (does t op) F, none_freed u)

    three_takes : (u : ℕ) (F : List Event) → acquire_count (does t (Release lock) ∷ F) u lock ≡ acquire_count F u lock
    three_takes u F = omega (arith, sum_by-cons (taking u lock) (does t (Release lock)) F, never (t == u))

    three_frees : (u : ℕ) (F : List Event) → release_count (does t (Release lock) ∷ F) u lock ≡ cond {A = ℕ} (t == u && lock == lock) 1 0 + release_count F u lock
    three_frees u F = sum_by-cons (freeing u lock) (does t (Release lock)) F

    -- past the three the counts differ as before
    past : (u : ℕ) (F : List Event) (j : ℕ) → acquire_count F u lock ≡ release_count F u lock + j → acquire_count (under F) u lock ≡ release_count (under F) u lock + j
    past u F j so =
        omega (
          arith,
          so,
          one_takes u (does t op ∷ does t (Release lock) ∷ F),
          two_takes u (does t (Release lock) ∷ F),
          three_takes u F,
          one_frees u (does t op ∷ does t (Release lock) ∷ F),
          two_frees u (does t (Release lock) ∷ F),
          three_frees u F,
        )

    past_even : (u : ℕ) (F : List Event) → acquire_count F u lock ≡ release_count F u lock → acquire_count (under F) u lock ≡ release_count (under F) u lock
    past_even u F so = omega (arith, past u F 0 (omega (arith, so)))

    module _ (E : List Event) (rest : IsCovered E) where
      under_free : (i u : ℕ) (v : Event) → slice_get (under E) i ≡ Some v → v.op ≡ Acquire lock → acquire_count (take i (under E)) u lock ≡ release_count (take i (under E)) u lock
      under_free zero u v at takes = refl
      under_free (suc zero) u v at takes = absurd (omega (arith, low, ap tag (sym (op_is (does t op) v at) ∙ takes)))
      under_free (suc (suc zero)) u v at takes = absurd (omega (arith, ap tag (sym (op_is (does t (Release lock)) v at) ∙ takes)))
      under_free (suc (suc (suc i))) u v at takes = past_even u (take i E) (rest.free i u v at takes)

      under_held : (i : ℕ) (v : Event) → slice_get (under E) i ≡ Some v
          → ((l : ℕ) × (v.op ≡ Acquire l)) ⊎ (acquire_count (take i (under E)) v.thread lock ≡ release_count (take i (under E)) v.thread lock + 1)
      under_held zero v at = inl (lock, op_is (does t (Acquire lock)) v at)
      under_held (suc zero) v at =
          let one = one_here t v.thread lock (thread_is (does t op) v at) in
          inr (omega (arith, one, one_takes v.thread [], one_frees v.thread []))
      under_held (suc (suc zero)) v at =
          let one = one_here t v.thread lock (thread_is (does t (Release lock)) v at) in
          inr (omega (arith, one, one_takes v.thread (does t op ∷ []), one_frees v.thread (does t op ∷ []), two_takes v.thread [], two_frees v.thread []))
      under_held (suc (suc (suc i))) v at =
          elim (rest.held i v at) [
            | inl takes ↦ inl takes
            | inr so ↦ inr (past v.thread (take i E) 1 so)
          ]

      pub covered-under : IsCovered (under E)
      covered-under = record { free = under_free; held = under_held; even = λ u. past_even u E (rest.even u) }

  -- another lock that is taken
  module _ (t l : ℕ) (other : l ≢ lock) (E : List Event) (rest : IsCovered E) where
    takes_not : (u : ℕ) (F : List Event) → acquire_count (does t (Acquire l) ∷ F) u lock ≡ acquire_count F u lock
    takes_not u F = omega (arith, sum_by-cons (taking u lock) (does t (Acquire l)) F, none_here t u l lock other)

    frees_not : (u : ℕ) (F : List Event) → release_count (does t (Acquire l) ∷ F) u lock ≡ release_count F u lock
    frees_not u F = omega (arith, sum_by-cons (freeing u lock) (does t (Acquire l)) F, never (t == u))

    beside_free : (i u : ℕ) (v : Event) → slice_get (does t (Acquire l) ∷ E) i ≡ Some v → v.op ≡ Acquire lock
        → acquire_count (take i (does t (Acquire l) ∷ E)) u lock ≡ release_count (take i (does t (Acquire l) ∷ E)) u lock
    beside_free zero u v at takes = refl
    beside_free (suc i) u v at takes = takes_not u (take i E) ∙ rest.free i u v at takes ∙ sym (frees_not u (take i E))

    beside_held : (i : ℕ) (v : Event) → slice_get (does t (Acquire l) ∷ E) i ≡ Some v
        → ((h : ℕ) × (v.op ≡ Acquire h))
        ⊎ (acquire_count (take i (does t (Acquire l) ∷ E)) v.thread lock ≡ release_count (take i (does t (Acquire l) ∷ E)) v.thread lock + 1)
    beside_held zero v at = inl (l, op_is (does t (Acquire l)) v at)
    beside_held (suc i) v at =
        elim (rest.held i v at) [
          | inl takes ↦ inl takes
          | inr so ↦ inr (omega (arith, so, takes_not v.thread (take i E), frees_not v.thread (take i E)))
        ]

    pub covered-beside : IsCovered (does t (Acquire l) ∷ E)
    covered-beside = record {
      free = beside_free;
      held = beside_held;
      even = λ u. takes_not u E ∙ rest.even u ∙ sym (frees_not u E);
    }

  others_first : (h : ℕ × ℕ) (holds : List (ℕ × ℕ)) → AreOthers lock (h ∷ holds) → (h.1 ≢ lock) × AreOthers lock holds
  others_first h holds others =
      let sum = λ (t : ℕ). sum_by-cons (λ (g : ℕ × ℕ). cond {A = ℕ} (g.0 == t && g.1 == lock) 1 0) h holds in (
        λ same.
            let one : cond {A = ℕ} (h.0 == h.0 && h.1 == lock) 1 0 ≡ 1 =
            ap (λ b. cond {A = ℕ} b 1 0) (and_from (h.0 == h.0) (h.1 == lock) (eq-eqb h.0 h.0 refl) (eq-eqb h.1 lock same)) in
            absurd (omega (arith, one, sum h.0, others h.0)),
        λ t. omega (arith, sum t, others t),
      )

  pub covered-reads : (readers : List ℕ) → IsCovered (reads_of x lock readers)
  covered-reads [] = covered-nil
  covered-reads (t ∷ readers) = covered-under t (Read x) (omega arith) refl refl (reads_of x lock readers) (covered-reads readers)

  pub covered-chain : (holds : List (ℕ × ℕ)) (E : List Event) → AreOthers lock holds → IsCovered E → IsCovered (chain_of x lock holds ++ E)
  covered-chain [] E others rest = rest
  covered-chain (h ∷ holds) E others rest =
      let parts = others_first h holds others in
      let tail : List Event = chain_of x lock holds ++ E in
      let deep : IsCovered tail = covered-chain holds E parts.1 rest in
      let writes = covered-under h.0 (Write x) (omega arith) refl refl tail deep in
      let takes = covered-beside h.0 h.1 parts.0 (does h.0 (Acquire lock) ∷ does h.0 (Write x) ∷ does h.0 (Release lock) ∷ tail) writes in
      covered-under h.0 (Read x) (omega arith) refl refl (does h.0 (Acquire h.1) ∷ does h.0 (Acquire lock) ∷ does h.0 (Write x) ∷ does h.0 (Release lock) ∷ tail) takes

  pub chain-length : (holds : List (ℕ × ℕ)) → length (chain_of x lock holds) ≡ 7 * length holds
  chain-length [] = refl
  chain-length (h ∷ holds) = omega (arith, chain-length holds)

  pub reads-length : (readers : List ℕ) → length (reads_of x lock readers) ≡ 3 * length readers
  reads-length [] = refl
  reads-length (t ∷ readers) = omega (arith, reads-length readers)

  pub chain-ops : (holds : List (ℕ × ℕ)) (i : ℕ) (v : Event) → slice_get (chain_of x lock holds) i ≡ Some v → IsPrologueOp x lock v.op
  chain-ops [] i v at = absurd (none-some v at)
  chain-ops (h ∷ holds) zero v at = inr (inr (inr (lock, op_is (does h.0 (Acquire lock)) v at)))
  chain-ops (h ∷ holds) (suc zero) v at = inl (op_is (does h.0 (Read x)) v at)
  chain-ops (h ∷ holds) (suc (suc zero)) v at = inr (inr (inl (op_is (does h.0 (Release lock)) v at)))
  chain-ops (h ∷ holds) (suc (suc (suc zero))) v at = inr (inr (inr (h.1, op_is (does h.0 (Acquire h.1)) v at)))
  chain-ops (h ∷ holds) (suc (suc (suc (suc zero)))) v at = inr (inr (inr (lock, op_is (does h.0 (Acquire lock)) v at)))
  chain-ops (h ∷ holds) (suc (suc (suc (suc (suc zero))))) v at = inr (inl (op_is (does h.0 (Write x)) v at))
  chain-ops (h ∷ holds) (suc (suc (suc (suc (suc (suc zero)))))) v at = inr (inr (inl (op_is (does h.0 (Release lock)) v at)))
  chain-ops (h ∷ holds) (suc (suc (suc (suc (suc (suc (suc i))))))) v at = chain-ops holds i v at

  pub reads-ops : (readers : List ℕ) (i : ℕ) (v : Event) → slice_get (reads_of x lock readers) i ≡ Some v
      → (v.op ≡ Read x) ⊎ ((v.op ≡ Acquire lock) ⊎ (v.op ≡ Release lock))
  reads-ops [] i v at = absurd (none-some v at)
  reads-ops (t ∷ readers) zero v at = inr (inl (op_is (does t (Acquire lock)) v at))
  reads-ops (t ∷ readers) (suc zero) v at = inl (op_is (does t (Read x)) v at)
  reads-ops (t ∷ readers) (suc (suc zero)) v at = inr (inr (op_is (does t (Release lock)) v at))
  reads-ops (t ∷ readers) (suc (suc (suc i))) v at = reads-ops readers i v at

  -- each event of the reads is of a reader
  pub reads-thread : (readers : List ℕ) (i : ℕ) (v : Event) → slice_get (reads_of x lock readers) i ≡ Some v → (j : ℕ) × (slice_get readers j ≡ Some v.thread)
  reads-thread [] i v at = absurd (none-some v at)
  reads-thread (t ∷ readers) zero v at = (0, ap Some (sym (thread_is (does t (Acquire lock)) v at)))
  reads-thread (t ∷ readers) (suc zero) v at = (0, ap Some (sym (thread_is (does t (Read x)) v at)))
  reads-thread (t ∷ readers) (suc (suc zero)) v at = (0, ap Some (sym (thread_is (does t (Release lock)) v at)))
  reads-thread (t ∷ readers) (suc (suc (suc i))) v at = let rest = reads-thread readers i v at in (suc rest.0, rest.1)

  -- each reader reads
  pub reads-read : (readers : List ℕ) (j t : ℕ) → slice_get readers j ≡ Some t → (i : ℕ) × (i < 3 * length readers) × (slice_get (reads_of x lock readers) i ≡ Some (does t (Read x)))
  reads-read [] j t at = absurd (none-some t at)
  reads-read (r ∷ readers) zero t at = (1, omega arith, ap (λ (u : ℕ). Some (does u (Read x))) (same_Some r t at))
  reads-read (r ∷ readers) (suc j) t at = let rest = reads-read readers j t at in (suc (suc (suc rest.0)), omega (arith, rest.1), rest.2)

  shift : (a : Event) (C : List Event) (i j : ℕ) → NoneWrites C x i j → NoneWrites (a ∷ C) x (suc i) (suc j)
  shift a C i j none zero v low high at = absurd (omega (arith, low))
  shift a C i j none (suc h) v low high at = none h v (omega (arith, low)) (omega (arith, high)) at

  link_seven : (h : ℕ × ℕ) (holds : List (ℕ × ℕ)) (i : ℕ) (d : Event) → HasLink (chain_of x lock holds) x lock (links_of holds) i d
      → HasLink (chain_of x lock (h ∷ holds)) x lock (links_of (h ∷ holds)) (suc (suc (suc (suc (suc (suc (suc i))))))) d
  link_seven h holds i d link =
      let C : List Event = chain_of x lock holds in
      let p : ℕ = link.place in
      let a0 : Event = does h.0 (Acquire lock) in
      let a1 : Event = does h.0 (Read x) in
      let a2 : Event = does h.0 (Release lock) in
      let a3 : Event = does h.0 (Acquire h.1) in
      let a5 : Event = does h.0 (Write x) in
      record {
        place = suc (suc (suc (suc (suc (suc (suc p))))));
        event = link.event;
        later = omega (arith, link.later);
        within = omega (arith, link.within);
        found = link.found;
        kept = link.kept;
        link = elim link.link [
          | inl same ↦ inl same
          | inr r ↦
              inr (
                r.0,
                r.1,
                shift a0 (a1 ∷ a2 ∷ a3 ∷ a0 ∷ a5 ∷ a2 ∷ C) (suc (suc (suc (suc (suc (suc i)))))) (suc (suc (suc (suc (suc (suc p))))))
                    (shift a1 (a2 ∷ a3 ∷ a0 ∷ a5 ∷ a2 ∷ C) (suc (suc (suc (suc (suc i))))) (suc (suc (suc (suc (suc p)))))
                    (shift a2 (a3 ∷ a0 ∷ a5 ∷ a2 ∷ C) (suc (suc (suc (suc i)))) (suc (suc (suc (suc p))))
                    (shift a3 (a0 ∷ a5 ∷ a2 ∷ C) (suc (suc (suc i))) (suc (suc (suc p)))
                    (shift a0 (a5 ∷ a2 ∷ C) (suc (suc i)) (suc (suc p))
                    (shift a5 (a2 ∷ C) (suc i) (suc p) (shift a2 C i p r.2)))))),
              )
        ];
      }

  -- an event and a later one of its thread
  module _ (h : ℕ × ℕ) (holds : List (ℕ × ℕ)) where
    same_thread : (i j : ℕ) (d e : Event) → i < j → j < links_of (h ∷ holds) → slice_get (chain_of x lock (h ∷ holds)) j ≡ Some e → d.thread ≡ h.0 → e.thread ≡ h.0 → e.op ≢ Release lock
        → HasLink (chain_of x lock (h ∷ holds)) x lock (links_of (h ∷ holds)) i d
    same_thread i j d e later within found first second kept = record {
      place = j;
      event = e;
      later = later;
      within = within;
      found = found;
      kept = kept;
      link = inl (first ∙ sym second);
    }

  pub chain-linked : (holds : List (ℕ × ℕ)) (i : ℕ) (d : Event) → i + 1 < links_of holds → slice_get (chain_of x lock holds) i ≡ Some d
      → (d.op ≡ Release lock) ⊎ HasLink (chain_of x lock holds) x lock (links_of holds) i d
  chain-linked [] i d lt at = absurd (none-some d at)
  chain-linked (h ∷ holds) zero d lt at =
      inr (same_thread h holds 0 1 d (does h.0 (Read x)) (omega arith) (omega arith) refl (thread_is (does h.0 (Acquire lock)) d at) refl (λ frees. absurd (omega (arith, ap tag frees))))
  chain-linked (h ∷ holds) (suc zero) d lt at =
      inr (same_thread h holds 1 3 d (does h.0 (Acquire h.1)) (omega arith) (omega arith) refl (thread_is (does h.0 (Read x)) d at) refl (λ frees. absurd (omega (arith, ap tag frees))))
  chain-linked (h ∷ holds) (suc (suc zero)) d lt at = inl (op_is (does h.0 (Release lock)) d at)
  chain-linked (h ∷ holds) (suc (suc (suc zero))) d lt at =
      inr (same_thread h holds 3 4 d (does h.0 (Acquire lock)) (omega arith) (omega arith) refl (thread_is (does h.0 (Acquire h.1)) d at) refl (λ frees. absurd (omega (arith, ap tag frees))))
  chain-linked (h ∷ holds) (suc (suc (suc (suc zero)))) d lt at =
      inr (same_thread h holds 4 5 d (does h.0 (Write x)) (omega arith) (omega arith) refl (thread_is (does h.0 (Acquire lock)) d at) refl (λ frees. absurd (omega (arith, ap tag frees))))
  chain-linked (h ∷ []) (suc (suc (suc (suc (suc zero))))) d lt at = absurd (omega (arith, lt))
  chain-linked (h ∷ g ∷ holds) (suc (suc (suc (suc (suc zero))))) d lt at =
      inr (record {
        place = 8;
        event = does g.0 (Read x);
        later = omega arith;
        within = omega arith;
        found = refl;
        kept = λ frees. absurd (omega (arith, ap tag frees));
        link = inr (op_is (does h.0 (Write x)) d at, refl, none_between h g holds);
      })
    where
      none_between : (h g : ℕ × ℕ) (holds : List (ℕ × ℕ)) → NoneWrites (chain_of x lock (h ∷ g ∷ holds)) x 5 8
      none_between h g holds zero v low high at writes = absurd (omega (arith, low))
      none_between h g holds (suc zero) v low high at writes = absurd (omega (arith, low))
      none_between h g holds (suc (suc zero)) v low high at writes = absurd (omega (arith, low))
      none_between h g holds (suc (suc (suc zero))) v low high at writes = absurd (omega (arith, low))
      none_between h g holds (suc (suc (suc (suc zero)))) v low high at writes = absurd (omega (arith, low))
      none_between h g holds (suc (suc (suc (suc (suc zero))))) v low high at writes = absurd (omega (arith, low))
      none_between h g holds (suc (suc (suc (suc (suc (suc zero)))))) v low high at writes = absurd (omega (arith, ap tag (sym (op_is (does h.0 (Release lock)) v at) ∙ writes)))
      none_between h g holds (suc (suc (suc (suc (suc (suc (suc zero))))))) v low high at writes = absurd (omega (arith, ap tag (sym (op_is (does g.0 (Acquire lock)) v at) ∙ writes)))
      none_between h g holds (suc (suc (suc (suc (suc (suc (suc (suc i)))))))) v low high at writes = absurd (omega (arith, high))
  chain-linked (h ∷ holds) (suc (suc (suc (suc (suc (suc zero)))))) d lt at = inl (op_is (does h.0 (Release lock)) d at)
  chain-linked (h ∷ holds) (suc (suc (suc (suc (suc (suc (suc i))))))) d lt at =
      elim (chain-linked holds i d (omega (arith, lt)) at) [
        | inl frees ↦ inl frees
        | inr link ↦ inr (link_seven h holds i d link)
      ]

  pub chain-ends : (holds : List (ℕ × ℕ)) (i : ℕ) (v : Event) → i + 1 ≡ links_of holds → slice_get (chain_of x lock holds) i ≡ Some v → v.op ≡ Write x
  chain-ends [] i v last at = absurd (none-some v at)
  chain-ends (h ∷ holds) zero v last at = absurd (omega (arith, last))
  chain-ends (h ∷ holds) (suc zero) v last at = absurd (omega (arith, last))
  chain-ends (h ∷ holds) (suc (suc zero)) v last at = absurd (omega (arith, last))
  chain-ends (h ∷ holds) (suc (suc (suc zero))) v last at = absurd (omega (arith, last))
  chain-ends (h ∷ holds) (suc (suc (suc (suc zero)))) v last at = absurd (omega (arith, last))
  chain-ends (h ∷ holds) (suc (suc (suc (suc (suc zero))))) v last at = op_is (does h.0 (Write x)) v at
  chain-ends (h ∷ holds) (suc (suc (suc (suc (suc (suc zero)))))) v last at = absurd (omega (arith, last))
  chain-ends (h ∷ holds) (suc (suc (suc (suc (suc (suc (suc i))))))) v last at = chain-ends holds i v (omega (arith, last)) at

  -- the release after the last write
  pub chain-last : (holds : List (ℕ × ℕ)) (i : ℕ) (v : Event) → i + 1 ≡ 7 * length holds → slice_get (chain_of x lock holds) i ≡ Some v → v.op ≡ Release lock
  chain-last [] i v last at = absurd (none-some v at)
  chain-last (h ∷ holds) zero v last at = absurd (omega (arith, last))
  chain-last (h ∷ holds) (suc zero) v last at = absurd (omega (arith, last))
  chain-last (h ∷ holds) (suc (suc zero)) v last at = absurd (omega (arith, last))
  chain-last (h ∷ holds) (suc (suc (suc zero))) v last at = absurd (omega (arith, last))
  chain-last (h ∷ holds) (suc (suc (suc (suc zero)))) v last at = absurd (omega (arith, last))
  chain-last (h ∷ holds) (suc (suc (suc (suc (suc zero))))) v last at = absurd (omega (arith, last))
  chain-last (h ∷ holds) (suc (suc (suc (suc (suc (suc zero)))))) v last at = op_is (does h.0 (Release lock)) v at
  chain-last (h ∷ holds) (suc (suc (suc (suc (suc (suc (suc i))))))) v last at = chain-last holds i v (omega (arith, last)) at

  -- each of its events is of a thread that holds something
  pub chain-thread : (holds : List (ℕ × ℕ)) (i : ℕ) (v : Event) → slice_get (chain_of x lock holds) i ≡ Some v → (l : ℕ) × (0 < count_by (λ h. h.0 == v.thread && h.1 == l) holds)
  chain-thread [] i v at = absurd (none-some v at)
  chain-thread (h ∷ holds) zero v at = holds_first h holds v (thread_is (does h.0 (Acquire lock)) v at)
  chain-thread (h ∷ holds) (suc zero) v at = holds_first h holds v (thread_is (does h.0 (Read x)) v at)
  chain-thread (h ∷ holds) (suc (suc zero)) v at = holds_first h holds v (thread_is (does h.0 (Release lock)) v at)
  chain-thread (h ∷ holds) (suc (suc (suc zero))) v at = holds_first h holds v (thread_is (does h.0 (Acquire h.1)) v at)
  chain-thread (h ∷ holds) (suc (suc (suc (suc zero)))) v at = holds_first h holds v (thread_is (does h.0 (Acquire lock)) v at)
  chain-thread (h ∷ holds) (suc (suc (suc (suc (suc zero))))) v at = holds_first h holds v (thread_is (does h.0 (Write x)) v at)
  chain-thread (h ∷ holds) (suc (suc (suc (suc (suc (suc zero)))))) v at = holds_first h holds v (thread_is (does h.0 (Release lock)) v at)
  chain-thread (h ∷ holds) (suc (suc (suc (suc (suc (suc (suc i))))))) v at =
      let rest = chain-thread holds i v at in
      (rest.0, omega (arith, rest.1, sum_by-cons (λ (g : ℕ × ℕ). cond {A = ℕ} (g.0 == v.thread && g.1 == rest.0) 1 0) h holds))

  -- What the prologue takes and releases of other locks.
  module _ (t l : ℕ) (other : l ≢ lock) where
    own_none : (u : ℕ) → cond {A = ℕ} (u == t && lock == l) 1 0 ≡ 0
    own_none u = none_here u t lock l (λ same. other (sym same))

    -- it takes each lock as often as it is held
    pub chain-takes : (holds : List (ℕ × ℕ)) → acquire_count (chain_of x lock holds) t l ≡ count_by (λ h. h.0 == t && h.1 == l) holds
    chain-takes [] = refl
    chain-takes (h ∷ holds) =
        let C : List Event = chain_of x lock holds in
        let f : Event → ℕ = taking t l in
        let a0 : Event = does h.0 (Acquire lock) in
        let a1 : Event = does h.0 (Read x) in
        let a2 : Event = does h.0 (Release lock) in
        let a3 : Event = does h.0 (Acquire h.1) in
        let a5 : Event = does h.0 (Write x) in
        let none : f a1 ≡ 0 = never (h.0 == t) in
        let frees : f a2 ≡ 0 = never (h.0 == t) in
        let writes : f a5 ≡ 0 = never (h.0 == t) in
        omega (
          arith,
          sum_by-cons f a0 (a1 ∷ a2 ∷ a3 ∷ a0 ∷ a5 ∷ a2 ∷ C),
          sum_by-cons f a1 (a2 ∷ a3 ∷ a0 ∷ a5 ∷ a2 ∷ C),
          sum_by-cons f a2 (a3 ∷ a0 ∷ a5 ∷ a2 ∷ C),
          sum_by-cons f a3 (a0 ∷ a5 ∷ a2 ∷ C),
          sum_by-cons f a0 (a5 ∷ a2 ∷ C),
          sum_by-cons f a5 (a2 ∷ C),
          sum_by-cons f a2 C,
          sum_by-cons (λ (g : ℕ × ℕ). cond {A = ℕ} (g.0 == t && g.1 == l) 1 0) h holds,
          own_none h.0,
          none,
          frees,
          writes,
          chain-takes holds,
        )

    -- and releases none
    pub chain-frees : (holds : List (ℕ × ℕ)) → release_count (chain_of x lock holds) t l ≡ 0
    chain-frees [] = refl
    chain-frees (h ∷ holds) =
        let C : List Event = chain_of x lock holds in
        let f : Event → ℕ = freeing t l in
        let a0 : Event = does h.0 (Acquire lock) in
        let a1 : Event = does h.0 (Read x) in
        let a2 : Event = does h.0 (Release lock) in
        let a3 : Event = does h.0 (Acquire h.1) in
        let a5 : Event = does h.0 (Write x) in
        let none : f a1 ≡ 0 = never (h.0 == t) in
        let own : f a0 ≡ 0 = never (h.0 == t) in
        let takes : f a3 ≡ 0 = never (h.0 == t) in
        let writes : f a5 ≡ 0 = never (h.0 == t) in
        omega (
          arith,
          sum_by-cons f a0 (a1 ∷ a2 ∷ a3 ∷ a0 ∷ a5 ∷ a2 ∷ C),
          sum_by-cons f a1 (a2 ∷ a3 ∷ a0 ∷ a5 ∷ a2 ∷ C),
          sum_by-cons f a2 (a3 ∷ a0 ∷ a5 ∷ a2 ∷ C),
          sum_by-cons f a3 (a0 ∷ a5 ∷ a2 ∷ C),
          sum_by-cons f a0 (a5 ∷ a2 ∷ C),
          sum_by-cons f a5 (a2 ∷ C),
          sum_by-cons f a2 C,
          own_none h.0,
          none,
          own,
          takes,
          writes,
          chain-frees holds,
        )

    -- the reads do neither
    pub reads-takes : (readers : List ℕ) → acquire_count (reads_of x lock readers) t l ≡ 0
    reads-takes [] = refl
    reads-takes (r ∷ readers) =
        let R : List Event = reads_of x lock readers in
        let f : Event → ℕ = taking t l in
        let none : f (does r (Read x)) ≡ 0 = never (r == t) in
        let frees : f (does r (Release lock)) ≡ 0 = never (r == t) in
        omega (
          arith,
          sum_by-cons f (does r (Acquire lock)) (does r (Read x) ∷ does r (Release lock) ∷ R),
          sum_by-cons f (does r (Read x)) (does r (Release lock) ∷ R),
          sum_by-cons f (does r (Release lock)) R,
          own_none r,
          none,
          frees,
          reads-takes readers,
        )

    pub reads-frees : (readers : List ℕ) → release_count (reads_of x lock readers) t l ≡ 0
    reads-frees [] = refl
    reads-frees (r ∷ readers) =
        let R : List Event = reads_of x lock readers in
        let f : Event → ℕ = freeing t l in
        let none : f (does r (Read x)) ≡ 0 = never (r == t) in
        let takes : f (does r (Acquire lock)) ≡ 0 = never (r == t) in
        omega (
          arith,
          sum_by-cons f (does r (Acquire lock)) (does r (Read x) ∷ does r (Release lock) ∷ R),
          sum_by-cons f (does r (Read x)) (does r (Release lock) ∷ R),
          sum_by-cons f (does r (Release lock)) R,
          own_none r,
          none,
          takes,
          reads-frees readers,
        )
