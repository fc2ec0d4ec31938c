-- Each correct reordering that has an event of the window has the chain of its prologue, but perhaps a release of the
-- prologue's lock.
use Rattle.std.proofs.Common.{◌≡◌, ◌≢◌, ℕ, zero, suc, ◌+◌, ◌-◌, ◌<◌, ◌≤◌, true, false, List, length, take, reverse, find, Contains, Some, slice_get, refl, sym, ap, ◌∙◌, subst, arith, eq-eqb, inl, inr}
use Rattle.std.proofs.lemmas.Bool.{cases_lt, false_from_ne_true}
use Rattle.std.proofs.lemmas.Option.{same_Some, slice_get_within}
use Rattle.rapid_text.specs.Operations.{is_write}
use Rattle.rapid_text.specs.declared.event.Event.{Event}
use Rattle.rapid_text.specs.declared.event.Op.TheVariants.{Read, Write, Release, Fork}
use Rattle.trace_rules.specs.Rules.{IsDisciplined}
use Rattle.trace_rules.proofs.CallerLemmas.{write-from_test}
use Rattle.event_index.specs.Events.{op_at, thread_at, is_write_at}
use Rattle.event_index.specs.Lookups.{before, last_writer, last_writer_by, fork_of}
use Rattle.event_index.proofs.CallerLemmas.{find_last_yes, find_last_no, passes_here, thread_here, op_here, op_event}
use Rattle.shb_clocks.proofs.CallerLemmas.{fork_of-is}
use Rattle.schedule.specs.Reordering.{IsCorrectReordering}
use Rattle.schedule.proofs.CallerLemmas.{Allows-enabled}
use Rattle.witness_search.proofs.KeptLemmas.{event_there}
use Rattle.must_order.specs.MustBefore.{by_writer}
use Rattle.must_order.proofs.ListLemmas.{Contains-from_take}
use Rattle.must_order.proofs.MustLemmas.{reached, Link-in}
use Rattle.must_order.proofs.ReadyLemmas.{IsReady-allowed}
use Rattle.window.specs.Window.{IsWindow, NoneWrites}
use Rattle.window.proofs.WindowLemmas.{tag}

-- what a list that has an event has with it
module _ (W : List Event) (P : List ℕ) (correct : IsCorrectReordering W P) (e : ℕ) (has : Contains P e) where
  pub earlier_has : (d t : ℕ) → d < e → thread_at W d ≡ Some t → thread_at W e ≡ Some t → Contains P d
  earlier_has d t lt of also =
      let r = reached W P e correct has in
      let ready = IsReady-allowed W (take r.at P) e r.before (Allows-enabled W (take r.at P) e r.after) in
      Contains-from_take P r.at d (ready.earlier d lt (of ∙ sym also ∙ ready.of_thread))

  pub fork_has : (f t : ℕ) → thread_at W e ≡ Some t → fork_of W t ≡ Some f → Contains P f
  fork_has f t of forks =
      let r = reached W P e correct has in
      let ready = IsReady-allowed W (take r.at P) e r.before (Allows-enabled W (take r.at P) e r.after) in
      let same : ready.thread ≡ t = same_Some ready.thread t (sym ready.of_thread ∙ of) in
      Contains-from_take P r.at f (ready.fork f (ap (fork_of W) same ∙ forks))

  pub writer_has : (w : ℕ) → last_writer W e ≡ Some w → Contains P w
  writer_has w writer =
      let r = reached W P e correct has in
      Contains-from_take P r.at w (Link-in W (take r.at P) r.before e (Allows-enabled W (take r.at P) e r.after) w (by_writer writer))

  pub within_has : e < length W
  within_has =
      let r = reached W P e correct has in
      let a = Allows-enabled W (take r.at P) e r.after in
      slice_get_within W e a.v a.found

module _ (T W : List Event) (k m n x lock c : ℕ) (is : IsWindow T W k m n x lock c) where
  is_write_here : (i : ℕ) (v : Event) → slice_get W i ≡ Some v → v.op ≡ Write x → is_write_at W x i ≡ true
  is_write_here i v at write = passes_here (λ w. is_write x w.op) W i v at ∙ ap (is_write x) write ∙ eq-eqb x x refl

  not_write : (i : ℕ) (v : Event) → slice_get W i ≡ Some v → v.op ≢ Write x → is_write_at W x i ≡ false
  not_write i v at other = passes_here (λ w. is_write x w.op) W i v at ∙ false_from_ne_true (is_write x v.op) (λ passes. other (write-from_test x v.op passes))

  in_front : (i : ℕ) → i < n → (v : Event) × (slice_get W i ≡ Some v)
  in_front i lt = event_there W i (omega (arith, is.size))

  -- a write that no other follows is the last
  last_from : (i j : ℕ) (d : Event) → i + j < n → slice_get W i ≡ Some d → d.op ≡ Write x → NoneWrites W x i (i + j + 1)
      → find (is_write_at W x) (reverse (before (i + j + 1))) ≡ Some i
  last_from i zero d lt at writes none =
      let here : i + 1 ≡ i + 0 + 1 = omega arith in
      subst (λ (e : ℕ). find (is_write_at W x) (reverse (before e)) ≡ Some i) here
      (find_last_yes (is_write_at W x) i (is_write_here i d at writes))
  last_from i (suc j) d lt at writes none =
      let (v, there) = in_front (i + j + 1) (omega (arith, lt)) in
      let here : i + j + 1 + 1 ≡ i + suc j + 1 = omega arith in
      subst (λ (e : ℕ). find (is_write_at W x) (reverse (before e)) ≡ Some i) here
      (find_last_no (is_write_at W x) (i + j + 1) (not_write (i + j + 1) v there (none (i + j + 1) v (omega arith) (omega arith) there))
      ∙ last_from i j d (omega (arith, lt)) at writes (λ h w low high found. none h w low (omega (arith, high)) found))

  last_before : (i j : ℕ) (d : Event) → i < j → j < n → slice_get W i ≡ Some d → d.op ≡ Write x → NoneWrites W x i j
      → find (is_write_at W x) (reverse (before j)) ≡ Some i
  last_before i j d lt high at writes none =
      let here : i + (j - (i + 1)) + 1 ≡ j = omega (arith, lt) in
      subst (λ (e : ℕ). find (is_write_at W x) (reverse (before e)) ≡ Some i) here
      (last_from i (j - (i + 1)) d (omega (arith, lt, high)) at writes (λ h w low below found. none h w low (omega (arith, below, here)) found))

  reads_last : (i w : ℕ) (v : Event) → slice_get W i ≡ Some v → v.op ≡ Read x → find (is_write_at W x) (reverse (before i)) ≡ Some w → last_writer W i ≡ Some w
  reads_last i w v at read last = ap (last_writer_by W i) (op_here W i v at ∙ ap Some read) ∙ last

  module _ (rules : IsDisciplined W) (P : List ℕ) (correct : IsCorrectReordering W P) where
    -- down the chain
    down : (fuel i b : ℕ) (d : Event) → c ≤ i + fuel → i < c → c ≡ b + 1 → Contains P b → slice_get W i ≡ Some d → d.op ≢ Release lock → Contains P i
    down zero i b d near lt long has at kept = absurd (omega (arith, near, lt))
    down (suc fuel) i b d near lt long has at kept =
        elim (cases_lt (i + 1) c) [
          | inr end ↦ let one : b ≡ i = omega (arith, end, lt, long) in subst (Contains P) one has
          | inl inner ↦ elim (is.linked i d inner at) [
            | inl frees ↦ absurd (kept frees)
            | inr link ↦
                let there : Contains P link.place =
                down fuel link.place b link.event (omega (arith, near, link.later)) link.within long has link.found link.kept in
                elim link.link [
                  | inl same ↦
                      earlier_has W P correct link.place there i d.thread link.later (thread_here W i d at)
                      (thread_here W link.place link.event link.found ∙ ap Some (sym same))
                  | inr reads ↦
                      writer_has W P correct link.place there i
                      (reads_last link.place i link.event link.found reads.1
                      (last_before i link.place d link.later (omega (arith, link.within, is.chain)) at reads.0 reads.2))
                ]
          ]
        ]

    -- after the chain is no write
    none_behind : (b i : ℕ) → c ≡ b + 1 → i ≤ n → NoneWrites W x b i
    none_behind b i long fits h v low high at writes =
        elim (is.reads h v (omega (arith, low, long)) (omega (arith, high, fits)) at) [
          | inl read ↦ absurd (omega (arith, ap tag read, ap tag writes))
          | inr rest ↦ elim rest [
            | inl takes ↦ absurd (omega (arith, ap tag takes, ap tag writes))
            | inr frees ↦ absurd (omega (arith, ap tag frees, ap tag writes))
          ]
        ]

    from_read : (b i : ℕ) (v : Event) → c ≡ b + 1 → c ≤ i → i < n → slice_get W i ≡ Some v → v.op ≡ Read x → Contains P i → Contains P b
    from_read b i v long low high at reads has =
        let (d, there) = in_front b (omega (arith, long, is.chain)) in
        writer_has W P correct i has b
        (reads_last i b v at reads (last_before b i d (omega (arith, low, long)) high there (is.ends b d (sym long) there) (none_behind b i long (omega (arith, high)))))

    -- an event of the window has with it the end of the chain
    pulled : (fuel e b : ℕ) → e < fuel → n ≤ e → Contains P e → c ≡ b + 1 → Contains P b
    pulled zero e b low high has long = absurd (omega arith)
    pulled (suc fuel) e b low high has long =
        let (v, at) = event_there W e (within_has W P correct e has) in
        let of : thread_at W e ≡ Some v.thread = thread_here W e v at in
        elim (is.awaited e v high at) [
          | inl none ↦ absurd (omega arith)
          | inr rest ↦ elim rest [
            | inl forked ↦
                let f : ℕ = forked.0 in
                let op : op_at W f ≡ Some (Fork v.thread) = forked.2 in
                let g = op_event W f (Fork v.thread) op in
                let early : f < e =
                elim (cases_lt f e) [
                  | inl lt ↦ lt
                  | inr le ↦ elim (cases_lt e f) [
                    | inl late ↦ absurd (rules.no_event_before_fork e f v.thread v g.0 late at g.1 g.2 refl)
                    | inr ge ↦
                        let one : f ≡ e = omega arith in
                        let same : g.0 ≡ v = same_Some g.0 v (sym g.1 ∙ ap (slice_get W) one ∙ at) in
                        absurd (rules.no_own_fork f g.0 g.1 (g.2 ∙ ap (λ (w : Event). Fork w.thread) (sym same)))
                  ]
                ] in
                let there : Contains P f = fork_has W P correct e has f v.thread of (fork_of-is W rules f v.thread op) in
                pulled fuel f b (omega arith) forked.1 there long
            | inr own ↦
                let i : ℕ = own.0 in
                let d : Event = own.1 in
                let high_i : i < n = own.2 in
                let there : Contains P i =
                earlier_has W P correct e has i v.thread (omega (arith, high_i, high)) (thread_here W i d own.3 ∙ ap Some own.4) of in
                elim own.5 [
                  | inl last ↦ let one : i ≡ b = omega (arith, last, long) in subst (Contains P) one there
                  | inr read ↦ from_read b i d long read.0 high_i own.3 read.1 there
                ]
          ]
        ]

    pub chain_has : (e i : ℕ) (d : Event) → n ≤ e → Contains P e → i < c → slice_get W i ≡ Some d → d.op ≢ Release lock → Contains P i
    chain_has e i d high has lt at kept =
        let b : ℕ = c - 1 in
        let long : c ≡ b + 1 = omega (arith, lt) in
        down c i b d (omega arith) lt long (pulled (e + 1) e b (omega arith) high has long) at kept
