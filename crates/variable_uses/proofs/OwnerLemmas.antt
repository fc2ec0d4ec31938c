-- The threads of events that pass a test, one event further, and what two such sets of threads say.
use Rattle.std.proofs.Common.{◌≡◌, ◌≢◌, ℕ, ◌+◌, ◌<◌, ◌==◌, ◌⊎◌, Bool, true, false, cond, List, Some, refl, sym, ap, ◌∙◌, subst, arith, inl, inr}
use Rattle.std.proofs.lemmas.Bool.{cases_eq, true≢false, false≢true, eq-eqb, ne_eqb}
use Rattle.std.proofs.lemmas.Option.{same_Some}
use Rattle.rapid_text.specs.declared.event.Event.{Event}
use Rattle.event_index.specs.Events.{thread_at}
use Rattle.variable_uses.specs.Owners.{AreOwners, nobody, only, several, AreTwo, are_two, with_thread}
use Rattle.variable_uses.specs.declared.choosing.Threads.{Threads}
use Rattle.variable_uses.specs.declared.choosing.Threads.TheVariants.{Only, Several}

module _ (T : List Event) (test : ℕ → Bool) (n t : ℕ) where
  -- an event that fails
  pub AreOwners-no : (threads : Threads) → test n ≡ false → AreOwners T test n threads → AreOwners T test (n + 1) threads
  AreOwners-no _ fails (nobody none) = nobody (λ e lt. elim (cases_eq e n) [ inl same ↦ ap test same ∙ fails | inr ne ↦ none e (omega (arith, lt, ne)) ])
  AreOwners-no _ fails (only u a lt passes of all) =
      only u a (omega (arith, lt)) passes of (λ e low mine. elim (cases_eq e n) [ inl same ↦ absurd (true≢false (sym mine ∙ ap test same ∙ fails)) | inr ne ↦ all e (omega (arith, low, ne)) mine ])
  AreOwners-no _ fails (several a b u w low high one two of_one of_two apart) = several a b u w (omega (arith, low)) (omega (arith, high)) one two of_one of_two apart

  -- one that passes
  module _ (passes : test n ≡ true) (of : thread_at T n ≡ Some t) where
    add_only : (u a : ℕ) → a < n → test a ≡ true → thread_at T a ≡ Some u → ((e : ℕ) → e < n → test e ≡ true → thread_at T e ≡ Some u) → (u ≡ t) ⊎ (u ≢ t) → AreOwners T test (n + 1) (cond (u == t) (Only u) Several)
    add_only u a lt is of_a all (inl same) =
        subst (λ b. AreOwners T test (n + 1) (cond b (Only u) Several)) (sym (eq-eqb u t same))
        (only u a (omega (arith, lt)) is of_a (λ e low mine. elim (cases_eq e n) [ inl last ↦ ap (thread_at T) last ∙ of ∙ ap Some (sym same) | inr ne ↦ all e (omega (arith, low, ne)) mine ]))
    add_only u a lt is of_a all (inr ne) =
        subst (λ b. AreOwners T test (n + 1) (cond b (Only u) Several)) (sym (ne_eqb u t ne)) (several a n u t (omega (arith, lt)) (omega arith) is passes of_a of ne)

    pub AreOwners-yes : (threads : Threads) → AreOwners T test n threads → AreOwners T test (n + 1) (with_thread threads t true)
    AreOwners-yes _ (nobody none) =
        only t n (omega arith) passes of (λ e lt mine. elim (cases_eq e n) [ inl same ↦ ap (thread_at T) same ∙ of | inr ne ↦ absurd (true≢false (sym mine ∙ none e (omega (arith, lt, ne)))) ])
    AreOwners-yes _ (only u a lt is of_a all) = add_only u a lt is of_a all (cases_eq u t)
    AreOwners-yes _ (several a b u w low high one two of_one of_two apart) = several a b u w (omega (arith, low)) (omega (arith, high)) one two of_one of_two apart

  -- either
  pub AreOwners-more : (threads : Threads) (counts : Bool) → test n ≡ counts → thread_at T n ≡ Some t → AreOwners T test n threads → AreOwners T test (n + 1) (with_thread threads t counts)
  AreOwners-more threads true is of are = AreOwners-yes is of threads are
  AreOwners-more threads false is of are = AreOwners-no threads is are

-- two threads are two events of different threads
module _ (T : List Event) (n : ℕ) (first second : ℕ → Bool) (low_first : (e : ℕ) → first e ≡ true → e < n) (low_second : (e : ℕ) → second e ≡ true → e < n) where
  only_two : (t u : ℕ) → (t ≡ u) ⊎ (t ≢ u) → cond (t == u) false true ≡ true → t ≢ u
  only_two t u (inl same) h = absurd (false≢true (sym (ap (λ b. cond b false true) (eq-eqb t u same)) ∙ h))
  only_two t u (inr ne) h = ne

  -- of two different threads, one is not t
  pick : (t a b u w : ℕ) → u ≢ w → (t ≡ u) ⊎ (t ≢ u) → (t ≢ u) ⊎ (t ≢ w)
  pick t a b u w apart (inl same) = inr (λ is. apart (sym same ∙ is))
  pick t a b u w apart (inr ne) = inl ne

  pub AreTwo-from : (one other : Threads) → AreOwners T first n one → AreOwners T second n other → are_two one other ≡ true → AreTwo T first second
  AreTwo-from _ _ (nobody none) owners h = absurd (false≢true h)
  AreTwo-from _ _ (only t a lt is of all) (nobody none) h = absurd (false≢true h)
  AreTwo-from _ _ (only t a lt is of all) (only u b low also of_b each) h = record { a = a; b = b; t = t; u = u; one = is; other = also; of_one = of; of_other = of_b; apart = only_two t u (cases_eq t u) h }
  AreTwo-from _ _ (only t a lt is of all) (several b c u w low high one two of_b of_c apart) h =
      elim (pick t b c u w apart (cases_eq t u)) [
        | inl ne ↦ record { a = a; b = b; t = t; u = u; one = is; other = one; of_one = of; of_other = of_b; apart = ne }
        | inr ne ↦ record { a = a; b = c; t = t; u = w; one = is; other = two; of_one = of; of_other = of_c; apart = ne }
      ]
  AreTwo-from _ _ (several b c u w low high one two of_b of_c apart) (nobody none) h = absurd (false≢true h)
  AreTwo-from _ _ (several b c u w low high one two of_b of_c apart) (only t a lt is of all) h =
      elim (pick t b c u w apart (cases_eq t u)) [
        | inl ne ↦ record { a = b; b = a; t = u; u = t; one = one; other = is; of_one = of_b; of_other = of; apart = λ same. ne (sym same) }
        | inr ne ↦ record { a = c; b = a; t = w; u = t; one = two; other = is; of_one = of_c; of_other = of; apart = λ same. ne (sym same) }
      ]
  AreTwo-from _ _ (several b c u w low high one two of_b of_c apart) (several a d t v lt le is also of_a of_d differ) h =
      elim (pick t b c u w apart (cases_eq t u)) [
        | inl ne ↦ record { a = b; b = a; t = u; u = t; one = one; other = is; of_one = of_b; of_other = of_a; apart = λ same. ne (sym same) }
        | inr ne ↦ record { a = c; b = a; t = w; u = t; one = two; other = is; of_one = of_c; of_other = of_a; apart = λ same. ne (sym same) }
      ]

  pub AreTwo-to : (one other : Threads) → AreOwners T first n one → AreOwners T second n other → AreTwo T first second → are_two one other ≡ true
  AreTwo-to _ _ (nobody none) owners two = absurd (true≢false (sym two.one ∙ none two.a (low_first two.a two.one)))
  AreTwo-to _ _ (only t a lt is of all) (nobody none) two = absurd (true≢false (sym two.other ∙ none two.b (low_second two.b two.other)))
  AreTwo-to _ _ (only t a lt is of all) (only u b low also of_b each) two =
      let mine : two.t ≡ t = same_Some two.t t (sym two.of_one ∙ all two.a (low_first two.a two.one) two.one) in
      let theirs : two.u ≡ u = same_Some two.u u (sym two.of_other ∙ each two.b (low_second two.b two.other) two.other) in
      ap (λ b. cond b false true) (ne_eqb t u (λ same. two.apart (mine ∙ same ∙ sym theirs)))
  AreTwo-to _ _ (only t a lt is of all) (several b c u w low high one two_of of_b of_c apart) two = refl
  AreTwo-to _ _ (several b c u w low high one two_of of_b of_c apart) (nobody none) two = absurd (true≢false (sym two.other ∙ none two.b (low_second two.b two.other)))
  AreTwo-to _ _ (several b c u w low high one two_of of_b of_c apart) (only t a lt is of all) two = refl
  AreTwo-to _ _ (several b c u w low high one two_of of_b of_c apart) (several a d t v lt le is also of_a of_d differ) two = refl
