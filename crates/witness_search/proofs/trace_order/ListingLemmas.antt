-- The counted events are listed one by one.
use Rattle.std.proofs.Common.{◌≡◌, ℕ, ◌+◌, ◌<◌, List, [], ◌∷◌, ◌++◌, length, get_or, Contains, subst, arith, inl, inr}
use Rattle.std.proofs.lemmas.Bool.{cases_lt}
use Rattle.std.proofs.lemmas.List.Elements.{Contains-append_left, Contains-append_right, Contains-append_cases, Contains-get_or}
use Rattle.std.proofs.lemmas.List.Quantifiers.{all_pairs_push}
use Rattle.rapid_text.specs.declared.event.Event.{Event}
use Rattle.event_index.proofs.CallerLemmas.{thread_within}
use Rattle.schedule.proofs.CallerLemmas.{Contains-here}
use Rattle.must_order.specs.Layout.{IsCounted}
use Rattle.witness_search.proofs.RisingLemmas.{no_member, member_cases}
use Rattle.witness_search.specs.trace_order.Layout.{IsCountedList, IsCountedUpTo}

module _ (T : List Event) (row : ℕ → ℕ) where
  pub IsCountedUpTo-start : IsCountedUpTo T row 0 []
  IsCountedUpTo-start = record {
    rising = λ i j d ij jn. absurd (omega arith);
    members = λ e. (λ m. absurd (no_member e m), λ h. absurd (omega (arith, h.0)));
  }

  last_is : (n e : ℕ) → Contains (n ∷ []) e → n ≡ e
  last_is n e m = elim (member_cases n [] e m) [ inl is ↦ is | inr none ↦ absurd (no_member e none) ]

  module _ (n : ℕ) (P : List ℕ) (is : IsCountedUpTo T row n P) where
    -- a counted event is appended
    pub IsCountedUpTo-push : IsCounted T row n → IsCountedUpTo T row (n + 1) (P ++ n ∷ [])
    IsCountedUpTo-push counted = record {
      rising = all_pairs_push (λ x y. x < y) P n is.rising (λ k d low. ((is.members (get_or P k d)).0 (Contains-get_or P k d low)).0);
      members = λ e. (
        λ m. elim (Contains-append_cases P (n ∷ []) e m) [
          | inl earlier ↦ let h = (is.members e).0 earlier in (omega (arith, h.0), h.1)
          | inr last ↦ let same = last_is n e last in (omega arith, subst (IsCounted T row) same counted)
        ],
        λ h. elim (cases_lt e n) [
          | inl earlier ↦ Contains-append_left P (n ∷ []) e ((is.members e).1 (earlier, h.1))
          | inr late ↦ Contains-append_right P (n ∷ []) e (Contains-here n e [] (omega (arith, h.0)))
        ],
      );
    }

    -- another is passed over
    pub IsCountedUpTo-skip : ¬ IsCounted T row n → IsCountedUpTo T row (n + 1) P
    IsCountedUpTo-skip other = record {
      rising = is.rising;
      members = λ e. (
        λ m. let h = (is.members e).0 m in (omega (arith, h.0), h.1),
        λ h. elim (cases_lt e n) [
          | inl earlier ↦ (is.members e).1 (earlier, h.1)
          | inr late ↦
              let same : e ≡ n = omega (arith, h.0) in
              absurd (other (subst (IsCounted T row) same h.1))
        ],
      );
    }

    -- at the end of the trace it has all
    pub IsCountedUpTo-end : n ≡ length T → IsCountedList T row P
    IsCountedUpTo-end end = record {
      rising = is.rising;
      members = λ e. (
        λ m. ((is.members e).0 m).1,
        λ counted. (is.members e).1 (let low = thread_within T e counted.0 counted.1 in omega (arith, low, end), counted),
      );
    }
