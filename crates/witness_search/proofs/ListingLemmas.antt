-- A slice is listed event by event. An event is in it where its place is below its thread's end.
use Rattle.std.proofs.Common.{◌≡◌, ℕ, ◌+◌, ◌<◌, ◌↔◌, List, [], ◌∷◌, ◌++◌, length, get_or, arith, inl, inr}
use Rattle.std.proofs.lemmas.Bool.{cases_lt}
use Rattle.std.proofs.lemmas.List.Elements.{Contains-append_left, Contains-push, Contains-push_cases, Contains-get_or}
use Rattle.std.proofs.lemmas.List.Quantifiers.{all_pairs_push}
use Rattle.rapid_text.specs.Recording.{Recording, IsWellFormed}
use Rattle.rapid_text.specs.declared.event.Event.{Event}
use Rattle.trace_rules.specs.Rules.{IsDisciplined}
use Rattle.shb_clocks.proofs.CallerLemmas.{thread_here}
use Rattle.shb_clocks.proofs.ReadLemmas.{thread_named}
use Rattle.witness_search.specs.Layout.{IsSliceUpTo, AreEnds, IsWithin}
use Rattle.witness_search.specs.Slices.{IsBelowPair, IsSlice}
use Rattle.witness_search.proofs.KeptLemmas.{event_there}
use Rattle.witness_search.proofs.SliceLemmas.{IsBelowPair-within}

module _ (T : List Event) (a b : ℕ) where
  module _ (n : ℕ) (P : List ℕ) (is : IsSliceUpTo T a b n P) where
    -- an event of the slice is appended
    pub IsSliceUpTo-push : IsBelowPair T a b n → IsSliceUpTo T a b (n + 1) (P ++ n ∷ [])
    IsSliceUpTo-push below = record {
      rising = all_pairs_push (λ x y. x < y) P n is.rising (λ k d low. ((is.members (get_or P k d)).0 (Contains-get_or P k d low)).0);
      members = λ e. (
        λ m. elim (Contains-push_cases P n e m) [
          | inl earlier ↦ let h = (is.members e).0 earlier in (omega (arith, h.0), h.1)
          | inr last ↦ (omega arith, rw (← last) below)
        ],
        λ h. elim (cases_lt e n) [
          | inl earlier ↦ Contains-append_left P (n ∷ []) e ((is.members e).1 (earlier, h.1))
          | inr late ↦ let same : e ≡ n = omega (arith, h.0) in rw same (Contains-push P n)
        ],
      );
    }

    -- another is passed over
    pub IsSliceUpTo-skip : ¬ IsBelowPair T a b n → IsSliceUpTo T a b (n + 1) P
    IsSliceUpTo-skip other = record {
      rising = is.rising;
      members = λ e. (
        λ m. let h = (is.members e).0 m in (omega (arith, h.0), h.1),
        λ h. elim (cases_lt e n) [
          | inl earlier ↦ (is.members e).1 (earlier, h.1)
          | inr late ↦ let same : e ≡ n = omega (arith, h.0) in absurd (other (rw (← same) h.1))
        ],
      );
    }

  -- at the end of the trace it is the slice
  pub IsSliceUpTo-end : IsDisciplined T → (n : ℕ) (P : List ℕ) → n ≡ length T → IsSliceUpTo T a b n P → IsSlice T a b P
  IsSliceUpTo-end rules n P end is = record {
    rising = is.rising;
    members = λ e. (
      λ m. ((is.members e).0 m).1,
      λ below. (is.members e).1 (omega (arith, IsBelowPair-within T rules a b e below), below),
    );
  }

-- an event is in the slice where its place is below its thread's end
pub IsWithin-below : (r : Recording) → IsWellFormed r → (a b : ℕ) (ends : List ℕ) → AreEnds r.events a b (length r.threads) ends
    → (e : ℕ) → e < length r.events → IsWithin r.events ends e ↔ IsBelowPair r.events a b e
IsWithin-below r well a b ends are e low =
    let (v, found) = event_there r.events e low in
    let of = thread_here r.events e v found in (
      λ within. (are.at within.0 (thread_named r well e within.0 within.1) e within.1).0 within.2,
      λ below. (v.thread, of, (are.at v.thread (thread_named r well e v.thread of) e of).1 below),
    )
