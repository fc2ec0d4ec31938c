-- The numbers of the lists of locks that threads hold, event by event.
use Rattle.std.proofs.Common.{◌≡◌, ℕ, ◌+◌, ◌++◌, ◌∷◌, [], ◌<◌, ◌==◌, true, false, List, Vec, Option, Some, None, take, set, length, refl, sym, ap, ◌∙◌, subst, arith, inl, inr}
use Rattle.std.specs.List.{slice_get}
use Rattle.std.specs.declared.alloc.Global.{Global}
use Rattle.std.proofs.lemmas.Bool.{and_right}
use Rattle.std.proofs.lemmas.Option.{same_Some}
use Rattle.rapid_text.specs.Operations.{is_acquire, is_release}
use Rattle.rapid_text.specs.declared.event.Event.{Event}
use Rattle.rapid_text.specs.declared.event.Op.{Op}
use Rattle.rapid_text.specs.declared.event.Op.TheVariants.{Read, Write, Acquire, Release, Fork, Join}
use Rattle.event_index.specs.Relations.{is_access}
use Rattle.trace_rules.specs.Rules.{hold_count}
use Rattle.trace_rules.proofs.Counts.{slice_get-set}
use Rattle.event_index.proofs.CallerLemmas.{hold_same, takes_not_thread, frees_not_thread}
use Rattle.race_groups.specs.Building.{IsGrown}
use Rattle.race_groups.specs.Holding.{AreKnown, AreLocksOfThread, AreUnknown}
use Rattle.race_groups.proofs.BuildLemmas.{get_either}

AreLocksOfThread-grown : (T : List Event) (lists further : List (Vec ℕ Global)) (m t n : ℕ) → IsGrown lists further → AreLocksOfThread T lists m t n → AreLocksOfThread T further m t n
AreLocksOfThread-grown T lists further m t n grown of = record { locks = of.locks; at = grown.kept n of.locks of.at; held = of.held; lent = of.lent }

-- what is known stays so in lists that grow
pub AreKnown-grown : (T : List Event) (lists further : List (Vec ℕ Global)) (m : ℕ) (known : List (Option ℕ)) → IsGrown lists further → AreKnown T m lists known → AreKnown T m further known
AreKnown-grown T lists further m known grown are = λ t n at. AreLocksOfThread-grown T lists further m t n grown (are t n at)

-- the list of a thread whose locks an event leaves alone
later : (T : List Event) (lists : List (Vec ℕ Global)) (m t n : ℕ) → ((l : ℕ) → hold_count (take (m + 1) T) t l ≡ hold_count (take m T) t l) → AreLocksOfThread T lists m t n
    → AreLocksOfThread T lists (m + 1) t n
later T lists m t n same of = record {
  locks = of.locks;
  at = of.at;
  held = λ l stands. omega (arith, of.held l stands, same l);
  lent = λ l holds lent. of.lent l (omega (arith, holds, same l)) lent;
}

module _ (T : List Event) (lists : List (Vec ℕ Global)) (n : ℕ) (known : List (Option ℕ)) (are : AreKnown T n lists known) where
  -- an event that takes no lock and lets none go
  pub AreKnown-access : (v : Event) → slice_get T n ≡ Some v → ((l : ℕ) → is_acquire l v.op ≡ false) → ((l : ℕ) → is_release l v.op ≡ false) → AreKnown T (n + 1) lists known
  AreKnown-access v at takes frees = λ t k found.
      later T lists n t k (λ l. hold_same T n t l v at (and_right (v.thread == t) (is_acquire l v.op) (takes l)) (and_right (v.thread == t) (is_release l v.op) (frees l))) (are t k found)

  -- an event after which the list of its thread is not known
  pub AreKnown-passed : (v : Event) (after : List (Option ℕ)) → slice_get T n ≡ Some v → v.thread < length known → after ≡ set known v.thread None → AreKnown T (n + 1) lists after
  AreKnown-passed v after at within is = λ t k found.
      elim (slice_get-set known v.thread t None (Some k) within (ap (λ xs. slice_get xs t) (sym is) ∙ found)) [
        | inl mine ↦ let none = mine.1 in cc
        | inr other ↦ later T lists n t k (λ l. hold_same T n t l v at (takes_not_thread v t l (λ e. other.0 (sym e))) (frees_not_thread v t l (λ e. other.0 (sym e)))) (are t k other.1)
      ]

  -- the list of a thread that is made
  pub AreKnown-made : (t k : ℕ) (after : List (Option ℕ)) → t < length known → after ≡ set known t (Some k) → AreLocksOfThread T lists n t k → AreKnown T n lists after
  AreKnown-made t k after within is of = λ u m found.
      elim (slice_get-set known t u (Some k) (Some m) within (ap (λ xs. slice_get xs u) (sym is) ∙ found)) [
        | inl mine ↦
            subst (λ (x : ℕ). AreLocksOfThread T lists n x m) (sym mine.0)
            (subst (λ (y : ℕ). AreLocksOfThread T lists n t y) (same_Some k m mine.1) of)
        | inr other ↦ are u m other.1
      ]

-- an access takes no lock, and lets none go
pub access_takes_none : (x : ℕ) (op : Op) → is_access x op ≡ true → (l : ℕ) → is_acquire l op ≡ false
access_takes_none x (Read y) accessed l = refl
access_takes_none x (Write y) accessed l = refl
access_takes_none x (Acquire m) accessed l = cc
access_takes_none x (Release m) accessed l = cc
access_takes_none x (Fork u) accessed l = cc
access_takes_none x (Join u) accessed l = cc

pub access_frees_none : (x : ℕ) (op : Op) → is_access x op ≡ true → (l : ℕ) → is_release l op ≡ false
access_frees_none x (Read y) accessed l = refl
access_frees_none x (Write y) accessed l = refl
access_frees_none x (Acquire m) accessed l = cc
access_frees_none x (Release m) accessed l = cc
access_frees_none x (Fork u) accessed l = cc
access_frees_none x (Join u) accessed l = cc

-- one more list that is not known
pub AreUnknown-push : (known : List (Option ℕ)) → AreUnknown known → AreUnknown (known ++ None ∷ [])
AreUnknown-push known none t n found = elim (get_either known None t (Some n) found) [
  | inl old ↦ none t n old
  | inr mine ↦ cc
]
