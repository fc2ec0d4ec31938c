-- What a later event has below a cut, from the fronts of the cut.
use Rattle.std.proofs.Common.{◌≡◌, ℕ, ◌<◌, ◌&&◌, ◌==◌, nat_lt, not, Bool, true, false, List, length, sum_by, slice_index, All, Option, Some, None, refl, sym, ap, ◌∙◌, arith, cond, inl, inr}
use Rattle.std.specs.List.{slice_get}
use Rattle.std.proofs.lemmas.Bool.{cases_Bool, and_right, le-ltb}
use Rattle.rapid_text.specs.declared.event.Event.{Event}
use Rattle.rapid_text.specs.Recording.{Recording, IsWellFormed}
use Rattle.event_index.specs.Events.{passes_by}
use Rattle.event_index.specs.Lookups.{before, place_of}
use Rattle.event_index.specs.Relations.{is_access}
use Rattle.race_groups.specs.Classes.{adds_to}
use Rattle.race_groups.specs.Counting.{AreFronts, IsFront, later_by, later_count}
use Rattle.race_groups.specs.Cuts.{is_under}
use Rattle.race_groups.specs.Ends.{nothing}
use Rattle.race_groups.specs.declared.class.Class.{Class}
use Rattle.race_groups.proofs.SumLemmas.{sum_by_each, sum_by_zero}
use Rattle.race_groups.proofs.WalkLemmas.{share_of}
use Rattle.race_groups.proofs.WholeLemmas.{none_added, share_whole}

-- a class that accesses nothing has no pairs
none_passes : (keeps : Class → Class → Bool) (p q : ℕ) (j : Class) (o : Option Class) (b : Bool) → ((x : ℕ) → is_access x j.op ≡ false)
    → ◌≡◌ {A = ℕ} (cond (b && adds_to keeps p q j o) 1 0) 0
none_passes keeps p q j o false none = refl
none_passes keeps p q j o true none =
    elim (cases_Bool (adds_to keeps p q j o)) [
      | inl holds ↦ absurd (none_added keeps p q j o none holds)
      | inr fails ↦ ap (λ (t : Bool). cond t 1 0) fails
    ]

pub later_none : (T : List Event) (keeps : Class → Class → Bool) (classes : List ℕ) (infos : List Class) (u : ℕ) (end : ℕ → ℕ → ℕ) (p q b : ℕ) (j : Class)
    → slice_get infos (slice_index classes b) ≡ Some j → ((x : ℕ) → is_access x j.op ≡ false) → later_count T keeps classes infos u end p q b ≡ 0
later_none T keeps classes infos u end p q b j at none =
    ap (later_by T keeps classes infos u (end b) p q) at
    ∙ sum_by_each (λ a. cond (is_under T u (end b) a && adds_to keeps p q j (slice_get infos (slice_index classes a))) 1 0) (λ a. 0) (before (length T))
    (λ a. none_passes keeps p q j (slice_get infos (slice_index classes a)) (is_under T u (end b) a) none)
    ∙ sum_by_zero (before (length T))

-- nothing comes before ends that are 0
under_nothing : (T : List Event) (u a : ℕ) → is_under T u (λ t. 0) a ≡ false
under_nothing T u a = none (slice_get T a)
  where
    none : (o : Option Event) → passes_by (λ v. not (v.thread == u) && nat_lt (place_of T a) 0) o ≡ false
    none None = refl
    none (Some v) = and_right (not (v.thread == u)) (nat_lt (place_of T a) 0) (le-ltb (place_of T a) 0 (omega arith))

pub later_nothing : (T : List Event) (keeps : Class → Class → Bool) (classes : List ℕ) (infos : List Class) (u p q b : ℕ) → later_count T keeps classes infos u nothing p q b ≡ 0
later_nothing T keeps classes infos u p q b = none (slice_get infos (slice_index classes b))
  where
    none : (o : Option Class) → later_by T keeps classes infos u (nothing b) p q o ≡ 0
    none None = refl
    none (Some j) =
        sum_by_each (λ a. cond (is_under T u (λ t. 0) a && adds_to keeps p q j (slice_get infos (slice_index classes a))) 1 0) (λ a. 0) (before (length T))
        (λ a. ap (λ (t : Bool). cond (t && adds_to keeps p q j (slice_get infos (slice_index classes a))) 1 0) (under_nothing T u a))
        ∙ sum_by_zero (before (length T))

-- The fronts of one cut that are the ends of event b: their counts add all that the event has.
module _ (r : Recording) (formed : IsWellFormed r) (n : ℕ) (classes : List ℕ) (u : ℕ) (end : ℕ → ℕ → ℕ) (i : ℕ) (fronts counts : List ℕ) (are : IsFront r.events (length r.threads) n classes u end i fronts counts) (b : ℕ)
    (moved : AreFronts (length r.threads) u (end b) fronts) where
  pub later_whole : (infos : List Class) (keeps : Class → Class → Bool) (j : Class) → length classes ≡ length r.events → All (λ c. c < length infos) classes → n ≡ length infos
      → slice_get infos (slice_index classes b) ≡ Some j → (p q : ℕ)
      → sum_by (share_of keeps p q j infos (slice_index counts)) (before (length infos)) ≡ later_count r.events keeps classes infos u end p q b
  later_whole infos keeps j len within size at p q =
      share_whole r formed keeps p q j classes fronts counts infos u (end b) len within (are.len ∙ size) are.counts moved
      ∙ sym (ap (later_by r.events keeps classes infos u (end b) p q) at)
