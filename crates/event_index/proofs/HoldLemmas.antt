-- How often a thread holds a lock, event by event, in a trace that keeps the rules.
use Rattle.std.proofs.Common.{◌≡◌, ◌≢◌, ℕ, ◌+◌, ◌<◌, ◌≤◌, ◌⊎◌, Bool, true, false, cond, eqb, ◌&&◌, List, Some, take, refl, ap, ◌∙◌, arith, eq-eqb, inl, inr}
use Rattle.std.specs.List.{slice_get}
use Rattle.std.proofs.lemmas.Bool.{eqb-true, ne_eqb, cases_Bool, and_parts, and_from, and_left, and_right}
use Rattle.rapid_text.specs.Operations.{is_acquire, is_release}
use Rattle.rapid_text.specs.declared.event.Event.{Event}
use Rattle.rapid_text.specs.declared.event.Op.TheVariants.{Acquire, Release}
use Rattle.trace_rules.specs.Rules.{acquire_count, release_count, hold_count, IsDisciplined}
use Rattle.trace_rules.proofs.CallerLemmas.{acquire-from_test, release-from_test, release_count-le}
use Rattle.event_index.proofs.StepLemmas.{count_more}

-- whether the event takes the lock for the thread, or lets it go for it
abbrev pub takes : Event → ℕ → ℕ → Bool
takes v t l = eqb v.thread t && is_acquire l v.op

abbrev pub frees : Event → ℕ → ℕ → Bool
frees v t l = eqb v.thread t && is_release l v.op

pub takes_is : (v : Event) (t l : ℕ) → takes v t l ≡ true → (v.thread ≡ t) × (v.op ≡ Acquire l)
takes_is v t l h = let parts = and_parts (eqb v.thread t) (is_acquire l v.op) h in (eqb-true v.thread t parts.0, acquire-from_test l v.op parts.1)

pub frees_is : (v : Event) (t l : ℕ) → frees v t l ≡ true → (v.thread ≡ t) × (v.op ≡ Release l)
frees_is v t l h = let parts = and_parts (eqb v.thread t) (is_release l v.op) h in (eqb-true v.thread t parts.0, release-from_test l v.op parts.1)

pub takes_from : (v : Event) (t l : ℕ) → v.thread ≡ t → v.op ≡ Acquire l → takes v t l ≡ true
takes_from v t l same op = and_from _ _ (eq-eqb v.thread t same) (ap (is_acquire l) op ∙ eq-eqb l l refl)

pub frees_from : (v : Event) (t l : ℕ) → v.thread ≡ t → v.op ≡ Release l → frees v t l ≡ true
frees_from v t l same op = and_from _ _ (eq-eqb v.thread t same) (ap (is_release l) op ∙ eq-eqb l l refl)

-- an acquire frees nothing, and a release takes nothing
pub acquire_frees_not : (v : Event) (t l m : ℕ) → v.op ≡ Acquire m → frees v t l ≡ false
acquire_frees_not v t l m op = and_right (eqb v.thread t) (is_release l v.op) (ap (is_release l) op)

pub release_takes_not : (v : Event) (t l m : ℕ) → v.op ≡ Release m → takes v t l ≡ false
release_takes_not v t l m op = and_right (eqb v.thread t) (is_acquire l v.op) (ap (is_acquire l) op)

-- neither for another thread or another lock
pub takes_not_thread : (v : Event) (t l : ℕ) → v.thread ≢ t → takes v t l ≡ false
takes_not_thread v t l other = and_left (eqb v.thread t) (is_acquire l v.op) (ne_eqb v.thread t other)

pub frees_not_thread : (v : Event) (t l : ℕ) → v.thread ≢ t → frees v t l ≡ false
frees_not_thread v t l other = and_left (eqb v.thread t) (is_release l v.op) (ne_eqb v.thread t other)

pub takes_not_lock : (v : Event) (t l m : ℕ) → v.op ≡ Acquire m → m ≢ l → takes v t l ≡ false
takes_not_lock v t l m op other = and_right (eqb v.thread t) (is_acquire l v.op) (ap (is_acquire l) op ∙ ne_eqb m l other)

pub frees_not_lock : (v : Event) (t l m : ℕ) → v.op ≡ Release m → m ≢ l → frees v t l ≡ false
frees_not_lock v t l m op other = and_right (eqb v.thread t) (is_release l v.op) (ap (is_release l) op ∙ ne_eqb m l other)

taken_more : (T : List Event) (i t l : ℕ) (v : Event) → slice_get T i ≡ Some v → acquire_count (take (i + 1) T) t l ≡ acquire_count (take i T) t l + cond (takes v t l) 1 0
taken_more T i t l v at = count_more (λ w. eqb w.thread t && is_acquire l w.op) T i v at

freed_more : (T : List Event) (i t l : ℕ) (v : Event) → slice_get T i ≡ Some v → release_count (take (i + 1) T) t l ≡ release_count (take i T) t l + cond (frees v t l) 1 0
freed_more T i t l v at = count_more (λ w. eqb w.thread t && is_release l w.op) T i v at

-- a test as a number
as_one : (b : Bool) → b ≡ true → ◌≡◌ {A = ℕ} (cond b 1 0) 1
as_one b h = ap (λ (x : Bool). cond x 1 0) h

as_none : (b : Bool) → b ≡ false → ◌≡◌ {A = ℕ} (cond b 1 0) 0
as_none b h = ap (λ (x : Bool). cond x 1 0) h

-- a thread that lets a lock go has it
freed_has : (T : List Event) → IsDisciplined T → (i t l : ℕ) (v : Event) → slice_get T i ≡ Some v → frees v t l ≡ true → release_count (take i T) t l < acquire_count (take i T) t l
freed_has T rules i t l v at h =
    let is = frees_is v t l h in
    let held : 0 < hold_count (take i T) v.thread l = rules.releases_held i l v at is.1 in
    let mine : 0 < hold_count (take i T) t l = rw (← is.0) held in
    omega (arith, mine)

-- an event that neither takes nor frees the lock for the thread
pub hold_same : (T : List Event) (i t l : ℕ) (v : Event) → slice_get T i ≡ Some v → takes v t l ≡ false → frees v t l ≡ false → hold_count (take (i + 1) T) t l ≡ hold_count (take i T) t l
hold_same T i t l v at h k = omega (arith, taken_more T i t l v at, freed_more T i t l v at, as_none (takes v t l) h, as_none (frees v t l) k)

-- one that takes it
pub hold_taken : (T : List Event) → IsDisciplined T → (i t l : ℕ) (v : Event) → slice_get T i ≡ Some v → takes v t l ≡ true → frees v t l ≡ false → hold_count (take (i + 1) T) t l ≡ hold_count (take i T) t l + 1
hold_taken T rules i t l v at h k =
    omega (arith, taken_more T i t l v at, freed_more T i t l v at, as_one (takes v t l) h, as_none (frees v t l) k, release_count-le T rules i t l)

-- one that frees it
pub hold_freed : (T : List Event) → IsDisciplined T → (i t l : ℕ) (v : Event) → slice_get T i ≡ Some v → takes v t l ≡ false → frees v t l ≡ true → hold_count (take (i + 1) T) t l + 1 ≡ hold_count (take i T) t l
hold_freed T rules i t l v at h k =
    omega (arith, taken_more T i t l v at, freed_more T i t l v at, as_none (takes v t l) h, as_one (frees v t l) k, freed_has T rules i t l v at k)

-- what an event does to a hold: it takes, it frees, or it leaves it
pub hold_cases : (T : List Event) → IsDisciplined T → (i t l : ℕ) (v : Event) → slice_get T i ≡ Some v
    → (hold_count (take i T) t l ≤ hold_count (take (i + 1) T) t l)
    ⊎ ((frees v t l ≡ true) × (hold_count (take (i + 1) T) t l + 1 ≡ hold_count (take i T) t l))
hold_cases T rules i t l v at =
    elim (cases_Bool (frees v t l)) [
      | inl k ↦ inr (k, hold_freed T rules i t l v at (release_takes_not v t l l (frees_is v t l k).1) k)
      | inr k ↦
          elim (cases_Bool (takes v t l)) [
            | inl h ↦ let same = hold_taken T rules i t l v at h k in inl (omega arith)
            | inr h ↦ let same = hold_same T i t l v at h k in inl (omega arith)
          ]
    ]
