-- The tables at an event, and past it.
use Rattle.std.proofs.Common.{◌≡◌, ◌≢◌, ℕ, ◌+◌, ◌<◌, Bool, true, false, ◌⊎◌, cond, List, [], ◌∷◌, ◌++◌, length, take, get_or, set, slice_get, option_and_then, Option, Some, None, refl, sym, ap, ◌∙◌, subst, arith, ne_eqb, inl, inr}
use Rattle.std.proofs.lemmas.List.{take_more}
use Rattle.std.proofs.lemmas.Option.{none-some, slice_get_read, slice_get_within, get_or_from_slice_get}
use Rattle.std.specs.List.{list_any}
use Rattle.rapid_text.specs.Operations.{is_acquire, is_release, is_fork, is_join}
use Rattle.rapid_text.specs.declared.event.Event.{Event}
use Rattle.rapid_text.specs.Recording.{Recording, IsNamedOp}
use Rattle.rapid_text.specs.declared.event.Op.{Op}
use Rattle.rapid_text.specs.declared.event.Op.TheVariants.{Read, Write, Acquire, Release, Fork, Join}
use Rattle.trace_rules.specs.Rules.{breach_at, breach_of, breach_of_op}
use Rattle.trace_rules.specs.Tables.{IsHoldOf, IsOpenFor, IsLifeOf, AreHoldsOf, IsStateOf}
use Rattle.trace_rules.specs.declared.hold.Hold.{Hold}
use Rattle.trace_rules.specs.declared.life.Life.{Life}
use Rattle.trace_rules.specs.declared.state.State.{State}
use Rattle.trace_rules.specs.declared.refusal.RuleCause.{RuleCause}
use Rattle.trace_rules.specs.declared.refusal.RuleCause.TheVariants.{AfterJoin}
use Rattle.trace_rules.proofs.Counts.{slice_get-set}
use Rattle.trace_rules.proofs.HoldLemmas.{IsHoldOf-other, IsOpenFor-from_none, owner-from_none}

-- a test that succeeds decides
pub cond-from_none : (b : Bool) (o : Option RuleCause) (why : RuleCause) → cond b (Some why) o ≡ None → (b ≡ false) × (o ≡ None)
cond-from_none true o why is = absurd (none-some why (sym is))
cond-from_none false o why is = (refl, is)

module _ (T : List Event) (i : ℕ) (e : Event) (here : slice_get T i ≡ Some e) where
  -- the events up to this one and with it
  pub take-event : take (i + 1) T ≡ take i T ++ e ∷ []
  take-event = take_more T i e (slice_get_within T i e here) ∙ ap (λ x. take i T ++ x ∷ []) (get_or_from_slice_get T i e e here)

  pub breach_at-event : breach_at T i ≡ breach_of (take i T) e
  breach_at-event = ap (option_and_then (breach_of (take i T))) here

  -- an event that breaks no rule
  pub breach_of_op-kept : (op : Op) → e.op ≡ op → breach_at T i ≡ None → breach_of_op (take i T) e.thread op ≡ None
  breach_of_op-kept op is kept =
      rw (← is) (cond-from_none (list_any (λ d. is_join e.thread d.op) (take i T)) (breach_of_op (take i T) e.thread e.op) AfterJoin (sym breach_at-event ∙ kept)).1

  -- past an event that is no operation on a lock
  pub AreHoldsOf-same : (holds : List Hold) → AreHoldsOf (take i T) holds → ((l : ℕ) → (is_acquire l e.op ≡ false) × (is_release l e.op ≡ false))
      → AreHoldsOf (take (i + 1) T) holds
  AreHoldsOf-same holds are none l h at = rw (take-event) (IsHoldOf-other (take i T) l e h (are l h at) (none l).0 (none l).1)

  -- past an operation on the lock m
  pub AreHoldsOf-set : (holds : List Hold) (m : ℕ) (new : Hold) → m < length holds → AreHoldsOf (take i T) holds → IsHoldOf (take i T ++ e ∷ []) m new
      → ((l : ℕ) → l ≢ m → (is_acquire l e.op ≡ false) × (is_release l e.op ≡ false)) → AreHoldsOf (take (i + 1) T) (set holds m new)
  AreHoldsOf-set holds m new within are is none l h at =
      rw (take-event)
      (elim (slice_get-set holds m l new h within at) [
        | inl here ↦ rw (← here.1) (rw here.0 is)
        | inr there ↦ IsHoldOf-other (take i T) l e h (are l h there.1) (none l there.0).0 (none l there.0).1
      ])

-- the hold that is read in the table of a lock that the operation names
pub hold_read : (r : Recording) (i l : ℕ) (holds : List Hold) (x : Hold) → AreHoldsOf (take i r.events) holds → length holds ≡ length r.locks
    → l < length r.locks → x ≡ get_or holds l x → IsHoldOf (take i r.events) l x
hold_read r i l holds x are len within read = are l x (slice_get_read holds (length r.locks) l x (sym len) within read)

-- at an operation that breaks no rule: the lock is in the table, its hold is what is read there, and it may be taken
module _ (r : Recording) (i : ℕ) (e : Event) (here : slice_get r.events i ≡ Some e) (kept : breach_at r.events i ≡ None) (holds : List Hold)
    (are : AreHoldsOf (take i r.events) holds) (len : length holds ≡ length r.locks) (named : IsNamedOp r e.op) (l : ℕ) (x : Hold) (read : x ≡ get_or holds l x) where
  lock_at : l < length r.locks → (l < length holds) × IsHoldOf (take i r.events) l x
  lock_at within = (omega (arith, len, within), hold_read r i l holds x are len within read)

  pub acquire_at : e.op ≡ Acquire l → (l < length holds) × IsHoldOf (take i r.events) l x × IsOpenFor e.thread x.owner
  acquire_at op =
      let (within, is) = lock_at (subst (IsNamedOp r) op named) in
      (within, is, IsOpenFor-from_none (take i r.events) l x is e.thread x.owner refl (breach_of_op-kept r.events i e here (Acquire l) op kept))

  -- or it is the thread's, which lets it go
  pub release_at : e.op ≡ Release l → (l < length holds) × IsHoldOf (take i r.events) l x × (x.owner ≡ Some e.thread)
  release_at op =
      let (within, is) = lock_at (subst (IsNamedOp r) op named) in
      (within, is, owner-from_none (take i r.events) l x is e.thread (breach_of_op-kept r.events i e here (Release l) op kept))

module _ (r : Recording) (i : ℕ) (s : State) (is : IsStateOf r i s) where
  -- the life that is read in the table
  pub life_at : (t : ℕ) (x : Life) → t < length r.threads → x ≡ get_or s.lives.items t x → IsLifeOf (take i r.events) t x
  life_at t x within read = is.lives t x (slice_get_read s.lives.items (length r.threads) t x (sym is.threads) within read)

  -- an event whose thread was not joined is judged by its operation
  pub breach_at-running : (e : Event) (op : Op) (x : Life) → slice_get r.events i ≡ Some e
      → e.thread < length r.threads → x ≡ get_or s.lives.items e.thread x → x.was_joined ≡ false → e.op ≡ op
      → breach_at r.events i ≡ breach_of_op (take i r.events) e.thread op
  breach_at-running e op x here within read running does =
      let unjoined = sym (life_at e.thread x within read).was_joined ∙ running in
      breach_at-event r.events i e here ∙ ap (λ b. cond b (Some AfterJoin) (breach_of_op (take i r.events) e.thread e.op)) unjoined
      ∙ ap (breach_of_op (take i r.events) e.thread) does

-- what is no operation on the lock
abbrev pub IsApartFrom : ℕ → Op → Type 0
IsApartFrom l op = (is_acquire l op ≡ false) × (is_release l op ≡ false)

pub IsApartFrom-acquire : (op : Op) (m : ℕ) → op ≡ Acquire m → (l : ℕ) → l ≢ m → IsApartFrom l op
IsApartFrom-acquire op m is l other = (ap (is_acquire l) is ∙ ne_eqb m l (λ same. other (sym same)), ap (is_release l) is)

pub IsApartFrom-release : (op : Op) (m : ℕ) → op ≡ Release m → (l : ℕ) → l ≢ m → IsApartFrom l op
IsApartFrom-release op m is l other = (ap (is_acquire l) is, ap (is_release l) is ∙ ne_eqb m l (λ same. other (sym same)))

-- the other operations
pub IsApartFrom-rest : (op : Op) → (((x : ℕ) × (op ≡ Read x)) ⊎ (((x : ℕ) × (op ≡ Write x)) ⊎ (((x : ℕ) × (op ≡ Fork x)) ⊎ ((x : ℕ) × (op ≡ Join x)))))
    → (l : ℕ) → IsApartFrom l op
IsApartFrom-rest op is l = (grind arith, grind arith)

-- what forks and joins nobody
pub IsForkless-rest : (op : Op)
    → (((x : ℕ) × (op ≡ Read x)) ⊎ (((x : ℕ) × (op ≡ Write x)) ⊎ (((x : ℕ) × (op ≡ Acquire x)) ⊎ ((x : ℕ) × (op ≡ Release x)))))
    → (t : ℕ) → (is_fork t op ≡ false) × (is_join t op ≡ false)
IsForkless-rest op is t = (grind arith, grind arith)
