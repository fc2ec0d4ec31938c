-- Which chains are printed for a pair that is apart, and in which order. `r` is a recording, `cs` its chains, `d` a
-- depth. All notions here are this project's own.
use Rattle.std.specs.Prelude.{◌≡◌, ℕ, ◌+◌, ◌-◌, ◌<◌, ◌≤◌, min, nat_eq, ◌==◌, Bool, false, true, ◌&&◌, cond, List, [], ◌∷◌, ◌++◌, length, replicate, All, position, slice_get, slice_index_or, Option, Some, None}
use Rattle.std.specs.Option.{option_eq}
use Rattle.std.specs.List.{slice_set}
use Rattle.rapid_text.specs.Recording.{Recording}
use Rattle.rapid_text.specs.declared.event.Event.{Event}
use Rattle.rapid_text.specs.declared.event.Op.{Op}
use Rattle.rapid_text.specs.declared.event.Op.TheVariants.{Acquire}
use Rattle.event_index.specs.Events.{op_at}
use Rattle.must_order.specs.declared.chains.Chain.{Chain}
use Rattle.must_order.specs.declared.chains.Reason.{Reason}
use Rattle.must_order.specs.declared.chains.Reason.TheVariants.{Ended}
use Rattle.must_order.specs.declared.chains.Step.{Step}
use Rattle.explain_report.specs.Chains.{cause_text, chain_text, holding}
use Rattle.explain_report.specs.declared.causes.Waiting.{Waiting}

abbrev pub lock_by_op : Option Op → Option ℕ
lock_by_op (Some (Acquire l)) = Some l
lock_by_op _ = None

-- the lock that event e acquires
abbrev pub lock_taken : List Event → ℕ → Option ℕ
lock_taken T e = lock_by_op (op_at T e)

-- whether the last event of the chain acquires the lock of the first one
abbrev pub is_taken : List Event → Chain → Bool
is_taken T c = option_eq nat_eq (lock_taken T c.last) (lock_taken T c.first)

abbrev pub leads : ℕ → ℕ → Chain → Bool
leads a b c = (c.first == a) && (c.last == b)

-- the first chain that leads from a to b
abbrev pub cause_for : List Chain → ℕ → ℕ → Option ℕ
cause_for cs a b = position (leads a b) cs

-- the chain that shows why a step to b may be taken: if the step ends a section, why that section began first
abbrev pub cause_of : List Chain → ℕ → Reason → Option ℕ
cause_of cs b (Ended a) = cause_for cs a b
cause_of cs b _ = None

-- For each chain, whether it waits or was printed; and the chains that wait, with their depths. The last one is next.
abbrev pub Waits : Type 0
Waits = List Bool × List (ℕ × ℕ)

abbrev pub waits : Waiting → Waits
waits w = (w.told.items, w.left.items)

-- no chain waits or was printed
abbrev pub none_waits : List Chain → Waits
none_waits cs = (replicate (length cs) false, [])

-- chain i waits too, unless it waits already or was printed
abbrev pub wait_by : ℕ → Waits → Option ℕ → Waits
wait_by d w None = w
wait_by d w (Some i) = cond (slice_index_or w.0 i true) w (slice_set w.0 i true, w.1 ++ (i, d) ∷ [])

-- the causes of the steps wait too; the cause of the first step is next
unfoldable pub waits_for : List Chain → ℕ → List Step → Waits → Waits
waits_for cs d [] w = w
waits_for cs d (s ∷ ss) w = wait_by d (waits_for cs d ss w) (cause_of cs s.to s.reason)

-- how many are not
unfoldable pub count_false : List Bool → ℕ
count_false [] = 0
count_false (b ∷ bs) = cond b 0 1 + count_false bs

-- After n chains were printed, the rest fits into what is left of the list: each chain that waits is one of the list,
-- and was added once.
pub record IsWaiting (cs : List Chain) (n : ℕ) (w : Waits) : Type 0 where
  pub told : length w.0 ≡ length cs
  pub within : All (λ p. p.0 < length cs) w.1
  pub few : count_false w.0 + length w.1 + n ≤ length cs

abbrev pub deeper : ℕ → ℕ
deeper d = min (d + 1) 4294967295

-- the lines of a chain after what it is for, which is one step less deep
abbrev pub caused_text : Recording → ℕ → Chain → List ℕ
caused_text r d c = cause_text r (d - 1) c (holding (is_taken r.events c)) ++ chain_text r d c

-- the chains that wait after chain c
abbrev pub waits_after : List Chain → ℕ → Chain → List Bool → List (ℕ × ℕ) → Waits
waits_after cs d c told left = waits_for cs (deeper d) c.steps.items (told, left)

-- The text has all chains that wait, and all that these need, each after what it is for. The next one comes first. The
-- causes of its steps come before the others that wait.
pub data AreCausesTold (r : Recording) (cs : List Chain) : List Bool → List (ℕ × ℕ) → List ℕ → Type 0 where
  none : (told : List Bool) → AreCausesTold r cs told [] []
  next :
      (told : List Bool) (left : List (ℕ × ℕ)) (i d : ℕ) (c : Chain) (rest : List ℕ) → slice_get cs i ≡ Some c
      → AreCausesTold r cs (waits_after cs d c told left).0 (waits_after cs d c told left).1 rest
      → AreCausesTold r cs told (left ++ (i, d) ∷ []) (caused_text r d c ++ rest)

abbrev pub AreToldBy : Recording → List Chain → Option Chain → List ℕ → Type 0
AreToldBy r cs None text = text ≡ []
AreToldBy r cs (Some c) text =
    (causes : List ℕ) × AreCausesTold r cs (waits_for cs 1 c.steps.items (none_waits cs)).0 (waits_for cs 1 c.steps.items (none_waits cs)).1 causes
    × (text ≡ chain_text r 0 c ++ causes)

-- the text has the first chain, and below it all chains that it needs, each once
abbrev pub AreTold : Recording → List Chain → List ℕ → Type 0
AreTold r cs text = AreToldBy r cs (slice_get cs 0) text
