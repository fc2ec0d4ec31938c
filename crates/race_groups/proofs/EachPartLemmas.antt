-- What is said of each of the four parts that are counted.
use Rattle.std.proofs.Common.{◌≡◌, ℕ, ◌&&◌, Bool, true, false, Some, Vec, List, refl, sym, ap, ◌∙◌}
use Rattle.std.specs.Bool.{if◌then◌else◌}
use Rattle.std.specs.declared.alloc.Global.{Global}
use Rattle.event_index.specs.Relations.{is_clash_of_ops}
use Rattle.race_groups.specs.Counts.{is_counted, keeps}
use Rattle.race_groups.specs.Groups.{is_between}
use Rattle.race_groups.specs.Classes.{adds_to}
use Rattle.race_groups.specs.Rows.{Part, of_all, of_candidates, of_ordered, of_guarded, amount, by_part}
use Rattle.race_groups.specs.declared.class.Class.{Class}
use Rattle.race_groups.specs.declared.shares.Share.{Share}

-- what holds of what belongs to each part
pub each_part : {X : Type 0} (P : X → Type 0) (all candidates ordered : X) → P all → P candidates → P ordered → (k : Part) → P (by_part all candidates ordered k)
each_part P all candidates ordered a b c of_all = a
each_part P all candidates ordered a b c of_candidates = b
each_part P all candidates ordered a b c of_ordered = c
each_part P all candidates ordered a b c of_guarded = c

-- and of two things
pub each_two : {X Y : Type 0} (P : X → Y → Type 0) (a b c : X) (d e f : Y) → P a d → P b e → P c f → (k : Part) → P (by_part a b c k) (by_part d e f k)
each_two P a b c d e f x y z of_all = x
each_two P a b c d e f x y z of_candidates = y
each_two P a b c d e f x y z of_ordered = z
each_two P a b c d e f x y z of_guarded = z

-- classes that do not clash add nothing
apart : (c k w : Bool) (n : ℕ) → c ≡ false → (if (c && k) && w then n else 0) ≡ 0
apart true k w n is = cc
apart false k w n is = refl

pub adds_apart : (lists : List (Vec ℕ Global)) (k : Part) (p q : ℕ) (earlier later : Class) (n : ℕ) → is_clash_of_ops earlier.op later.op ≡ false → (if adds_to (keeps lists k) p q later (Some earlier) then n else 0) ≡ 0
adds_apart lists k p q earlier later n fails = apart (is_clash_of_ops earlier.op later.op) (keeps lists k earlier later) (is_between p q earlier.place later.place) n fails

-- and others what they keep
parted : (c k w : Bool) (n : ℕ) → c ≡ true → (if w then (if k then n else 0) else 0) ≡ (if (c && k) && w then n else 0)
parted false k w n is = cc
parted true true true n is = refl
parted true true false n is = refl
parted true false true n is = refl
parted true false false n is = refl

pub adds_kept : (lists : List (Vec ℕ Global)) (k : Part) (p q : ℕ) (earlier later : Class) (n m : ℕ) → is_clash_of_ops earlier.op later.op ≡ true → m ≡ (if keeps lists k earlier later then n else 0)
    → (if is_between p q earlier.place later.place then m else 0) ≡ (if adds_to (keeps lists k) p q later (Some earlier) then n else 0)
adds_kept lists k p q earlier later n m clash is =
    ap (λ (x : ℕ). if is_between p q earlier.place later.place then x else 0) is
    ∙ parted (is_clash_of_ops earlier.op later.op) (keeps lists k earlier later) (is_between p q earlier.place later.place) n clash

-- where SHB orders none of the pairs, it does not matter whether the two have a lock in common
none_kept : (b : Bool) (n : ℕ) → n ≡ 0 → ◌≡◌ {A = ℕ} 0 (if b then n else 0)
none_kept true n none = sym none
none_kept false n none = refl

pub nothing_kept : (k : Part) (share : Share) (shared : Bool) → share.ordered ≡ 0
    → (if is_counted k false then amount k share else 0) ≡ (if is_counted k shared then amount k share else 0)
nothing_kept of_all share shared ordered = refl
nothing_kept of_candidates share shared ordered = refl
nothing_kept of_ordered share shared ordered = refl
nothing_kept of_guarded share shared ordered = none_kept shared share.ordered ordered
