-- The classes with which an operation conflicts, in place of all of its variable.
use Rattle.std.proofs.Common.{◌≡◌, ℕ, ◌<◌, ◌≤◌, ◌&&◌, Bool, true, false, cond, zero, suc, List, [], ◌∷◌, ◌++◌, length, sum_by, All, Option, Some, None, refl, sym, ap, subst, ◌∙◌, inl, inr, arith}
use Rattle.std.specs.Bool.{if◌then◌else◌}
use Rattle.std.specs.List.{slice_get}
use Rattle.std.proofs.lemmas.Bool.{and_parts, true≢false}
use Rattle.std.proofs.lemmas.List.Elements.{All-filter}
use Rattle.std.proofs.lemmas.Option.{same_Some}
use Rattle.std.proofs.lemmas.List.Sums.{sum_by-le-sum_by}
use Rattle.rapid_text.specs.declared.event.Op.{Op}
use Rattle.rapid_text.specs.declared.event.Op.TheVariants.{Read, Write}
use Rattle.event_index.specs.Relations.{is_clash_of_ops}
use Rattle.race_groups.specs.Classes.{AreConflicting, adds_to, is_writing, is_writing_op, members_of}
use Rattle.race_groups.specs.Groups.{is_between}
use Rattle.race_groups.specs.declared.class.Class.{Class}
use Rattle.race_groups.proofs.SumLemmas.{sum_by-filter, sum_by_each}
use Rattle.race_groups.proofs.WalkLemmas.{share_of}
use Rattle.race_groups.proofs.WholeLemmas.{members_within}

-- one of two that clash writes
clash_write : (o k : Op) → is_clash_of_ops o k ≡ true → is_writing_op k ≡ false → is_writing_op o ≡ true
clash_write (Write z) k clash reads = refl
clash_write (Read z) (Write y) clash reads = absurd (true≢false reads)
clash_write (Read z) k clash reads = absurd (true≢false (sym clash))
clash_write o k clash reads = absurd (true≢false (sym clash))

module _ (keeps : Class → Class → Bool) (p q : ℕ) (j : Class) where
  adds_writing : (o : Option Class) → is_writing_op j.op ≡ false → adds_to keeps p q j o ≡ true → is_writing o ≡ true
  adds_writing None reads adds = absurd (true≢false (sym adds))
  adds_writing (Some i) reads adds =
      clash_write i.op j.op (and_parts (is_clash_of_ops i.op j.op) (keeps i j) (and_parts (is_clash_of_ops i.op j.op && keeps i j) (is_between p q i.place j.place) adds).0).0 reads

  only : (a d : Bool) (n : ℕ) → (d ≡ true → a ≡ true) → cond a (if d then n else 0) 0 ≡ (if d then n else 0)
  only true d n h = refl
  only false true n h = absurd (true≢false (sym (h refl)))
  only false false n h = refl

  -- they add all that the classes of the variable add
  pub conflicting_all : (infos : List Class) (counts : ℕ → ℕ) (x : ℕ) (cs : List ℕ) → AreConflicting infos x j.op cs
      → sum_by (share_of keeps p q j infos counts) cs ≡ sum_by (share_of keeps p q j infos counts) (members_of infos x)
  conflicting_all infos counts x cs (inl is) = ap (sum_by (share_of keeps p q j infos counts)) is
  conflicting_all infos counts x cs (inr reads) =
      ap (sum_by (share_of keeps p q j infos counts)) reads.1
      ∙ sum_by-filter (share_of keeps p q j infos counts) (λ c. is_writing (slice_get infos c)) (members_of infos x)
      ∙ sum_by_each (λ c. cond (is_writing (slice_get infos c)) (share_of keeps p q j infos counts c) 0) (share_of keeps p q j infos counts) (members_of infos x)
      (λ c. only (is_writing (slice_get infos c)) (adds_to keeps p q j (slice_get infos c)) (counts c) (adds_writing (slice_get infos c) reads.0))

-- they are classes
pub conflicting_within : (infos : List Class) (x : ℕ) (op : Op) (cs : List ℕ) → AreConflicting infos x op cs → All (λ c. c < length infos) cs
conflicting_within infos x op cs (inl is) = subst (λ (xs : List ℕ). All (λ c. c < length infos) xs) (sym is) (members_within infos x)
conflicting_within infos x op cs (inr reads) =
    subst (λ (xs : List ℕ). All (λ c. c < length infos) xs) (sym reads.1) (All-filter (λ c. is_writing (slice_get infos c)) (λ c. c < length infos) (members_of infos x) (members_within infos x))

-- and no more than those of the variable
cond_le : (b : Bool) (n : ℕ) → cond b n 0 ≤ n
cond_le true n = omega arith
cond_le false n = omega arith

pub conflicting_few : (infos : List Class) (counts : ℕ → ℕ) (x : ℕ) (op : Op) (cs : List ℕ) → AreConflicting infos x op cs → sum_by counts cs ≤ sum_by counts (members_of infos x)
conflicting_few infos counts x op cs (inl is) = let same = ap (sum_by counts) is in omega (arith, same)
conflicting_few infos counts x op cs (inr reads) =
    let same = ap (sum_by counts) reads.1 ∙ sum_by-filter counts (λ c. is_writing (slice_get infos c)) (members_of infos x) in
    let less = sum_by-le-sum_by (λ c. cond (is_writing (slice_get infos c)) (counts c) 0) counts (members_of infos x) (λ c. cond_le (is_writing (slice_get infos c)) (counts c)) in
    omega (arith, same, less)

-- what holds of each element of a list and of its place, with one more
pub push_tells : {X : Type 0} (P : ℕ → X → Type 0) (xs : List X) (w : X) → ((k : ℕ) (x : X) → slice_get xs k ≡ Some x → P k x) → P (length xs) w
    → (k : ℕ) (x : X) → slice_get (xs ++ w ∷ []) k ≡ Some x → P k x
push_tells P [] w all here zero x at = subst (P 0) (same_Some w x at) here
push_tells P [] w all here (suc k) x at = cc
push_tells P (y ∷ ys) w all here zero x at = all 0 x at
push_tells P (y ∷ ys) w all here (suc k) x at = push_tells (λ n. P (suc n)) ys w (λ n z found. all (suc n) z found) here k x at
