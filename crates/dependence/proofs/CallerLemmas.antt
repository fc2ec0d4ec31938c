-- Numbers put at the end of lists and taken out of them.
use Rattle.std.proofs.Common.{◌≡◌, ◌≢◌, ◌++◌, ◌||◌, All, ℕ, ◌<◌, ◌≤◌, Bool, true, false, eqb, cond, List, [], ◌∷◌, refl, sym, ap, subst, ◌∙◌, arith, inl, inr}
use Rattle.std.proofs.lemmas.Bool.{eq-eqb}
use Rattle.std.proofs.lemmas.Bool.Decides.{eqb_tells}
use Rattle.std.proofs.lemmas.List.{append-nil}
use Rattle.std.proofs.lemmas.List.Elements.{All-head, All-tail, All-weaker, All-push}
use Rattle.std.proofs.lemmas.Map.Views.{All-remove_key}
use Rattle.moves.specs.declared.command.Command.{Command}
use Rattle.moves.specs.Commands.{touches, touches_any}
use Rattle.dependence.specs.Lists.{Lists, without, under, Pushed, PushedAll, Removed, RemovedAll, Same, AllBelow}

-- a number that is not there
pub without_other : (k : ℕ) (xs : List ℕ) → All (λ j. j ≢ k) xs → without k xs ≡ xs
without_other k [] all = refl
without_other k (x ∷ xs) all = elim (eqb_tells k x) [
  | inl h ↦ absurd (All-head (λ j. j ≢ k) x xs all (sym h.1))
  | inr h ↦ rw h.0 (ap (λ ys. x ∷ ys) (without_other k xs (All-tail (λ j. j ≢ k) x xs all)))
]

-- a number in the middle
pub without_middle : (k : ℕ) (xs ys : List ℕ) → All (λ j. j ≢ k) xs → without k (xs ++ k ∷ ys) ≡ xs ++ ys
without_middle k [] ys all = rw (eq-eqb k k refl) refl
without_middle k (x ∷ xs) ys all = elim (eqb_tells k x) [
  | inl h ↦ absurd (All-head (λ j. j ≢ k) x xs all (sym h.1))
  | inr h ↦ rw h.0 (ap (λ zs. x ∷ zs) (without_middle k xs ys (All-tail (λ j. j ≢ k) x xs all)))
]

-- the last number, above all others
pub without_last : (k : ℕ) (xs : List ℕ) → All (λ j. j < k) xs → without k (xs ++ k ∷ []) ≡ xs
without_last k xs all =
    without_middle k xs [] (All-weaker (λ j. j < k) (λ j. j ≢ k) (λ j h e. absurd (omega arith)) xs all) ∙ append-nil xs

-- a number put at the end and taken away again, where b says whether it is put there
pub back_out : (b : Bool) (k : ℕ) (t u v w : List ℕ) → All (λ j. j < k) t → u ≡ cond b (t ++ k ∷ []) t → v ≡ u → w ≡ cond b (without k v) v → w ≡ t
back_out true k t u v w low pushed same removed = removed ∙ ap (without k) (same ∙ pushed) ∙ without_last k t low
back_out false k t u v w low pushed same removed = removed ∙ same ∙ pushed

below_put : (b : Bool) (k m : ℕ) (t : List ℕ) → All (λ j. j < k) t → k < m → All (λ j. j < m) (cond b (t ++ k ∷ []) t)
below_put true k m t low up = All-push (λ j. j < m) t k (All-weaker (λ j. j < k) (λ j. j < m) (λ j h. omega arith) t low) up
below_put false k m t low up = All-weaker (λ j. j < k) (λ j. j < m) (λ j h. omega arith) t low

-- numbers that are below k, and k itself, are below what is above k
pub below_pushed : (k m : ℕ) (d : Command) (T U : Lists) → AllBelow k T → k < m → Pushed k d T U → AllBelow m U
below_pushed k m d T U low up pushed x = subst (All (λ j. j < m)) (sym (pushed x)) (below_put (touches d x) k m (under T x) (low x) up)

pub below_pushed_all : (k m : ℕ) (D : List Command) (T U : Lists) → AllBelow k T → k < m → PushedAll k D T U → AllBelow m U
below_pushed_all k m D T U low up pushed x = subst (All (λ j. j < m)) (sym (pushed x)) (below_put (touches_any D x) k m (under T x) (low x) up)

pub below_more : (k m : ℕ) (T : Lists) → AllBelow k T → k ≤ m → AllBelow m T
below_more k m T low up x = All-weaker (λ j. j < k) (λ j. j < m) (λ j h. omega arith) (under T x) (low x)

pub below_same : (k : ℕ) (T U : Lists) → AllBelow k T → Same T U → AllBelow k U
below_same k T U low same x = subst (All (λ j. j < k)) (sym (same x)) (low x)

below_taken : (b : Bool) (k m : ℕ) (t : List ℕ) → All (λ j. j < m) t → All (λ j. j < m) (cond b (without k t) t)
below_taken true k m t low = All-remove_key (eqb k) (λ j. j < m) t low
below_taken false k m t low = low

pub below_removed : (k m : ℕ) (d : Command) (T U : Lists) → AllBelow m T → Removed k d T U → AllBelow m U
below_removed k m d T U low removed x = subst (All (λ j. j < m)) (sym (removed x)) (below_taken (touches d x) k m (under T x) (low x))

pub below_removed_all : (k m : ℕ) (D : List Command) (T U : Lists) → AllBelow m T → RemovedAll k D T U → AllBelow m U
below_removed_all k m D T U low removed x = subst (All (λ j. j < m)) (sym (removed x)) (below_taken (touches_any D x) k m (under T x) (low x))

-- one command touches what it touches
pub touches_one : (d : Command) (x : List ℕ) → touches_any (d ∷ []) x ≡ touches d x
touches_one d x = by (touches d x)
  where
    by : (b : Bool) → (b || false) ≡ b
    by true = refl
    by false = refl
