-- The inverses of a batch, taken from the last to the first.
use Rattle.std.proofs.Common.{◌≡◌, ℕ, List, [], ◌∷◌, ◌++◌, Some, Result, Ok, Err, All, reverse, refl, sym, ap, ◌∙◌, subst}
use Rattle.std.specs.Result.{OnOk, OnErr}
use Rattle.std.proofs.lemmas.List.{reverse-append}
use Rattle.std.proofs.lemmas.List.Elements.{All-nil, All-cons, All-head, All-tail}
use Rattle.rapid_text.specs.Recording.{Recording}
use Rattle.moves.specs.declared.inverse.Inverse.{Inverse}
use Rattle.moves.specs.Batches.{Turns, IsTurnedAll, CanTurnAll, AreOfTrace, AreBelow}
use Rattle.moves.specs.Inverses.{CanTurn, IsTurned, IsStepOf, IsStepBelow}
use Rattle.moves.specs.Rows.{Rows, with_row, IsOfTrace, Below}
use Rattle.moves.proofs.BackLemmas.{of_trace-turned, below-turned}

module _ (T : Recording) where
  pub all_earlier : (I : List Inverse) (i : Inverse) → AreOfTrace T (I ++ i ∷ []) → AreOfTrace T I × IsStepOf T i.step
  all_earlier [] i all = (All-nil (λ (i : Inverse). IsStepOf T i.step), All-head (λ (i : Inverse). IsStepOf T i.step) i [] all)
  all_earlier (j ∷ I) i all =
      let rest = all_earlier I i (All-tail (λ (i : Inverse). IsStepOf T i.step) j (I ++ i ∷ []) all) in
      (All-cons (λ (i : Inverse). IsStepOf T i.step) j I (All-head (λ (i : Inverse). IsStepOf T i.step) j (I ++ i ∷ []) all) rest.0, rest.1)

module _ (I earlier : List Inverse) (i : Inverse) (is : I ≡ earlier ++ i ∷ []) where
  back : reverse I ≡ i ∷ reverse earlier
  back = ap reverse is ∙ reverse-append earlier (i ∷ [])

  first : (W V : Rows) → IsTurnedAll I W V → Turns (i ∷ reverse earlier) W V
  first W V h = subst (λ A. Turns A W V) back h

  pub turn_can : (W : Rows) → CanTurnAll I W → CanTurn i.name i.step W
  turn_can W can = let f = first W can.0 can.1 in (f.0, f.1, f.2)

  same_row : (W U V : Rows) (f : Turns (i ∷ reverse earlier) W V) (turn : IsTurned i.name i.step W U) → U ≡ with_row W i.name f.0
  same_row W U V f turn = let e : Some turn.0 ≡ Some f.0 = sym turn.1 ∙ f.1 in let same : turn.0 ≡ f.0 = cc in turn.2 ∙ ap (with_row W i.name) same

  pub turn_rest : (W U : Rows) → CanTurnAll I W → IsTurned i.name i.step W U → CanTurnAll earlier U
  turn_rest W U can turn = let f = first W can.0 can.1 in (can.0, subst (λ S. Turns (reverse earlier) S can.0) (sym (same_row W U can.0 f turn)) f.3)

  pub turn_done : (W U V : Rows) → CanTurnAll I W → IsTurned i.name i.step W U → IsTurnedAll earlier U V → IsTurnedAll I W V
  turn_done W U V can turn rest =
      let f = first W can.0 can.1 in
      subst (λ A. Turns A W V) (sym back) (f.0, f.1, f.2, subst (λ S. Turns (reverse earlier) S V) (same_row W U can.0 f turn) rest)

-- what holds of all holds of all in the other order
All-reverse : {X : Type 0} (P : X → Type 0) (xs : List X) → All P xs → All P (reverse xs)
All-reverse P [] all = all
All-reverse P (x ∷ xs) all = subst (All P) (sym (reverse-append (x ∷ []) xs)) (All-join P (reverse xs) (x ∷ []) (All-reverse P xs (All-tail P x xs all)) (All-cons P x [] (All-head P x xs all) (All-nil P)))
  where
    All-join : {X : Type 0} (P : X → Type 0) (xs ys : List X) → All P xs → All P ys → All P (xs ++ ys)
    All-join P [] ys a b = b
    All-join P (x ∷ xs) ys a b = All-cons P x (xs ++ ys) (All-head P x xs a) (All-join P xs ys (All-tail P x xs a) b)

module _ (T : Recording) where
  turns_traced : (I : List Inverse) (W V : Rows) → AreOfTrace T I → IsOfTrace T W → Turns I W V → IsOfTrace T V
  turns_traced [] W V s all turns = subst (IsOfTrace T) turns all
  turns_traced (i ∷ I) W V s all turns =
      turns_traced I (with_row W i.name turns.0) V (All-tail (λ (i : Inverse). IsStepOf T i.step) i I s)
      (of_trace-turned T i.name i.step W (with_row W i.name turns.0) (All-head (λ (i : Inverse). IsStepOf T i.step) i I s) all (turns.0, turns.1, refl)) turns.3

  -- the rows stay of the trace when a batch is taken back, or is not
  pub of_trace-all : {E : Type 0} (I : List Inverse) (W V : Rows) (r : Result (Unit {0}) E) → AreOfTrace T I → IsOfTrace T W → OnOk r (IsTurnedAll I W V) → OnErr r (V ≡ W) → IsOfTrace T V
  of_trace-all I W V (Ok u) s all done same = turns_traced (reverse I) W V (All-reverse (λ (i : Inverse). IsStepOf T i.step) I s) all done
  of_trace-all I W V (Err why) s all done same = subst (IsOfTrace T) (sym same) all

module _ (n : ℕ) where
  turns_below : (I : List Inverse) (W V : Rows) → AreBelow n I → Below n W → Turns I W V → Below n V
  turns_below [] W V s all turns = subst (Below n) turns all
  turns_below (i ∷ I) W V s all turns =
      turns_below I (with_row W i.name turns.0) V (All-tail (λ (i : Inverse). IsStepBelow n i.step) i I s)
      (below-turned n i.name i.step W (with_row W i.name turns.0) (All-head (λ (i : Inverse). IsStepBelow n i.step) i I s) all (turns.0, turns.1, refl)) turns.3

  pub below-all : {E : Type 0} (I : List Inverse) (W V : Rows) (r : Result (Unit {0}) E) → AreBelow n I → Below n W → OnOk r (IsTurnedAll I W V) → OnErr r (V ≡ W) → Below n V
  below-all I W V (Ok u) s all done same = turns_below (reverse I) W V (All-reverse (λ (i : Inverse). IsStepBelow n i.step) I s) all done
  below-all I W V (Err why) s all done same = subst (Below n) (sym same) all

-- one inverse at the most
module _ (I : List Inverse) (i : Inverse) (is : I ≡ i ∷ []) where
  pub one_can : (W : Rows) → CanTurnAll I W → CanTurn i.name i.step W
  one_can W can = let f : Turns (i ∷ []) W can.0 = subst (λ A. Turns (reverse A) W can.0) is can.1 in (f.0, f.1, f.2)

  pub one_done : (W V : Rows) → CanTurnAll I W → IsTurned i.name i.step W V → IsTurnedAll I W V
  one_done W V can turn =
      let f : Turns (i ∷ []) W can.0 = subst (λ A. Turns (reverse A) W can.0) is can.1 in
      let same : turn.0 ≡ f.0 = let e : Some turn.0 ≡ Some f.0 = sym turn.1 ∙ f.1 in cc in
      subst (λ A. Turns (reverse A) W V) (sym is) (f.0, f.1, f.2, sym (turn.2 ∙ ap (with_row W i.name) same))

  pub one_traced : (T : Recording) → AreOfTrace T I → IsStepOf T i.step
  one_traced T all = All-head (λ (i : Inverse). IsStepOf T i.step) i [] (subst (AreOfTrace T) is all)
