-- What waits to be printed, one chain more or less at a time.
use Rattle.std.proofs.Common.{◌≡◌, ℕ, zero, suc, ◌+◌, ◌-◌, ◌<◌, Bool, true, false, cond, List, [], ◌∷◌, ◌++◌, length, get_or, drop, replicate, append_assoc, append-nil, position, slice_get, slice_set, Option, Some, None, refl, sym, ap, subst, ◌∙◌, true≢false, arith}
use Rattle.std.specs.List.{slice_index_or}
use Rattle.std.specs.Option.{IfSome}
use Rattle.std.proofs.lemmas.List.{drop_more, length-append, length-set, length-replicate}
use Rattle.std.proofs.lemmas.List.Elements.{All-nil, All-pop, All-push}
use Rattle.std.proofs.lemmas.List.Quantifiers.{position-Some}
use Rattle.rapid_text.specs.Recording.{Recording}
use Rattle.must_order.specs.declared.chains.Chain.{Chain}
use Rattle.must_order.specs.declared.chains.Reason.{Reason}
use Rattle.must_order.specs.declared.chains.Reason.TheVariants.{Later, Forked, Written, Joined, ForkJoined, Ended}
use Rattle.must_order.specs.declared.chains.Step.{Step}
use Rattle.explain_report.specs.Causes.{AreCausesTold, IsWaiting, Waits, cause_of, caused_text, count_false, leads, none_waits, wait_by, waits_after, waits_for}

-- a chain that did not wait waits
count_false-set : (bs : List Bool) (i : ℕ) → slice_index_or bs i true ≡ false → count_false (slice_set bs i true) + 1 ≡ count_false bs
unfolding count_false
count_false-set [] i e = absurd (true≢false e)
count_false-set (b ∷ bs) zero e =
    let one : ◌≡◌ {A = ℕ} (cond {A = ℕ} b 0 1) 1 = ap (λ (x : Bool). cond {A = ℕ} x 0 1) e in
    omega (arith, one)
count_false-set (b ∷ bs) (suc i) e =
    let rest = count_false-set bs i e in
    omega (arith, rest)

count_false-none : (n : ℕ) → count_false (replicate n false) ≡ n
unfolding count_false
count_false-none zero = refl
count_false-none (suc n) =
    let rest = count_false-none n in
    omega (arith, rest)

-- the index of a chain is within the list
position_within : (p : Chain → Bool) (cs : List Chain) (o : Option ℕ) → position p cs ≡ o → IfSome o (λ i. i < length cs)
position_within p cs None e = tt
position_within p [] (Some i) e = absurd (cc e)
position_within p (c ∷ cs) (Some i) e = (position-Some p (c ∷ cs) i c e).0

pub cause_within : (cs : List Chain) (b : ℕ) (reason : Reason) → IfSome (cause_of cs b reason) (λ i. i < length cs)
cause_within cs b (Ended a) = position_within (leads a b) cs (position (leads a b) cs) refl
cause_within cs b Later = tt
cause_within cs b Forked = tt
cause_within cs b Written = tt
cause_within cs b Joined = tt
cause_within cs b ForkJoined = tt

module _ (cs : List Chain) (d : ℕ) where
  module _ (n : ℕ) where
    waiting-flag :
        (told : List Bool) (left : List (ℕ × ℕ)) (i : ℕ) (b : Bool) → IsWaiting cs n (told, left) → i < length cs → slice_index_or told i true ≡ b
        → IsWaiting cs n (cond b (told, left) (slice_set told i true, left ++ (i, d) ∷ []))
    waiting-flag told left i true is lt e = is
    waiting-flag told left i false is lt e = record {
      told = length-set told i true ∙ is.told;
      within = All-push (λ (p : ℕ × ℕ). p.0 < length cs) left (i, d) is.within lt;
      few = omega (arith, is.few, count_false-set told i e, length-append left ((i, d) ∷ []));
    }

    waiting-by : (w : Waits) (o : Option ℕ) → IfSome o (λ i. i < length cs) → IsWaiting cs n w → IsWaiting cs n (wait_by d w o)
    waiting-by w None lt is = is
    waiting-by w (Some i) lt is = waiting-flag w.0 w.1 i (slice_index_or w.0 i true) is lt refl

    -- the causes of these steps wait too
    pub waiting-for : (ss : List Step) (w : Waits) → IsWaiting cs n w → IsWaiting cs n (waits_for cs d ss w)
    unfolding waits_for
    waiting-for [] w is = is
    waiting-for (s ∷ ss) w is =
        waiting-by (waits_for cs d ss w) (cause_of cs s.to s.reason) (cause_within cs s.to s.reason) (waiting-for ss w is)

  length-flag :
      (told : List Bool) (left : List (ℕ × ℕ)) (i : ℕ) (b : Bool) → length (cond {A = Waits} b (told, left) (slice_set told i true, left ++ (i, d) ∷ [])).0 ≡ length told
  length-flag told left i true = refl
  length-flag told left i false = length-set told i true

  pub length-wait_by : (w : Waits) (o : Option ℕ) → length (wait_by d w o).0 ≡ length w.0
  length-wait_by w None = refl
  length-wait_by w (Some i) = length-flag w.0 w.1 i (slice_index_or w.0 i true)

  -- the cause of a step more waits
  pub waits_for-step : (s : Step) (ss : List Step) (w : Waits) → wait_by d (waits_for cs d ss w) (cause_of cs s.to s.reason) ≡ waits_for cs d (s ∷ ss) w
  unfolding waits_for
  waits_for-step s ss w = refl

  pub waits_for-none : (w : Waits) → w ≡ waits_for cs d [] w
  unfolding waits_for
  waits_for-none w = refl

  -- the same, where the steps are gone over from the last to the first
  pub waits_for-back :
      (ss : List Step) (i k : ℕ) (s : Step) (w first new : Waits) → i < length ss → w ≡ waits_for cs d (drop (length ss - i) ss) first
      → new ≡ wait_by d w (cause_of cs (get_or ss k s).to (get_or ss k s).reason) → k ≡ length ss - 1 - i
      → new ≡ waits_for cs d (drop (length ss - (i + 1)) ss) first
  waits_for-back ss i k s w first new lt before e at =
      let step : Step = get_or ss k s in
      let from : length ss - (i + 1) ≡ k = omega (arith, at) in
      let to : k + 1 ≡ length ss - i = omega (arith, at, lt) in
      let here : drop (length ss - (i + 1)) ss ≡ step ∷ drop (length ss - i) ss =
      ap (λ (n : ℕ). drop n ss) from ∙ drop_more ss k s (omega (arith, at, lt)) ∙ ap (λ (n : ℕ). step ∷ drop n ss) to in
      e ∙ ap (λ (v : Waits). wait_by d v (cause_of cs step.to step.reason)) before ∙ waits_for-step step (drop (length ss - i) ss) first
      ∙ ap (λ xs. waits_for cs d xs first) (sym here)

pub waiting-none : (cs : List Chain) → IsWaiting cs 0 (none_waits cs)
waiting-none cs = record {
  told = length-replicate (length cs) false;
  within = All-nil (λ (p : ℕ × ℕ). p.0 < length cs);
  few = omega (arith, count_false-none (length cs));
}

-- what waits after the next chain is taken
pub waiting-taken : (cs : List Chain) (n : ℕ) (told : List Bool) (left : List (ℕ × ℕ)) (i d : ℕ) → IsWaiting cs n (told, left ++ (i, d) ∷ []) → (i < length cs) × IsWaiting cs (n + 1) (told, left)
waiting-taken cs n told left i d is =
    let two = All-pop (λ (p : ℕ × ℕ). p.0 < length cs) (left ++ (i, d) ∷ []) left (Some (i, d)) refl is.within in (
      two.1,
      record { told = is.told; within = two.0; few = omega (arith, is.few, length-append left ((i, d) ∷ [])) },
    )

module _ (r : Recording) (cs : List Chain) where
  -- with this text, what is told of what waits now is told of what waited before
  abbrev pub GoesOn : Waits → Waits → List ℕ → Type 0
  GoesOn old now text = (rest : List ℕ) → AreCausesTold r cs now.0 now.1 rest → AreCausesTold r cs old.0 old.1 (text ++ rest)

  pub goes_on-next :
      (old next : Waits) (told : List Bool) (left : List (ℕ × ℕ)) (text : List ℕ) (i d : ℕ) (c : Chain) → GoesOn old (told, left ++ (i, d) ∷ []) text
      → slice_get cs i ≡ Some c → next ≡ waits_after cs d c told left → GoesOn old next (text ++ caused_text r d c)
  goes_on-next old next told left text i d c goes found e rest is =
      subst (AreCausesTold r cs old.0 old.1) (sym (append_assoc text (caused_text r d c) rest))
      (goes (caused_text r d c ++ rest) (AreCausesTold.next told left i d c rest found (subst (λ (w : Waits). AreCausesTold r cs w.0 w.1 rest) e is)))

  -- nothing waits any more
  pub goes_on-end : (old : Waits) (told : List Bool) (left : List (ℕ × ℕ)) (text : List ℕ) → left ≡ [] → GoesOn old (told, left) text → AreCausesTold r cs old.0 old.1 text
  goes_on-end old told left text none goes =
      subst (AreCausesTold r cs old.0 old.1) (append-nil text)
      (goes [] (subst (λ (ls : List (ℕ × ℕ)). AreCausesTold r cs told ls []) (sym none) (AreCausesTold.none told)))
