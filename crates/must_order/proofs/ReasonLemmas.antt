-- Walks back from an event, and the chains that they leave.
use Rattle.std.proofs.Common.{◌≡◌, ◌≢◌, ◌⊎◌, ℕ, zero, suc, ◌+◌, ◌-◌, ◌<◌, ◌≤◌, Bool, true, List, [], ◌∷◌, ◌++◌, length, get_or, set, reverse, Option, Some, None, refl, sym, ap, ◌∙◌, subst, arith, inl, inr}
use Rattle.std.specs.List.{slice_get, All}
use Rattle.std.proofs.lemmas.Bool.{cases_lt}
use Rattle.std.proofs.lemmas.List.{length-set, length_push, reverse-append}
use Rattle.std.proofs.lemmas.List.Elements.{All-nil, All-cons, All-push, All-weaker}
use Rattle.std.proofs.lemmas.Option.{same_Some, slice_get_within}
use Rattle.rapid_text.specs.declared.event.Event.{Event}
use Rattle.rapid_text.specs.declared.event.Op.TheVariants.{Join as JoinOp}
use Rattle.event_index.specs.Events.{op_at, thread_at}
use Rattle.event_index.specs.Lookups.{events_of, fork_of, or_else}
use Rattle.event_index.proofs.CallerLemmas.{thread_within, place_of-events_of}
use Rattle.must_order.specs.Chains.{IsChain, IsLedFrom, AreReasons}
use Rattle.must_order.specs.Joins.{AreJoins, AreTold, IsNeeded, KeepsMarks}
use Rattle.must_order.specs.Layout.{source_of}
use Rattle.must_order.specs.MustBefore.{EndsFirst}
use Rattle.must_order.specs.declared.chains.Chain.{Chain}
use Rattle.must_order.specs.declared.chains.Reason.TheVariants.{Ended}
use Rattle.must_order.specs.declared.chains.Step.{Step}
use Rattle.must_order.specs.declared.joins.Join.{Join}
use Rattle.must_order.proofs.ExactLemmas.{source_of-op}
use Rattle.must_order.proofs.JoinLemmas.{slice_get-more, slice_get-push, slice_get-last}
use Rattle.must_order.proofs.SectionLemmas.{section_end-is}

-- a thread that ends with an event of another thread has none: its fork is its end
end_fork : (T : List Event) (u s : ℕ) → (o : Option ℕ) → slice_get (events_of T u) (length (events_of T u) - 1) ≡ o → or_else o (fork_of T u) ≡ Some s
    → thread_at T s ≢ Some u → fork_of T u ≡ Some s
end_fork T u s None at is other = is
end_fork T u s (Some k) at is other =
    let one : k ≡ s = same_Some k s is in
    absurd (other (subst (λ (j : ℕ). thread_at T j ≡ Some u) one (place_of-events_of T u (length (events_of T u) - 1) k at).1))

pub fork_of-source : (T : List Event) (e u s : ℕ) → op_at T e ≡ Some (JoinOp u) → source_of T e ≡ Some s → thread_at T s ≢ Some u → fork_of T u ≡ Some s
fork_of-source T e u s op is other =
    end_fork T u s (slice_get (events_of T u) (length (events_of T u) - 1)) refl (sym (source_of-op T e (JoinOp u) op) ∙ is) other

-- the release of a join is in the trace
pub release_within : (T : List Event) (p r e : ℕ) → EndsFirst T p r e → r < length T
release_within T p r e s = (section_end-is T p s.lock s.owner r s.acquires s.of_owner s.ends).1

pub event_within : (T : List Event) (p r e : ℕ) → EndsFirst T p r e → e < length T
event_within T p r e s = thread_within T e s.thread s.of_thread

pub acquire_within : (T : List Event) (p r e : ℕ) → EndsFirst T p r e → p < length T
acquire_within T p r e s = thread_within T p s.owner s.of_owner

-- marks
keeps : (xs : List Bool) (k i : ℕ) → slice_get xs i ≡ Some true → slice_get (set xs k true) i ≡ Some true
keeps [] k i at = at
keeps (x ∷ xs) zero zero at = refl
keeps (x ∷ xs) zero (suc i) at = at
keeps (x ∷ xs) (suc k) zero at = at
keeps (x ∷ xs) (suc k) (suc i) at = keeps xs k i at

pub marked : (xs : List Bool) (k : ℕ) → k < length xs → slice_get (set xs k true) k ≡ Some true
marked [] k lt = absurd (omega arith)
marked (x ∷ xs) zero lt = refl
marked (x ∷ xs) (suc k) lt = marked xs k (omega arith)

pub KeepsMarks-set : (xs : List Bool) (k : ℕ) → KeepsMarks xs (set xs k true)
KeepsMarks-set xs k = record { len = length-set xs k true; marks = λ i at. keeps xs k i at }

pub KeepsMarks-trans : (xs ys zs : List Bool) → KeepsMarks xs ys → KeepsMarks ys zs → KeepsMarks xs zs
KeepsMarks-trans xs ys zs first second = record { len = second.len ∙ first.len; marks = λ k at. second.marks k (first.marks k at) }

pub IsNeeded-kept : (js : List Join) (xs ys : List Bool) (high higher p e : ℕ) → KeepsMarks xs ys → high ≤ higher → IsNeeded js xs high p e → IsNeeded js ys higher p e
IsNeeded-kept js xs ys high higher p e kept le is = record {
  at = is.at;
  below = omega (arith, is.below, le);
  marked = kept.marks is.at is.marked;
  join = is.join;
  found = is.found;
  acquire = is.acquire;
  event = is.event;
}

-- one step more at the beginning
pub reverse-push : {X : Type 0} (xs : List X) (x : X) → reverse (xs ++ x ∷ []) ≡ x ∷ reverse xs
reverse-push xs x = reverse-append xs (x ∷ [])

-- the joins of an event before the last are below the limit
pub start-next : (T : List Event) (n : ℕ) (js : List Join) (starts : List ℕ) → AreJoins T n js starts
    → (from event last limit : ℕ) → from < event → event ≤ last → last < n → get_or starts last 0 ≤ limit → get_or starts (from + 1) 0 ≤ limit
start-next T n js starts are from event last limit early le within low = omega (arith, are.rising (from + 1) last (omega arith) (omega arith), low)

-- a step that ends a section waits for a later chain, or has one
abbrev Waits : List Chain → List Join → List Bool → ℕ → ℕ → Step → Type 0
Waits cs js needed at i s = (p : ℕ) → s.reason ≡ Ended p → IsLedFrom cs (i + 1) p s.to ⊎ IsNeeded js needed at p s.to

-- what is needed still, when a join that is not marked is passed
pub AreTold-skip :
    (T : List Event) (js : List Join) (needed : List Bool) (at : ℕ) (cs : List Chain) → slice_get needed at ≢ Some true
    → AreTold T js needed (at + 1) cs → AreTold T js needed at cs
AreTold-skip T js needed at cs plain told = record {
  some = told.some;
  chains = told.chains;
  sections = λ i c found.
      All-weaker (Waits cs js needed (at + 1) i) (Waits cs js needed at i) (λ s each p is.
      elim (each p is) [
        | inl led ↦ inl led
        | inr need ↦ elim (cases_lt need.at at) [
          | inl low ↦ inr record { at = need.at; below = low; marked = need.marked; join = need.join; found = need.found; acquire = need.acquire; event = need.event }
          | inr high ↦
              let here : need.at ≡ at = omega (arith, need.below) in
              absurd (plain (subst (λ (k : ℕ). slice_get needed k ≡ Some true) here need.marked))
        ]
      ]) c.steps.items (told.sections i c found);
  marks = told.marks;
}

IsLedFrom-more : (cs more : List Chain) (i p e : ℕ) → IsLedFrom cs i p e → IsLedFrom (cs ++ more) i p e
IsLedFrom-more cs more i p e (k, le, c, found, first, last) = (k, le, c, slice_get-more cs more k c found, first, last)

-- when the chain of a join that is marked is told
pub AreTold-push :
    (T : List Event) (js : List Join) (old new : List Bool) (at : ℕ) (cs : List Chain) (c : Chain) (j : Join)
    → slice_get js at ≡ Some j → c.first ≡ j.acquire → c.last ≡ j.event → IsChain T c → KeepsMarks old new
    → All (λ s. (p : ℕ) → s.reason ≡ Ended p → IsNeeded js new at p s.to) c.steps.items
    → AreTold T js old (at + 1) cs → AreTold T js new at (cs ++ c ∷ [])
AreTold-push T js old new at cs c j here first last chain kept needs told = record {
  some = omega (arith, told.some, length_push cs c);
  chains = All-push (IsChain T) cs c told.chains chain;
  sections = λ i d found.
      elim (slice_get-push cs c i d found) [
        | inl before ↦
            All-weaker (Waits cs js old (at + 1) i) (Waits (cs ++ c ∷ []) js new at i) (λ s each p is.
            elim (each p is) [
              | inl led ↦ inl (IsLedFrom-more cs (c ∷ []) (i + 1) p s.to led)
              | inr need ↦ elim (cases_lt need.at at) [
                | inl low ↦ inr record { at = need.at; below = low; marked = kept.marks need.at need.marked; join = need.join; found = need.found; acquire = need.acquire; event = need.event }
                | inr high ↦
                    let this : need.at ≡ at = omega (arith, need.below) in
                    let one : need.join ≡ j = same_Some need.join j (sym need.found ∙ ap (slice_get js) this ∙ here) in
                    inl (
                      length cs,
                      omega (arith, slice_get_within cs i d before),
                      c,
                      slice_get-last cs c,
                      first ∙ sym (ap (λ (k : Join). k.acquire) one) ∙ need.acquire,
                      last ∙ sym (ap (λ (k : Join). k.event) one) ∙ need.event,
                    )
              ]
            ]) d.steps.items (told.sections i d before)
        | inr (end, is) ↦
            subst (λ (x : Chain). All (Waits (cs ++ c ∷ []) js new at i) x.steps.items) is
            (All-weaker (λ (s : Step). (p : ℕ) → s.reason ≡ Ended p → IsNeeded js new at p s.to) (Waits (cs ++ c ∷ []) js new at i) (λ s each p why. inr (each p why)) c.steps.items needs)
      ];
  marks = kept.len ∙ told.marks;
}

-- the first chain
pub AreTold-first :
    (T : List Event) (js : List Join) (needed : List Bool) (at : ℕ) (c : Chain) → IsChain T c → length needed ≡ length js
    → All (λ s. (p : ℕ) → s.reason ≡ Ended p → IsNeeded js needed at p s.to) c.steps.items → AreTold T js needed at (c ∷ [])
AreTold-first T js needed at c chain marks needs = record {
  some = omega arith;
  chains = All-cons (IsChain T) c [] chain (All-nil (IsChain T));
  sections = λ i d found.
      elim (slice_get-push [] c i d found) [
        | inl before ↦ absurd (let lt = slice_get_within [] i d before in omega arith)
        | inr (end, is) ↦
            subst (λ (x : Chain). All (Waits (c ∷ []) js needed at i) x.steps.items) is
            (All-weaker (λ (s : Step). (p : ℕ) → s.reason ≡ Ended p → IsNeeded js needed at p s.to) (Waits (c ∷ []) js needed at i) (λ s each p why. inr (each p why)) c.steps.items needs)
      ];
  marks = marks;
}

-- when no join is left
pub AreReasons-told :
    (T : List Event) (js : List Join) (needed : List Bool) (d e : ℕ) (cs : List Chain) (c : Chain) → AreTold T js needed 0 cs
    → slice_get cs 0 ≡ Some c → c.first ≡ d → c.last ≡ e → AreReasons T d e cs
AreReasons-told T js needed d e cs c told at first last = record {
  first = (c, at, first, last);
  chains = told.chains;
  sections = λ i x found.
      All-weaker (Waits cs js needed 0 i) (λ (s : Step). (p : ℕ) → s.reason ≡ Ended p → IsLedFrom cs (i + 1) p s.to) (λ s each p is.
      elim (each p is) [
        | inl led ↦ led
        | inr need ↦ absurd (let low = need.below in omega arith)
      ]) x.steps.items (told.sections i x found);
}
