-- What a table's life says of the events so far, and how it goes on.
use Rattle.std.proofs.Common.{◌≡◌, ℕ, ◌<◌, ◌==◌, Bool, true, false, ◌&&◌, ◌||◌, List, [], ◌∷◌, ◌++◌, length, set, slice_get, Some, refl, sym, ap, ap₂, ◌∙◌, eq-eqb, ne_eqb, inl, inr}
use Rattle.std.specs.List.{list_any}
use Rattle.std.proofs.lemmas.Bool.{and_right}
use Rattle.std.proofs.Math.Bool.{and-true, or-false, or-true}
use Rattle.rapid_text.specs.Operations.{is_fork, is_join}
use Rattle.rapid_text.specs.declared.event.Event.{Event}
use Rattle.trace_rules.specs.Tables.{IsLifeOf, AreLivesOf}
use Rattle.trace_rules.specs.declared.life.Life.{Life}
use Rattle.trace_rules.proofs.Counts.{list_any_push, list_any-or, slice_get-set}

-- a life that goes on by these tests
pub record IsMarked (before : Life) (event forked joined : Bool) (after : Life) : Type 0 where
  pub has_event : after.has_event ≡ (before.has_event || event)
  pub was_forked : after.was_forked ≡ (before.was_forked || forked)
  pub was_joined : after.was_joined ≡ (before.was_joined || joined)

-- each part of a life goes on by its test
pub IsLifeOf-push : (es : List Event) (t : ℕ) (e : Event) (s : Life) → IsLifeOf es t s → (after : Life)
    → IsMarked s (e.thread == t) (is_fork t e.op) (is_join t e.op) after → IsLifeOf (es ++ e ∷ []) t after
IsLifeOf-push es t e s is after goes =
    record {
      has_event = goes.has_event ∙ ap (λ b. b || (e.thread == t)) is.has_event ∙ sym (list_any_push (λ e. e.thread == t) es e);
      was_forked = goes.was_forked ∙ ap (λ b. b || is_fork t e.op) is.was_forked ∙ sym (list_any_push (λ e. is_fork t e.op) es e);
      was_joined = goes.was_joined ∙ ap (λ b. b || is_join t e.op) is.was_joined ∙ sym (list_any_push (λ e. is_join t e.op) es e);
    }

-- what makes a fork late, by the life of the thread
pub fork_late : (es : List Event) (u : ℕ) (s : Life) → IsLifeOf es u s → list_any (λ e. e.thread == u || is_join u e.op) es ≡ (s.has_event || s.was_joined)
fork_late es u s is = list_any-or (λ e. e.thread == u) (λ e. is_join u e.op) es ∙ ap₂ (λ a b. a || b) (sym is.has_event) (sym is.was_joined)

-- a life with an event
pub IsMarked-event : (x : Life) → IsMarked x true false false (record { has_event = true; was_forked = x.was_forked; was_joined = x.was_joined })
IsMarked-event x = record { has_event = sym (or-true x.has_event); was_forked = sym (or-false x.was_forked); was_joined = sym (or-false x.was_joined) }

-- a life that is forked, or joined
pub IsMarked-fork : (x : Life) → IsMarked x false true false (record { has_event = x.has_event; was_forked = true; was_joined = x.was_joined })
IsMarked-fork x = record { has_event = sym (or-false x.has_event); was_forked = sym (or-true x.was_forked); was_joined = sym (or-false x.was_joined) }

pub IsMarked-join : (x : Life) → IsMarked x false false true (record { has_event = x.has_event; was_forked = x.was_forked; was_joined = true })
IsMarked-join x = record { has_event = sym (or-false x.has_event); was_forked = sym (or-false x.was_forked); was_joined = sym (or-true x.was_joined) }

-- a life that stays
unmarked : (x : Life) → IsMarked x false false false x
unmarked x = record { has_event = sym (or-false x.has_event); was_forked = sym (or-false x.was_forked); was_joined = sym (or-false x.was_joined) }

-- what stands at a place after a write at k of a life that goes on from the one there
pub life_before : (lives : List Life) (k : ℕ) (x y : Life) (event forked joined : Bool) → k < length lives → slice_get lives k ≡ Some x
    → IsMarked x event forked joined y → (t : ℕ) (s : Life) → slice_get (set lives k y) t ≡ Some s
    → (before : Life) × (slice_get lives t ≡ Some before) × IsMarked before ((k == t) && event) ((k == t) && forked) ((k == t) && joined) s
life_before lives k x y event forked joined within read goes t s at =
    elim (slice_get-set lives k t y s within at) [
      | inl here ↦ (x, ap (slice_get lives) here.0 ∙ read, rw (eq-eqb k t (sym here.0), ← here.1) goes)
      | inr there ↦ (s, there.1, rw (ne_eqb k t (λ same. there.0 (sym same))) (unmarked s))
    ]

module _ (es : List Event) (e : Event) (lives : List Life) (are : AreLivesOf es lives) (x y : Life) (within : e.thread < length lives) (read : slice_get lives e.thread ≡ Some x) (goes : IsMarked x true false false y) where
  -- past an event that forks and joins nobody
  pub AreLivesOf-plain : ((t : ℕ) → (is_fork t e.op ≡ false) × (is_join t e.op ≡ false)) → AreLivesOf (es ++ e ∷ []) (set lives e.thread y)
  AreLivesOf-plain none t s at =
      let (was, there, marked) = life_before lives e.thread x y true false false within read goes t s at in
      let no = and_right (e.thread == t) false refl in
      IsLifeOf-push es t e was (are t was there) s (record {
        has_event = marked.has_event ∙ ap (λ b. was.has_event || b) (and-true (e.thread == t));
        was_forked = marked.was_forked ∙ ap (λ b. was.was_forked || b) (no ∙ sym (none t).0);
        was_joined = marked.was_joined ∙ ap (λ b. was.was_joined || b) (no ∙ sym (none t).1);
      })

  -- past a fork or a join of the thread u
  pub AreLivesOf-marked : (u : ℕ) (v w : Life) (forks joins : Bool) → u < length (set lives e.thread y)
      → slice_get (set lives e.thread y) u ≡ Some v → IsMarked v false forks joins w
      → ((t : ℕ) → (is_fork t e.op ≡ ((u == t) && forks)) × (is_join t e.op ≡ ((u == t) && joins)))
      → AreLivesOf (es ++ e ∷ []) (set (set lives e.thread y) u w)
  AreLivesOf-marked u v w forks joins inside there marked tells t s at =
      let (then, here, later) = life_before (set lives e.thread y) u v w false forks joins inside there marked t s at in
      let (was, first, earlier) = life_before lives e.thread x y true false false within read goes t then here in
      let mine = ap (λ b. was.has_event || b) (and-true (e.thread == t)) in
      let no = λ (a : Bool). ap (λ b. a || b) (and_right (e.thread == t) false refl) ∙ or-false a in
      IsLifeOf-push es t e was (are t was first) s (record {
        has_event = later.has_event ∙ ap₂ (λ a b. a || b) (earlier.has_event ∙ mine) (and_right (u == t) false refl) ∙ or-false (was.has_event || (e.thread == t));
        was_forked = later.was_forked ∙ ap₂ (λ a b. a || b) (earlier.was_forked ∙ no was.was_forked) (sym (tells t).0);
        was_joined = later.was_joined ∙ ap₂ (λ a b. a || b) (earlier.was_joined ∙ no was.was_joined) (sym (tells t).1);
      })
