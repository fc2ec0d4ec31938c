-- What the window never shows is what the trace never shows from k on.
use Rattle.std.proofs.Common.{◌≡◌, ◌⊎◌, ℕ, ◌<◌, ◌≤◌, ◌==◌, ◌||◌, Bool, true, false, List, length, get_or, All, Some, slice_get, refl, sym, ap, ◌∙◌, subst, arith, inl, inr}
use Rattle.std.proofs.lemmas.Bool.{cases_lt, cases_Bool, eqb-true, false≢true}
use Rattle.std.proofs.lemmas.List.Elements.{Contains-get_or, Contains-append_right}
use Rattle.rapid_text.specs.Operations.{is_read, is_write}
use Rattle.rapid_text.specs.declared.event.Event.{Event}
use Rattle.trace_rules.specs.Rules.{IsDisciplined}
use Rattle.trace_rules.proofs.CallerLemmas.{read-from_test, write-from_test}
use Rattle.event_index.specs.Lookups.{before}
use Rattle.event_index.specs.Relations.{is_access, IsConflicting}
use Rattle.event_index.proofs.CallerLemmas.{thread_here}
use Rattle.schedule.specs.Reordering.{IsCorrectReordering}
use Rattle.schedule.specs.Shows.{Shows}
use Rattle.must_order.specs.MustBefore.{IsHeldBefore, IsGuarded}
use Rattle.must_order.proofs.ApartLemmas.{apart_law}
use Rattle.window.specs.Window.{IsWindow, IsPrologueOp, back, forth, stripped, entered}
use Rattle.window.specs.Laws.{ApartInWindow, PrologueIsApart, IsNeverShown, IsNeverShownFrom}
use Rattle.window.proofs.WindowLemmas.{back_below}
use Rattle.window.proofs.DisciplineLemmas.{window-disciplined}
use Rattle.window.proofs.ResumeLemmas.{only_back}
use Rattle.window.proofs.PullLemmas.{within_has}
use Rattle.window.proofs.SoundLemmas.{resumed_is, shows_back}
use Rattle.window.proofs.CompleteLemmas.{entered_is, shows_forth}

or_first : (a : Bool) → (a || false) ≡ true → a ≡ true
or_first true h = refl
or_first false h = h

module _ (T W : List Event) (k m n x lock c : ℕ) (rules : IsDisciplined T) (is : IsWindow T W k m n x lock c) where
  -- what is resumed stands before m
  stripped_below : (P : List ℕ) → IsCorrectReordering W P → All (λ d. d < m) (stripped n k P)
  stripped_below P correct i z lt =
      let d : ℕ = get_or (stripped n k P) i z in
      elim (only_back n k P d (Contains-append_right (before k) (stripped n k P) d (Contains-get_or (stripped n k P) i z lt))) [
        | inl low ↦ omega (arith, low, is.begins)
        | inr one ↦
            let below : back n k one.0 < m = back_below T W k m n x lock c is one.0 one.1 (within_has W P correct one.0 one.2) in
            subst (λ (b : ℕ). b < m) one.3 below
      ]

  module _ (a b : ℕ) (first : n ≤ a) (first_in : a < length W) (second : n ≤ b) (second_in : b < length W) where
    shown_back : IsNeverShownFrom T k m (back n k a) (back n k b) → IsNeverShown W a b
    shown_back never P correct shows =
        never (stripped n k P) (resumed_is T W k m n x lock c rules is P correct) (stripped_below P correct)
        (shows_back T W k m n x lock c rules is P a b first second shows)

    shown_forth : IsNeverShown W a b → IsNeverShownFrom T k m (back n k a) (back n k b)
    shown_forth never S all low shows =
        let in_a : forth n k (back n k a) ≡ a = omega (arith, first) in
        let in_b : forth n k (back n k b) ≡ b = omega (arith, second) in
        let below : back n k a < m = back_below T W k m n x lock c is a first first_in in
        let too : back n k b < m = back_below T W k m n x lock c is b second second_in in
        let shown = shows_forth T W k m n x lock c rules is S all low (back n k a) (back n k b) (omega arith) below (omega arith) too shows in
        never (entered n k S) (entered_is T W k m n x lock c rules is S all low)
        (subst (λ (z : ℕ). Shows W (entered n k S) a z) in_b (subst (λ (z : ℕ). Shows W (entered n k S) z (forth n k (back n k b))) in_a shown))

pub apart_window_law : ApartInWindow
apart_window_law T W k m n x lock c a b rules is first first_in second second_in =
    (shown_forth T W k m n x lock c rules is a b first first_in second second_in, shown_back T W k m n x lock c rules is a b first first_in second second_in)

-- Accesses of the prologue are made under its lock, and no event of the window accesses its variable.
module _ (T W : List Event) (k m n x lock c : ℕ) (is : IsWindow T W k m n x lock c) where
  -- an access of the prologue is of x
  front_access : (i y : ℕ) (v : Event) → i < n → slice_get W i ≡ Some v → is_access y v.op ≡ true → y ≡ x
  front_access i y v lt at access = access_of (is.ops i v lt at)
    where
      access_of : IsPrologueOp x lock v.op → y ≡ x
      access_of kind =
          elim kind [
            | inl read ↦ sym (eqb-true x y (or_first (x == y) (sym (ap (is_access y) read) ∙ access)))
            | inr more ↦ elim more [
              | inl write ↦ sym (eqb-true x y (sym (ap (is_access y) write) ∙ access))
              | inr rest ↦ elim rest [
                | inl frees ↦ absurd (false≢true (sym (ap (is_access y) frees) ∙ access))
                | inr takes ↦ absurd (false≢true (sym (ap (is_access y) takes.1) ∙ access))
              ]
            ]
          ]

  -- and made under the lock
  front_held : (i y : ℕ) (v : Event) → i < n → slice_get W i ≡ Some v → is_access y v.op ≡ true → IsHeldBefore W i lock
  front_held i y v lt at access =
      elim (is.held i v lt at) [
        | inl takes ↦ absurd (false≢true (sym (ap (is_access y) takes.1) ∙ access))
        | inr some ↦ (v.thread, thread_here W i v at, some)
      ]

  -- no access of x comes after the prologue
  behind_access : (i : ℕ) (v : Event) → n ≤ i → slice_get W i ≡ Some v → is_access x v.op ≡ true → ⊥
  behind_access i v low at access =
      elim (cases_Bool (is_read x v.op)) [
        | inl reads ↦ absurd ((is.unused i v low at).0 (read-from_test x v.op reads))
        | inr other ↦ absurd ((is.unused i v low at).1 (write-from_test x v.op (sym (ap (λ b. b || is_write x v.op) other) ∙ access)))
      ]

  both_front : (a b : ℕ) → IsConflicting W a b → (a < n) ⊎ (b < n) → (a < n) × (b < n)
  both_front a b h some =
      let y : ℕ = h.clash.variable in
      elim (cases_lt a n) [
        | inl low ↦ elim (cases_lt b n) [
          | inl also ↦ (low, also)
          | inr le ↦
              let same : y ≡ x = front_access a y h.v low h.first h.clash.first in
              absurd (behind_access b h.w le h.second (ap (λ z. is_access z h.w.op) (sym same) ∙ h.clash.second))
        ]
        | inr le ↦ elim (cases_lt b n) [
          | inl also ↦
              let same : y ≡ x = front_access b y h.w also h.second h.clash.second in
              absurd (behind_access a h.v le h.first (ap (λ z. is_access z h.v.op) (sym same) ∙ h.clash.first))
          | inr too ↦ absurd (elim some [ inl low ↦ omega (arith, low, le) | inr low ↦ omega (arith, low, too) ])
        ]
      ]

pub prologue_law : PrologueIsApart
prologue_law T W k m n x lock c a b P rules is correct some shows =
    let h = shows.conflict in
    let parts = both_front T W k m n x lock c is a b h some in
    let first : IsHeldBefore W a lock = front_held T W k m n x lock c is a h.clash.variable h.v parts.0 h.first h.clash.first in
    let second : IsHeldBefore W b lock = front_held T W k m n x lock c is b h.clash.variable h.w parts.1 h.second h.clash.second in
    let guarded : IsGuarded W a b = (lock, (first, second)) in
    (apart_law W P a b (window-disciplined T W k m n x lock c rules is) correct (inr guarded)).0 shows
