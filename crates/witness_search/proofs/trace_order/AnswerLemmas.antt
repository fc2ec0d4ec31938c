-- What the list of the needed events, and a refusal, tell.
use Rattle.std.proofs.Common.{◌≡◌, ◌≢◌, ◌↔◌, ℕ, ◌∙◌, Bool, true, false, IsTrue, List, get_or, refl, sym, subst, inl, inr}
use Rattle.std.proofs.lemmas.Bool.{false≢true}
use Rattle.std.proofs.lemmas.Option.{slice_get_within}
use Rattle.rapid_text.specs.declared.event.Event.{Event}
use Rattle.trace_rules.specs.Rules.{IsDisciplined}
use Rattle.event_index.specs.Relations.{IsConflicting}
use Rattle.must_order.specs.Layout.{IsCounted}
use Rattle.witness_search.specs.trace_order.InOrder.{IsBaseOfPair, IsInOrder}
use Rattle.witness_search.specs.trace_order.Laws.{HasListInOrder}
use Rattle.witness_search.specs.trace_order.Layout.{IsNeededRow, IsCountedList}
use Rattle.witness_search.specs.trace_order.Refusals.{IsLeastInOrder, IsNeverShownInOrder, IsRefusalOf}
use Rattle.witness_search.specs.declared.trace_order.refusal.InOrderRefusal.{InOrderRefusal}
use Rattle.witness_search.specs.declared.trace_order.refusal.InOrderRefusal.TheVariants.{NoSuchEvent, NotConflicting, NotInOrder, OutOfMemory}
use Rattle.witness_search.proofs.trace_order.NeededLemmas.{least_law, needed_shown}

pub IsInOrder-counted : (T : List Event) (a b : ℕ) (row : ℕ → ℕ) (P : List ℕ) → IsNeededRow T (IsBaseOfPair T a b) row → IsCountedList T row P → IsInOrder T a b P
IsInOrder-counted T a b row P needs is = record {
  rising = is.rising;
  members = λ e. (λ m. (needs e).0 ((is.members e).0 m), λ need. (is.members e).1 ((needs e).1 need));
}

pub HasListInOrder-uncounted :
    (T : List Event) (a b : ℕ) (row : ℕ → ℕ) → IsNeededRow T (IsBaseOfPair T a b) row → IsConflicting T a b
    → ¬ IsCounted T row a → ¬ IsCounted T row b → HasListInOrder T a b
HasListInOrder-uncounted T a b row needs conflict first second = record {
  conflict = conflict;
  first = λ need. first ((needs a).1 need);
  second = λ need. second ((needs b).1 need);
}

pub IsLeastInOrder-list : (T : List Event) → IsDisciplined T → (a b : ℕ) (P : List ℕ) → IsInOrder T a b P → IsLeastInOrder T a b P
IsLeastInOrder-list T rules a b P is Q rising correct shows e m = needed_shown T rules Q rising correct a b shows e ((is.members e).0 m)

pub IsNeverShown-refused : (T : List Event) → IsDisciplined T → (a b : ℕ) (why : InOrderRefusal) → IsRefusalOf T a b why → why ≢ OutOfMemory → IsNeverShownInOrder T a b
IsNeverShown-refused T rules a b NoSuchEvent is other Q rising correct shows =
    let f = shows.conflict in
    is (slice_get_within T a f.v f.first, slice_get_within T b f.w f.second)
IsNeverShown-refused T rules a b NotConflicting is other Q rising correct shows = is.1 shows.conflict
IsNeverShown-refused T rules a b NotInOrder is other Q rising correct shows =
    let has = (least_law T Q a b rules rising correct shows).0 in
    elim is.1 [ inl first ↦ has.first first | inr second ↦ has.second second ]
IsNeverShown-refused T rules a b OutOfMemory is other Q rising correct shows = other refl

-- what a test of a row tells, where the row is read as a slice
pub counted_read : (T : List Event) (e : ℕ) (row xs : List ℕ) (b : Bool) → xs ≡ row → (IsTrue b ↔ IsCounted T (λ t. get_or xs t 0) e) → b ≡ true → IsCounted T (λ t. get_or row t 0) e
counted_read T e row xs b is tells so = subst (λ (ys : List ℕ). IsCounted T (λ t. get_or ys t 0) e) is (tells.0 so)

pub uncounted_read : (T : List Event) (e : ℕ) (row xs : List ℕ) (b : Bool) → xs ≡ row → (IsTrue b ↔ IsCounted T (λ t. get_or xs t 0) e) → b ≡ false → ¬ IsCounted T (λ t. get_or row t 0) e
uncounted_read T e row xs b is tells no_it counted =
    false≢true (sym no_it ∙ tells.1 (subst (λ (ys : List ℕ). IsCounted T (λ t. get_or ys t 0) e) (sym is) counted))

pub list_read : (T : List Event) (row xs P : List ℕ) → xs ≡ row → IsCountedList T (λ t. get_or xs t 0) P → IsCountedList T (λ t. get_or row t 0) P
list_read T row xs P is are = subst (λ (ys : List ℕ). IsCountedList T (λ t. get_or ys t 0) P) is are
