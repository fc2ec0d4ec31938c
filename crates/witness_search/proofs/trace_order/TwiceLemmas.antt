-- How the two searches end together.
use Rattle.std.proofs.Common.{◌≡◌, ℕ, ◌<◌, List, length, is_some, false, true, Option, Some, None, IfSome, refl, sym, subst, inl}
use Rattle.std.proofs.lemmas.Bool.{false≢true, true≢false}
use Rattle.rapid_text.specs.Recording.{Recording}
use Rattle.rapid_text.specs.declared.event.Event.{Event}
use Rattle.trace_rules.specs.Rules.{IsDisciplined}
use Rattle.event_index.specs.Relations.{IsConflicting}
use Rattle.schedule.specs.Shows.{Shows}
use Rattle.witness_search.specs.Greedy.{IsGreedyRun}
use Rattle.witness_search.specs.trace_order.Aims.{AreFronts, IsAgainOfSize, IsAim, IsAimBefore, IsAimFor, IsMissedFrom, IsRunOfSize}
use Rattle.witness_search.specs.trace_order.Counting.{IsTurnedOfSize}
use Rattle.witness_search.specs.trace_order.InOrder.{IsBaseOfPair}
use Rattle.witness_search.specs.trace_order.Laws.{IsBaseOf}
use Rattle.witness_search.specs.trace_order.Orders.{before_sections, IsSearchedAgain, IsSearchedFirst, IsSearchedTwice}
use Rattle.witness_search.specs.trace_order.Rows.{row_of}
use Rattle.witness_search.specs.trace_order.Standing.{start_of}
use Rattle.witness_search.specs.declared.trace_order.enabling.Aim.{Aim}
use Rattle.witness_search.proofs.trace_order.StandLemmas.{AreNeeded-events}
use Rattle.witness_search.proofs.trace_order.TurnLemmas.{IsReady-needed}

-- the first search finds it
pub twice_first : (T : List Event) (a b budget rest : ℕ) (found : Option (List ℕ)) → is_some found ≡ true → IsSearchedFirst T a b budget found rest → IsSearchedTwice T a b budget found rest
twice_first T a b budget rest None some first = absurd (false≢true some)
twice_first T a b budget rest (Some P) some first = record { one = Some P; rest = rest; first = first; then = refl }

-- the first search finds nothing, and the second ends so
pub twice_again : (T : List Event) (a b budget rest left : ℕ) (one found : Option (List ℕ)) → is_some one ≡ false → IsSearchedFirst T a b budget one rest
    → IsSearchedAgain T a b rest found left → IsSearchedTwice T a b budget found left
twice_again T a b budget rest left None found none first again = record { one = None; rest = rest; first = first; then = again }
twice_again T a b budget rest left (Some P) found none first again = absurd (true≢false none)

-- a run by another name of the pair
run_for : (T : List Event) (S : List ℕ) (x y a b budget left : ℕ) (found : Option (List ℕ)) → x ≡ a → y ≡ b → IsGreedyRun T S x y budget found left → IsGreedyRun T S a b budget found left
run_for T S x y a b budget left found first second run =
    subst (λ z. IsGreedyRun T S a z budget found left) second (subst (λ z. IsGreedyRun T S z y budget found left) first run)

module _ (r : Recording) (rules : IsDisciplined r.events) (a b : ℕ) (low : b < length r.events) (aim : Aim) (is : IsAimFor r a b aim) where
  -- how the search by counts ends is how the first search ends
  pub first_of : (budget left : ℕ) (found : Option (List ℕ)) → IsGreedyRun r.events (start_of r aim) aim.first aim.second budget found left → IsSearchedFirst r.events a b budget found left
  first_of budget left found run =
      let needed = AreNeeded-events r.events rules (row_of aim.start) (IsBaseOf r.events b) is.needs in
      record {
        start = start_of r aim;
        needed = needed;
        ready = IsReady-needed r.events rules b (start_of r aim) low needed;
        run = run_for r.events (start_of r aim) aim.first aim.second a b budget left found is.first is.second run;
      }

  pub size_first : IsConflicting r.events a b → (budget : ℕ) (told : ℕ × ℕ) → IsRunOfSize r aim budget told → IsTurnedOfSize r.events a b budget told
  size_first conflict budget told run = record {
    list = run.list;
    turned = inl (conflict, 0, twice_first r.events a b budget 0 (Some run.list) refl (first_of budget 0 (Some run.list) run.run));
    reordering = run.reordering;
    shows = subst (λ y. Shows r.events run.list a y) is.second (subst (λ x. Shows r.events run.list x aim.second) is.first run.shows);
    size = run.size;
  }

  pub size_first-some : IsConflicting r.events a b → (budget : ℕ) (o : Option (ℕ × ℕ)) → IfSome o (IsRunOfSize r aim budget) → IfSome o (IsTurnedOfSize r.events a b budget)
  size_first-some conflict budget None run = tt
  size_first-some conflict budget (Some told) run = size_first conflict budget told run

  -- the second search is for the pair of the aim
  again_of : (budget left : ℕ) (found : Option (List ℕ)) → IsSearchedAgain r.events aim.first aim.second budget found left → IsSearchedAgain r.events a b budget found left
  again_of budget left found again =
      subst (λ y. IsSearchedAgain r.events a y budget found left) is.second (subst (λ x. IsSearchedAgain r.events x aim.second budget found left) is.first again)

  pub size_second : IsConflicting r.events a b → (budget rest : ℕ) (told : ℕ × ℕ) → IsMissedFrom r aim budget rest → IsAgainOfSize r.events aim.first aim.second rest told
      → IsTurnedOfSize r.events a b budget told
  size_second conflict budget rest told missed again = record {
    list = again.list;
    turned = inl (conflict, 0, twice_again r.events a b budget rest 0 None (Some again.list) refl (first_of budget rest None missed) (again_of rest 0 (Some again.list) again.again));
    reordering = again.reordering;
    shows = subst (λ y. Shows r.events again.list a y) is.second (subst (λ x. Shows r.events again.list x aim.second) is.first again.shows);
    size = again.size;
  }

  pub size_second-some : IsConflicting r.events a b → (budget rest : ℕ) (o : Option (ℕ × ℕ)) → IsMissedFrom r aim budget rest
      → IfSome o (IsAgainOfSize r.events aim.first aim.second rest) → IfSome o (IsTurnedOfSize r.events a b budget)
  size_second-some conflict budget rest None missed again = tt
  size_second-some conflict budget rest (Some told) missed again = size_second conflict budget rest told missed again

  pub missed_twice : (budget rest left : ℕ) → IsMissedFrom r aim budget rest → IsSearchedAgain r.events aim.first aim.second rest None left → IsSearchedTwice r.events a b budget None left
  missed_twice budget rest left missed again = twice_again r.events a b budget rest left None None refl (first_of budget rest None missed) (again_of rest left None again)

-- the second search by counts
module _ (r : Recording) (rules : IsDisciplined r.events) (aim new : Aim) (fronts : ℕ × ℕ) (are : AreFronts r.events aim.first aim.second fronts) (is : IsAimBefore r aim fronts new) (budget : ℕ) (some : 0 < budget) where
  pub before_of : (left : ℕ) (found : Option (List ℕ)) → IsGreedyRun r.events (start_of r new) new.first new.second budget found left → IsSearchedAgain r.events aim.first aim.second budget found left
  before_of left found run =
      before_sections some are.some (record {
        first = fronts.0;
        second = fronts.1;
        first_front = are.first;
        second_front = are.second;
        start = start_of r new;
        needed = AreNeeded-events r.events rules (row_of new.start) (IsBaseOfPair r.events fronts.0 fronts.1) is.needs;
        run = run_for r.events (start_of r new) new.first new.second aim.first aim.second budget left found is.first is.second run;
      })

  pub size_before : (told : ℕ × ℕ) → IsRunOfSize r new budget told → IsAgainOfSize r.events aim.first aim.second budget told
  size_before told run = record {
    list = run.list;
    again = before_of 0 (Some run.list) run.run;
    reordering = run.reordering;
    shows = subst (λ y. Shows r.events run.list aim.first y) is.second (subst (λ x. Shows r.events run.list x new.second) is.first run.shows);
    size = run.size;
  }

  pub size_before-some : (o : Option (ℕ × ℕ)) → IfSome o (IsRunOfSize r new budget) → IfSome o (IsAgainOfSize r.events aim.first aim.second budget)
  size_before-some None run = tt
  size_before-some (Some told) run = size_before told run

-- what is not there is None
pub none_of : {X : Type 0} (o : Option X) → is_some o ≡ false → o ≡ None
none_of None is = refl
none_of (Some x) is = absurd (true≢false is)
