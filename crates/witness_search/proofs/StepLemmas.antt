-- The steps of the greedy search. `T` is the events of a trace that keeps the rules, `P` a correct
-- reordering of it.
use Rattle.std.proofs.Common.{◌≡◌, ℕ, zero, suc, ◌+◌, ◌-◌, ◌<◌, ◌≤◌, ◌⊎◌, ◌&&◌, ◌==◌, not, Bool, true, false, List, [], ◌∷◌, ◌++◌, cond, filter, length, find, option_map, Option, Some, None, IfSome, Result, Ok, sym, refl, ap, ◌∙◌, subst, arith, add-one, inl, inr}
use Rattle.std.specs.Option.{is_none}
use Rattle.std.proofs.lemmas.Bool.{cases_Bool, cases_eq, cases_lt, cond_below, cond_above, and_parts, true≢false}
use Rattle.std.proofs.lemmas.List.{length_push}
use Rattle.shb_clocks.proofs.ReadLemmas.{thread_named}
use Rattle.std.proofs.lemmas.Option.{same_Some, none-some}
use Rattle.rapid_text.specs.Recording.{Recording, IsWellFormed}
use Rattle.rapid_text.specs.declared.event.Event.{Event}
use Rattle.trace_rules.specs.Rules.{IsDisciplined}
use Rattle.event_index.specs.Events.{thread_at}
use Rattle.event_index.specs.Least.{IsLeastOf}
use Rattle.event_index.specs.Lookups.{before}
use Rattle.event_index.specs.Relations.{is_conflict}
use Rattle.event_index.proofs.CallerLemmas.{IsLeastOf-same, find_cases, find-least, find-passes, Decides-is_conflict}
use Rattle.shb_clocks.proofs.CallerLemmas.{thread_here, thread_within, one_thread}
use Rattle.schedule.specs.Refusals.{refusal_of, next_of}
use Rattle.schedule.specs.Reordering.{IsCorrectReordering, IsPrefix}
use Rattle.schedule.specs.Shows.{Shows, is_ready, does_show}
use Rattle.schedule.proofs.CallerLemmas.{Allows, Allows-enabled, IsEnabled-none, is_ready-true}
use Rattle.witness_search.specs.Greedy.{may_take, next_step, followed_by, after_steps, first_shown, IsGreedyAnswer, IsGreedyRun}
use Rattle.witness_search.specs.Layout.{kept}
use Rattle.witness_search.specs.Wanted.{AreWanted}
use Rattle.witness_search.proofs.KeptLemmas.{event_there, kept_member, kept_passes, kept-rises}
use Rattle.witness_search.proofs.RisingLemmas.{rising-unique}
use Rattle.witness_search.proofs.WantedLemmas.{IsWanted-within}
use Rattle.witness_search.specs.Searches.{is_marked, marked_events, is_step, lesser, IsStepBelow, IsStepOf, TellWanted}
use Rattle.witness_search.proofs.FoundLemmas.{IsPrefix-self, IsPrefix-push, IsPrefix-trans}

-- of two the lesser
pub IsLeastOf-lesser : (Q R : ℕ → Type 0) (r s : Option ℕ) → IsLeastOf Q r → IsLeastOf R s → IsLeastOf (λ e. Q e ⊎ R e) (lesser r s)
IsLeastOf-lesser Q R None None q r = λ e h. elim h [ inl here ↦ q e here | inr there ↦ r e there ]
IsLeastOf-lesser Q R None (Some y) q r = (inr r.0, λ e h. elim h [ inl here ↦ absurd (q e here) | inr there ↦ r.1 e there ])
IsLeastOf-lesser Q R (Some x) None q r = (inl q.0, λ e h. elim h [ inl here ↦ q.1 e here | inr there ↦ absurd (r e there) ])
IsLeastOf-lesser Q R (Some x) (Some y) q r =
    elim (cases_lt y x) [
      | inl below ↦
          rw (← cond_below y x (Some y) (Some x) below) (inr r.0, λ e h. elim h [ inl here ↦ omega (arith, q.1 e here, below) | inr there ↦ r.1 e there ])
      | inr above ↦
          rw (← cond_above y x (Some y) (Some x) (Some x) above refl) (inl q.0, λ e h. elim h [ inl here ↦ q.1 e here | inr there ↦ omega (arith, r.1 e there, above) ])
    ]

-- a look among those that pass a test is a look for both
find-filter : (p test : ℕ → Bool) (xs : List ℕ) → find p (filter test xs) ≡ find (λ e. test e && p e) xs
find-filter p test [] = refl
find-filter p test (x ∷ xs) =
    elim (cases_Bool (test x)) [
      | inl passes ↦ rw passes (ap (λ o. cond (p x) (Some x) o) (find-filter p test xs))
      | inr fails ↦ rw fails (find-filter p test xs)
    ]

find-kept : (p test : ℕ → Bool) (n : ℕ) (r : Option ℕ) → IsLeastOf (λ e. (e < n) × ((test e && p e) ≡ true)) r → find p (kept test n) ≡ r
find-kept p test n r is = find-filter p test (before n) ∙ find-least (λ e. test e && p e) n r is

is_none-true : {X : Type 0} (o : Option X) → is_none o ≡ true → o ≡ None
is_none-true None h = refl
is_none-true (Some x) h = absurd (true≢false (sym h))

-- nothing refuses what may be taken
refusal_of-may : (T : List Event) (a b : ℕ) (P : List ℕ) (e : ℕ) → may_take T a b P e ≡ true → refusal_of T P e ≡ None
refusal_of-may T a b P e may =
    let rest = (and_parts (not (e == a)) (not (e == b) && is_none (refusal_of T P e)) may).1 in
    is_none-true (refusal_of T P e) (and_parts (not (e == b)) (is_none (refusal_of T P e)) rest).1

pub refusal_of-next : (T : List Event) (a b : ℕ) (N P : List ℕ) (e : ℕ) → next_step T a b N P ≡ Some e → refusal_of T P e ≡ None
refusal_of-next T a b N P e next = refusal_of-may T a b P e (find-passes (may_take T a b P) N e next)

module _ (T : List Event) (rules : IsDisciplined T) (a b : ℕ) (marks : List Bool) (P : List ℕ) (is : IsCorrectReordering T P) where
  -- what a step takes is the next event of its thread
  next_of-step : (e t : ℕ) → IsStepOf T a b marks P t e → next_of T P t ≡ Some e
  next_of-step e t step =
      let unrefused = refusal_of-may T a b P e (and_parts (is_marked marks e) (may_take T a b P e) step.step).1 in
      let allows : Allows T P e = Allows-enabled T P e (IsEnabled-none T P e rules is unrefused) in
      let same : allows.v.thread ≡ t = one_thread T e allows.v.thread t (thread_here T e allows.v allows.found) step.of_thread in
      rw (← same) allows.next

  pub IsStepOf-none : (t : ℕ) → next_of T P t ≡ None → IsLeastOf (IsStepOf T a b marks P t) None
  IsStepOf-none t none e step = none-some e (sym none ∙ next_of-step e t step)

  pub IsStepOf-taken : (t x : ℕ) → next_of T P t ≡ Some x → thread_at T x ≡ Some t → is_step T a b marks P x ≡ true → IsLeastOf (IsStepOf T a b marks P t) (Some x)
  IsStepOf-taken t x next of step = (
    record { step = step; of_thread = of },
    λ e other. omega (arith, same_Some x e (sym next ∙ next_of-step e t other)),
  )

  pub IsStepOf-refused : (t x : ℕ) → next_of T P t ≡ Some x → is_step T a b marks P x ≡ false → IsLeastOf (IsStepOf T a b marks P t) None
  IsStepOf-refused t x next fails e step =
      let same : x ≡ e = same_Some x e (sym next ∙ next_of-step e t step) in
      true≢false (sym step.step ∙ ap (is_step T a b marks P) (sym same) ∙ fails)

module _ (T : List Event) (a b : ℕ) (marks : List Bool) (P : List ℕ) where
  -- one thread more
  pub IsStepBelow-more : (n : ℕ) (r s : Option ℕ) → IsLeastOf (IsStepBelow T a b marks P n) r → IsLeastOf (IsStepOf T a b marks P n) s
      → IsLeastOf (IsStepBelow T a b marks P (n + 1)) (lesser r s)
  IsStepBelow-more n r s is one =
      IsLeastOf-same (λ e. IsStepBelow T a b marks P n e ⊎ IsStepOf T a b marks P n e) (IsStepBelow T a b marks P (n + 1))
      (λ e either. elim either [ inl below ↦ (below.0, omega (arith, below.1), below.2) | inr here ↦ (n, omega arith, here) ])
      (λ e below. elim (cases_lt below.0 n) [
        | inl early ↦ inl (below.0, early, below.2)
        | inr late ↦ let same : below.0 ≡ n = omega (arith, below.1) in inr (rw (← same) below.2)
      ]) (lesser r s) (IsLeastOf-lesser (IsStepBelow T a b marks P n) (IsStepOf T a b marks P n) r s is one)

-- the least step of all threads is the next step
pub next_step-least : (r : Recording) → IsWellFormed r → (a b n : ℕ) (marks : List Bool) (P : List ℕ) (least : Option ℕ) → length marks ≡ length r.events → length r.threads ≤ n
    → IsLeastOf (IsStepBelow r.events a b marks P n) least → next_step r.events a b (marked_events r.events marks) P ≡ least
next_step-least r well a b n marks P least len all is =
    let T = r.events in
    find-kept (may_take T a b P) (is_marked marks) (length T) least
    (IsLeastOf-same (IsStepBelow T a b marks P n) (λ e. (e < length T) × (is_step T a b marks P e ≡ true))
    (λ e step. (thread_within T e step.0 step.2.of_thread, step.2.step)) (λ e step.
    let (v, found) = event_there T e step.0 in
    let of = thread_here T e v found in
    (v.thread, omega (arith, thread_named r well e v.thread of, all), record { step = step.1; of_thread = of })) least is)

-- the lists of the search begin with its start, and grow by at most one event a step
module _ (T : List Event) (a b : ℕ) (N P : List ℕ) where
  pub after_steps-begins : (j : ℕ) → IsPrefix P (after_steps T a b N P j)
  unfolding after_steps
  after_steps-begins zero = IsPrefix-self P
  after_steps-begins (suc j) =
      IsPrefix-trans P (after_steps T a b N P j) (after_steps T a b N P (suc j)) (after_steps-begins j)
      (followed (after_steps T a b N P j) (next_step T a b N (after_steps T a b N P j)))
    where
      followed : (Q : List ℕ) (o : Option ℕ) → IsPrefix Q (followed_by Q o)
      followed Q None = IsPrefix-self Q
      followed Q (Some e) = IsPrefix-push Q e

  pub after_steps-length : (j : ℕ) → length (after_steps T a b N P j) ≤ length P + j
  unfolding after_steps
  after_steps-length zero = omega arith
  after_steps-length (suc j) = omega (arith, after_steps-length j, longer (after_steps T a b N P j) (next_step T a b N (after_steps T a b N P j)))
    where
      longer : (Q : List ℕ) (o : Option ℕ) → length (followed_by Q o) ≤ length Q + 1
      longer Q None = omega arith
      longer Q (Some e) = omega (arith, length_push Q e)

abbrev shown_at : List Event → ℕ → ℕ → List ℕ → List ℕ → ℕ → Bool
shown_at T a b N P j = does_show T (after_steps T a b N P j) a b

-- The search has come to Q by k steps, and none of the earlier lists shows the pair.
pub record IsSearched (T : List Event) (a b : ℕ) (N P : List ℕ) (k : ℕ) (Q : List ℕ) : Type 0 where
  pub here : after_steps T a b N P k ≡ Q
  pub hidden : (j : ℕ) → j < k → shown_at T a b N P j ≡ false

pub IsSearched-start : (T : List Event) (a b : ℕ) (N P : List ℕ) → IsSearched T a b N P 0 P
unfolding after_steps
IsSearched-start T a b N P = record { here = refl; hidden = λ j below. absurd (omega (arith, below)) }

module _ {T : List Event} {a b : ℕ} {N P : List ℕ} {k : ℕ} {Q : List ℕ} (is : IsSearched T a b N P k Q) where
  -- Q shows it
  pub first_shown-at : (budget : ℕ) → k ≤ budget → does_show T Q a b ≡ true → first_shown T a b N P budget ≡ Some Q
  first_shown-at budget fits shown =
      ap (option_map (after_steps T a b N P)) (find-least (shown_at T a b N P) (budget + 1) (Some k) (
        (omega (arith, fits), ap (λ R. does_show T R a b) is.here ∙ shown),
        λ e h. elim (cases_lt e k) [ inl early ↦ absurd (true≢false (sym h.1 ∙ is.hidden e early)) | inr late ↦ late ],
      )) ∙ ap Some is.here

  -- neither Q nor any list after it does
  none_shown : (budget : ℕ) → does_show T Q a b ≡ false → ((j : ℕ) → k ≤ j → j ≤ budget → after_steps T a b N P j ≡ Q) → first_shown T a b N P budget ≡ None
  none_shown budget fails same =
      ap (option_map (after_steps T a b N P)) (find-least (shown_at T a b N P) (budget + 1) None (λ e h. elim (cases_lt e k) [
        | inl early ↦ true≢false (sym h.1 ∙ is.hidden e early)
        | inr late ↦ true≢false (sym h.1 ∙ ap (λ R. does_show T R a b) (same e late (omega (arith, h.0))) ∙ fails)
      ]))

  pub first_shown-end : (budget : ℕ) → k ≡ budget → does_show T Q a b ≡ false → first_shown T a b N P budget ≡ None
  first_shown-end budget end fails = none_shown budget fails (λ j late low. ap (after_steps T a b N P) (omega arith) ∙ is.here)

  stays : next_step T a b N Q ≡ None → (j : ℕ) → after_steps T a b N P (k + j) ≡ Q
  unfolding after_steps
  stays none zero = ap (after_steps T a b N P) (omega arith) ∙ is.here
  stays none (suc j) =
      let one : k + suc j ≡ suc (k + j) = omega arith in
      ap (after_steps T a b N P) one ∙ ap (λ R. followed_by R (next_step T a b N R)) (stays none j) ∙ ap (followed_by Q) none

  pub first_shown-stuck : (budget : ℕ) → does_show T Q a b ≡ false → next_step T a b N Q ≡ None → first_shown T a b N P budget ≡ None
  first_shown-stuck budget fails none = none_shown budget fails (λ j late low. let whole : j ≡ k + (j - k) = omega arith in rw whole (stays none (j - k)))

  pub IsSearched-more : does_show T Q a b ≡ false → (e : ℕ) → next_step T a b N Q ≡ Some e → IsSearched T a b N P (k + 1) (Q ++ e ∷ [])
  unfolding after_steps
  IsSearched-more fails e next = record {
    here = ap (after_steps T a b N P) (add-one k) ∙ ap (λ R. followed_by R (next_step T a b N R)) is.here ∙ ap (followed_by Q) next;
    hidden = λ j below. elim (cases_eq j k) [
      | inl same ↦ ap (shown_at T a b N P) same ∙ ap (λ R. does_show T R a b) is.here ∙ fails
      | inr other ↦ is.hidden j (omega (arith, below, other))
    ];
  }

pub same_Ok : {X E : Type 0} (x y : X) → ◌≡◌ {A = Result X E} (Ok x) (Ok y) → x ≡ y
same_Ok x y is = cc

-- what the test of a shown pair tells
pub Shows-does_show : (T : List Event) (P : List ℕ) (a b : ℕ) → IsCorrectReordering T P → does_show T P a b ≡ true → Shows T P a b
Shows-does_show T P a b is shown =
    let parts = and_parts (is_conflict T a b) (is_ready T P a && is_ready T P b) shown in
    let ready = and_parts (is_ready T P a) (is_ready T P b) parts.1 in
    record {
      conflict = (Decides-is_conflict T a b).0 parts.0;
      first = is_ready-true T P a is ready.0;
      second = is_ready-true T P b is ready.1;
    }

-- the list that is found is one of the first lists, and shows the pair
module _ (T : List Event) (a b : ℕ) (N P : List ℕ) (budget : ℕ) where
  found_at : (L : List ℕ) (o : Option ℕ) → find (shown_at T a b N P) (before (budget + 1)) ≡ o → option_map (after_steps T a b N P) o ≡ Some L
      → (j : ℕ) × (j ≤ budget) × (after_steps T a b N P j ≡ L) × (does_show T L a b ≡ true)
  found_at L None at is = absurd (none-some L is)
  found_at L (Some j) at is =
      let found = (find_cases (shown_at T a b N P) (budget + 1) (Some j) at).0 in
      let same : after_steps T a b N P j ≡ L = same_Some (after_steps T a b N P j) L is in
      (j, omega (arith, found.0), same, ap (λ R. does_show T R a b) (sym same) ∙ found.1)

  pub first_shown-some : (L : List ℕ) → first_shown T a b N P budget ≡ Some L → (j : ℕ) × (j ≤ budget) × (after_steps T a b N P j ≡ L) × (does_show T L a b ≡ true)
  first_shown-some L is = found_at L (find (shown_at T a b N P) (before (budget + 1))) refl is

-- the marked events are the wanted ones
pub AreWanted-marked : (T : List Event) → IsDisciplined T → (a b : ℕ) (marks : List Bool) → TellWanted T a b marks → AreWanted T a b (marked_events T marks)
AreWanted-marked T rules a b marks tell = record {
  rising = kept-rises (is_marked marks) (length T);
  members = λ e. (
    λ has. (tell.marked e).0 (kept_passes (is_marked marks) (length T) e has),
    λ wanted. kept_member (is_marked marks) (length T) e (IsWanted-within T rules a b e wanted) ((tell.marked e).1 wanted),
  );
}

-- the wanted events are one list
pub AreWanted-unique : (T : List Event) (a b : ℕ) (M N : List ℕ) → AreWanted T a b M → AreWanted T a b N → M ≡ N
AreWanted-unique T a b M N are also =
    rising-unique M N are.rising also.rising (λ e has. (also.members e).1 ((are.members e).0 has)) (λ e has. (are.members e).1 ((also.members e).0 has))

-- so what the search answers is one
pub IsGreedyAnswer-unique : (T : List Event) (P : List ℕ) (a b budget : ℕ) (found other : Option (List ℕ)) → IsGreedyAnswer T P a b budget found → IsGreedyAnswer T P a b budget other → found ≡ other
IsGreedyAnswer-unique T P a b budget found other is also =
    is.is ∙ ap (λ N. first_shown T a b N P budget) (AreWanted-unique T a b is.wanted also.wanted is.are_wanted also.are_wanted) ∙ sym also.is

-- what a run of the search finds
module _ (T : List Event) (P : List ℕ) (a b budget : ℕ) where
  pub IsGreedyAnswer-run : (found : Option (List ℕ)) (left : ℕ) → IsGreedyRun T P a b budget found left → IsGreedyAnswer T P a b budget found
  IsGreedyAnswer-run found left run = record { wanted = run.wanted; are_wanted = run.are_wanted; is = run.is }

  pub run_begins : (found : Option (List ℕ)) (left : ℕ) → IsGreedyRun T P a b budget found left → IfSome found (IsPrefix P)
  run_begins None left run = tt
  run_begins (Some L) left run =
      let (j, low, after, shows) = first_shown-some T a b run.wanted P budget L (sym run.is) in
      subst (IsPrefix P) after (after_steps-begins T a b run.wanted P j)

  pub run_fits : (found : Option (List ℕ)) (left : ℕ) → IsGreedyRun T P a b budget found left → IfSome found (λ L. length L ≤ length P + budget)
  run_fits None left run = tt
  run_fits (Some L) left run =
      let (j, low, after, shows) = first_shown-some T a b run.wanted P budget L (sym run.is) in
      omega (arith, low, ap (λ (Q : List ℕ). length Q) after, after_steps-length T a b run.wanted P j)
