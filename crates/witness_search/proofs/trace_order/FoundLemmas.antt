-- What a search by counts finds.
use Rattle.std.proofs.Common.{◌≡◌, ℕ, ◌+◌, ◌<◌, ◌≤◌, List, length, get_or, Option, Some, None, sym, ap, ◌∙◌, arith, inl}
use Rattle.std.proofs.lemmas.List.FromFn.{length-map-range_with_len}
use Rattle.std.proofs.lemmas.Option.{none-some, slice_get-get_or}
use Rattle.rapid_text.specs.Recording.{Recording, IsWellFormed}
use Rattle.rapid_text.specs.declared.event.Event.{Event}
use Rattle.trace_rules.specs.Rules.{IsDisciplined}
use Rattle.event_index.specs.Lookups.{events_of}
use Rattle.event_index.proofs.CallerLemmas.{one_thread, place_of-events_of}
use Rattle.shb_clocks.proofs.ReadLemmas.{thread_named}
use Rattle.witness_search.specs.Searches.{TellWanted, marked_events}
use Rattle.witness_search.proofs.RisingLemmas.{rising-unique}
use Rattle.witness_search.proofs.StepLemmas.{AreWanted-marked, Shows-does_show, first_shown-some}
use Rattle.witness_search.specs.Wanted.{AreWanted}
use Rattle.witness_search.specs.trace_order.Aims.{IsAim, IsMissedFrom, IsRunOfSize}
use Rattle.witness_search.specs.trace_order.Counting.{counts, counted_events, marks_of, IsAt}
use Rattle.witness_search.specs.trace_order.Layout.{IsListLength, IsThreadCount}
use Rattle.witness_search.specs.trace_order.Sizes.{HasSize, HasThread}
use Rattle.witness_search.specs.trace_order.Standing.{found_within, LeavesSteps}
use Rattle.witness_search.specs.declared.trace_order.enabling.Aim.{Aim}
use Rattle.witness_search.proofs.trace_order.HoldLemmas.{Contains-counted, IsCounted-member}
use Rattle.witness_search.proofs.trace_order.StandLemmas.{counted-counts, counts-counted, is_marked-counts}

-- a row has one length
pub IsListLength-one : (T : List Event) (row : ℕ → ℕ) (m n : ℕ) → IsListLength T row m → IsListLength T row n → m ≡ n
IsListLength-one T row m n (K, are, long) (L, also, wide) =
    let one : K ≡ L =
    rising-unique K L are.rising also.rising (λ d m. (also.members d).1 ((are.members d).0 m)) (λ d m. (are.members d).1 ((also.members d).0 m)) in
    omega (arith, long, wide, ap length one)

-- the size of the list at which a search stands
module _ (r : Recording) (well : IsWellFormed r) (start row : ℕ → ℕ) (last : ℕ → Option (Option ℕ)) (P : List ℕ) (at : IsAt r.events start row last P) where
  abbrev T : List Event
  T = r.events

  thread_counted : (t : ℕ) → 0 < row t → HasThread T P t
  thread_counted t some =
      let e : ℕ = get_or (events_of T t) 0 0 in
      let first = place_of-events_of T t 0 e (slice_get-get_or (events_of T t) 0 0 (omega (arith, some, at.within t))) in
      (e, Contains-counted T row P at.correct at.counts e (t, first.1, omega (arith, first.2, some)), first.1)

  counted_named : (t : ℕ) → HasThread T P t → (t < length r.threads) × (0 < row t)
  counted_named t (e, m, of) =
      let counted = IsCounted-member T row P at.correct at.counts e t of m in
      let same_thread : counted.0 ≡ t = one_thread T e counted.0 t counted.1 of in
      (thread_named r well e t of, omega (arith, counted.2, ap row same_thread))

  pub HasSize-at : (n k : ℕ) → IsListLength T row n → IsThreadCount row (length r.threads) k → HasSize T P n k
  HasSize-at n k long (ts, threads, few) = record {
    events = IsListLength-one T row (length P) n at.size long;
    threads = ts;
    are = record {
      rising = threads.rising;
      members = λ t. (λ m. thread_counted t ((threads.members t).0 m).1, λ has. (threads.members t).1 (counted_named t has));
    };
    count = few;
  }

-- how the search ends, by what it starts from
module _ (r : Recording) (rules : IsDisciplined r.events) (aim : Aim) (is : IsAim r aim) (budget : ℕ) where
  abbrev from : ℕ → ℕ
  from t = get_or aim.start.items t 0

  abbrev to : ℕ → ℕ
  to t = get_or aim.wanted.items t 0

  abbrev N : List ℕ
  N = marked_events r.events (marks_of r.events to)

  TellWanted-row : TellWanted r.events aim.first aim.second (marks_of r.events to)
  TellWanted-row = record {
    len = length-map-range_with_len (counts r.events to) 0 (length r.events);
    marked = λ e. (
      λ h. (is.wants e).0 (counts-counted r.events to e (sym (is_marked-counts r.events to e) ∙ h)),
      λ wanted. is_marked-counts r.events to e ∙ counted-counts r.events to e ((is.wants e).1 wanted),
    );
  }

  are_wanted : AreWanted r.events aim.first aim.second N
  are_wanted = AreWanted-marked r.events rules aim.first aim.second (marks_of r.events to) TellWanted-row

  pub aim_missed : (left : ℕ) → found_within r aim budget ≡ None → LeavesSteps r aim budget left → IsMissedFrom r aim budget left
  aim_missed left none steps = record { wanted = N; are_wanted = are_wanted; is = sym none; steps = λ _. steps }

  module _ (well : IsWellFormed r) (row : List ℕ) (last : ℕ → Option (Option ℕ))
      (found : (P : List ℕ) × IsAt r.events from (λ t. get_or row t 0) last P × (found_within r aim budget ≡ Some P)) where
    pub aim_within : (t : ℕ) → get_or row t 0 ≤ length (events_of r.events t)
    aim_within = found.1.within

    pub aim_some : (n k : ℕ) → IsListLength r.events (λ t. get_or row t 0) n → IsThreadCount (λ t. get_or row t 0) (length r.threads) k → IsRunOfSize r aim budget (n, k)
    aim_some n k long few =
        let P : List ℕ = found.0 in
        let (j, low, after, shows) = first_shown-some r.events aim.first aim.second N (counted_events r.events from) budget P found.2 in
        record {
          list = P;
          run = record { wanted = N; are_wanted = are_wanted; is = sym found.2; steps = λ none. absurd (none-some P (sym none)) };
          reordering = found.1.correct;
          shows = Shows-does_show r.events P aim.first aim.second found.1.correct shows;
          size = HasSize-at r well from (λ t. get_or row t 0) last P found.1 n k long few;
        }
