-- A proposal is refused, and put on the board, exactly where its law says.
use Rattle.std.proofs.Common.{◌≡◌, ◌↔◌, inl, inr, ℕ, true, ◌&&◌, List, Option, Some, None, Result, Ok, Err, length, refl, sym, ap, ◌∙◌, subst}
use Rattle.std.proofs.lemmas.Bool.{cases_Bool, and_from, lt-ltb, false≢true}
use Rattle.rapid_text.specs.Recording.{Recording}
use Rattle.trace_rules.specs.Rules.{IsDisciplined}
use Rattle.event_index.specs.Relations.{is_conflict}
use Rattle.event_index.proofs.CallerLemmas.{Decides-is_conflict}
use Rattle.schedule.specs.Faults.{first_fault, IsFirstFault}
use Rattle.schedule.specs.Reordering.{IsCorrectReordering}
use Rattle.schedule.specs.Shows.{Shows, does_show, is_ready}
use Rattle.schedule.proofs.CallerLemmas.{first_fault-none, first_fault-some, IsFirstFault-not, IsFirstFault-unique, is_ready-ready}
use Rattle.inverse_log.specs.declared.entry.Entry.{Entry}
use Rattle.inverse_log.specs.declared.call.Call.TheVariants.{Propose}
use Rattle.inverse_log.specs.declared.refusal.Refusal.{Refusal}
use Rattle.inverse_log.specs.declared.refusal.Refusal.TheVariants.{NotReordering, NotShown}
use Rattle.inverse_log.specs.declared.reply.Reply.{Reply}
use Rattle.inverse_log.specs.declared.reply.Reply.TheVariants.{Proposed as ProposedAs}
use Rattle.inverse_log.specs.Answer.{answer_of, proposed_or}
use Rattle.inverse_log.specs.Headline.{ProposalsAreJudgedExactly}
use Rattle.inverse_log.specs.Log.{board_of}
use Rattle.inverse_log.proofs.SoundLemmas.{shown}

-- a correct reordering that shows the pair passes the test
tells : (T : Recording) (P : List ℕ) (a b : ℕ) → IsCorrectReordering T.events P → Shows T.events P a b → does_show T.events P a b ≡ true
tells T P a b is s =
    let first : is_ready T.events P a ≡ true = is_ready-ready T.events P a is s.first in
    let second : is_ready T.events P b ≡ true = is_ready-ready T.events P b is s.second in
    and_from (is_conflict T.events a b) (is_ready T.events P a && is_ready T.events P b) ((Decides-is_conflict T.events a b).1 s.conflict) (and_from (is_ready T.events P a) (is_ready T.events P b) first second)

module _ (T : Recording) (L : List Entry) (a b : ℕ) (P : List ℕ) where
  -- what the law says of one answer
  abbrev Judged : Result Reply Refusal → Type 0
  Judged r =
      ((p : ℕ) → (r ≡ Err (NotReordering p)) ↔ IsFirstFault T.events P p)
      × ((r ≡ Err NotShown) ↔ (IsCorrectReordering T.events P × ¬ Shows T.events P a b))
      × ((r ≡ Ok (ProposedAs (length L) (length (board_of T L)))) ↔ (IsCorrectReordering T.events P × Shows T.events P a b))

  faulty : (p : ℕ) → IsFirstFault T.events P p → Judged (Err (NotReordering p))
  faulty p fault =
      let never : ¬ IsCorrectReordering T.events P = IsFirstFault-not T.events P p fault in (
        λ q. (λ h. let same : p ≡ q = cc in subst (IsFirstFault T.events P) same fault, λ other. ap (λ i. Err (NotReordering i)) (IsFirstFault-unique T.events P p q fault other)),
        (λ h. absurd cc, λ h. absurd (never h.0)),
        (λ h. absurd cc, λ h. absurd (never h.0)),
      )

  unshown : IsCorrectReordering T.events P → ¬ Shows T.events P a b → Judged (Err NotShown)
  unshown is none = (
    λ q. (λ h. absurd cc, λ fault. absurd (IsFirstFault-not T.events P q fault is)),
    (λ h. (is, none), λ h. refl),
    (λ h. absurd cc, λ h. absurd (none h.1)),
  )

  put : IsCorrectReordering T.events P → Shows T.events P a b → Judged (Ok (ProposedAs (length L) (length (board_of T L))))
  put is shows = (
    λ q. (λ h. absurd cc, λ fault. absurd (IsFirstFault-not T.events P q fault is)),
    (λ h. absurd cc, λ h. absurd (h.1 shows)),
    (λ h. (is, shows), λ h. refl),
  )

  judged : IsDisciplined T.events → (o : Option ℕ) → first_fault T.events P ≡ o → Judged (proposed_or T L a b P o)
  judged rules (Some p) is = faulty p (first_fault-some T.events P rules p is)
  judged rules None is =
      let sound : IsCorrectReordering T.events P = first_fault-none T.events P rules is in
      elim (cases_Bool (does_show T.events P a b)) [
        | inl t ↦ rw t (put sound (shown T rules P a b sound t))
        | inr f ↦ rw f (unshown sound (λ shows. false≢true (sym f ∙ tells T P a b sound shows)))
      ]

pub judged_law : ProposalsAreJudgedExactly
judged_law T L c a b P rules room =
    let answer : answer_of T L c (Propose a b P) ≡ proposed_or T L a b P (first_fault T.events P) = rw (lt-ltb (length L) 1000000 room) refl in
    subst (Judged T L a b P) (sym answer) (judged T L a b P rules (first_fault T.events P) refl)
