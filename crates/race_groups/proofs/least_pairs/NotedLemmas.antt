-- Lemmas on what is noted of candidates that were taken in.
use Rattle.std.proofs.Common.{◌≡◌, ◌⊎◌, ℕ, ◌+◌, ◌<◌, ◌≤◌, List, All, Contains, Option, slice_index, length, sym, ap, ◌∙◌, subst, arith, inl, inr}
use Rattle.std.proofs.lemmas.List.Elements.{All-contains, All-weaker}
use Rattle.race_groups.specs.Groups.{is_between}
use Rattle.race_groups.specs.least_pairs.Going.{AreMore, HasCandidate}
use Rattle.race_groups.specs.least_pairs.Noted.{AreTrueNotes, IsNothing, IsTrueNote}
use Rattle.race_groups.specs.least_pairs.Taking.{HoldsUp}
use Rattle.race_groups.specs.least_pairs.Pairs.{AreAt}
use Rattle.race_groups.specs.declared.least_pairs.least.Least.{Least}
use Rattle.race_groups.specs.declared.least_pairs.leasts.Search.{Search}
use Rattle.race_groups.specs.declared.least_pairs.noted.Note.{Note}
use Rattle.race_groups.specs.declared.least_pairs.noted.Noted.{Noted}
use Rattle.race_groups.proofs.least_pairs.AlikeLemmas.{HasCandidate-more}

-- what stands no later than a pair stands before each pair with a later event behind its own
up_behind : (known : Option (ℕ × ℕ)) (a b c d : ℕ) → b < d → HoldsUp (b, a) known → HoldsUp (d, c) known
up_behind known a b c d lt h = (
  h.0,
  h.1,
  elim h.2 [ inl before ↦ inl (omega (arith, before, lt)) | inr same ↦ inl (omega (arith, same.0, lt)) ],
)

-- events of the same places lie at the same two places
at_alike : (place : ℕ → ℕ) (places : ℕ × ℕ) (a b c d : ℕ) → place c ≡ place a → place d ≡ place b → AreAt place places a b → AreAt place places c d
at_alike place places a b c d first second at =
    ap (λ n. is_between places.0 places.1 n (place d)) first ∙ ap (is_between places.0 places.1 (place a)) second ∙ at

module _ (s : Search) (x : ℕ) where
  -- a candidate that is held makes a true note
  pub note_is_true : (leasts : List Least) (a b : ℕ) (n : Note) → HasCandidate s x leasts a b
      → n.variable ≡ x → n.first ≡ slice_index s.places.now a → n.second ≡ slice_index s.places.now b → n.later ≡ b → IsTrueNote s x leasts n
  note_is_true leasts a b n h variable first second later = record {
    reached = omega (arith, variable);
    held = λ _ c d pair one other lt.
        let place = slice_index s.places.now in
        let alike : (places : ℕ × ℕ) → AreAt place places a b → AreAt place places c d = λ places. at_alike place places a b c d (one ∙ first) (other ∙ second) in (
          record {
            at = h.0.at;
            row = h.0.row;
            found = h.0.found;
            row_is = h.0.row_is;
            found_is = h.0.found_is;
            there = alike h.0.row.places h.0.there;
            holds = up_behind h.0.found.candidate a b c d (omega (arith, later, lt)) h.0.holds;
          },
          record {
            at = h.1.at;
            row = h.1.row;
            found = h.1.found;
            row_is = h.1.row_is;
            found_is = h.1.found_is;
            there = alike h.1.row.places h.1.there;
            last = h.1.last;
          },
        );
  }

  -- what is true stays true while more is found
  pub notes_more : (old new : List Least) (noted : Noted) → AreMore s.most x old new → AreTrueNotes s x old noted → AreTrueNotes s x new noted
  notes_more old new noted more =
      All-weaker (IsTrueNote s x old) (IsTrueNote s x new)
      (λ n is. record { reached = is.reached; held = λ same a b pair one other lt. HasCandidate-more s old new a b x more (is.held same a b pair one other lt) }) noted.notes.items

  -- of the next variable nothing is noted yet
  pub notes_next : (leasts : List Least) (noted : Noted) → AreTrueNotes s x leasts noted → AreTrueNotes s (x + 1) leasts noted
  notes_next leasts noted =
      All-weaker (IsTrueNote s x leasts) (IsTrueNote s (x + 1) leasts)
      (λ n is. record { reached = omega (arith, is.reached); held = λ same a b pair one other lt. absurd (omega (arith, is.reached, same)) }) noted.notes.items

  -- one more is noted
  pub notes_noted : (leasts : List Least) (n : Note) (old new : Noted) → IsTrueNote s x leasts n → AreTrueNotes s x leasts old
      → All (λ (m : Note). (m ≡ n) ⊎ Contains old.notes.items m) new.notes.items → AreTrueNotes s x leasts new
  notes_noted leasts n old new is are =
      All-weaker (λ (m : Note). (m ≡ n) ⊎ Contains old.notes.items m) (IsTrueNote s x leasts)
      (λ m either. elim either [
        | inl same ↦ subst (IsTrueNote s x leasts) (sym same) is
        | inr there ↦ All-contains (IsTrueNote s x leasts) old.notes.items m are there
      ]) new.notes.items

-- where nothing was noted, nothing is claimed
pub notes_none : (s : Search) (leasts : List Least) (noted : Noted) → length s.indexed.now.events ≤ 1048576 → All IsNothing noted.notes.items → AreTrueNotes s 0 leasts noted
notes_none s leasts noted few =
    All-weaker IsNothing (IsTrueNote s 0 leasts)
    (λ n is. record { reached = omega (arith, is.0); held = λ same a b pair one other lt. absurd (omega (arith, is.1, lt, pair.within, few)) }) noted.notes.items
