-- Pieces that are appended one after another are appended as one.
use Rattle.std.proofs.Common.{◌≡◌, ℕ, ◌<◌, List, [], ◌∷◌, ◌++◌, length, get_or, append_assoc, codes, Some, ap, ◌∙◌, arith}
use Rattle.std.specs.List.{slice_get}
use Rattle.rapid_text.specs.Recording.{Recording}
use Rattle.rapid_text.specs.declared.event.Event.{Event}
use Rattle.std.proofs.lemmas.Option.{slice_get-get_or}
use Rattle.race_triage.specs.Pieces.{event_words_at}
use Rattle.race_triage.specs.Texts.{access_by, access_text, held_locks, lock_lines}

module _ (old first second x y z : List ℕ) (e1 : first ≡ old ++ x) (e2 : second ≡ first ++ y) where
  pub four_pieces : (third new v : List ℕ) → third ≡ second ++ z → new ≡ third ++ v → new ≡ old ++ (x ++ y ++ z ++ v)
  four_pieces third new v e3 e4 =
      let whole : new ≡ (old ++ x ++ y ++ z ++ v) = cc in
      whole ∙ simp append_assoc

  pub five_pieces : (third fourth new v w : List ℕ) → third ≡ second ++ z → fourth ≡ third ++ v → new ≡ fourth ++ w → new ≡ old ++ (x ++ y ++ z ++ v ++ w)
  five_pieces third fourth new v w e3 e4 e5 =
      let whole : new ≡ (old ++ x ++ y ++ z ++ v ++ w) = cc in
      whole ∙ simp append_assoc

there : (es : List Event) (e : ℕ) → e < length es → (v : Event) × (slice_get es e ≡ Some v)
there [] e lt = absurd (omega arith)
there (x ∷ xs) e lt = (get_or (x ∷ xs) e x, slice_get-get_or (x ∷ xs) e x lt)

-- the line of an event that is there, and what stands below it
pub access_text-there : (r : Recording) (e : ℕ) → e < length r.events → access_text r e ≡ codes "  " ++ event_words_at r e ++ codes "\n" ++ lock_lines r (held_locks r e)
access_text-there r e lt = let found = there r.events e lt in ap (access_by r e) found.1
