-- The numbers of events in a line, one after the other.
use Rattle.std.proofs.Common.{◌≡◌, ℕ, List, [], ◌∷◌, ◌++◌, take, drop, IfSome, Option, Some, None, refl, sym, ap, ap₂, ◌∙◌, subst}
use Rattle.std.proofs.lemmas.List.{append_assoc, take-append-drop}
use Rattle.memchr.specs.Find.{FindsNeedle}
use Rattle.window.specs.Moving.{IsMarked, IsMoved, Marked, event_mark, moved_digits}

-- a line without numbers of events
pub moved_none : (n k : ℕ) (text : List ℕ) → FindsNeedle text event_mark 0 None → IsMoved n k text text
moved_none n k text none = record { numbers = []; last = text; all = none; line_is = refl; moved_is = refl }

-- a line that begins with one
pub moved_more : (n k : ℕ) (text : List ℕ) (m : Marked) (rest moved : List ℕ) → IsMarked m rest → text ≡ m.front ++ (m.digits ++ rest) → IsMoved n k rest moved
    → IsMoved n k text ((m.front ++ moved_digits n k m.digits) ++ moved)
moved_more n k text m rest moved marked is later = record {
  numbers = m ∷ later.numbers;
  last = later.last;
  all = (subst (IsMarked m) later.line_is marked, later.all);
  line_is = is ∙ ap (λ (t : List ℕ). m.front ++ (m.digits ++ t)) later.line_is;
  moved_is =
      append_assoc m.front (moved_digits n k m.digits) moved
      ∙ ap (λ (t : List ℕ). m.front ++ (moved_digits n k m.digits ++ t)) later.moved_is;
}

-- a text that is cut at two places
pub split_twice : (text front behind digits rest : List ℕ) (i j : ℕ) → front ≡ take i text → behind ≡ drop i text → digits ≡ take j behind → rest ≡ drop j behind
    → text ≡ front ++ (digits ++ rest)
split_twice text front behind digits rest i j front_is behind_is digits_is rest_is =
    sym (take-append-drop i text)
    ∙ ap₂ (λ (a b : List ℕ). a ++ b) (sym front_is)
    (sym behind_is ∙ sym (take-append-drop j behind) ∙ ap₂ (λ (a b : List ℕ). a ++ b) (sym digits_is) (sym rest_is))

-- what is written is one piece more
pub written_more : (start written now next piece : List ℕ) → now ≡ start ++ written → next ≡ now ++ piece → next ≡ start ++ (written ++ piece)
written_more start written now next piece was is =
    is ∙ ap (λ (t : List ℕ). t ++ piece) was ∙ append_assoc start written piece

pub some_of : {X : Type 0} (P : X → Type 0) (o : Option X) (x : X) → o ≡ Some x → IfSome o P → P x
some_of {X = X} P o x is h = subst (λ (q : Option X). IfSome q P) is h
