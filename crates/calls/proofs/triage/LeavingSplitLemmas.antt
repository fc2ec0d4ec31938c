-- A cell more that stays or is left out.
use Rattle.std.proofs.Common.{◌≡◌, not, ◌&&◌, Bool, true, false, cond, List, [], ◌∷◌, ◌++◌, append_assoc, Option, Some, refl, sym, ap, ◌∙◌}
use Rattle.race_parts.specs.Texts.{is_new}
use Rattle.race_parts.specs.declared.cells.Cell.{Cell}
use Rattle.calls.specs.triage.LeavingSplitting.{is_out, leaving, staying}

module _ (test : Cell → List Cell → Bool) (before : Option Cell) (c : Cell) (cs left now next all : List Cell) where
  pub stay-more : (was out : Bool) → left ≡ c ∷ cs → out ≡ is_out test (is_new before c) was left → next ≡ now ++ cond (not out) (c ∷ []) []
      → now ++ staying test before was left ≡ all → next ++ staying test (Some c) out cs ≡ all
  stay-more was out cut is last so =
      let here : out ≡ is_out test (is_new before c) was (c ∷ cs) = is ∙ ap (is_out test (is_new before c) was) cut in
      ap (λ (xs : List Cell). xs ++ staying test (Some c) out cs) last
      ∙ append_assoc now (cond (not out) (c ∷ []) []) (staying test (Some c) out cs)
      ∙ ap (λ (o : Bool). now ++ (cond (not o) (c ∷ []) [] ++ staying test (Some c) o cs)) here
      ∙ ap (λ (xs : List Cell). now ++ staying test before was xs) (sym cut)
      ∙ so

  pub gone-more : (gone : Bool) → left ≡ c ∷ cs → gone ≡ (is_new before c && test c (c ∷ cs)) → next ≡ now ++ cond gone (c ∷ []) []
      → now ++ leaving test before left ≡ all → next ++ leaving test (Some c) cs ≡ all
  gone-more gone cut is last so =
      ap (λ (xs : List Cell). xs ++ leaving test (Some c) cs) last
      ∙ append_assoc now (cond gone (c ∷ []) []) (leaving test (Some c) cs)
      ∙ ap (λ (o : Bool). now ++ (cond o (c ∷ []) [] ++ leaving test (Some c) cs)) is
      ∙ ap (λ (xs : List Cell). now ++ leaving test before xs) (sym cut)
      ∙ so

-- what is left out at the first of its locations is what the test leaves out
pub out_first : (test : Cell → List Cell → Bool) (was : Bool) (c : Cell) (cs left : List Cell) → left ≡ c ∷ cs → is_out test true was left ≡ test c left
out_first test was c cs left cut = ap (is_out test true was) cut ∙ ap (test c) (sym cut)

pub out_later : (test : Cell → List Cell → Bool) (was : Bool) (cs : List Cell) → is_out test false was cs ≡ was
out_later test was [] = refl
out_later test was (c ∷ cs) = refl

-- a cell that is the first of its locations, and left out
pub first_out : (test : Cell → List Cell → Bool) (first was out : Bool) (c : Cell) (cs left : List Cell) → left ≡ c ∷ cs → out ≡ is_out test first was left
    → (first && out) ≡ (first && test c (c ∷ cs))
first_out test true was out c cs left cut is = is ∙ out_first test was c cs left cut ∙ ap (test c) cut
first_out test false was out c cs left cut is = refl
