-- Calls of a location, one by one.
use Rattle.std.proofs.Common.{◌≡◌, ℕ, zero, suc, ◌-◌, ◌<◌, List, [], ◌∷◌, ◌++◌, Option, Some, None, append-nil, append_assoc, refl, sym, ap, ◌∙◌, arith}
use Rattle.explain_report.specs.places.Places.{before_arrow, behind_arrow, calls_in}
use Rattle.triage_report.specs.declared.folder.Folder.{Folder}
use Rattle.triage_report.specs.lines.Lines.{call_line, call_lines}

pub calls_in-none : (n : ℕ) → calls_in n None ≡ []
calls_in-none zero = refl
calls_in-none (suc n) = refl

pub calls_in-some : (n : ℕ) (text : List ℕ) → 0 < n → calls_in n (Some text) ≡ before_arrow text ∷ calls_in (n - 1) (behind_arrow text)
calls_in-some zero text some = absurd (omega arith)
calls_in-some (suc n) text some = let less : n ≡ suc n - 1 = omega arith in ap (λ m. before_arrow text ∷ calls_in m (behind_arrow text)) less

module _ (folder : Folder) (place : List ℕ) where
  -- a call more
  pub call_lines-more : (n m : ℕ) (out new text call : List ℕ) (more : Option (List ℕ)) → 0 < n → m ≡ n - 1 → new ≡ out ++ call_line folder place call → call ≡ before_arrow text → more ≡ behind_arrow text
      → new ++ call_lines folder place (calls_in m more) ≡ out ++ call_lines folder place (calls_in n (Some text))
  call_lines-more n m out new text call more some less made is rest =
      let whole : new ++ call_lines folder place (calls_in m more) ≡ (out ++ call_line folder place (before_arrow text)) ++ call_lines folder place (calls_in (n - 1) (behind_arrow text)) = cc in
      whole
      ∙ append_assoc out (call_line folder place (before_arrow text)) (call_lines folder place (calls_in (n - 1) (behind_arrow text)))
      ∙ ap (λ (calls : List (List ℕ)). out ++ call_lines folder place calls) (sym (calls_in-some n text some))

  -- no call more
  pub call_lines-end : (n : ℕ) (out : List ℕ) → out ++ call_lines folder place (calls_in n None) ≡ out
  call_lines-end n out = ap (λ (calls : List (List ℕ)). out ++ call_lines folder place calls) (calls_in-none n) ∙ append-nil out

  -- as many as are read
  pub call_lines-full : (out : List ℕ) (text : Option (List ℕ)) → out ++ call_lines folder place (calls_in 0 text) ≡ out
  call_lines-full out text = append-nil out
