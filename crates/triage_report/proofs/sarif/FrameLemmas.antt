-- Frames of the calls of a location, one by one.
use Rattle.std.proofs.Common.{◌≡◌, ℕ, ◌-◌, ◌<◌, List, [], ◌∷◌, ◌++◌, map, Option, Some, None, append-nil, append_assoc, sym, ap, ◌∙◌}
use Rattle.serde_json.specs.Data.{Data}
use Rattle.explain_report.specs.places.Places.{before_arrow, behind_arrow, calls_in}
use Rattle.triage_report.proofs.lines.CallLemmas.{calls_in-none, calls_in-some}
use Rattle.triage_report.specs.sarif.Stacks.{call_frame}
use Rattle.triage_report.specs.declared.folder.Folder.{Folder}

module _ (root : Folder) where
  -- a call more
  pub frames-more : (n m : ℕ) (out new : List Data) (text call : List ℕ) (more : Option (List ℕ)) → 0 < n → m ≡ n - 1 → new ≡ out ++ call_frame root call ∷ [] → call ≡ before_arrow text → more ≡ behind_arrow text
      → new ++ map (call_frame root) (calls_in m more) ≡ out ++ map (call_frame root) (calls_in n (Some text))
  frames-more n m out new text call more some less made is rest =
      let whole : new ++ map (call_frame root) (calls_in m more) ≡ (out ++ call_frame root (before_arrow text) ∷ []) ++ map (call_frame root) (calls_in (n - 1) (behind_arrow text)) = cc in
      whole
      ∙ append_assoc out (call_frame root (before_arrow text) ∷ []) (map (call_frame root) (calls_in (n - 1) (behind_arrow text)))
      ∙ ap (λ (calls : List (List ℕ)). out ++ map (call_frame root) calls) (sym (calls_in-some n text some))

  -- no call more
  pub frames-end : (n : ℕ) (out : List Data) → out ++ map (call_frame root) (calls_in n None) ≡ out
  frames-end n out = ap (λ (calls : List (List ℕ)). out ++ map (call_frame root) calls) (calls_in-none n) ∙ append-nil out

  -- as many as are read
  pub frames-full : (out : List Data) (text : Option (List ℕ)) → out ++ map (call_frame root) (calls_in 0 text) ≡ out
  frames-full out text = append-nil out
