-- What is put into a result.
use Rattle.std.proofs.Common.{◌≡◌, ℕ, List, ap, ◌∙◌}
use Rattle.serde_json.specs.Data.{Members}
use Rattle.triage_report.specs.sarif.Accesses.{Told, access_told}
use Rattle.triage_report.specs.sarif.Results.{found_members}
use Rattle.triage_report.specs.declared.sarif.accesses.Access.{Access}
use Rattle.triage_report.specs.declared.sarif.sources.Sources.{Sources}

-- the members of what was found, by parts that are these
pub found-same :
    (s : Sources) (rank rank' : ℕ) (words words' : List ℕ) (t t' u u' : Told) (ms ns : Members) → rank ≡ rank' → words ≡ words' → t ≡ t' → u ≡ u' → ms ≡ ns
    → found_members s rank words t u ms ≡ found_members s rank' words' t' u' ns
found-same s rank rank' words words' t t' u u' ms ns one two three four five =
    ap (λ (n : ℕ). found_members s n words t u ms) one
    ∙ ap (λ (ws : List ℕ). found_members s rank' ws t u ms) two
    ∙ ap (λ (x : Told). found_members s rank' words' x u ms) three
    ∙ ap (λ (x : Told). found_members s rank' words' t' x ms) four
    ∙ ap (λ (xs : Members). found_members s rank' words' t' u' xs) five

abbrev pub told_of : List ℕ → List ℕ → List ℕ → List ℕ → Told
told_of x y z w = record {
  thread = x;
  verb = y;
  variable = z;
  location = w;
}

-- an access whose names are these
pub told-same : (a : Access) (x y z w : List ℕ) → a.thread.now ≡ x → a.verb.now ≡ y → a.variable.now ≡ z → a.location.now ≡ w → access_told a ≡ told_of x y z w
told-same a x y z w one two three four =
    ap (λ (i : List ℕ). told_of i a.verb.now a.variable.now a.location.now) one
    ∙ ap (λ (i : List ℕ). told_of x i a.variable.now a.location.now) two
    ∙ ap (λ (i : List ℕ). told_of x y i a.location.now) three
    ∙ ap (λ (i : List ℕ). told_of x y z i) four
