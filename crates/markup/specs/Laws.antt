-- What escaped text is for a reader of markup.
use Rattle.std.specs.Prelude.{◌≡◌, ℕ, true, false, List, [], ◌∷◌, ◌++◌, All}
use Rattle.std.specs.Str.{chars, IsUtf8}
use Rattle.markup.specs.Escaped.{escaped, entity_of, is_allowed, is_special}

-- Markup m has only text, and a reader sees the text t: a byte without a meaning as itself, an entity as its byte. So
-- m has the five characters only in entities.
pub data ReadsAs : List ℕ → List ℕ → Type 0 where
  end : ReadsAs [] []
  byte : (b : ℕ) (m t : List ℕ) → is_special b ≡ false → ReadsAs m t → ReadsAs (b ∷ m) (b ∷ t)
  entity : (b : ℕ) (m t : List ℕ) → is_special b ≡ true → ReadsAs m t → ReadsAs (entity_of b ++ m) (b ∷ t)

-- all bytes become text alone
abbrev pub EscapedIsText : Type 0
EscapedIsText = (bytes : List ℕ) → (t : List ℕ) × ReadsAs (escaped bytes) t

-- a text without replaced characters is read back unchanged
abbrev pub EscapedReadsBack : Type 0
EscapedReadsBack = (bytes : List ℕ) → IsUtf8 bytes → All (λ c. is_allowed c ≡ true) (chars bytes) → ReadsAs (escaped bytes) bytes
