-- Escaped text is text alone, and is read as it was.
use Rattle.std.proofs.Common.{◌≡◌, ℕ, ◌+◌, ◌/◌, ◌<◌, ◌≤◌, ◌==◌, ◌||◌, Bool, true, false, List, [], ◌∷◌, ◌++◌, All, flat_map, refl, sym, subst, arith, inl, inr}
use Rattle.std.proofs.lemmas.Bool.{cases_Bool}
use Rattle.std.proofs.lemmas.List.Elements.{All-head, All-tail}
use Rattle.std.proofs.lemmas.Str.{encode_ascii, encodes-chars, utf8_lossy-IsUtf8}
use Rattle.std.proofs.Math.Utf8.{encode, encodes, next}
use Rattle.std.proofs.Math.Dec.{ltb}
use Rattle.std.specs.Bool.{⊤}
use Rattle.std.specs.Str.{chars, IsUtf8}
use Rattle.std.specs.Str.Lossy.{utf8_lossy}
use Rattle.markup.specs.Escaped.{escaped, escaped_char, allowed_char, entity_of, is_allowed, is_special}
use Rattle.markup.specs.Laws.{ReadsAs}

-- the five characters are ASCII
special_ascii : (c : ℕ) → is_special c ≡ true → c < 128
special_ascii c special = grind (arith)

not_special : (b : ℕ) → 128 ≤ b → is_special b ≡ false
not_special b high = grind (arith)

above : (k x : ℕ) → is_special (128 + k + x) ≡ false
above k x = not_special (128 + k + x) (omega arith)

follows : (x : ℕ) → is_special (next x) ≡ false
follows x = not_special (next x) (omega arith)

-- none of these bytes means something in markup
abbrev ArePlain : List ℕ → Type 0
ArePlain [] = ⊤
ArePlain (b ∷ bs) = (is_special b ≡ false) × ArePlain bs

-- no byte of a character that means nothing in markup does
encode_plain : (c : ℕ) → is_special c ≡ false → ArePlain (encode c)
unfolding encode
encode_plain c plain =
    elim (cases_Bool (ltb c 128)) [
      | inl y ↦ rw y (plain, tt)
      | inr n ↦ rw n
          (elim (cases_Bool (ltb c 2048)) [
            | inl y ↦ rw y (above 64 (c / 64), (follows c, tt))
            | inr n2 ↦ rw n2
                (elim (cases_Bool (ltb c 65536)) [
                  | inl y ↦ rw y (above 96 (c / 4096), (follows (c / 64), (follows c, tt)))
                  | inr n3 ↦ rw n3 (above 112 (c / 262144), (follows (c / 4096), (follows (c / 64), (follows c, tt))))
                ])
          ])
    ]

reads_bytes : (xs m t : List ℕ) → ArePlain xs → ReadsAs m t → ReadsAs (xs ++ m) (xs ++ t)
reads_bytes [] m t all reads = reads
reads_bytes (b ∷ xs) m t all reads = ReadsAs.byte b (xs ++ m) (xs ++ t) all.0 (reads_bytes xs m t all.1 reads)

-- a character that may stand in a text is read as itself
reads_char : (c : ℕ) (m t : List ℕ) → is_allowed c ≡ true → ReadsAs m t → ReadsAs (escaped_char c ++ m) (encode c ++ t)
reads_char c m t allowed reads =
    elim (cases_Bool (is_special c)) [
      | inl special ↦ rw special (rw (encode_ascii c (special_ascii c special)) (ReadsAs.entity c m t special reads))
      | inr plain ↦ rw plain (rw allowed (reads_bytes (encode c) m t (encode_plain c plain) reads))
    ]

-- and any character as some text
reads_any : (c : ℕ) (m t : List ℕ) → ReadsAs m t → (u : List ℕ) × ReadsAs (escaped_char c ++ m) u
reads_any c m t reads =
    elim (cases_Bool (is_special c)) [
      | inl special ↦ (c ∷ t, rw special (ReadsAs.entity c m t special reads))
      | inr plain ↦
          elim (cases_Bool (is_allowed c)) [
            | inl allowed ↦ (encode c ++ t, reads_char c m t allowed reads)
            | inr not_so ↦ (encode 0xFFFD ++ t, rw plain (rw not_so (reads_bytes (encode 0xFFFD) m t (encode_plain 0xFFFD refl) reads)))
          ]
    ]

any_text : (cs : List ℕ) → (t : List ℕ) × ReadsAs (flat_map escaped_char cs) t
any_text [] = ([], ReadsAs.end)
any_text (c ∷ cs) =
    let rest = any_text cs in
    reads_any c (flat_map escaped_char cs) rest.0 rest.1

same_text : (cs : List ℕ) → All (λ c. is_allowed c ≡ true) cs → ReadsAs (flat_map escaped_char cs) (encodes cs)
same_text [] all = ReadsAs.end
same_text (c ∷ cs) all =
    reads_char c (flat_map escaped_char cs) (encodes cs) (All-head (λ c. is_allowed c ≡ true) c cs all) (same_text cs (All-tail (λ c. is_allowed c ≡ true) c cs all))

pub escaped_is_text : (bytes : List ℕ) → (t : List ℕ) × ReadsAs (escaped bytes) t
escaped_is_text bytes = any_text (chars (utf8_lossy bytes))

pub escaped_reads_back : (bytes : List ℕ) → IsUtf8 bytes → All (λ c. is_allowed c ≡ true) (chars bytes) → ReadsAs (escaped bytes) bytes
escaped_reads_back bytes utf8 allowed =
    rw (utf8_lossy-IsUtf8 bytes utf8)
    (subst (λ (t : List ℕ). ReadsAs (flat_map escaped_char (chars bytes)) t) (encodes-chars bytes utf8) (same_text (chars bytes) allowed))
