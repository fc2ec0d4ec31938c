-- The head of a log's file. The format is this project's own; the digest is SHA-256 of FIPS 180-4.
use Rattle.std.specs.Prelude.{◌≡◌, ℕ, List, ◌++◌, Option, IfSome, Bool, true, ◌&&◌, ◌||◌, nat_le, codes, flat_map, length}
use Rattle.std.specs.List.{list_all}
use Rattle.std.specs.Io.KnownBytes.{Appends}
use Rattle.rapid_text.specs.Recording.{Recording}
use Rattle.rapid_text.specs.Canonical.{canonical_text}
use Rattle.sha2.specs.Sha256.{sha256}
use Rattle.client_scripts.specs.Joint.{ended}
use Rattle.client_scripts.specs.Replay.{AppendsPart, IsUnreadable}
use Rattle.client_scripts.specs.declared.fault.ReadCause.TheVariants.{TooLong}
use Rattle.kept_log.specs.Lines.{IsLine, kept_lines}
use Rattle.hex.specs.Hex.{encode_lower}

-- the name of the format, and the digest of the trace's canonical text
abbrev pub head_text : Recording → List ℕ
head_text trace = codes "racebench log 1 " ++ encode_lower (sha256 (canonical_text trace)) ++ codes "\n"

-- whether the byte is a digit of a digest: from `0` to `9`, or from `a` to `f`
abbrev pub is_digest_digit : ℕ → Bool
is_digest_digit c = (nat_le 48 c && nat_le c 57) || (nat_le 97 c && nat_le c 102)

-- The bytes begin like the file of a log: with the name of the format, the 64 digits of a digest, and a line feed.
-- `text` is what comes after that.
pub record IsHeaded (bytes text : List ℕ) : Type 0 where
  pub digest : List ℕ
  pub size : length digest ≡ 64
  pub line : IsLine digest
  pub digits : list_all is_digest_digit digest ≡ true
  pub split : bytes ≡ codes "racebench log 1 " ++ digest ++ codes "\n" ++ text

-- the bytes do not begin like the file of a log
abbrev pub IsHeadless : List ℕ → Type 0
IsHeadless bytes = (text : List ℕ) → ¬ IsHeaded bytes text

-- the lines that count in the text after the head, as a script
abbrev pub script_in : List ℕ → List ℕ
script_in text = flat_map ended (kept_lines text)

-- the script of a log was written; of the log the bytes of its reader are known, if the reader shows them
abbrev pub PrintsLog : (log old new : Option (List ℕ)) → Type 0
PrintsLog log old new = IfSome log (λ bytes. (text : List ℕ) × IsHeaded bytes text × Appends old new (script_in text))

-- the same of a beginning of the script
abbrev pub PrintsPart : (log old new : Option (List ℕ)) → Type 0
PrintsPart log old new = IfSome log (λ bytes. (text : List ℕ) × IsHeaded bytes text × AppendsPart old new (script_in text))

-- the bytes are more than an input may have
abbrev pub IsOverlong : List ℕ → Type 0
IsOverlong bytes = IsUnreadable bytes TooLong
