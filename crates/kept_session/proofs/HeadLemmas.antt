-- What stands behind a head.
use Rattle.std.specs.Cmp.Lexicographic.{bytes_decides}
use Rattle.std.proofs.Common.{◌≡◌, ℕ, List, ◌++◌, ◌<◌, Option, Some, None, subst, true, false, true≢false, eqb, codes, length, take, drop, sym, ap, ◌∙◌, append_assoc, arith}
use Rattle.std.proofs.lemmas.List.{length-take-le, take-append-drop, take_at}
use Rattle.std.specs.List.{list_all, starts_with}
use Rattle.std.specs.Option.{IfSome}
use Rattle.memchr.specs.Find.{IsFirstByte, is_byte}
use Rattle.kept_log.proofs.LineLemmas.{first_line}
use Rattle.kept_session.specs.Heads.{is_digest_digit, IsHeaded}

pub headed : (bytes line : List ℕ) → starts_with eqb bytes (codes "racebench log 1 ") ≡ true → line ≡ drop 16 bytes → IsFirstByte (is_byte 10) line (Some 64)
    → list_all is_digest_digit (take 64 line) ≡ true → IsHeaded bytes (drop 65 line)
headed bytes line begins is first are_digits =
    let parts = first_line line 64 first in
    let within : 64 < length line = first.0.high in
    let digest : List ℕ = take 64 line in
    let text : List ℕ = drop 65 line in
    let cut : line ≡ digest ++ codes "\n" ++ text = sym (take-append-drop 65 line) ∙ ap (λ (t : List ℕ). t ++ text) parts.1 in
    let front : take 16 bytes ≡ codes "racebench log 1 " = sym ((bytes_decides (codes "racebench log 1 ") (take 16 bytes)).0 begins) in
    record {
      digest = digest;
      size = length-take-le 64 line (omega (arith, within));
      line = parts.0;
      digits = are_digits;
      split =
          sym (take-append-drop 16 bytes)
          ∙ ap (λ (t : List ℕ). t ++ drop 16 bytes) front
          ∙ ap (λ (t : List ℕ). codes "racebench log 1 " ++ t) (sym is ∙ cut)
          ∙ sym (append_assoc (codes "racebench log 1 ") (digest ++ codes "\n") text)
          ∙ ap (λ (t : List ℕ). t ++ text) (sym (append_assoc (codes "racebench log 1 ") digest (codes "\n")));
    }

-- bytes that have something else than a digit in the digest's place have no head
pub digitless : (bytes line text : List ℕ) → line ≡ drop 16 bytes → list_all is_digest_digit (take 64 line) ≡ false → ¬ IsHeaded bytes text
digitless bytes line text is none head =
    let behind : drop 16 bytes ≡ head.digest ++ codes "\n" ++ text = ap (λ (t : List ℕ). drop 16 t) head.split in
    let same : take 64 line ≡ head.digest = ap (λ (t : List ℕ). take 64 t) (is ∙ behind ∙ append_assoc head.digest (codes "\n") text) ∙ take_at head.digest (codes "\n" ++ text) 64 head.size in
    true≢false (sym head.digits ∙ ap (list_all is_digest_digit) (sym same) ∙ none)

-- what was read does not begin as a log, so neither does what was there to be read
pub headless : (rest : Option (List ℕ)) (read bytes : List ℕ) → IfSome rest (λ told. read ≡ told) → bytes ≡ read → ((text : List ℕ) → ¬ IsHeaded bytes text) → IfSome rest (λ told. (text : List ℕ) → ¬ IsHeaded told text)
headless None read bytes told is none = tt
headless (Some all) read bytes told is none = subst (λ (b : List ℕ). (text : List ℕ) → ¬ IsHeaded b text) (is ∙ told) none
