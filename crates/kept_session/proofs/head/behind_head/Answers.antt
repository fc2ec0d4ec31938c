use Rattle.std.proofs.Common.{rules, ℕ, List, Some, ◌-◌, ◌≡◌, true, false, length, take, drop, sym, subst}
use Rattle.std.proofs.lemmas.List.{take_rest}
use Rattle.memchr.specs.Find.{IsFirstByte, is_byte}
use Rattle.std.specs.List.{list_all}
use Rattle.kept_session.specs.Heads.{is_digest_digit, IsHeaded}
use Rattle.kept_session.proofs.HeadLemmas.{headed, digitless}
use Rattle.kept_session.proofs.head.behind_head.Goals as goal

pub returns-clause-some : goal.returns-clause-some
returns-clause-some c =
    let line : List ℕ = take (length c.args.bytes.now - 16) (drop 16 c.args.bytes.now) in
    let first : IsFirstByte (is_byte 10) line (Some 64) = search rules in
    let digits : list_all is_digest_digit (take 64 line) ≡ true = search rules in
    subst (IsHeaded c.args.bytes.now) (sym (take_rest line 65)) (headed c.args.bytes.now line (sym c.if-not-starts_with.ensures.value) (take_rest c.args.bytes.now 16) first digits)

pub returns-then-not-are_digits-clause-none : goal.returns-then-not-are_digits-clause-none
returns-then-not-are_digits-clause-none c =
    let line : List ℕ = take (length c.args.bytes.now - 16) (drop 16 c.args.bytes.now) in
    let none : list_all is_digest_digit (take 64 line) ≡ false = search rules in
    λ text. digitless c.args.bytes.now line text (take_rest c.args.bytes.now 16) none
