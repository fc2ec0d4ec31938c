-- What was read of a line, as the row that the line is.
use Rattle.std.proofs.Common.{◌≡◌, ℕ, Bool, true, false, cond, List, None, unwrap_or, IsUtf8, refl, sym, ap, ◌∙◌}
use Rattle.std.proofs.lemmas.Str.{IsUtf8-from_is_utf8, is_utf8-from_IsUtf8}
use Rattle.std.specs.Str.{is_utf8}
use Rattle.serde_json.specs.Data.{Data, null}
use Rattle.serde_json.specs.Read.{read}
use Rattle.race_parts.specs.Accesses.{event_in, location_in, rank_of, size_of}
use Rattle.race_parts.specs.Said.{Said, fact_said, known_said, said_by, said_in}
use Rattle.race_parts.specs.Facts.{IsKnown, Says, data_in}
use Rattle.race_parts.specs.Lines.{Tells}
use Rattle.race_parts.specs.declared.facts.Fact.{Fact}
use Rattle.race_parts.specs.declared.facts.Fact.TheVariants.{Known as of_row, Other as of_value}
use Rattle.race_parts.specs.declared.scan.Known.{Known}

pub data_told : (line : List ℕ) (d : Data) → Tells line d → d ≡ data_in line
data_told line d told = sym (ap (λ b. unwrap_or (cond b (read line) None) null) (is_utf8-from_IsUtf8 line told.0) ∙ ap (λ o. unwrap_or o null) told.1)

none_by : (line : List ℕ) (b : Bool) → is_utf8 line ≡ b → (IsUtf8 line → read line ≡ None) → unwrap_or (cond b (read line) None) null ≡ null
none_by line true e free = ap (λ o. unwrap_or o null) (free (IsUtf8-from_is_utf8 line e))
none_by line false e free = refl

pub data_none : (line : List ℕ) → (IsUtf8 line → read line ≡ None) → null ≡ data_in line
data_none line free = sym (none_by line (is_utf8 line) refl free)

abbrev made : (part line one other : List ℕ) (rank size later earlier : ℕ) → Said
made p l a b r s y x = record { part = p; line = l; one = a; other = b; rank = r; size = s; later = y; earlier = x }

known_told : (name line : List ℕ) (k : Known) (d : Data) → IsKnown k d → fact_said name line (of_row k) ≡ said_by name line d
known_told name line k d is =
    ap (λ x. made name line x k.other.now k.rank k.size k.later k.earlier) (sym is.one)
    ∙ ap (λ x. made name line (location_in 0 d) x k.rank k.size k.later k.earlier) (sym is.other)
    ∙ ap (λ x. made name line (location_in 0 d) (location_in 1 d) x k.size k.later k.earlier) (sym is.rank)
    ∙ ap (λ x. made name line (location_in 0 d) (location_in 1 d) (rank_of d) x k.later k.earlier) (sym is.size)
    ∙ ap (λ x. made name line (location_in 0 d) (location_in 1 d) (rank_of d) (size_of d) x k.earlier) (sym is.later)
    ∙ ap (λ x. made name line (location_in 0 d) (location_in 1 d) (rank_of d) (size_of d) (event_in 1 d) x) (sym is.earlier)

says_told : (name line : List ℕ) (fact : Fact) (d : Data) → Says fact d → fact_said name line fact ≡ said_by name line d
says_told name line (of_row k) d says = known_told name line k d says
says_told name line (of_value v) d says = ap (said_by name line) says

pub fact_told : (line : List ℕ) (fact : Fact) → (d : Data) × Tells line d × Says fact d → (name : List ℕ) → fact_said name line fact ≡ said_in name line
fact_told line fact told name = says_told name line fact told.0 told.2 ∙ ap (said_by name line) (data_told line told.0 told.1)

pub fact_none : (line : List ℕ) (fact : Fact) → Says fact null → (IsUtf8 line → read line ≡ None) → (name : List ℕ) → fact_said name line fact ≡ said_in name line
fact_none line fact says free name = says_told name line fact null says ∙ ap (said_by name line) (data_none line free)

pub kept_told : (line : List ℕ) (k : Known) (d : Data) → Tells line d → IsKnown k d → (name : List ℕ) → known_said name line k ≡ said_in name line
kept_told line k d tells is name = known_told name line k d is ∙ ap (said_by name line) (data_told line d tells)
