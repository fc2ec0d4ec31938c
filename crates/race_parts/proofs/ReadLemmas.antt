-- A row as it is printed is read as that row.
use Rattle.std.proofs.Common.{◌≡◌, ℕ, ◌≤◌, max, List, [], ◌∷◌, append-nil, Some, option_and_then, option_map, refl, sym, ap, ◌∙◌, arith}
use Rattle.std.specs.Prelude.{codes}
use Rattle.json.specs.Json.{value, if_last}
use Rattle.json.specs.Lex.{tokens}
use Rattle.json.specs.Tree.{json_tokens, depth, items_depth, HasNumbers, ItemsHaveNumbers}
use Rattle.json.proofs.Printed.Decimals.{IsNumber-decimal}
use Rattle.json.proofs.Printed.Tokens.{tokens-print}
use Rattle.json.proofs.Printed.Trees.{value-json_tokens, ArePrintable-json_tokens}
use Rattle.serde_json.specs.Data.{Data, string, array, object, item, no_items, Members, member, no_members}
use Rattle.serde_json.specs.Read.{read, max_depth, of_json, of_items, of_members}
use Rattle.serde_json.specs.Written.{compact_text, outline, items_outline, members_outline}
use Rattle.serde_json.proofs.Numbers.{number_of-decimal}
use Rattle.serde_json.proofs.Texts.{print-outline}
use Rattle.race_parts.specs.Facts.{IsKnown}
use Rattle.race_parts.specs.Printed.{strings, row_data, IsAccess, IsOutcome}
use Rattle.race_parts.specs.declared.scan.Known.{Known}

pub data_read : (d : Data) → HasNumbers (outline d) → depth (outline d) ≤ max_depth → of_json (outline d) ≡ Some d → read (compact_text d) ≡ Some d
data_read d numbers shallow same =
    let ts = json_tokens (outline d) in
    let printed : tokens (compact_text d) ≡ ts = ap tokens (sym (print-outline d)) ∙ tokens-print ts (ArePrintable-json_tokens (outline d) numbers) in
    ap (λ o. option_and_then of_json (option_and_then (λ p. if_last p.0 p.1) o))
    (ap (value max_depth) (printed ∙ sym (append-nil ts)) ∙ value-json_tokens (outline d) max_depth [] shallow)
    ∙ same

strings_numbers : (ns : List (List ℕ)) → ItemsHaveNumbers (items_outline (strings ns))
strings_numbers [] = tt
strings_numbers (n ∷ ns) = (tt, strings_numbers ns)

strings_depth : (ns : List (List ℕ)) → items_depth (items_outline (strings ns)) ≡ 0
strings_depth [] = refl
strings_depth (n ∷ ns) = ap (max 0) (strings_depth ns)

strings_read : (ns : List (List ℕ)) → of_items (items_outline (strings ns)) ≡ Some (strings ns)
strings_read [] = refl
strings_read (n ∷ ns) = ap (option_map (item (string n))) (strings_read ns)

-- what is needed of an access
record IsReadable (d : Data) : Type 0 where
  numbers : HasNumbers (outline d)
  shallow : depth (outline d) ≡ 2
  same : of_json (outline d) ≡ Some d

access_readable : {event : ℕ} {location : List ℕ} {d : Data} → IsAccess event location d → IsReadable d
access_readable (IsAccess.access event holds location operation thread variable fits) = record {
  numbers = (IsNumber-decimal event fits, (strings_numbers holds, (tt, (tt, (tt, (tt, tt))))));
  shallow = rw (strings_depth holds);
  same = rw (number_of-decimal event fits, strings_read holds);
}

abbrev both : Data → Data → Data
both one other = array (item one (item other no_items))

row_read : (one other : Data) (ms : Members) → IsReadable one → IsReadable other
    → of_members (members_outline ms) (member (codes "accesses") (both one other) no_members) ≡ Some (member (codes "accesses") (both one other) ms)
    → of_json (outline (row_data one other ms)) ≡ Some (row_data one other ms)
row_read one other ms a b rest = rw (a.same, b.same) (ap (option_map object) rest)

-- a row is read, and this is known of it
pub record IsReadRow (k : Known) (d : Data) : Type 0 where
  pub read_is : read (compact_text d) ≡ Some d
  pub known : IsKnown k d

pub row_known : (k : Known) {one other : Data} {ms : Members} → IsAccess k.earlier k.one.now one → IsAccess k.later k.other.now other → IsOutcome k.rank k.size ms
    → IsReadRow k (row_data one other ms)
row_known k (IsAccess.access e1 h1 l1 o1 t1 v1 f1) (IsAccess.access e2 h2 l2 o2 t2 v2 f2) (IsOutcome.race events how pairs threads variables word fe fp ft fv) =
    let a = access_readable (IsAccess.access e1 h1 l1 o1 t1 v1 f1) in
    let b = access_readable (IsAccess.access e2 h2 l2 o2 t2 v2 f2) in
    record {
      read_is = data_read _ ((a.numbers, (b.numbers, tt)), (IsNumber-decimal events fe, (tt, (tt, (IsNumber-decimal pairs fp, (IsNumber-decimal threads ft, (IsNumber-decimal variables fv, tt)))))))
          (rw (a.shallow, b.shallow) (omega arith))
          (row_read _ _ _ a b (rw (number_of-decimal events fe, number_of-decimal pairs fp, number_of-decimal threads ft, number_of-decimal variables fv)));
      known = record { row = rw word; race = refl; undecided = refl; apart = refl; one = refl; other = refl; rank = refl; size = refl; later = refl; earlier = refl };
    }
row_known k (IsAccess.access e1 h1 l1 o1 t1 v1 f1) (IsAccess.access e2 h2 l2 o2 t2 v2 f2) (IsOutcome.undecided pairs tried variables fp ft fv) =
    let a = access_readable (IsAccess.access e1 h1 l1 o1 t1 v1 f1) in
    let b = access_readable (IsAccess.access e2 h2 l2 o2 t2 v2 f2) in
    record {
      read_is = data_read _ ((a.numbers, (b.numbers, tt)), (tt, (IsNumber-decimal pairs fp, (IsNumber-decimal tried ft, (IsNumber-decimal variables fv, tt)))))
          (rw (a.shallow, b.shallow) (omega arith))
          (row_read _ _ _ a b (rw (number_of-decimal pairs fp, number_of-decimal tried ft, number_of-decimal variables fv)));
      known = record { row = refl; race = refl; undecided = refl; apart = refl; one = refl; other = refl; rank = refl; size = refl; later = refl; earlier = refl };
    }
row_known k (IsAccess.access e1 h1 l1 o1 t1 v1 f1) (IsAccess.access e2 h2 l2 o2 t2 v2 f2) (IsOutcome.apart pairs fp) =
    let a = access_readable (IsAccess.access e1 h1 l1 o1 t1 v1 f1) in
    let b = access_readable (IsAccess.access e2 h2 l2 o2 t2 v2 f2) in
    record {
      read_is = data_read _ ((a.numbers, (b.numbers, tt)), (tt, (IsNumber-decimal pairs fp, tt)))
          (rw (a.shallow, b.shallow) (omega arith))
          (row_read _ _ _ a b (rw (number_of-decimal pairs fp)));
      known = record { row = refl; race = refl; undecided = refl; apart = refl; one = refl; other = refl; rank = refl; size = refl; later = refl; earlier = refl };
    }
