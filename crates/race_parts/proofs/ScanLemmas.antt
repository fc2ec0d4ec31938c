-- What is stripped from the front of a text, one piece after another.
use Rattle.std.proofs.Common.{◌≡◌, ℕ, ◌+◌, ◌<◌, Bool, true, List, [], ◌∷◌, ◌++◌, append_assoc, append-nil, take, drop, length, get_or, nat_eq, false, Option, Some, None, IfSome, sym, ap, ◌∙◌}
use Rattle.std.specs.Cmp.Lexicographic.{bytes_decides, pointwise}
use Rattle.std.specs.Prelude.{codes, MatchOption}
use Rattle.std.proofs.lemmas.Grind.{flat_map-append}
use Rattle.std.proofs.lemmas.List.{take-append-drop, take_more}
use Rattle.json.specs.Print.{escape, escape_byte, quoted}
use Rattle.serde_json.specs.Data.{Data, array, object, item, no_items, Members, member}
use Rattle.serde_json.specs.Read.{read}
use Rattle.serde_json.specs.Written.{comma_if, compact_text, items_text, members_text}
use Rattle.race_parts.specs.Facts.{IsKnown}
use Rattle.race_parts.specs.Printed.{strings, accesses_text, row_data, IsAccess, IsOutcome}
use Rattle.race_parts.specs.declared.scan.Known.{Known}
use Rattle.race_parts.proofs.ReadLemmas.{row_known}

pub plain_more : (bytes : List ℕ) (at : ℕ) → at < length bytes → escape (take at bytes) ≡ take at bytes → escape_byte (get_or bytes at 0) ≡ get_or bytes at 0 ∷ []
    → escape (take (at + 1) bytes) ≡ take (at + 1) bytes
plain_more bytes at inside before one =
    ap escape (take_more bytes at 0 inside) ∙ flat_map-append escape_byte (take at bytes) (get_or bytes at 0 ∷ [])
    ∙ ap (λ (xs : List ℕ). xs ++ (escape_byte (get_or bytes at 0) ++ [])) before
    ∙ ap (λ (xs : List ℕ). take at bytes ++ (xs ++ [])) one
    ∙ sym (take_more bytes at 0 inside)

pub quoted_front : (text inside plain rest behind : List ℕ) → text ≡ 34 ∷ inside → inside ≡ plain ++ rest → rest ≡ 34 ∷ behind → escape plain ≡ plain → text ≡ quoted plain ++ behind
quoted_front text inside plain rest behind first cut last same =
    first ∙ ap (λ (xs : List ℕ). 34 ∷ xs) (cut ∙ ap (λ (xs : List ℕ). plain ++ xs) last ∙ ap (λ (xs : List ℕ). xs ++ 34 ∷ behind) (sym same) ∙ sym (append_assoc (escape plain) (34 ∷ []) behind))

pub if_some-map : {A : Type 0} {P Q : A → Type 0} (o : Option A) → ((a : A) → P a → Q a) → IfSome o P → IfSome o Q
if_some-map None f h = tt
if_some-map (Some a) f h = f a h

-- what is stripped of its front
pub stripped : {A : Type 0} (now : A → List ℕ) (o : Option A) (text words : List ℕ)
    → MatchOption o (pointwise nat_eq (take (length words) text) words ≡ false)
    (λ x. (pointwise nat_eq (take (length words) text) words ≡ true) × (now x ≡ drop (length words) text) × (length (now x) + length words ≡ length text))
    → IfSome o (λ x. text ≡ words ++ now x)
stripped now None text words h = tt
stripped now (Some a) text words h =
    sym (take-append-drop (length words) text) ∙ ap (λ (xs : List ℕ). xs ++ drop (length words) text) ((bytes_decides (take (length words) text) words).0 h.0)
    ∙ ap (λ (xs : List ℕ). words ++ xs) (sym h.1)

-- a key with a value, and what stands behind them
key_front : (key : List ℕ) (d : Data) (ms : Members) (behind : List ℕ)
    → (quoted key ++ 58 ∷ []) ++ (compact_text d ++ (members_text true ms ++ behind)) ≡ (quoted key ++ 58 ∷ (compact_text d ++ members_text true ms)) ++ behind
key_front key d ms behind =
    append_assoc (quoted key) (58 ∷ []) (compact_text d ++ (members_text true ms ++ behind))
    ∙ ap (λ (xs : List ℕ). quoted key ++ 58 ∷ xs) (sym (append_assoc (compact_text d) (members_text true ms) behind))
    ∙ sym (append_assoc (quoted key) (58 ∷ (compact_text d ++ members_text true ms)) behind)

-- a member, and what stands behind it
pub member_front : (key : List ℕ) (d : Data) (ms : Members) (text rest behind : List ℕ) → text ≡ 44 ∷ ((quoted key ++ 58 ∷ []) ++ (compact_text d ++ rest))
    → rest ≡ members_text true ms ++ behind → text ≡ members_text true (member key d ms) ++ behind
member_front key d ms text rest behind cut more =
    cut ∙ ap (λ (xs : List ℕ). 44 ∷ xs) (ap (λ (xs : List ℕ). (quoted key ++ 58 ∷ []) ++ (compact_text d ++ xs)) more ∙ key_front key d ms behind)

-- the first member, behind which others stand
pub object_front : (key : List ℕ) (d : Data) (ms : Members) (text rest behind : List ℕ) → text ≡ 123 ∷ ((quoted key ++ 58 ∷ []) ++ (compact_text d ++ rest))
    → rest ≡ members_text true ms ++ behind → text ≡ compact_text (object (member key d ms)) ++ behind
object_front key d ms text rest behind cut more =
    cut ∙ ap (λ (xs : List ℕ). 123 ∷ xs) (ap (λ (xs : List ℕ). (quoted key ++ 58 ∷ []) ++ (compact_text d ++ xs)) more ∙ key_front key d ms behind)

-- the last members, behind which nothing stands
pub whole_text : (ms : Members) (text : List ℕ) → text ≡ members_text true ms ++ [] → text ≡ members_text true ms
whole_text ms text e = e ∙ append-nil (members_text true ms)

-- a text of a list, and what stands behind it
pub item_front : (later : Bool) (name : List ℕ) (names : List (List ℕ)) (text rest behind more : List ℕ) → text ≡ comma_if later ++ rest → rest ≡ quoted name ++ more
    → more ≡ items_text true (strings names) ++ behind → text ≡ items_text later (strings (name ∷ names)) ++ behind
item_front later name names text rest behind more comma cut next =
    comma ∙ ap (λ (xs : List ℕ). comma_if later ++ xs) (cut ∙ ap (λ (xs : List ℕ). quoted name ++ xs) next ∙ sym (append_assoc (quoted name) (items_text true (strings names)) behind))
    ∙ sym (append_assoc (comma_if later) (quoted name ++ items_text true (strings names)) behind)

-- the two accesses
pub accesses_front : (one other : Data) (line inside first second third behind : List ℕ) → line ≡ 123 ∷ ((quoted (codes "accesses") ++ 58 ∷ 91 ∷ []) ++ inside) → inside ≡ compact_text one ++ first
    → first ≡ 44 ∷ second → second ≡ compact_text other ++ third → third ≡ 93 ∷ behind → line ≡ accesses_text one other ++ behind
accesses_front one other line inside first second third behind begin a comma b close =
    begin
    ∙ ap (λ (xs : List ℕ). 123 ∷ ((quoted (codes "accesses") ++ 58 ∷ 91 ∷ []) ++ xs))
    (a ∙ ap (λ (xs : List ℕ). compact_text one ++ xs) (comma ∙ ap (λ (xs : List ℕ). 44 ∷ xs) (b ∙ ap (λ (xs : List ℕ). compact_text other ++ xs) close ∙ sym (append_assoc (compact_text other) (93 ∷ []) behind)))
    ∙ sym (append_assoc (compact_text one) (44 ∷ (compact_text other ++ 93 ∷ [])) behind))
    ∙ ap (λ (xs : List ℕ). 123 ∷ xs) (append_assoc (quoted (codes "accesses")) (58 ∷ 91 ∷ []) ((compact_text one ++ 44 ∷ (compact_text other ++ 93 ∷ [])) ++ behind)
    ∙ sym (append_assoc (quoted (codes "accesses")) (58 ∷ 91 ∷ (compact_text one ++ 44 ∷ (compact_text other ++ 93 ∷ []))) behind))

-- a whole row
pub row_front : (k : Known) (one other : Data) (ms : Members) (line text : List ℕ) → line ≡ accesses_text one other ++ text → text ≡ members_text true ms
    → IsAccess k.earlier k.one.now one → IsAccess k.later k.other.now other → IsOutcome k.rank k.size ms → (d : Data) × (read line ≡ Some d) × IsKnown k d
row_front k one other ms line text cut rest a b o =
    let known = row_known k a b o in
    let all : line ≡ compact_text (row_data one other ms) =
    cut ∙ ap (λ (xs : List ℕ). accesses_text one other ++ xs) rest
    ∙ ap (λ (xs : List ℕ). 123 ∷ xs) (append_assoc (quoted (codes "accesses")) (58 ∷ compact_text (array (item one (item other no_items)))) (members_text true ms)) in
    (row_data one other ms, ap read all ∙ known.read_is, known.known)
