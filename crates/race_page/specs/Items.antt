-- The text of the items of a piece. All notions here are this project's own.
use Rattle.std.specs.Prelude.{◌≡◌, ℕ, ◌==◌, cond, List, [], ◌++◌, flat_map, codes, decimal, Result, OnOk}
use Rattle.markup.specs.Escaped.{escaped}
use Rattle.race_page.specs.Own.{begin_text, end_text, part_text}
use Rattle.race_page.specs.declared.own.Tag.{Tag}
use Rattle.race_page.specs.declared.piece.Item.{Item}
use Rattle.race_page.specs.declared.piece.Item.TheVariants.{Begin, End, Part, Number, Text, Element, Count}

-- an element with a text in it
abbrev pub element_text : Tag → List ℕ → List ℕ
element_text tag text = begin_text tag ++ escaped text ++ end_text tag

-- the ending of the word for n things
abbrev pub ending : ℕ → List ℕ
ending n = cond (n == 1) (codes "") (codes "s")

-- the number n, and the word for what is counted
abbrev pub count_text : ℕ → List ℕ → List ℕ
count_text n word = decimal n ++ escaped (codes " ") ++ escaped word ++ escaped (ending n)

-- the text of an item
abbrev pub item_text : Item → List ℕ
item_text (Begin tag) = begin_text tag
item_text (End tag) = end_text tag
item_text (Part part) = part_text part
item_text (Number n) = decimal n
item_text (Text text) = escaped text.now
item_text (Element tag text) = element_text tag text.now
item_text (Count n word) = count_text n word.now

-- these items, one after another
abbrev pub items_text : List Item → List ℕ
items_text items = flat_map item_text items

-- unless the answer is an error, the text was appended
abbrev pub Written : {T E : Type 0} → Result T E → List ℕ → List ℕ → List ℕ → Type 0
Written answer old new text = OnOk answer (new ≡ old ++ text)

-- unless the answer is an error, a text was appended for which P holds
abbrev pub WrittenOne : {T E : Type 0} → Result T E → List ℕ → List ℕ → (List ℕ → Type 0) → Type 0
WrittenOne answer old new P = OnOk answer ((text : List ℕ) × (new ≡ old ++ text) × P text)
