-- Entries in a set of texts, each once.
use Rattle.std.proofs.Common.{◌≡◌, ℕ, ◌+◌, ◌<◌, ◌||◌, Bool, true, false, List, [], ◌∷◌, ◌++◌, Vec, flat_map, get_or, length, nat_eq, take, refl, sym, ap, ◌∙◌}
use Rattle.std.specs.Bool.{if◌then◌else◌}
use Rattle.std.specs.List.{concat, list_any}
use Rattle.std.specs.Cmp.Lexicographic.{pointwise}
use Rattle.std.specs.declared.alloc.Global.{Global}
use Rattle.std.proofs.lemmas.Bool.{cond-true, cond-false}
use Rattle.std.proofs.lemmas.List.{map-append}
use Rattle.std.proofs.lemmas.List.Sums.{fold_more}
use Rattle.rapid_text.specs.Recording.{Recording}
use Rattle.race_triage.specs.Places.{texts_of, with_text}
use Rattle.race_triage.specs.declared.verdicts.Verdict.{Verdict}
use Rattle.triage_file.specs.Writing.{race_entries, with_verdict}

-- whether a key is the text
abbrev is_text : List ℕ → Vec ℕ Global → Bool
is_text text key = pointwise nat_eq text key.items

-- the texts of a set that pass
pub any_text : (keys : List (Vec ℕ Global)) (text : List ℕ) → list_any (is_text text) keys ≡ list_any (pointwise nat_eq text) (texts_of keys)
any_text [] text = refl
any_text (key ∷ keys) text = ap (λ (b : Bool). is_text text key || b) (any_text keys text)

-- the texts of a set, one after another
pub concat_texts : (keys : List (Vec ℕ Global)) → flat_map (λ (v : Vec ℕ Global). v.items) keys ≡ concat (texts_of keys)
concat_texts [] = refl
concat_texts (key ∷ keys) = ap (λ (text : List ℕ). key.items ++ text) (concat_texts keys)

module _ (old new : List (Vec ℕ Global)) (key : Vec ℕ Global) (is : new ≡ (if list_any (is_text key.items) old then old else old ++ key ∷ [])) where
  found : (b : Bool) → list_any (is_text key.items) old ≡ b → list_any (pointwise nat_eq key.items) (texts_of old) ≡ b
  found b is = sym (any_text old key.items) ∙ is

  by_there : (b : Bool) → list_any (is_text key.items) old ≡ b → texts_of new ≡ with_text (texts_of old) key.items
  by_there true there =
      ap texts_of (is ∙ ap (λ (b : Bool). if b then old else old ++ key ∷ []) there)
      ∙ sym (cond-true (list_any (pointwise nat_eq key.items) (texts_of old)) (texts_of old) (texts_of old ++ key.items ∷ []) (found true there))
  by_there false none =
      ap texts_of (is ∙ ap (λ (b : Bool). if b then old else old ++ key ∷ []) none)
      ∙ map-append (λ (v : Vec ℕ Global). v.items) old (key ∷ [])
      ∙ sym (cond-false (list_any (pointwise nat_eq key.items) (texts_of old)) (texts_of old) (texts_of old ++ key.items ∷ []) (found false none))

  -- a text more, unless it is there
  pub insert_entry : texts_of new ≡ with_text (texts_of old) key.items
  insert_entry = by_there (list_any (is_text key.items) old) refl

-- the entries of one verdict more
pub entries_more :
    (r : Recording) (numbers : List ℕ) (vs : List Verdict) (i : ℕ) (d : Verdict) → i < length vs
    → race_entries r numbers (take (i + 1) vs) ≡ with_verdict r numbers (race_entries r numbers (take i vs)) (get_or vs i d)
entries_more r numbers vs i d lt = fold_more (with_verdict r numbers) [] vs i d lt
