-- Words that are read as numbers one after another.
use Rattle.std.proofs.Common.{◌≡◌, ℕ, Bool, true, false, cond, List, [], ◌∷◌, ◌++◌, filter_map, Option, Some, None, Result, Ok, Err, refl, sym, ap, ◌∙◌, append-nil, append_assoc, inl, inr}
use Rattle.std.specs.Prelude.{is_some, ok_or}
use Rattle.std.specs.List.{list_all}
use Rattle.std.proofs.lemmas.Bool.{cases_Bool}
use Rattle.script_language.specs.Scripts.{number_reading, numbers_reading}
use Rattle.script_language.specs.LineWords.{written_number}
use Rattle.script_language.specs.declared.refusal.ScriptCause.{ScriptCause}
use Rattle.script_language.specs.declared.refusal.ScriptCause.TheVariants.{BadNumber}

-- these numbers, and then what the others read as
abbrev pub behind : List ℕ → Result (List ℕ) ScriptCause → Result (List ℕ) ScriptCause
behind numbers (Ok others) = Ok (numbers ++ others)
behind numbers (Err why) = Err why

pub behind-nothing : (reading : Result (List ℕ) ScriptCause) → reading ≡ behind [] reading
behind-nothing (Ok others) = refl
behind-nothing (Err why) = refl

behind-behind : (numbers more : List ℕ) (reading : Result (List ℕ) ScriptCause) → behind numbers (behind more reading) ≡ behind (numbers ++ more) reading
behind-behind numbers more (Ok others) = ap Ok (sym (append_assoc numbers more others))
behind-behind numbers more (Err why) = refl

abbrev by_number : (word : List ℕ) (words : List (List ℕ)) (o : Option ℕ) (b : Bool) → Result (List ℕ) ScriptCause
by_number word words None b = Err BadNumber
by_number word words (Some n) b = behind (n ∷ []) (cond b (Ok (filter_map written_number words)) (Err BadNumber))

numbers-cons : (word : List ℕ) (words : List (List ℕ)) (o : Option ℕ) (b : Bool) → written_number word ≡ o → list_all (λ w. is_some (written_number w)) words ≡ b → numbers_reading (word ∷ words) ≡ by_number word words o b
numbers-cons word words None b e f = rw e refl
numbers-cons word words (Some n) true e f = rw (e, f) refl
numbers-cons word words (Some n) false e f = rw (e, f) refl

number-is : (o : Option ℕ) (n : ℕ) → ok_or o BadNumber ≡ Ok n → o ≡ Some n
number-is None n e = cc
number-is (Some m) n e = cc

number-none : (o : Option ℕ) (why : ScriptCause) → ok_or o BadNumber ≡ Err why → (o ≡ None) × (why ≡ BadNumber)
number-none None why e = (refl, cc)
number-none (Some m) why e = cc

-- one word more is read
pub numbers-more : (numbers : List ℕ) (word : List ℕ) (words : List (List ℕ)) (n : ℕ) → number_reading word ≡ Ok n → behind numbers (numbers_reading (word ∷ words)) ≡ behind (numbers ++ n ∷ []) (numbers_reading words)
numbers-more numbers word words n e =
    let is = number-is (written_number word) n e in
    ap (behind numbers) (numbers-cons word words (Some n) (list_all (λ w. is_some (written_number w)) words) is refl)
    ∙ behind-behind numbers (n ∷ []) (numbers_reading words)

-- a word that is no number
pub numbers-refused : (numbers : List ℕ) (word : List ℕ) (words : List (List ℕ)) (why : ScriptCause) → number_reading word ≡ Err why → behind numbers (numbers_reading (word ∷ words)) ≡ Err why
numbers-refused numbers word words why e =
    let is = number-none (written_number word) why e in
    ap (behind numbers) (numbers-cons word words None (list_all (λ w. is_some (written_number w)) words) is.0 refl) ∙ ap Err (sym is.1)

-- no word is left
pub numbers-end : (numbers : List ℕ) (words : List (List ℕ)) → words ≡ [] → behind numbers (numbers_reading words) ≡ Ok numbers
numbers-end numbers words e = ap (λ ws. behind numbers (numbers_reading ws)) e ∙ ap Ok (append-nil numbers)
