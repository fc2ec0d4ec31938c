-- Words up to a separator, and the commands between separators.
use Rattle.std.proofs.Common.{◌≡◌, ℕ, suc, ◌+◌, Bool, true, false, cond, not, List, [], ◌∷◌, ◌++◌, take, Option, Some, None, Result, Ok, Err, refl, sym, ap, ◌∙◌, subst, arith, append-nil, append_assoc, inl, inr}
use Rattle.std.specs.Prelude.{map}
use Rattle.std.specs.List.{list_any, slice_split, onto_first, position_or_len, before_first}
use Rattle.std.proofs.lemmas.Bool.{cases_Bool}
use Rattle.std.proofs.lemmas.List.Splits.{slice_split-cons_yes, slice_split-cons_no}
use Rattle.moves.specs.declared.command.Command.{Command}
use Rattle.inverse_log.specs.declared.call.Call.{Call}
use Rattle.inverse_log.specs.declared.call.Call.TheVariants.{Batch}
use Rattle.script_language.specs.LineWords.{is_separator}
use Rattle.script_language.specs.WordsLeft.{up_to, parts_left}
use Rattle.script_language.specs.Scripts.{then_read, command_reading, is_bad_word, all_read, commands_reading, batch_reading}
use Rattle.script_language.specs.declared.refusal.ScriptCause.{ScriptCause}
use Rattle.script_language.specs.declared.refusal.ScriptCause.TheVariants.{BadWord}

module _ {X : Type 0} (p : X → Bool) where
  -- what passes ends what stands before it
  before-cons_yes : (x : X) (xs : List X) → p x ≡ true → before_first p (x ∷ xs) ≡ []
  before-cons_yes x xs e = ap (λ c. take (cond (not c) (1 + position_or_len p xs) 0) (x ∷ xs)) e

  before-cons_no : (x : X) (xs : List X) → p x ≡ false → before_first p (x ∷ xs) ≡ x ∷ before_first p xs
  before-cons_no x xs e =
      let more : 1 + position_or_len p xs ≡ suc (position_or_len p xs) = omega arith in
      ap (λ c. take (cond (not c) (1 + position_or_len p xs) 0) (x ∷ xs)) e ∙ ap (λ n. take n (x ∷ xs)) more

  -- nothing passes before the first that does
  before-before : (xs : List X) → before_first p (before_first p xs) ≡ before_first p xs
  before-before [] = refl
  before-before (x ∷ xs) =
      elim (cases_Bool (p x)) [
        | inl y ↦ ap (before_first p) (before-cons_yes x xs y) ∙ sym (before-cons_yes x xs y)
        | inr n ↦ ap (before_first p) (before-cons_no x xs n) ∙ before-cons_no x (before_first p xs) n ∙ ap (λ ys. x ∷ ys) (before-before xs) ∙ sym (before-cons_no x xs n)
      ]

-- the words of a line, or of a part of it, up to the separator
pub part-before : (b : Bool) (words : List (List ℕ)) → before_first is_separator words ≡ before_first is_separator (up_to b words)
part-before true words = sym (before-before is_separator words)
part-before false words = refl

-- a word that is no separator is the first of the part
pub part-next : (b : Bool) (words others : List (List ℕ)) (word : List ℕ) → words ≡ word ∷ others → is_separator word ≡ false → up_to b words ≡ word ∷ up_to b others
part-next true words others word e fails = ap (before_first is_separator) e ∙ before-cons_no is_separator word others fails
part-next false words others word e fails = e

-- of a whole line any word is the first
pub line-next : (b : Bool) (words others : List (List ℕ)) (word : List ℕ) → words ≡ word ∷ others → b ≡ false → up_to b words ≡ word ∷ up_to b others
line-next true words others word e whole = cc
line-next false words others word e whole = e

-- The words from `rest` on were not looked at: what stands behind the separator there stands behind that of all.
abbrev pub LeavesOut : List (List ℕ) → List (List ℕ) → Type 0
LeavesOut all rest = (more : List (List (List ℕ))) → slice_split is_separator rest ≡ before_first is_separator rest ∷ more → slice_split is_separator all ≡ before_first is_separator all ∷ more

pub leaves_out-none : (all rest : List (List ℕ)) → rest ≡ all → LeavesOut all rest
leaves_out-none all rest e more h = subst (λ ws. slice_split is_separator ws ≡ before_first is_separator ws ∷ more) e h

module _ (all rest : List (List ℕ)) (h : LeavesOut all rest) where
  pub leaves_out-more : (word : List ℕ) (left : List (List ℕ)) → rest ≡ word ∷ left → is_separator word ≡ false → LeavesOut all left
  leaves_out-more word left e fails more f =
      h more (ap (slice_split is_separator) e
      ∙ slice_split-cons_no is_separator word left fails
      ∙ ap (onto_first word) f
      ∙ ap (λ part. part ∷ more) (sym (before-cons_no is_separator word left fails))
      ∙ ap (λ ws. before_first is_separator ws ∷ more) (sym e))

  pub leaves_out-here : (word : List ℕ) (left : List (List ℕ)) → rest ≡ word ∷ left → is_separator word ≡ true → slice_split is_separator all ≡ before_first is_separator all ∷ slice_split is_separator left
  leaves_out-here word left e passes =
      h (slice_split is_separator left) (ap (slice_split is_separator) e
      ∙ slice_split-cons_yes is_separator word left passes
      ∙ ap (λ part. part ∷ slice_split is_separator left) (sym (before-cons_yes is_separator word left passes))
      ∙ ap (λ ws. before_first is_separator ws ∷ slice_split is_separator left) (sym e))

  pub leaves_out-end : rest ≡ [] → slice_split is_separator all ≡ before_first is_separator all ∷ []
  leaves_out-end e = h [] (ap (slice_split is_separator) e ∙ ap (λ ws. before_first is_separator ws ∷ []) (sym e))

-- whether one of these parts is no command with its arguments
abbrev pub has_bad : List (List (List ℕ)) → Bool
has_bad parts = list_any is_bad_word (map command_reading parts)

pub bad-more : (parts others : List (List (List ℕ))) (part : List (List ℕ)) → parts ≡ part ∷ others → is_bad_word (command_reading part) ≡ false → has_bad parts ≡ has_bad others
bad-more parts others part e fails = rw (e, fails) refl

pub bad-here : (parts others : List (List (List ℕ))) (part : List (List ℕ)) → parts ≡ part ∷ others → is_bad_word (command_reading part) ≡ true → has_bad parts ≡ true
bad-here parts others part e passes = rw (e, passes) refl

-- the first part is what stands before the first separator
first_part : (words : List (List ℕ)) → (others : List (List (List ℕ))) × (slice_split is_separator words ≡ before_first is_separator words ∷ others)
first_part [] = ([], refl)
first_part (word ∷ words) =
    elim (cases_Bool (is_separator word)) [
      | inl y ↦ (slice_split is_separator words, slice_split-cons_yes is_separator word words y ∙ ap (λ part. part ∷ slice_split is_separator words) (sym (before-cons_yes is_separator word words y)))
      | inr n ↦ (
          let first = first_part words in
          (first.0, slice_split-cons_no is_separator word words n ∙ ap (onto_first word) first.1 ∙ ap (λ part. part ∷ first.0) (sym (before-cons_no is_separator word words n)))
          )
    ]

pub bad-first : (words : List (List ℕ)) (left : Option (List (List ℕ))) → left ≡ Some words → is_bad_word (command_reading (before_first is_separator words)) ≡ true → has_bad (parts_left left) ≡ true
bad-first words left e bad =
    let first = first_part words in
    bad-here (parts_left left) first.0 (before_first is_separator words) (ap parts_left e ∙ first.1) bad

-- these commands, and then what the others read as
abbrev pub and_then : List Command → Result (List Command) ScriptCause → Result (List Command) ScriptCause
and_then commands (Ok others) = Ok (commands ++ others)
and_then commands (Err why) = Err why

-- what these parts read as
abbrev pub reading_of : List (List (List ℕ)) → Result (List Command) ScriptCause
reading_of parts = all_read (map command_reading parts)

pub and_then-nothing : (reading : Result (List Command) ScriptCause) → and_then [] reading ≡ reading
and_then-nothing (Ok others) = refl
and_then-nothing (Err why) = refl

and_then-one : (commands : List Command) (command : Command) (reading : Result (List Command) ScriptCause) → and_then commands (then_read reading (λ others. Ok (command ∷ others))) ≡ and_then (commands ++ command ∷ []) reading
and_then-one commands command (Ok others) = ap Ok (sym (append_assoc commands (command ∷ []) others))
and_then-one commands command (Err why) = refl

module _ (commands : List Command) (parts others : List (List (List ℕ))) (part : List (List ℕ)) (e : parts ≡ part ∷ others) where
  -- one part more is read
  pub commands-more : (command : Command) → command_reading part ≡ Ok command → and_then commands (reading_of parts) ≡ and_then (commands ++ command ∷ []) (reading_of others)
  commands-more command is = rw (e, is) (and_then-one commands command (reading_of others))

  -- a part that is refused
  pub commands-refused : (why : ScriptCause) → command_reading part ≡ Err why → and_then commands (reading_of parts) ≡ Err why
  commands-refused why is = rw (e, is) refl

pub refused-first : (commands : List Command) (words : List (List ℕ)) (left : Option (List (List ℕ))) (why : ScriptCause) → left ≡ Some words → command_reading (before_first is_separator words) ≡ Err why → and_then commands (reading_of (parts_left left)) ≡ Err why
refused-first commands words left why e is =
    let first = first_part words in
    commands-refused commands (parts_left left) first.0 (before_first is_separator words) (ap parts_left e ∙ first.1) why is

-- no part is left
pub commands-end : (commands : List Command) (parts : List (List (List ℕ))) → parts ≡ [] → and_then commands (reading_of parts) ≡ Ok commands
commands-end commands parts e = rw e (ap Ok (append-nil commands))

-- the whole batch
pub batch-bad : (words : List (List ℕ)) → has_bad (slice_split is_separator words) ≡ true → batch_reading words ≡ Err BadWord
batch-bad words bad = rw bad refl

pub batch-read : (words : List (List ℕ)) (commands : List Command) → has_bad (slice_split is_separator words) ≡ false → reading_of (slice_split is_separator words) ≡ Ok commands → batch_reading words ≡ Ok (Batch commands)
batch-read words commands good is = rw (good, is) refl

pub batch-refused : (words : List (List ℕ)) (why : ScriptCause) → has_bad (slice_split is_separator words) ≡ false → reading_of (slice_split is_separator words) ≡ Err why → batch_reading words ≡ Err why
batch-refused words why good is = rw (good, is) refl
