-- A batch that is read part by part, if no part is refused.
use Rattle.std.proofs.Common.{◌≡◌, ℕ, suc, ◌<◌, Bool, true, false, List, [], ◌∷◌, length, Result, Ok, Err, Some, None, refl, ap, ◌∙◌, sym, inl, inr, append-nil, arith}
use Rattle.std.specs.Prelude.{codes, map}
use Rattle.std.specs.Cmp.Lexicographic.{bytes_decides}
use Rattle.std.specs.List.{list_any, slice_split, onto_first}
use Rattle.std.proofs.lemmas.Bool.{cases_Bool}
use Rattle.std.proofs.lemmas.List.Splits.{slice_split-cons_yes, slice_split-cons_no}
use Rattle.moves.specs.declared.command.Command.{Command}
use Rattle.moves.specs.declared.command.Command.TheVariants.{Branch}
use Rattle.inverse_log.specs.declared.call.Call.TheVariants.{Batch}
use Rattle.script_language.specs.LineWords.{is_separator}
use Rattle.script_language.specs.QuickBatch.{parts_behind, Parts, Pushes}
use Rattle.script_language.specs.Scripts.{verb_of, name_reading, number_reading, one_name_reading, name_and_number_reading, branch_reading, command_arguments_reading, command_with, command_reading, is_bad_word, all_read, then_read, batch_reading}
use Rattle.script_language.specs.declared.verb.CommandVerb.{CommandVerb}
use Rattle.script_language.specs.declared.verb.Verb.{Verb}
use Rattle.script_language.specs.declared.verb.Verb.TheVariants.{Do as DoWord}
use Rattle.script_language.specs.declared.refusal.ScriptCause.{ScriptCause}
use Rattle.script_language.specs.declared.refusal.ScriptCause.TheVariants.{BadWord, BadName, BadNumber}
use Rattle.script_language.proofs.PartLemmas.{and_then, reading_of, commands-more, batch-read}

-- what is read of a word that the separator does not give is no separator
plain_word : {A : Type 0} (reading : List ℕ → A) (word : List ℕ) (value : A) → reading word ≡ value → ¬ (reading (codes ";") ≡ value) → is_separator word ≡ false
plain_word reading word value is other =
    elim (cases_Bool (is_separator word)) [
      | inl y ↦ absurd (other (ap reading (sym ((bytes_decides word (codes ";")).0 y)) ∙ is))
      | inr n ↦ n
    ]

plain_name : (word name : List ℕ) → name_reading word ≡ Ok name → is_separator word ≡ false
plain_name word name is = plain_word name_reading word (Ok name) is (λ (e : Err BadName ≡ Ok name). cc)

plain_number : (word : List ℕ) (number : ℕ) → number_reading word ≡ Ok number → is_separator word ≡ false
plain_number word number is = plain_word number_reading word (Ok number) is (λ (e : Err BadNumber ≡ Ok number). cc)

plain_verb : (word : List ℕ) (verb : Verb) → verb_of word ≡ Some verb → is_separator word ≡ false
plain_verb word verb is = plain_word verb_of word (Some verb) is (λ (e : None ≡ Some verb). cc)

-- a word more, at the front of the first part
parts-more : (old rest : List (List ℕ)) (word : List ℕ) (part : List (List ℕ)) (others : List (List (List ℕ)))
    → old ≡ word ∷ rest → is_separator word ≡ false → slice_split is_separator rest ≡ part ∷ others
    → slice_split is_separator old ≡ (word ∷ part) ∷ others
parts-more old rest word part others e fails f =
    ap (slice_split is_separator) e ∙ slice_split-cons_no is_separator word rest fails ∙ ap (onto_first word) f

pub ends_here : (old new : List (List ℕ)) → old ≡ [] → slice_split is_separator old ≡ [] ∷ parts_behind false new
ends_here old new e = ap (slice_split is_separator) e

pub ends_more : (old new : List (List ℕ)) (word : List ℕ) → old ≡ word ∷ new → is_separator word ≡ true → slice_split is_separator old ≡ [] ∷ parts_behind true new
ends_more old new word e passes = ap (slice_split is_separator) e ∙ slice_split-cons_yes is_separator word new passes

module _ (new : List (List ℕ)) (more : Bool) where
  pub one_part : (old rest : List (List ℕ)) (word name : List ℕ)
      → old ≡ word ∷ rest → slice_split is_separator rest ≡ [] ∷ parts_behind more new → name_reading word ≡ Ok name
      → Parts one_name_reading old name more new
  one_part old rest word name e f is =
      record { part = word ∷ []; split = parts-more old rest word [] (parts_behind more new) e (plain_name word name is) f; read = is }

  -- the words before the last one
  two_words : (old mid rest : List (List ℕ)) (word other : List ℕ)
      → old ≡ word ∷ mid → mid ≡ other ∷ rest → slice_split is_separator rest ≡ [] ∷ parts_behind more new
      → is_separator word ≡ false → is_separator other ≡ false
      → slice_split is_separator old ≡ (word ∷ other ∷ []) ∷ parts_behind more new
  two_words old mid rest word other e g f plain others =
      parts-more old mid word (other ∷ []) (parts_behind more new) e plain (parts-more mid rest other [] (parts_behind more new) g others f)

  pub two_parts : (old mid rest : List (List ℕ)) (word other name : List ℕ) (number : ℕ)
      → old ≡ word ∷ mid → mid ≡ other ∷ rest → slice_split is_separator rest ≡ [] ∷ parts_behind more new
      → name_reading word ≡ Ok name → number_reading other ≡ Ok number
      → Parts name_and_number_reading old (name, number) more new
  two_parts old mid rest word other name number e g f is at =
      record {
        part = word ∷ other ∷ [];
        split = two_words old mid rest word other e g f (plain_name word name is) (plain_number other number at);
        read = rw (is, at) refl;
      }

  pub three_parts : (old mid back rest : List (List ℕ)) (word other last name to : List ℕ) (number : ℕ)
      → old ≡ word ∷ mid → mid ≡ other ∷ back → back ≡ last ∷ rest → slice_split is_separator rest ≡ [] ∷ parts_behind more new
      → name_reading word ≡ Ok name → number_reading other ≡ Ok number → name_reading last ≡ Ok to
      → Parts branch_reading old (Branch name number to) more new
  three_parts old mid back rest word other last name to number e g h f is at and =
      record {
        part = word ∷ other ∷ last ∷ [];
        split = parts-more old mid word (other ∷ last ∷ []) (parts_behind more new) e (plain_name word name is)
            (two_words mid back rest other last g h f (plain_number other number at) (plain_name last to and));
        read = rw (is, at, and) refl;
      }

  -- what is read is put into a command
  pub parts_then : {A : Type 0} (reading : List (List ℕ) → Result A ScriptCause) (command : A → Command) (old : List (List ℕ)) (value : A)
      → Parts reading old value more new → Parts (λ part. then_read (reading part) (λ a. Ok (command a))) old (command value) more new
  parts_then reading command old value p = record { part = p.part; split = p.split; read = rw p.read refl }

  -- behind its word
  pub parts_of_command : (old rest : List (List ℕ)) (word : List ℕ) (verb : CommandVerb) (command : Command)
      → old ≡ word ∷ rest → verb_of word ≡ Some (DoWord verb) → Parts (command_arguments_reading verb) rest command more new
      → Parts command_reading old command more new
  parts_of_command old rest word verb command e is p =
      record {
        part = word ∷ p.part;
        split = parts-more old rest word p.part (parts_behind more new) e (plain_verb word (DoWord verb) is) p.split;
        read = ap (λ v. command_with v p.part) is ∙ p.read;
      }

-- if all are read, those behind the first are
rest_read : (command : Command) (reading : Result (List Command) ScriptCause) (commands : List Command) → then_read reading (λ others. Ok (command ∷ others)) ≡ Ok commands → (others : List Command) × (reading ≡ Ok others)
rest_read command (Ok others) commands e = (others, refl)
rest_read command (Err why) commands e = absurd cc

-- and none has a bad word
none_bad : (readings : List (Result Command ScriptCause)) (commands : List Command) → all_read readings ≡ Ok commands → list_any is_bad_word readings ≡ false
none_bad [] commands e = refl
none_bad (Err why ∷ readings) commands e = absurd cc
none_bad (Ok command ∷ readings) commands e =
    let rest = rest_read command (all_read readings) commands e in none_bad readings rest.0 rest.1

pub batch_at_once : (words : List (List ℕ)) (commands : List Command) → reading_of (slice_split is_separator words) ≡ Ok commands → batch_reading words ≡ Ok (Batch commands)
batch_at_once words commands is = batch-read words commands (none_bad (map (command_reading) (slice_split is_separator words)) commands is) is

-- one command more is put behind the others
pub pushed_on : (old new : List (List ℕ)) (before after : List Command) (b more : Bool) (total : Result (List Command) ScriptCause)
    → Pushes old before more new after → b ≡ true → and_then before (reading_of (parts_behind b old)) ≡ total
    → and_then after (reading_of (parts_behind more new)) ≡ total
pushed_on old new before after b more total p is inv =
    ap (λ commands. and_then commands (reading_of (parts_behind more new))) p.pushed
    ∙ sym (commands-more before (slice_split is_separator old) (parts_behind more new) p.parts.part p.parts.split p.command p.parts.read)
    ∙ ap (λ t. and_then before (reading_of (parts_behind t old))) (sym is)
    ∙ inv

-- and fewer are left
pub pushed_fewer : (old new : List (List ℕ)) (before after : List Command) (b more : Bool)
    → Pushes old before more new after → b ≡ true → length (parts_behind more new) < length (parts_behind b old)
pushed_fewer old new before after b more p is =
    let same : length (parts_behind b old) ≡ suc (length (parts_behind more new)) = ap (λ t. length (parts_behind t old)) is ∙ ap length p.parts.split in
    omega (arith, same)

-- all are read
pub pushed_all : (left : List (List ℕ)) (commands : List Command) (b : Bool) (total : Result (List Command) ScriptCause)
    → b ≡ false → and_then commands (reading_of (parts_behind b left)) ≡ total → total ≡ Ok commands
pushed_all left commands b total is inv =
    sym inv ∙ ap (λ t. and_then commands (reading_of (parts_behind t left))) is ∙ ap Ok (append-nil commands)
