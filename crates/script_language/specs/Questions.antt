-- The question in a line. Questions begin with the word `?`. The language is this project's own.
use Rattle.std.specs.Prelude.{ℕ, Bool, if◌then◌else◌, List, [], ◌∷◌, find, Option, Some, None, Result, Ok, Err, codes, bytes_eq}
use Rattle.script_language.specs.LineWords.{words_of}
use Rattle.script_language.specs.Scripts.{name_reading, number_reading, nothing_reading, one_name_reading, name_and_number_reading, then_read}
use Rattle.script_language.specs.declared.question.Question.{Question}
use Rattle.script_language.specs.declared.question.Question.TheVariants.{Next, Witness, Run, Part, Rows, Entry}
use Rattle.script_language.specs.declared.question.QuestionWord.{QuestionWord}
use Rattle.script_language.specs.declared.question.QuestionWord.TheVariants.{Next as NextWord, Witness as WitnessWord, Run as RunWord, Part as PartWord, Rows as RowsWord, Entry as EntryWord}
use Rattle.script_language.specs.declared.refusal.ScriptCause.{ScriptCause}
use Rattle.script_language.specs.declared.refusal.ScriptCause.TheVariants.{BadWord}

-- the word of each kind of question
abbrev pub word_of_question : QuestionWord → List ℕ
word_of_question NextWord = codes "next"
word_of_question WitnessWord = codes "witness"
word_of_question RunWord = codes "run"
word_of_question PartWord = codes "part"
word_of_question RowsWord = codes "rows"
word_of_question EntryWord = codes "entry"

abbrev pub question_words : List QuestionWord
question_words = NextWord ∷ WitnessWord ∷ RunWord ∷ PartWord ∷ RowsWord ∷ EntryWord ∷ []

-- the kind of question with this word
abbrev pub question_word_of : List ℕ → Option QuestionWord
question_word_of word = find (λ kind. bytes_eq word (word_of_question kind)) question_words

-- one argument, a number
abbrev pub one_number_reading : List (List ℕ) → Result ℕ ScriptCause
one_number_reading (number ∷ []) = number_reading number
one_number_reading words = Err BadWord

-- two numbers
abbrev pub two_numbers_reading : List (List ℕ) → Result (ℕ × ℕ) ScriptCause
two_numbers_reading (first ∷ second ∷ []) = then_read (number_reading first) (λ a. then_read (number_reading second) (λ b. Ok (a, b)))
two_numbers_reading words = Err BadWord

-- a name, the first position, and how many events at most
abbrev pub part_reading : List (List ℕ) → Result Question ScriptCause
part_reading (name ∷ from ∷ count ∷ []) =
    then_read (name_reading name) (λ n. then_read (number_reading from) (λ k. then_read (number_reading count) (λ m. Ok (Part n k m))))
part_reading words = Err BadWord

-- the arguments of a question of this kind
abbrev pub question_arguments : QuestionWord → List (List ℕ) → Result Question ScriptCause
question_arguments NextWord words = then_read (one_name_reading words) (λ n. Ok (Next n))
question_arguments WitnessWord words = then_read (two_numbers_reading words) (λ p. Ok (Witness p.0 p.1))
question_arguments RunWord words = then_read (name_and_number_reading words) (λ a. Ok (Run a.0 a.1))
question_arguments PartWord words = part_reading words
question_arguments RowsWord words = then_read (nothing_reading words) (λ _. Ok Rows)
question_arguments EntryWord words = then_read (one_number_reading words) (λ k. Ok (Entry k))

abbrev pub question_with : Option QuestionWord → List (List ℕ) → Result Question ScriptCause
question_with None words = Err BadWord
question_with (Some kind) words = question_arguments kind words

-- what follows `?`, word by word
abbrev pub question_by : List (List ℕ) → Result Question ScriptCause
question_by [] = Err BadWord
question_by (word ∷ words) = question_with (question_word_of word) words

-- a line as words: a question, if its first word is `?`
abbrev pub question_in : List (List ℕ) → Option (Result Question ScriptCause)
question_in [] = None
question_in (word ∷ words) = if bytes_eq word (codes "?") then Some (question_by words) else None

-- the question in a line; None if the line is not a question
abbrev pub question_reading : List ℕ → Option (Result Question ScriptCause)
question_reading line = question_in (words_of line)
