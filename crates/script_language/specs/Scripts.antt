-- What a script says: its calls, or its first refused line and its first cause. The language is this project's own.
use Rattle.std.specs.Prelude.{◌≡◌, ℕ, ◌+◌, ◌==◌, nat_lt, nat_le, Bool, true, false, ◌&&◌, if◌then◌else◌, List, [], ◌∷◌, ◌++◌, length, map, filter_map, find, not, All, Option, Some, None, is_some, ok_or, option_map, Result, Ok, Err, IsOk, codes, bytes_eq}
use Rattle.std.specs.List.{list_all, list_any, slice_split}
use Rattle.rapid_text.specs.Reading.{is_line_feed, trimmed}
use Rattle.moves.specs.Names.{is_name}
use Rattle.moves.specs.declared.command.Command.{Command}
use Rattle.moves.specs.declared.command.Command.TheVariants.{Fresh, Add, Back, Swap, Branch, Drop, Adopt}
use Rattle.inverse_log.specs.declared.call.Call.{Call}
use Rattle.inverse_log.specs.declared.call.Call.TheVariants.{Do, Batch, Undo, UndoAt, Propose, Show, List as ListNames, Races}
use Rattle.dependence.specs.Limits.{client_limit}
use Rattle.script_language.specs.Limits.{script_line_limit}
use Rattle.script_language.specs.LineWords.{words_of, is_separator, written_number}
use Rattle.script_language.specs.declared.verb.Verb.{Verb}
use Rattle.script_language.specs.declared.verb.CommandVerb.{CommandVerb}
use Rattle.script_language.specs.declared.verb.CommandVerb.TheVariants.{New as NewWord, Add as AddWord, Back as BackWord, Swap as SwapWord, Branch as BranchWord, Drop as DropWord, Adopt as AdoptWord}
use Rattle.script_language.specs.declared.verb.Verb.TheVariants.{Do as DoWord, Batch as BatchWord, Undo as UndoWord, Propose as ProposeWord, Show as ShowWord, List as ListWord, Races as RacesWord}
use Rattle.script_language.specs.declared.refusal.ScriptCause.{ScriptCause}
use Rattle.script_language.specs.declared.refusal.ScriptCause.TheVariants.{BadWord, BadNumber, BadClient, BadName, LineTooLong, OutOfMemory}
use Rattle.script_language.specs.declared.refusal.ScriptRefusal.{ScriptRefusal}

-- the word of each kind of call
abbrev pub word_of : Verb → List ℕ
word_of (DoWord NewWord) = codes "new"
word_of (DoWord AddWord) = codes "add"
word_of (DoWord BackWord) = codes "back"
word_of (DoWord SwapWord) = codes "swap"
word_of (DoWord BranchWord) = codes "branch"
word_of (DoWord DropWord) = codes "drop"
word_of (DoWord AdoptWord) = codes "adopt"
word_of BatchWord = codes "batch"
word_of UndoWord = codes "undo"
word_of ProposeWord = codes "propose"
word_of ShowWord = codes "show"
word_of ListWord = codes "list"
word_of RacesWord = codes "races"

abbrev pub verbs : List Verb
verbs =
    DoWord NewWord ∷ DoWord AddWord ∷ DoWord BackWord ∷ DoWord SwapWord ∷ DoWord BranchWord ∷ DoWord DropWord ∷ DoWord AdoptWord
    ∷ BatchWord ∷ UndoWord ∷ ProposeWord ∷ ShowWord ∷ ListWord ∷ RacesWord ∷ []

-- the kind of call with this word
abbrev pub verb_of : List ℕ → Option Verb
verb_of word = find (λ verb. bytes_eq word (word_of verb)) verbs

-- the word as a name, and as a number
abbrev pub name_reading : List ℕ → Result (List ℕ) ScriptCause
name_reading word = if is_name word then Ok word else Err BadName

abbrev pub number_reading : List ℕ → Result ℕ ScriptCause
number_reading word = ok_or (written_number word) BadNumber

-- words as numbers
abbrev pub numbers_reading : List (List ℕ) → Result (List ℕ) ScriptCause
numbers_reading words =
    if list_all (λ word. is_some (written_number word)) words then Ok (filter_map written_number words) else Err BadNumber

-- goes on with the value that was read, or keeps the fault
abbrev pub then_read : {A B : Type 0} → Result A ScriptCause → (A → Result B ScriptCause) → Result B ScriptCause
then_read (Ok value) next = next value
then_read (Err why) next = Err why

-- no argument
abbrev pub nothing_reading : List (List ℕ) → Result Unit ScriptCause
nothing_reading [] = Ok tt
nothing_reading words = Err BadWord

-- one argument, a name
abbrev pub one_name_reading : List (List ℕ) → Result (List ℕ) ScriptCause
one_name_reading (name ∷ []) = name_reading name
one_name_reading words = Err BadWord

-- a name and a number; first the number of arguments is checked, and then the arguments from left to right
abbrev pub name_and_number_reading : List (List ℕ) → Result (List ℕ × ℕ) ScriptCause
name_and_number_reading (name ∷ number ∷ []) =
    then_read (name_reading name) (λ n. then_read (number_reading number) (λ k. Ok (n, k)))
name_and_number_reading words = Err BadWord

-- the source's name, a length and the new schedule's name
abbrev pub branch_reading : List (List ℕ) → Result Command ScriptCause
branch_reading (name ∷ len ∷ to ∷ []) =
    then_read (name_reading name) (λ n. then_read (number_reading len) (λ k. then_read (name_reading to) (λ m. Ok (Branch n k m))))
branch_reading words = Err BadWord

-- the arguments of a command of this kind
abbrev pub command_arguments_reading : CommandVerb → List (List ℕ) → Result Command ScriptCause
command_arguments_reading NewWord words = then_read (one_name_reading words) (λ n. Ok (Fresh n))
command_arguments_reading AddWord words = then_read (name_and_number_reading words) (λ a. Ok (Add a.0 a.1))
command_arguments_reading BackWord words = then_read (one_name_reading words) (λ n. Ok (Back n))
command_arguments_reading SwapWord words = then_read (name_and_number_reading words) (λ a. Ok (Swap a.0 a.1))
command_arguments_reading BranchWord words = branch_reading words
command_arguments_reading DropWord words = then_read (one_name_reading words) (λ n. Ok (Drop n))
command_arguments_reading AdoptWord words = then_read (name_and_number_reading words) (λ a. Ok (Adopt a.0 a.1))

abbrev pub command_with : Option Verb → List (List ℕ) → Result Command ScriptCause
command_with (Some (DoWord verb)) words = command_arguments_reading verb words
command_with verb words = Err BadWord

-- a command's word and its arguments
abbrev pub command_reading : List (List ℕ) → Result Command ScriptCause
command_reading [] = Err BadWord
command_reading (word ∷ words) = command_with (verb_of word) words

-- no command has this word, or this word with this many arguments
abbrev pub is_bad_word : Result Command ScriptCause → Bool
is_bad_word (Err BadWord) = true
is_bad_word reading = false

-- all commands, or the first fault
abbrev pub all_read : List (Result Command ScriptCause) → Result (List Command) ScriptCause
all_read [] = Ok []
all_read (reading ∷ readings) = then_read reading (λ command. then_read (all_read readings) (λ commands. Ok (command ∷ commands)))

-- the commands between separators, or the first fault
abbrev pub parts_reading : List (List ℕ) → Result (List Command) ScriptCause
parts_reading words = all_read (map command_reading (slice_split is_separator words))

-- the commands with these words; the word and the number of arguments of each are checked before any arguments
abbrev pub commands_reading : List (List (List ℕ)) → Result (List Command) ScriptCause
commands_reading parts = if list_any is_bad_word (map command_reading parts) then Err BadWord else all_read (map command_reading parts)

-- commands without their client, with a separator between two
abbrev pub batch_reading : List (List ℕ) → Result Call ScriptCause
batch_reading words = then_read (commands_reading (slice_split is_separator words)) (λ commands. Ok (Batch commands))

-- no argument, or the number of an entry
abbrev pub undo_reading : List (List ℕ) → Result Call ScriptCause
undo_reading [] = Ok Undo
undo_reading (entry ∷ []) = then_read (number_reading entry) (λ k. Ok (UndoAt k))
undo_reading words = Err BadWord

-- the two events of a pair, and the events of the proposed list
abbrev pub propose_reading : List (List ℕ) → Result Call ScriptCause
propose_reading (first ∷ second ∷ events) =
    then_read (number_reading first) (λ a. then_read (number_reading second) (λ b. then_read (numbers_reading events) (λ list. Ok (Propose a b list))))
propose_reading words = Err BadWord

-- the arguments of a call of this kind
abbrev pub arguments_reading : Option Verb → List (List ℕ) → Result Call ScriptCause
arguments_reading None words = Err BadWord
arguments_reading (Some (DoWord verb)) words = then_read (command_arguments_reading verb words) (λ command. Ok (Do command))
arguments_reading (Some BatchWord) words = batch_reading words
arguments_reading (Some UndoWord) words = undo_reading words
arguments_reading (Some ProposeWord) words = propose_reading words
arguments_reading (Some ShowWord) words = then_read (one_name_reading words) (λ n. Ok (Show n))
arguments_reading (Some ListWord) words = then_read (nothing_reading words) (λ _. Ok ListNames)
arguments_reading (Some RacesWord) words = then_read (one_name_reading words) (λ n. Ok (Races n))

-- what follows the client's number, word by word
abbrev pub call_reading : List (List ℕ) → Result Call ScriptCause
call_reading [] = Err BadWord
call_reading (word ∷ words) = arguments_reading (verb_of word) words

-- clients are numbered from 1
abbrev pub is_client : ℕ → Bool
is_client n = nat_le 1 n && nat_le n client_limit

abbrev pub client_by : Option ℕ → Result ℕ ScriptCause
client_by None = Err BadClient
client_by (Some n) = if is_client n then Ok n else Err BadClient

-- the word as a client's number
abbrev pub client_reading : List ℕ → Result ℕ ScriptCause
client_reading word = client_by (written_number word)

-- a line as words: a client, which is checked first, and a call
abbrev pub words_reading : List (List ℕ) → Result (ℕ × Call) ScriptCause
words_reading [] = Err BadClient
words_reading (word ∷ words) =
    then_read (client_reading word) (λ client. then_read (call_reading words) (λ call. Ok (client, call)))

-- The call in a line; None if the line is empty. Without the blanks at its ends, the line must not be longer than the
-- limit.
abbrev pub script_line_reading : List ℕ → Result (Option (ℕ × Call)) ScriptCause
script_line_reading raw =
    let line = trimmed raw in
    if length line == 0
    then Ok None
    else (if nat_lt script_line_limit (length line)
    then Err LineTooLong
    else then_read (words_reading (words_of line)) (λ asked. Ok (Some asked)))

-- The call in a line. All lines are counted, from 1.
pub record Asked : Type 0 where
  pub line : ℕ
  pub client : ℕ
  pub call : Call

-- the call with its line and its client
abbrev pub asked : ℕ → ℕ → Call → Asked
asked line client call = record { line = line; client = client; call = call }

-- the line of the first call of another client, if there is one
abbrev pub stranger_line : ℕ → List Asked → Option ℕ
stranger_line client calls = option_map (λ asked. asked.line) (find (λ asked. not (asked.client == client)) calls)

abbrev pub asked_by : ℕ → Result (Option (ℕ × Call)) ScriptCause → List Asked
asked_by line (Ok (Some (client, call))) = record { line = line; client = client; call = call } ∷ []
asked_by line reading = []

-- the calls in these lines, in order, if n lines come before them
abbrev pub asked_behind : ℕ → List (List ℕ) → List Asked
asked_behind n [] = []
asked_behind n (line ∷ lines) = asked_by (n + 1) (script_line_reading line) ++ asked_behind (n + 1) lines

-- no line is refused
abbrev pub AreRead : List (List ℕ) → Type 0
AreRead lines = All (λ line. IsOk (script_line_reading line)) lines

-- The line after `before` is the first that is refused, for this cause.
pub record IsFirstRefused (lines : List (List ℕ)) (refusal : ScriptRefusal) : Type 0 where
  pub before : List (List ℕ)
  pub line : List ℕ
  pub behind : List (List ℕ)
  pub split : lines ≡ before ++ line ∷ behind
  pub none_before : AreRead before
  pub refused : script_line_reading line ≡ Err refusal.why
  pub place : refusal.line ≡ length before + 1

-- What a script says: the calls of its lines if no line is refused, or the first refused line.
abbrev pub IsScript : List ℕ → Result (List Asked) ScriptRefusal → Type 0
IsScript text (Ok asked) =
    let lines = slice_split is_line_feed text in
    AreRead lines × (asked ≡ asked_behind 0 lines)
IsScript text (Err refusal) = IsFirstRefused (slice_split is_line_feed text) refusal

-- memory ran out; no line is at fault
abbrev pub no_memory : ScriptRefusal
no_memory = record { line = 0; why = OutOfMemory }
