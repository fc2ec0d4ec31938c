-- A line is answered as a question, or else as a line of a script.
use Rattle.std.proofs.Common.{◌≡◌, ℕ, List, [], ◌++◌, Option, Some, None, Result, Ok, Err, refl, sym, subst, append-nil}
use Rattle.std.specs.Prelude.{OnOk}
use Rattle.rapid_text.specs.Recording.{Recording}
use Rattle.inverse_log.specs.declared.entry.Entry.{Entry}
use Rattle.script_language.specs.Questions.{question_reading}
use Rattle.script_language.specs.Scripts.{script_line_reading}
use Rattle.script_language.specs.declared.question.Question.{Question}
use Rattle.script_language.specs.declared.refusal.ScriptCause.{ScriptCause}
use Rattle.kept_session.specs.Lines.{line_for}
use Rattle.kept_session.specs.Sessions.{IsAnsweredAs, IsAsked}
use Rattle.kept_session.specs.Steps.{LineAnswered, ReadingAnswered}

module _ {E : Type 0} (T : Recording) (client : Option ℕ) (number : ℕ) (raw : List ℕ) where
  pub question-answered : (L : List Entry) (out new : List ℕ) (block : List (List ℕ)) (asked : Result Question ScriptCause) (r : Result (Unit {0}) E) → question_reading raw ≡ Some asked
      → OnOk r ((text : List ℕ) × (new ≡ out ++ text) × IsAsked T L number asked text) → OnOk r (LineAnswered T client number raw L L out new block block)
  question-answered L out new block asked (Err why) is told = tt
  question-answered L out new block asked (Ok u) is told = record {
    text = told.0;
    lines = [];
    answered = subst (λ (q : Option (Result Question ScriptCause)). IsAnsweredAs T number q (script_line_reading (line_for client raw)) L told.0 L) (sym is) (told.2, refl);
    told = told.1;
    kept = sym (append-nil block);
    gained = refl;
    logged = tt;
  }

  pub reading-answered : (L M : List Entry) (out new : List ℕ) (block more : List (List ℕ)) (r : Result (Unit {0}) E) → question_reading raw ≡ None
      → OnOk r (ReadingAnswered T number (script_line_reading (line_for client raw)) L M out new block more) → OnOk r (LineAnswered T client number raw L M out new block more)
  reading-answered L M out new block more (Err why) is done = tt
  reading-answered L M out new block more (Ok u) is done = record {
    text = done.text;
    lines = done.lines;
    answered = subst (λ (q : Option (Result Question ScriptCause)). IsAnsweredAs T number q (script_line_reading (line_for client raw)) L done.text M) (sym is) done.answered;
    told = done.told;
    kept = done.kept;
    gained = done.gained;
    logged = done.logged;
  }
