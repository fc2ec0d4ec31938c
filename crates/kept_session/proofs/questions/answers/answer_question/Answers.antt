-- What is answered of a pair is the answer to a question of it.
use Rattle.std.proofs.Common.{sym, subst}
use Rattle.rapid_text.specs.Recording.{Recording}
use Rattle.script_language.specs.declared.question.Question.{Question}
use Rattle.kept_session.specs.QuestionAnswers.{IsAnswer}
use Rattle.kept_session.specs.QuestionWitnesses.{IsWitnessLine}
use Rattle.kept_session.proofs.QuestionOkLemmas.{then-ok}
use Rattle.kept_session.proofs.questions.answers.answer_question.Goals as goal

pub returns-in-Witness : goal.returns-in-Witness
returns-in-Witness c =
    let T = c.args.bench.now.trace in
    let L = c.args.bench.now.log in
    record {
      answered = then-ok c.append_witness.result
          (λ told. (
            told.0,
            told.1,
            subst (λ (q : Question). IsAnswer T L q told.0) (sym c.in-Witness.is)
                (subst (λ (r : Recording). IsWitnessLine r c.in-Witness.first c.in-Witness.second told.0) c.indexed.ensures told.2),
          ))
          c.append_witness.ensures;
    }
