use Rattle.std.proofs.Common.{codes, refl, inl}
use Rattle.kept_session.proofs.QuestionOkLemmas.{then-ok}
use Rattle.kept_session.proofs.questions.witnesses.append_witness.Goals as goal

pub returns-in-None : goal.returns-in-None
returns-in-None c = then-ok c.append_pieces.result (λ told. (codes "refused 98 no such pair\n", told, inl (refl, c.pair_of.ensures.none c.in-None.is))) c.append_pieces.ensures.ok
