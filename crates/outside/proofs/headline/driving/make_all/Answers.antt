use Rattle.std.proofs.Common.{◌≡◌, ◌+◌, ◌∙◌, take, get_or, ◌++◌, ◌∷◌, [], sym, subst, ap}
use Rattle.std.proofs.lemmas.List.{take_more}
use Rattle.rapid_text.specs.Recording.{Recording}
use Rattle.trace_rules.specs.Rules.{IsDisciplined}
use Rattle.outside.specs.headline.History.{Follows}
use Rattle.inverse_log.specs.Answer.{Called}
use Rattle.outside.proofs.headline.HistoryLemmas.{follows_more}
use Rattle.outside.proofs.headline.driving.make_all.Goals as goal

pub loop-one-preserved : goal.loop-one-preserved
loop-one-preserved c =
    let b = c.args.bench.now in
    let l = c.loop-one in
    let a = c.one-item.result in
    let made : Called b.trace l.bench.log a.client a.call c.call.result c.call.new.self.log = subst (λ T. Called T l.bench.log a.client a.call c.call.result c.call.new.self.log) l.invariant.0 c.call.ensures.call in
    let step = follows_more b.trace b.log (take l.one-index c.args.asked.now) l.bench.log a c.call.result c.call.new.self.log l.invariant.1 made in
    let more : take (l.one-index + 1) c.args.asked.now ≡ take l.one-index c.args.asked.now ++ a ∷ [] = take_more c.args.asked.now l.one-index a c.loop-one-test.true ∙ ap (λ x. take l.one-index c.args.asked.now ++ x ∷ []) (sym c.one-item.is) in
    (c.call.ensures.trace ∙ l.invariant.0, subst (λ A. Follows b.trace b.log A c.call.new.self.log) (sym more) step)

pub returns-clause-board : goal.returns-clause-board
returns-clause-board c =
    let b = c.loop-one.bench in
    let disciplined : IsDisciplined b.trace.events = subst (λ (T : Recording). IsDisciplined T.events) c.indexed.ensures c.len.ensures.disciplined in
    (c.rows_are_the_fold.ensures b.trace b.log disciplined c.log_len.ensures.legal).1
