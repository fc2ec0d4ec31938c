use Rattle.std.proofs.Common.{◌⊎◌, inl, inr, ⊎_elim, ◌∙◌, ◌++◌, ap, Err, List, ℕ}
use Rattle.kept_log.specs.Lines.{kept_lines}
use Rattle.kept_log.specs.Device.{AfterOthers}
use Rattle.kept_log.specs.Log.{BeginsWith, head_of, lines_of}
use Rattle.kept_log.proofs.MomentLemmas.{weaker, then_on}
use Rattle.kept_log.proofs.CallerLemmas.{left_begins, enter_lines, enter_begins, stands_turn, whole_turn, no_turn}
use Rattle.kept_log.proofs.log.KeptLog.enter.Goals as goal

pub returns-in-Err-clause-any_moment : goal.returns-in-Err-clause-any_moment
returns-in-Err-clause-any_moment g c =
    weaker g.D.Device _ _ _ _ c.take_over.ensures.any_moment (left_begins g.D.Device c.args.self.now c.requires.left)

pub returns-in-Ok-catch_up-clause-lines : goal.returns-in-Ok-catch_up-clause-lines
returns-in-Ok-catch_up-clause-lines g c =
    let entered = c.take_over.ensures in
    c.in-Ok-catch_up.ensures.lines
    ∙ enter_lines g.D.Device c.args.self.now c.take_over.new.self c.requires.left entered.places.0 entered.places.1 entered.front entered.known
    ∙ ap (λ (t : List ℕ). lines_of g.D.Device c.args.self.now ++ kept_lines t) c.in-Ok.ensures.bytes

pub returns-in-Ok-catch_up-clause-any_moment : goal.returns-in-Ok-catch_up-clause-any_moment
returns-in-Ok-catch_up-clause-any_moment g c =
    let entered = c.take_over.ensures in
    let begins : (f : List ℕ) → g.D.Device.may_leave c.args.self.now.device f ⊎ AfterOthers c.args.self.now.end (g.D.Device.may_leave c.args.self.now.device) f → BeginsWith (head_of g.D.Device c.args.self.now) (lines_of g.D.Device c.args.self.now) f =
    left_begins g.D.Device c.args.self.now c.requires.left in
    then_on g.D.Device _ _ _ _ _ _ entered.any_moment c.catch_up.ensures.any_moment begins
    (λ f left. ⊎_elim
    (λ now. begins f (entered.any_moment.each f (g.met.D.Device.counts_now c.take_over.new.self.device (g.D.Device.moment c.args.self.now.device) f entered.any_moment.later now)))
    (λ stands. enter_begins g.D.Device c.args.self.now c.take_over.new.self c.requires.left entered.places.0 entered.places.1 entered.front entered.known f stands)
    left)

pub returns-in-Err-catch_up-clause-any_moment : goal.returns-in-Err-catch_up-clause-any_moment
returns-in-Err-catch_up-clause-any_moment g c =
    let entered = c.take_over.ensures in
    let begins : (f : List ℕ) → g.D.Device.may_leave c.args.self.now.device f ⊎ AfterOthers c.args.self.now.end (g.D.Device.may_leave c.args.self.now.device) f → BeginsWith (head_of g.D.Device c.args.self.now) (lines_of g.D.Device c.args.self.now) f =
    left_begins g.D.Device c.args.self.now c.requires.left in
    then_on g.D.Device _ _ _ _ _ _ entered.any_moment c.catch_up.ensures.any_moment begins
    (λ f left. ⊎_elim
    (λ now. begins f (entered.any_moment.each f (g.met.D.Device.counts_now c.take_over.new.self.device (g.D.Device.moment c.args.self.now.device) f entered.any_moment.later now)))
    (λ stands. enter_begins g.D.Device c.args.self.now c.take_over.new.self c.requires.left entered.places.0 entered.places.1 entered.front entered.known f stands)
    left)

pub returns-in-Err-clause-as_found : goal.returns-in-Err-clause-as_found
returns-in-Err-clause-as_found g c = inl (no_turn c.in-Err.why _ _ c.in-Err.ensures.none_found (λ is. c.in-Err.ensures.shorter (ap Err is)))

pub returns-in-Ok-catch_up-clause-turn : goal.returns-in-Ok-catch_up-clause-turn
returns-in-Ok-catch_up-clause-turn g c =
    whole_turn g.D.Device c.args.self.now c.take_over.new.self c.catch_up.new.self c.catch_up.ensures.start c.in-Ok.ensures.found c.catch_up.ensures.found c.in-Ok-catch_up.ensures.head c.in-Ok-catch_up.ensures.lines

pub returns-in-Ok-catch_up-clause-as_found : goal.returns-in-Ok-catch_up-clause-as_found
returns-in-Ok-catch_up-clause-as_found g c = inr (returns-in-Ok-catch_up-clause-turn g c)

pub returns-in-Err-catch_up-clause-as_found : goal.returns-in-Err-catch_up-clause-as_found
returns-in-Err-catch_up-clause-as_found g c =
    inr (stands_turn g.D.Device c.args.self.now c.take_over.new.self c.catch_up.new.self c.catch_up.ensures.start c.take_over.ensures.known c.in-Ok.ensures.found c.catch_up.ensures.found c.catch_up.ensures.view)
