use Rattle.std.proofs.Common.{refl, sym, subst}
use Rattle.moves.specs.Judged.{Makes}
use Rattle.moves.proofs.TurnLemmas.{makes_turns, makes_applied, makes_wanting}
use Rattle.moves.proofs.listing.Listing.apply.Goals as goal

pub returns-in_default : goal.returns-in_default
returns-in_default c = makes_wanting c.args.indexed.now c.args.board.now c.args.birth c.args.command.now c.args.self.now _ c.args.self.now (c.in_ok-judged.ensures.judged c.args.birth) refl

pub turn-requires-clause-fits : goal.turn-requires-clause-fits
turn-requires-clause-fits c =
    makes_turns c.args.indexed.now c.args.board.now c.args.birth c.args.command.now c.args.self.now c.in-Ok.step c.writes-name.result (record { listing = c.requires.listing; low = c.requires.late })
    (subst (Makes c.args.indexed.now c.args.board.now c.args.birth c.args.command.now c.args.self.now) (sym c.in-Ok.ensures) (c.in_ok-judged.ensures.judged c.args.birth)) c.writes-name.ensures

pub returns-in_default-turn : goal.returns-in_default-turn
returns-in_default-turn c = makes_wanting c.args.indexed.now c.args.board.now c.args.birth c.args.command.now c.args.self.now _ c.turn.new.self (c.in_ok-judged.ensures.judged c.args.birth) c.in_default-turn.ensures.err

pub returns : goal.returns
returns c =
    makes_applied c.args.indexed.now c.args.board.now c.args.birth c.args.command.now c.args.self.now c.in-Ok.step c.in-Ok-turn.step c.writes-name.result c.turn.new.self
    (subst (Makes c.args.indexed.now c.args.board.now c.args.birth c.args.command.now c.args.self.now) (sym c.in-Ok.ensures) (c.in_ok-judged.ensures.judged c.args.birth)) c.writes-name.ensures c.in-Ok-turn.ensures.ok c.in-Ok-turn.ensures.back
