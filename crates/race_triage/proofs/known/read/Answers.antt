use Rattle.std.proofs.Common.{◌∷◌, rules, sym, subst}
use Rattle.std.specs.Prelude.{◌↔◌, ◌⊎◌}
use Rattle.race_triage.specs.Blocks.{IsAhead, IsTold}
use Rattle.race_triage.specs.declared.known.Block.{Block}
use Rattle.race_triage.specs.declared.known.Block.TheVariants.{Nothing, First}
use Rattle.std.proofs.Common.{Some}
use Rattle.race_triage.proofs.KnownLemmas.{read-first, read-head, read-nothing, read-same, read-second}
use Rattle.race_triage.proofs.known.read.Goals as goal

pub returns-then-is_head : goal.returns-then-is_head
returns-then-is_head c left one other = read-head c.args.line.now left one other c.args.block (search rules)

pub returns-then-not-is_access : goal.returns-then-not-is_access
returns-then-not-is_access c left one other = read-same c.args.line.now left one other c.args.block (search rules) (search rules)

pub returns-in-Nothing : goal.returns-in-Nothing
returns-in-Nothing c left one other =
    subst (λ (b : Block). IsAhead b (c.args.line.now ∷ left) one other ↔ (⊥ ⊎ IsAhead Nothing left one other)) (sym c.in-Nothing.is) (read-nothing c.args.line.now left one other (search rules))

pub returns-in-Race : goal.returns-in-Race
returns-in-Race c left one other =
    subst (λ (b : Block). IsAhead b (c.args.line.now ∷ left) one other ↔ (⊥ ⊎ IsAhead (First c.args.line) left one other)) (sym c.in-Race.is)
    (read-first c.args.line left (search rules) (search rules) one other)

pub returns-in-First : goal.returns-in-First
returns-in-First c left one other =
    subst (λ (b : Block). IsAhead b (c.args.line.now ∷ left) one other ↔ (IsTold (Some (c.in-First.first, c.args.line)) one other ⊎ IsAhead Nothing left one other)) (sym c.in-First.is)
    (read-second c.args.line left (search rules) (search rules) one other c.in-First.first)
