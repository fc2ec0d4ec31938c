use Rattle.std.proofs.Common.{ℕ, List, Ok, Err, rules}
use Rattle.std.proofs.lemmas.List.Sorted.{answers_always}
use Rattle.moves.specs.declared.row.Row.{Row}
use Rattle.moves.proofs.RisingLemmas.{place-searched, none-searched}
use Rattle.moves.proofs.rising.place_of.Goals as goal

pub returns-in-Ok-clause-some : goal.returns-in-Ok-clause-some
returns-in-Ok-clause-some c =
    place-searched c.args.young.now c.requires c.args.age (Ok c.in-Ok.at) c.in-Ok.ensures.bound
    (c.in-Ok.ensures.position (λ (e : ℕ × (List ℕ × Row)). e.0) (answers_always _ _ _ (λ f a r g k. search rules)))

pub returns-in-Err-clause-none : goal.returns-in-Err-clause-none
returns-in-Err-clause-none c =
    none-searched c.args.young.now c.requires c.args.age (Err c.in-Err.field-0) c.in-Err.ensures.bound
    (c.in-Err.ensures.position (λ (e : ℕ × (List ℕ × Row)). e.0) (answers_always _ _ _ (λ f a r g k. search rules)))
