use Rattle.std.proofs.Common.{◌≡◌, ℕ, cond, List, Some, None, ap, ◌∙◌}
use Rattle.std.specs.Map.{lookup, values_of}
use Rattle.std.specs.Str.{bytes_eq}
use Rattle.moves.specs.Rows.{row_of, IsFree}
use Rattle.moves.proofs.BirthLemmas.{rises_held, free_held, held_put, is_done}
use Rattle.moves.proofs.listing.Listing.put.Goals as goal

pub insert-requires-clause-rises : goal.insert-requires-clause-rises
insert-requires-clause-rises c = rises_held c.self.inside.births.entries c.self.inside.rows c.self.invariant

pub insert-requires-clause-new : goal.insert-requires-clause-new
insert-requires-clause-new c =
    let N = c.self.inside.births.entries in
    let T = c.self.inside.rows in
    let none : row_of (values_of T) c.args.name ≡ None = rw c.self.view_is c.requires.fresh in
    let free : IsFree (values_of T) c.args.name (Some c.args.row) = rw c.self.view_is c.requires.free in
    rw c.age.ensures (free_held N T c.self.invariant c.args.name c.args.row none free)

pub invariant_of-self-in-Ok-insert : goal.invariant_of-self-in-Ok-insert
invariant_of-self-in-Ok-insert c =
    let N = c.self.inside.births.entries in
    let T = c.self.inside.rows in
    let none : row_of (values_of T) c.args.name ≡ None = rw c.self.view_is c.requires.fresh in
    let free : IsFree (values_of T) c.args.name (Some c.args.row) = rw c.self.view_is c.requires.free in
    let there = c.insert-in-Ok-insert in
    let put = is_done there.result _ (there.ensures.succeeds c.in-Ok.ensures.ok) there.ensures.updates in
    let names : (y : List ℕ) → lookup (bytes_eq y) there.new.self.entries ≡ cond (bytes_eq c.args.name y) (Some c.args.row.birth) (lookup (bytes_eq y) N) =
    λ y. put.0 y ∙ ap (λ es. cond (bytes_eq c.args.name y) (Some c.args.row.birth) (lookup (bytes_eq y) es)) c.in-Ok.ensures.entries in
    let done = held_put N T c.self.invariant there.new.self.entries c.insert.new.self c.args.name c.args.row none free (rw c.age.ensures at c.in-Ok-insert.ensures.ok) names in
    done.1

pub returns-in-Ok-insert-clause-ok : goal.returns-in-Ok-insert-clause-ok
returns-in-Ok-insert-clause-ok c =
    let N = c.self.inside.births.entries in
    let T = c.self.inside.rows in
    let none : row_of (values_of T) c.args.name ≡ None = rw c.self.view_is c.requires.fresh in
    let free : IsFree (values_of T) c.args.name (Some c.args.row) = rw c.self.view_is c.requires.free in
    let there = c.insert-in-Ok-insert in
    let put = is_done there.result _ (there.ensures.succeeds c.in-Ok.ensures.ok) there.ensures.updates in
    let names : (y : List ℕ) → lookup (bytes_eq y) there.new.self.entries ≡ cond (bytes_eq c.args.name y) (Some c.args.row.birth) (lookup (bytes_eq y) N) =
    λ y. put.0 y ∙ ap (λ es. cond (bytes_eq c.args.name y) (Some c.args.row.birth) (lookup (bytes_eq y) es)) c.in-Ok.ensures.entries in
    let done = held_put N T c.self.invariant there.new.self.entries c.insert.new.self c.args.name c.args.row none free (rw c.age.ensures at c.in-Ok-insert.ensures.ok) names in
    rw (← c.self.view_is) done.0
