use Rattle.std.proofs.Common.{◌-◌, ◌≡◌, Some, None, length, slice_get, ap, ◌∙◌}
use Rattle.std.proofs.lemmas.Bool.{ltb-true}
use Rattle.moves.proofs.RisingLemmas.{ends_young, ends_older}
use Rattle.moves.proofs.rising.Rising.ends_below.Goals as goal

pub returns-in-Some : goal.returns-in-Some
returns-in-Some c = λ below.
    let young = c.self.inside.young.items in
    let at : Some c.in-Some.last.now ≡ slice_get young (length young - 1) = c.in-Some.ensures.value ∙ ap (λ F. slice_get F (length F - 1)) c.deref.ensures.value in
    ends_young c.self.inside.older.entries young c.args.self.now c.args.age c.in-Some.last.now c.self.view_is c.requires at (ltb-true c.in-Some.last.now.0 c.args.age below)

pub returns-in-Some-last_key_value : goal.returns-in-Some-last_key_value
returns-in-Some-last_key_value c = λ below.
    let young = c.self.inside.young.items in
    let last = c.in-Some-last_key_value.last.now in
    let at : None ≡ slice_get young (length young - 1) = c.in-None.ensures.value ∙ ap (λ F. slice_get F (length F - 1)) c.deref.ensures.value in
    ends_older c.self.inside.older.entries young c.args.self.now c.args.age (last, c.in-Some-last_key_value.field-0-1.now) c.self.view_is c.requires at c.in-Some-last_key_value.ensures.last (ltb-true last c.args.age below)
