use Rattle.std.proofs.Common.{◌≡◌, ◌∙◌, ℕ, List, length, subst, sym}
use Rattle.window.specs.Streams.{IsHeldText}
use Rattle.window.proofs.known.Known.go_on.Goals as goal

pub returns-clause-held : goal.returns-clause-held
returns-clause-held c =
    let same = c.in_ok-take_in.ensures.held in
    let made = subst (λ (text : List ℕ). (is : IsHeldText c.args.trace.now text) × (c.in_ok-later.later.holds ≡ length is.events)) (sym same.0) c.in_ok-later.ensures.held in
    (made.0, same.1 ∙ made.1)
