use Rattle.std.proofs.Common.{length, ap, arith, ◌∙◌, sym, subst}
use Rattle.std.proofs.Common.{All, List}
use Rattle.rapid_text.specs.Recording.{IsNamed}
use Rattle.rapid_text.specs.declared.event.Event.{Event}
use Rattle.window.specs.Cuts.{with_name}
use Rattle.window.proofs.PrologueLemmas.{prologue_named, prologue_long}
use Rattle.window.proofs.ShortLemmas.{short_law}
use Rattle.window.proofs.prologue.prologue_in.Goals as goal

pub returns-clause-named : goal.returns-clause-named
returns-clause-named c name =
    subst (λ (es : List Event). All (IsNamed (with_name c.args.trace.now name)) es) (sym c.in_ok-events.ensures)
    (prologue_named c.args.trace.now c.raw.ensures.well_formed c.args.from c.args.to c.requires.from c.requires.to name)

pub returns-clause-size : goal.returns-clause-size
returns-clause-size c = ap (λ (es : List Event). length es) c.in_ok-events.ensures ∙ prologue_long c.args.trace.now c.args.from c.args.to

pub returns-clause-short : goal.returns-clause-short
returns-clause-short c =
    let r = c.args.trace.now in
    let long = ap (λ (es : List Event). length es) c.in_ok-events.ensures ∙ prologue_long r c.args.from c.args.to in
    omega (arith, long, short_law r.events c.args.from c.args.to (length r.threads) (length r.locks) c.requires.from c.requires.to)
