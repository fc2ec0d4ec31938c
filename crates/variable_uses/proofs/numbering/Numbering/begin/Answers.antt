use Rattle.std.proofs.Common.{◌≡◌, ◌+◌, ◌∙◌, ap, get_or, length, refl, set, arith}
use Rattle.std.proofs.lemmas.Grind.{get_or_default_zero}
use Rattle.variable_uses.proofs.NumberLemmas.{IsNumbered-known, IsNumbered-new, IsNumbered-none, firsts_within}
use Rattle.variable_uses.proofs.numbering.Numbering.begin.Goals as goal

pub returns-then-key-eq0-clause-numbered : goal.returns-then-key-eq0-clause-numbered
returns-then-key-eq0-clause-numbered c = IsNumbered-none c.args.keys.now c.args.event c.args.slots.now.items c.args.self.now c.requires.numbered c.if-key-eq0.true

pub returns-then-index-ne0-clause-numbered : goal.returns-then-index-ne0-clause-numbered
returns-then-index-ne0-clause-numbered c =
    let within = c.requires.slots c.args.event 0 c.requires.event in
    let value : c.index.result.now ≡ get_or c.args.slots.now.items (get_or c.args.keys.now c.args.event 0) 0 = c.index.ensures ∙ get_or_default_zero c.args.slots.now.items (get_or c.args.keys.now c.args.event 0) c.index.result.now within in
    IsNumbered-known c.args.keys.now c.args.event c.args.slots.now.items c.args.self.now c.requires.numbered (omega (arith, c.if-key-eq0.false)) (omega (arith, c.if-index-ne0.true, value))

pub overflow_cast-len : goal.overflow_cast-len
overflow_cast-len c =
    let few = firsts_within c.args.keys.now c.args.event c.args.self.now.firsts.items c.requires.numbered.firsts in
    omega (arith, few, c.requires.few, c.requires.event, c.in_ok-push.ensures.len, c.len.ensures)

pub returns-clause-numbered : goal.returns-clause-numbered
returns-clause-numbered c =
    let within = c.requires.slots c.args.event 0 c.requires.event in
    let value : c.index.result.now ≡ get_or c.args.slots.now.items (get_or c.args.keys.now c.args.event 0) 0 = c.index.ensures ∙ get_or_default_zero c.args.slots.now.items (get_or c.args.keys.now c.args.event 0) c.index.result.now within in
    let len : c.len.result ≡ length c.args.self.now.firsts.items + 1 = omega (arith, c.len.ensures, c.in_ok-push.ensures.len) in
    IsNumbered-new c.args.keys.now c.args.event c.args.slots.now.items c.args.self.now c.requires.numbered _ _ (omega (arith, c.if-key-eq0.false)) (omega (arith, c.if-index-ne0.false, value)) within
    c.in_ok-push.ensures.items refl (ap (λ m. set c.args.slots.now.items (get_or c.args.keys.now c.args.event 0) m) len)
