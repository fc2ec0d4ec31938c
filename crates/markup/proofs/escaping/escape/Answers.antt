use Rattle.std.proofs.Common.{◌≡◌, ◌++◌, List, ℕ, chars, flat_map, string_bytes, map-id, sym, ap, ◌∙◌}
use Rattle.std.proofs.lemmas.Iterator.{YieldsList-from_chars}
use Rattle.std.proofs.lemmas.Iterator.Consumers.{YieldsList-end}
use Rattle.markup.specs.Escaped.{escaped, escaped_char}
use Rattle.markup.proofs.escaping.escape.Goals as goal

pub returns-clause-ok : goal.returns-clause-ok
returns-clause-ok c =
    let text : List ℕ = c.deref.result.now in
    let done = YieldsList-end (YieldsList-from_chars text c.deref.utf8 cc) c.loop-letter.yielded _ c.loop-letter.yielded_by _ _ c.in-None.is c.next.ensures.steps in
    let whole : string_bytes c.loop-letter.markup ≡ flat_map escaped_char (chars text) =
    c.loop-letter.invariant ∙ ap (λ cs. flat_map escaped_char cs) (sym (map-id c.loop-letter.yielded) ∙ done.0) in
    let bytes : string_bytes c.loop-letter.markup ≡ escaped c.args.bytes.now =
    whole ∙ ap (λ (t : List ℕ). flat_map escaped_char (chars t)) (c.deref.ensures ∙ c.in_ok-text.ensures.lossy) in
    rw (← bytes, ← c.as_bytes.ensures.value) (c.in_ok-extend_from_slice.ensures.items)
