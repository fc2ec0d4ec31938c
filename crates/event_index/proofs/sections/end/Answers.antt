use Rattle.std.proofs.Common.{◌≡◌, ◌<◌, None, get_or, length, ◌∙◌, arith, length-set, sym}
use Rattle.std.proofs.lemmas.List.{get_or_default}
use Rattle.event_index.proofs.SectionLemmas.{top_found, top_read}
use Rattle.event_index.proofs.sections.end.Goals as goal

pub index_mut-requires : goal.index_mut-requires
index_mut-requires c =
    let read = top_read c.args.raw.now c.requires.disciplined _ _ _ c.requires.release c.requires.lock c.requires.known _ c.index.ensures _ c.in-Some.is in
    omega (arith, read.0, c.requires.known.ends.len)

pub index-requires-in-Some : goal.index-requires-in-Some
index-requires-in-Some c =
    let read = top_read c.args.raw.now c.requires.disciplined _ _ _ c.requires.release c.requires.lock c.requires.known _ c.index.ensures _ c.in-Some.is in
    omega (arith, read.0, c.requires.known.outer)

pub returns-in-Some : goal.returns-in-Some
returns-in-Some c =
    let known = c.args.known.now in
    let read = top_read c.args.raw.now c.requires.disciplined _ _ _ c.requires.release c.requires.lock c.requires.known _ c.index.ensures _ c.in-Some.is in
    let within : c.in-Some.acquire < length known.outer.items = omega (arith, read.0, c.requires.known.outer) in
    let below : get_or known.outer.items c.in-Some.acquire None ≡ c.index-in-Some.result.now =
    sym (c.index-in-Some.ensures ∙ get_or_default known.outer.items c.in-Some.acquire c.index-in-Some.result.now None within) in
    record {
      ends = read.1;
      outer = c.requires.known.outer;
      top = length-set known.top.items c.args.lock c.index-in-Some.result.now ∙ c.requires.known.top;
      held = λ l inside. rw (← below) (read.2 l inside);
    }

pub returns-in_default : goal.returns-in_default
returns-in_default c =
    let found = top_found c.args.raw.now c.requires.disciplined _ _ _ c.requires.release c.requires.lock c.requires.known _ c.index.ensures in
    absurd (c.in_default.not-Some found.0 found.1)
