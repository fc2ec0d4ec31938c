use Rattle.std.proofs.Common.{◌≡◌, None, get_or, length, ◌∙◌, arith, length-set, ◌<◌}
use Rattle.std.proofs.lemmas.List.{get_or_default}
use Rattle.event_index.proofs.SectionLemmas.{begun_held, begun_ends}
use Rattle.event_index.proofs.sections.begin.Goals as goal

pub returns : goal.returns
returns c =
    let T = c.args.raw.now.events in
    let v = c.requires.acquire.0 in
    let at = c.requires.acquire.1 in
    let op = c.requires.acquire.2 in
    let known = c.args.known.now in
    let lock : c.args.lock < length known.top.items = omega (arith, c.requires.known.top) in
    let before : c.index.result.now ≡ get_or known.top.items c.args.lock None = c.index.ensures ∙ get_or_default known.top.items c.args.lock c.index.result.now None lock in
    record {
      ends = begun_ends T c.args.event c.args.lock _ v _ at op c.requires.known.ends;
      outer = length-set known.outer.items c.args.event c.index.result.now ∙ c.requires.known.outer;
      top = length-set known.top.items c.args.lock _ ∙ c.requires.known.top;
      held = λ l within.
          rw before (begun_held T c.requires.disciplined known.outer.items known.top.items c.args.event c.args.lock v at op (omega (arith, c.requires.known.outer)) lock l (c.requires.known.held l within));
    }
