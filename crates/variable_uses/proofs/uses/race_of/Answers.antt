use Rattle.std.proofs.Common.{◌<◌, length, sym, subst}
use Rattle.rapid_text.specs.Recording.{Recording}
use Rattle.variable_uses.specs.Edges.{AreEdges, AreSidesBefore}
use Rattle.variable_uses.specs.Ends.{AreNamedBefore, is_end_of}
use Rattle.variable_uses.proofs.RaceLemmas.{IsSide-edges}
use Rattle.variable_uses.proofs.uses.race_of.Goals as goal

pub sides_of-requires-clause-firsts : goal.sides_of-requires-clause-firsts
sides_of-requires-clause-firsts c = λ t f at. subst (λ (m : Recording). f < length m.events) (sym c.requires.must) (c.in_ok-edges.ensures.edges.of_firsts t f at).0

pub sides_of-requires-clause-lasts : goal.sides_of-requires-clause-lasts
sides_of-requires-clause-lasts c = λ t f at. subst (λ (m : Recording). f < length m.events) (sym c.requires.must) (c.in_ok-edges.ensures.edges.of_lasts t f at).0

pub returns : goal.returns
returns c =
    let T = c.args.indexed.now.events in
    let firsts = c.in_ok-edges.edges.firsts.items in
    let lasts = c.in_ok-edges.edges.lasts.items in
    let edges =
    subst (λ flags. AreEdges c.args.indexed.now.events (is_end_of c.args.numbers.now flags) (length c.args.indexed.now.events) c.in_ok-edges.edges.firsts.items c.in_ok-edges.edges.lasts.items) c.as_slice.ensures.value
    c.in_ok-edges.ensures.edges in
    let said =
    subst (λ (m : Recording). AreSidesBefore m.events c.args.numbers.now (length c.args.numbers.now) c.in_ok-edges.edges.firsts.items c.in_ok-edges.edges.lasts.items c.in_ok-sides.sides.items) c.requires.must
    c.in_ok-sides.ensures.sides in
    record {
      race =
          record {
            len = c.in_ok-flags.ensures.len;
            sides_len = c.in_ok-sides.ensures.len;
            flags = subst (λ n. AreNamedBefore c.args.numbers.now c.args.named.now n c.in_ok-flags.flags.items) c.requires.len c.in_ok-flags.ensures.named;
            sides = λ k side at. IsSide-edges T c.len-len.ensures.disciplined c.args.numbers.now c.in_ok-flags.flags.items c.requires.len firsts lasts edges c.in_ok-sides.sides.items said k side at;
          };
    }
