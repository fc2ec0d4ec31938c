use Rattle.std.proofs.Common.{refl, rules}
use Rattle.race_parts.specs.Merging.{told_parts}
use Rattle.race_parts.proofs.MergingLemmas.{if_clash-map, if_err-map, merged_begins, on_ok-both, on_ok-map}
use Rattle.race_parts.proofs.merging.take_report.Goals as goal

pub returns-clause-ok : goal.returns-clause-ok
returns-clause-ok c =
    let lines = c.deref-2.result.now in
    on_ok-map c.take_merged.result
    (λ p. (
      told_parts lines,
      (lines, search rules, search rules, merged_begins lines c.in_ok-lines.ensures.head.0 c.args.begun.head (search rules) c.requires.merged, p.0, refl, p.1),
      p.2,
    ))
    c.take_merged.ensures.ok

pub returns-clause-held : goal.returns-clause-held
returns-clause-held c =
    let lines = c.deref-2.result.now in
    on_ok-both c.take_merged.result
    (λ p h. (
      told_parts lines,
      (lines, search rules, search rules, merged_begins lines c.in_ok-lines.ensures.head.0 c.args.begun.head (search rules) c.requires.merged, p.0, refl, p.1),
      h,
    ))
    c.take_merged.ensures.ok c.take_merged.ensures.held

pub returns-clause-there : goal.returns-clause-there
returns-clause-there c =
    let lines = c.deref-2.result.now in
    on_ok-both c.take_merged.result
    (λ p h. (
      told_parts lines,
      (lines, search rules, search rules, merged_begins lines c.in_ok-lines.ensures.head.0 c.args.begun.head (search rules) c.requires.merged, p.0, refl, p.1),
      h,
    ))
    c.take_merged.ensures.ok c.take_merged.ensures.there

pub returns-clause-clash : goal.returns-clause-clash
returns-clause-clash c =
    let lines = c.deref-2.result.now in
    if_err-map c.take_merged.result
    (λ why. if_clash-map why
    (λ other h. (
      told_parts lines,
      (lines, search rules, search rules, merged_begins lines c.in_ok-lines.ensures.head.0 c.args.begun.head (search rules) c.requires.merged, h.0, refl),
      h.1,
    )))
    c.take_merged.ensures.clash
