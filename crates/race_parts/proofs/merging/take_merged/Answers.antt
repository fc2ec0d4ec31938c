use Rattle.std.proofs.Common.{All, List, ap, ◌∙◌, map, rules, subst}
use Rattle.std.specs.Option.{option_or}
use Rattle.serde_json.specs.declared.value.Value.{Value}
use Rattle.race_parts.specs.Merging.{IsClash, IsPartText, told_of}
use Rattle.race_parts.specs.Parts.{AreThere, held_at, held_from, joined, text_at, told_in}
use Rattle.race_parts.proofs.MergingLemmas.{if_clash-map, if_err-map, on_ok-map}
use Rattle.race_parts.proofs.merging.take_merged.Goals as goal

pub returns-clause-ok : goal.returns-clause-ok
returns-clause-ok c =
    on_ok-map c.take_told.result
    (λ p. (
      search rules,
      subst (λ (vs : List Value). All (λ e. IsPartText e.1) (map told_of vs)) c.part_lines.ensures p.0,
      λ q. p.1 q ∙ ap (λ (vs : List Value). joined (text_at c.args.parts.now q) (told_in (map told_of vs) q.items)) c.part_lines.ensures,
    ))
    c.take_told.ensures.ok

pub returns-clause-held : goal.returns-clause-held
returns-clause-held c =
    on_ok-map c.take_told.result
    (λ h q.
    h q
    ∙ ap (λ (vs : List Value). option_or (held_at c.args.parts.now q) (held_from c.args.file (told_in (map told_of vs) q.items))) c.part_lines.ensures)
    c.take_told.ensures.held

pub returns-clause-there : goal.returns-clause-there
returns-clause-there c =
    on_ok-map c.take_told.result
    (subst (λ (vs : List Value). AreThere c.take_told.new.parts (map told_of vs)) c.part_lines.ensures)
    c.take_told.ensures.there

pub returns-clause-clash : goal.returns-clause-clash
returns-clause-clash c =
    if_err-map c.take_told.result
    (λ why. if_clash-map why
    (λ other h. (search rules, subst (λ (vs : List Value). IsClash c.args.parts.now c.args.file (map told_of vs) other) c.part_lines.ensures h)))
    c.take_told.ensures.clash
