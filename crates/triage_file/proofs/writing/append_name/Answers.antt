use Rattle.std.proofs.Common.{◌≡◌, ◌++◌, ◌∷◌, [], ℕ, List, OnOk, ap, codes, subst, ◌∙◌}
use Rattle.std.specs.List.{concat}
use Rattle.variable_names.specs.Names.{without_number}
use Rattle.triage_file.specs.Writing.{text_of}
use Rattle.triage_file.proofs.writing.append_name.Goals as goal

pub returns : goal.returns
returns c =
    let same : c.as_bytes.result.now ≡ text_of (without_number c.args.name.now) =
    c.as_bytes.ensures.value ∙ c.in_ok-text.ensures ∙ ap (λ (bytes : List ℕ). text_of bytes) (c.as_slice.ensures.value ∙ c.in_ok-plain.ensures) in
    subst (λ (bytes : List ℕ). OnOk c.append_three.result (c.append_three.new.out.items ≡ c.args.out.now.items ++ concat (codes "variables = [" ∷ bytes ∷ codes "]\n" ∷ []))) same c.append_three.ensures
