use Rattle.std.proofs.Common.{◌≡◌, ◌∙◌, rules}
use Rattle.serde_json.specs.Data.{null}
use Rattle.serde_json.specs.View.{view}
use Rattle.serde_json.specs.declared.value.Value.{Null, the_lemmas}
use Rattle.race_parts.proofs.FactLemmas.{data_none}
use Rattle.race_parts.proofs.facts.data_of.Goals as goal

pub returns-in-None : goal.returns-in-None
returns-in-None c =
    let empty : view Null ≡ null = search (rules, the_lemmas) in
    empty ∙ data_none c.args.line.now (search rules)
