use Rattle.std.proofs.Common.{◌≡◌, ◌∙◌, ap, rules}
use Rattle.serde_json.specs.Data.{null}
use Rattle.serde_json.specs.View.{view}
use Rattle.serde_json.specs.declared.value.Value.{Null, the_lemmas}
use Rattle.race_parts.specs.Said.{said_by}
use Rattle.race_parts.proofs.FactLemmas.{data_none}
use Rattle.race_parts.proofs.facts.fact_in.Goals as goal

pub returns-in-None : goal.returns-in-None
returns-in-None c name =
    let empty : view Null ≡ null = search (rules, the_lemmas) in
    ap (said_by name c.args.line.now) (empty ∙ data_none c.args.line.now (search rules))
