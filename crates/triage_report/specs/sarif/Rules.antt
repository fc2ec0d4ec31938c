-- The texts around the results of a SARIF log: the tool with its rules, and the numbers of this crate's contracts. The
-- proofs compare the constants of the code with them. All notions here are this project's own.
use Rattle.std.specs.Prelude.{◌≡◌, ℕ, List, ◌++◌, codes}
use Rattle.explain_report.specs.declared.places.arrows.TheConstants.{MAX_CALLS}
use Rattle.triage_report.specs.declared.sarif.flows.TheConstants.{MOST_ORDER, MOST_STEPS}
use Rattle.triage_report.specs.declared.sarif.logs.TheConstants.{END, HEAD, MOST_FLOWS, PROPERTIES}
use Rattle.triage_report.specs.declared.sarif.places.TheConstants.{MOST_LINE}

-- a rule: its id, its name, and what it is about
abbrev pub rule_begin : List ℕ → List ℕ → List ℕ → List ℕ
rule_begin id name about =
    codes "{\"id\":\"" ++ id ++ codes "\",\"name\":\"" ++ name ++ codes "\",\"shortDescription\":{\"text\":\"" ++ about ++ codes "\"},"

-- what to do about a result of a rule
abbrev pub rule_help : List ℕ → List ℕ
rule_help words = codes "\"help\":{\"text\":\"" ++ words ++ codes "\"},"

-- the level of the results of a rule
abbrev pub rule_end : List ℕ → List ℕ
rule_end level = codes "\"defaultConfiguration\":{\"level\":\"" ++ level ++ codes "\"}}"

-- the three rules
abbrev pub rules_text : List ℕ
rules_text =
    rule_begin (codes "data-race") (codes "DataRace") (codes "Two threads access the same memory at the same time, and one of them writes.")
    ++ rule_help (codes "A schedule of the recorded run brings the two accesses next to each other. Protect both with one lock, make them atomic, or order them.")
    ++ rule_end (codes "error")
    ++ codes ","
    ++ rule_begin (codes "undecided-pair") (codes "UndecidedPair") (codes "Two accesses that may race: no schedule that shows it was found, and nothing rules one out.")
    ++ rule_help (codes "Raise --tries, or record another seed.")
    ++ rule_end (codes "warning")
    ++ codes ","
    ++ rule_begin (codes "apart") (codes "Apart") (codes "Two accesses that every correct reordering of the recorded run keeps apart.")
    ++ rule_end (codes "none")

-- the text after the results: the tool with its rules
abbrev pub tail_text : List ℕ
tail_text = codes "],\"tool\":{\"driver\":{\"name\":\"racebench\",\"rules\":[" ++ rules_text ++ codes "]}},\"originalUriBaseIds\":"

-- the texts before the results, before the numbers of verdicts that were left out, and at the end
abbrev pub AreFrames : Type 0
AreFrames =
    (HEAD.now ≡ codes "{\"$schema\":\"https://json.schemastore.org/sarif-2.1.0.json\",\"version\":\"2.1.0\",\"runs\":[{\"results\":[")
    × (PROPERTIES.now ≡ codes ",\"properties\":")
    × (END.now ≡ codes "}]}\n")

-- the most results with a code flow, steps of a thread in one, and calls of an access; the largest numbers of a step and
-- of a line
abbrev pub AreLimits : Type 0
AreLimits = (MOST_FLOWS ≡ 200) × (MOST_STEPS ≡ 200) × (MAX_CALLS ≡ 64) × (MOST_ORDER ≡ 4294967295) × (MOST_LINE ≡ 1000000000)
