use Rattle.std.proofs.Common.{◌≡◌, ◌++◌, List, ℕ, refl, ap, ◌∙◌}
use Rattle.std.proofs.lemmas.Result.{on_ok_weaker}
use Rattle.serde_json.specs.Data.{no_members, object}
use Rattle.serde_json.specs.View.{members_view, view}
use Rattle.race_parts.specs.Pairs.{pair_shown}
use Rattle.triage_report.specs.sarif.Accesses.{access_told}
use Rattle.triage_report.specs.sarif.Merged.{merged_words, told_in}
use Rattle.triage_report.specs.sarif.Results.{found_members}
use Rattle.triage_report.proofs.sarif.ResultLemmas.{found-same}
use Rattle.triage_report.proofs.sarif.merged.put_row.Goals as goal

pub returns : goal.returns
returns c =
    let s = c.args.sources in
    let p = pair_shown c.args.pair in
    let d = view c.args.row.now in
    let said = merged_words c.args.parts p d in
    let one = access_told c.access_of.result in
    let other = access_told c.access_of-2.result in
    on_ok_weaker c.put_found.result
    (λ (put : members_view c.put_found.new.members.entries ≡ found_members s c.args.pair.rank c.as_slice.result.now one other (members_view c.args.members.now.entries)).
    ap object
    (put
    ∙ found-same s c.args.pair.rank p.rank c.as_slice.result.now said one (told_in 0 d) other (told_in 1 d) (members_view c.args.members.now.entries) no_members refl
    (c.as_slice.ensures.value ∙ c.in_ok-append_words.ensures ∙ ap (λ (xs : List ℕ). xs ++ said) c.new-words.ensures.items)
    c.access_of.ensures c.access_of-2.ensures (ap members_view c.requires)))
    c.put_found.ensures
