use Rattle.std.proofs.Common.{◌≡◌, ◌++◌, OnOk, drop, subst}
use Rattle.race_parts.specs.Texts.{run_count, tally_text}
use Rattle.race_parts.proofs.text.append_tallies.Goals as goal

pub returns : goal.returns
returns c =
    let left = drop c.args.at c.args.cells.now in
    let counts = c.run_counts-counts.result in
    let told = c.run_counts-counts.ensures in
    subst (λ n. OnOk c.append_tally.result (c.append_tally.new.out.items ≡ c.args.out.now.items ++ tally_text c.args.parts (run_count c.args.cell 0 left) (run_count c.args.cell 1 left) n)) told.apart
    (subst (λ n. OnOk c.append_tally.result (c.append_tally.new.out.items ≡ c.args.out.now.items ++ tally_text c.args.parts (run_count c.args.cell 0 left) n counts.apart)) told.undecided
    (subst (λ n. OnOk c.append_tally.result (c.append_tally.new.out.items ≡ c.args.out.now.items ++ tally_text c.args.parts n counts.undecided counts.apart)) told.races
    c.append_tally.ensures))
