use Rattle.std.proofs.Common.{ℕ, Option, slice_index, subst, arith}
use Rattle.explain_report.specs.declared.verdict.How.TheVariants.{Candidate as CandidateHow}
use Rattle.race_groups.specs.least_pairs.Pairs.{IsFit, IsLeastPair}
use Rattle.race_groups.specs.declared.least_pairs.wanted.Wanted.TheVariants.{Candidate}
use Rattle.race_triage.specs.Verdicts.{IsRaceOf}
use Rattle.race_triage.proofs.RowLemmas.{no_candidate}
use Rattle.race_triage.proofs.VerdictLemmas.{IsVerdict-made, candidate_counts, candidate_pair, race_is_not_apart, race_outcome}
use Rattle.race_triage.proofs.tables.Tables.candidate_row.Goals as goal

pub unreachable-requires : goal.unreachable-requires
unreachable-requires c =
    let r = c.args.self.now.indexed.now in
    let place = slice_index c.args.self.now.places.now in
    let row = c.args.row in
    let none = no_candidate r place row c.requires.row (subst (λ (o : Option (ℕ × ℕ)). IsLeastPair r place row.places Candidate o) c.in_default.is c.requires.least.candidate) in
    omega (arith, none, c.requires.candidates)

pub returns : goal.returns
returns c =
    let r = c.args.self.now.indexed.now in
    let place = slice_index c.args.self.now.places.now in
    let row = c.args.row in
    let pair = c.in-Some.pair in
    let o = c.in_ok-outcome.outcome in
    let least = subst (λ (p : Option (ℕ × ℕ)). IsLeastPair r place row.places Candidate p) c.in-Some.is c.requires.least.candidate in
    let fit : IsFit r place row.places Candidate pair.1 pair.0 = least.0 in
    let race : IsRaceOf r pair.1 pair.0 CandidateHow o = c.in_ok-outcome.ensures in
    let v = c.of_pair.ensures in
    IsVerdict-made r place c.args._effort.tries c.args._effort.apart row pair.1 pair.0 c.args.least.now.variables o c.of_pair.result v.first v.second v.row v.variables v.outcome
    (omega (arith, fit.pair.earlier, fit.pair.within)) fit.pair.within c.requires.row c.requires.there (λ _. (fit.pair, fit.at)) (race_outcome r pair.1 pair.0 row.counts CandidateHow o race)
    (candidate_counts r pair.1 pair.0 row.counts o race c.requires.candidates) (λ same. absurd (race_is_not_apart r pair.1 pair.0 row.counts CandidateHow o race same))
    c.requires.least.variables (candidate_pair r pair.1 pair.0 row.counts place c.args._effort.tries c.args._effort.apart row.places o race least)
