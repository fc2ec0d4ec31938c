use Rattle.std.proofs.Common.{ℕ}
use Rattle.race_triage.specs.Blocks.{ArePair}
use Rattle.race_triage.proofs.KnownLemmas.{if_none, if_some, IsNoted-none, IsNoted-some}
use Rattle.race_triage.proofs.known.note.Goals as goal

pub returns-in_default-2 : goal.returns-in_default-2
returns-in_default-2 c =
    IsNoted-none c.args.places.now.locations.keys c.args.told c.in-Some.one c.in-Some.other c.in-Some.is (if_none c.in_ok-pair.field-0 c.in_ok-pair.ensures.none c.in_default-2.is) c.args.known.now.keys

pub returns : goal.returns
returns c =
    let keys = c.args.places.now.locations.keys in
    let pair : ArePair keys c.in-Some.one.now c.in-Some.other.now c.in-Some-2.pair.0 c.in-Some-2.pair.1 =
    if_some (λ (k : ℕ × ℕ). ArePair keys c.in-Some.one.now c.in-Some.other.now k.0 k.1) c.in_ok-pair.field-0 c.in-Some-2.pair c.in_ok-pair.ensures.some c.in-Some-2.is in
    IsNoted-some keys c.args.told c.in-Some.one c.in-Some.other c.in-Some.is c.in-Some-2.pair.0 c.in-Some-2.pair.1 pair c.args.known.now.keys c.insert.new.self.keys c.in_ok-insert.ensures.keys
