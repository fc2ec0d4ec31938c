-- The faults of `uses`.
use Rattle.std.proofs.Common.{◌≡◌, refl}
use Rattle.rapid_text.specs.Recording.{Recording}
use Rattle.client_scripts.specs.declared.fault.ReplayFault.{ReplayFault}
use Rattle.client_scripts.specs.declared.fault.ReplayFault.TheVariants.{Text, Rule, Script, Read, Write, OutOfMemory}
use Rattle.explain_report.specs.declared.places.name.Name.{Name}
use Rattle.uses_report.specs.Between.{AreNoUses}
use Rattle.uses_report.specs.declared.refusal.UsesFault.{UsesFault}
use Rattle.uses_report.specs.declared.refusal.UsesFault.TheVariants.{NoSuchPair as NoUsesPair, OutOfMemory as NoUsesMemory, TooMany}
use Rattle.calls.specs.pair.Uses.{IsUnused, uses_fault}
use Rattle.calls.specs.declared.pair.fault.PairFault.TheVariants.{Replay}

pub unused : (r : Recording) (one other : Name) (fault : UsesFault) → AreNoUses r one other fault → IsUnused r one other (uses_fault fault)
unused r one other NoUsesPair h = h
unused r one other TooMany h = h
unused r one other NoUsesMemory h = tt

pub unused-memory : (r : Recording) (one other : Name) (fault : ReplayFault) → IsUnused r one other (Replay fault) → fault ≡ OutOfMemory
unused-memory r one other OutOfMemory h = refl
unused-memory r one other (Text refusal) h = absurd h
unused-memory r one other (Rule refusal) h = absurd h
unused-memory r one other (Script refusal) h = absurd h
unused-memory r one other (Read input why) h = absurd h
unused-memory r one other Write h = absurd h
