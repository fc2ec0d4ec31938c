-- A refusal, as the call has it.
use Rattle.std.proofs.Common.{◌≡◌, ℕ, List, IfSome, Option}
use Rattle.race_parts.specs.Merging.{ClashesIn, IsRefused}
use Rattle.race_parts.specs.Parts.{IfClash}
use Rattle.race_parts.specs.declared.lines.PartRefusal.{PartRefusal}
use Rattle.race_parts.specs.declared.lines.PartRefusal.TheVariants.{Line, Version, Clash, OutOfMemory}
use Rattle.calls.specs.Merged.{IsUntaken, Named, fault_of}

pub untaken : (old : Named) (file : ℕ) (name : List ℕ) (rest : Option (List ℕ)) (bytes : List ℕ) (why : PartRefusal)
    → IfSome rest (λ told. bytes ≡ told) → IsRefused bytes why → IfClash why (ClashesIn old name bytes file) → IsUntaken old file name rest (fault_of why)
untaken old file name rest bytes (Line line) read refused clash = (bytes, read, refused)
untaken old file name rest bytes Version read refused clash = (bytes, read, refused)
untaken old file name rest bytes (Clash other) read refused clash = (bytes, read, clash)
untaken old file name rest bytes OutOfMemory read refused clash = tt
