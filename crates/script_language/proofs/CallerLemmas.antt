-- What the crates above need to know of lists of calls.
use Rattle.std.proofs.Common.{◌≡◌, ℕ, Option, Some, None, option_map, refl}
use Rattle.inverse_log.specs.declared.call.Call.{Call}
use Rattle.script_language.specs.Scripts.{Asked}

-- the element of which something is known
pub option_map-some : {X Y : Type 0} (f : X → Y) (o : Option X) (y : Y) → option_map f o ≡ Some y → (x : X) × (o ≡ Some x) × (f x ≡ y)
option_map-some f None y e = cc
option_map-some f (Some x) y e = (x, refl, cc)

-- a client and its call
pub asked-both : (o : Option Asked) (asked : ℕ × Call) → option_map (λ (a : Asked). a.client) o ≡ Some asked.0 → option_map (λ (a : Asked). a.call) o ≡ Some asked.1 → option_map (λ (a : Asked). (a.client, a.call)) o ≡ Some asked
asked-both None asked e f = cc
asked-both (Some a) (client, call) e f =
    let first : a.client ≡ client = cc in
    let second : a.call ≡ call = cc in
    rw (first, second) refl
