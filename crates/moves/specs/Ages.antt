-- Births as numbers.
use Rattle.std.specs.Prelude.{◌≡◌, ◌+◌, ◌*◌, ◌/◌, ◌%◌, ◌<◌, ℕ}
use Rattle.std.proofs.Common.{arith}
use Rattle.moves.specs.declared.birth.Birth.TheInside.{Inside}

-- a birth as a number: births are ordered by their entry, and then by their index in it
abbrev pub age : ℕ → ℕ → ℕ
age entry place = entry * 4294967296 + place

abbrev pub age_of : Inside → ℕ
age_of b = age b.entry b.place

-- the index in an entry is below the factor of the entry
abbrev pub IsShort : Inside → Type 0
IsShort b = b.place < 4294967296

-- the birth of this age
abbrev pub born_at : ℕ → Inside
born_at n = record { entry = n / 4294967296; place = n % 4294967296 }

pub born_at-age_of : (b : Inside) → IsShort b → born_at (age_of b) ≡ b
born_at-age_of b short =
    let entry : age_of b / 4294967296 ≡ b.entry = omega (arith, short) in
    let place : age_of b % 4294967296 ≡ b.place = omega (arith, short) in
    λ i. record { entry = entry i; place = place i }
