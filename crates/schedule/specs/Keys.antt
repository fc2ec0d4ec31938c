-- The keys of the table of latest events: the number of a variable or of a lock.
use Rattle.std.specs.Prelude.{◌≡◌, Bool, true, false, nat_eq}
use Rattle.std.specs.Cmp.{IsEquivalence, nat_eq_equiv}
use Rattle.std.proofs.Common.{refl}
use Rattle.std.proofs.lemmas.Bool.{false≢true}
use Rattle.schedule.specs.declared.latest.Key.{Key}
use Rattle.schedule.specs.declared.latest.Key.TheVariants.{Variable, Lock}

-- whether both are the same variable, or the same lock
abbrev pub key_eq : Key → Key → Bool
key_eq (Variable x) (Variable y) = nat_eq x y
key_eq (Lock l) (Lock m) = nat_eq l m
key_eq k q = false

key_eq-refl : (k : Key) → key_eq k k ≡ true
key_eq-refl (Variable x) = nat_eq_equiv.refl x
key_eq-refl (Lock l) = nat_eq_equiv.refl l

key_eq-symm : (k q : Key) → key_eq k q ≡ key_eq q k
key_eq-symm (Variable x) (Variable y) = nat_eq_equiv.symm x y
key_eq-symm (Variable x) (Lock m) = refl
key_eq-symm (Lock l) (Variable y) = refl
key_eq-symm (Lock l) (Lock m) = nat_eq_equiv.symm l m

key_eq-congr : (k q r : Key) → key_eq k q ≡ true → key_eq k r ≡ key_eq q r
key_eq-congr (Variable x) (Variable y) (Variable z) same = nat_eq_equiv.congr x y z same
key_eq-congr (Variable x) (Variable y) (Lock z) same = refl
key_eq-congr (Variable x) (Lock y) r same = absurd (false≢true same)
key_eq-congr (Lock x) (Variable y) r same = absurd (false≢true same)
key_eq-congr (Lock x) (Lock y) (Variable z) same = refl
key_eq-congr (Lock x) (Lock y) (Lock z) same = nat_eq_equiv.congr x y z same

pub key_eq_equiv : IsEquivalence key_eq
key_eq_equiv = record { refl = key_eq-refl; symm = key_eq-symm; congr = key_eq-congr }
