-- Lemmas for the crates above: what a test of an operation tells; and what a function gives at the first
-- of some places.
use Rattle.std.proofs.Common.{◌≡◌, ℕ, true, eqb-true, sym, ap}
use Rattle.std.proofs.lemmas.Bool.{true≢false}
use Rattle.rapid_text.specs.Operations.{is_read, is_write, is_acquire, is_release, is_fork, is_join}
use Rattle.rapid_text.specs.declared.event.Op.{Op}
use Rattle.rapid_text.specs.declared.event.Op.TheVariants.{Read, Write, Acquire, Release, Fork, Join}
pub use Rattle.rapid_text.proofs.FirstFound.{nil-from_no_first, IsFirstFound, nothing_found, none-from_nothing, first_found, is_first_found}

-- an operation that passes a test is of that kind
pub read-from_test : (x : ℕ) (op : Op) → is_read x op ≡ true → op ≡ Read x
read-from_test x (Read y) is = ap Read (eqb-true y x is)
read-from_test x op is = absurd (true≢false (sym is))

pub write-from_test : (x : ℕ) (op : Op) → is_write x op ≡ true → op ≡ Write x
write-from_test x (Write y) is = ap Write (eqb-true y x is)
write-from_test x op is = absurd (true≢false (sym is))

pub acquire-from_test : (l : ℕ) (op : Op) → is_acquire l op ≡ true → op ≡ Acquire l
acquire-from_test l (Acquire m) is = ap Acquire (eqb-true m l is)
acquire-from_test l op is = absurd (true≢false (sym is))

pub release-from_test : (l : ℕ) (op : Op) → is_release l op ≡ true → op ≡ Release l
release-from_test l (Release m) is = ap Release (eqb-true m l is)
release-from_test l op is = absurd (true≢false (sym is))

pub fork-from_test : (u : ℕ) (op : Op) → is_fork u op ≡ true → op ≡ Fork u
fork-from_test u (Fork v) is = ap Fork (eqb-true v u is)
fork-from_test u op is = absurd (true≢false (sym is))

pub join-from_test : (u : ℕ) (op : Op) → is_join u op ≡ true → op ≡ Join u
join-from_test u (Join v) is = ap Join (eqb-true v u is)
join-from_test u op is = absurd (true≢false (sym is))
