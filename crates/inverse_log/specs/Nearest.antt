-- How an undo finds the entry that blocks it, from the lists of names. No public clause cites this module.
use Rattle.std.specs.Prelude.{ℕ, List, Option, Some, None, fold, find, nat_lt, if◌then◌else◌}
use Rattle.dependence.specs.Lists.{Lists, under}

-- what was found, or this number under this name if it is less
abbrev pub nearer : Option (ℕ × List ℕ) → Option ℕ → List ℕ → Option (ℕ × List ℕ)
nearer found None x = found
nearer None (Some m) x = Some (m, x)
nearer (Some p) (Some m) x = if nat_lt m p.0 then Some (m, x) else Some p

-- the least number above k under the name x
abbrev pub next_under : ℕ → Lists → List ℕ → Option ℕ
next_under k N x = find (λ j. nat_lt k j) (under N x)

-- the least number above k under one of the names, with the first name that has it
abbrev pub nearest : ℕ → Lists → List (List ℕ) → Option (ℕ × List ℕ)
nearest k N names = fold (λ found x. nearer found (next_under k N x) x) None names
