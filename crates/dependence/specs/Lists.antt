-- Rising lists of entry numbers, for each name and for each client.
use Rattle.std.specs.Prelude.{◌≡◌, ◌⊎◌, true, ◌<◌, ◌≤◌, ◌-◌, ◌++◌, ℕ, List, [], ◌∷◌, Option, None, Some, MatchOption, All, Contains, nat_eq, bytes_eq, if◌then◌else◌, length, slice_get}
use Rattle.std.specs.Map.{lookup}
use Rattle.std.specs.Set.{remove_key}
use Rattle.std.specs.BTreeSet.{insert_key}
use Rattle.std.specs.Ordering.{nat_cmp}
use Rattle.moves.specs.declared.command.Command.{Command}
use Rattle.moves.specs.Commands.{touches, touches_any}

-- names with the numbers of the entries that touch them
abbrev pub Lists : Type 0
Lists = List (List ℕ × List ℕ)

abbrev pub listed : Option (List ℕ) → List ℕ
listed None = []
listed (Some xs) = xs

-- the numbers under the name x; a name that has no list has none
abbrev pub under : Lists → List ℕ → List ℕ
under T x = listed (lookup (bytes_eq x) T)

-- the numbers of the client c
abbrev pub of_client : List (List ℕ) → ℕ → List ℕ
of_client C c = listed (slice_get C c)

-- the numbers without k
abbrev pub without : ℕ → List ℕ → List ℕ
without k xs = remove_key (nat_eq k) xs

-- the last number
abbrev pub last_of : List ℕ → Option ℕ
last_of xs = slice_get xs (length xs - 1)

-- r is the least number of xs above k, or none if no number is above k
abbrev pub IsLeastAbove : ℕ → List ℕ → Option ℕ → Type 0
IsLeastAbove k xs r = MatchOption r (All (λ j. j ≤ k) xs) (λ m. Contains xs m × (k < m) × All (λ j. k < j → m ≤ j) xs)

-- all numbers are below k, except k itself, which may be the last
abbrev pub IsReached : ℕ → List ℕ → Type 0
IsReached k ys = (xs : List ℕ) × All (λ j. j < k) xs × ((ys ≡ xs) ⊎ (ys ≡ xs ++ k ∷ []))

-- U is T with the number k, at the end, under each name that the command touches
abbrev pub Pushed : ℕ → Command → Lists → Lists → Type 0
Pushed k d T U = (x : List ℕ) → under U x ≡ (if touches d x then under T x ++ k ∷ [] else under T x)

-- U is T without the number k under each name that the command touches
abbrev pub Removed : ℕ → Command → Lists → Lists → Type 0
Removed k d T U = (x : List ℕ) → under U x ≡ (if touches d x then without k (under T x) else under T x)

-- U is T with the number k, at the end, under each name that one of the commands touches
abbrev pub PushedAll : ℕ → List Command → Lists → Lists → Type 0
PushedAll k D T U = (x : List ℕ) → under U x ≡ (if touches_any D x then under T x ++ k ∷ [] else under T x)

-- U is T without the number k under each name that one of the commands touches
abbrev pub RemovedAll : ℕ → List Command → Lists → Lists → Type 0
RemovedAll k D T U = (x : List ℕ) → under U x ≡ (if touches_any D x then without k (under T x) else under T x)

-- U is T with the number k, added if it is not there yet, under each name that the command touches
abbrev pub Placed : ℕ → Command → Lists → Lists → Type 0
Placed k d T U = (x : List ℕ) → under U x ≡ (if touches d x then insert_key nat_cmp (under T x) k else under T x)

-- the same, for some of these names
abbrev pub PlacedSome : ℕ → Command → Lists → Lists → Type 0
PlacedSome k d T U = (x : List ℕ) → (under U x ≡ under T x) ⊎ ((touches d x ≡ true) × (under U x ≡ insert_key nat_cmp (under T x) k))

-- each name has the same numbers
abbrev pub Same : Lists → Lists → Type 0
Same T U = (x : List ℕ) → under U x ≡ under T x

-- all numbers are below k
abbrev pub AllBelow : ℕ → Lists → Type 0
AllBelow k T = (x : List ℕ) → All (λ j. j < k) (under T x)

-- D is C with the number k appended to the client's numbers
abbrev pub Entered : ℕ → ℕ → List (List ℕ) → List (List ℕ) → Type 0
Entered c k C D = (a : ℕ) → of_client D a ≡ (if nat_eq a c then of_client C a ++ k ∷ [] else of_client C a)

-- D is C with the number k removed from the client's numbers
abbrev pub Left : ℕ → ℕ → List (List ℕ) → List (List ℕ) → Type 0
Left c k C D = (a : ℕ) → of_client D a ≡ (if nat_eq a c then without k (of_client C a) else of_client C a)
