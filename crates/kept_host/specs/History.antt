-- The calls on a file, and what they make of it: what is seen, and what a crash may leave.
use Rattle.std.specs.Prelude.{◌≡◌, ◌⊎◌, ℕ, ◌+◌, ◌≤◌, Bool, true, false, List, [], ◌∷◌, ◌++◌, Option, Some, None, length, take, drop, ⊤}
use Rattle.kept_log.specs.Device.{AfterOthers, Torn, Cut as CutShort}
use Rattle.kept_host.specs.declared.call.FileCall.{FileCall}
use Rattle.kept_host.specs.declared.call.FileCall.TheVariants.{Taken, Released, Written, Cut, Synced}
use Rattle.kept_host.specs.declared.call.Taking.TheVariants.{Read, Shorter, Failed}

-- A call with its answer, and the bytes that it read or wrote.
abbrev pub Event : Type 0
Event = FileCall × List ℕ

-- what is seen after a call
abbrev pub seen_after : FileCall → List ℕ → List ℕ → List ℕ
seen_after (Taken from Read) bytes old = take from old ++ bytes
seen_after (Written at true) bytes old = take at old ++ bytes ++ drop (at + length bytes) old
seen_after (Cut len true) bytes old = take len old
seen_after call bytes old = old

-- what a read returns, after these calls, of which the newest comes first
abbrev pub seen_of : List Event → List ℕ
seen_of [] = []
seen_of (e ∷ earlier) = seen_after e.0 e.1 (seen_of earlier)

-- what a crash may leave after a call, of what it might have left before and what is seen
abbrev pub left_after : FileCall → List ℕ → List ℕ → (List ℕ → Type 0) → List ℕ → Type 0
left_after (Taken from how) bytes seen old c = AfterOthers from old c
left_after (Released from is_done) bytes seen old c = AfterOthers from old c
left_after (Written at is_done) bytes seen old c = (d : List ℕ) × old d × Torn at (length bytes) d c
left_after (Cut len is_done) bytes seen old c = (d : List ℕ) × old d × CutShort len d c
left_after (Synced true) bytes seen old c = (c ≡ seen) × old c
left_after (Synced false) bytes seen old c = old c

-- Before the first call a crash may leave anything.
abbrev pub left_of : List Event → List ℕ → Type 0
left_of [] c = ⊤
left_of (e ∷ earlier) c = left_after e.0 e.1 (seen_of earlier) (left_of earlier) c

-- what a crash might have left at some moment from t on; the moment is the number of calls
abbrev pub left_since : List Event → ℕ → List ℕ → Type 0
left_since [] t c = ⊤
left_since (e ∷ earlier) t c = left_of (e ∷ earlier) c ⊎ ((t ≤ length earlier) × left_since earlier t c)

-- whether a call succeeded
abbrev pub is_done : FileCall → Bool
is_done (Taken from Read) = true
is_done (Taken from Shorter) = false
is_done (Taken from Failed) = false
is_done (Released from done) = done
is_done (Written at done) = done
is_done (Cut len done) = done
is_done (Synced done) = done

-- how many calls have failed
abbrev pub faults_after : Bool → ℕ → ℕ
faults_after true count = count
faults_after false count = count + 1

abbrev pub faults_of : List Event → ℕ
faults_of [] = 0
faults_of (e ∷ earlier) = faults_after (is_done e.0) (faults_of earlier)

-- whether the lock is held after a call
abbrev pub held_after : FileCall → Bool → Bool
held_after (Taken from Read) old = true
held_after (Released from true) old = false
held_after call old = old

-- whether the lock is held after these calls
abbrev pub held_of : List Event → Bool
held_of [] = false
held_of (e ∷ earlier) = held_after e.0 (held_of earlier)

-- what stood in the file each time that its lock was taken, after a call that shows this
abbrev pub found_after : FileCall → List ℕ → List (Option (List ℕ)) → List (Option (List ℕ))
found_after (Taken from Read) seen old = Some seen ∷ old
found_after (Taken from Shorter) seen old = None ∷ old
found_after call seen old = old

-- the same after these calls, the last time first
abbrev pub found_of : List Event → List (Option (List ℕ))
found_of [] = []
found_of (e ∷ earlier) = found_after e.0 (seen_of (e ∷ earlier)) (found_of earlier)
