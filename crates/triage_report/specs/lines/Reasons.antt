-- Why a pair is what it is. All notions here are this project's own.
use Rattle.std.specs.Prelude.{ℕ, nat_eq, cond, List, [], ◌∷◌, codes, decimal}
use Rattle.std.specs.List.{concat}

-- the plural ending of a word for n things
abbrev pub plural_end : ℕ → List ℕ
plural_end n = cond (nat_eq n 1) [] (codes "s")

-- a schedule of `events` events of `threads` threads shows it
abbrev pub race_words : ℕ → ℕ → List ℕ
race_words events threads =
    concat (codes "a schedule of " ∷ decimal events ∷ codes " event" ∷ plural_end events ∷ codes " of " ∷ decimal threads ∷ codes " thread"
    ∷ plural_end threads ∷ codes " shows it" ∷ [])

-- no schedule was found for `tried` pairs of events
abbrev pub undecided_words : ℕ → List ℕ
undecided_words tried = concat (codes "no schedule was found for " ∷ decimal tried ∷ codes " pair" ∷ plural_end tried ∷ codes " of events" ∷ [])

abbrev pub apart_words : List ℕ
apart_words = codes "every correct reordering of this trace keeps the two apart"
