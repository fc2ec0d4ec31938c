-- Which bytes of a name are hashed. No public clause cites this module.
use Rattle.std.specs.Prelude.{ℕ, ◌+◌, ◌-◌, ◌%◌, List, ◌++◌, length, take, replicate}

-- the bytes, and zeros up to a multiple of eight bytes
abbrev pub whole_words : List ℕ → List ℕ
whole_words bs = take (length bs + (64 - length bs) % 8) (bs ++ replicate (64 - length bs) 0)
