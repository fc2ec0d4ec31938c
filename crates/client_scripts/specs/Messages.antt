-- The bytes of a message in its parts. No public clause cites this module.
use Rattle.std.specs.Prelude.{ℕ, List, ◌++◌, Option, option_map, codes, decimal}
use denote.Ref.{Bor}
use Rattle.client_scripts.specs.declared.fault_texts.Message.{Message}
use Rattle.client_scripts.specs.declared.fault_texts.Message.TheVariants.{Plain, At}

abbrev pub message_bytes : Message → List ℕ
message_bytes (Plain words) = words.now
message_bytes (At place number words) = place.now ++ codes " " ++ decimal number ++ codes ": " ++ words.now

-- the borrowed words, if there are any
abbrev pub words_in : Option (Bor (List ℕ)) → Option (List ℕ)
words_in words = option_map (λ w. w.now) words
