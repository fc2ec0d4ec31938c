-- What bits show about the positions of bytes in a text. No public clause cites this module.
use Rattle.std.specs.Prelude.{◌≡◌, ℕ, ◌<◌, Bool, true, false, List, All, length, slice_index}
use Rattle.std.specs.Int.{bit_at}
use Rattle.rapid_text.specs.Reading.{is_blank, is_line_feed, is_bar, is_open}
use Rattle.rapid_text.specs.declared.marks.Marks.{Marks}

-- Up to the highest bit that is set, a bit is set exactly if the byte at that position passes the test. Bits past the
-- end of the text show nothing.
pub record AreBits (test : ℕ → Bool) (m : ℕ) (xs : List ℕ) : Type 0 where
  pub hits : (k : ℕ) → k < length xs → bit_at m k ≡ 1 → test (slice_index xs k) ≡ true
  pub all : (k j : ℕ) → bit_at m k ≡ 1 → j < k → j < length xs → test (slice_index xs j) ≡ true → bit_at m j ≡ 1

-- The marks fit this text. Each blank before a marked line feed is marked; other bytes may be marked as blanks too.
pub record IsMarked (m : Marks) (xs : List ℕ) : Type 0 where
  pub feeds : AreBits is_line_feed m.feeds xs
  pub bars : AreBits is_bar m.bars xs
  pub opens : AreBits is_open m.opens xs
  pub blanks : (k j : ℕ) → bit_at m.feeds k ≡ 1 → j < k → j < length xs → is_blank (slice_index xs j) ≡ true → bit_at m.blanks j ≡ 1

-- no byte is a blank
abbrev pub HasNoBlank : List ℕ → Type 0
HasNoBlank xs = All (λ c. is_blank c ≡ false) xs
