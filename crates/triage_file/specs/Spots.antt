-- Spots in a text: lines and columns, both counted from 1. All notions here are this project's own.
use Rattle.std.specs.Prelude.{◌≡◌, ◌<◌, ◌≤◌, ◌⊎◌, ℕ, zero, suc, ◌+◌, ◌-◌, ◌==◌, ◌&&◌, ◌||◌, nat_eq, nat_le, nat_lt, not, Bool, true, false, cond, List, take, drop, length, count_by, slice_index, codes}
use Rattle.std.specs.List.{after_last, starts_with}
use Rattle.triage_file.specs.declared.spots.Spot.{Spot}

abbrev pub is_feed : ℕ → Bool
is_feed b = b == 10

-- the byte begins a character in UTF-8
abbrev pub is_first_byte : ℕ → Bool
is_first_byte b = nat_lt b 128 || nat_le 192 b

-- the line and the column, in characters, of the byte at n
abbrev pub line_at : List ℕ → ℕ → ℕ
line_at text n = count_by is_feed (take n text) + 1

abbrev pub column_at : List ℕ → ℕ → ℕ
column_at text n = count_by is_first_byte (after_last is_feed (take n text)) + 1

-- a line begins at n
abbrev pub is_line_start : List ℕ → ℕ → Bool
is_line_start text n = n == 0 || slice_index text (n - 1) == 10

-- a line begins at n with this word
abbrev pub begins_at : List ℕ → List ℕ → ℕ → Bool
begins_at word text n = is_line_start text n && starts_with nat_eq (drop n text) word

-- the byte may be in a key without quotes
abbrev pub is_bare : ℕ → Bool
is_bare b = (nat_le 48 b && nat_le b 57) || ((nat_le 65 b && nat_le b 90) || ((nat_le 97 b && nat_le b 122) || (b == 45 || b == 95)))

-- the header of an entry begins at n: a line that begins with two brackets
abbrev pub is_header_at : List ℕ → ℕ → Bool
is_header_at text n = begins_at (codes "[[") text n

-- a line begins at n with this key
abbrev pub is_key_at : List ℕ → List ℕ → ℕ → Bool
is_key_at key text n = begins_at key text n && not (is_bare (slice_index text (n + length key)))

-- how many headers begin before n
abbrev pub headers_before : List ℕ → ℕ → ℕ
headers_before text zero = 0
headers_before text (suc n) = headers_before text n + cond (is_header_at text n) 1 0

-- The header of the entry with number k, counted from 0, begins at n.
pub record IsHeader (text : List ℕ) (k n : ℕ) : Type 0 where
  pub within : n < length text
  pub header : is_header_at text n ≡ true
  pub number : headers_before text n ≡ k

-- no line that begins after `start` and before n begins with this key, or is a header
abbrev pub IsBarren : List ℕ → List ℕ → ℕ → ℕ → Type 0
IsBarren key text start n = (m : ℕ) → start < m → m < n → (is_key_at key text m ≡ false) × (is_header_at text m ≡ false)

-- The header of an entry begins at `start`, and the entry's first line with this key begins at n.
pub record IsKeySpot (key text : List ℕ) (start n : ℕ) : Type 0 where
  pub behind : start < n
  pub within : n < length text
  pub key_is : is_key_at key text n ≡ true
  pub first : IsBarren key text start n

-- no line of the entry begins with this key
pub record HasNoKey (key text : List ℕ) (start : ℕ) : Type 0 where
  pub end : ℕ
  pub barren : IsBarren key text start end
  pub ended : (length text ≤ end) ⊎ (is_header_at text end ≡ true)

-- the spot is that of the byte at n
pub record IsSpot (text : List ℕ) (n : ℕ) (spot : Spot) : Type 0 where
  pub line : spot.line ≡ line_at text n
  pub column : spot.column ≡ column_at text n

-- the first word of the line that begins at n: after one or two brackets, if there are any
abbrev pub word_start : List ℕ → ℕ → ℕ
word_start text n = cond (slice_index text n == 91) (cond (slice_index text (n + 1) == 91) (n + 2) (n + 1)) n

-- a line begins at n with this key, alone or in brackets
abbrev pub is_name_at : List ℕ → List ℕ → ℕ → Bool
is_name_at key text n =
    is_line_start text n
    && (starts_with nat_eq (drop (word_start text n) text) key && not (is_bare (slice_index text (word_start text n + length key))))

-- no line before n begins with this key, alone or in brackets
abbrev pub IsNameless : List ℕ → List ℕ → ℕ → Type 0
IsNameless key text n = (m : ℕ) → m < n → is_name_at key text m ≡ false

-- the first line that begins with this key, alone or in brackets, begins at n; n is 0 if no line does
pub data IsNamePlace (key text : List ℕ) : ℕ → Type 0 where
  named : (n : ℕ) → n < length text → is_name_at key text n ≡ true → IsNameless key text n → IsNamePlace key text n
  unnamed : IsNameless key text (length text) → IsNamePlace key text 0

-- the spot is that of the first line that names the key
abbrev pub IsNameSpot : List ℕ → List ℕ → Spot → Type 0
IsNameSpot key text spot = (n : ℕ) × IsNamePlace key text n × IsSpot text n spot
