-- The names of schedules: this project's own.
use Rattle.std.specs.Prelude.{ℕ, Bool, ◌&&◌, ◌||◌, ◌==◌, List, length, nat_le}
use Rattle.std.specs.List.{list_all}

-- whether the byte is between these two, both included
abbrev pub is_between : ℕ → ℕ → ℕ → Bool
is_between low high b = nat_le low b && nat_le b high

-- whether the byte is an ASCII letter or digit, or one of '_', '-', '.'
abbrev pub is_name_byte : ℕ → Bool
is_name_byte b =
    is_between 97 122 b || (is_between 65 90 b || (is_between 48 57 b || (b == 95 || (b == 45 || b == 46))))

-- whether the bytes are a name: 1 to 64 such bytes
abbrev pub is_name : List ℕ → Bool
is_name bs = nat_le 1 (length bs) && (nat_le (length bs) 64 && list_all is_name_byte bs)
