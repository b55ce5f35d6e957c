-- The line and the column of a place in a text. A place is the number of bytes before it, and a text is the list of its bytes.
use Rattle.std.specs.Prelude.{ℕ, Bool, List, ◌+◌, ◌-◌, ◌==◌, ◌||◌, drop, length, nat_le, nat_lt, not, take}
use Rattle.std.specs.List.{filter, prefix_len, suffix_len}

-- the byte ends a line
abbrev pub is_line_feed : ℕ → Bool
is_line_feed byte = byte == 10

-- the byte begins a character: it is no continuation byte of UTF-8 (RFC 3629, section 3)
abbrev pub begins_character : ℕ → Bool
begins_character byte = nat_lt byte 128 || nat_le 192 byte

-- how many characters begin in the bytes
abbrev pub characters_in : List ℕ → ℕ
characters_in bytes = length (filter begins_character bytes)

-- what stands behind the last line feed, and all where there is none
abbrev pub last_line : List ℕ → List ℕ
last_line bytes = drop (length bytes - suffix_len (λ byte. not (is_line_feed byte)) bytes) bytes

-- what stands before the first line feed, and all where there is none
abbrev pub first_line : List ℕ → List ℕ
first_line bytes = take (prefix_len (λ byte. not (is_line_feed byte)) bytes) bytes

-- what stands before the place in its line, and what from the place on
abbrev pub line_before : List ℕ → ℕ → List ℕ
line_before text at = last_line (take at text)

abbrev pub line_behind : List ℕ → ℕ → List ℕ
line_behind text at = first_line (drop at text)

-- the line and the column of the place, counted from 1 by the line feeds before it, and by the characters before it in its line
abbrev pub line_of : List ℕ → ℕ → ℕ
line_of text at = length (filter is_line_feed (take at text)) + 1

abbrev pub column_of : List ℕ → ℕ → ℕ
column_of text at = characters_in (line_before text at) + 1
