-- How a place in a text is shown: its line and column, the line itself, and a caret under the place.
use Rattle.std.specs.Prelude.{ℕ, Bool, suc, List, [], ◌∷◌, ◌++◌, ◌+◌, ◌-◌, ◌==◌, codes, drop, if◌then◌else◌, length, nat_eq, nat_lt, take}
use Rattle.std.specs.Fmt.{decimal}
use Rattle.std.specs.List.{flat_map, starts_with}
use Rattle.refusal_places.specs.Places.{begins_character, characters_in, column_of, line_before, line_behind, line_of}

-- how many bytes the first so many characters have, with what stands before them of a character that begins earlier; all where there are fewer
unfoldable pub extent : ℕ → List ℕ → ℕ
extent n [] = 0
extent n (byte ∷ bytes) = if begins_character byte then (if n == 0 then 0 else suc (extent (n - 1) bytes)) else suc (extent n bytes)

-- the first characters of a text, and the last ones
abbrev pub first_characters : ℕ → List ℕ → List ℕ
first_characters n bytes = take (extent n bytes) bytes

abbrev pub last_characters : ℕ → List ℕ → List ℕ
last_characters n bytes = drop (extent (characters_in bytes - n) bytes) bytes

-- the line of the place has more characters than are shown
abbrev pub is_wide : List ℕ → ℕ → Bool
is_wide text at = nat_lt 200 (characters_in (line_before text at) + characters_in (line_behind text at))

-- what is shown of the line before the place and behind it: all, or the 100 characters nearest to the place
abbrev pub shown_before : List ℕ → ℕ → List ℕ
shown_before text at = if is_wide text at then last_characters 100 (line_before text at) else line_before text at

abbrev pub shown_behind : List ℕ → ℕ → List ℕ
shown_behind text at = if is_wide text at then first_characters 100 (line_behind text at) else line_behind text at

-- the line around the place, as it is shown
abbrev pub line_around : List ℕ → ℕ → List ℕ
line_around text at = shown_before text at ++ shown_behind text at

-- what stands under a byte before the caret: under a tab a tab, and else a space for each character
abbrev pub blank_for : ℕ → List ℕ
blank_for byte = if byte == 9 then codes "\t" else (if begins_character byte then codes " " else [])

-- the text begins with a byte order mark in UTF-8 (RFC 3629, section 6)
abbrev pub has_mark : List ℕ → Bool
has_mark text = starts_with nat_eq text (239 ∷ 187 ∷ 191 ∷ [])

-- the line and a caret under the place; for a byte order mark, which is seen in no line, words
abbrev pub shown_text : List ℕ → ℕ → List ℕ
shown_text text at = line_around text at ++ (codes "\n" ++ (flat_map blank_for (shown_before text at) ++ codes "^\n"))

abbrev pub marked_text : List ℕ → ℕ → List ℕ
marked_text text at = if at == 0 then (if has_mark text then codes "a byte order mark stands at the start\n" else shown_text text at) else shown_text text at

-- `NAME:LINE:COLUMN`, and the place as it is shown
abbrev pub located_text : List ℕ → List ℕ → ℕ → List ℕ
located_text name text at =
    name ++ (codes ":" ++ (decimal (line_of text at) ++ (codes ":" ++ (decimal (column_of text at) ++ (codes "\n" ++ marked_text text at)))))

-- nothing, where the text ends before the place
abbrev pub place_text : List ℕ → List ℕ → ℕ → List ℕ
place_text name text at = if nat_lt (length text) at then [] else located_text name text at
