-- Words on texts. A text is the list of its UTF-8 bytes; no byte of a character outside ASCII is a delimiter.
use Rattle.std.specs.Prelude.{◌≡◌, ◌≢◌, ℕ, ◌==◌, Bool, List, ◌++◌, length, drop, Option, Some, None, All, nat_lt, if◌then◌else◌}
use Rattle.std.specs.List.{position_or_len, before_first, after_first, before_last}

-- `:`, `/`, `?` and `#`, the delimiters between components (RFC 3986 section 2.2)
abbrev pub colon : ℕ
colon = 58

abbrev pub slash : ℕ
slash = 47

abbrev pub question : ℕ
question = 63

abbrev pub hash : ℕ
hash = 35

-- a text has no such byte
abbrev pub Lacks : ℕ → List ℕ → Type 0
Lacks mark text = All (λ b. b ≢ mark) text

-- a text begins with another
abbrev pub BeginsWith : List ℕ → List ℕ → Type 0
BeginsWith text front = (rest : List ℕ) × (text ≡ front ++ rest)

-- whether there is such a byte
abbrev pub has : ℕ → List ℕ → Bool
has mark text = nat_lt (position_or_len (λ b. b == mark) text) (length text)

-- what stands before the first such byte, or all where there is none
abbrev pub before : ℕ → List ℕ → List ℕ
before mark text = before_first (λ b. b == mark) text

-- what stands behind the first such byte, or nothing where there is none
abbrev pub after : ℕ → List ℕ → List ℕ
after mark text = after_first (λ b. b == mark) text

-- what stands behind the first such byte, if there is one
abbrev pub part_after : ℕ → List ℕ → Option (List ℕ)
part_after mark text = if has mark text then Some (after mark text) else None

-- the text from the first such byte on, or nothing where there is none
abbrev pub from : ℕ → List ℕ → List ℕ
from mark text = drop (position_or_len (λ b. b == mark) text) text

-- what stands before the last such byte, or nothing where there is none
abbrev pub until_last : ℕ → List ℕ → List ℕ
until_last mark text = before_last (λ b. b == mark) text
