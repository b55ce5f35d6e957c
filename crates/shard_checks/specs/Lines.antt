-- Lines of N-Triples as texts, with one space between two terms and before the dot (RDF 1.1 N-Triples, section 4).
use Rattle.std.specs.Prelude.{ℕ, Bool, List, ◌-◌, length, nat_eq, take}
use Rattle.std.specs.List.{after_first, before_first, list_any, slice_split}
use Rattle.std.specs.Str.{bytes_eq}

-- what stands between the line feeds of a text
abbrev pub lines_of : List ℕ → List (List ℕ)
lines_of text = slice_split (λ b. nat_eq b 10) text

abbrev pub is_space : ℕ → Bool
is_space b = nat_eq b 32

-- a field ends at the first space
abbrev pub subject_of : List ℕ → List ℕ
subject_of line = before_first is_space line

abbrev pub predicate_of : List ℕ → List ℕ
predicate_of line = before_first is_space (after_first is_space line)

-- the object may have spaces; behind it are a space and the dot
abbrev pub without_end : List ℕ → List ℕ
without_end text = take (length text - 2) text

abbrev pub object_of : List ℕ → List ℕ
object_of line = without_end (after_first is_space (after_first is_space line))

-- the text is one of these
abbrev pub is_among : List ℕ → List (List ℕ) → Bool
is_among text texts = list_any (λ other. bytes_eq other text) texts
