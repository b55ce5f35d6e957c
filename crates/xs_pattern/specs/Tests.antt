-- Tests for the characters that a set has.
use Rattle.std.specs.Prelude.{ℕ, ◌+◌, ◌-◌, Option, Some, None, Bool, false, ◌==◌, ◌||◌, ◌&&◌, not, nat_le, if◌then◌else◌, List, [], ◌∷◌, map, filter}
use Rattle.std.specs.List.{list_any}
use Rattle.unicode.specs.CaseFolding.{fold_pairs}
use Rattle.xs_pattern.specs.declared.expression.Flags.{Flags}
use Rattle.xs_pattern.specs.declared.expression.Item.{Item}
use Rattle.xs_pattern.specs.declared.expression.Item.TheVariants as Items
use Rattle.xs_pattern.specs.Characters.{has_kind}
use Rattle.xs_pattern.specs.Regex.{Members, Chars, dot, item, class}

-- the characters that stand in a pair with this one
abbrev pub partners : ℕ → List (ℕ × ℕ) → List ℕ
partners c pairs = map (λ pair. pair.1) (filter (λ pair. pair.0 == c) pairs)

-- the other characters with the simple folding of this one
abbrev pub others : ℕ → List ℕ
others c = partners c fold_pairs

-- of a character of ASCII: the letter of ASCII that differs from it in case alone, and the kelvin sign of k and the long s of s
abbrev pub other_case : ℕ → Option ℕ
other_case c =
    if nat_le 65 c && nat_le c 90 then Some (c + 32) else if nat_le 97 c && nat_le c 122 then Some (c - 32) else None

abbrev pub beyond_ascii : ℕ → Option ℕ
beyond_ascii c = if c == 75 || c == 107 then Some 8490 else if c == 83 || c == 115 then Some 383 else None

abbrev pub listed : Option ℕ → List ℕ
listed (Some c) = c ∷ []
listed None = []

-- the characters that stand for this one: itself, and where case is ignored those with its folding
abbrev pub alike : Flags → ℕ → List ℕ
alike f c = c ∷ (if f.ignore_case then others c else [])

-- some of the characters is from a to b
abbrev pub some_within : ℕ → ℕ → List ℕ → Bool
some_within a b cs = list_any (λ c. nat_le a c && nat_le c b) cs

-- the item has the character, for which these stand
abbrev pub item_has : Item → ℕ → List ℕ → Bool
item_has (Items.Char a) c cs = some_within a a cs
item_has (Items.Range a b) c cs = some_within a b cs
item_has (Items.Kind k) c cs = has_kind k c
item_has (Items.Not k) c cs = not (has_kind k c)

abbrev pub some_has : List Item → ℕ → List ℕ → Bool
some_has xs c cs = list_any (λ x. item_has x c cs) xs

abbrev pub member_has : Members → ℕ → List ℕ → Bool
member_has m c cs = if m.negated then not (some_has m.items c cs) else some_has m.items c cs

abbrev pub class_has : List Members → ℕ → List ℕ → Bool
class_has [] c cs = false
class_has (m ∷ ms) c cs = member_has m c cs && not (class_has ms c cs)

abbrev pub set_has : Flags → Chars → ℕ → List ℕ → Bool
set_has f dot c cs = f.dot_all || not (c == 10 || c == 13)
set_has f (item x) c cs = item_has x c cs
set_has f (class ms) c cs = class_has ms c cs

-- the set has the character
abbrev pub char_test : Flags → Chars → ℕ → Bool
char_test f s c = set_has f s c (alike f c)
