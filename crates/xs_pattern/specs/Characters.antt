-- Which characters a set has (XML Schema Part 2, version 1.1, section G.4; XPath Functions and Operators 3.1, section 5.6).
use Rattle.std.specs.Prelude.{ℕ, ◌≤◌, ◌≡◌, ◌≢◌, ◌⊎◌, ⊤, Bool, IsTrue, ◌==◌, ◌||◌, not, MatchBool, List, [], ◌∷◌}
use Rattle.unicode.specs.CaseFolding.{simple_fold}
use Rattle.unicode.specs.GeneralCategory.{general_category, general_category_number}
use Rattle.unicode.specs.GeneralCategoryGroup.{in_group}
use Rattle.ucd_category.specs.declared.GeneralCategory.TheVariants.{DecimalNumber}
use Rattle.ucd_category.specs.declared.GeneralCategoryGroup.TheVariants.{Punctuation, Separator, Other}
use Rattle.xs_pattern.specs.declared.expression.Flags.{Flags}
use Rattle.xs_pattern.specs.declared.expression.Item.{Item}
use Rattle.xs_pattern.specs.declared.expression.Item.TheVariants as Items
use Rattle.xs_pattern.specs.declared.expression.Kind.{Kind}
use Rattle.xs_pattern.specs.declared.expression.Kind.TheVariants as Kinds
use Rattle.xs_pattern.specs.Regex.{Members, Chars, dot, item, class}

-- the character is of the kind (sections G.4.2.2 and G.4.2.5)
abbrev pub has_kind : Kind → ℕ → Bool
has_kind Kinds.Digit c = general_category_number (general_category c) == general_category_number DecimalNumber
has_kind Kinds.Space c = (c == 9) || (c == 10) || (c == 13) || (c == 32)
has_kind Kinds.Word c =
    let g = general_category c in not (in_group Punctuation g || in_group Separator g || in_group Other g)
has_kind (Kinds.Category g) c = general_category_number (general_category c) == general_category_number g
has_kind (Kinds.Group g) c = in_group g (general_category c)

-- the character is one of those from a to b; where case is ignored, its simple folding is that of one of them (section 5.6.2)
abbrev pub IsWithin : Flags → ℕ → ℕ → ℕ → Type 0
IsWithin f a b c =
    MatchBool f.ignore_case ((d : ℕ) × (a ≤ d) × (d ≤ b) × (simple_fold d ≡ simple_fold c)) ((a ≤ c) × (c ≤ b))

-- the item has the character (section G.4.1)
abbrev pub HasItem : Flags → Item → ℕ → Type 0
HasItem f (Items.Char a) c = IsWithin f a a c
HasItem f (Items.Range a b) c = IsWithin f a b c
HasItem f (Items.Kind k) c = IsTrue (has_kind k c)
HasItem f (Items.Not k) c = IsTrue (not (has_kind k c))

-- some item has the character
abbrev pub HasSome : Flags → List Item → ℕ → Type 0
HasSome f [] c = ⊥
HasSome f (x ∷ xs) c = HasItem f x c ⊎ HasSome f xs c

-- the items, or all characters but theirs
abbrev pub HasMember : Flags → Members → ℕ → Type 0
HasMember f m c = MatchBool m.negated (¬ HasSome f m.items c) (HasSome f m.items c)

-- the first members without those of the class that is taken away
abbrev pub HasClass : Flags → List Members → ℕ → Type 0
HasClass f [] c = ⊥
HasClass f (m ∷ ms) c = HasMember f m c × ¬ HasClass f ms c

-- the set has the character; the dot has all but line feed and carriage return, with flag s all
abbrev pub HasChar : Flags → Chars → ℕ → Type 0
HasChar f dot c = MatchBool f.dot_all ⊤ ((c ≢ 10) × (c ≢ 13))
HasChar f (item x) c = HasItem f x c
HasChar f (class ms) c = HasClass f ms c
