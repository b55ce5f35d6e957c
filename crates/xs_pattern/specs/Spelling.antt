-- Which texts spell a pattern (XML Schema Part 2, version 1.1, sections G.1 to G.4; XPath Functions and Operators 3.1,
-- section 5.6.1). Each relation is between a text and what is left of it behind the thing that is spelled.
use Rattle.std.specs.Prelude.{ℕ, ◌≤◌, ◌<◌, ◌≡◌, ◌⊎◌, Bool, true, false, ◌==◌, ◌&&◌, not, if◌then◌else◌, Option, Some, None, List, [], ◌∷◌, ◌++◌, length, codes}
use Rattle.std.specs.Char.{is_ascii_digit}
use Rattle.std.specs.List.{list_any, list_all}
use Rattle.std.specs.Str.Parse.{digits_value}
use Rattle.ucd_category.specs.declared.GeneralCategory.TheVariants.{UppercaseLetter, LowercaseLetter, TitlecaseLetter, ModifierLetter, OtherLetter, NonspacingMark, SpacingMark, EnclosingMark, DecimalNumber, LetterNumber, OtherNumber, ConnectorPunctuation, DashPunctuation, OpenPunctuation, ClosePunctuation, InitialPunctuation, FinalPunctuation, OtherPunctuation, MathSymbol, CurrencySymbol, ModifierSymbol, OtherSymbol, SpaceSeparator, LineSeparator, ParagraphSeparator, Control, Format, PrivateUse, Unassigned}
use Rattle.ucd_category.specs.declared.GeneralCategoryGroup.TheVariants as Groups
use Rattle.xs_pattern.specs.declared.expression.Item.{Item}
use Rattle.xs_pattern.specs.declared.expression.Item.TheVariants as Items
use Rattle.xs_pattern.specs.declared.expression.Kind.{Kind}
use Rattle.xs_pattern.specs.declared.expression.Kind.TheVariants as Kinds
use Rattle.xs_pattern.specs.Regex.{Members, dot, item, class, Regex}
use Rattle.xs_pattern.specs.Tokens.{Token, open_bracket, close_bracket, bar, start_anchor, end_anchor, one_of, times, tokens, IsPattern}

-- the character is one of these
abbrev pub is_one_of : List ℕ → ℕ → Bool
is_one_of cs c = list_any (λ d. d == c) cs

-- the text begins with the character
abbrev pub Begins : ℕ → List ℕ → Type 0
Begins c ts = (r : List ℕ) × (ts ≡ c ∷ r)

-- it stands for itself (section G.3, NormalChar)
abbrev pub is_normal : ℕ → Bool
is_normal c = not (is_one_of (codes ".\\?*+()|[]{}^$") c)

-- what it stands for behind a backslash (section G.4.2.1, SingleCharEsc, and `$` of XPath; that `/` may stand there is own)
abbrev pub escaped : ℕ → Option ℕ
escaped c =
    if c == 110 then Some 10 else (if c == 114 then Some 13 else (if c == 116 then Some 9 else
    (if is_one_of (codes "\\|.?*+(){}$-[]^/") c then Some c else None)))

-- the categories by their names (section G.4.2.2, IsCategory)
unfoldable pub categories : List (List ℕ × Kind)
categories =
    (codes "L", Kinds.Group Groups.Letter) ∷ (codes "Lu", Kinds.Category UppercaseLetter) ∷
    (codes "Ll", Kinds.Category LowercaseLetter) ∷ (codes "Lt", Kinds.Category TitlecaseLetter) ∷
    (codes "Lm", Kinds.Category ModifierLetter) ∷ (codes "Lo", Kinds.Category OtherLetter) ∷
    (codes "M", Kinds.Group Groups.Mark) ∷ (codes "Mn", Kinds.Category NonspacingMark) ∷
    (codes "Mc", Kinds.Category SpacingMark) ∷ (codes "Me", Kinds.Category EnclosingMark) ∷
    (codes "N", Kinds.Group Groups.Number) ∷ (codes "Nd", Kinds.Category DecimalNumber) ∷
    (codes "Nl", Kinds.Category LetterNumber) ∷ (codes "No", Kinds.Category OtherNumber) ∷
    (codes "P", Kinds.Group Groups.Punctuation) ∷ (codes "Pc", Kinds.Category ConnectorPunctuation) ∷
    (codes "Pd", Kinds.Category DashPunctuation) ∷ (codes "Ps", Kinds.Category OpenPunctuation) ∷
    (codes "Pe", Kinds.Category ClosePunctuation) ∷ (codes "Pi", Kinds.Category InitialPunctuation) ∷
    (codes "Pf", Kinds.Category FinalPunctuation) ∷ (codes "Po", Kinds.Category OtherPunctuation) ∷
    (codes "Z", Kinds.Group Groups.Separator) ∷ (codes "Zs", Kinds.Category SpaceSeparator) ∷
    (codes "Zl", Kinds.Category LineSeparator) ∷ (codes "Zp", Kinds.Category ParagraphSeparator) ∷
    (codes "S", Kinds.Group Groups.Symbol) ∷ (codes "Sm", Kinds.Category MathSymbol) ∷
    (codes "Sc", Kinds.Category CurrencySymbol) ∷ (codes "Sk", Kinds.Category ModifierSymbol) ∷
    (codes "So", Kinds.Category OtherSymbol) ∷ (codes "C", Kinds.Group Groups.Other) ∷
    (codes "Cc", Kinds.Category Control) ∷ (codes "Cf", Kinds.Category Format) ∷
    (codes "Co", Kinds.Category PrivateUse) ∷ (codes "Cn", Kinds.Category Unassigned) ∷ []

-- two texts are the same
abbrev pub is_same : List ℕ → List ℕ → Bool
is_same [] [] = true
is_same [] (d ∷ ds) = false
is_same (c ∷ cs) [] = false
is_same (c ∷ cs) (d ∷ ds) = c == d && is_same cs ds

-- the category of the name, the first such in the list
abbrev pub named : List (List ℕ × Kind) → List ℕ → Option Kind
named [] name = None
named (entry ∷ entries) name = if is_same entry.0 name then Some entry.1 else named entries name

-- an escape of a kind, by its letter for digits, spaces, words and categories (sections G.4.2.2 and G.4.2.5)
abbrev pub SpellsKind : ℕ → ℕ → ℕ → ℕ → Kind → List ℕ → List ℕ → Type 0
SpellsKind d s w p Kinds.Digit ts r = ts ≡ 92 ∷ d ∷ r
SpellsKind d s w p Kinds.Space ts r = ts ≡ 92 ∷ s ∷ r
SpellsKind d s w p Kinds.Word ts r = ts ≡ 92 ∷ w ∷ r
SpellsKind d s w p k ts r = (name : List ℕ) × (named categories name ≡ Some k) × (ts ≡ 92 ∷ p ∷ 123 ∷ (name ++ 125 ∷ r))

-- an escape of an item
abbrev pub SpellsEscape : Item → List ℕ → List ℕ → Type 0
SpellsEscape (Items.Char d) ts r = (c : ℕ) × (escaped c ≡ Some d) × (ts ≡ 92 ∷ c ∷ r)
SpellsEscape (Items.Range a b) ts r = ⊥
SpellsEscape (Items.Kind k) ts r = SpellsKind 100 115 119 112 k ts r
SpellsEscape (Items.Not k) ts r = SpellsKind 68 83 87 80 k ts r

-- a character in a class: an escape, or one that is no backslash or square bracket; a hyphen stands first or right
-- before the closing bracket (section G.4.1, singleChar; own: the standard has it stand for itself right before `-[` too)
abbrev pub SpellsChar : Bool → ℕ → List ℕ → List ℕ → Type 0
SpellsChar is_first d ts r =
    SpellsEscape (Items.Char d) ts r ⊎
    ((ts ≡ d ∷ r) × (is_one_of (codes "\\[]") d ≡ false) × (d ≡ 45 → (is_first ≡ true) ⊎ Begins 93 r))

-- an item of a class (section G.4.1, charGroupPart; that a hyphen without a backslash may begin a range, where it stands
-- first, or end one, right before the closing bracket, is own)
abbrev pub SpellsItem : Bool → Item → List ℕ → List ℕ → Type 0
SpellsItem is_first (Items.Char d) ts r = SpellsChar is_first d ts r
SpellsItem is_first (Items.Range a b) ts r =
    (m : List ℕ) × SpellsChar is_first a ts (45 ∷ m) × SpellsChar false b m r × (a ≤ b)
SpellsItem is_first x ts r = SpellsEscape x ts r

abbrev pub SpellsMore : List Item → List ℕ → List ℕ → Type 0
SpellsMore [] ts r = r ≡ ts
SpellsMore (x ∷ xs) ts r = (m : List ℕ) × SpellsItem false x ts m × SpellsMore xs m r

abbrev pub SpellsItems : List Item → List ℕ → List ℕ → Type 0
SpellsItems [] ts r = ⊥
SpellsItems (x ∷ xs) ts r = (m : List ℕ) × SpellsItem true x ts m × SpellsMore xs m r

-- the bracket that opens a class, with the circumflex that negates it
abbrev pub SpellsOpening : Bool → List ℕ → List ℕ → Type 0
SpellsOpening true ts r = ts ≡ 91 ∷ 94 ∷ r
SpellsOpening false ts r = (ts ≡ 91 ∷ r) × (¬ Begins 94 r)

-- the opening bracket and the items (section G.4.1, posCharGroup and negCharGroup)
abbrev pub SpellsMembers : Members → List ℕ → List ℕ → Type 0
SpellsMembers m ts r = (a : List ℕ) × SpellsOpening m.negated ts a × SpellsItems m.items a r

-- a class with the classes that are taken away from it, one from the other (section G.4.1, charClassExpr)
abbrev pub SpellsClass : Members → List Members → List ℕ → List ℕ → Type 0
SpellsClass m [] ts r = SpellsMembers m ts (93 ∷ r)
SpellsClass m (n ∷ ms) ts r = (a : List ℕ) × SpellsMembers m ts (45 ∷ a) × SpellsClass n ms a (93 ∷ r)

-- decimal digits, of which the first may be 0
abbrev pub SpellsNumber : ℕ → List ℕ → List ℕ → Type 0
SpellsNumber n ts r =
    (ds : List ℕ) × (0 < length ds) × (list_all is_ascii_digit ds ≡ true) × (n ≡ digits_value 10 ds) × (ts ≡ ds ++ r)

-- a quantifier (section G.2, quantifier)
abbrev pub SpellsQuantifier : ℕ → Option ℕ → List ℕ → List ℕ → Type 0
SpellsQuantifier least None ts r =
    ((least ≡ 0) × (ts ≡ 42 ∷ r)) ⊎ ((least ≡ 1) × (ts ≡ 43 ∷ r)) ⊎
    ((a : List ℕ) × (ts ≡ 123 ∷ a) × SpellsNumber least a (44 ∷ 125 ∷ r))
SpellsQuantifier least (Some most) ts r =
    ((least ≡ 0) × (most ≡ 1) × (ts ≡ 63 ∷ r)) ⊎
    ((a : List ℕ) × (ts ≡ 123 ∷ a) × (most ≡ least) × SpellsNumber least a (125 ∷ r)) ⊎
    ((a b : List ℕ) × (ts ≡ 123 ∷ a) × SpellsNumber least a (44 ∷ b) × SpellsNumber most b (125 ∷ r) × (least ≤ most))

-- a token; a second question mark behind a quantifier changes nothing (XPath Functions and Operators 3.1, section 5.6.1)
abbrev pub SpellsToken : Token → List ℕ → List ℕ → Type 0
SpellsToken open_bracket ts r = (ts ≡ 40 ∷ r) ⊎ (ts ≡ 40 ∷ 63 ∷ 58 ∷ r)
SpellsToken close_bracket ts r = ts ≡ 41 ∷ r
SpellsToken bar ts r = ts ≡ 124 ∷ r
SpellsToken start_anchor ts r = ts ≡ 94 ∷ r
SpellsToken end_anchor ts r = ts ≡ 36 ∷ r
SpellsToken (one_of dot) ts r = ts ≡ 46 ∷ r
SpellsToken (one_of (item (Items.Char d))) ts r =
    ((is_normal d ≡ true) × (ts ≡ d ∷ r)) ⊎ SpellsEscape (Items.Char d) ts r
SpellsToken (one_of (item x)) ts r = SpellsEscape x ts r
SpellsToken (one_of (class [])) ts r = ⊥
SpellsToken (one_of (class (m ∷ ms))) ts r = SpellsClass m ms ts r
SpellsToken (times least most) ts r = SpellsQuantifier least most ts r ⊎ SpellsQuantifier least most ts (63 ∷ r)

-- tokens one after the other, up to the end of the text
abbrev pub SpellsTokens : List Token → List ℕ → Type 0
SpellsTokens [] ts = ts ≡ []
SpellsTokens (u ∷ us) ts = (m : List ℕ) × SpellsToken u ts m × SpellsTokens us m

-- the text spells the pattern (sections G.1 and G.2)
abbrev pub Spells : Regex → List ℕ → Type 0
Spells e text = IsPattern e × SpellsTokens (tokens e) text
