-- A pattern as a plain tree, with lists of children (XML Schema Part 2, version 1.1, sections G.1 and G.2).
use Rattle.std.specs.Prelude.{ℕ, Bool, Option, List, [], ◌∷◌, map}
use Rattle.xs_pattern.specs.declared.expression.Item.{Item}
use Rattle.xs_pattern.specs.declared.expression.CharGroup.{CharGroup}
use Rattle.xs_pattern.specs.declared.expression.Set.{Set}
use Rattle.xs_pattern.specs.declared.expression.Set.TheVariants as Sets
use Rattle.xs_pattern.specs.declared.expression.Expression.{Expression}
use Rattle.xs_pattern.specs.declared.expression.Expression.TheOpen.{Expression-F, Start, End, One, Group, Branch, Choice, Repeat}
use Rattle.xs_pattern.specs.declared.expression.Expression.TheFolds.{fold-Expression}

-- items of a character class, or all characters but theirs (section G.4.1)
pub record Members : Type 0 where
  pub negated : Bool
  pub items : List Item

-- what matches one character (section G.4)
pub data Chars : Type 0 where
  dot : Chars
  item : Item → Chars
  class : List Members → Chars

mutual
  -- a regular expression (sections G.1 and G.2)
  pub data Regex : Type 0 where
    start : Regex
    finish : Regex
    one : Chars → Regex
    group : Regex → Regex
    branch : Regexes → Regex
    choice : Regexes → Regex
    repeat : ℕ → Option ℕ → Regex → Regex

  -- the pieces of a branch, or the branches of a choice
  pub data Regexes : Type 0 where
    none : Regexes
    more : Regex → Regexes → Regexes

-- a list of expressions as children
abbrev pub row : List Regex → Regexes
row [] = none
row (e ∷ es) = more e (row es)

abbrev pub members_of : CharGroup → Members
members_of l = record { negated = l.negated; items = l.items.items }

abbrev pub chars_of : Set → Chars
chars_of Sets.Dot = dot
chars_of (Sets.Item i) = item i
chars_of (Sets.Class ls) = class (map members_of ls.items)

-- one layer, with the tree of each child in its place
abbrev pub regex_step : Expression-F Regex → Regex
regex_step Start = start
regex_step End = finish
regex_step (One s) = one (chars_of s)
regex_step (Group e) = group e.value
regex_step (Branch es) = branch (row es.items)
regex_step (Choice es) = choice (row es.items)
regex_step (Repeat least most e) = repeat least most e.value

-- the expression as a plain tree
abbrev pub regex_of : Expression → Regex
regex_of = fold-Expression Regex regex_step

-- a list of expressions as children
abbrev pub regexes_of : List Expression → Regexes
regexes_of es = row (map regex_of es)
