-- The sets of symbols that the rules of Shapes and of triple expressions begin with (ShEx 2.1, section 6).
use Rattle.std.specs.Prelude.{List, [], ◌∷◌, ◌++◌}
use Rattle.rdf_cursor.specs.declared.symbols.Symbol.{Symbol}
use Rattle.rdf_cursor.specs.declared.symbols.Symbol.TheVariants as symbol
use Rattle.shexc_constraints.specs.Symbols.{predicates, references}

-- what stands before the brace of a Shape, and what may stand behind a constraint
abbrev pub qualifiers : List Symbol
qualifiers = symbol.Extra ∷ symbol.Closed ∷ []

abbrev pub unbraced : List Symbol
unbraced = qualifiers ++ references

abbrev pub shapes_or_references : List Symbol
shapes_or_references = symbol.OpenBrace ∷ unbraced

-- what joins expressions
abbrev pub connectives : List Symbol
connectives = symbol.And ∷ symbol.Or ∷ []

-- what a triple expression without `;` and `|` begins with
abbrev pub units : List Symbol
units = symbol.Ampersand ∷ symbol.Dollar ∷ symbol.OpenParenthesis ∷ symbol.Caret ∷ predicates

-- the word of a start, in any letter case
abbrev pub starts : List Symbol
starts = symbol.Start ∷ symbol.AnyStart ∷ []
