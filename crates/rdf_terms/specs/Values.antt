-- What is known of each term that a program holds.
use Rattle.std.specs.Prelude.{ℕ, List, ◌≡◌, ◌≤◌, true, Option, Some, None, ⊤}
use Rattle.std.specs.Str.{all_scalars}
use Rattle.rdf_terms.specs.Literals.{LiteralParts, IsLiteral}
use Rattle.rdf_terms.specs.declared.terms.Name.{Name}
use Rattle.rdf_terms.specs.declared.terms.Name.TheVariants.{Label, Fresh}
use Rattle.rdf_terms.specs.declared.terms.Term.{Term}
use Rattle.rdf_terms.specs.declared.terms.Term.TheVariants.{Iri, Blank, Lit}

-- the text is of Unicode scalar values (RDF 1.1 Concepts, sections 3.2 and 3.3)
abbrev pub IsUnicode : List ℕ → Type 0
IsUnicode text = all_scalars text ≡ true

-- the same of a text that need not be there
abbrev pub IsUnicodeIfAny : Option (List ℕ) → Type 0
IsUnicodeIfAny None = ⊤
IsUnicodeIfAny (Some text) = IsUnicode text

-- a label of Unicode scalar values, or a number of 32 bits
abbrev pub IsNameValue : Name → Type 0
IsNameValue (Label label) = IsUnicode label
IsNameValue (Fresh n) = n ≤ 4294967295

-- each part of the literal is of Unicode scalar values
pub record IsLiteralUnicode (l : LiteralParts) : Type 0 where
  pub lex : IsUnicode l.lex
  pub datatype : IsUnicode l.datatype
  pub lang : IsUnicodeIfAny l.lang

-- what is known of each term that a program holds: its texts are of Unicode scalar values, and its number has 32 bits
abbrev pub IsValue : Term → Type 0
IsValue (Iri iri) = IsUnicode iri
IsValue (Blank name) = IsNameValue name
IsValue (Lit literal) = IsLiteralUnicode literal

-- the number of an anonymous node is at least 1
abbrev pub IsNumberedName : Name → Type 0
IsNumberedName (Label label) = ⊤
IsNumberedName (Fresh n) = 1 ≤ n

-- a term that has a text of its own: an anonymous node is numbered from 1, and the parts of a literal go together (RDF 1.1
-- Concepts, section 3.3)
abbrev pub IsWhole : Term → Type 0
IsWhole (Iri iri) = ⊤
IsWhole (Blank name) = IsNumberedName name
IsWhole (Lit literal) = IsLiteral literal

-- what a literal that is read is
pub record IsLiteralValue (l : LiteralParts) : Type 0 where
  pub parts : IsLiteral l
  pub lex : IsUnicode l.lex
  pub datatype : IsUnicode l.datatype
  pub lang : IsUnicodeIfAny l.lang

-- what a name that is read is
abbrev pub IsWholeName : Name → Type 0
IsWholeName name = IsNumberedName name × IsNameValue name

-- what a term that is read is
abbrev pub IsWholeTerm : Term → Type 0
IsWholeTerm term = IsWhole term × IsValue term
