-- What tokens of shape maps stand for besides what they stand for in Turtle (ShapeMap Structure and Language, section 3.1).
use Rattle.std.specs.Prelude.{ℕ, false, List, [], ◌∷◌, Result, Err, if◌then◌else◌}
use Rattle.std.specs.Str.{chars}
use Rattle.rdf_terms.specs.declared.terms.Term.{Term}
use Rattle.rdf_terms.specs.declared.terms.Term.TheVariants.{Blank}
use Rattle.rdf_lex.specs.Tokens.{Spelled}
use Rattle.rdf_cursor.specs.declared.stops.Fault.{Fault}
use Rattle.rdf_cursor.specs.declared.stops.Fault.TheVariants.{Syntax}
use Rattle.rdf_cursor.specs.declared.symbols.Symbol.{Symbol}
use Rattle.rdf_cursor.specs.declared.symbols.Symbol.TheVariants as symbol
use Rattle.rdf_cursor.specs.Symbols.{is_among}
use Rattle.schema_documents.specs.declared.label.Label.TheVariants as label
use Rattle.schema_tree.specs.declared.schema.Target.{Target}
use Rattle.schema_tree.specs.declared.schema.Target.TheVariants as target
use Rattle.term_tokens.specs.Meanings.{name_of}
use Rattle.term_tokens.specs.Terms.{names, labelled, tagged_of}

-- names with a prefix, also with an `@` in front of them
abbrev pub prefixed : List Symbol
prefixed = symbol.AtName ∷ names

-- the marks behind which a target stands
abbrev pub target_marks : List Symbol
target_marks = symbol.At ∷ symbol.Exclamation ∷ []

-- language tags: `@START` is a target and none
abbrev pub node_tags : List Symbol
node_tags = symbol.LangTag ∷ symbol.AtPrefix ∷ symbol.AtBase ∷ []

-- a literal of this lexical form and the token's language tag
unfoldable pub node_tagged_of : List ℕ → Spelled → Result Term Fault
node_tagged_of lex t = if is_among node_tags t then tagged_of lex t else Err Syntax

-- a blank node by its printed name
unfoldable pub blank_of : Spelled → Result Term Fault
blank_of t = labelled (λ name. Blank (name_of name)) false t

-- a target that is the label of a blank node
unfoldable pub blank_target_of : Spelled → Result Target Fault
blank_target_of t = labelled (λ name. target.Label (label.Blank name)) false t

-- a target that is an IRI
abbrev pub iri_target : List ℕ → Target
iri_target iri = target.Label (label.Iri (chars iri))
