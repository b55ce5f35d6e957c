-- What is read from the front of the tokens, as functions: one small definition for each rule of the grammar.
use Rattle.std.specs.Prelude.{Bool, false, ℕ, List}
use Rattle.rdf_cursor.specs.Marks.{mark}
use Rattle.rdf_cursor.specs.Readers.{Reader, ◌>>=◌, give, one, either, finish}
use Rattle.rdf_cursor.specs.Symbols.{is_symbol, is_among}
use Rattle.rdf_cursor.specs.declared.stops.Fault.{Fault}
use Rattle.rdf_cursor.specs.declared.stops.Fault.TheVariants.{Syntax}
use Rattle.rdf_cursor.specs.declared.symbols.Symbol.TheVariants as symbol
use Rattle.rdf_lex.specs.Tokens.{Spelled}
use Rattle.rdf_terms.specs.Vocabulary.{xsd_string}
use Rattle.rdf_terms.specs.declared.terms.Term.{Term}
use Rattle.rdf_terms.specs.declared.terms.Term.TheVariants.{Blank}
use Rattle.graph_index.specs.declared.loading.TermTriple.{TermTriple}
use Rattle.schema_documents.specs.declared.label.Label.TheVariants as label
use Rattle.schema_tree.specs.declared.schema.Target.{Target}
use Rattle.schema_tree.specs.declared.schema.Target.TheVariants as targets
use Rattle.term_tokens.specs.Literals.{datatyped_by}
use Rattle.term_tokens.specs.Meanings.{name_of}
use Rattle.term_tokens.specs.Terms.{iri_term, typed, tags, absolute_of, label_of, short_string_of, absolute_typed_of, tagged_of}
use Rattle.shape_map.specs.Meanings.{iri_target}
use Rattle.session_script.specs.declared.commands.Command.{Command}
use Rattle.session_script.specs.declared.commands.Command.TheVariants as commands
use Rattle.session_script.specs.declared.signs.Sign.{Sign}
use Rattle.session_script.specs.declared.signs.Sign.TheVariants as sign

abbrev pub R : Type 0 → Type 0
R A = Reader Spelled Fault A

-- a target, of any length
unfoldable pub target : R Target
target = either (is_symbol symbol.Start) (mark symbol.Start >>= λ _. give targets.Start)
    (either (is_symbol symbol.BlankLabel) (one Syntax (label_of false) >>= λ name. give (targets.Label (label.Blank name))) (one Syntax (absolute_of false) >>= λ i. give (iri_target i)))

unfoldable pub asked : R Target
asked = either (is_symbol symbol.AtStart) (mark symbol.AtStart >>= λ _. give targets.Start) (mark symbol.At >>= λ _. target)

-- With the flag, what is too long is a fault.
module _ (k : Bool) where
  unfoldable pub named : R Term
  named = one Syntax (absolute_of k) >>= λ i. give (iri_term i)

  unfoldable pub blank : R Term
  blank = one Syntax (label_of k) >>= λ name. give (Blank (name_of name))

  unfoldable pub resource : R Term
  resource = either (is_symbol symbol.BlankLabel) blank named

  -- behind a string
  unfoldable pub suffixed : List ℕ → R Term
  suffixed lex = either (is_among tags) (one Syntax (tagged_of lex)) (either (is_symbol symbol.Carets) (datatyped_by (absolute_typed_of k lex)) (give (typed lex xsd_string)))

  unfoldable pub literal : R Term
  literal = one Syntax (short_string_of k) >>= suffixed

  unfoldable pub object : R Term
  object = either (is_symbol symbol.Str) literal resource

  unfoldable pub edit : R TermTriple
  edit = do
    s ← resource
    p ← named
    o ← object
    _ ← mark symbol.Dot
    give (record { subject = s; predicate = p; object = o })

  unfoldable pub node_literal : R Term
  node_literal = one Syntax (short_string_of k) >>= λ lex. either (is_symbol symbol.AtStart) (give (typed lex xsd_string)) (suffixed lex)

  unfoldable pub node : R Term
  node = either (is_symbol symbol.Str) node_literal resource

  unfoldable pub question : R Command
  question = node >>= λ x. asked >>= λ t. give (commands.Ask x t)

  unfoldable pub body : Sign → R Command
  body sign.Plus = edit >>= λ t. give (commands.Add t)
  body sign.Minus = edit >>= λ t. give (commands.Remove t)
  body sign.Question = question

  -- to the end of a line
  unfoldable pub command : Sign → R Command
  command s = body s >>= finish Syntax
