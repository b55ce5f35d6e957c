-- The grammar of what stands behind the sign of a line of a script (own): which tokens spell which command. A rule relates what lies ahead before and behind
-- its tokens. An IRI has a scheme (RDF 1.1 N-Triples, section 2.2), and the blank nodes of terms are named by their printed names.
use Rattle.std.specs.Prelude.{◌≡◌, ◌⊎◌, ℕ, Bool, false, List}
use Rattle.rdf_cursor.specs.Marks.{Mark}
use Rattle.rdf_cursor.specs.Phrases.{Phrase, Is, ◌⨾◌}
use Rattle.rdf_cursor.specs.declared.symbols.Symbol.TheVariants as symbol
use Rattle.rdf_lex.specs.Tokens.{Spelled}
use Rattle.rdf_terms.specs.declared.terms.Term.{Term}
use Rattle.rdf_terms.specs.declared.terms.Term.TheVariants.{Blank}
use Rattle.graph_index.specs.declared.loading.TermTriple.{TermTriple}
use Rattle.schema_documents.specs.declared.label.Label.TheVariants as label
use Rattle.schema_tree.specs.declared.schema.Target as goal
use Rattle.schema_tree.specs.declared.schema.Target.TheVariants as target
use Rattle.term_tokens.specs.Literals as any
use Rattle.term_tokens.specs.Meanings.{name_of}
use Rattle.term_tokens.specs.Terms.{absolute_of, label_of, short_string_of, absolute_typed_of}
use Rattle.nt_reader.specs.Grammar as nt
use Rattle.shape_map.specs.Meanings.{node_tagged_of, iri_target}
use Rattle.session_script.specs.declared.commands.Command as whole
use Rattle.session_script.specs.declared.commands.Command.TheVariants as command

-- With the flag, the texts of terms have a length within the limit.
module _ (k : Bool) where
  -- an IRI, or a blank node by its printed name
  abbrev pub Resource : Term → Phrase Spelled
  Resource x ts r = nt.Predicate k x ts r ⊎ ((name : List ℕ) × (Blank (name_of name) ≡ x) × Is (label_of k) name ts r)

  -- object: a literal of N-Triples, an IRI or a blank node
  abbrev pub Object : Term → Phrase Spelled
  Object x ts r = nt.Literal k x ts r ⊎ Resource x ts r

  -- edit: a triple and its dot, as in a line of N-Triples (RDF 1.1 N-Triples, section 7, [2])
  abbrev pub Edit : TermTriple → Phrase Spelled
  Edit t = Resource t.subject ⨾ nt.Predicate k t.predicate ⨾ Object t.object ⨾ Mark symbol.Dot

  -- node: a literal of N-Triples whose language tag is not `@START`, an IRI or a blank node
  abbrev pub Node : Term → Phrase Spelled
  Node x ts r = any.Literal (short_string_of k) node_tagged_of (absolute_typed_of k) x ts r ⊎ Resource x ts r

-- target: the start, or a label of any length, which is that of a blank node as it is or an IRI (ShapeMap Structure and Language, section 3.1)
abbrev pub Target : goal.Target → Phrase Spelled
Target t ts r =
    ((target.Start ≡ t) × Mark symbol.Start ts r)
    ⊎ (((name : List ℕ) × (target.Label (label.Blank name) ≡ t) × Is (label_of false) name ts r) ⊎ ((i : List ℕ) × (iri_target i ≡ t) × Is (absolute_of false) i ts r))

-- `@` and a target, or `@START`
abbrev pub Asked : goal.Target → Phrase Spelled
Asked t ts r = ((target.Start ≡ t) × Mark symbol.AtStart ts r) ⊎ (Mark symbol.At ⨾ Target t) ts r

-- what stands behind the sign of a command
abbrev pub Body : Bool → whole.Command → Phrase Spelled
Body k (command.Add t) = Edit k t
Body k (command.Remove t) = Edit k t
Body k (command.Ask x t) = Node k x ⨾ Asked t
