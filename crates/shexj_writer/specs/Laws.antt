-- Laws of the definitions, each claimed by a function of `src/laws.rt`, and what the contract of `write` speaks of.
use Rattle.std.specs.Prelude.{ℕ, ◌<◌, ◌≡◌, ◌⊎◌, ◌↔◌, true, List}
use Rattle.serde_json.specs.Data.{depth}
use Rattle.serde_json.specs.Read.{max_depth}
use Rattle.serde_json.specs.Written.{compact_text}
use Rattle.node_constraint.specs.Constraint.{Constraint}
use Rattle.node_constraint.specs.SatNode.{SatNode}
use Rattle.rdf_terms.specs.declared.terms.Term.{Term}
use Rattle.schema_documents.specs.Tree.{Document}
use Rattle.shexj_reader.specs.Bytes.{IsDocumentText}
use Rattle.shexj_reader.specs.Nesting.{document_nesting, max_nesting}
use Rattle.xs_text.specs.Decimal.{is_decimal}
use Rattle.shexj_writer.specs.Documents.{document_data}
use Rattle.shexj_writer.specs.Expressible.{IsExpressibleDocument}
use Rattle.shexj_writer.specs.Held.{IsHeldDocument}
use Rattle.shexj_writer.specs.Numbers.{IsWholeNumber, is_whole}
use Rattle.shexj_writer.specs.Plain.{plain_constraint, plain_document}
use Rattle.shexj_writer.specs.Whole.{is_whole_constraint, is_whole_document}

-- no range facet is refused, and shape and triple expressions nest too deep, or the lists and objects of the JSON value do
pub record IsDeep (doc : Document) : Type 0 where
  pub whole : is_whole_document doc ≡ true
  pub nests : (max_nesting < document_nesting doc) ⊎ (max_depth < depth (document_data doc))

-- the document of bytes in ShExJ has a form in ShExJ
abbrev pub ReadAreExpressible : Type 0
ReadAreExpressible = (bytes : List ℕ) (doc : Document) → IsDocumentText doc bytes → IsExpressibleDocument doc

-- the parts of the document of bytes in ShExJ are those that the types of a program allow
abbrev pub ReadAreHeld : Type 0
ReadAreHeld = (bytes : List ℕ) (doc : Document) → IsDocumentText doc bytes → IsHeldDocument doc

-- the compact text of the JSON value of a document with such parts that has a form in ShExJ, none of whose range facets is refused and which is not
-- too deep, is a text of the document as it is read back
abbrev pub WrittenAreRead : Type 0
WrittenAreRead =
    (doc : Document) → IsHeldDocument doc → IsExpressibleDocument doc → is_whole_document doc ≡ true → ¬ IsDeep doc →
    IsDocumentText (plain_document doc) (compact_text (document_data doc))

-- a constraint with plain facets holds of the same terms
abbrev pub PlainHoldsOfTheSame : Type 0
PlainHoldsOfTheSame = (c : Constraint) → is_whole_constraint c ≡ true → (term : Term) → SatNode (plain_constraint c) term ↔ SatNode c term

-- the test of a decimal text says whether it stands for a whole number from -2^63 to 2^64 - 1
abbrev pub WholeNumbersAreTold : Type 0
WholeNumbersAreTold = (text : List ℕ) → is_decimal text ≡ true → ((is_whole text ≡ true) ↔ IsWholeNumber text)
