-- Why a node does not satisfy a shape expression, in the text of an explanation (ShEx 2.1, sections 5.3 and 5.4; own: the words).
use Rattle.std.specs.Prelude.{ℕ, Bool, true, false, List, [], ◌++◌, ◌||◌, ◌&&◌, Option, Some, None, codes, encode_utf8_all, if◌then◌else◌, slice_get}
use Rattle.std.specs.Fmt.{decimal}
use Rattle.rdf_terms.specs.declared.terms.Term.{Term}
use Rattle.rdf_terms.specs.declared.terms.Term.TheVariants.{Lit}
use Rattle.rdf_terms.specs.declared.terms.TermId.{TermId}
use Rattle.rdf_terms.specs.Order.{text_at}
use Rattle.rdf_terms.specs.Texts.{same_text}
use Rattle.rdf_terms.specs.Vocabulary.{xsd_double, xsd_float}
use Rattle.rdf_terms.specs.Written.{iri_text}
use Rattle.node_constraint.specs.declared.facet.Facet.{Facet}
use Rattle.node_constraint.specs.declared.facet.Facet.TheVariants as Facets
use Rattle.node_constraint.specs.declared.Kind4.{Kind4}
use Rattle.node_constraint.specs.declared.Kind4.TheVariants as Kinds
use Rattle.node_constraint.specs.declared.part.ConstraintPart.{ConstraintPart}
use Rattle.node_constraint.specs.declared.part.ConstraintPart.TheVariants as Parts
use Rattle.node_constraint.specs.Constraint.{Constraint}
use Rattle.schema_tree.specs.declared.schema.Expr.{Expr}
use Rattle.schema_tree.specs.declared.schema.Expr.TheVariants as Exprs
use Rattle.schema_tree.specs.declared.schema.ExprId.{ExprId}
use Rattle.schema_tree.specs.Entries.{entry}
use Rattle.explanations.specs.declared.explanation.Why.{Why}
use Rattle.explanations.specs.declared.explanation.Why.TheVariants.{Part, See}
use Rattle.explanation_texts.specs.declared.setting.Setting.{Setting}
use Rattle.explanation_texts.specs.Names.{expr_name, shape_name}

-- the keyword of a kind of nodes
abbrev pub kind_word : Kind4 → List ℕ
kind_word Kinds.Iri = codes "IRI"
kind_word Kinds.Bnode = codes "BNODE"
kind_word Kinds.NonLiteral = codes "NONLITERAL"
kind_word Kinds.Literal = codes "LITERAL"

-- the keyword of a facet, as far as its value
abbrev pub facet_word : Facet → List ℕ
facet_word (Facets.Length n) = codes "LENGTH "
facet_word (Facets.MinLength n) = codes "MINLENGTH "
facet_word (Facets.MaxLength n) = codes "MAXLENGTH "
facet_word (Facets.MinInclusive bound) = codes "MININCLUSIVE "
facet_word (Facets.MinExclusive bound) = codes "MINEXCLUSIVE "
facet_word (Facets.MaxInclusive bound) = codes "MAXINCLUSIVE "
facet_word (Facets.MaxExclusive bound) = codes "MAXEXCLUSIVE "
facet_word (Facets.TotalDigits n) = codes "TOTALDIGITS "
facet_word (Facets.FractionDigits n) = codes "FRACTIONDIGITS "
facet_word (Facets.Pattern pattern flags) = codes "/"

-- the value of a facet
abbrev pub facet_value : Facet → List ℕ
facet_value (Facets.Length n) = decimal n
facet_value (Facets.MinLength n) = decimal n
facet_value (Facets.MaxLength n) = decimal n
facet_value (Facets.MinInclusive bound) = encode_utf8_all bound
facet_value (Facets.MinExclusive bound) = encode_utf8_all bound
facet_value (Facets.MaxInclusive bound) = encode_utf8_all bound
facet_value (Facets.MaxExclusive bound) = encode_utf8_all bound
facet_value (Facets.TotalDigits n) = decimal n
facet_value (Facets.FractionDigits n) = decimal n
facet_value (Facets.Pattern pattern flags) = encode_utf8_all pattern ++ (codes "/" ++ encode_utf8_all flags)

-- the facet is about numbers
abbrev pub is_on_numbers : Facet → Bool
is_on_numbers (Facets.Length n) = false
is_on_numbers (Facets.MinLength n) = false
is_on_numbers (Facets.MaxLength n) = false
is_on_numbers (Facets.Pattern pattern flags) = false
is_on_numbers (Facets.MinInclusive bound) = true
is_on_numbers (Facets.MinExclusive bound) = true
is_on_numbers (Facets.MaxInclusive bound) = true
is_on_numbers (Facets.MaxExclusive bound) = true
is_on_numbers (Facets.TotalDigits n) = true
is_on_numbers (Facets.FractionDigits n) = true

-- the term is a literal of this datatype
abbrev pub has_datatype : List ℕ → Term → Bool
has_datatype datatype (Lit literal) = same_text literal.datatype datatype
has_datatype datatype term = false

-- the term is a literal of xsd:float or xsd:double
abbrev pub is_floating : Term → Bool
is_floating term = has_datatype xsd_float term || has_datatype xsd_double term

-- what is noted where a facet on numbers meets a floating-point number
abbrev pub facet_note : Facet → Term → List ℕ
facet_note facet term = if is_on_numbers facet && is_floating term then codes ": facets look at decimals alone" else []

-- the term fails the facet, if there is one
abbrev pub facet_text : Option Facet → Term → List ℕ
facet_text None term = []
facet_text (Some facet) term = codes " fails " ++ (facet_word facet ++ (facet_value facet ++ facet_note facet term))

-- the term is not of the kind, if one is asked for
abbrev pub kind_text : Option Kind4 → List ℕ
kind_text None = []
kind_text (Some kind) = codes " is no " ++ kind_word kind

-- the term is no literal of the datatype, or has no valid lexical form of it, if one is asked for
abbrev pub datatype_text : Option (List ℕ) → Term → List ℕ
datatype_text None term = []
datatype_text (Some datatype) term = (if has_datatype datatype term then codes " is no valid " else codes " is no literal of ") ++ iri_text datatype

-- the part of a node constraint does not hold for the term
abbrev pub part_text : Constraint → Term → ConstraintPart → List ℕ
part_text c term Parts.Kind = kind_text c.kind
part_text c term Parts.Datatype = datatype_text c.datatype term
part_text c term (Parts.Facet i) = facet_text (slice_get c.facets i) term
part_text c term Parts.Values = codes " is not in the value set"

-- why the part does not hold, where the expression is a node constraint and the term is there, and else nothing
abbrev pub failed_part : Option Expr → Option Term → ConstraintPart → List ℕ
failed_part (Some (Exprs.Node c)) (Some term) part = part_text c term part
failed_part x term part = []

-- what a node is not: it does not have a Shape, or does not satisfy another expression
abbrev pub failed_expr : Setting → ExprId → Option Expr → List ℕ
failed_expr s e (Some (Exprs.Shape i)) = codes " is not " ++ shape_name s.names.now i
failed_expr s e x = codes " does not satisfy " ++ expr_name s.names.now e

-- what a node is: it has a Shape, or satisfies another expression
abbrev pub satisfied_expr : Setting → ExprId → Option Expr → List ℕ
satisfied_expr s e (Some (Exprs.Shape i)) = codes " is " ++ shape_name s.names.now i
satisfied_expr s e x = codes " satisfies " ++ expr_name s.names.now e

-- the number of a block
abbrev pub block_number : ℕ → List ℕ
block_number k = codes "[" ++ (decimal k ++ codes "]")

-- why the node does not satisfy the expression
abbrev pub why_text : Setting → TermId → ExprId → Why → List ℕ
why_text s n e (Part part) = text_at s.terms.now n ++ failed_part (entry s.schema.now e) (slice_get s.terms.now n.0) part
why_text s n e (See k) = text_at s.terms.now n ++ (failed_expr s e (entry s.schema.now e) ++ (codes ", see " ++ block_number k))
