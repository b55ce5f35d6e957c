-- The blocks of an explanation as data of JSON (own: the keys and the words of kinds).
use Rattle.std.specs.Prelude.{ℕ, suc, List, [], ◌∷◌, ◌+◌, Option, Some, None, codes, map, slice_get}
use Rattle.std.specs.List.{flat_map, list_any}
use Rattle.std.specs.Str.Lossy.{utf8_lossy}
use Rattle.rdf_terms.specs.declared.terms.Term.{Term}
use Rattle.rdf_terms.specs.declared.terms.TermId.{TermId}
use Rattle.rdf_terms.specs.declared.terms.Triple.{Triple}
use Rattle.rdf_terms.specs.Order.{text_at}
use Rattle.node_constraint.specs.declared.part.ConstraintPart.{ConstraintPart}
use Rattle.node_constraint.specs.declared.part.ConstraintPart.TheVariants as Parts
use Rattle.schema_tree.specs.declared.schema.Expr.{Expr}
use Rattle.schema_tree.specs.declared.schema.Expr.TheVariants as Exprs
use Rattle.schema_tree.specs.declared.schema.ExprId.{ExprId}
use Rattle.schema_tree.specs.declared.schema.Occurrence.{Occurrence}
use Rattle.schema_tree.specs.Entries.{entry, shape_at}
use Rattle.serde_json.specs.Data.{Data, Members, array, boolean, no_members, number, object, put, string, unsigned}
use Rattle.serde_json.specs.View.{items_of}
use Rattle.nonconformance.specs.declared.cause.Cause.{Cause}
use Rattle.nonconformance.specs.declared.cause.Cause.TheVariants as Causes
use Rattle.nonconformance.specs.declared.offers.Offer.{Offer}
use Rattle.nonconformance.specs.declared.reason.Reason.{Reason}
use Rattle.nonconformance.specs.declared.reason.Reason.TheVariants as Reasons
use Rattle.explanations.specs.declared.explanation.Block.{Block}
use Rattle.explanations.specs.declared.explanation.Block.TheVariants as Blocks
use Rattle.explanations.specs.declared.explanation.Misfit.{Misfit}
use Rattle.explanations.specs.declared.explanation.ToldCause.{ToldCause}
use Rattle.explanations.specs.declared.explanation.ToldReason.{ToldReason}
use Rattle.explanations.specs.declared.explanation.Why.{Why}
use Rattle.explanations.specs.declared.explanation.Why.TheVariants.{Part, See}
use Rattle.explanation_texts.specs.declared.setting.Setting.{Setting}
use Rattle.explanation_texts.specs.Conditions.{why_text}
use Rattle.explanation_texts.specs.Folding.{shown_reasons}
use Rattle.explanation_texts.specs.Names.{expr_name, shape_name}
use Rattle.explanation_texts.specs.Reasons.{constraint_at, is_rest, occs_of}
use Rattle.explanation_texts.specs.Words.{constraint_text, triple_text}

-- bytes as a string of JSON
abbrev pub text_data : List ℕ → Data
text_data bytes = string (utf8_lossy bytes)

-- a natural number of JSON
abbrev pub number_data : ℕ → Data
number_data n = number (unsigned n)

-- data in an array
abbrev pub list_data : List Data → Data
list_data xs = array (items_of xs)

-- a triple as a line of N-Triples, without its line feed
abbrev pub triple_data : List Term → Triple → Data
triple_data terms t = text_data (triple_text terms t)

-- the triple constraint of a number
abbrev pub constraint_data : List Term → List Occurrence → ℕ → Data
constraint_data terms occs i = text_data (constraint_text terms occs i)

-- the name of a shape expression: that of its Shape, if it is one
abbrev pub called : Setting → ExprId → Option Expr → List ℕ
called s e (Some (Exprs.Shape i)) = shape_name s.names.now i
called s e x = expr_name s.names.now e

abbrev pub expr_data : Setting → ExprId → Data
expr_data s e = text_data (called s e (entry s.schema.now e))

-- the word of a part of a node constraint
abbrev pub part_word : ConstraintPart → List ℕ
part_word Parts.Kind = codes "nodeKind"
part_word Parts.Datatype = codes "datatype"
part_word (Parts.Facet i) = codes "facet"
part_word Parts.Values = codes "values"

-- why the node does not satisfy the expression, beside other members: the number of the block that tells it, or the part of a node
-- constraint that does not hold, and that in words
abbrev pub put_why : Setting → TermId → ExprId → Why → Members → Members
put_why s n e (See k) ms = put (codes "see") (number_data k) ms
put_why s n e (Part part) ms = put (codes "text") (text_data (why_text s n e (Part part))) (put (codes "part") (string (part_word part)) ms)

-- why the node does not satisfy the expression, if that is told
abbrev pub put_why_if : Setting → TermId → ExprId → Option Why → Members → Members
put_why_if s n e None ms = ms
put_why_if s n e (Some why) ms = put_why s n e why ms

-- why a triple constraint does not take a triple: its value is not satisfied at the other end
abbrev pub misfit_data : Setting → List Occurrence → Misfit → Data
misfit_data s occs m =
    object (put_why s m.node m.value m.why (put (codes "node") (text_data (text_at s.terms.now m.node))
    (put (codes "constraint") (constraint_data s.terms.now occs m.constraint) no_members)))

-- a greatest number, if there is one
abbrev pub put_most : Option ℕ → Members → Members
put_most None ms = ms
put_most (Some most) ms = put (codes "most") (number_data most) ms

-- how many triples the triple constraint of number i takes
abbrev pub count_data : List Term → List Occurrence → ℕ → ℕ → Option ℕ → Data
count_data terms occs i low high =
    object (put_most high (put (codes "least") (number_data low) (put (codes "constraint") (constraint_data terms occs i) no_members)))

-- how many triples each triple constraint from number i on takes
abbrev pub counts_data : List Term → List Occurrence → List ℕ → ℕ → List ℕ → List Data
counts_data terms occs high i [] = []
counts_data terms occs high i (low ∷ more) = count_data terms occs i low (slice_get high i) ∷ counts_data terms occs high (suc i) more

-- a triple with the triple constraints that may take it, and whether it may be left over
abbrev pub offer_data : List Term → List Occurrence → Offer → Data
offer_data terms occs o =
    object (put (codes "leftOver") (boolean (list_any is_rest o.places))
    (put (codes "constraints") (list_data (map (constraint_data terms occs) (flat_map constraint_at o.places)))
    (put (codes "triple") (triple_data terms o.triple) no_members)))

-- the word of a kind of reasons or causes
abbrev pub put_kind : List ℕ → Members → Members
put_kind kind ms = put (codes "kind") (string kind) ms

-- a number of triples that these triple constraints take together, under a key, and the triples that were found for them
abbrev pub put_bound : List Term → List Occurrence → List ℕ → ℕ → List ℕ → List Triple → Members → Members
put_bound terms occs key bound own found ms =
    put (codes "found") (list_data (map (triple_data terms) found)) (put key (number_data bound)
    (put (codes "constraints") (list_data (map (constraint_data terms occs) own)) ms))

-- a reason why a node does not have a Shape with these triple constraints, with what it rests on
abbrev pub put_told : Setting → List Occurrence → List Misfit → List Offer → Reason → Members → Members
put_told s occs misfits offers (Reasons.Forbidden t) ms = put (codes "triple") (triple_data s.terms.now t) (put_kind (codes "closed") ms)
put_told s occs misfits offers (Reasons.Unmatched t) ms =
    put (codes "causes") (list_data (map (misfit_data s occs) misfits))
    (put (codes "triple") (triple_data s.terms.now t) (put_kind (codes "unmatched") ms))
put_told s occs misfits offers (Reasons.TooFew own least found) ms =
    put_bound s.terms.now occs (codes "least") least own found (put_kind (codes "tooFew") ms)
put_told s occs misfits offers (Reasons.TooMany own most found) ms =
    put_bound s.terms.now occs (codes "most") most own found (put_kind (codes "tooMany") ms)
put_told s occs misfits offers (Reasons.NoMatchingCounts low high) ms =
    put (codes "counts") (list_data (counts_data s.terms.now occs high 0 low)) (put_kind (codes "noMatchingNumbers") ms)
put_told s occs misfits offers Reasons.NoMatchingPlaces ms =
    put (codes "triples") (list_data (map (offer_data s.terms.now occs) offers)) (put_kind (codes "noWay") ms)

abbrev pub reason_data : Setting → List Occurrence → ToldReason → Data
reason_data s occs told = object (put_told s occs told.misfits told.offers told.reason no_members)

-- a member of a joined expression, and why the node does not satisfy it, if that is told
abbrev pub put_member : Setting → TermId → ExprId → Option Why → Members → Members
put_member s n e why ms = put_why_if s n e why (put (codes "expression") (expr_data s e) ms)

-- members, of which the first has the number i
abbrev pub members_data : Setting → TermId → List Why → ℕ → List ExprId → List Data
members_data s n whys i [] = []
members_data s n whys i (e ∷ es) = object (put_member s n e (slice_get whys i) no_members) ∷ members_data s n whys (suc i) es

-- a cause why a node does not satisfy an expression, with what it rests on
abbrev pub put_cause : Setting → TermId → List Why → Cause → Members → Members
put_cause s n members (Causes.Member e) ms = put_member s n e (slice_get members 0) (put_kind (codes "and") ms)
put_cause s n members (Causes.NoMember es) ms = put (codes "members") (list_data (members_data s n members 0 es)) (put_kind (codes "or") ms)
put_cause s n members (Causes.Negated e) ms = put (codes "expression") (expr_data s e) (put_kind (codes "not") ms)
put_cause s n members (Causes.FailedPart part) ms = ms
put_cause s n members (Causes.Lacks i) ms = ms

abbrev pub cause_data : Setting → TermId → ToldCause → Data
cause_data s n told = object (put_cause s n told.members told.cause no_members)

-- the number and the node of a block
abbrev pub put_subject : Setting → ℕ → TermId → Members → Members
put_subject s k n ms = put (codes "node") (text_data (text_at s.terms.now n)) (put (codes "number") (number_data k) ms)

-- the block of number k
abbrev pub put_block : Setting → ℕ → Block → Members → Members
put_block s k (Blocks.Reasons p told) ms =
    put (codes "reasons") (list_data (map (reason_data s (occs_of (shape_at s.schema.now p.shape))) (shown_reasons told)))
    (put (codes "shape") (text_data (shape_name s.names.now p.shape)) (put_subject s k p.node ms))
put_block s k (Blocks.Causes n e told) ms =
    put (codes "causes") (list_data (map (cause_data s n) told))
    (put (codes "expression") (text_data (expr_name s.names.now e)) (put_subject s k n ms))

-- blocks of which the first has the number k + i
abbrev pub blocks_data : Setting → ℕ → ℕ → List Block → List Data
blocks_data s k i [] = []
blocks_data s k i (b ∷ bs) = object (put_block s (k + i) b no_members) ∷ blocks_data s k (suc i) bs

-- why a node does not satisfy an expression, and the blocks that are mentioned there first, from number k on
abbrev pub tree_data : Setting → ℕ → TermId → ExprId → Why → List Block → Data
tree_data s k n e why blocks = object (put (codes "blocks") (list_data (blocks_data s k 0 blocks)) (put_why s n e why no_members))
