-- What the schema of a drill stands for.
use Rattle.std.specs.Prelude.{false, ℕ, List, [], ◌∷◌, ◌++◌, codes, Some, None}
use Rattle.node_constraint.specs.Constraint.{Constraint}
use Rattle.schema_documents.specs.Tree.{ShapeExpr, TripleExpr, arc, each, node, one_expr, one_triple, refer, shape, triple, triples}
use Rattle.schema_documents.specs.declared.label.Label.{Label}
use Rattle.schema_documents.specs.declared.label.Label.TheVariants as label
use Rattle.shexc_reader.specs.Documents.{IsDocument, at_first}
use Rattle.shexc_reader.specs.States.{State, added, declared}
use Rattle.tally.specs.declared.Bound.TheVariants.{Free, Upto}
use Rattle.value_sets.specs.declared.value.Value.TheVariants as value
use Rattle.shex_drill.specs.Terms.{home, tag_term}
use Rattle.shex_drill.specs.Texts.{schema_text}

-- the label of the Shape of items
abbrev pub item_label : Label
item_label = label.Iri (home ++ codes "Item")

-- an item leads to items alone, to any number of them
abbrev pub next_arc : TripleExpr
next_arc = triple None 0 Free (arc false (home ++ codes "next") (one_expr (refer item_label)))

-- and it has one tag, which is 1, 2 or 3
abbrev pub allowed_tags : Constraint
allowed_tags = record { kind = None; datatype = None; facets = []; values = Some (value.Term (tag_term 1) ∷ value.Term (tag_term 2) ∷ value.Term (tag_term 3) ∷ []) }

abbrev pub tag_arc : TripleExpr
tag_arc = triple None 1 (Upto 1) (arc false (home ++ codes "tag") (one_expr (node allowed_tags)))

abbrev pub item_shape : ShapeExpr
item_shape = shape false [] (one_triple (triple None 1 (Upto 1) (each (triples (next_arc ∷ tag_arc ∷ [])))))

-- the prefix, and the one Shape with its label
abbrev pub schema_state : List ℕ → State
schema_state base = added item_label item_shape (declared [] home (at_first base))

-- the schema spells this document, under any base
abbrev pub SchemaIsDocument : Type 0
SchemaIsDocument = (base : List ℕ) → IsDocument base schema_text (schema_state base)
