-- The schema for which the document of a drill stands, whatever the label, the predicates and the tags are.
use Rattle.std.proofs.Common.{◌≡◌, ◌∙◌, ℕ, zero, suc, List, [], ◌∷◌, false, Some, None, refl, sym, ap, subst, arith}
use Rattle.std.specs.Prelude.{if◌then◌else◌, nat_eq, slice_get}
use Rattle.std.specs.List.{AllZip}
use Rattle.node_constraint.specs.Constraint.{Constraint}
use Rattle.rdf_terms.specs.declared.terms.Term.{Term}
use Rattle.rdf_terms.specs.declared.terms.Term.TheVariants.{Iri}
use Rattle.tally.specs.declared.Bound.TheVariants.{Free, Upto}
use Rattle.tally.specs.Plan.{Plan, many, more_plans, no_plans, each as all_of, sym as symbol}
use Rattle.schema_documents.specs.Tree.{Document, arc as arc_of, each, no_expr, node, one_expr, one_triple, refer, shape, triple, triples}
use Rattle.schema_documents.specs.declared.label.Label.{Label}
use Rattle.schema_load.specs.declared.part.Part.{Part}
use Rattle.schema_load.specs.declared.part.Part.TheVariants as Parts
use Rattle.schema_load.specs.declared.part.TripleForm.TheVariants.{Arc, Each}
use Rattle.schema_load.specs.Graph.{Resolves, itself, through}
use Rattle.schema_load.specs.Parts.{IsAt, IsDeclared}
use Rattle.schema_load.specs.Reading.{parts_of}
use Rattle.schema_load.specs.Stands.{IsBody, IsEntryAt, IsOccurrence, IsShapeAt, Stands, arc, each_of, entry_places, more, none}
use Rattle.schema_tree.specs.declared.schema.Expr.TheVariants as Exprs
use Rattle.schema_tree.specs.declared.schema.ExprId.{ExprId}
use Rattle.schema_tree.specs.declared.schema.Occurrence.{Occurrence}
use Rattle.schema_tree.specs.declared.schema.Schema.{Schema}
use Rattle.schema_tree.specs.declared.schema.Shape.{Shape}
use Rattle.drill_laws.proofs.Parts.{depth_at, item_depths, item_parts, met, referred_there, shape_part, target}

-- the numbers of the expressions: the Shape and what refers to it are 0, the tags 1
abbrev pub number : ℕ → ExprId
number p = record { 0 = if nat_eq p 6 then 1 else 0 }

-- the occurrences, whose predicates are the first and the second term
abbrev pub next_occurrence : Occurrence
next_occurrence = record { inverse = false; predicate = record { 0 = 0 }; value = Some (record { 0 = 0 }) }

abbrev pub tag_occurrence : Occurrence
tag_occurrence = record { inverse = false; predicate = record { 0 = 1 }; value = Some (record { 0 = 1 }) }

abbrev pub item_plan : Plan
item_plan = all_of (more_plans (many 0 Free (symbol 0)) (more_plans (symbol 1) no_plans))

abbrev pub the_shape : Shape
the_shape = record { closed = false; extra = []; body = Some item_plan; occs = next_occurrence ∷ tag_occurrence ∷ [] }

abbrev pub item_schema : Label → Constraint → Schema
item_schema item tags = record {
  exprs = Exprs.Shape (record { 0 = 0 }) ∷ Exprs.Node tags ∷ [];
  shapes = the_shape ∷ [];
  labels = (item, record { 0 = 0 }) ∷ [];
  start = None;
}

module _ (item : Label) (next tag : List ℕ) (tags : Constraint) where
  abbrev pub item_document : Document
  item_document = record {
    imports = [];
    start = no_expr;
    decls = record { label = item; expr = shape false [] (one_triple (triple None 1 (Upto 1) (each (triples (triple None 0 Free (arc_of false next (one_expr (refer item))) ∷ triple None 1 (Upto 1) (arc_of false tag (one_expr (node tags))) ∷ []))))) } ∷ [];
  }

  abbrev pub item_terms : List Term
  item_terms = Iri next ∷ Iri tag ∷ []

  abbrev parts : List Part
  parts = item_parts item next tag tags

  parts_are : parts_of (item_document ∷ []) ≡ parts
  parts_are = refl

  -- ---- entries

  are_places : entry_places parts item_depths 256 ≡ 1 ∷ 6 ∷ []
  unfolding entry_places
  are_places = refl

  numbered_so : (i p : ℕ) → slice_get (1 ∷ 6 ∷ []) i ≡ Some p → (number p).0 ≡ i
  numbered_so zero p e = let is : 1 ≡ p = cc in subst (λ z. (number z).0 ≡ 0) is refl
  numbered_so (suc zero) p e = let is : 6 ≡ p = cc in subst (λ z. (number z).0 ≡ 1) is refl
  numbered_so (suc (suc i)) p e = absurd (let bad : ⊥ = cc in bad)

  numbered_at : (i p : ℕ) → slice_get (entry_places parts item_depths 256) i ≡ Some p → (number p).0 ≡ i
  numbered_at i p e = numbered_so i p (sym (ap (λ ps. slice_get ps i) are_places) ∙ e)

  first_entry : IsEntryAt item_terms parts number 1 (Exprs.Shape (record { 0 = 0 }))
  first_entry = (shape_part item next tag tags, refl, refl)

  second_entry : IsEntryAt item_terms parts number 6 (Exprs.Node tags)
  second_entry = (Parts.Node tags, refl, refl)

  entries : AllZip (IsEntryAt item_terms parts number) (entry_places parts item_depths 256) (item_schema item tags).exprs
  entries = subst (λ ps. AllZip (IsEntryAt item_terms parts number) ps (item_schema item tags).exprs) (sym are_places) (first_entry, (second_entry, tt))

  -- ---- the Shape

  is_next : IsOccurrence item_terms parts number (record { inverse = false; predicate = next; value = Some 4 }) next_occurrence
  is_next = record { inverse = refl; predicate = refl; value = refl }

  is_tag : IsOccurrence item_terms parts number (record { inverse = false; predicate = tag; value = Some 6 }) tag_occurrence
  is_tag = record { inverse = refl; predicate = refl; value = refl }

  is_body : IsBody item_terms parts number (Some 2) (Some item_plan) (next_occurrence ∷ tag_occurrence ∷ [])
  is_body = each_of {t = record { label = None; min = 1; max = Upto 1; form = Each (3 ∷ 5 ∷ []) }} {ps = 3 ∷ 5 ∷ []} refl refl
      (more {occs = next_occurrence ∷ []} {rest = tag_occurrence ∷ []} (arc {t = record { label = None; min = 0; max = Free; form = Arc (record { inverse = false; predicate = next; value = Some 4 }) }} refl refl is_next)
      (more {occs = tag_occurrence ∷ []} {rest = []} (arc {t = record { label = None; min = 1; max = Upto 1; form = Arc (record { inverse = false; predicate = tag; value = Some 6 }) }} refl refl is_tag) none))

  is_shape_at : IsShapeAt item_terms parts number 1 the_shape
  is_shape_at = record { head = record { closed = false; extra = []; body = Some 2 }; here = refl; closed = refl; extra = tt; body = is_body }

  -- ---- references

  resolves : (p : ℕ) (l : Label) → (p ≡ 4) × (l ≡ item) → IsAt parts p (Parts.Ref l) → (q : ℕ) × Resolves parts p q × (number p ≡ number q)
  resolves p l (e, f) at = (
    1,
    through at (subst (λ m. IsDeclared parts m 1) (sym f) (target item next tag tags)) (itself {x = shape_part item next tag tags} refl refl),
    subst (λ z. number z ≡ number 1) (sym e) refl,
  )

  pub item_stands : Stands (item_document ∷ []) item_terms (item_schema item tags)
  item_stands = record {
    meets = met item next tag tags;
    depths = item_depths;
    deep = depth_at item next tag tags;
    number = number;
    numbered = numbered_at;
    exprs = entries;
    few = omega arith;
    referred = λ p l at. resolves p l (referred_there item next tag tags p l at) at;
    shapes = (is_shape_at, tt);
    labels = refl;
    start = refl;
  }
