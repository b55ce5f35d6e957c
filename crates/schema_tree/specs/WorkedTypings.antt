-- Complete typings, worked out on small graphs (ShEx 2.1, section 5.2).
use Rattle.std.specs.Prelude.{ℕ, List, [], ◌∷◌, Some, None}
use Rattle.rdf_terms.specs.declared.terms.TermId.{TermId}
use Rattle.rdf_terms.specs.declared.terms.Triple.{Triple}
use Rattle.tally.specs.declared.Bound.TheVariants.{Free}
use Rattle.tally.specs.Plan.{sym, many}
use Rattle.schema_tree.specs.declared.schema.Expr.TheVariants as Exprs
use Rattle.schema_tree.specs.declared.schema.Pair.{Pair}
use Rattle.schema_tree.specs.declared.schema.Schema.{Schema}
use Rattle.schema_tree.specs.Edges.{IsStratum}
use Rattle.schema_tree.specs.Samples.{terms, ann, bob, cid, dan, knows, name, text_a, arc, shape_id, expr_id, out_arc, open_shape, schema_of, both}
use Rattle.schema_tree.specs.Typings.{IsTheTyping}

-- the node with the Shape of number i
abbrev pub pair_of : TermId → ℕ → Pair
pair_of n i = record { node = n; shape = shape_id i }

-- <ann> <knows> <bob> . <bob> <knows> <ann> .
abbrev pub acquainted : List Triple
acquainted = arc ann knows bob ∷ arc bob knows ann ∷ []

-- S is { <knows> @<S>* }
abbrev pub knows_such : Schema
knows_such = schema_of (Exprs.Shape (shape_id 0) ∷ []) (open_shape [] (many 0 Free (sym 0)) (out_arc knows (Some (expr_id 0)) ∷ []) ∷ [])

-- two nodes that know each other both have S: the complete typing is the greatest one that holds itself up
abbrev pub AcquaintedBothHold : Type 0
AcquaintedBothHold =
    IsStratum knows_such (0 ∷ [])
    × IsTheTyping knows_such terms acquainted (0 ∷ []) (ann ∷ bob ∷ []) (pair_of ann 0 ∷ pair_of bob 0 ∷ [])

-- S is { <name> . ; <knows> @<S> }
abbrev pub named_and_knows : Schema
named_and_knows =
    schema_of (Exprs.Shape (shape_id 0) ∷ []) (open_shape [] both (out_arc name None ∷ out_arc knows (Some (expr_id 0)) ∷ []) ∷ [])

-- where of two that know each other one alone has a name, neither has S: the complete typing is empty
abbrev pub BrokenChainFalls : Type 0
BrokenChainFalls =
    IsStratum named_and_knows (0 ∷ [])
    × IsTheTyping named_and_knows terms (arc ann name text_a ∷ acquainted) (0 ∷ []) (ann ∷ bob ∷ text_a ∷ []) []

-- S is { <knows> NOT @<T> }, and T is { <name> . }
abbrev pub knows_nameless : Schema
knows_nameless =
    schema_of (Exprs.Shape (shape_id 1) ∷ Exprs.Not (expr_id 0) ∷ []) (open_shape [] (sym 0) (out_arc knows (Some (expr_id 1)) ∷ []) ∷ open_shape [] (sym 0) (out_arc name None ∷ []) ∷ [])

-- <ann> <knows> <bob> . <cid> <knows> <dan> . <dan> <name> "A" .
abbrev pub one_is_named : List Triple
one_is_named = arc ann knows bob ∷ arc cid knows dan ∷ arc dan name text_a ∷ []

-- S is one stratum above T. <dan> alone has T, so <ann> has S and <cid> has not
abbrev pub NegationLooksBelow : Type 0
NegationLooksBelow =
    IsStratum knows_nameless (1 ∷ 0 ∷ [])
    × IsTheTyping knows_nameless terms one_is_named (1 ∷ 0 ∷ []) (ann ∷ bob ∷ cid ∷ dan ∷ text_a ∷ []) (pair_of ann 0 ∷ pair_of dan 1 ∷ [])
