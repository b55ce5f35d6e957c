-- When a node satisfies a shape expression under a typing (ShEx 2.1, section 5.3, `satisfies`).
use Rattle.std.specs.Prelude.{ℕ, suc, zero, List, slice_get, Option, Some, None, Contains}
use Rattle.std.specs.List.{AllByRecursion}
use Rattle.rdf_terms.specs.declared.terms.TermId.{TermId}
use Rattle.rdf_terms.specs.declared.terms.Term.{Term}
use Rattle.schema_tree.specs.declared.schema.Schema.{Schema}
use Rattle.schema_tree.specs.declared.schema.ExprId.{ExprId}
use Rattle.schema_tree.specs.declared.schema.Expr.{Expr}
use Rattle.schema_tree.specs.declared.schema.Expr.TheVariants.{And, Or, Not, Node, Shape}
use Rattle.schema_tree.specs.declared.schema.Pair.{Pair}
use Rattle.schema_tree.specs.Entries.{entry, SatNodeAt}
use Rattle.lists.specs.Quantifiers.{SomeByRecursion}

-- what an expression asks of the node n, given what its members ask: all, some, not the one, the node constraint, or
-- that the typing T has n with the Shape (ShEx 2.1, sections 5.3 and 5.4)
abbrev pub SatEntry : List Pair → List Term → TermId → (ExprId → Type 0) → Option Expr → Type 0
SatEntry T terms n member None = ⊥
SatEntry T terms n member (Some (And es)) = AllByRecursion member es
SatEntry T terms n member (Some (Or es)) = SomeByRecursion member es
SatEntry T terms n member (Some (Not e)) = ¬ (member e)
SatEntry T terms n member (Some (Node c)) = SatNodeAt c (slice_get terms n.0)
SatEntry T terms n member (Some (Shape i)) = Contains T (record { node = n; shape = i })

-- n satisfies e under T, through at most so many members of members
unfoldable pub SatWithin : ℕ → Schema → List Term → List Pair → TermId → ExprId → Type 0
SatWithin zero s terms T n e = ⊥
SatWithin (suc k) s terms T n e = SatEntry T terms n (SatWithin k s terms T n) (entry s e)

-- n satisfies e under T; since members have smaller numbers, e + 1 steps see all of e
abbrev pub Sat : Schema → List Term → List Pair → TermId → ExprId → Type 0
Sat s terms T n e = SatWithin (suc e.0) s terms T n e
