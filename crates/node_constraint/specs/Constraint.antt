-- A node constraint (ShEx 2.1, section 5.4).
use Rattle.std.specs.Prelude.{ℕ, List, [], Option, None}
use Rattle.value_sets.specs.Values.{ValueList}
use Rattle.node_constraint.specs.declared.Kind4.{Kind4}
use Rattle.node_constraint.specs.declared.facet.Facet.{Facet}

-- what a constraint asks for: a kind, a datatype, facets, a value set
pub record Constraint : Type 0 where
  pub kind : Option Kind4
  pub datatype : Option (List ℕ)
  pub facets : List Facet
  pub values : Option ValueList

-- the constraint that asks for a kind alone, if for any
abbrev pub of_kind : Option Kind4 → Constraint
of_kind kind = record { kind = kind; datatype = None; facets = []; values = None }
