-- What the functions that make Shapes promise one another.
use Rattle.std.specs.Prelude.{⊤, ℕ, ◌≡◌, List, [], ◌∷◌, ◌++◌, Option, Some, None}
use Rattle.std.specs.List.{AllZip}
use Rattle.rdf_terms.specs.declared.terms.Term.{Term}
use Rattle.schema_tree.specs.declared.schema.ExprId.{ExprId}
use Rattle.schema_tree.specs.declared.schema.Shape.{Shape}
use Rattle.schema_load.specs.declared.part.Part.{Part}
use Rattle.schema_load.specs.declared.part.Part.TheVariants as Parts
use Rattle.schema_load.specs.declared.part.ShapePart.{ShapePart}
use Rattle.schema_load.specs.Parts.{IsAt}
use Rattle.schema_load.specs.Stands.{IsBody, IsShapeAt, IsTerm}
use Rattle.schema_load.specs.Steps.{IsTripleAt}
use Rattle.schema_load.specs.Unfolding.{HasRoom}

-- the body of a Shape, if there is one, is a triple expression that can be unfolded
abbrev pub IsBodyInside : List Part → Option ℕ → Type 0
IsBodyInside parts None = ⊤
IsBodyInside parts (Some p) = IsTripleAt parts p × HasRoom parts p 0

-- the body of each Shape, if it has one, is a triple expression that can be unfolded
abbrev pub CanUnfold : List Part → Type 0
CanUnfold parts = (p : ℕ) (head : ShapePart) → IsAt parts p (Parts.Shape head) → IsBodyInside parts head.body

module _ (terms : List Term) (parts : List Part) (number : ℕ → ExprId) where
  -- the Shape is that of the part
  pub record IsShapeFrom (head : ShapePart) (s : Shape) : Type 0 where
    pub closed : s.closed ≡ head.closed
    pub extra : AllZip (IsTerm terms) head.extra s.extra
    pub body : IsBody terms parts number head.body s.body s.occs

  -- the Shape of the part at p goes last, if it is one
  abbrev pub AddsShapeOf : Part → ℕ → List Shape → List Shape → Type 0
  AddsShapeOf (Parts.Shape head) p old new = (s : Shape) × IsShapeAt terms parts number p s × (new ≡ old ++ s ∷ [])
  AddsShapeOf _ p old new = new ≡ old

  abbrev pub AddsShape : ℕ → List Shape → List Shape → Type 0
  AddsShape p old new = (x : Part) → IsAt parts p x → AddsShapeOf x p old new
