-- The declared labels of a schema.
use Rattle.std.specs.Prelude.{Bool, true, false, List, [], ◌∷◌, ◌++◌, ◌≡◌, map, Contains}
use Rattle.schema_documents.specs.declared.label.Label.{Label}
use Rattle.schema_tree.specs.declared.schema.ExprId.{ExprId}

-- the labels alone
abbrev pub labels_of : List (Label × ExprId) → List Label
labels_of ls = map (λ d. d.0) ls

-- the label is declared
abbrev pub IsDeclared : List (Label × ExprId) → Label → Type 0
IsDeclared ls l = (e : ExprId) × Contains ls (l, e)

-- a new label goes last with its expression, and one that is declared stays as it is
abbrev pub DeclaresNext : List (Label × ExprId) → Label → ExprId → Bool → List (Label × ExprId) → Type 0
DeclaresNext old l e true now = (¬ IsDeclared old l) × (now ≡ old ++ (l, e) ∷ [])
DeclaresNext old l e false now = IsDeclared old l × (now ≡ old)
