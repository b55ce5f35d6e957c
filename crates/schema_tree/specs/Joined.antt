-- How the verdict on an expression comes from those on its members.
use Rattle.std.specs.Prelude.{Bool, List, ◌≡◌, Option, Some, nat_eq}
use Rattle.schema_tree.specs.declared.schema.ExprId.{ExprId}
use Rattle.schema_tree.specs.declared.schema.Expr.{Expr}
use Rattle.schema_tree.specs.declared.schema.Expr.TheVariants.{And, Or}
use Rattle.schema_tree.specs.declared.verdicts.Verdict.{Verdict}
use Rattle.schema_tree.specs.declared.verdicts.Verdict.TheVariants.{Yes, No, Unknown}

-- Yes and No exchanged
abbrev pub opposite : Verdict → Verdict
opposite Yes = No
opposite No = Yes
opposite Unknown = Unknown

-- the entry is an And of the members, which one No decides, or an Or of them, which one Yes decides
abbrev pub IsDecidedBy : Verdict → List ExprId → Option Expr → Type 0
IsDecidedBy No es x = x ≡ Some (And es)
IsDecidedBy Yes es x = x ≡ Some (Or es)
IsDecidedBy Unknown es x = ⊥

-- two numbers of expressions are the same
abbrev pub same_expr : ExprId → ExprId → Bool
same_expr a b = nat_eq a.0 b.0

-- each verdict that is kept is that of its expression
abbrev pub AreKept : (ExprId → Verdict → Type 0) → (ExprId → Option Verdict) → Type 0
AreKept holds kept = (e : ExprId) (v : Verdict) → kept e ≡ Some v → holds e v
