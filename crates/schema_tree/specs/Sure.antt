-- What verdicts on some pairs make sure of an expression (own: satisfaction with three answers).
use Rattle.std.specs.Prelude.{ℕ, suc, zero, List, slice_get, Option, Some, None, Contains, ⊤}
use Rattle.std.specs.List.{AllByRecursion}
use Rattle.rdf_terms.specs.declared.terms.TermId.{TermId}
use Rattle.rdf_terms.specs.declared.terms.Term.{Term}
use Rattle.schema_tree.specs.declared.schema.Schema.{Schema}
use Rattle.schema_tree.specs.declared.schema.ExprId.{ExprId}
use Rattle.schema_tree.specs.declared.schema.Expr.{Expr}
use Rattle.schema_tree.specs.declared.schema.Expr.TheVariants.{And, Or, Not, Node, Shape}
use Rattle.schema_tree.specs.declared.verdicts.Verdict.{Verdict}
use Rattle.schema_tree.specs.declared.verdicts.Verdict.TheVariants.{Yes, No, Unknown}
use Rattle.schema_tree.specs.declared.schema.Pair.{Pair}
use Rattle.schema_tree.specs.Entries.{entry, SatNodeAt}
use Rattle.lists.specs.Quantifiers.{SomeByRecursion}

-- what is known: the pairs that are satisfied and those that are not
pub record Known : Type 0 where
  pub yes : List Pair
  pub no : List Pair

-- the verdict on a pair: Yes for one of yes, No for any other of no, Unknown for all others
abbrev pub PairIs : Known → Pair → Verdict → Type 0
PairIs view p Yes = Contains view.yes p
PairIs view p No = (¬ Contains view.yes p) × Contains view.no p
PairIs view p Unknown = (¬ Contains view.yes p) × (¬ Contains view.no p)

-- the verdict is No
abbrev pub IsNo : Verdict → Type 0
IsNo No = ⊤
IsNo v = ⊥

-- the verdict on an expression, given those on its members: And is No where a member is No, else Unknown where a member
-- is, else Yes; Or the other way round; Not exchanges Yes and No; a node constraint is decided; an entry that is not
-- there is No
abbrev pub SureEntry : Known → List Term → TermId → (ExprId → Verdict → Type 0) → Option Expr → Verdict → Type 0
SureEntry view terms n member None v = IsNo v
SureEntry view terms n member (Some (And es)) Yes = AllByRecursion (λ e. member e Yes) es
SureEntry view terms n member (Some (And es)) No = SomeByRecursion (λ e. member e No) es
SureEntry view terms n member (Some (And es)) Unknown =
    (¬ SomeByRecursion (λ e. member e No) es) × SomeByRecursion (λ e. member e Unknown) es
SureEntry view terms n member (Some (Or es)) Yes = SomeByRecursion (λ e. member e Yes) es
SureEntry view terms n member (Some (Or es)) No = AllByRecursion (λ e. member e No) es
SureEntry view terms n member (Some (Or es)) Unknown =
    (¬ SomeByRecursion (λ e. member e Yes) es) × SomeByRecursion (λ e. member e Unknown) es
SureEntry view terms n member (Some (Not e)) Yes = member e No
SureEntry view terms n member (Some (Not e)) No = member e Yes
SureEntry view terms n member (Some (Not e)) Unknown = member e Unknown
SureEntry view terms n member (Some (Node c)) Yes = SatNodeAt c (slice_get terms n.0)
SureEntry view terms n member (Some (Node c)) No = ¬ SatNodeAt c (slice_get terms n.0)
SureEntry view terms n member (Some (Node c)) Unknown = ⊥
SureEntry view terms n member (Some (Shape i)) v = PairIs view (record { node = n; shape = i }) v

-- the same through at most so many members of members
unfoldable pub SureWithin : ℕ → Schema → List Term → Known → TermId → ExprId → Verdict → Type 0
SureWithin zero s terms view n e v = IsNo v
SureWithin (suc k) s terms view n e v = SureEntry view terms n (SureWithin k s terms view n) (entry s e) v

-- v is the verdict on n with e; since members have smaller numbers, e + 1 steps see all of e
abbrev pub IsSure : Schema → List Term → Known → TermId → ExprId → Verdict → Type 0
IsSure s terms view n e v = SureWithin (suc e.0) s terms view n e v

-- the typing T has each pair with Yes and none with No
abbrev pub Agrees : List Pair → Known → Type 0
Agrees T view = ((p : Pair) → PairIs view p Yes → Contains T p) × ((p : Pair) → PairIs view p No → ¬ Contains T p)
