-- Subjects that are numbered as they are mentioned (own).
use Rattle.std.specs.Prelude.{ℕ, zero, suc, List, [], ◌∷◌, ◌++◌, ◌≡◌, ◌<◌, ◌≤◌, ◌⊎◌, Option, None, length, slice_get}
use Rattle.std.specs.List.{AllByRecursion}
use Rattle.rdf_terms.specs.declared.terms.Term.{Term}
use Rattle.rdf_terms.specs.declared.terms.TermId.{TermId}
use Rattle.schema_tree.specs.declared.schema.ExprId.{ExprId}
use Rattle.schema_tree.specs.declared.schema.Schema.{Schema}
use Rattle.schema_tree.specs.declared.verdicts.Verdict.TheVariants.{No}
use Rattle.schema_tree.specs.Loaded.{IsEntry}
use Rattle.schema_tree.specs.Sure.{IsSure, Known, PairIs}
use Rattle.explanations.specs.declared.subject.Subject.{Subject}
use Rattle.explanations.specs.declared.subject.Subject.TheVariants as Subjects

-- more subjects stand behind the old ones
abbrev pub GoesOn : List Subject → List Subject → Type 0
GoesOn old new = (behind : List Subject) × (new ≡ old ++ behind)

-- the subject of a number, from 1 on, if there is one
abbrev pub numbered : List Subject → ℕ → Option Subject
numbered all zero = None
numbered all (suc k) = slice_get all k

-- numbers from 1 on that are mentioned one after the other, n being in use before and m after: each is in use, or is the next one
abbrev pub AreInTurn : ℕ → List ℕ → ℕ → Type 0
AreInTurn n [] m = n ≡ m
AreInTurn n (k ∷ ks) m = ((0 < k) × (k ≤ n) × AreInTurn n ks m) ⊎ ((k ≡ suc n) × AreInTurn (suc n) ks m)

-- view is what is known of pairs
module _ (s : Schema) (terms : List Term) (view : Known) where
  -- the expression is there, and by what is known the node does not satisfy it
  abbrev pub FailsAt : TermId → ExprId → Type 0
  FailsAt n e = IsEntry s e × IsSure s terms view n e No

  -- by what is known the node does not have the Shape, or does not satisfy the expression
  abbrev pub Fails : Subject → Type 0
  Fails (Subjects.Pair p) = (p.shape.0 < length s.shapes) × PairIs view p No
  Fails (Subjects.Expr n e) = FailsAt n e

  -- the subjects are numbered as these numbers are mentioned, and those that are new fail as the old ones do
  pub record Numbers (old : List Subject) (mentioned : List ℕ) (new : List Subject) : Type 0 where
    pub grown : GoesOn old new
    pub in_turn : AreInTurn (length old) mentioned (length new)
    pub fail : AllByRecursion Fails old → AllByRecursion Fails new
