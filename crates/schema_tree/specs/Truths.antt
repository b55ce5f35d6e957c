-- When an answer is true (ShEx 2.1, section 5.2).
use Rattle.std.specs.Prelude.{ℕ, Bool, List, Contains, IsTrue}
use Rattle.rdf_terms.specs.declared.terms.Term.{Term}
use Rattle.rdf_terms.specs.declared.terms.TermId.{TermId}
use Rattle.rdf_terms.specs.declared.terms.Triple.{Triple}
use Rattle.schema_tree.specs.declared.schema.ExprId.{ExprId}
use Rattle.schema_tree.specs.declared.schema.Pair.{Pair}
use Rattle.schema_tree.specs.declared.schema.Schema.{Schema}
use Rattle.schema_tree.specs.Edges.{IsStratum}
use Rattle.schema_tree.specs.Satisfies.{Sat}
use Rattle.schema_tree.specs.Typings.{HoldsEnds, IsTheTyping}

-- T is the complete typing over U, by the strata of the schema
pub record IsTypingOf (s : Schema) (terms : List Term) (g : List Triple) (f : List ℕ) (U : List TermId) (T : List Pair) : Type 0 where
  pub strata : IsStratum s f
  pub complete : IsTheTyping s terms g f U T

-- whether the complete typing satisfies an expression at a node: there is one over every list of terms, and over each list
-- that holds the ends of the graph and the node it does exactly where the answer is true
pub record IsTruth (s : Schema) (terms : List Term) (g : List Triple) (n : TermId) (e : ExprId) (holds : Bool) : Type 0 where
  pub exists : (U : List TermId) → (f : List ℕ) × (T : List Pair) × IsTypingOf s terms g f U T
  pub exact : (f : List ℕ) (U : List TermId) (T : List Pair) → HoldsEnds U g → Contains U n → IsTypingOf s terms g f U T →
      (IsTrue holds → Sat s terms T n e) × (Sat s terms T n e → IsTrue holds)
