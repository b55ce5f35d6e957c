-- A part and a whole of which each is numbered in a table of its own, by the terms of their triples (own).
use Rattle.std.specs.Prelude.{ℕ, List, ◌++◌, ◌≡◌, ◌<◌, ◌↔◌, All, Contains, Some, length, slice_get}
use Rattle.demand.specs.declared.reach.Root.{Root}
use Rattle.demand.specs.Demand.{AreAsked, IsAsked}
use Rattle.graph_index.specs.Laws.{IsOfTable}
use Rattle.graph_index.specs.Loading.{IsNumbered}
use Rattle.lists.specs.Distinct.{AreDistinct}
use Rattle.part_laws.specs.Numbers.{IsPredicateOf}
use Rattle.part_laws.specs.Parts.{IsReadBack}
use Rattle.rdf_terms.specs.declared.terms.Term.{Term}
use Rattle.rdf_terms.specs.declared.terms.TermId.{TermId}
use Rattle.graph_index.specs.declared.loading.TermTriple.{TermTriple}
use Rattle.rdf_terms.specs.declared.terms.Triple.{Triple}
use Rattle.rdf_terms.specs.Laws.{IsTerm}
use Rattle.schema_tree.specs.declared.schema.Pair.{Pair}
use Rattle.schema_tree.specs.declared.schema.Schema.{Schema}
use Rattle.schema_tree.specs.declared.verdicts.Verdict.{Verdict}
use Rattle.schema_tree.specs.declared.verdicts.Verdict.TheVariants.{No, Yes}
use Rattle.schema_tree.specs.Loaded.{IsLoaded}
use Rattle.schema_tree.specs.Removal.{IsRefined}
use Rattle.schema_tree.specs.Satisfies.{Sat}
use Rattle.schema_tree.specs.Sure.{IsSure, Known}
use Rattle.schema_tree.specs.Typings.{HoldsEnds, IsTheTyping}

-- a graph with the table of its terms
pub record Data : Type 0 where
  pub terms : List Term
  pub triples : List Triple

-- each term and each triple stands in it once, and the numbers are those of its terms
pub record IsGraph (d : Data) : Type 0 where
  pub once : AreDistinct d.terms
  pub terms : (x : Term) → Contains d.terms x → IsTerm x
  pub apart : AreDistinct d.triples
  pub ends : All (IsOfTable d.terms) d.triples

-- the graph has the triple of terms
abbrev pub Says : Data → TermTriple → Type 0
Says d t = (n : Triple) × Contains d.triples n × IsNumbered d.terms t n

-- the term of the number is read back: it is the predicate of an occurrence with `inverse`
abbrev pub IsReadBackIn : Schema → Data → Term → Type 0
IsReadBackIn s d x = (p : TermId) × IsReadBack s p × (slice_get d.terms p.0 ≡ Some x)

-- the part has triples of the whole alone, each whose subject is one of the nodes, and each whose object is one and whose predicate is
-- read back
pub record HasWhatIsRead (s : Schema) (whole part : Data) (nodes : List Term) : Type 0 where
  pub inside : (t : TermTriple) → Says part t → Says whole t
  pub outward : (t : TermTriple) → Says whole t → Contains nodes t.subject → Says part t
  pub inward : (t : TermTriple) → Says whole t → Contains nodes t.object → IsReadBackIn s whole t.predicate → Says part t

-- both tables begin with the same terms, among which the schema's predicates are, and the whole's has each term of the part's
pub record AreNumberedBy (s : Schema) (first : List Term) (whole part : Data) : Type 0 where
  pub whole_begins : (more : List Term) × (whole.terms ≡ first ++ more)
  pub part_begins : (more : List Term) × (part.terms ≡ first ++ more)
  pub predicates : (p : TermId) → IsPredicateOf s p → p.0 < length first
  pub held : (x : Term) → Contains part.terms x → Contains whole.terms x

-- the roots reach over the part pairs of these nodes alone
abbrev pub ReachWithin : Schema → Data → List Term → List Root → Type 0
ReachWithin s part nodes roots = (q : Pair) → IsAsked s part.triples roots q → (x : Term) × Contains nodes x × (slice_get part.terms q.node.0 ≡ Some x)

-- refinement of what the roots reach over the graph gives what is known
pub record IsKnownOf (s : Schema) (f : List ℕ) (budget : ℕ) (d : Data) (roots : List Root) (known : Known) : Type 0 where
  pub pairs : List Pair
  pub asked : AreAsked s d.terms d.triples roots pairs
  pub refined : IsRefined s d.terms d.triples f pairs budget known

-- the two have one term and one expression
pub record AreSameRoot (d e : Data) (r w : Root) : Type 0 where
  pub term : Term
  pub first : slice_get d.terms r.node.0 ≡ Some term
  pub second : slice_get e.terms w.node.0 ≡ Some term
  pub expr : r.expr ≡ w.expr

-- the answer on a root over its part is that over the whole, whatever else is asked of the whole, and however each is numbered
abbrev pub PartsAnswerAlike : Type 0
PartsAnswerAlike =
    (s : Schema) (first : List Term) (whole part : Data) (nodes : List Term) (roots all : List Root) (f : List ℕ) (budget : ℕ) (known known_all : Known) →
    IsLoaded s → IsGraph whole → IsGraph part → AreNumberedBy s first whole part →
    HasWhatIsRead s whole part nodes → ReachWithin s part nodes roots →
    IsKnownOf s f budget part roots known → IsKnownOf s f budget whole all known_all →
    (r w : Root) → Contains roots r → Contains all w → AreSameRoot part whole r w →
    (v : Verdict) → IsSure s whole.terms known_all w.node w.expr v ↔ IsSure s part.terms known r.node r.expr v

-- and Yes and No are what the complete typing of the whole says
abbrev pub PartsAnswerTruly : Type 0
PartsAnswerTruly =
    (s : Schema) (first : List Term) (whole part : Data) (nodes : List Term) (roots : List Root) (f : List ℕ) (budget : ℕ) (known : Known) (U : List TermId) (T : List Pair) →
    IsLoaded s → IsGraph whole → IsGraph part → AreNumberedBy s first whole part →
    HasWhatIsRead s whole part nodes → ReachWithin s part nodes roots → IsKnownOf s f budget part roots known →
    IsTheTyping s whole.terms whole.triples f U T → HoldsEnds U whole.triples →
    ((r w : Root) → Contains roots r → AreSameRoot part whole r w → Contains U w.node) →
    (r w : Root) → Contains roots r → AreSameRoot part whole r w →
    (IsSure s part.terms known r.node r.expr Yes → Sat s whole.terms T w.node w.expr) × (IsSure s part.terms known r.node r.expr No → ¬ Sat s whole.terms T w.node w.expr)
