-- Laws: refinement of some pairs says of them what refinement of all that they need says (own).
use Rattle.std.specs.Prelude.{ℕ, suc, List, [], ◌≡◌, ◌↔◌, Contains}
use Rattle.rdf_terms.specs.declared.terms.Term.{Term}
use Rattle.rdf_terms.specs.declared.terms.TermId.{TermId}
use Rattle.rdf_terms.specs.declared.terms.Triple.{Triple}
use Rattle.schema_tree.specs.declared.schema.Pair.{Pair}
use Rattle.schema_tree.specs.declared.schema.Schema.{Schema}
use Rattle.schema_tree.specs.declared.verdicts.Verdict.{Verdict}
use Rattle.schema_tree.specs.declared.verdicts.Verdict.TheVariants.{No, Unknown, Yes}
use Rattle.schema_tree.specs.Edges.{IsStratified}
use Rattle.schema_tree.specs.Loaded.{IsLoaded}
use Rattle.schema_tree.specs.Needs.{HoldNeeds, LeadsToWide}
use Rattle.schema_tree.specs.Removal.{IsRefined}
use Rattle.schema_tree.specs.Sure.{Known, PairIs}
use Rattle.schema_tree.specs.Typings.{HoldsEnds, IsTheTyping, top_of}
use Rattle.removal_laws.specs.Marks.{KnowSame, known_by}
use Rattle.locality_laws.specs.Local.{AreKept, AreRefinedOn, IsOfOthers, IsVerdict}

-- two refinements of pairs that have all that they need say the same of each pair of both
abbrev pub RefinementIsLocal : Type 0
RefinementIsLocal =
    (s : Schema) (terms : List Term) (g : List Triple) (f : List ℕ) (budget : ℕ) (pairs all : List Pair) (known whole : Known) →
    HoldNeeds s g pairs → HoldNeeds s g all → IsRefined s terms g f pairs budget known → IsRefined s terms g f all budget whole →
    (p : Pair) → Contains pairs p → Contains all p → (v : Verdict) → PairIs known p v ↔ PairIs whole p v

-- refinement of pairs over what is known of others, which answers the verdict on each of them that the pairs need, gives
-- the verdict on each of the pairs
abbrev pub RefinementOverOthersIsLocal : Type 0
RefinementOverOthersIsLocal =
    (s : Schema) (terms : List Term) (g : List Triple) (f : List ℕ) (budget : ℕ) (pairs : List Pair) (first known : Known) →
    IsStratified s f → IsOfOthers pairs first → AreKept s terms g f budget first pairs →
    AreRefinedOn s terms g f pairs budget first (suc (top_of f)) known →
    (p : Pair) (v : Verdict) → Contains pairs p → PairIs known p v → IsVerdict s terms g f budget p v

-- refinement over what is kept gives each pair its verdict, where the others are those kept that are not among the pairs
abbrev pub RefinementOverKeptIsLocal : Type 0
RefinementOverKeptIsLocal =
    (s : Schema) (terms : List Term) (g : List Triple) (f : List ℕ) (budget : ℕ) (pairs : List Pair) (kept known : Known) →
    IsStratified s f → AreKept s terms g f budget kept pairs →
    AreRefinedOn s terms g f pairs budget (known_by kept pairs []) (suc (top_of f)) known →
    (p : Pair) (v : Verdict) → Contains pairs p → PairIs known p v → IsVerdict s terms g f budget p v

-- each pair has one verdict
abbrev pub VerdictIsOne : Type 0
VerdictIsOne =
    (s : Schema) (terms : List Term) (g : List Triple) (f : List ℕ) (budget : ℕ) → IsLoaded s → (p : Pair) →
    (v : Verdict) × IsVerdict s terms g f budget p v × ((w : Verdict) → IsVerdict s terms g f budget p w → v ≡ w)

-- from a pair whose verdict is Unknown needs lead to one whose Width is above the budget
abbrev pub UnknownIsWide : Type 0
UnknownIsWide =
    (s : Schema) (terms : List Term) (g : List Triple) (f : List ℕ) (budget : ℕ) → IsLoaded s → IsStratified s f → (p : Pair) →
    IsVerdict s terms g f budget p Unknown → LeadsToWide s terms g budget p

-- a complete typing over terms that hold the node of a pair and the graph's ends has the pair where its verdict is Yes, and not
-- where it is No
abbrev pub VerdictIsTrue : Type 0
VerdictIsTrue =
    (s : Schema) (terms : List Term) (g : List Triple) (f : List ℕ) (budget : ℕ) (U : List TermId) (T : List Pair) →
    IsLoaded s → IsTheTyping s terms g f U T → HoldsEnds U g → (p : Pair) → Contains U p.node →
    (IsVerdict s terms g f budget p Yes → Contains T p) × (IsVerdict s terms g f budget p No → ¬ Contains T p)

-- refinement of the same pairs by any two stratifications gives the same verdicts
abbrev pub RefinementIsIndependent : Type 0
RefinementIsIndependent =
    (s : Schema) (terms : List Term) (g : List Triple) (f h : List ℕ) (budget : ℕ) (pairs : List Pair) (known whole : Known) →
    IsStratified s f → IsStratified s h → IsRefined s terms g f pairs budget known → IsRefined s terms g h pairs budget whole →
    KnowSame known whole

-- so the verdict on a pair is the same by both
abbrev pub VerdictIsIndependent : Type 0
VerdictIsIndependent =
    (s : Schema) (terms : List Term) (g : List Triple) (f h : List ℕ) (budget : ℕ) → IsLoaded s → IsStratified s f → IsStratified s h →
    (p : Pair) (v : Verdict) → IsVerdict s terms g f budget p v → IsVerdict s terms g h budget p v
