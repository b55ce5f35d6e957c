-- Where no needs lead to a wide pair, the reasons that are told are true of the complete typing.
use Rattle.std.proofs.Common.{◌⊎◌, inl, inr, ℕ, zero, suc, List, subst, sym}
use Rattle.std.specs.List.{AllZip}
use Rattle.std.specs.Prelude.{Contains}
use Rattle.std.proofs.lemmas.List.Elements.{Contains-append_cases}
use Rattle.explanations.specs.Blocks.{AreReasons, IsBlock, IsToldReason}
use Rattle.explanations.specs.Explanations.{IsExplanation}
use Rattle.explanations.specs.Mentions.{blocks_of}
use Rattle.explanations.specs.Numbers.{Fails}
use Rattle.explanations.specs.declared.explanation.Block.TheVariants as Blocks
use Rattle.explanations.specs.declared.explanation.Explanation.{Explanation}
use Rattle.explanations.specs.declared.explanation.ToldReason.{ToldReason}
use Rattle.explanations.specs.declared.subject.Subject.{Subject}
use Rattle.explanations.specs.declared.subject.Subject.TheVariants as Subjects
use Rattle.lists.proofs.Beside.{beside_back}
use Rattle.lists.proofs.Members.{not_in_none, place_of}
use Rattle.lists.proofs.Quantifiers.{all_at}
use Rattle.nonconformance.specs.Laws.{KnownReasonIsTrue, NoCannotMatch}
use Rattle.nonconformance.specs.Reasons.{IsKnownReason, IsTrueReason}
use Rattle.nonconformance.specs.declared.reason.Reason.{Reason}
use Rattle.rdf_terms.specs.declared.terms.Term.{Term}
use Rattle.rdf_terms.specs.declared.terms.Triple.{Triple}
use Rattle.removal_laws.specs.Marks.{KnowSame}
use Rattle.schema_tree.proofs.Strata.{stratum_stratified}
use Rattle.schema_tree.specs.Edges.{IsStratum}
use Rattle.schema_tree.specs.Laws.{NarrowIsKnown}
use Rattle.schema_tree.specs.Loaded.{IsLoaded}
use Rattle.schema_tree.specs.Needs.{HoldNeeds, LeadsToNarrow, Needs, step}
use Rattle.schema_tree.specs.Removal.{AreRefinedBelow, IsRefined}
use Rattle.schema_tree.specs.Sure.{Agrees, Known, PairIs}
use Rattle.schema_tree.specs.Typings.{top_of}
use Rattle.schema_tree.specs.declared.schema.Pair.{Pair}
use Rattle.schema_tree.specs.declared.schema.Schema.{Schema}
use Rattle.schema_tree.specs.declared.verdicts.Verdict.TheVariants.{No, Yes}
use Rattle.shape_map.specs.declared.resolve.Association.{Association}
use Rattle.typing_answers.proofs.Knowing.{know_alike}
use Rattle.typing_refiner.specs.Statements.{AreTrueByAll}
use Rattle.shex_tools.specs.Reasons.{HaveTrueReasons}

-- a pair that refinement finds not to be satisfied is one of those that are asked for
no_held : (s : Schema) (terms : List Term) (g : List Triple) (f : List ℕ) (pairs : List Pair) (budget : ℕ) (k : ℕ) (known : Known) → AreRefinedBelow s terms g f pairs budget k known →
    (p : Pair) → Contains known.no p → Contains pairs p
no_held s terms g f pairs budget zero known is p c = absurd (not_in_none p (subst (λ xs. Contains xs p) is.1 c))
no_held s terms g f pairs budget (suc k) known (lower, gone, kept, below, at, yes_is, no_is) p c =
    elim (Contains-append_cases lower.no gone p (subst (λ xs. Contains xs p) no_is c)) [
      | inl there ↦ no_held s terms g f pairs budget k lower below p there
      | inr there ↦ (let (i, is) = place_of gone p there in (at.in_turn i p is).0.0.0)
    ]

-- verdicts of refinement over pairs that hold all that they need, a view that knows the same, and a typing of which it is true
pub record AreOf (s : Schema) (terms : List Term) (g : List Triple) (f : List ℕ) (pairs : List Pair) (budget : ℕ) (known view : Known) (T : List Pair) : Type 0 where
  pub loaded : IsLoaded s
  pub strata : IsStratum s f
  pub needs : HoldNeeds s g pairs
  pub refined : IsRefined s terms g f pairs budget known
  pub same : KnowSame view known
  pub agrees : Agrees T view

module _ (s : Schema) (terms : List Term) (g : List Triple) (f : List ℕ) (pairs : List Pair) (budget : ℕ) (known view : Known) (T : List Pair)
    (narrow_known : NarrowIsKnown) (cannot : NoCannotMatch) (are : AreOf s terms g f pairs budget known view T) where
  no_of : (p : Pair) → PairIs view p No → Contains pairs p
  no_of p is = no_held s terms g f pairs budget (suc (top_of f)) known are.refined p (are.same.1.0 p is.1)

  -- the view says of the pair what the typing says
  abbrev Tells : Pair → Type 0
  Tells q = (Contains T q → PairIs view q Yes) × (¬ Contains T q → PairIs view q No)

  by_verdict : (q : Pair) → Contains known.yes q ⊎ Contains known.no q → Tells q
  by_verdict q (inl yes_q) =
      let seen : Contains view.yes q = are.same.0.1 q yes_q in
      (λ there. seen, λ out. absurd (out (are.agrees.0 q seen)))
  by_verdict q (inr no_q) =
      let seen : PairIs view q No = (know_alike view known are.same q No).1 (cannot s terms g f pairs budget known are.refined q no_q).0 in
      (λ there. absurd (are.agrees.1 q seen there), λ out. seen)

  -- of what a narrow pair needs there are verdicts
  tells : (p : Pair) → Contains pairs p → LeadsToNarrow s terms g budget p → (q : Pair) → Needs s g p q → Tells q
  tells p held narrow q need =
      by_verdict q (narrow_known s terms g f pairs budget known are.loaded (stratum_stratified s f are.strata) are.needs are.refined q (are.needs p q held need)
      (λ r leads. narrow r (step q need leads)))

  module _ (true_of : KnownReasonIsTrue) (all : List Subject) (told : List ToldReason) (r : ToldReason) (listed : Contains told r) where
    one_true : (p : Pair) → PairIs view p No → LeadsToNarrow s terms g budget p → (reasons : List Reason) → AreReasons s terms g view p reasons →
        AllZip (IsToldReason s terms view all g p) reasons told → IsTrueReason s terms g T p r.reason
    one_true p is narrow reasons known_are side =
        let (reason, there, by) = beside_back (IsToldReason s terms view all g p) reasons told side r listed in
        subst (IsTrueReason s terms g T p) (sym by.0)
        (true_of s terms g view T p reason are.loaded (tells p (no_of p is) narrow) (all_at (IsKnownReason s terms g view p) reasons reason known_are.sound there))

    of_block : (subject : Subject) (p : Pair) → Fails s terms view subject → IsBlock s terms view all g subject (Blocks.Reasons p told) →
        LeadsToNarrow s terms g budget p → IsTrueReason s terms g T p r.reason
    of_block (Subjects.Pair q) p fails (same, reasons, known_are, side) narrow =
        subst (λ z. IsTrueReason s terms g T z r.reason) (sym same)
        (one_true q fails.1 (subst (LeadsToNarrow s terms g budget) same narrow) reasons known_are side)
    of_block (Subjects.Expr n e) p fails is narrow = absurd is

pub have_true_reasons : (s : Schema) (terms : List Term) (g : List Triple) (f : List ℕ) (pairs : List Pair) (budget : ℕ) (known view : Known) (asked : List Association) (x : Explanation) →
    NarrowIsKnown → NoCannotMatch → KnownReasonIsTrue → IsLoaded s → IsStratum s f → HoldNeeds s g pairs → IsRefined s terms g f pairs budget known → KnowSame view known →
    AreTrueByAll s terms g f budget pairs view → IsExplanation s terms view g asked x → HaveTrueReasons s terms g budget pairs (blocks_of x)
have_true_reasons s terms g f pairs budget known view asked x narrow_known cannot true_of loaded strata needs refined same trues is = λ h U T ends nodes typing p told there narrow r listed.
    let (subject, among, block) = beside_back (IsBlock s terms view is.subjects g) is.subjects (blocks_of x) is.blocks (Blocks.Reasons p told) there in
    of_block s terms g f pairs budget known view T narrow_known cannot
    (record {
      loaded = loaded;
      strata = strata;
      needs = needs;
      refined = refined;
      same = same;
      agrees = trues h U T (stratum_stratified s h typing.strata) ends typing.complete nodes;
    })
    true_of is.subjects told r listed subject p (all_at (Fails s terms view) is.subjects subject is.fail among) block narrow
