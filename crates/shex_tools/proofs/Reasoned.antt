-- What is told of associations is true.
use Rattle.std.proofs.Common.{◌≡◌, ℕ, List, subst}
use Rattle.std.specs.List.{AllZip}
use Rattle.std.specs.Prelude.{Contains}
use Rattle.explanation_texts.specs.Naming.{AreNames}
use Rattle.explanation_texts.specs.declared.setting.Setting.{Setting}
use Rattle.explanations.specs.Explanations.{IsExplanation, IsTold}
use Rattle.explanations.specs.Laws.{BlocksAreTrue}
use Rattle.explanations.specs.Mentions.{blocks_of}
use Rattle.explanations.specs.declared.explanation.Explanation.{Explanation}
use Rattle.explanations.specs.declared.explanation.Told.{Told as Telling}
use Rattle.lists.proofs.Beside.{zip_weaker}
use Rattle.nonconformance.specs.Laws.{KnownReasonIsTrue, NoCannotMatch}
use Rattle.rdf_terms.specs.declared.terms.Term.{Term}
use Rattle.rdf_terms.specs.declared.terms.Triple.{Triple}
use Rattle.schema_tree.proofs.Strata.{stratum_stratified}
use Rattle.schema_tree.specs.Laws.{NarrowIsKnown}
use Rattle.schema_tree.specs.Needs.{HoldRoots}
use Rattle.schema_tree.specs.Sure.{IsSure, Known}
use Rattle.schema_tree.specs.declared.schema.Pair.{Pair}
use Rattle.schema_tree.specs.declared.schema.Schema.{Schema}
use Rattle.schema_tree.specs.declared.verdicts.Verdict.{Verdict}
use Rattle.schema_tree.specs.declared.verdicts.Verdict.TheVariants.{No, Unknown, Yes}
use Rattle.shape_map.specs.declared.resolve.Association.{Association}
use Rattle.shex_inputs.specs.Asked.{Question}
use Rattle.shex_inputs.specs.declared.holding.Holding.{Holding}
use Rattle.shex_io.specs.Files.{Told}
use Rattle.tool_words.specs.Asked.{Explaining}
use Rattle.typing_answers.proofs.Knowing.{know_alike}
use Rattle.typing_answers.specs.Laws.{SureAnswersAreTrue}
use Rattle.typing_refiner.specs.Statements.{AreTrueByAll, IsRefinementOf}
use Rattle.typing_refiner.specs.declared.building.WidePair.{WidePair}
use Rattle.wide_pairs.specs.Wide.{AreWide}
use Rattle.shex_tools.proofs.Asking.{roots}
use Rattle.shex_tools.proofs.Judged.{AreVerdicts, fails, holds, left_wide}
use Rattle.shex_tools.proofs.TrueReasons.{have_true_reasons}
use Rattle.shex_tools.specs.Outcomes.{IsQuestionOf}
use Rattle.shex_tools.specs.Reasons.{AreDenied, AreTrueReasons, IsReady, IsToldTruly, IsTrueVerdict}
use Rattle.shex_tools.specs.Results.{IsExplained, IsExplainedBy}
use Rattle.shex_tools.specs.Texts.{IsPrinted, printed}

module _ (s : Schema) (terms : List Term) (g : List Triple) (f : List ℕ) (pairs : List Pair) (budget : ℕ) (known view : Known) (law : SureAnswersAreTrue) (are : AreVerdicts s terms g f pairs budget known view) where
  -- a sure verdict is true
  true_verdict : (a : Association) → HoldRoots s pairs a.node a.expr → (v : Verdict) → IsSure s terms view a.node a.expr v → IsTrueVerdict s terms g budget a v
  true_verdict a held Yes h = holds s terms g f pairs budget known view law are a.node a.expr held h
  true_verdict a held No h = fails s terms g f pairs budget known view law are a.node a.expr held h
  true_verdict a held Unknown h = left_wide s terms g f pairs budget known view law are a.node a.expr held h

  pub told_truly : (asked : List Association) (x : Explanation) → ((a : Association) → Contains asked a → HoldRoots s pairs a.node a.expr) → IsExplanation s terms view g asked x →
      AllZip (IsToldTruly s terms g budget) asked x.answers
  told_truly asked x held is =
      zip_weaker (IsTold s terms view is.subjects) (IsToldTruly s terms g budget) asked x.answers (λ a t of there h. true_verdict a (held a of) t.verdict h.verdict) is.told

-- what the complete typing agrees with denies what the blocks are about
denied : (s : Schema) (terms : List Term) (g : List Triple) (f : List ℕ) (pairs : List Pair) (budget : ℕ) (view : Known) (asked : List Association) (x : Explanation) → BlocksAreTrue →
    AreTrueByAll s terms g f budget pairs view → IsExplanation s terms view g asked x → AreDenied s terms g pairs (blocks_of x)
denied s terms g f pairs budget view asked x law trues is = λ h U T ends nodes typing b there.
    law s terms g view T asked x (trues h U T (stratum_stratified s h typing.strata) ends typing.complete nodes) is b there

pub are_reasons : (h : Holding) (asked : List Association) (pairs : List Pair) (budget : ℕ) → IsReady h asked pairs budget → SureAnswersAreTrue → BlocksAreTrue →
    NarrowIsKnown → NoCannotMatch → KnownReasonIsTrue → (view : Known) (x : Explanation) (wide : List WidePair) →
    IsRefinementOf h.schema h.terms h.graph.triples h.strata budget pairs view → AreTrueByAll h.schema h.terms h.graph.triples h.strata budget pairs view →
    IsExplanation h.schema h.terms view h.graph.triples asked x → AreWide h.schema h.terms h.graph.triples budget pairs wide →
    AreTrueReasons h.schema h.terms h.graph.triples h.strata budget asked pairs x wide
are_reasons h asked pairs budget is sure blocks narrow_known cannot true_of view x wide (known, refined, same) trues explained widths = record {
  verdicts = view;
  refined = (known, refined, same);
  explained = explained;
  told_truly =
      told_truly h.schema h.terms h.graph.triples h.strata pairs budget known view sure
      (record { loaded = is.loaded; strata = is.strata; needs = is.needs; refined = refined; alike = know_alike view known same })
      asked x (roots h asked pairs budget is) explained;
  denied = denied h.schema h.terms h.graph.triples h.strata pairs budget view asked x blocks trues explained;
  true_reasons = have_true_reasons h.schema h.terms h.graph.triples h.strata pairs budget known view asked x narrow_known cannot true_of is.loaded is.strata is.needs refined same trues explained;
  are_wide = widths;
}

-- what is due for what is held is due for what the map asks of the files
pub when_explained : (told : Told) (e : Explaining) (q : Question) (h : Holding) (is : IsQuestionOf told e q) → h.schema ≡ q.held.schema → h.strata ≡ q.held.strata → h.graph.triples ≡ q.held.graph →
    h.terms ≡ q.terms → (status : ℕ) (text notes : List ℕ) → IsExplainedBy h.schema h.terms h.graph.triples h.strata q.associations q.pairs is.items e status text notes →
    IsExplained told e status text notes
when_explained told e q h is schema strata graph terms status text notes x = record {
  question = q;
  is_asked = is;
  explained =
      subst (λ ts. IsExplainedBy q.held.schema ts q.held.graph q.held.strata q.associations q.pairs is.items e status text notes) terms
      (subst (λ g. IsExplainedBy q.held.schema h.terms g q.held.strata q.associations q.pairs is.items e status text notes) graph
      (subst (λ f. IsExplainedBy q.held.schema h.terms h.graph.triples f q.associations q.pairs is.items e status text notes) strata
      (subst (λ s. IsExplainedBy s h.terms h.graph.triples h.strata q.associations q.pairs is.items e status text notes) schema x)));
}

-- what is printed with a setting
pub is_printed : (s : Schema) (terms : List Term) (e : Explaining) (asked : List Association) (answers : List Telling) (setting : Setting) (text : List ℕ) → setting.schema.now ≡ s →
    setting.terms.now ≡ terms → AreNames s terms setting.names.now → setting.limit ≡ e.limit → text ≡ printed setting e.json asked answers → IsPrinted s terms e asked answers text
is_printed s terms e asked answers setting text schema is names limit made = record { setting = setting; schema = schema; terms_are = is; names = names; limit = limit; text_is = made }
