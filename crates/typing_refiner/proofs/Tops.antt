-- What the calls at the top claim of an answer.
use Rattle.std.proofs.Common.{◌≡◌, ◌≤◌, ℕ, List, arith, length, subst, sym, Result, Ok, Err}
use Rattle.std.specs.Prelude.{IfOk}
use Rattle.rdf_terms.specs.declared.terms.Term.{Term}
use Rattle.rdf_terms.specs.declared.terms.Triple.{Triple}
use Rattle.schema_tree.specs.declared.schema.Pair.{Pair}
use Rattle.schema_tree.specs.declared.schema.Schema.{Schema}
use Rattle.schema_tree.specs.Edges.{IsStratified}
use Rattle.schema_tree.specs.Laws.{NarrowIsKnown, RefinementIsTrue, StrataGiveOneTyping, TypingExists, WidthIsOne}
use Rattle.schema_tree.specs.Loaded.{IsLoaded}
use Rattle.schema_tree.specs.Needs.{HoldNeeds}
use Rattle.removal_laws.specs.Marks.{known_by}
use Rattle.locality_laws.specs.Laws.{RefinementIsIndependent}
use Rattle.typing_refiner.specs.Refinement.{Refinement, known_by_it}
use Rattle.typing_refiner.specs.Evidence.{AreAccepted, AreFine, AreShownBy}
use Rattle.graph_index.specs.Contents.{max_triples}
use Rattle.demand.specs.Orders.{max_pairs}
use Rattle.typing_refiner.proofs.Fine.{fine}
use Rattle.typing_refiner.proofs.Accepting.{accepted}
use Rattle.typing_refiner.specs.Refined.{IsRefinedOn, verdicts_of}
use Rattle.typing_refiner.specs.Statements.{AreTrue, AreTrueByAll, AreVerdictsByAll, IsRefinementOf, IsUnknownOnlyWide}
use Rattle.typing_refiner.proofs.Strata.{nothing_known, over_nothing}
use Rattle.typing_refiner.proofs.Verdicts.{are_true, by_all, by_each, unknown_only}

at_home : (s : Schema) (terms : List Term) (g : List Triple) (f : List ℕ) (budget : ℕ) (pairs lent : List Pair) (r : Refinement) → lent ≡ pairs →
    IsRefinementOf s terms g f budget lent (known_by_it r) → IsRefinementOf s terms g f budget pairs (known_by_it r)
at_home s terms g f budget pairs lent r same h = subst (λ ps. IsRefinementOf s terms g f budget ps (known_by_it r)) same h

module _ {E : Type 0} (s : Schema) (terms : List Term) (g : List Triple) (f : List ℕ) (budget : ℕ) (pairs : List Pair) where
  pub ok_refinement : (result : Result Refinement E) → IfOk result (λ r. IsRefinedOn s terms g f pairs budget nothing_known (known_by nothing_known pairs r.marks)) →
      IfOk result (λ r. r.pairs ≡ pairs) → IfOk result (λ r. IsRefinementOf s terms g f budget pairs (known_by_it r))
  ok_refinement (Ok r) a b = subst (λ ps. IsRefinementOf s terms g f budget pairs (verdicts_of ps r.marks)) (sym b) (over_nothing s terms g f pairs budget r.marks a)
  ok_refinement (Err e) a b = a

  module _ (lent : List Pair) where
    pub ok_true : (result : Result Refinement E) → lent ≡ pairs → IsLoaded s → RefinementIsTrue →
        IfOk result (λ r. IsRefinementOf s terms g f budget lent (known_by_it r)) → IfOk result (λ r. AreTrue s terms g f budget pairs (known_by_it r))
    ok_true (Ok r) same loaded law h = are_true s terms g f budget pairs (known_by_it r) loaded (at_home s terms g f budget pairs lent r same h) law
    ok_true (Err e) same loaded law h = h

    pub ok_by_all : (result : Result Refinement E) → lent ≡ pairs → IsLoaded s → RefinementIsTrue → TypingExists → StrataGiveOneTyping → IsStratified s f →
        IfOk result (λ r. IsRefinementOf s terms g f budget lent (known_by_it r)) → IfOk result (λ r. AreTrueByAll s terms g f budget pairs (known_by_it r))
    ok_by_all (Ok r) same loaded law exists one strat h =
        by_all s terms g f budget pairs (known_by_it r) loaded (at_home s terms g f budget pairs lent r same h) law exists one strat
    ok_by_all (Err e) same loaded law exists one strat h = h

    pub ok_by_each : (result : Result Refinement E) → lent ≡ pairs → IsLoaded s → RefinementIsIndependent → IsStratified s f →
        IfOk result (λ r. IsRefinementOf s terms g f budget lent (known_by_it r)) → IfOk result (λ r. AreVerdictsByAll s terms g budget pairs (known_by_it r))
    ok_by_each (Ok r) same loaded law strat h = by_each s terms g f budget pairs (known_by_it r) loaded (at_home s terms g f budget pairs lent r same h) law strat
    ok_by_each (Err e) same loaded law strat h = h

    pub ok_wide : (result : Result Refinement E) → lent ≡ pairs → IsLoaded s → NarrowIsKnown → WidthIsOne → IsStratified s f → HoldNeeds s g pairs →
        IfOk result (λ r. IsRefinementOf s terms g f budget lent (known_by_it r)) → IfOk result (λ r. IsUnknownOnlyWide s terms g f budget pairs (known_by_it r))
    ok_wide (Ok r) same loaded law widths strat closed h = unknown_only s terms g f budget pairs (known_by_it r) loaded (at_home s terms g f budget pairs lent r same h) law widths strat closed
    ok_wide (Err e) same loaded law widths strat closed h = h

module _ {E : Type 0} (s : Schema) (terms : List Term) (g : List Triple) (f : List ℕ) (budget : ℕ) (pairs : List Pair) where
  pub ok_shown : (lent : List Pair) (result : Result Refinement E) → lent ≡ pairs →
      IfOk result (λ r. AreShownBy s terms g f lent budget (known_by_it r) r.nodes r.sections) → IfOk result (λ r. AreShownBy s terms g f pairs budget (known_by_it r) r.nodes r.sections)
  ok_shown lent (Ok r) same h = subst (λ ps. AreShownBy s terms g f ps budget (known_by_it r) r.nodes r.sections) same h
  ok_shown lent (Err e) same h = h

  pub ok_accepted : (result : Result Refinement E) → IsStratified s f → IfOk result (λ r. AreShownBy s terms g f pairs budget (known_by_it r) r.nodes r.sections) →
      IfOk result (λ r. AreAccepted s terms g f pairs r.nodes r.sections)
  ok_accepted (Ok r) strat (known, all, removals, same, are) =
      λ shapes lines p renumbered k o listed. accepted s terms g f pairs budget strat known all removals r.nodes r.sections are lines p renumbered shapes k o listed
  ok_accepted (Err e) strat h = h

  pub ok_fine : (result : Result Refinement E) → IsLoaded s → (held : ℕ) → held ≡ length g → held ≤ max_triples → length pairs ≤ max_pairs →
      IfOk result (λ r. AreShownBy s terms g f pairs budget (known_by_it r) r.nodes r.sections) → IfOk result (λ r. AreFine r.sections)
  ok_fine (Ok r) loaded held is few few_pairs (known, all, removals, same, are) =
      fine s terms g f pairs budget loaded (let l : length g ≤ 4294967295 = omega (arith, is, few) in l)
      (let l : length pairs ≤ 4294967295 = omega (arith, few_pairs) in l) known all removals r.nodes r.sections are
  ok_fine (Err e) loaded held is few few_pairs h = h
