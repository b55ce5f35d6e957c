-- Whether a pair can match under a view is decided.
use Rattle.std.proofs.Common.{◌≡◌, suc, inl, inr, List, refl}
use Rattle.std.specs.Prelude.{Option, Some, None}
use Rattle.node_constraint.specs.Laws.{NodesAreDecided}
use Rattle.rdf_terms.specs.declared.terms.Term.{Term}
use Rattle.rdf_terms.specs.declared.terms.TermId.{TermId}
use Rattle.rdf_terms.specs.declared.terms.Triple.{Triple}
use Rattle.schema_tree.specs.declared.schema.ExprId.{ExprId}
use Rattle.schema_tree.specs.declared.schema.Pair.{Pair}
use Rattle.schema_tree.specs.declared.schema.Schema.{Schema}
use Rattle.schema_tree.specs.declared.schema.Shape.{Shape}
use Rattle.schema_tree.specs.declared.verdicts.Lean.{Lean}
use Rattle.schema_tree.specs.declared.verdicts.Lean.TheVariants.{Possible, Impossible}
use Rattle.schema_tree.specs.declared.verdicts.Verdict.{Verdict}
use Rattle.schema_tree.specs.declared.verdicts.Verdict.TheVariants.{Yes, No}
use Rattle.schema_tree.specs.Entries.{shape_at}
use Rattle.schema_tree.specs.Loaded.{IsLoaded}
use Rattle.schema_tree.specs.Places.{CanMatch, MayFail, MayHold, PairCanMatch}
use Rattle.schema_tree.specs.Relevant.{relevant_in_order}
use Rattle.schema_tree.specs.Sure.{IsSure, Known}
use Rattle.schema_tree.proofs.Decide.{decide_places}
use Rattle.lists.proofs.Decided.{Decided, decide_not}
use Rattle.schema_tree.proofs.Made.{well_made}
use Rattle.schema_tree.proofs.SureOnce.{decide_verdict, sure_some, within_apart}

module _ (s : Schema) (terms : List Term) (nodes : NodesAreDecided) (g : List Triple) (loaded : IsLoaded s) where
  decide_sure : (view : Known) (n : TermId) (e : ExprId) (v : Verdict) → Decided (IsSure s terms view n e v)
  decide_sure view n e v = decide_verdict (IsSure s terms view n e) (within_apart view terms n s (suc e.0) e) (sure_some s terms nodes view n (suc e.0) e) v

  decide_hold : (view : Known) (lean : Lean) (n : TermId) (x : Option ExprId) → Decided (MayHold s terms view lean n x)
  decide_hold view Possible n None = inl tt
  decide_hold view Impossible n None = inl tt
  decide_hold view Possible n (Some e) = decide_not (decide_sure view n e No)
  decide_hold view Impossible n (Some e) = decide_sure view n e Yes

  decide_fail : (view : Known) (lean : Lean) (n : TermId) (x : Option ExprId) → Decided (MayFail s terms view lean n x)
  decide_fail view Possible n None = inr (λ h. h)
  decide_fail view Impossible n None = inr (λ h. h)
  decide_fail view Possible n (Some e) = decide_not (decide_sure view n e Yes)
  decide_fail view Impossible n (Some e) = decide_sure view n e No

  pub decide_match : (view : Known) (lean : Lean) (p : Pair) → Decided (PairCanMatch s terms g view lean p)
  decide_match view lean p = go (shape_at s p.shape) refl
    where
      go : (x : Option Shape) → shape_at s p.shape ≡ x → Decided (CanMatch s terms g view lean p.node x)
      go None is = inr (λ h. h)
      go (Some sh) is =
          decide_places (MayHold s terms view lean) (MayFail s terms view lean) (decide_hold view lean) (decide_fail view lean) g sh (well_made s loaded p.shape sh is) p.node
          (relevant_in_order terms g sh p.node)
