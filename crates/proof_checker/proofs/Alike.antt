-- Views that answer alike judge places and states alike.
use Rattle.std.proofs.Common.{List, [], ◌∷◌, Bool, true, false, filter}
use Rattle.std.specs.Prelude.{Option, Some, None, ◌↔◌, slice_get}
use Rattle.std.specs.List.{list_any}
use Rattle.rdf_terms.specs.declared.terms.TermId.{TermId}
use Rattle.rdf_terms.specs.declared.terms.Term.{Term}
use Rattle.rdf_terms.specs.declared.terms.Triple.{Triple}
use Rattle.rdf_terms.specs.Graphs.{same_id}
use Rattle.schema_tree.specs.declared.schema.ExprId.{ExprId}
use Rattle.schema_tree.specs.declared.schema.Occurrence.{Occurrence}
use Rattle.schema_tree.specs.declared.schema.Pair.{Pair}
use Rattle.schema_tree.specs.declared.schema.Schema.{Schema}
use Rattle.schema_tree.specs.declared.schema.Shape.{Shape}
use Rattle.schema_tree.specs.declared.verdicts.Verdict.{Verdict}
use Rattle.schema_tree.specs.declared.verdicts.Verdict.TheVariants.{Yes, No}
use Rattle.schema_tree.specs.declared.verdicts.Lean.{Lean}
use Rattle.schema_tree.specs.declared.verdicts.Lean.TheVariants.{Possible, Impossible}
use Rattle.schema_tree.specs.declared.verdicts.Place.{Place}
use Rattle.schema_tree.specs.declared.verdicts.Place.TheVariants.{At, Rest}
use Rattle.schema_tree.specs.declared.verdicts.State.{State}
use Rattle.schema_tree.specs.Laws.{SureFollowsAnswers}
use Rattle.schema_tree.specs.Loaded.{IsLoaded}
use Rattle.schema_tree.specs.Matches.{other_end}
use Rattle.schema_tree.specs.Places.{AreAllowed, IsAllowed, MayFail, MayHold, MayStay, MayStayOut, MayTake}
use Rattle.schema_tree.specs.Relevant.{is_forward}
use Rattle.schema_tree.specs.Sure.{Known, PairIs}
use Rattle.lists.proofs.Quantifiers.{all_same}
use Rattle.proof_file.specs.Accepts.{AreStates}
use Rattle.lists.proofs.Exactly.{itself, not_same}

Same : (TermId → Option ExprId → Type 0) → (TermId → Option ExprId → Type 0) → Type 0
Same a b = (m : TermId) (v : Option ExprId) → a m v ↔ b m v

-- what holds or fails alike allows the same places
module _ (hold fail hold' fail' : TermId → Option ExprId → Type 0) (holds : (m : TermId) (v : Option ExprId) → hold m v ↔ hold' m v)
    (fails : (m : TermId) (v : Option ExprId) → fail m v ↔ fail' m v) (sh : Shape) (n : TermId) where
  stay_out_same : (t : Triple) (b : Bool) → MayStayOut hold fail sh n t b ↔ MayStayOut hold' fail' sh n t b
  stay_out_same t true =
      let same = all_same (λ o. fail t.o o.value) (λ o. fail' t.o o.value) (filter (is_forward n t) sh.occs) (λ o c. fails t.o o.value) in
      ((λ h. (h.0, same.0 h.1)), λ h. (h.0, same.1 h.1))
  stay_out_same t false = itself

  stay_same : (t : Triple) (b : Bool) → MayStay hold fail sh n t b ↔ MayStay hold' fail' sh n t b
  stay_same t true = stay_out_same t (list_any (is_forward n t) sh.occs)
  stay_same t false = itself

  take_same : (t : Triple) (o : Option Occurrence) → MayTake hold fail sh n t o ↔ MayTake hold' fail' sh n t o
  take_same t None = itself
  take_same t (Some o) =
      let same = holds (other_end o.inverse t) o.value in
      ((λ h. (h.0, same.0 h.1)), λ h. (h.0, same.1 h.1))

  pub place_same : (t : Triple) (p : Place) → IsAllowed hold fail sh n t p ↔ IsAllowed hold' fail' sh n t p
  place_same t (At i) = take_same t (slice_get sh.occs i)
  place_same t Rest = stay_same t (same_id t.s n)

  pub places_same : (ts : List Triple) (ps : List Place) → AreAllowed hold fail sh n ts ps ↔ AreAllowed hold' fail' sh n ts ps
  places_same [] [] = itself
  places_same [] (p ∷ ps) = itself
  places_same (t ∷ ts) [] = itself
  places_same (t ∷ ts) (p ∷ ps) =
      let here = place_same t p in
      let later = places_same ts ps in
      ((λ h. (here.0 h.0, later.0 h.1)), λ h. (here.1 h.0, later.1 h.1))

  pub states_move : (ts : List Triple) (states : List State) → AreStates hold fail sh n ts states → AreStates hold' fail' sh n ts states
  states_move ts states h = record {
    closed = record {
      shaped = h.closed.shaped;
      unfinished = h.closed.unfinished;
      steps = λ x c alive t at p allowed. h.closed.steps x c alive t at p ((place_same t p).1 allowed);
    };
    counted = h.counted;
    opened = h.opened;
  }

module _ (law : SureFollowsAnswers) (s : Schema) (terms : List Term) (loaded : IsLoaded s) (a b : Known) (alike : (q : Pair) (v : Verdict) → PairIs a q v ↔ PairIs b q v) where
  pub hold_same : (lean : Lean) (m : TermId) (v : Option ExprId) → MayHold s terms a lean m v ↔ MayHold s terms b lean m v
  hold_same lean m None = itself
  hold_same Impossible m (Some e) = law s terms a b loaded alike m e Yes
  hold_same Possible m (Some e) = not_same (law s terms a b loaded alike m e No)

  pub fail_same : (lean : Lean) (m : TermId) (v : Option ExprId) → MayFail s terms a lean m v ↔ MayFail s terms b lean m v
  fail_same lean m None = itself
  fail_same Impossible m (Some e) = law s terms a b loaded alike m e No
  fail_same Possible m (Some e) = not_same (law s terms a b loaded alike m e Yes)

  pub values_same : (lean : Lean) (sh : Shape) (n : TermId) (ts : List Triple) (ps : List Place) →
      AreAllowed (MayHold s terms a lean) (MayFail s terms a lean) sh n ts ps ↔ AreAllowed (MayHold s terms b lean) (MayFail s terms b lean) sh n ts ps
  values_same lean sh n ts ps =
      places_same (MayHold s terms a lean) (MayFail s terms a lean) (MayHold s terms b lean) (MayFail s terms b lean) (hold_same lean) (fail_same lean) sh n ts ps

  back : (lean : Lean) (m : TermId) (v : Option ExprId) → MayHold s terms b lean m v ↔ MayHold s terms a lean m v
  back lean m v = ((hold_same lean m v).1, (hold_same lean m v).0)

  back_fail : (lean : Lean) (m : TermId) (v : Option ExprId) → MayFail s terms b lean m v ↔ MayFail s terms a lean m v
  back_fail lean m v = ((fail_same lean m v).1, (fail_same lean m v).0)

  pub states_same : (lean : Lean) (sh : Shape) (n : TermId) (ts : List Triple) (states : List State) →
      AreStates (MayHold s terms a lean) (MayFail s terms a lean) sh n ts states ↔ AreStates (MayHold s terms b lean) (MayFail s terms b lean) sh n ts states
  states_same lean sh n ts states = (
    states_move (MayHold s terms a lean) (MayFail s terms a lean) (MayHold s terms b lean) (MayFail s terms b lean) (hold_same lean) (fail_same lean) sh n ts states,
    states_move (MayHold s terms b lean) (MayFail s terms b lean) (MayHold s terms a lean) (MayFail s terms a lean) (back lean) (back_fail lean) sh n ts states,
  )
