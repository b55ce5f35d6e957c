-- Places whose values fit have the right form: any value may be satisfied there, and may not be.
use Rattle.std.proofs.Common.{List, [], ◌∷◌, ◌≡◌, ℕ, refl, true≢false, subst, sym, inl, inr, Bool, true, false, filter}
use Rattle.std.specs.Prelude.{Option, Some, None, IsTrue, ◌↔◌, ⊤, not, slice_get}
use Rattle.std.specs.Bool.{then_some}
use Rattle.std.specs.List.{AllByRecursion, list_any}
use Rattle.rdf_terms.specs.declared.terms.TermId.{TermId}
use Rattle.rdf_terms.specs.declared.terms.Triple.{Triple}
use Rattle.rdf_terms.specs.Graphs.{same_id}
use Rattle.schema_tree.specs.declared.schema.ExprId.{ExprId}
use Rattle.schema_tree.specs.declared.schema.Occurrence.{Occurrence}
use Rattle.schema_tree.specs.declared.schema.Shape.{Shape}
use Rattle.schema_tree.specs.declared.verdicts.Lean.TheVariants.{Impossible}
use Rattle.schema_tree.specs.declared.verdicts.Place.{Place}
use Rattle.schema_tree.specs.declared.verdicts.Place.TheVariants.{At, Rest}
use Rattle.schema_tree.specs.Places.{AreAllowed, IsAllowed, IsShut, MayFail, MayHold, MayStay, MayStayOut, MayTake}
use Rattle.schema_tree.specs.Relevant.{is_forward, relevant_in_order}
use Rattle.proof_file.specs.declared.Proof.{Proof}
use Rattle.proof_file.specs.declared.Why.{Why}
use Rattle.proof_file.specs.declared.Why.TheVariants as Whys
use Rattle.proof_file.specs.Accepts.{PassesPlus, Setting, no_of, yes_of}
use Rattle.proof_file.specs.Views.{plus_view}
use Rattle.proof_checker.specs.Faults.{FoundBy}

-- any value may be satisfied, and may not be
abbrev pub Any : TermId → Option ExprId → Type 0
Any m v = ⊤

all_so : (P : Occurrence → Type 0) (os : List Occurrence) → AllByRecursion P os → AllByRecursion (λ o. ⊤) os
all_so P [] h = tt
all_so P (o ∷ os) h = (tt, all_so P os h.1)

module _ (hold fail : TermId → Option ExprId → Type 0) (sh : Shape) (n : TermId) where
  stays_out : (t : Triple) (b : Bool) → MayStayOut hold fail sh n t b → MayStayOut Any Any sh n t b
  stays_out t true h = (h.0, all_so (λ o. fail t.o o.value) (filter (is_forward n t) sh.occs) h.1)
  stays_out t false h = h

  stays : (t : Triple) (b : Bool) → MayStay hold fail sh n t b → MayStay Any Any sh n t b
  stays t true h = stays_out t (list_any (is_forward n t) sh.occs) h
  stays t false h = tt

  takes : (t : Triple) (o : Option Occurrence) → MayTake hold fail sh n t o → MayTake Any Any sh n t o
  takes t None h = absurd h
  takes t (Some o) h = (h.0, tt)

  is_formed : (t : Triple) (p : Place) → IsAllowed hold fail sh n t p → IsAllowed Any Any sh n t p
  is_formed t (At i) h = takes t (slice_get sh.occs i) h
  is_formed t Rest h = stays t (same_id t.s n) h

  pub are_formed : (ts : List Triple) (ps : List Place) → AreAllowed hold fail sh n ts ps → AreAllowed Any Any sh n ts ps
  are_formed [] [] h = tt
  are_formed [] (p ∷ ps) h = absurd h
  are_formed (t ∷ ts) [] h = absurd h
  are_formed (t ∷ ts) (p ∷ ps) h = (is_formed t p h.0, are_formed ts ps h.1)

module _ (x : Setting) (p : Proof) (k : ℕ) (n : TermId) (sh : Shape) (places : List Place) where
  abbrev Relevant : List Triple
  Relevant = relevant_in_order x.terms x.graph sh n

  formed : PassesPlus x p k n sh places Whys.Value → AreAllowed Any Any sh n Relevant places
  formed fits =
      let view = plus_view x.strata (yes_of x p) (no_of x p) k in
      are_formed (MayHold x.schema x.terms view Impossible) (MayFail x.schema x.terms view Impossible) sh n Relevant places fits

  abbrev Found : Option Why → Type 0
  Found r = FoundBy (PassesPlus x p k n sh places) (Whys.Places ∷ Whys.Value ∷ Whys.Counts ∷ []) r

  -- of places whose values fit, the first check that fails, if one does, is that of their counts
  pub counts_found : (b : Bool) (r : Option Why) → r ≡ then_some (not b) Whys.Counts → (¬ IsShut x.graph sh n) →
      PassesPlus x p k n sh places Whys.Value → (IsTrue b ↔ PassesPlus x p k n sh places Whys.Counts) → Found r
  counts_found b r is unshut fits same = subst Found (sym is) (go b same)
    where
      go : (b : Bool) → (IsTrue b ↔ PassesPlus x p k n sh places Whys.Counts) → Found (then_some (not b) Whys.Counts)
      go true same = ((unshut, formed fits), (fits, (same.0 refl, tt)))
      go false same = inr ((unshut, formed fits), inr (fits, inl (refl, λ h. true≢false (sym (same.1 h)))))
