-- What refinement records is accepted.
use Rattle.std.proofs.Common.{◌≡◌, ℕ, ◌≤◌, inl, inr, List, refl, sym, subst}
use Rattle.std.proofs.lemmas.Option.{slice_get_within}
use Rattle.std.specs.Prelude.{◌↔◌, Some, ⊤, slice_get}
use Rattle.rdf_terms.specs.declared.terms.TermId.{TermId}
use Rattle.rdf_terms.specs.declared.terms.Triple.{Triple}
use Rattle.schema_tree.specs.declared.schema.Pair.{Pair}
use Rattle.schema_tree.specs.declared.schema.Shape.{Shape}
use Rattle.schema_tree.specs.declared.verdicts.Lean.TheVariants.{Impossible}
use Rattle.schema_tree.specs.declared.verdicts.Place.{Place}
use Rattle.schema_tree.specs.declared.verdicts.State.{State}
use Rattle.schema_tree.specs.declared.verdicts.Verdict.{Verdict}
use Rattle.schema_tree.specs.Edges.{IsStratified, level}
use Rattle.schema_tree.specs.Places.{AreAllowed, IsShut, MayFail, MayHold}
use Rattle.schema_tree.specs.Relevant.{relevant_in_order}
use Rattle.schema_tree.specs.Sure.{Known, PairIs}
use Rattle.typing_refiner.specs.Records.{AreLeastFor, AreStatesFor}
use Rattle.schema_tree.proofs.Leans.{all_weaker_allowed}
use Rattle.lists.proofs.Decided.{Decided}
use Rattle.typing_refiner.proofs.Shut.{decide_shut}
use Rattle.proof_file.specs.declared.Proof.{Proof}
use Rattle.proof_file.specs.declared.RecordKind.{RecordKind}
use Rattle.proof_file.specs.declared.Why.{Why}
use Rattle.proof_file.specs.declared.Why.TheVariants as Whys
use Rattle.proof_file.specs.declared.RecordKind.TheVariants.{Plus, Minus}
use Rattle.proof_file.specs.Accepts.{IsAccepted, PassesKind, PassesMinus, Setting, in_section, no_of, yes_of}
use Rattle.proof_file.specs.Views.{minus_view, plus_view, whole_view}
use Rattle.removal_laws.proofs.Allowed.{places_hold, states_hold}
use Rattle.removal_laws.proofs.Views.{plus_no, plus_yes}

module _ (x : Setting) (p : Proof) (strat : IsStratified x.schema x.strata) (node shape : ℕ) (n : TermId) (sh : Shape)
    (node_is : slice_get x.nodes node ≡ Some n) (shape_is : slice_get x.schema.shapes shape ≡ Some sh) where
  abbrev pair : Pair
  pair = record { node = n; shape = record { 0 = shape } }

  abbrev k : ℕ
  k = level x.strata (record { 0 = shape })

  abbrev ts : List Triple
  ts = relevant_in_order x.terms x.graph sh n

  abbrev whole : Known
  whole = whole_view (yes_of x p) (no_of x p)

  by_form : (places : List Place) → AreAllowed (MayHold x.schema x.terms whole Impossible) (MayFail x.schema x.terms whole Impossible) sh n ts places →
      AreAllowed (λ m v. ⊤) (λ m v. ⊤) sh n ts places
  by_form places h =
      all_weaker_allowed (MayHold x.schema x.terms whole Impossible) (MayFail x.schema x.terms whole Impossible) (λ m v. ⊤) (λ m v. ⊤) sh n (λ t. Unit {0})
      (λ t o elsewhere of fit held. tt) (λ t o elsewhere extra of forward failed. tt) ts places (λ t c. tt) h

  by_value : (places : List Place) → AreAllowed (MayHold x.schema x.terms whole Impossible) (MayFail x.schema x.terms whole Impossible) sh n ts places →
      AreAllowed (MayHold x.schema x.terms (plus_view x.strata (yes_of x p) (no_of x p) k) Impossible)
      (MayFail x.schema x.terms (plus_view x.strata (yes_of x p) (no_of x p) k) Impossible) sh n ts places
  by_value places h =
      places_hold x.schema x.terms x.graph x.strata strat pair sh shape_is whole (plus_view x.strata (yes_of x p) (no_of x p) k)
      (λ q le yes_. plus_yes x.strata k whole whole (λ u l. ((λ c. c), (λ c. c))) (λ u l. ((λ c. c), (λ c. c))) q le yes_)
      (λ q lt no_. plus_no x.strata k whole whole (λ u l. ((λ c. c), (λ c. c))) (λ u l. ((λ c. c), (λ c. c))) q lt no_) ts places h

  through : (kind : RecordKind) (w : Why) → PassesKind x p k kind (Some n) (Some sh) w → PassesKind x p k kind (slice_get x.nodes node) (slice_get x.schema.shapes shape) w
  through kind w h =
      subst (λ o. PassesKind x p k kind o (slice_get x.schema.shapes shape) w) (sym node_is) (subst (λ o. PassesKind x p k kind (Some n) o w) (sym shape_is) h)

  -- a pair with the least places under all verdicts
  pub plus_accepted : (places : List Place) → AreLeastFor x.schema x.terms x.graph whole n (Some sh) places →
      IsAccepted x p (in_section k (record { node = node; shape = shape; kind = Plus places }))
  plus_accepted places least = (
    slice_get_within x.nodes node n node_is,
    (
      slice_get_within x.schema.shapes shape sh shape_is,
      (
        refl,
        (
          through (Plus places) Whys.Places (least.0, by_form places least.1.allowed),
          (
            through (Plus places) Whys.Value (by_value places least.1.allowed),
            (
              through (Plus places) Whys.Counts least.1.spelled,
              tt,
            ),
          ),
        ),
      ),
    ),
  )

  -- a pair that went, with the states of this moment
  pub minus_accepted :
      (rank : ℕ) (view : Known) (states : List State) → ((q : Pair) → level x.strata q.shape ≤ k → (v : Verdict) → PairIs view q v ↔ PairIs (minus_view x.strata (yes_of x p) (no_of x p) k rank) q v) →
      AreStatesFor x.schema x.terms x.graph view n (Some sh) states → IsAccepted x p (in_section k (record { node = node; shape = shape; kind = Minus rank states }))
  minus_accepted rank view states same listed = (
    slice_get_within x.nodes node n node_is,
    (
      slice_get_within x.schema.shapes shape sh shape_is,
      (
        refl,
        (
          through (Minus rank states) Whys.States (leaves listed),
          tt,
        ),
      ),
    ),
  )
    where
      leaves : AreStatesFor x.schema x.terms x.graph view n (Some sh) states → PassesMinus x p k n sh rank states Whys.States
      leaves h = by (decide_shut x.graph sh n)
        where
          by : Decided (IsShut x.graph sh n) → PassesMinus x p k n sh rank states Whys.States
          by (inl shut) = inl shut
          by (inr open_to) = inr (record {
            closed = states_hold x.schema x.terms x.graph x.strata strat pair sh shape_is view (minus_view x.strata (yes_of x p) (no_of x p) k rank) same ts states (h.closed open_to);
            counted = h.counted open_to;
            opened = h.opened open_to;
          })
