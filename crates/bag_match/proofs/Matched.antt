-- The outcome of a pair, from that of its relevant triples.
use Rattle.std.proofs.Common.{◌≡◌, ℕ, List, length, ◌<◌, ◌≤◌, ◌^◌, arith, ap, sym, subst, ◌∙◌, refl, get_or, [], Bool, true, false, true≢false}
use Rattle.std.proofs.lemmas.Bool.{ltb-false, ltb-true}
use Rattle.std.proofs.Math.Dec.{ltb}
use Rattle.std.proofs.lemmas.Option.{slice_get_past, slice_get_read}
use Rattle.graph_index.specs.Contents.{max_triples}
use Rattle.schema_tree.specs.Entries.{shape_at}
use Rattle.schema_tree.specs.declared.schema.ShapeId.{ShapeId}
use Rattle.bag_match.proofs.Neighbours.{relevant_few}
use Rattle.std.specs.Global.{Vec}
use Rattle.std.specs.Prelude.{IfOk, IfSome, is_some, Option, Some, None, Result, Ok, Err, ◌↔◌, IsTrue, slice_get}
use Rattle.rdf_terms.specs.declared.terms.TermId.{TermId}
use Rattle.rdf_terms.specs.declared.terms.Term.{Term}
use Rattle.rdf_terms.specs.declared.terms.Triple.{Triple}
use Rattle.schema_tree.specs.declared.schema.Schema.{Schema}
use Rattle.schema_tree.specs.declared.schema.Shape.{Shape}
use Rattle.schema_tree.specs.declared.verdicts.Lean.{Lean}
use Rattle.schema_tree.specs.declared.verdicts.Place.{Place}
use Rattle.schema_tree.specs.declared.verdicts.State.{State}
use Rattle.schema_tree.specs.Places.{CanMatch, IsShut, MayFail, MayHold, PairCanMatch}
use Rattle.schema_tree.specs.Relevant.{relevant_in_order}
use Rattle.schema_tree.specs.Width.{HasWidth, width_of}
use Rattle.schema_tree.specs.declared.schema.Pair.{Pair}
use Rattle.std.proofs.Common.{◌+◌, ◌*◌, take}
use Rattle.std.specs.Prelude.{Contains}
use Rattle.bag_match.specs.Searches.{HavePlaces}
use Rattle.bag_match.specs.Bounds.{AreApart, AreCountsOf, IsBound, degree, most_ticks}
use Rattle.bag_match.proofs.Bounded.{few_counts}
use Rattle.bag_match.proofs.Plain.{may_fail_uncertain, may_hold_possible}
use Rattle.schema_tree.specs.Sure.{Known}
use Rattle.bag_match.specs.declared.outcome.Outcome.{Outcome}
use Rattle.bag_match.specs.declared.outcome.Outcome.TheVariants.{Placed, Never}
use Rattle.bag_match.specs.Outcomes.{AreFound, IsFound, IsMatched, IsOpenShape, IsOutcomeOf, IsPlaced}
use Rattle.bag_match.proofs.Found.{listed}

module _ (s : Schema) (terms : List Term) (g : List Triple) (view : Known) (lean : Lean) (n : TermId) where
  pub matched_of : (shape : Option Shape) (sh : Shape) (ts : List Triple) → shape ≡ Some sh → ¬ IsShut g sh n → ts ≡ relevant_in_order terms g sh n →
      (r : Outcome) → IsFound (MayHold s terms view lean) (MayFail s terms view lean) sh n ts r → IsOutcomeOf s terms g view lean n shape r
  matched_of shape sh ts is open_to same r found =
      subst (λ o. IsOutcomeOf s terms g view lean n o r) (sym is)
      (subst (λ us. IsMatched (MayHold s terms view lean) (MayFail s terms view lean) g sh n us r) same (go r found))
    where
      go : (r : Outcome) → IsFound (MayHold s terms view lean) (MayFail s terms view lean) sh n ts r → IsMatched (MayHold s terms view lean) (MayFail s terms view lean) g sh n ts r
      go (Placed ps) h = (open_to, h)
      go (Never states) h = listed (MayHold s terms view lean) (MayFail s terms view lean) sh n ts states h.0 h.1 g open_to

  -- nothing is listed where there is no such Shape
  missing_of : (shape : Option Shape) (states : List State) → shape ≡ None → states ≡ [] → IsOutcomeOf s terms g view lean n shape (Never states)
  missing_of shape states none empty = subst (λ o. IsOutcomeOf s terms g view lean n o (Never states)) (sym none) empty

  -- nor where the pair is shut
  shut_of : (shape : Option Shape) (sh : Shape) (states : List State) → shape ≡ Some sh → IsShut g sh n → states ≡ [] → IsOutcomeOf s terms g view lean n shape (Never states)
  shut_of shape sh states is shut empty = subst (λ o. IsOutcomeOf s terms g view lean n o (Never states)) (sym is) (record {
    refused = λ places. places.open_to shut;
    shut = λ h. empty;
    reached = λ open_to. absurd (open_to shut);
    closed = λ open_to. absurd (open_to shut);
    counted = λ open_to. absurd (open_to shut);
    opened = λ open_to. absurd (open_to shut);
  })

  pub none_of : (shape : Option Shape) (states : List State) → ((sh : Shape) → shape ≡ Some sh → IsShut g sh n) → states ≡ [] → IsOutcomeOf s terms g view lean n shape (Never states)
  none_of None states shut empty = missing_of None states refl empty
  none_of (Some sh) states shut empty = shut_of (Some sh) sh states refl (shut sh refl) empty

  -- places are given exactly where the pair can match
  pub placed_can : (shape : Option Shape) (r : Outcome) → IsOutcomeOf s terms g view lean n shape r → IsPlaced r ↔ CanMatch s terms g view lean n shape
  placed_can None (Placed ps) h = absurd h
  placed_can None (Never states) h = ((λ p. p), λ c. c)
  placed_can (Some sh) (Placed ps) h =
      ((λ p. record { open_to = h.0; places = ps; allowed = h.1.allowed; spelled = h.1.spelled }), λ c. tt)
  placed_can (Some sh) (Never states) h = ((λ p. absurd p), λ c. h.refused c)

module _ (s : Schema) (terms : List Term) (g : List Triple) (view : Known) (lean : Lean) (n : TermId) where
  -- a pair cannot match where there are no places
  pub cannot_of : (shape : Option Shape) (sh : Shape) (ts : List Triple) → shape ≡ Some sh → ts ≡ relevant_in_order terms g sh n →
      ¬ HavePlaces (MayHold s terms view lean) (MayFail s terms view lean) sh n ts → ¬ CanMatch s terms g view lean n shape
  cannot_of shape sh ts is same never can = go (subst (λ o. CanMatch s terms g view lean n o) is can)
    where
      go : CanMatch s terms g view lean n (Some sh) → ⊥
      go c = never (subst (λ us. HavePlaces (MayHold s terms view lean) (MayFail s terms view lean) sh n us) (sym same) (c.places, c.allowed, c.spelled))

  -- nor where there is no such Shape, or where it is shut
  pub cannot_none : (shape : Option Shape) → ((sh : Shape) → shape ≡ Some sh → IsShut g sh n) → ¬ CanMatch s terms g view lean n shape
  cannot_none None shut can = can
  cannot_none (Some sh) shut can = can.open_to (shut sh refl)

-- what is said of places that are found is so of their list
pub said_of : (P : List Place → Type 0) (o : Option (Vec Place)) (v : Vec Place) (ps : List Place) → o ≡ Some v → ps ≡ v.items → IfSome o (λ z. P z.items) → P ps
said_of P o v ps is same said = subst P (sym same) (subst (λ z. IfSome z (λ x. P x.items)) is said)

-- whether places are found says whether the pair can match
pub told_of : (s : Schema) (terms : List Term) (g : List Triple) (view : Known) (lean : Lean) (p : Pair) (o : Option (List Place)) (b : Bool) → b ≡ is_some o →
    AreFound s terms g view lean p o → IsTrue b ↔ PairCanMatch s terms g view lean p
told_of s terms g view lean p (Some ps) b is found = subst (λ z. IsTrue z ↔ PairCanMatch s terms g view lean p) (sym is)
    ((λ so. (placed_can s terms g view lean p.node (shape_at s p.shape) (Placed ps) found).0 tt), λ can. refl)
told_of s terms g view lean p None b is found = subst (λ z. IsTrue z ↔ PairCanMatch s terms g view lean p) (sym is)
    ((λ e. absurd (true≢false (sym e))), λ can. absurd (found can))

pub placed_if_ok : {E : Type 0} (s : Schema) (terms : List Term) (g : List Triple) (view : Known) (lean : Lean) (n : TermId) (shape : Option Shape) (r : Result Outcome E) →
    IfOk r (IsOutcomeOf s terms g view lean n shape) → IfOk r (λ o. IsPlaced o ↔ CanMatch s terms g view lean n shape)
placed_if_ok s terms g view lean n shape (Ok o) h = placed_can s terms g view lean n shape o h
placed_if_ok s terms g view lean n shape (Err e) h = tt

pub is_open : (g : List Triple) (sh : Shape) (n : TermId) (b : Bool) → (IsTrue b ↔ IsShut g sh n) → b ≡ false → ¬ IsShut g sh n
is_open g sh n b told not_so shut = true≢false (sym (told.1 shut) ∙ not_so)

pub shape_read : (s : Schema) (i : ShapeId) (shapes : List Shape) (sh : Shape) → shapes ≡ s.shapes → true ≡ ltb i.0 (length shapes) → sh ≡ get_or shapes i.0 sh → shape_at s i ≡ Some sh
shape_read s i shapes sh same within at =
    ap (λ l. slice_get l i.0) (sym same) ∙ slice_get_read shapes (length shapes) i.0 sh refl (ltb-true i.0 (length shapes) (sym within)) at

pub shape_missing : (s : Schema) (i : ShapeId) (shapes : List Shape) → shapes ≡ s.shapes → false ≡ ltb i.0 (length shapes) → shape_at s i ≡ None
shape_missing s i shapes same past = ap (λ l. slice_get l i.0) (sym same) ∙ slice_get_past shapes i.0 (ltb-false i.0 (length shapes) (sym past))

pub open_missing : (s : Schema) (g : List Triple) (p : Pair) → shape_at s p.shape ≡ None → IsOpenShape s g p None
open_missing s g p none sh at = absurd (let bad : ⊥ = cc in bad)

pub open_shut : (s : Schema) (g : List Triple) (p : Pair) (sh : Shape) → shape_at s p.shape ≡ Some sh → IsShut g sh p.node → IsOpenShape s g p None
open_shut s g p sh is shut other at = subst (λ z. IsShut g z p.node) (let same : sh ≡ other = cc in same) shut

pub few_relevant : (terms : List Term) (g : List Triple) (sh : Shape) (n : TermId) (ts : List Triple) (held : ℕ) → ts ≡ relevant_in_order terms g sh n →
    held ≡ length g → held ≤ max_triples → length ts < 2 ^ 31
few_relevant terms g sh n ts held is count few =
    let a = relevant_few terms g sh n in
    let b : length ts ≡ length (relevant_in_order terms g sh n) = ap (λ z. length z) is in
    let c : held ≤ 4000000 = few in
    omega (arith, a, b, c, count)

-- different counts are at most as many as the Width
pub few_by_width : (s : Schema) (terms : List Term) (g : List Triple) (view : Known) (lean : Lean) (p : Pair) (sh : Shape) → shape_at s p.shape ≡ Some sh →
    (w : ℕ) → HasWidth s terms g p w → (j : ℕ) (cs : List (List ℕ)) → AreApart cs →
    ((c : List ℕ) → Contains cs c → AreCountsOf (MayHold s terms view lean) (MayFail s terms view lean) sh p.node (take j (relevant_in_order terms g sh p.node)) c) → length cs ≤ w
few_by_width s terms g view lean p sh is w has j cs apart each =
    subst (λ k. length cs ≤ k) (sym (has.is ∙ ap (λ o. width_of has.plain o g p.node) is))
    (few_counts (MayHold s terms view lean) (MayFail s terms view lean) terms g sh p.node has.plain
    (may_hold_possible s terms view lean has.plain has.tells) (may_fail_uncertain s terms view lean has.plain has.tells) j cs apart each)

-- the bound of a match is the Width
pub ticks_most : (s : Schema) (terms : List Term) (g : List Triple) (view : Known) (lean : Lean) (p : Pair) (sh : Shape) (ts : List Triple) → shape_at s p.shape ≡ Some sh →
    ts ≡ relevant_in_order terms g sh p.node → (start now : ℕ) →
    ((bound : ℕ) → IsBound (MayHold s terms view lean) (MayFail s terms view lean) sh p.node ts bound → now ≤ start + (length ts + 1) * bound) →
    (w : ℕ) → HasWidth s terms g p w → now ≤ start + most_ticks s terms g p w
ticks_most s terms g view lean p sh ts is same start now most w has =
    subst (λ o. now ≤ start + (degree s terms g p.node o + 1) * w) (sym is)
    (subst (λ us. now ≤ start + (length us + 1) * w) same
    (most w (record {
      few = λ j cs apart each.
          few_by_width s terms g view lean p sh is w has j cs apart
          (subst (λ us. (c : List ℕ) → Contains cs c → AreCountsOf (MayHold s terms view lean) (MayFail s terms view lean) sh p.node (take j us) c) same each);
    })))
