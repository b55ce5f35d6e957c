-- What is listed of a pair under a view is so under one that answers alike on each pair that it needs.
use Rattle.std.proofs.Common.{◌≡◌, ℕ, zero, suc, List, [], ◌∷◌, refl, subst}
use Rattle.std.specs.Prelude.{◌↔◌, Contains, Option, Some, None}
use Rattle.lists.proofs.Members.{got_in, in_one}
use Rattle.rdf_terms.specs.declared.terms.Term.{Term}
use Rattle.rdf_terms.specs.declared.terms.Triple.{Triple}
use Rattle.schema_tree.specs.declared.schema.Pair.{Pair}
use Rattle.schema_tree.specs.declared.schema.Schema.{Schema}
use Rattle.schema_tree.specs.declared.schema.Shape.{Shape}
use Rattle.schema_tree.specs.declared.verdicts.Lean.{Lean}
use Rattle.schema_tree.specs.declared.verdicts.Lean.TheVariants.{Impossible, Possible}
use Rattle.schema_tree.specs.declared.verdicts.Place.{Place}
use Rattle.schema_tree.specs.declared.verdicts.State.{State}
use Rattle.schema_tree.specs.declared.verdicts.Verdict.{Verdict}
use Rattle.schema_tree.specs.Entries.{shape_at}
use Rattle.schema_tree.specs.Needs.{Needs}
use Rattle.schema_tree.specs.Places.{AreAllowed, HasPlaces, IsAllowed, MayFail, MayHold}
use Rattle.schema_tree.specs.Relevant.{relevant_in_order}
use Rattle.schema_tree.specs.States.{AreClosed}
use Rattle.schema_tree.specs.Sure.{Known, PairIs}
use Rattle.bag_match.specs.Least.{AreLeast}
use Rattle.bag_match.specs.Outcomes.{AreListed}
use Rattle.bag_match.specs.Reached.{AreReached, IsReachedAt}
use Rattle.schema_tree.proofs.Leans.{all_weaker_allowed}
use Rattle.removal_laws.specs.Marks.{KnowSame}
use Rattle.removal_laws.proofs.Carried.{fail_at, hold_at}
use Rattle.schema_tree.proofs.Needed.{in_graph}
use Rattle.removal_laws.proofs.Known.{same_alike}
use Rattle.typing_refiner.specs.Records.{AreLeastFor, AreStatesFor}

-- the two answer alike on each pair that p needs
abbrev pub AgreeFor : Schema → List Triple → Pair → Known → Known → Type 0
AgreeFor s g p a b = (q : Pair) → Needs s g p q → (v : Verdict) → PairIs a q v ↔ PairIs b q v

agree_turned : (s : Schema) (g : List Triple) (p : Pair) (a b : Known) → AgreeFor s g p a b → AgreeFor s g p b a
agree_turned s g p a b h q need v = ((h q need v).1, (h q need v).0)

module _ (s : Schema) (terms : List Term) (g : List Triple) (lean : Lean) (p : Pair) (sh : Shape) (is : shape_at s p.shape ≡ Some sh) (ts : List Triple)
    (inside : (t : Triple) → Contains ts t → Contains g t) where
  all_allowed_same : (a b : Known) → AgreeFor s g p a b → (us : List Triple) → ((t : Triple) → Contains us t → Contains g t) → (ps : List Place) →
      AreAllowed (MayHold s terms a lean) (MayFail s terms a lean) sh p.node us ps → AreAllowed (MayHold s terms b lean) (MayFail s terms b lean) sh p.node us ps
  all_allowed_same a b same us held ps h =
      all_weaker_allowed (MayHold s terms a lean) (MayFail s terms a lean) (MayHold s terms b lean) (MayFail s terms b lean) sh p.node (λ t. Contains g t)
      (hold_at s terms g a b lean p same sh is) (fail_at s terms g a b lean p same sh is) us ps held h

  allowed_same : (a b : Known) → AgreeFor s g p a b → (t : Triple) → Contains g t → (place : Place) → IsAllowed (MayHold s terms a lean) (MayFail s terms a lean) sh p.node t place →
      IsAllowed (MayHold s terms b lean) (MayFail s terms b lean) sh p.node t place
  allowed_same a b same t held place h = (all_allowed_same a b same (t ∷ []) one (place ∷ []) (h, tt)).0
    where
      one : (u : Triple) → Contains (t ∷ []) u → Contains g u
      one u c = subst (λ z. Contains g z) (in_one t u c) held

  has_same : (a b : Known) → AgreeFor s g p a b → HasPlaces (MayHold s terms a lean) (MayFail s terms a lean) g sh p.node ts →
      HasPlaces (MayHold s terms b lean) (MayFail s terms b lean) g sh p.node ts
  has_same a b same h = record { open_to = h.open_to; places = h.places; allowed = all_allowed_same a b same ts inside h.places h.allowed; spelled = h.spelled }

  reached_same : (a b : Known) → AgreeFor s g p a b → (j : ℕ) (x : State) → IsReachedAt (MayHold s terms a lean) (MayFail s terms a lean) sh p.node ts j x →
      IsReachedAt (MayHold s terms b lean) (MayFail s terms b lean) sh p.node ts j x
  reached_same a b same zero x h = h
  reached_same a b same (suc j) x ((y, before, (t, at, (place, allowed, made))), alive) =
      ((y, reached_same a b same j y before, (t, at, (place, allowed_same a b same t (inside t (got_in ts y.done t at)) place allowed, made))), alive)

  closed_same : (a b : Known) → AgreeFor s g p a b → (states : List State) → AreClosed (MayHold s terms a lean) (MayFail s terms a lean) sh p.node ts states →
      AreClosed (MayHold s terms b lean) (MayFail s terms b lean) sh p.node ts states
  closed_same a b same states h = record {
    shaped = h.shaped;
    unfinished = h.unfinished;
    steps = λ x c alive t at place allowed. h.steps x c alive t at place (allowed_same b a (agree_turned s g p a b same) t (inside t (got_in ts x.done t at)) place allowed);
  }

  all_reached_same : (a b : Known) → AgreeFor s g p a b → (states : List State) → AreReached (MayHold s terms a lean) (MayFail s terms a lean) sh p.node ts states →
      AreReached (MayHold s terms b lean) (MayFail s terms b lean) sh p.node ts states
  all_reached_same a b same states h = record {
    rising = h.rising;
    same = λ x. ((λ c. reached_same a b same x.done x ((h.same x).0 c)), (λ r. (h.same x).1 (reached_same b a (agree_turned s g p a b same) x.done x r)));
  }

  listed_same : (a b : Known) → AgreeFor s g p a b → (states : List State) → AreListed (MayHold s terms a lean) (MayFail s terms a lean) g sh p.node ts states →
      AreListed (MayHold s terms b lean) (MayFail s terms b lean) g sh p.node ts states
  listed_same a b same states h = record {
    refused = λ m. h.refused (has_same b a (agree_turned s g p a b same) m);
    shut = h.shut;
    reached = λ open_to. all_reached_same a b same states (h.reached open_to);
    closed = λ open_to. closed_same a b same states (h.closed open_to);
    counted = h.counted;
    opened = h.opened;
  }

  least_same : (a b : Known) → AgreeFor s g p a b → (places : List Place) → AreLeast (MayHold s terms a lean) (MayFail s terms a lean) sh p.node ts places →
      AreLeast (MayHold s terms b lean) (MayFail s terms b lean) sh p.node ts places
  least_same a b same places h = record {
    allowed = all_allowed_same a b same ts inside places h.allowed;
    spelled = h.spelled;
    least = λ others allowed spelled. h.least others (all_allowed_same b a (agree_turned s g p a b same) ts inside others allowed) spelled;
  }

-- the states of a pair that cannot match
pub states_alike : (s : Schema) (terms : List Term) (g : List Triple) (a b : Known) (p : Pair) (states : List State) → AgreeFor s g p a b →
    AreStatesFor s terms g a p.node (shape_at s p.shape) states → AreStatesFor s terms g b p.node (shape_at s p.shape) states
states_alike s terms g a b p states same = go (shape_at s p.shape) refl
  where
    go : (x : Option Shape) → shape_at s p.shape ≡ x → AreStatesFor s terms g a p.node x states → AreStatesFor s terms g b p.node x states
    go None is h = h
    go (Some sh) is h = listed_same s terms g Possible p sh is (relevant_in_order terms g sh p.node) (in_graph terms g sh p.node) a b same states h

-- the least places of one that matches
pub places_alike : (s : Schema) (terms : List Term) (g : List Triple) (a b : Known) (p : Pair) (places : List Place) → AgreeFor s g p a b →
    AreLeastFor s terms g a p.node (shape_at s p.shape) places → AreLeastFor s terms g b p.node (shape_at s p.shape) places
places_alike s terms g a b p places same = go (shape_at s p.shape) refl
  where
    go : (x : Option Shape) → shape_at s p.shape ≡ x → AreLeastFor s terms g a p.node x places → AreLeastFor s terms g b p.node x places
    go None is h = h
    go (Some sh) is h = (h.0, least_same s terms g Impossible p sh is (relevant_in_order terms g sh p.node) (in_graph terms g sh p.node) a b same places h.1)

-- views that know the same agree for every pair
pub states_same : (s : Schema) (terms : List Term) (g : List Triple) (a b : Known) (p : Pair) (states : List State) → KnowSame a b →
    AreStatesFor s terms g a p.node (shape_at s p.shape) states → AreStatesFor s terms g b p.node (shape_at s p.shape) states
states_same s terms g a b p states same h = states_alike s terms g a b p states (λ q need v. same_alike a b same q v) h

pub places_same : (s : Schema) (terms : List Term) (g : List Triple) (a b : Known) (p : Pair) (places : List Place) → KnowSame a b →
    AreLeastFor s terms g a p.node (shape_at s p.shape) places → AreLeastFor s terms g b p.node (shape_at s p.shape) places
places_same s terms g a b p places same h = places_alike s terms g a b p places (λ q need v. same_alike a b same q v) h
