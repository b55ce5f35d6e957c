-- Records are within the limits of a proof's lines.
use Rattle.std.proofs.Common.{◌≡◌, ℕ, suc, ◌≤◌, inl, inr, List, [], ◌∷◌, arith, refl, sym, subst, length, take}
use Rattle.std.proofs.lemmas.Bool.{cases_lt}
use Rattle.std.proofs.lemmas.Option.{get_or_from_slice_get, slice_get_within}
use Rattle.std.specs.List.{AllByRecursion}
use Rattle.std.specs.Prelude.{Contains, Option, Some, None, slice_get, slice_index}
use Rattle.bag_match.proofs.Neighbours.{relevant_few}
use Rattle.lists.proofs.Among.{few_among}
use Rattle.lists.proofs.Decided.{Decided}
use Rattle.lists.proofs.Quantifiers.{all_of}
use Rattle.lists.specs.Distinct.{AreDistinct}
use Rattle.rdf_terms.specs.declared.terms.Term.{Term}
use Rattle.rdf_terms.specs.declared.terms.TermId.{TermId}
use Rattle.rdf_terms.specs.declared.terms.Triple.{Triple}
use Rattle.schema_tree.specs.declared.schema.ExprId.{ExprId}
use Rattle.schema_tree.specs.declared.schema.Occurrence.{Occurrence}
use Rattle.schema_tree.specs.declared.schema.Pair.{Pair}
use Rattle.schema_tree.specs.declared.schema.Schema.{Schema}
use Rattle.schema_tree.specs.declared.schema.Shape.{Shape}
use Rattle.schema_tree.specs.declared.verdicts.Lean.TheVariants.{Impossible, Possible}
use Rattle.schema_tree.specs.declared.verdicts.Place.{Place}
use Rattle.schema_tree.specs.declared.verdicts.Place.TheVariants.{At, Rest}
use Rattle.schema_tree.specs.declared.verdicts.State.{State}
use Rattle.schema_tree.specs.Edges.{level}
use Rattle.schema_tree.specs.Entries.{shape_at}
use Rattle.schema_tree.specs.Loaded.{IsLoaded}
use Rattle.schema_tree.specs.Places.{AreAllowed, IsAllowed, IsShut, MayFail, MayHold, MayTake}
use Rattle.schema_tree.specs.Relevant.{relevant_in_order}
use Rattle.schema_tree.specs.Rising.{AreRising, Rises, RisesFrom}
use Rattle.schema_tree.specs.States.{IsStateBefore}
use Rattle.schema_tree.specs.Sure.{Known}
use Rattle.schema_tree.specs.Typings.{top_of}
use Rattle.bag_match.specs.Outcomes.{AreListed}
use Rattle.proof_file.specs.declared.RecordKind.{RecordKind}
use Rattle.proof_file.specs.declared.RecordKind.TheVariants.{Minus, Plus}
use Rattle.proof_file.specs.declared.Section.{Section}
use Rattle.proof_file.specs.Text.{IsKind, IsNumber, IsPlace, IsState}
use Rattle.typing_refiner.specs.Evidence.{AreFine, AreRecordsOf, AreRemovals, Removal, Shows}
use Rattle.typing_refiner.specs.Laws.{HasRecordsAt}
use Rattle.typing_refiner.specs.Records.{AreLeastFor, AreStatesFor, known_without}
use Rattle.typing_refiner.proofs.Accepting.{found, ranks_of}
use Rattle.typing_refiner.proofs.Ranked.{at_taken}
use Rattle.typing_refiner.proofs.Shut.{decide_shut}
use Rattle.removal_laws.proofs.Known.{held_at}

-- ---- places

place_fine : (hold fail : TermId → Option ExprId → Type 0) (sh : Shape) (n : TermId) → length sh.occs ≤ 256 → (t : Triple) (p : Place) → IsAllowed hold fail sh n t p → IsPlace p
place_fine hold fail sh n few t (At i) a = go (slice_get sh.occs i) refl a
  where
    go : (x : Option Occurrence) → slice_get sh.occs i ≡ x → MayTake hold fail sh n t x → IsPlace (At i)
    go None e b = absurd b
    go (Some o) e b = let w = slice_get_within sh.occs i o e in let l : i ≤ 65534 = omega (arith, w, few) in l
place_fine hold fail sh n few t Rest a = tt

places_fine : (hold fail : TermId → Option ExprId → Type 0) (sh : Shape) (n : TermId) → length sh.occs ≤ 256 → (ts : List Triple) (ps : List Place) →
    AreAllowed hold fail sh n ts ps → AllByRecursion IsPlace ps
places_fine hold fail sh n few [] [] a = tt
places_fine hold fail sh n few [] (p ∷ ps) a = absurd a
places_fine hold fail sh n few (t ∷ ts) [] a = tt
places_fine hold fail sh n few (t ∷ ts) (p ∷ ps) a = (place_fine hold fail sh n few t p a.0, places_fine hold fail sh n few ts ps a.1)

-- ---- states

rises_from : {X : Type 0} (P : X → X → Type 0) (x : X) (xs : List X) → AllByRecursion (P x) xs → AreRising P xs → RisesFrom P x xs
rises_from P x [] all up = tt
rises_from P x (y ∷ ys) all up = (all.0, rises_from P y ys up.0 up.1)

rises : {X : Type 0} (P : X → X → Type 0) (xs : List X) → AreRising P xs → Rises P xs
rises P [] up = tt
rises P (x ∷ xs) up = rises_from P x xs up.0 up.1

abbrev Fine : List State → Type 0
Fine states = AllByRecursion IsState states × Rises IsStateBefore states

states_fine : (hold fail : TermId → Option ExprId → Type 0) (g : List Triple) (sh : Shape) (n : TermId) (ts : List Triple) → length ts ≤ 4294967295 →
    (states : List State) → AreListed hold fail g sh n ts states → Fine states
states_fine hold fail g sh n ts few states listed = by (decide_shut g sh n)
  where
    by : Decided (IsShut g sh n) → Fine states
    by (inl shut) = subst Fine (sym (listed.shut shut)) (tt, tt)
    by (inr open_to) = (
      all_of IsState states (λ x c. (
        (let d = ((listed.closed open_to).shaped x c).1 in let l : x.done ≤ 4294967295 = omega (arith, d, few) in l),
        all_of IsNumber x.counts (λ v d. let (i, at) = held_at x.counts v d in
            let e : slice_index x.counts i ≡ v = get_or_from_slice_get x.counts i v 0 at in
            let le = listed.counted open_to x c i in let l : v ≤ 4294967295 = omega (arith, e, le, few) in l),
      )),
      rises IsStateBefore states (listed.reached open_to).rising,
    )

-- ---- ranks

module _ (s : Schema) (terms : List Term) (g : List Triple) (f : List ℕ) (pairs : List Pair) (budget : ℕ) (loaded : IsLoaded s)
    (few_triples : length g ≤ 4294967295) (few_pairs : length pairs ≤ 4294967295)
    (known : Known) (all : List Removal) (refined : AreRemovals s terms g f pairs budget (suc (top_of f)) known all) where
  gone_few : (k : ℕ) (h : HasRecordsAt s terms g f pairs budget known (ranks_of all) k) → length h.gone ≤ length pairs
  gone_few k h = few_among h.gone pairs once inside
    where
      once : AreDistinct h.gone
      once i j q at_i at_j = elim (cases_lt i j) [
        | inl lt ↦ absurd ((h.refined.in_turn j q at_j).0.1 (at_taken h.gone j i q at_i lt))
        | inr ge ↦ (elim (cases_lt j i) [
          | inl lt ↦ absurd ((h.refined.in_turn i q at_i).0.1 (at_taken h.gone i j q at_j lt))
          | inr le ↦ (let e : i ≡ j = omega (arith, ge, le) in e)
        ])
      ]

      inside : (q : Pair) → Contains h.gone q → Contains pairs q
      inside q c = let (i, at) = held_at h.gone q c in (h.refined.in_turn i q at).0.0.0

  few_relevant : (sh : Shape) (n : TermId) → length (relevant_in_order terms g sh n) ≤ 4294967295
  few_relevant sh n = let r = relevant_few terms g sh n in omega (arith, r, few_triples)

  kind_fine : (p : Pair) (kind : RecordKind) → Shows s terms g f pairs budget known all p kind → IsKind kind
  kind_fine p (Plus places) h = by (shape_at s p.shape) refl h.1
    where
      by : (o : Option Shape) → shape_at s p.shape ≡ o → AreLeastFor s terms g known p.node o places → AllByRecursion IsPlace places
      by None e least = absurd least
      by (Some sh) e least =
          places_fine (MayHold s terms known Impossible) (MayFail s terms known Impossible) sh p.node (loaded.shapes p.shape sh e).few (relevant_in_order terms g sh p.node) places least.1.allowed
  kind_fine p (Minus rank states) h =
      let (r, j, at, is, listed) = found s terms g f pairs budget (suc (top_of f)) known all refined (record { pair = p; rank = rank; states = states }) h in
      let w = slice_get_within r.gone j p at in let l = gone_few (level f p.shape) r in
      ((let n : rank ≤ 4294967295 = omega (arith, is, w, l, few_pairs) in n), by (known_without r.lower (take j r.gone)) (shape_at s p.shape) listed)
    where
      by : (view : Known) (o : Option Shape) → AreStatesFor s terms g view p.node o states → Fine states
      by view None listed = subst Fine (sym listed) (tt, tt)
      by view (Some sh) listed =
          states_fine (MayHold s terms view Possible) (MayFail s terms view Possible) g sh p.node (relevant_in_order terms g sh p.node) (few_relevant sh p.node) states listed

  pub fine : (nodes : List TermId) (sections : List Section) → AreRecordsOf s terms g f pairs budget known all nodes sections → AreFine sections
  fine nodes sections are k r listed = let (p, of, on, shows) = are.each k r listed in kind_fine p r.kind shows
