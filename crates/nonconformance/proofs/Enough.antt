-- Each reason is enough: where there is one, no places are.
use Rattle.std.proofs.Common.{◌≡◌, ℕ, ◌<◌, ◌≤◌, refl, arith, subst, length, List, [], ◌∷◌}
use Rattle.std.specs.Prelude.{Option, Some, None, slice_index}
use Rattle.rdf_terms.specs.declared.terms.Term.{Term}
use Rattle.rdf_terms.specs.declared.terms.TermId.{TermId}
use Rattle.rdf_terms.specs.declared.terms.Triple.{Triple}
use Rattle.rdf_terms.specs.Order.{neighbourhood}
use Rattle.tally.specs.Copies.{Copies}
use Rattle.schema_tree.specs.declared.schema.ExprId.{ExprId}
use Rattle.schema_tree.specs.declared.schema.Pair.{Pair}
use Rattle.schema_tree.specs.declared.schema.Schema.{Schema}
use Rattle.schema_tree.specs.declared.schema.Shape.{Shape}
use Rattle.schema_tree.specs.declared.verdicts.Lean.TheVariants.{Possible}
use Rattle.schema_tree.specs.Entries.{shape_at}
use Rattle.schema_tree.specs.Laws.{OrderIsWhole, ShapesArePlaces}
use Rattle.schema_tree.specs.Loaded.{BodyOk, IsLoaded}
use Rattle.schema_tree.specs.Matches.{SatValue}
use Rattle.schema_tree.specs.Places.{CanMatch, HaveCounts, HasPlaces, MayFail, MayHold, PairCanMatch, times}
use Rattle.schema_tree.specs.Relevant.{relevant_in_order}
use Rattle.schema_tree.specs.Satisfies.{Sat}
use Rattle.schema_tree.specs.Shapes.{ShapeOk}
use Rattle.schema_tree.specs.Sure.{Known}
use Rattle.nonconformance.specs.declared.reason.Reason.{Reason}
use Rattle.nonconformance.specs.declared.reason.Reason.TheVariants.{Forbidden, Unmatched, TooFew, TooMany, NoMatchingCounts, NoMatchingPlaces}
use Rattle.nonconformance.specs.Bounds.{served}
use Rattle.nonconformance.specs.Reasons.{IsKnownReason, IsKnownReasonOf, HasNoMatchingCounts, IsReason, IsTooFew, IsTooMany, IsTrueReason, IsTrueReasonOf, IsUnmatched}
use Rattle.nonconformance.proofs.Alone.{served_alone}
use Rattle.nonconformance.proofs.Hindered.{shut_by}
use Rattle.nonconformance.proofs.Serving.{all_stand, allowed_of, served_few, served_many}

module _ (hold fail : TermId → Option ExprId → Type 0) (g : List Triple) (sh : Shape) (n : TermId) (ts : List Triple) where
  unmatched_by : (t : Triple) → IsUnmatched hold fail g sh n ts t → ¬ HasPlaces hold fail g sh n ts
  unmatched_by t r places =
      let (p, allowed) = allowed_of hold fail sh n ts places.places t places.allowed r.there in
      r.nowhere p allowed

  few_by : BodyOk sh.occs sh.body → (cs : List ℕ) (least : ℕ) (found : List Triple) → IsTooFew hold fail g sh n ts cs least found → ¬ HasPlaces hold fail g sh n ts
  few_by ok cs least found r places =
      let body : BodyOk sh.occs (Some r.expression) = subst (λ b. BodyOk sh.occs b) r.is ok in
      let counts : Copies r.expression (times places.places) 1 = subst (λ b. HaveCounts b (times places.places)) r.is places.spelled in
      let low : least ≤ served cs places.places = r.take places.places (all_stand hold fail sh n r.expression body.2 ts places.places places.allowed, counts) in
      let up : served cs places.places ≤ length found = served_few hold fail sh n cs ts places.places found places.allowed r.those in
      let short : length found < least = r.short in
      absurd (omega arith)

  many_by : BodyOk sh.occs sh.body → (cs : List ℕ) (most : ℕ) (found : List Triple) → IsTooMany hold fail g sh n ts cs most found → ¬ HasPlaces hold fail g sh n ts
  many_by ok cs most found r places =
      let body : BodyOk sh.occs (Some r.expression) = subst (λ b. BodyOk sh.occs b) r.is ok in
      let counts : Copies r.expression (times places.places) 1 = subst (λ b. HaveCounts b (times places.places)) r.is places.spelled in
      let up : served cs places.places ≤ most = r.take places.places (all_stand hold fail sh n r.expression body.2 ts places.places places.allowed, counts) in
      let low : length found ≤ served cs places.places = served_many hold fail sh n cs ts places.places found places.allowed r.those in
      let over : most < length found = r.over in
      absurd (omega arith)

  counts_by : BodyOk sh.occs sh.body → (low high : List ℕ) → HasNoMatchingCounts hold fail g sh n ts low high → ¬ HasPlaces hold fail g sh n ts
  counts_by ok low high r places =
      let body : BodyOk sh.occs (Some r.expression) = subst (λ b. BodyOk sh.occs b) r.is ok in
      let counts : Copies r.expression (times places.places) 1 = subst (λ b. HaveCounts b (times places.places)) r.is places.spelled in
      r.none (times places.places)
      (λ i symbol. let (found, those, is) = r.least i (body.3 i symbol) in
      at_least (slice_index low i) (length found) (served (i ∷ []) places.places) (times places.places i) is
      (served_many hold fail sh n (i ∷ []) ts places.places found places.allowed those) (served_alone i places.places))
      (λ i symbol. let (found, those, is) = r.most i (body.3 i symbol) in
      at_most (slice_index high i) (length found) (served (i ∷ []) places.places) (times places.places i) is
      (served_few hold fail sh n (i ∷ []) ts places.places found places.allowed those) (served_alone i places.places))
      counts
    where
      at_least : (a b c d : ℕ) → a ≡ b → b ≤ c → c ≡ d → a ≤ d
      at_least a b c d e h f = omega arith

      at_most : (a b c d : ℕ) → a ≡ b → c ≤ b → c ≡ d → d ≤ a
      at_most a b c d e h f = omega arith

  pub enough : BodyOk sh.occs sh.body → (r : Reason) → IsReason hold fail g sh n ts r → ¬ HasPlaces hold fail g sh n ts
  enough ok (Forbidden t) h = λ places. places.open_to (shut_by hold fail g sh n ts t h)
  enough ok (Unmatched t) h = unmatched_by t h
  enough ok (TooFew cs least found) h = few_by ok cs least found h
  enough ok (TooMany cs most found) h = many_by ok cs most found h
  enough ok (NoMatchingCounts low high) h = counts_by ok low high h
  enough ok NoMatchingPlaces h = λ places. h.none places.places places.allowed places.spelled

-- under a typing
pub true_enough :
    ShapesArePlaces → OrderIsWhole → (s : Schema) (terms : List Term) (g : List Triple) (T : List Pair) (p : Pair) (r : Reason) → IsLoaded s →
    IsTrueReason s terms g T p r → ¬ ShapeOk s terms g T p.node p.shape
true_enough places whole s terms g T p r loaded = go (shape_at s p.shape) refl
  where
    go : (x : Option Shape) → shape_at s p.shape ≡ x → IsTrueReasonOf s terms g T p.node x r → ¬ ShapeOk s terms g T p.node p.shape
    go None is h ok = h
    go (Some sh) is h ok =
        enough (λ m v. SatValue (Sat s terms T m) v) (λ m v. ¬ SatValue (Sat s terms T m) v) g sh p.node (relevant_in_order terms g sh p.node)
        (loaded.shapes p.shape sh is).body r h
        ((places s terms g (neighbourhood terms g p.node) T p.node p.shape sh loaded is (whole terms g p.node)).0 ok)

-- by what is known
pub known_enough :
    (s : Schema) (terms : List Term) (g : List Triple) (view : Known) (p : Pair) (r : Reason) → IsLoaded s → IsKnownReason s terms g view p r →
    ¬ PairCanMatch s terms g view Possible p
known_enough s terms g view p r loaded = go (shape_at s p.shape) refl
  where
    go : (x : Option Shape) → shape_at s p.shape ≡ x → IsKnownReasonOf s terms g view p.node x r → ¬ CanMatch s terms g view Possible p.node x
    go None is h = absurd h
    go (Some sh) is h =
        enough (MayHold s terms view Possible) (MayFail s terms view Possible) g sh p.node (relevant_in_order terms g sh p.node)
        (loaded.shapes p.shape sh is).body r h
