-- The ways of all occurrences are those that a schema reads.
use Rattle.std.proofs.Common.{◌≡◌, ◌==◌, ◌∙◌, suc, arith, ne_eqb, List, [], ◌∷◌, refl, sym, subst, ap, Bool, true, false, true≢false, length, not}
use Rattle.std.specs.List.{flat_map}
use Rattle.std.specs.Prelude.{◌↔◌, Contains}
use Rattle.demand.specs.declared.links.Link.{Link}
use Rattle.demand.specs.Links.{AreLinks, AreLinksOf, IsLink}
use Rattle.lists.proofs.Beside.{beside, beside_back}
use Rattle.lists.proofs.Members.{from_flat_map, from_map, got_in, in_flat_map, in_map, is_first, not_in_none, place_of}
use Rattle.schema_tree.specs.declared.schema.Occurrence.{Occurrence}
use Rattle.schema_tree.specs.declared.schema.Schema.{Schema}
use Rattle.schema_tree.specs.declared.schema.ShapeId.{ShapeId}
use Rattle.schema_tree.specs.Edges.{StandsInValue}
use Rattle.shard_checks.specs.declared.ways.Way.{Way}
use Rattle.shard_checks.specs.Ways.{IsWay, way_of, ways_of}

-- there is a Shape in the value exactly where the list of them is not empty
some_there : (is : List ShapeId) → (not (length is == 0) ≡ true) ↔ ((j : ShapeId) × Contains is j)
some_there [] = ((λ e. absurd (true≢false (sym e))), (λ (j, c). absurd (not_in_none j c)))
some_there (i ∷ is) = ((λ e. (i, is_first i is)), (λ h. ap not (ne_eqb (suc (length is)) 0 (λ e. omega (arith, e)))))

followed_is : (s : Schema) (o : Occurrence) (l : Link) → IsLink s o l → (not (length l.shapes == 0) ≡ true) ↔ ((j : ShapeId) × (sign : Bool) × StandsInValue s j o.value sign)
followed_is s o l is = (
  (λ e. let (j, c) = (some_there l.shapes).0 e in let (sign, stands) = (is.shapes j).0 c in (j, sign, stands)),
  (λ (j, sign, stands). (some_there l.shapes).1 (j, (is.shapes j).1 (sign, stands))),
)

way_is : (a b : Way) → a.predicate ≡ b.predicate → a.inverse ≡ b.inverse → a.followed ≡ b.followed → a ≡ b
way_is a b p i f = λ k. record { predicate = p k; inverse = i k; followed = f k }

same_truth : (a b : Bool) → (a ≡ true) ↔ (b ≡ true) → a ≡ b
same_truth true true h = refl
same_truth true false h = absurd (true≢false (sym (h.0 refl)))
same_truth false true h = absurd (true≢false (sym (h.1 refl)))
same_truth false false h = refl

module _ (s : Schema) (lists : List (List Link)) (are : AreLinks s lists) where
  is_way : (w : Way) → Contains (flat_map ways_of lists) w → IsWay s w
  is_way w c =
      let (ls, of_lists, of_ways) = from_flat_map ways_of lists w c in
      let (l, of_links, led) = from_map way_of ls w of_ways in
      let (sh, of_shapes, links) = beside_back (AreLinksOf s) s.shapes lists are ls of_lists in
      let (o, of_occs, link) = beside_back (IsLink s) sh.occs ls links l of_links in
      let (k, at) = place_of s.shapes sh of_shapes in
      subst (IsWay s) led (record {
        id = record { 0 = k };
        shape = sh;
        is = at;
        occ = o;
        of = of_occs;
        predicate = ap (λ (z : Occurrence). z.predicate) link.occ;
        inverse = ap (λ (z : Occurrence). z.inverse) link.occ;
        followed = followed_is s o l link;
      })

  there : (w : Way) → IsWay s w → Contains (flat_map ways_of lists) w
  there w h =
      let (ls, of_lists, links) = beside (AreLinksOf s) s.shapes lists are h.shape (got_in s.shapes h.id.0 h.shape h.is) in
      let (l, of_links, link) = beside (IsLink s) h.shape.occs ls links h.occ h.of in
      let same : way_of l ≡ w =
      way_is (way_of l) w (ap (λ (z : Occurrence). z.predicate) link.occ ∙ sym h.predicate) (ap (λ (z : Occurrence). z.inverse) link.occ ∙ sym h.inverse)
      (same_truth (not (length l.shapes == 0)) w.followed
      ((λ e. h.followed.1 ((followed_is s h.occ l link).0 e)), (λ e. (followed_is s h.occ l link).1 (h.followed.0 e)))) in
      in_flat_map ways_of lists ls w of_lists (subst (λ z. Contains (ways_of ls) z) same (in_map way_of ls l of_links))

  pub ways_are : (w : Way) → Contains (flat_map ways_of lists) w ↔ IsWay s w
  ways_are w = (is_way w, there w)
