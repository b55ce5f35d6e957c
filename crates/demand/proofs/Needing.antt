-- The pairs that a pair needs are those that its links lead to.
use Rattle.std.proofs.Common.{◌≡◌, ◌∙◌, ◌++◌, List, [], ◌∷◌, Bool, true, false, sym, ap, subst, filter, map, refl}
use Rattle.std.proofs.lemmas.List.Concat.{flat_map-cons}
use Rattle.std.proofs.lemmas.Bool.{and_parts, eq-eqb, eqb-true}
use Rattle.std.specs.Cmp.Derive.{both_true}
use Rattle.std.proofs.lemmas.List.Sorted.{Contains-permutation, IsPermutation-sym}
use Rattle.std.specs.List.{flat_map}
use Rattle.std.specs.Prelude.{◌↔◌, ◌&&◌, Contains, Some, None, slice_get}
use Rattle.rdf_terms.specs.declared.terms.Term.{Term}
use Rattle.rdf_terms.specs.declared.terms.TermId.{TermId}
use Rattle.rdf_terms.specs.declared.terms.Triple.{Triple}
use Rattle.rdf_terms.specs.Graphs.{same_id}
use Rattle.rdf_terms.specs.Order.{by_object, by_subject}
use Rattle.graph_index.specs.Contents.{ins_by, outs_by}
use Rattle.schema_tree.specs.declared.schema.Pair.{Pair}
use Rattle.schema_tree.specs.declared.schema.Schema.{Schema}
use Rattle.schema_tree.specs.Edges.{StandsInValue}
use Rattle.schema_tree.specs.Entries.{pair_of}
use Rattle.schema_tree.specs.Matches.{fits, near_end, other_end}
use Rattle.schema_tree.specs.Needs.{Needs}
use Rattle.lists.proofs.Filters.{filter_has, in_filter}
use Rattle.lists.proofs.Members.{from_flat_map, from_map, in_flat_map, in_map}
use Rattle.lists.proofs.Ordered.{sorted_same}
use Rattle.demand.specs.declared.links.Link.{Link}
use Rattle.demand.specs.Links.{AreLinks, AreLinksOf, IsLink}
use Rattle.demand.specs.Needed.{arcs_by, arcs_of, ends_of, needs_at}
use Rattle.lists.proofs.Beside.{beside, beside_back}
use Rattle.demand.proofs.Listed.{zip_at, zip_back, zip_there}

module _ (terms : List Term) (g : List Triple) (n : TermId) where
  -- the arcs of an occurrence are the triples that it fits
  to_fit : (inverse : Bool) (p : TermId) (t : Triple) → Contains (arcs_by terms g n p inverse) t →
      Contains g t × ((same_id p t.p && same_id (near_end inverse t) n) ≡ true)
  to_fit true p t c =
      let (d, e) = in_filter (λ u. same_id u.p p) (filter (λ u. same_id u.o n) g) t (Contains-permutation _ _ t (IsPermutation-sym _ _ (sorted_same (by_subject terms) (ins_by g n p))) c) in
      let (f, h) = in_filter (λ u. same_id u.o n) g t d in (f, both_true (turned t.p p e) h)
    where
      turned : (a b : TermId) → same_id a b ≡ true → same_id b a ≡ true
      turned a b e = eq-eqb b.0 a.0 (sym (eqb-true a.0 b.0 e))
  to_fit false p t c =
      let (d, e) = in_filter (λ u. same_id u.p p) (filter (λ u. same_id u.s n) g) t (Contains-permutation _ _ t (IsPermutation-sym _ _ (sorted_same (by_object terms) (outs_by g n p))) c) in
      let (f, h) = in_filter (λ u. same_id u.s n) g t d in (f, both_true (turned t.p p e) h)
    where
      turned : (a b : TermId) → same_id a b ≡ true → same_id b a ≡ true
      turned a b e = eq-eqb b.0 a.0 (sym (eqb-true a.0 b.0 e))

  from_fit : (inverse : Bool) (p : TermId) (t : Triple) → Contains g t → (same_id p t.p && same_id (near_end inverse t) n) ≡ true → Contains (arcs_by terms g n p inverse) t
  from_fit true p t held fit =
      let (e, h) = and_parts _ _ fit in
      Contains-permutation _ _ t (sorted_same (by_subject terms) (ins_by g n p))
      (filter_has (λ u. same_id u.p p) (filter (λ u. same_id u.o n) g) t (filter_has (λ u. same_id u.o n) g t held h) (eq-eqb t.p.0 p.0 (sym (eqb-true p.0 t.p.0 e))))
  from_fit false p t held fit =
      let (e, h) = and_parts _ _ fit in
      Contains-permutation _ _ t (sorted_same (by_object terms) (outs_by g n p))
      (filter_has (λ u. same_id u.p p) (filter (λ u. same_id u.s n) g) t (filter_has (λ u. same_id u.s n) g t held h) (eq-eqb t.p.0 p.0 (sym (eqb-true p.0 t.p.0 e))))

module _ (s : Schema) (terms : List Term) (g : List Triple) (links : List (List Link)) (are : AreLinks s links) (p : Pair) where
  pub needs_exactly : (own : List Link) → slice_get links p.shape.0 ≡ Some own → (q : Pair) → Contains (flat_map (needs_at terms g p.node) own) q ↔ Needs s g p q
  needs_exactly own at q = (to, from)
    where
      to : Contains (flat_map (needs_at terms g p.node) own) q → Needs s g p q
      to c =
          let (sh, is) = zip_back (AreLinksOf s) s.shapes links are p.shape.0 own at in
          let zipped : AreLinksOf s sh own = zip_at (AreLinksOf s) s.shapes links are p.shape.0 sh own is at in
          let (l, held, d) = from_flat_map (needs_at terms g p.node) own q c in
          let (o, of, link) = beside_back (IsLink s) sh.occs own zipped l held in
          let (t, arc, e) = from_flat_map (ends_of l) (arcs_of terms g p.node l.occ) q d in
          let (i, stands, same) = from_map (pair_of (other_end l.occ.inverse t)) l.shapes q e in
          let (in_g, fit) = to_fit terms g p.node l.occ.inverse l.occ.predicate t arc in
          let (sign, st) = (link.shapes i).0 stands in
          record {
            shape = sh;
            is = is;
            occ = o;
            of = of;
            triple = t;
            held = in_g;
            fit = subst (λ u. fits u p.node t ≡ true) link.occ fit;
            end = sym (ap (λ u. u.node) same) ∙ ap (λ u. other_end u.inverse t) link.occ;
            sign = sign;
            stands = subst (λ u. StandsInValue s u.shape o.value sign) same st;
          }

      from : Needs s g p q → Contains (flat_map (needs_at terms g p.node) own) q
      from need =
          let zipped : AreLinksOf s need.shape own = zip_at (AreLinksOf s) s.shapes links are p.shape.0 need.shape own need.is at in
          let (l, held, link) = beside (IsLink s) need.shape.occs own zipped need.occ need.of in
          let fit : fits l.occ p.node need.triple ≡ true = subst (λ u. fits u p.node need.triple ≡ true) (sym link.occ) need.fit in
          let arc : Contains (arcs_of terms g p.node l.occ) need.triple = from_fit terms g p.node l.occ.inverse l.occ.predicate need.triple need.held fit in
          let stands : Contains l.shapes q.shape = (link.shapes q.shape).1 (need.sign, need.stands) in
          let ended : q.node ≡ other_end l.occ.inverse need.triple = need.end ∙ ap (λ u. other_end u.inverse need.triple) (sym link.occ) in
          let made : pair_of (other_end l.occ.inverse need.triple) q.shape ≡ q = ap (λ m. pair_of m q.shape) (sym ended) in
          in_flat_map (needs_at terms g p.node) own l q held
          (in_flat_map (ends_of l) (arcs_of terms g p.node l.occ) need.triple q arc
          (subst (λ u. Contains (ends_of l need.triple) u) made (in_map (pair_of (other_end l.occ.inverse need.triple)) l.shapes q.shape stands)))

  pub needs_nothing : slice_get links p.shape.0 ≡ None → (q : Pair) → ¬ Needs s g p q
  needs_nothing none q need =
      let (own, at) = zip_there (AreLinksOf s) s.shapes links are p.shape.0 need.shape need.is in
      let e : Some own ≡ None = sym at ∙ none in absurd (cc)

-- a link without Shapes leads to no pair
pub none_led : (terms : List Term) (g : List Triple) (n : TermId) (l : Link) → l.shapes ≡ [] → needs_at terms g n l ≡ []
none_led terms g n l none = none_of (arcs_of terms g n l.occ)
  where
    none_of : (ts : List Triple) → flat_map (ends_of l) ts ≡ []
    none_of [] = refl
    none_of (t ∷ ts) = flat_map-cons (ends_of l) t ts ∙ (ap (λ xs. map (pair_of (other_end l.occ.inverse t)) xs ++ flat_map (ends_of l) ts) none ∙ none_of ts)
