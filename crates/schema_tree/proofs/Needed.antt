-- What a pair needs, by the triples and the occurrences that it has.
use Rattle.std.proofs.Common.{◌≡◌, List, [], refl, sym, subst, ap, true, false, Bool}
use Rattle.std.proofs.lemmas.Bool.{and_parts}
use Rattle.std.proofs.lemmas.List.Sorted.{Contains-permutation, IsPermutation-sym}
use Rattle.std.specs.Prelude.{Contains, Some}
use Rattle.rdf_terms.specs.declared.terms.Term.{Term}
use Rattle.rdf_terms.specs.declared.terms.TermId.{TermId}
use Rattle.rdf_terms.specs.declared.terms.Triple.{Triple}
use Rattle.rdf_terms.specs.Graphs.{same_id}
use Rattle.rdf_terms.specs.Order.{neighbourhood}
use Rattle.rdf_terms.proofs.SameTerms.{same_is}
use Rattle.schema_tree.specs.declared.schema.ExprId.{ExprId}
use Rattle.schema_tree.specs.declared.schema.Occurrence.{Occurrence}
use Rattle.schema_tree.specs.declared.schema.Pair.{Pair}
use Rattle.schema_tree.specs.declared.schema.Schema.{Schema}
use Rattle.schema_tree.specs.declared.schema.Shape.{Shape}
use Rattle.schema_tree.specs.declared.schema.ShapeId.{ShapeId}
use Rattle.schema_tree.specs.Edges.{IsExtra, StandsIn, StandsInValue}
use Rattle.schema_tree.specs.Entries.{pair_of, shape_at}
use Rattle.schema_tree.specs.Matches.{fits, near_end, other_end}
use Rattle.schema_tree.specs.Needs.{Needs}
use Rattle.schema_tree.specs.Relevant.{is_forward, is_relevant, relevant_in_order}
use Rattle.schema_tree.proofs.Ordered.{ordered_same}
use Rattle.schema_tree.proofs.ToPlaces.{forward_parts}
use Rattle.lists.proofs.Filters.{in_filter}

-- a triple among the relevant ones is of the graph
pub in_graph :
    (terms : List Term) (g : List Triple) (sh : Shape) (n : TermId) (t : Triple) → Contains (relevant_in_order terms g sh n) t →
    Contains g t
in_graph terms g sh n t c =
    let near = (in_filter (is_relevant sh.occs n) (neighbourhood terms g n) t c).0 in
    (in_filter _ g t (Contains-permutation _ _ t (IsPermutation-sym _ _ (ordered_same terms g n)) near)).0

-- what stands in the value of an occurrence that fits a triple is needed, at the triple's other end
abbrev need_at :
    (s : Schema) (g : List Triple) (p : Pair) (sh : Shape) → shape_at s p.shape ≡ Some sh → (t : Triple) → Contains g t → (o : Occurrence) →
    Contains sh.occs o → fits o p.node t ≡ true → (n : TermId) → n ≡ other_end o.inverse t → (e : ExprId) → o.value ≡ Some e →
    (i : ShapeId) (sign : Bool) → StandsIn s i e sign → Needs s g p (pair_of n i)
need_at s g p sh is t held o of fit n end e value i sign st = record {
  shape = sh;
  is = is;
  occ = o;
  of = of;
  triple = t;
  held = held;
  fit = fit;
  end = end;
  sign = sign;
  stands = subst (λ v. StandsInValue s i v sign) (sym value) st;
}

abbrev pub need_of :
    (s : Schema) (g : List Triple) (p : Pair) (sh : Shape) → shape_at s p.shape ≡ Some sh → (t : Triple) → Contains g t → (o : Occurrence) →
    Contains sh.occs o → fits o p.node t ≡ true → (e : ExprId) → o.value ≡ Some e → (i : ShapeId) (sign : Bool) → StandsIn s i e sign →
    Needs s g p (pair_of (other_end o.inverse t) i)
need_of s g p sh is t held o of fit = need_at s g p sh is t held o of fit (other_end o.inverse t) refl

-- that end is the object, where the occurrence is not inverse
abbrev pub need_out :
    (s : Schema) (g : List Triple) (p : Pair) (sh : Shape) → shape_at s p.shape ≡ Some sh → (t : Triple) → Contains g t → (o : Occurrence) →
    Contains sh.occs o → o.inverse ≡ false → fits o p.node t ≡ true → (e : ExprId) → o.value ≡ Some e → (i : ShapeId) (sign : Bool) → StandsIn s i e sign →
    Needs s g p (pair_of t.o i)
need_out s g p sh is t held o of forward fit = need_at s g p sh is t held o of fit t.o (ap (λ c. other_end c t) (sym forward))

-- an occurrence that fits an arc out whose predicate is under EXTRA
pub under_extra :
    (sh : Shape) (n : TermId) (t : Triple) (o : Occurrence) → is_forward n t o ≡ true → Contains sh.extra t.p →
    IsExtra sh.extra o × (fits o n t ≡ true)
under_extra sh n t o forward extra =
    let (out, fit) = forward_parts (λ m e. ⊥) [] sh n t o forward in
    let same = and_parts (same_id o.predicate t.p) (same_id (near_end o.inverse t) n) fit in
    ((out, subst (λ u. Contains sh.extra u) (sym (same_is o.predicate t.p same.0)) extra), fit)
