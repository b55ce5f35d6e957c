-- What two graphs that have the same triples at a node say of it: its neighbourhood, what can match there, its Width, its Shapes
-- and what it needs.
use Rattle.std.proofs.Common.{◌≡◌, List, [], ◌∷◌, ◌++◌, refl, sym, subst, ap, ◌∙◌, Bool, true, false, true≢false, filter, min, not}
use Rattle.std.proofs.lemmas.Bool.{and_parts}
use Rattle.std.proofs.lemmas.List.Elements.{filter-append}
use Rattle.std.specs.List.{list_any}
use Rattle.std.specs.List.Sorted.{IsPermutation}
use Rattle.std.specs.Ordering.{is_eq, ordering_then}
use Rattle.std.specs.declared.cmp.Ordering.{Ordering}
use Rattle.std.specs.declared.cmp.Ordering.TheVariants.{Equal, Greater, Less}
use Rattle.std.specs.Prelude.{◌↔◌, ◌&&◌, ◌||◌, Contains, Option, Some, None, count_by}
use Rattle.bag_match.proofs.Bounded.{count_order}
use Rattle.lists.specs.Distinct.{AreDistinct}
use Rattle.lists.specs.Sorting.{sorted_by}
use Rattle.lists.proofs.Filters.{filter_all, filter_comm, filter_has, in_filter}
use Rattle.lists.proofs.Members.{any_true, is_first, is_later}
use Rattle.rdf_terms.specs.declared.terms.Term.{Term}
use Rattle.rdf_terms.specs.declared.terms.TermId.{TermId}
use Rattle.rdf_terms.specs.declared.terms.Triple.{Triple}
use Rattle.rdf_terms.specs.Graphs.{ins, is_loop, neigh, outs, same_id}
use Rattle.rdf_terms.specs.Order.{by_object, by_subject, compare_at, neighbourhood}
use Rattle.rdf_terms.proofs.Orders.{ids_tie, object_total, subject_total}
use Rattle.rdf_terms.proofs.SameTerms.{same_is}
use Rattle.schema_tree.specs.declared.schema.ExprId.{ExprId}
use Rattle.schema_tree.specs.declared.schema.Pair.{Pair}
use Rattle.schema_tree.specs.declared.schema.Schema.{Schema}
use Rattle.schema_tree.specs.declared.schema.Shape.{Shape}
use Rattle.schema_tree.specs.declared.verdicts.Lean.{Lean}
use Rattle.schema_tree.specs.declared.verdicts.Verdict.{Verdict}
use Rattle.schema_tree.specs.declared.schema.ShapeId.{ShapeId}
use Rattle.schema_tree.specs.Entries.{shape_at}
use Rattle.schema_tree.specs.Laws.{OrderIsWhole, ShapesArePlaces}
use Rattle.schema_tree.specs.Loaded.{IsLoaded}
use Rattle.schema_tree.specs.Matches.{SatValue, fits, near_end}
use Rattle.schema_tree.specs.Needs.{Needs}
use Rattle.schema_tree.specs.Places.{AreAllowed, CanMatch, HasPlaces, IsShut, MayFail, MayHold}
use Rattle.schema_tree.specs.Relevant.{is_relevant, relevant, relevant_in_order}
use Rattle.schema_tree.specs.Satisfies.{Sat}
use Rattle.schema_tree.specs.Shapes.{ShapeHolds, ShapeOk}
use Rattle.schema_tree.specs.Sure.{Known}
use Rattle.schema_tree.specs.Width.{width_of}
use Rattle.part_laws.proofs.Lists.{sorted_by_items, sorted_passing, two_filters}
use Rattle.part_laws.proofs.Products.{coarse_same, fine_product_same}
use Rattle.part_laws.proofs.Sets.{same_set, sift_apart}

-- a Shape reads the triple at the node: it is an arc out, or some occurrence fits it
abbrev pub is_read : Shape → TermId → Triple → Bool
is_read sh n t = same_id t.s n || is_relevant sh.occs n t

-- the two graphs have the same triples of those that the Shape, if there is one, reads at the node
abbrev pub HaveSameAt : List Triple → List Triple → TermId → Option Shape → Type 0
HaveSameAt g h n x = (sh : Shape) → x ≡ Some sh → (t : Triple) → is_read sh n t ≡ true → Contains g t ↔ Contains h t

pub same_turned : (g h : List Triple) (n : TermId) (x : Option Shape) → HaveSameAt g h n x → HaveSameAt h g n x
same_turned g h n x same sh is t read = ((same sh is t read).1, (same sh is t read).0)

-- a test that holds of some item
pub some_passing : {X : Type 0} (p : X → Bool) (xs : List X) → list_any p xs ≡ true → (x : X) × Contains xs x × (p x ≡ true)
some_passing p [] e = absurd (true≢false (sym e))
some_passing p (x ∷ xs) e = by (p x) refl e (some_passing p xs)
  where
    by : (b : Bool) → p x ≡ b → (b || list_any p xs) ≡ true → (list_any p xs ≡ true → (y : _) × Contains xs y × (p y ≡ true)) → (y : _) × Contains (x ∷ xs) y × (p y ≡ true)
    by true is h deeper = (x, is_first x xs, is)
    by false is h deeper = let (y, c, k) = deeper h in (y, is_later x xs y c, k)

-- triples of one node that tie by predicate and other end are one
pub tie_parts : (a b : Ordering) → ordering_then a b ≡ Equal → (a ≡ Equal) × (b ≡ Equal)
tie_parts Less b e = cc
tie_parts Equal b e = (refl, e)
tie_parts Greater b e = cc

pub id_tie : (terms : List Term) (a b : TermId) → compare_at terms a b ≡ Equal → a ≡ b
id_tie terms a b e = same_is a b (ids_tie terms a b ∙ ap is_eq e)

object_tie : (terms : List Term) (n : TermId) (a b : Triple) → same_id a.s n ≡ true → same_id b.s n ≡ true → by_object terms a b ≡ Equal → a ≡ b
object_tie terms n a b x y e =
    let (p, o) = tie_parts (compare_at terms a.p b.p) (compare_at terms a.o b.o) e in
    let s : a.s ≡ b.s = same_is a.s n x ∙ sym (same_is b.s n y) in
    (λ i. record { s = s i; p = id_tie terms a.p b.p p i; o = id_tie terms a.o b.o o i })

subject_tie : (terms : List Term) (n : TermId) (a b : Triple) → same_id a.o n ≡ true → same_id b.o n ≡ true → by_subject terms a b ≡ Equal → a ≡ b
subject_tie terms n a b x y e =
    let (p, s) = tie_parts (compare_at terms a.p b.p) (compare_at terms a.s b.s) e in
    let o : a.o ≡ b.o = same_is a.o n x ∙ sym (same_is b.o n y) in
    (λ i. record { s = id_tie terms a.s b.s s i; p = id_tie terms a.p b.p p i; o = o i })

by_first : (a b : Bool) → a ≡ true → (a || b) ≡ true
by_first true b e = refl
by_first false b e = absurd (true≢false (sym e))

by_last : (a b : Bool) → b ≡ true → (a || b) ≡ true
by_last true b e = refl
by_last false b e = e

-- what a Shape reads at a node has an end there
pub read_near : (sh : Shape) (n : TermId) (t : Triple) → is_read sh n t ≡ true → (same_id t.s n || same_id t.o n) ≡ true
read_near sh n t read = by (same_id t.s n) (is_relevant sh.occs n t) refl refl read
  where
    at_end : (inverse : Bool) → same_id (near_end inverse t) n ≡ true → (same_id t.s n || same_id t.o n) ≡ true
    at_end false e = by_first (same_id t.s n) (same_id t.o n) e
    at_end true e = by_last (same_id t.s n) (same_id t.o n) e

    by : (a b : Bool) → same_id t.s n ≡ a → is_relevant sh.occs n t ≡ b → (a || b) ≡ true → (same_id t.s n || same_id t.o n) ≡ true
    by true b x y z = by_first (same_id t.s n) (same_id t.o n) x
    by false true x y z =
        let (o, of, fit) = some_passing (λ o. fits o n t) sh.occs y in
        at_end o.inverse (and_parts (same_id o.predicate t.p) (same_id (near_end o.inverse t) n) fit).1
    by false false x y z = absurd (true≢false (sym z))

counts_moved : (r : Triple → Bool) (xs ys : List Triple) → IsPermutation xs ys → count_by r xs ≡ count_by r ys
counts_moved r xs ys moved =
    sym (ap (λ zs. count_by r zs) (filter_all (λ u. true) xs (λ u c. refl)))
    ∙ sym (count_order r (λ u. true) xs ys moved)
    ∙ ap (λ zs. count_by r zs) (filter_all (λ u. true) ys (λ u c. refl))

any_same : (q : Triple → Bool) (xs ys : List Triple) → ((u : Triple) → Contains xs u → Contains ys u) → list_any q xs ≡ true → list_any q ys ≡ true
any_same q [] ys into e = absurd (true≢false (sym e))
any_same q (x ∷ xs) ys into e = go (q x) refl e (λ h. any_same q xs ys (λ u c. into u (is_later x xs u c)) h)
  where
    go : (b : Bool) → q x ≡ b → (b || list_any q xs) ≡ true → (list_any q xs ≡ true → list_any q ys ≡ true) → list_any q ys ≡ true
    go true is h deeper = any_true q ys x (into x (is_first x xs)) is
    go false is h deeper = deeper h

-- ---- where all triples at the node are the same

module _ (g h : List Triple) (d : AreDistinct g) (e : AreDistinct h) (q : Triple → Bool) (same : (u : Triple) → q u ≡ true → Contains g u ↔ Contains h u) where
  -- of triples that pass a test both have the same, each as often
  same_items : (u : Triple) → Contains (filter q g) u ↔ Contains (filter q h) u
  same_items u = (
    (λ c. (let (held, passes) = in_filter q g u c in filter_has q h u ((same u passes).0 held) passes)),
    (λ c. (let (held, passes) = in_filter q h u c in filter_has q g u ((same u passes).1 held) passes)),
  )

  moved : IsPermutation (filter q g) (filter q h)
  moved = same_set (filter q g) (filter q h) (sift_apart q g d) (sift_apart q h e) same_items

module _ (g h : List Triple) (n : TermId) (d : AreDistinct g) (e : AreDistinct h) (same : (t : Triple) → (same_id t.s n || same_id t.o n) ≡ true → Contains g t ↔ Contains h t) where
  pub neigh_moved : IsPermutation (neigh g n) (neigh h n)
  neigh_moved = moved g h d e (λ t. same_id t.s n || same_id t.o n) same

  -- the order of the neighbourhood
  pub order_same : (terms : List Term) → neighbourhood terms g n ≡ neighbourhood terms h n
  order_same terms =
      (λ i. sorted_by_items (by_object terms) (object_total terms) (λ u. same_id u.s n) g h d e (object_tie terms n)
      (same_items g h d e (λ u. same_id u.s n) (λ u x. same u (by_first (same_id u.s n) (same_id u.o n) x))) i
      ++ filter (λ u. not (is_loop u)) (sorted_by_items (by_subject terms) (subject_total terms) (λ u. same_id u.o n) g h d e (subject_tie terms n)
      (same_items g h d e (λ u. same_id u.o n) (λ u x. same u (by_last (same_id u.s n) (same_id u.o n) x))) i))

-- ---- where those that a Shape reads are

module _ (g h : List Triple) (n : TermId) (d : AreDistinct g) (e : AreDistinct h) (sh : Shape) (same : (t : Triple) → is_read sh n t ≡ true → Contains g t ↔ Contains h t) where
  abbrev rel : Triple → Bool
  rel u = is_relevant sh.occs n u

  out_same : (u : Triple) → same_id u.s n ≡ true → Contains g u ↔ Contains h u
  out_same u x = same u (by_first (same_id u.s n) (rel u) x)

  rel_same : (u : Triple) → rel u ≡ true → Contains g u ↔ Contains h u
  rel_same u x = same u (by_last (same_id u.s n) (rel u) x)

  -- the relevant triples in order
  abbrev ends_out : List Term → List Triple → List Triple
  ends_out terms ts = sorted_by (by_object terms) (outs ts n)

  abbrev ends_in : List Term → List Triple → List Triple
  ends_in terms ts = sorted_by (by_subject terms) (ins ts n)

  parts : (terms : List Term) (ts : List Triple) → relevant_in_order terms ts sh n ≡ filter rel (ends_out terms ts) ++ filter (λ t. not (is_loop t)) (filter rel (ends_in terms ts))
  parts terms ts =
      filter-append rel (ends_out terms ts) (filter (λ t. not (is_loop t)) (ends_in terms ts))
      ∙ ap (λ zs. filter rel (ends_out terms ts) ++ zs) (filter_comm rel (λ t. not (is_loop t)) (ends_in terms ts))

  pub relevant_same : (terms : List Term) → relevant_in_order terms g sh n ≡ relevant_in_order terms h sh n
  relevant_same terms =
      parts terms g
      ∙ (λ i. sorted_passing (by_object terms) (object_total terms) (λ u. same_id u.s n) rel g h d e (object_tie terms n) (λ u x y. rel_same u y) i
      ++ filter (λ t. not (is_loop t)) (sorted_passing (by_subject terms) (subject_total terms) (λ u. same_id u.o n) rel g h d e (subject_tie terms n) (λ u x y. rel_same u y) i))
      ∙ sym (parts terms h)

  -- and in no order
  abbrev passes : Triple → Bool
  passes u = (same_id u.s n || same_id u.o n) && is_relevant sh.occs n u

  passes_same : (u : Triple) → passes u ≡ true → Contains g u ↔ Contains h u
  passes_same u x = rel_same u (and_parts (same_id u.s n || same_id u.o n) (rel u) x).1

  relevant_is : (ts : List Triple) → relevant sh.occs ts n ≡ filter passes ts
  relevant_is ts = two_filters (λ u. same_id u.s n || same_id u.o n) rel ts

  width_at : (plain : TermId → Option ExprId → Verdict) → width_of plain (Some sh) g n ≡ width_of plain (Some sh) h n
  width_at plain =
      (λ i. min (coarse_same sh n (relevant sh.occs g n) (relevant sh.occs h n) members counts at i) (fine_product_same sh n (relevant sh.occs g n) (relevant sh.occs h n) members counts at plain i))
    where
      members : (u : Triple) → Contains (relevant sh.occs g n) u ↔ Contains (relevant sh.occs h n) u
      members u = subst (λ xs. Contains xs u ↔ Contains (relevant sh.occs h n) u) (sym (relevant_is g))
          (subst (λ ys. Contains (filter passes g) u ↔ Contains ys u) (sym (relevant_is h)) (same_items g h d e passes passes_same u))

      counts : (q : Triple → Bool) → count_by q (relevant sh.occs g n) ≡ count_by q (relevant sh.occs h n)
      counts q =
          ap (λ xs. count_by q xs) (relevant_is g) ∙ counts_moved q (filter passes g) (filter passes h) (moved g h d e passes passes_same)
          ∙ sym (ap (λ xs. count_by q xs) (relevant_is h))

      at : (u : Triple) → Contains (relevant sh.occs g n) u → (same_id u.s n || same_id u.o n) ≡ true
      at u c = (in_filter (λ v. same_id v.s n || same_id v.o n) g u (in_filter (is_relevant sh.occs n) (neigh g n) u c).0).1

  -- the node is shut in both or in neither
  shut_there : IsShut g sh n → IsShut h sh n
  shut_there x = (x.0, any_same (λ u. not (is_relevant sh.occs n u)) (outs g n) (outs h n) (λ u c. (same_items g h d e (λ v. same_id v.s n) out_same u).0 c) x.1)

  shut_back : IsShut h sh n → IsShut g sh n
  shut_back x = (x.0, any_same (λ u. not (is_relevant sh.occs n u)) (outs h n) (outs g n) (λ u c. (same_items g h d e (λ v. same_id v.s n) out_same u).1 c) x.1)

  places_there : (terms : List Term) (hold fail : TermId → Option ExprId → Type 0) → HasPlaces hold fail g sh n (relevant_in_order terms g sh n) →
      HasPlaces hold fail h sh n (relevant_in_order terms h sh n)
  places_there terms hold fail m = record {
    open_to = λ shut. m.open_to (shut_back shut);
    places = m.places;
    allowed = subst (λ ts. AreAllowed hold fail sh n ts m.places) (relevant_same terms) m.allowed;
    spelled = m.spelled;
  }

module _ (g h : List Triple) (n : TermId) (d : AreDistinct g) (e : AreDistinct h) where
  pub width_same : (plain : TermId → Option ExprId → Verdict) (x : Option Shape) → HaveSameAt g h n x → width_of plain x g n ≡ width_of plain x h n
  width_same plain None same = refl
  width_same plain (Some sh) same = width_at g h n d e sh (same sh refl) plain

  pub match_same : (s : Schema) (terms : List Term) (view : Known) (lean : Lean) (x : Option Shape) → HaveSameAt g h n x → CanMatch s terms g view lean n x → CanMatch s terms h view lean n x
  match_same s terms view lean None same m = m
  match_same s terms view lean (Some sh) same m = places_there g h n d e sh (same sh refl) terms (MayHold s terms view lean) (MayFail s terms view lean) m

  pub shape_same : ShapesArePlaces → OrderIsWhole → (s : Schema) (terms : List Term) → IsLoaded s → (T : List Pair) (i : ShapeId) →
      HaveSameAt g h n (shape_at s i) → ShapeOk s terms g T n i → ShapeOk s terms h T n i
  shape_same law order s terms loaded T i same ok = by (shape_at s i) refl same
    where
      by : (x : Option Shape) → shape_at s i ≡ x → HaveSameAt g h n x → ShapeOk s terms h T n i
      by None is same_too = absurd (subst (λ z. ShapeHolds (Sat s terms T) g n z) is ok)
      by (Some sh) is same_too =
          (law s terms h (neighbourhood terms h n) T n i sh loaded is (order terms h n)).1
          (places_there g h n d e sh (same_too sh refl) terms (λ m v. SatValue (Sat s terms T m) v) (λ m v. ¬ SatValue (Sat s terms T m) v)
          ((law s terms g (neighbourhood terms g n) T n i sh loaded is (order terms g n)).0 ok))

-- a pair of the node needs the same pairs
pub needs_there : (g h : List Triple) (s : Schema) (p q : Pair) → HaveSameAt g h p.node (shape_at s p.shape) → Needs s g p q → Needs s h p q
needs_there g h s p q same n = record {
  shape = n.shape;
  is = n.is;
  occ = n.occ;
  of = n.of;
  triple = n.triple;
  held =
      (same n.shape n.is n.triple (by_last (same_id n.triple.s p.node) (is_relevant n.shape.occs p.node n.triple)
      (any_true (λ o. fits o p.node n.triple) n.shape.occs n.occ n.of n.fit))).0 n.held;
  fit = n.fit;
  end = n.end;
  sign = n.sign;
  stands = n.stands;
}
