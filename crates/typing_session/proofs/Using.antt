-- The uses of Shapes, and the pairs that need a pair: those to which the uses of its Shape lead back.
use Rattle.std.proofs.Common.{◌≡◌, ◌≢◌, ◌∙◌, ℕ, zero, suc, ◌<◌, ◌≤◌, ◌+◌, ◌⊎◌, ◌++◌, inl, inr, List, [], ◌∷◌, refl, arith, sym, ap, subst, Bool, true, false, not, map, length, cond, filter, take, get_or}
use Rattle.std.proofs.lemmas.Bool.{and_parts, cases_eq, cases_lt, eq-eqb, eqb-true}
use Rattle.std.proofs.lemmas.List.{length-append, take_more}
use Rattle.std.proofs.lemmas.List.Elements.{Contains-append_cases, Contains-append_left, Contains-append_right}
use Rattle.std.proofs.lemmas.List.Sorted.{Contains-permutation, IsPermutation-sym}
use Rattle.std.specs.Cmp.Derive.{both_true}
use Rattle.std.specs.List.{flat_map}
use Rattle.std.specs.Prelude.{◌↔◌, Contains, Option, Some, None, slice_get, slice_set, nat_eq, option_map}
use Rattle.demand.specs.declared.links.Link.{Link}
use Rattle.demand.specs.Links.{AreLinks, AreLinksOf, IsLink}
use Rattle.demand.specs.Needed.{arcs_by}
use Rattle.demand.proofs.Listed.{zip_at, zip_back}
use Rattle.graph_index.specs.Contents.{ins_by, outs_by}
use Rattle.lists.proofs.Beside.{beside, beside_back, same_length}
use Rattle.lists.proofs.Filters.{filter_has, in_filter}
use Rattle.lists.proofs.Members.{from_flat_map, from_map, in_flat_map, in_map, not_in_none}
use Rattle.lists.proofs.Ordered.{sorted_same}
use Rattle.rdf_terms.specs.declared.terms.Term.{Term}
use Rattle.rdf_terms.specs.declared.terms.TermId.{TermId}
use Rattle.rdf_terms.specs.declared.terms.Triple.{Triple}
use Rattle.rdf_terms.specs.Graphs.{ins, outs, same_id}
use Rattle.rdf_terms.specs.Order.{by_object, by_subject}
use Rattle.rdf_terms.proofs.SameTerms.{same_is}
use Rattle.removal_laws.proofs.Known.{set_here, set_other}
use Rattle.schema_tree.specs.declared.schema.ExprId.{ExprId}
use Rattle.schema_tree.specs.declared.schema.Pair.{Pair}
use Rattle.schema_tree.specs.declared.schema.Schema.{Schema}
use Rattle.schema_tree.specs.declared.schema.ShapeId.{ShapeId}
use Rattle.schema_tree.specs.Edges.{StandsInValue}
use Rattle.schema_tree.specs.Entries.{pair_of}
use Rattle.schema_tree.specs.Loaded.{IsLoaded}
use Rattle.schema_tree.specs.Matches.{near_end, other_end}
use Rattle.schema_tree.specs.Needs.{Needs}
use Rattle.schema_tree.proofs.Strata.{stands_there}
use Rattle.typing_session.specs.declared.uses.Use.{Use}
use Rattle.typing_session.specs.Uses.{AreEmptyLists, AreFiled, AreUsers, AreUses, AreUsesBelow, AreUsesByValue, AreWithin, FilesUse, IsUse, arcs_to, use_of, user_at, users_by, uses_of, with_value}

pub got_within : {X : Type 0} (xs : List X) (i : ℕ) (x : X) → slice_get xs i ≡ Some x → i < length xs
got_within [] i x e = cc
got_within (y ∷ ys) zero x e = omega arith
got_within (y ∷ ys) (suc i) x e = let l = got_within ys i x e in omega (arith, l)

pub some_is : {X : Type 0} (x y : X) → Some x ≡ Some y → x ≡ y
some_is x y e = cc

-- ---- all uses

module _ (s : Schema) (links : List (List Link)) (are : AreLinks s links) (i : ShapeId) (own : List Link) (at : slice_get links i.0 ≡ Some own) where
  uses_to : (u : Use) → Contains (flat_map (uses_of i) own) u → (u.shape ≡ i) × IsUse s u
  uses_to u c =
      let (sh, is) = zip_back (AreLinksOf s) s.shapes links are i.0 own at in
      let zipped : AreLinksOf s sh own = zip_at (AreLinksOf s) s.shapes links are i.0 sh own is at in
      let (l, held, d) = from_flat_map (uses_of i) own u c in
      let (o, of, link) = beside_back (IsLink s) sh.occs own zipped l held in
      let (j, among, same) = from_map (use_of i l.occ) l.shapes u d in
      let (sign, st) = (link.shapes j).0 among in
      let made : IsUse s (use_of i l.occ j) = record {
        in_shape = sh;
        is = is;
        of = subst (λ z. Contains sh.occs z) (sym link.occ) of;
        sign = sign;
        stands = subst (λ z. StandsInValue s j z.value sign) (sym link.occ) st;
      } in
      subst (λ z. (z.shape ≡ i) × IsUse s z) same (refl, made)

  uses_from : (u : Use) → u.shape ≡ i → IsUse s u → Contains (flat_map (uses_of i) own) u
  uses_from u shape h =
      let is : slice_get s.shapes i.0 ≡ Some h.in_shape = subst (λ j. slice_get s.shapes j.0 ≡ Some h.in_shape) shape h.is in
      let zipped : AreLinksOf s h.in_shape own = zip_at (AreLinksOf s) s.shapes links are i.0 h.in_shape own is at in
      let (l, held, link) = beside (IsLink s) h.in_shape.occs own zipped u.occ h.of in
      let stands : Contains l.shapes u.value = (link.shapes u.value).1 (h.sign, h.stands) in
      let made : use_of i l.occ u.value ≡ u = (λ k. record { value = u.value; shape = sym shape k; occ = link.occ k }) in
      in_flat_map (uses_of i) own l u held (subst (λ z. Contains (uses_of i l) z) made (in_map (use_of i l.occ) l.shapes u.value stands))

shape_is : (i j : ShapeId) → i.0 ≡ j.0 → i ≡ j
shape_is i j e = λ k. record { 0 = e k }

pub uses_none : (s : Schema) (found : List Use) → found ≡ [] → AreUsesBelow s 0 found
uses_none s found is u = ((λ c. absurd (not_in_none u (subst (λ xs. Contains xs u) is c))), (λ (lt, h). absurd (omega (arith, lt))))

pub uses_more : (s : Schema) (links : List (List Link)) → AreLinks s links → (k : ℕ) (own : List Link) → slice_get links k ≡ Some own →
    (old new : List Use) → AreUsesBelow s k old → new ≡ old ++ flat_map (uses_of (record { 0 = k })) own → AreUsesBelow s (k + 1) new
uses_more s links are k own at old new below is u = (
  (λ c. elim (Contains-append_cases old (flat_map (uses_of (record { 0 = k })) own) u (subst (λ xs. Contains xs u) is c)) [
    | inl o ↦ (let (lt, h) = (below u).0 o in (omega (arith, lt), h))
    | inr m ↦ (let (shape, h) = uses_to s links are (record { 0 = k }) own at u m in
        let e : u.shape.0 ≡ k = ap (λ j. j.0) shape in (omega (arith, e), h))
  ]),
  (λ (lt, h). subst (λ xs. Contains xs u) (sym is) (elim (cases_lt u.shape.0 k) [
    | inl less ↦ Contains-append_left old (flat_map (uses_of (record { 0 = k })) own) u ((below u).1 (less, h))
    | inr ge ↦ (let e : u.shape.0 ≡ k = omega (arith, lt, ge) in
        Contains-append_right old (flat_map (uses_of (record { 0 = k })) own) u (uses_from s links are (record { 0 = k }) own at u (shape_is u.shape (record { 0 = k }) e) h))
  ])),
)

pub uses_all : (s : Schema) (links : List (List Link)) → AreLinks s links → (k : ℕ) (found : List Use) → length links ≤ k → AreUsesBelow s k found → AreUses s found
uses_all s links are k found le below u = (
  (λ c. ((below u).0 c).1),
  (λ h. (below u).1 (let l = got_within s.shapes u.shape.0 h.in_shape h.is in let e = same_length (AreLinksOf s) s.shapes links are in omega (arith, l, e, le), h)),
)

-- the values are Shapes of the schema
pub value_there : (s : Schema) → IsLoaded s → (i : ShapeId) (x : Option ExprId) (sign : Bool) → StandsInValue s i x sign → i.0 < length s.shapes
value_there s loaded i None sign h = absurd h
value_there s loaded i (Some d) sign h = stands_there s loaded i d sign h

pub uses_within : (s : Schema) → IsLoaded s → (found : List Use) → AreUses s found → AreWithin (length s.shapes) found
uses_within s loaded found are u c = let h = (are u).0 c in value_there s loaded u.value u.occ.value h.sign h.stands

-- ---- filed by their values

pub get_map : {V W : Type 0} (f : V → W) (xs : List V) (j : ℕ) → slice_get (map f xs) j ≡ option_map f (slice_get xs j)
get_map f [] j = refl
get_map f (x ∷ xs) zero = refl
get_map f (x ∷ xs) (suc j) = get_map f xs j

get_at : {V : Type 0} (xs : List V) (j : ℕ) (d : V) → j < length xs → slice_get xs j ≡ Some (get_or xs j d)
get_at [] j d lt = absurd (omega (arith, lt))
get_at (x ∷ xs) zero d lt = refl
get_at (x ∷ xs) (suc j) d lt = get_at xs j d (omega (arith, lt))

-- a list at a place is written anew
pub files_at : {V : Type 0} (f : V → List Use) (xs new : List V) (u : Use) (d v w : V) → u.value.0 < length xs → w ≡ get_or xs u.value.0 d → f v ≡ f w ++ u ∷ [] → new ≡ slice_set xs u.value.0 v →
    FilesUse (map f xs) u (map f new)
files_at f xs new u d v w lt read written set = record {
  own = λ us is.
      (let at : Some (f (get_or xs u.value.0 d)) ≡ Some us = sym (get_map f xs u.value.0 ∙ ap (option_map f) (get_at xs u.value.0 d lt)) ∙ is in
      let same : f w ≡ us = ap f read ∙ some_is (f (get_or xs u.value.0 d)) us at in
      get_map f new u.value.0 ∙ ap (λ zs. option_map f (slice_get zs u.value.0)) set ∙ ap (option_map f) (set_here xs u.value.0 (get_or xs u.value.0 d) v (get_at xs u.value.0 d lt))
      ∙ ap (λ z. Some z) (written ∙ ap (λ z. z ++ u ∷ []) same));
  others = λ j apart.
      get_map f new j ∙ ap (λ zs. option_map f (slice_get zs j)) set ∙ ap (option_map f) (set_other xs u.value.0 j v apart) ∙ sym (get_map f xs j);
}

filter_last : (p : Use → Bool) (xs : List Use) (x : Use) → filter p (xs ++ x ∷ []) ≡ cond (p x) (filter p xs ++ x ∷ []) (filter p xs)
filter_last p [] x = go (p x)
  where
    go : (b : Bool) → cond b (x ∷ []) [] ≡ cond b ([] ++ x ∷ []) []
    go true = refl
    go false = refl
filter_last p (y ∷ ys) x = go (p y) (p x) (filter_last p ys x)
  where
    go : (a b : Bool) → filter p (ys ++ x ∷ []) ≡ cond b (filter p ys ++ x ∷ []) (filter p ys) →
        cond a (y ∷ filter p (ys ++ x ∷ [])) (filter p (ys ++ x ∷ [])) ≡ cond b (cond a (y ∷ filter p ys) (filter p ys) ++ x ∷ []) (cond a (y ∷ filter p ys) (filter p ys))
    go true true e = ap (λ zs. y ∷ zs) e
    go true false e = ap (λ zs. y ∷ zs) e
    go false true e = e
    go false false e = e

pub filed_none : {V : Type 0} (f : V → List Use) (lists : List V) (count : ℕ) → AreEmptyLists (map f lists) → AreFiled [] (map f lists)
filed_none f lists count empty j lt = empty j lt

pub filed_more : (found : List Use) (i : ℕ) (d : Use) (old new : List (List Use)) → i < length found → length new ≡ length old → AreFiled (take i found) old → FilesUse old (get_or found i d) new →
    (get_or found i d).value.0 < length old → AreFiled (take (i + 1) found) new
filed_more found i d old new inside same h files within j lt =
    subst (λ us. slice_get new j ≡ Some (with_value j us)) (sym (take_more found i d inside)) (by (cases_eq j (get_or found i d).value.0))
  where
    one : Use
    one = get_or found i d

    was : slice_get old j ≡ Some (with_value j (take i found))
    was = h j (omega (arith, lt, same))

    other : ¬ (nat_eq one.value.0 j ≡ true) → nat_eq one.value.0 j ≡ false
    other n = go (nat_eq one.value.0 j) n
      where
        go : (b : Bool) → ¬ (b ≡ true) → b ≡ false
        go true k = absurd (k refl)
        go false k = refl

    by : (j ≡ one.value.0) ⊎ (j ≢ one.value.0) → slice_get new j ≡ Some (with_value j (take i found ++ one ∷ []))
    by (inl e) =
        ap (slice_get new) e ∙ files.own (with_value j (take i found)) (sym (ap (slice_get old) e) ∙ was)
        ∙ ap (λ us. Some us) (sym (filter_last (λ u. nat_eq u.value.0 j) (take i found) one
        ∙ ap (λ b. cond b (with_value j (take i found) ++ one ∷ []) (with_value j (take i found))) (eq-eqb one.value.0 j (sym e))))
    by (inr ne) =
        files.others j ne ∙ was
        ∙ ap (λ us. Some us) (sym (filter_last (λ u. nat_eq u.value.0 j) (take i found) one
        ∙ ap (λ b. cond b (with_value j (take i found) ++ one ∷ []) (with_value j (take i found))) (other (λ t. ne (sym (eqb-true one.value.0 j t))))))

pub empty_more : {V : Type 0} (f : V → List Use) (xs ys : List V) (v : V) → ys ≡ xs ++ v ∷ [] → f v ≡ [] → AreEmptyLists (map f xs) → AreEmptyLists (map f ys)
empty_more {V} f xs ys v is none empty j lt = subst (λ zs. slice_get (map f zs) j ≡ Some []) (sym is) (go xs empty j (subst (λ zs. j < length (map f zs)) is lt))
  where
    go : (zs : List V) → AreEmptyLists (map f zs) → (k : ℕ) → k < length (map f (zs ++ v ∷ [])) → slice_get (map f (zs ++ v ∷ [])) k ≡ Some []
    go [] e zero l = ap (λ z. Some z) none
    go [] e (suc k) l = absurd (omega (arith, l))
    go (z ∷ zs) e zero l = e 0 (omega arith)
    go (z ∷ zs) e (suc k) l = go zs (λ m n. e (suc m) (omega (arith, n))) k (omega (arith, l))

pub one_longer : {V : Type 0} (xs ys : List V) (v : V) (n : ℕ) → ys ≡ xs ++ v ∷ [] → length xs ≡ n → length ys ≡ n + 1
one_longer xs ys v n is same = ap length is ∙ (length-append xs (v ∷ []) ∙ ap (λ k. k + 1) same)

-- ---- the pairs that need a pair

id_same : (a b : TermId) → a ≡ b → same_id a b ≡ true
id_same a b e = eq-eqb a.0 b.0 (ap (λ x. x.0) e)

-- the triples with the node at the other end are those that the occurrence fits from there
opposite : (b : Bool) (t : Triple) → near_end (not b) t ≡ other_end b t
opposite true t = refl
opposite false t = refl

module _ (terms : List Term) (g : List Triple) (n r : TermId) where
  arc_parts : (inverse : Bool) (t : Triple) → Contains (arcs_by terms g n r inverse) t → Contains g t × (t.p ≡ r) × (near_end inverse t ≡ n)
  arc_parts true t c =
      let (d, e) = in_filter (λ u. same_id u.p r) (ins g n) t (Contains-permutation _ _ t (IsPermutation-sym _ _ (sorted_same (by_subject terms) (ins_by g n r))) c) in
      let (f, h) = in_filter (λ u. same_id u.o n) g t d in
      (f, same_is t.p r e, same_is t.o n h)
  arc_parts false t c =
      let (d, e) = in_filter (λ u. same_id u.p r) (outs g n) t (Contains-permutation _ _ t (IsPermutation-sym _ _ (sorted_same (by_object terms) (outs_by g n r))) c) in
      let (f, h) = in_filter (λ u. same_id u.s n) g t d in
      (f, same_is t.p r e, same_is t.s n h)

  arc_there : (inverse : Bool) (t : Triple) → Contains g t → t.p ≡ r → near_end inverse t ≡ n → Contains (arcs_by terms g n r inverse) t
  arc_there true t held p at =
      Contains-permutation _ _ t (sorted_same (by_subject terms) (ins_by g n r))
      (filter_has (λ u. same_id u.p r) (ins g n) t (filter_has (λ u. same_id u.o n) g t held (id_same t.o n at)) (id_same t.p r p))
  arc_there false t held p at =
      Contains-permutation _ _ t (sorted_same (by_object terms) (outs_by g n r))
      (filter_has (λ u. same_id u.p r) (outs g n) t (filter_has (λ u. same_id u.s n) g t held (id_same t.s n at)) (id_same t.p r p))

module _ (s : Schema) (terms : List Term) (g : List Triple) (found : List Use) (are : AreUses s found) (q : Pair) where
  user_to : (p : Pair) → Contains (flat_map (users_by terms g q.node) (with_value q.shape.0 found)) p → Needs s g p q
  user_to p c =
      let (u, held, d) = from_flat_map (users_by terms g q.node) (with_value q.shape.0 found) p c in
      let (of, value) = in_filter (λ w. nat_eq w.value.0 q.shape.0) found u held in
      let h = (are u).0 of in
      let (t, arc, same) = from_map (user_at u) (arcs_to terms g q.node u.occ) p d in
      let (in_g, pred, end) = arc_parts terms g q.node u.occ.predicate (not u.occ.inverse) t arc in
      let shape : u.value ≡ q.shape = shape_is u.value q.shape (eqb-true u.value.0 q.shape.0 value) in
      let need : Needs s g (user_at u t) q = record {
        shape = h.in_shape;
        is = h.is;
        occ = u.occ;
        of = h.of;
        triple = t;
        held = in_g;
        fit = both_true (id_same u.occ.predicate t.p (sym pred)) (id_same (near_end u.occ.inverse t) (near_end u.occ.inverse t) refl);
        end = sym end ∙ opposite u.occ.inverse t;
        sign = h.sign;
        stands = subst (λ j. StandsInValue s j u.occ.value h.sign) shape h.stands;
      } in
      subst (λ z. Needs s g z q) same need

  user_from : (p : Pair) → Needs s g p q → Contains (flat_map (users_by terms g q.node) (with_value q.shape.0 found)) p
  user_from p need =
      let u : Use = record { value = q.shape; shape = p.shape; occ = need.occ } in
      let h : IsUse s u = record { in_shape = need.shape; is = need.is; of = need.of; sign = need.sign; stands = need.stands } in
      let (pred, near) = and_parts (same_id need.occ.predicate need.triple.p) (same_id (near_end need.occ.inverse need.triple) p.node) need.fit in
      let arc : Contains (arcs_to terms g q.node need.occ) need.triple = arc_there terms g q.node need.occ.predicate (not need.occ.inverse) need.triple need.held
      (sym (same_is need.occ.predicate need.triple.p pred)) (opposite need.occ.inverse need.triple ∙ sym need.end) in
      let node : near_end need.occ.inverse need.triple ≡ p.node = same_is (near_end need.occ.inverse need.triple) p.node near in
      let made : user_at u need.triple ≡ p = ap (λ m. pair_of m p.shape) node in
      in_flat_map (users_by terms g q.node) (with_value q.shape.0 found) u p
      (filter_has (λ w. nat_eq w.value.0 q.shape.0) found u ((are u).1 h) (eq-eqb q.shape.0 q.shape.0 refl))
      (subst (λ z. Contains (users_by terms g q.node u) z) made (in_map (user_at u) (arcs_to terms g q.node need.occ) need.triple arc))

-- by the uses of its Shape
pub users_are : (s : Schema) (terms : List Term) (g : List Triple) (lists : List (List Use)) → AreUsesByValue s lists → (q : Pair) (own : List Use) →
    slice_get lists q.shape.0 ≡ Some own → (xs : List Pair) →
    xs ≡ flat_map (users_by terms g q.node) own → AreUsers s g q xs
users_are s terms g lists by q own at xs is p =
    subst (λ ys. Contains ys p ↔ Needs s g p q) (sym (is ∙ ap (flat_map (users_by terms g q.node)) same)) (user_to s terms g by.found by.uses q p, user_from s terms g by.found by.uses q p)
  where
    same : own ≡ with_value q.shape.0 by.found
    same = some_is own (with_value q.shape.0 by.found) (sym at ∙ by.filed q.shape.0 (got_within lists q.shape.0 own at))

-- no pair needs one whose Shape is none of the schema's
pub no_users : (s : Schema) → IsLoaded s → (g : List Triple) (lists : List (List Use)) → AreUsesByValue s lists → (q : Pair) →
    slice_get lists q.shape.0 ≡ None → (xs : List Pair) → xs ≡ [] → AreUsers s g q xs
no_users s loaded g lists by q none xs is p = (
  (λ c. absurd (not_in_none p (subst (λ ys. Contains ys p) is c))),
  (λ need.
      (let lt = value_there s loaded q.shape need.occ.value need.sign need.stands in
      let count = by.count in
      let there = by.filed q.shape.0 (omega (arith, lt, count)) in
      let e : Some (with_value q.shape.0 by.found) ≡ None = sym there ∙ none in absurd (cc))),
)
