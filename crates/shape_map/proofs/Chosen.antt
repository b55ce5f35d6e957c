-- How the items of a map end: in one way, item by item.
use Rattle.std.proofs.Common.{◌≡◌, ℕ, ◌+◌, ◌≤◌, ◌<◌, List, [], ◌∷◌, ◌++◌, Some, refl, sym, ap, subst, ◌∙◌, map, length, drop, get_or, arith, length-append}
use Rattle.std.proofs.lemmas.List.{length-map}
use Rattle.std.proofs.Math.ListN.{drop_of_length-le}
use Rattle.std.specs.Prelude.{◌↔◌, Contains, Err, IfOk, Ok, Result, slice_get}
use Rattle.std.specs.List.Sorted.{IsStrictlySortedBy}
use Rattle.lists.specs.Distinct.{AreDistinct}
use Rattle.rdf_terms.specs.Order.{compare_at}
use Rattle.rdf_terms.specs.declared.terms.Term.{Term}
use Rattle.rdf_terms.specs.declared.terms.TermId.{TermId}
use Rattle.rdf_terms.specs.declared.terms.Triple.{Triple}
use Rattle.rdf_terms.proofs.Orders.{id_total}
use Rattle.schema_tree.specs.Labels.{labels_of}
use Rattle.schema_tree.specs.Loaded.{IsTarget, HasTarget}
use Rattle.schema_tree.proofs.OneTarget.{target_once}
use Rattle.schema_tree.specs.declared.schema.ExprId.{ExprId}
use Rattle.schema_tree.specs.declared.schema.Schema.{Schema}
use Rattle.schema_tree.specs.declared.schema.Target.{Target}
use Rattle.schema_tree.specs.declared.schema.Target.TheVariants as target
use Rattle.shape_map.specs.declared.error.MapError.{MapError}
use Rattle.shape_map.specs.declared.error.MapError.TheVariants as error
use Rattle.shape_map.specs.declared.items.Item.{Item}
use Rattle.shape_map.specs.declared.items.Selector.{Selector}
use Rattle.shape_map.specs.declared.items.Selector.TheVariants.{Node, Triples}
use Rattle.shape_map.specs.declared.items.TriplePattern.{TriplePattern}
use Rattle.shape_map.specs.declared.resolve.Association.{Association}
use Rattle.shape_map.specs.Selection.{max_associations, IsFocus, AreNodes, association, Selects, refusal_of, IsUndeclared, Refuses, UnlessMemory, Outcome, selected, refused, Ends, all, more, stops}
use Rattle.lists.proofs.Ordered.{sorted_one}
use Rattle.lists.proofs.Members.{items_left}

module _ (s : Schema) (g : List Triple) (once : AreDistinct (labels_of s.labels)) (terms : List Term) (distinct : AreDistinct terms) where
  nodes_one : (x : Selector) (ns ms : List TermId) → AreNodes terms g x ns → AreNodes terms g x ms → ns ≡ ms
  nodes_one (Node t) ns ms (n, h, e) (m, k, f) =
      let i : n.0 ≡ m.0 = distinct n.0 m.0 t h k in
      let same : n ≡ m = λ j. record { 0 = i j } in
      e ∙ ap (λ (z : TermId). z ∷ []) same ∙ sym f
  nodes_one (Triples x) ns ms (a, h) (b, k) = sorted_one (compare_at terms) (id_total terms) ns ms a b (λ n c. (k n).1 ((h n).0 c)) (λ n c. (h n).1 ((k n).0 c))

  selects_one : (i : Item) (xs ys : List Association) → Selects s g terms i xs → Selects s g terms i ys → xs ≡ ys
  selects_one i xs ys h k =
      let expr : h.expr ≡ k.expr = target_once s once i.target h.expr k.expr h.declared k.declared in
      let nodes : h.nodes ≡ k.nodes = nodes_one i.selector h.nodes k.nodes h.found k.found in
      h.made ∙ ap (λ (v : List TermId). map (association i h.expr) v) nodes ∙ ap (λ (e : ExprId). map (association i e) k.nodes) expr ∙ sym k.made

  -- an item that is done is not refused
  refuses_none : (so : List Association) (i : Item) (xs : List Association) (e : MapError) → Selects s g terms i xs → length (so ++ xs) ≤ max_associations → Refuses s g terms so i e → ⊥
  refuses_none so i xs error.NotUtf8 h short r = r
  refuses_none so i xs (error.Syntax at) h short r = r
  refuses_none so i xs (error.Prefix at) h short r = r
  refuses_none so i xs error.Memory h short r = r
  refuses_none so i xs error.Full h short r = r
  refuses_none so i xs (error.Label l) h short (never, e) = never (h.expr, h.declared)
  refuses_none so i xs error.NoStart h short (never, e) = never (h.expr, h.declared)
  refuses_none so i xs error.Many h short (ys, k, long) =
      let n : length (so ++ ys) ≤ max_associations = subst (λ (v : List Association). length (so ++ v) ≤ max_associations) (selects_one i xs ys h k) short in
      absurd (omega arith)

  -- an item is refused in one way
  undeclared_one : (so : List Association) (i : Item) (e f : MapError) → IsUndeclared s i.target f → Refuses s g terms so i e → e ≡ f
  undeclared_one so i error.NotUtf8 f u r = absurd r
  undeclared_one so i (error.Syntax at) f u r = absurd r
  undeclared_one so i (error.Prefix at) f u r = absurd r
  undeclared_one so i error.Memory f u r = absurd r
  undeclared_one so i error.Full f u r = absurd r
  undeclared_one so i (error.Label l) f u r = r.1 ∙ sym u.1
  undeclared_one so i error.NoStart f u r = r.1 ∙ sym u.1
  undeclared_one so i error.Many f u (xs, h, long) = absurd (u.0 (h.expr, h.declared))

  many_one : (so : List Association) (i : Item) (f : MapError) → Refuses s g terms so i error.Many → Refuses s g terms so i f → error.Many ≡ f
  many_one so i error.NotUtf8 h r = absurd r
  many_one so i (error.Syntax at) h r = absurd r
  many_one so i (error.Prefix at) h r = absurd r
  many_one so i error.Memory h r = absurd r
  many_one so i error.Full h r = absurd r
  many_one so i (error.Label l) (xs, h, long) r = absurd (r.0 (h.expr, h.declared))
  many_one so i error.NoStart (xs, h, long) r = absurd (r.0 (h.expr, h.declared))
  many_one so i error.Many h r = refl

  refusal_one : (so : List Association) (i : Item) (e f : MapError) → Refuses s g terms so i e → Refuses s g terms so i f → e ≡ f
  refusal_one so i error.NotUtf8 f r q = absurd r
  refusal_one so i (error.Syntax at) f r q = absurd r
  refusal_one so i (error.Prefix at) f r q = absurd r
  refusal_one so i error.Memory f r q = absurd r
  refusal_one so i error.Full f r q = absurd r
  refusal_one so i (error.Label l) f r q = sym (undeclared_one so i f (error.Label l) r q)
  refusal_one so i error.NoStart f r q = sym (undeclared_one so i f error.NoStart r q)
  refusal_one so i error.Many f r q = many_one so i f r q

  item_parts : (i j : Item) (is js : List Item) → i ∷ is ≡ j ∷ js → (i ≡ j) × (is ≡ js)
  item_parts i j is js e = (cc, cc)

  ends_ones : (so : List Association) (is js : List Item) (a b : Outcome) → is ≡ js → Ends s g terms so is a → Ends s g terms so js b → a ≡ b
  ends_ones so is js a b e all all = refl
  ends_ones so is js a b e all (more ys k short rest) = absurd cc
  ends_ones so is js a b e all (stops r) = absurd cc
  ends_ones so is js a b e (more xs h short rest) all = absurd cc
  ends_ones so is js a b e (stops r) all = absurd cc
  ends_ones so is js a b e (more {i = i} {is = us} xs h short rest) (more {i = j} {is = vs} ys k long others) =
      let p = item_parts i j us vs e in
      let same : xs ≡ ys = selects_one i xs ys h (subst (λ (z : Item). Selects s g terms z ys) (sym p.0) k) in
      ends_ones (so ++ xs) us vs a b p.1 rest (subst (λ (z : List Association). Ends s g terms (so ++ z) vs b) (sym same) others)
  ends_ones so is js a b e (more {i = i} {is = us} xs h short rest) (stops {i = j} {is = vs} {e = f} r) =
      let p = item_parts i j us vs e in
      absurd (refuses_none so i xs f h short (subst (λ (z : Item). Refuses s g terms so z f) (sym p.0) r))
  ends_ones so is js a b e (stops {i = i} {is = us} {e = f} r) (more {i = j} {is = vs} ys k long others) =
      let p = item_parts i j us vs e in
      absurd (refuses_none so j ys f k long (subst (λ (z : Item). Refuses s g terms so z f) p.0 r))
  ends_ones so is js a b e (stops {i = i} {is = us} {e = f} r) (stops {i = j} {is = vs} {e = h} q) =
      let p = item_parts i j us vs e in
      ap (λ (z : MapError). refused z) (refusal_one so i f h r (subst (λ (z : Item). Refuses s g terms so z h) (sym p.0) q))

  -- the items end in one way
  pub ends_one : (so : List Association) (is : List Item) (a b : Outcome) → Ends s g terms so is a → Ends s g terms so is b → a ≡ b
  ends_one so is a b h k = ends_ones so is is a b refl h k

-- this holds, unless memory ran out, and with it what follows
pub unless : (e : MapError) {P Q : Type 0} → (P → Q) → UnlessMemory e P → UnlessMemory e Q
unless error.Memory f h = tt
unless error.NotUtf8 f h = f h
unless (error.Syntax at) f h = f h
unless (error.Prefix at) f h = f h
unless (error.Label l) f h = f h
unless error.NoStart f h = f h
unless error.Many f h = f h
unless error.Full f h = f h

module _ (s : Schema) (g : List Triple) (terms : List Term) where
  -- an item whose target is not declared, or that has too many associations
  pub undeclared_refuses : (so : List Association) (i : Item) (e : MapError) → IsUndeclared s i.target e → Refuses s g terms so i e
  undeclared_refuses so i e (never, is) = subst (λ (z : MapError). Refuses s g terms so i z) (sym is) (by i.target never refl)
    where
      by : (t : Target) → (¬ HasTarget s i.target) → i.target ≡ t → Refuses s g terms so i (refusal_of t)
      by target.Start never e = (never, ap refusal_of (sym e))
      by (target.Label l) never e = (never, ap refusal_of (sym e))

  selects_of : (i : Item) (x : ExprId) (ns : List TermId) → IsTarget s i.target x → AreNodes terms g i.selector ns → Selects s g terms i (map (association i x) ns)
  selects_of i x ns declared found = record { expr = x; nodes = ns; declared = declared; found = found; made = refl }

  pub many_refuses : (so : List Association) (i : Item) (x : ExprId) (ns : List TermId) → IsTarget s i.target x → AreNodes terms g i.selector ns →
      max_associations < length so + length ns → Refuses s g terms so i error.Many
  many_refuses so i x ns declared found long =
      let n = length-append so (map (association i x) ns) in
      let m = length-map ns (association i x) in
      (map (association i x) ns, selects_of i x ns declared found, omega arith)

-- one node that is written
pub one_found : (g : List Triple) (terms : List Term) (t : Term) (n : TermId) (ns : List TermId) → slice_get terms n.0 ≡ Some t → ns ≡ n ∷ [] → AreNodes terms g (Node t) ns
one_found g terms t n ns is e = (n, is, e)

-- those that a pattern selects
pub triples_found : {X E : Type 0} (items : X → List TermId) (g : List Triple) (terms : List Term) (s : Selector) (x : TriplePattern) (r : Result X E) →
    s ≡ Triples x → IfOk r (λ v. IsStrictlySortedBy (compare_at terms) (items v))
    → IfOk r (λ v. (n : TermId) → Contains (items v) n ↔ IsFocus terms g x n) → IfOk r (λ v. AreNodes terms g s (items v))
triples_found items g terms s x (Ok v) e sorted exactly = subst (λ (z : Selector). AreNodes terms g z (items v)) (sym e) (sorted, exactly)
triples_found items g terms s x (Err f) e sorted exactly = tt

-- what comes of the items that are left comes of all
abbrev pub GoesOn : Schema → List Triple → List Term → List Item → List Association → List Item → Type 0
GoesOn s g terms is so left = (o : Outcome) → Ends s g terms so left o → Ends s g terms [] is o

module _ (s : Schema) (g : List Triple) (terms : List Term) (is : List Item) where
  pub goes_on : (so now : List Association) (k : ℕ) (i : Item) → k < length is → i ≡ get_or is k i → GoesOn s g terms is so (drop k is)
      → ((xs : List Association) × Selects s g terms i xs × (now ≡ so ++ xs) × (length now ≤ max_associations)) → GoesOn s g terms is now (drop (k + 1) is)
  goes_on so now k i h e goes (xs, sel, same, short) o rest =
      goes o (subst (λ (v : List Item). Ends s g terms so v o) (sym (items_left is k i h e))
      (more xs sel (subst (λ (v : List Association). length v ≤ max_associations) same short) (subst (λ (v : List Association). Ends s g terms v (drop (k + 1) is) o) same rest)))

  pub refused_at : (so : List Association) (k : ℕ) (i : Item) (e : MapError) → k < length is → i ≡ get_or is k i → GoesOn s g terms is so (drop k is) → UnlessMemory e (Refuses s g terms so i e)
      → UnlessMemory e (Ends s g terms [] is (refused e))
  refused_at so k i e h same goes r = unless e (λ q. goes (refused e) (subst (λ (v : List Item). Ends s g terms so v (refused e)) (sym (items_left is k i h same)) (stops q))) r

  pub all_done : (so : List Association) (k : ℕ) → length is ≤ k → GoesOn s g terms is so (drop k is) → Ends s g terms [] is (selected so terms)
  all_done so k h goes = goes (selected so terms) (subst (λ (v : List Item). Ends s g terms so v (selected so terms)) (sym (drop_of_length-le is h)) all)
