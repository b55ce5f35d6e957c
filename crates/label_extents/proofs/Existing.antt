-- Each graph has its nodes in order, and each schema its extents in it.
use Rattle.std.proofs.Common.{◌≡◌, ◌∙◌, ℕ, Bool, true, false, List, [], ◌∷◌, ap, filter, inl, inr, map, refl, subst, sym, true≢false, ◌⊎◌}
use borrow.Author.Tests.{eqb-true}
use Rattle.std.specs.Prelude.{◌↔◌, Contains}
use Rattle.std.specs.List.{flat_map}
use Rattle.std.specs.List.Sorted.{IsStrictlySortedBy}
use Rattle.std.specs.Ordering.{is_eq, ordering_reverse}
use Rattle.std.specs.declared.cmp.Ordering.{Ordering}
use Rattle.std.specs.declared.cmp.Ordering.TheVariants.{Less, Equal, Greater}
use Rattle.std.proofs.lemmas.List.Kept.{IsStrictlySortedBy-filter}
use Rattle.lists.proofs.Filters.{filter_has, in_filter}
use Rattle.lists.proofs.Members.{in_rest, is_first, is_later, not_in_none}
use Rattle.lists.proofs.Quantifiers.{all_at, all_of}
use Rattle.rdf_terms.proofs.Orders.{id_total, ids_tie}
use Rattle.rdf_terms.specs.Order.{compare_at}
use Rattle.rdf_terms.specs.declared.terms.Term.{Term}
use Rattle.rdf_terms.specs.declared.terms.TermId.{TermId}
use Rattle.rdf_terms.specs.declared.terms.Triple.{Triple}
use Rattle.schema_documents.specs.declared.label.Label.{Label}
use Rattle.schema_tree.specs.declared.schema.Answer.{Answer}
use Rattle.schema_tree.specs.declared.schema.ExprId.{ExprId}
use Rattle.schema_tree.specs.declared.schema.Pair.{Pair}
use Rattle.schema_tree.specs.declared.schema.Schema.{Schema}
use Rattle.schema_tree.specs.Edges.{IsStratified, IsStratum}
use Rattle.schema_tree.specs.Laws.{AnswersAlike, SatIsDecided, StrataAreStratified, TypingExists}
use Rattle.schema_tree.specs.Loaded.{IsLoaded}
use Rattle.schema_tree.specs.Satisfies.{Sat}
use Rattle.schema_tree.specs.Truths.{IsTruth}
use Rattle.schema_tree.specs.Typings.{HoldsEnds, IsTheTyping}
use Rattle.label_extents.specs.Extents.{AreExtents, AreInOrder, IsEnd, IsMember, IsNode, member}
use Rattle.label_extents.specs.Laws.{ExtentsExist}
use Rattle.label_extents.proofs.Listed.{listed}

-- ---- the nodes of a graph

module _ (terms : List Term) where
  abbrev order : TermId → TermId → Ordering
  order = compare_at terms

  tied_one : (a b : TermId) → order a b ≡ Equal → a ≡ b
  tied_one a b tied = let e : a.0 ≡ b.0 = eqb-true a.0 b.0 (ids_tie terms a b ∙ ap is_eq tied) in λ i. record { 0 = e i }

  -- the list has what the other has, and one node more
  abbrev HasOneMore : TermId → List TermId → List TermId → Type 0
  HasOneMore n xs ys = (m : TermId) → Contains ys m ↔ ((n ≡ m) ⊎ Contains xs m)

  first_more : (n : TermId) (xs : List TermId) → HasOneMore n xs (n ∷ xs)
  first_more n xs m = (
    λ c. in_rest n xs m c,
    λ h. elim h [
      | inl is ↦ subst (λ z. Contains (n ∷ xs) z) is (is_first n xs)
      | inr later ↦ is_later n xs m later
    ],
  )

  held_more : (n : TermId) (xs : List TermId) → Contains xs n → HasOneMore n xs xs
  held_more n xs held m = (
    λ c. inr c,
    λ h. elim h [
      | inl is ↦ subst (λ z. Contains xs z) is held
      | inr later ↦ later
    ],
  )

  later_more : (n x : TermId) (xs ys : List TermId) → HasOneMore n xs ys → HasOneMore n (x ∷ xs) (x ∷ ys)
  later_more n x xs ys more m = (there, back)
    where
      there : Contains (x ∷ ys) m → (n ≡ m) ⊎ Contains (x ∷ xs) m
      there c = elim (in_rest x ys m c) [
        | inl is ↦ inr (subst (λ z. Contains (x ∷ xs) z) is (is_first x xs))
        | inr later ↦ elim ((more m).0 later) [
          | inl is ↦ inl is
          | inr held ↦ inr (is_later x xs m held)
        ]
      ]

      back : (n ≡ m) ⊎ Contains (x ∷ xs) m → Contains (x ∷ ys) m
      back (inl is) = is_later x ys m ((more m).1 (inl is))
      back (inr c) = elim (in_rest x xs m c) [
        | inl is ↦ subst (λ z. Contains (x ∷ ys) z) is (is_first x ys)
        | inr held ↦ is_later x ys m ((more m).1 (inr held))
      ]

  -- a node goes to its place
  with_one : (n : TermId) (xs : List TermId) → IsStrictlySortedBy order xs → (ys : List TermId) × IsStrictlySortedBy order ys × HasOneMore n xs ys
  unfolding IsStrictlySortedBy
  with_one n [] up = (n ∷ [], (tt, tt), first_more n [])
  with_one n (x ∷ xs) up = by (order n x) refl (with_one n xs up.1)
    where
      below : order x n ≡ Less → (ys : List TermId) → HasOneMore n xs ys → (y : TermId) → Contains ys y → order x y ≡ Less
      below less ys more y c = elim ((more y).0 c) [
        | inl is ↦ subst (λ z. order x z ≡ Less) is less
        | inr held ↦ all_at (λ z. order x z ≡ Less) xs y up.0 held
      ]

      by : (o : Ordering) → order n x ≡ o → ((ys : List TermId) × IsStrictlySortedBy order ys × HasOneMore n xs ys) → (ys : List TermId) × IsStrictlySortedBy order ys × HasOneMore n (x ∷ xs) ys
      by Less e rest = (
        n ∷ x ∷ xs,
        ((e, all_of (λ z. order n z ≡ Less) xs (λ y c. (id_total terms).trans n x y e (all_at (λ z. order x z ≡ Less) xs y up.0 c))), up),
        first_more n (x ∷ xs),
      )
      by Equal e rest = (x ∷ xs, up, held_more n (x ∷ xs) (subst (λ z. Contains (x ∷ xs) z) (sym (tied_one n x e)) (is_first x xs)))
      by Greater e (ys, rises, more) = (
        x ∷ ys,
        (all_of (λ z. order x z ≡ Less) ys (below ((id_total terms).antisymm x n ∙ ap ordering_reverse e) ys more), rises),
        later_more n x xs ys more,
      )

  pub nodes_exist : (g : List Triple) → (nodes : List TermId) × AreInOrder terms (IsNode g) nodes
  unfolding IsStrictlySortedBy
  nodes_exist [] = ([], record { sorted = tt; exactly = λ n. (λ c. absurd (not_in_none n c), λ h. absurd (not_in_none h.0 h.1)) })
  nodes_exist (t ∷ g) =
      let (nodes, are) = nodes_exist g in
      let (one, up, first) = with_one t.s nodes are.sorted in
      let (both, rises, second) = with_one t.o one up in
      (both, record { sorted = rises; exactly = λ n. (there t g nodes one both are first second n, back t g nodes one both are first second n) })
    where
      there : (t : Triple) (g : List Triple) (nodes one both : List TermId) → AreInOrder terms (IsNode g) nodes → HasOneMore t.s nodes one →
          HasOneMore t.o one both → (n : TermId) → Contains both n → IsNode (t ∷ g) n
      there t g nodes one both are first second n c = elim ((second n).0 c) [
        | inl is ↦ (t, is_first t g, inr is)
        | inr held ↦ elim ((first n).0 held) [
          | inl is ↦ (t, is_first t g, inl is)
          | inr before ↦ (let (u, of, end) = (are.exactly n).0 before in (u, is_later t g u of, end))
        ]
      ]

      back : (t : Triple) (g : List Triple) (nodes one both : List TermId) → AreInOrder terms (IsNode g) nodes → HasOneMore t.s nodes one →
          HasOneMore t.o one both → (n : TermId) → IsNode (t ∷ g) n → Contains both n
      back t g nodes one both are first second n (u, held, end) = by (in_rest t g u held) end
        where
          of_first : IsEnd t n → Contains both n
          of_first (inl is) = (second n).1 (inr ((first n).1 (inl is)))
          of_first (inr is) = (second n).1 (inl is)

          by : (t ≡ u) ⊎ Contains g u → IsEnd u n → Contains both n
          by (inl is) e = of_first (subst (λ z. IsEnd z n) (sym is) e)
          by (inr later) e = (second n).1 (inr ((first n).1 (inr ((are.exactly n).1 (u, later, e)))))

-- ---- the extents of a schema

is_left : {A B : Type 0} → A ⊎ B → Bool
is_left (inl a) = true
is_left (inr b) = false

-- the laws of typings
pub record AreLaws : Type 0 where
  pub exist : TypingExists
  pub alike : AnswersAlike
  pub decided : SatIsDecided
  pub stratified : StrataAreStratified

module _ (laws : AreLaws) (s : Schema) (terms : List Term) (g : List Triple) (f : List ℕ) (loaded : IsLoaded s) (strata : IsStratum s f) (nodes : List TermId)
    (are : AreInOrder terms (IsNode g) nodes) (T : List Pair) (typing : IsTheTyping s terms g f nodes T) where
  stratified : IsStratified s f
  stratified = laws.stratified s f strata

  ends : HoldsEnds nodes g
  ends t c = ((are.exactly t.s).1 (t, c, inl refl), (are.exactly t.o).1 (t, c, inr refl))

  true_there : (n : TermId) (e : ExprId) → Contains nodes n → Sat s terms T n e → IsTruth s terms g n e true
  true_there n e held sat = record {
    exists = λ U. (let (W, whole) = laws.exist s terms g f U loaded stratified in (f, W, record { strata = strata; complete = whole }));
    exact = λ h U W holds in_u other. (λ t. (laws.alike s terms g f h nodes U T W stratified (laws.stratified s h other.strata) ends holds typing other.complete n e held in_u).0 sat, λ q. refl);
  }

  satisfied : (n : TermId) (e : ExprId) → Contains nodes n → IsTruth s terms g n e true → Sat s terms T n e
  satisfied n e held truth = (truth.exact f nodes T ends held (record { strata = strata; complete = typing })).0 refl

  holds_at : ExprId → TermId → Bool
  holds_at e n = is_left (laws.decided s terms T n e)

  left_holds : (n : TermId) (e : ExprId) → holds_at e n ≡ true → Sat s terms T n e
  unfolding holds_at is_left
  left_holds n e h = by (laws.decided s terms T n e) h
    where
      by : (d : Sat s terms T n e ⊎ (¬ Sat s terms T n e)) → is_left d ≡ true → Sat s terms T n e
      by (inl sat) t = sat
      by (inr fails) t = absurd (true≢false (sym t))

  holds_left : (n : TermId) (e : ExprId) → Sat s terms T n e → holds_at e n ≡ true
  unfolding holds_at is_left
  holds_left n e sat = by (laws.decided s terms T n e)
    where
      by : (d : Sat s terms T n e ⊎ (¬ Sat s terms T n e)) → is_left d ≡ true
      by (inl held) = refl
      by (inr fails) = absurd (fails sat)

  in_order : (e : ExprId) → AreInOrder terms (IsMember s terms g e) (filter (holds_at e) nodes)
  in_order e = record {
    sorted = IsStrictlySortedBy-filter (compare_at terms) (holds_at e) nodes are.sorted;
    exactly = λ n. (
      λ c. (let (held, is) = in_filter (holds_at e) nodes n c in record { node = (are.exactly n).0 held; satisfied = true_there n e held (left_holds n e is) }),
      λ m. (let held = (are.exactly n).1 m.node in filter_has (holds_at e) nodes n held (holds_left n e (satisfied n e held m.satisfied))),
    );
  }

  pub extents : (xs : List Answer) × AreExtents s terms g xs
  extents = (
    flat_map (λ (d : Label ×
        ExprId). map (member d.0) (filter (holds_at d.1) nodes)) s.labels,
    listed terms (IsMember s terms g) (λ d. filter (holds_at d.1) nodes) s.labels (λ d c. in_order d.1),
  )

pub extents_exist : AreLaws → ExtentsExist
extents_exist laws s terms g f loaded strata =
    let (nodes, are) = nodes_exist terms g in
    let (T, typing) = laws.exist s terms g f nodes loaded (laws.stratified s f strata) in
    extents laws s terms g f loaded strata nodes are T typing
