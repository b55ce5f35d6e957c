-- The associations that a map selects.
use Rattle.std.proofs.Common.{◌≡◌, ◌≤◌, ◌∙◌, ap, sym, subst, refl, List, [], ◌∷◌, ◌++◌, inl, inr, ◌⊎◌, length, map}
use Rattle.std.specs.Prelude.{Contains, Some, slice_get}
use Rattle.std.proofs.lemmas.List.Elements.{Contains-append_cases, Contains-append_left, Contains-append_right}
use Rattle.rdf_terms.specs.declared.terms.Term.{Term}
use Rattle.rdf_terms.specs.declared.terms.TermId.{TermId}
use Rattle.rdf_terms.specs.declared.terms.Triple.{Triple}
use Rattle.schema_tree.specs.Loaded.{IsTarget}
use Rattle.schema_tree.specs.declared.schema.Schema.{Schema}
use Rattle.lists.proofs.Members.{from_map, in_one, in_rest, is_first, is_later, not_in_none}
use Rattle.shape_map.specs.declared.error.MapError.{MapError}
use Rattle.shape_map.specs.declared.items.Item.{Item}
use Rattle.shape_map.specs.declared.items.Selector.{Selector}
use Rattle.shape_map.specs.declared.items.Selector.TheVariants.{Node, Triples}
use Rattle.shape_map.specs.declared.resolve.Association.{Association}
use Rattle.shape_map.specs.Selection.{AreNodes, Ends, Outcome, Selects, all, association, at_focus, max_associations, more, refused, selected, stops, written}

outcomes_differ : (e : MapError) (xs : List Association) (new : List Term) → refused e ≡ selected xs new → ⊥
outcomes_differ e xs new h = cc

same_associations : (xs ys : List Association) (a b : List Term) → selected xs a ≡ selected ys b → xs ≡ ys
same_associations xs ys a b h = cc

module _ (s : Schema) (graph : List Triple) where
  -- the node is the one that is written, or is at the focus of a triple
  abbrev pub IsNodeOf : List Term → Selector → TermId → Type 0
  IsNodeOf terms (Node t) n = slice_get terms n.0 ≡ Some t
  IsNodeOf terms (Triples x) n = (triple : Triple) × Contains graph triple × (at_focus x.focus triple ≡ n)

  -- the association comes from one of the items
  pub record From (terms : List Term) (items : List Item) (a : Association) : Type 0 where
    pub item : Item
    pub listed : Contains items item
    pub target : a.target ≡ item.target
    pub declared : IsTarget s a.target a.expr
    pub node : IsNodeOf terms item.selector a.node

  -- the node that is written is the one of some association
  pub record Gives (terms : List Term) (associations : List Association) (t : Term) : Type 0 where
    pub association : Association
    pub listed : Contains associations association
    pub node : slice_get terms association.node.0 ≡ Some t

  nodes_are : (terms : List Term) (x : Selector) (ns : List TermId) → AreNodes terms graph x ns → (n : TermId) → Contains ns n → IsNodeOf terms x n
  nodes_are terms (Node t) ns (m, is, e) n h = subst (λ z. slice_get terms z.0 ≡ Some t) (in_one m n (subst (λ z. Contains z n) e h)) is
  nodes_are terms (Triples x) ns (sorted, exactly) n h = let f = (exactly n).0 h in (f.triple, f.held, f.focus)

  -- an association of an item comes from it
  selects_from : (terms : List Term) (i : Item) (is : List Item) (xs : List Association) → Selects s graph terms i xs → (a : Association) → Contains xs a → From terms (i ∷ is) a
  selects_from terms i is xs h a held =
      let (n, listed, e) = from_map (association i h.expr) h.nodes a (subst (λ z. Contains z a) h.made held) in
      record {
        item = i;
        listed = is_first i is;
        target = ap (λ (z : Association). z.target) (sym e);
        declared = subst (λ (z : Association). IsTarget s z.target z.expr) e h.declared;
        node = subst (λ (z : Association). IsNodeOf terms i.selector z.node) e (nodes_are terms i.selector h.nodes h.found n listed);
      }

  later_from : (new : List Term) (i : Item) (is : List Item) (a : Association) → From new is a → From new (i ∷ is) a
  later_from new i is a f = record { item = f.item; listed = is_later i is f.item f.listed; target = f.target; declared = f.declared; node = f.node }

  -- the node that is written in an item is the one of its association
  selects_gives : (terms : List Term) (i : Item) (xs : List Association) → Selects s graph terms i xs → (t : Term) → Contains (written i.selector) t → Gives terms xs t
  selects_gives terms i xs h t held = go i.selector h.found held
    where
      go : (x : Selector) → AreNodes terms graph x h.nodes → Contains (written x) t → Gives terms xs t
      go (Node u) (n, is, e) one = record {
        association = association i h.expr n;
        listed = subst (λ z. Contains z (association i h.expr n)) (sym (h.made ∙ ap (map (association i h.expr)) e)) (is_first (association i h.expr n) []);
        node = is ∙ ap (λ z. Some z) (in_one u t one);
      }
      go (Triples x) found one = absurd (not_in_none t one)

  -- what is known where the map ends with associations
  pub record Known (terms : List Term) (so : List Association) (items : List Item) (xs : List Association) : Type 0 where
    pub before : (a : Association) → Contains so a → Contains xs a
    pub from : (a : Association) → Contains xs a → Contains so a ⊎ From terms items a
    pub gives : (i : Item) → Contains items i → (t : Term) → Contains (written i.selector) t → Gives terms xs t
    pub few : length so ≤ max_associations → length xs ≤ max_associations

  gives_more : (terms : List Term) (xs ys : List Association) (t : Term) → ((a : Association) → Contains xs a → Contains ys a) → Gives terms xs t → Gives terms ys t
  gives_more terms xs ys t among g = record { association = g.association; listed = among g.association g.listed; node = g.node }

  goes : (terms : List Term) (so : List Association) (items : List Item) (o : Outcome) (xs : List Association) (new : List Term) → o ≡ selected xs new →
      Ends s graph terms so items o → Known terms so items xs
  goes terms so items o xs new e all =
      let associations : so ≡ xs = same_associations so xs terms new e in
      record {
        before = λ a h. subst (λ z. Contains z a) associations h;
        from = λ a h. inl (subst (λ z. Contains z a) (sym associations) h);
        gives = λ i h t k. absurd (not_in_none i h);
        few = λ h. subst (λ z. length z ≤ max_associations) associations h;
      }
  goes terms so items o xs new e (stops {e = f} r) = absurd (outcomes_differ f xs new e)
  goes terms so items o xs new e (more {i = i} {is = is} ys selects few rest) =
      let k = goes terms (so ++ ys) is o xs new e rest in
      record {
        before = λ a h. k.before a (Contains-append_left so ys a h);
        from = λ a h. elim (k.from a h) [
          | inl first ↦ elim (Contains-append_cases so ys a first) [
            | inl there ↦ inl there
            | inr own ↦ inr (selects_from terms i is ys selects a own)
          ]
          | inr later ↦ inr (later_from terms i is a later)
        ];
        gives = λ j h t held. elim (in_rest i is j h) [
          | inl same ↦ gives_more terms ys xs t (λ a own. k.before a (Contains-append_right so ys a own))
              (selects_gives terms i ys selects t (subst (λ z. Contains (written z.selector) t) (sym same) held))
          | inr later ↦ k.gives j later t held
        ];
        few = λ h. k.few few;
      }

  pub known : (terms : List Term) (items : List Item) (xs : List Association) → Ends s graph terms [] items (selected xs terms) → Known terms [] items xs
  known terms items xs ends = goes terms [] items (selected xs terms) xs terms refl ends

  pub comes_from : (terms : List Term) (items : List Item) (xs : List Association) → Known terms [] items xs → (a : Association) → Contains xs a → From terms items a
  comes_from terms items xs k a h = elim (k.from a h) [
    | inl there ↦ absurd (not_in_none a there)
    | inr f ↦ f
  ]
