-- What is read is spelled so.
use Rattle.std.proofs.Common.{ℕ, false, List, [], refl, subst, inl, inr}
use Rattle.rdf_cursor.specs.Ahead.{Ahead}
use Rattle.rdf_cursor.specs.Phrases.{Phrase, Is, ◌⨾◌, Many}
use Rattle.rdf_cursor.proofs.Soundness.{Meets, meets_give, meets_one, meets_bind, meets_either, meets_finish, meets_rule, meets_loop}
use Rattle.rdf_lex.specs.Tokens.{Spelled}
use Rattle.rdf_terms.specs.declared.terms.Term.{Term}
use Rattle.shape_map.specs.declared.items.Item.{Item}
use Rattle.term_tokens.specs.Scopes.{Scope}
use Rattle.term_tokens.specs.Terms.{iri_of, string_of, typed_of}
use Rattle.term_tokens.proofs.Literals as any
use Rattle.shape_map.specs.Meanings.{node_tags, node_tagged_of, blank_of}
use Rattle.shape_map.specs.Reading.{R, iri, literal, resource, node, verb, or_any, of_subjects, of_objects, pattern, triples, selector, target, wish, asked, item, added, behind, items, all_items, shape_map}
use Rattle.shape_map.specs.Grammar as g
use Rattle.shape_map.proofs.Places.{consumes_behind}

module _ (v : Scope) where
  iri_meets : (P : List ℕ → Ahead Spelled → Type 0) (ts : Ahead Spelled) → ((i : List ℕ) (r : Ahead Spelled) → Is (iri_of false v) i ts r → P i r) → Meets (iri v) P ts
  unfolding iri
  iri_meets P ts h = meets_one h

  literal_meets : (ts : Ahead Spelled) → Meets (literal v) (λ x r. g.Literal v x ts r) ts
  unfolding literal
  literal_meets ts = any.literal_meets node_tags (string_of false) node_tagged_of (typed_of false v) ts

  resource_meets : (ts : Ahead Spelled) → Meets (resource v) (λ x r. g.Resource v x ts r) ts
  unfolding resource
  resource_meets ts = any.resource_meets (iri v) (iri_of false v) blank_of ts (iri_meets _ ts (λ i r h. h))

  node_meets : (ts : Ahead Spelled) → Meets (node v) (λ x r. g.Node v x ts r) ts
  unfolding node
  node_meets ts = meets_either (meets_rule (literal_meets ts) (λ x r h. inl h)) (meets_either (meets_one (λ x r h. inr (inl h))) (meets_rule (resource_meets ts) (λ x r h. inr (inr h))))

  verb_meets : (ts : Ahead Spelled) → Meets (verb v) (λ p r. g.Verb v p ts r) ts
  unfolding verb
  verb_meets ts = meets_either (meets_bind (meets_one (λ w r h. meets_give (inl (refl, (w, h)))))) (meets_bind (iri_meets _ ts (λ i r h. meets_give (inr (i, refl, h)))))

  any_meets : (p : R Term) (P : Term → Phrase Spelled) → ((ts : Ahead Spelled) → Meets p (λ x r. P x ts r) ts) → (ts : Ahead Spelled) → Meets (or_any v p) (λ o r. g.OrAny v P o ts r) ts
  unfolding or_any
  any_meets p P each ts = meets_either (meets_bind (meets_one (λ w r h. meets_give (w, h)))) (meets_bind (meets_rule (each ts) (λ x r h. meets_give h)))

  subjects_meet : (ts : Ahead Spelled) → Meets (of_subjects v) (λ x r. g.OfSubjects v x ts r) ts
  unfolding of_subjects
  subjects_meet ts = meets_bind (meets_one (λ w m f. meets_bind (meets_rule (verb_meets m) (λ p n h. meets_bind (meets_rule (any_meets (node v) (g.Node v) node_meets n) (λ o r k.
      meets_give (p, o, refl, (m, (w, f), (n, h, k)))))))))

  objects_meet : (ts : Ahead Spelled) → Meets (of_objects v) (λ x r. g.OfObjects v x ts r) ts
  unfolding of_objects
  objects_meet ts = meets_bind (meets_rule (any_meets (resource v) (g.Resource v) resource_meets ts) (λ o m k. meets_bind (meets_rule (verb_meets m) (λ p n h. meets_bind (meets_one (λ w r f.
      meets_give (o, p, refl, (m, k, (n, h, (w, f))))))))))

  triples_meet : (ts : Ahead Spelled) → Meets (triples v) (λ x r. g.Triples v x ts r) ts
  unfolding triples pattern
  triples_meet ts = meets_bind (meets_one (λ w m o. meets_bind (meets_either
      (meets_rule (subjects_meet m) (λ x n h. meets_bind (meets_one (λ z r c. meets_give (m, (w, o), (n, inl h, (z, c)))))))
      (meets_rule (objects_meet m) (λ x n h. meets_bind (meets_one (λ z r c. meets_give (m, (w, o), (n, inr h, (z, c))))))))))

  selector_meets : (ts : Ahead Spelled) → Meets (selector v) (λ s r. g.Selector v s ts r) ts
  unfolding selector
  selector_meets ts = meets_either (meets_bind (meets_rule (triples_meet ts) (λ x r h. meets_give (inr (x, refl, h)))))
      (meets_bind (meets_rule (node_meets ts) (λ x r h. meets_give (inl (x, refl, h)))))

  target_meets : (ts : Ahead Spelled) → Meets (target v) (λ t r. g.Target v t ts r) ts
  unfolding target
  target_meets ts = meets_either (meets_bind (meets_one (λ w r h. meets_give (inl (refl, (w, h))))))
      (meets_either (meets_one (λ t r h. inr (inl h))) (meets_bind (iri_meets _ ts (λ i r h. meets_give (inr (inr (i, refl, h)))))))

  wish_meets : (ts : Ahead Spelled) → Meets (wish v) (λ a r. g.Wish v a.0 a.1 ts r) ts
  unfolding wish
  wish_meets ts = meets_either (meets_bind (meets_one (λ w m e. meets_bind (meets_rule (target_meets m) (λ t r h. meets_give (inr (refl, (m, (w, e), h))))))))
      (meets_bind (meets_rule (target_meets ts) (λ t r h. meets_give (inl (refl, h)))))

  asked_meets : (ts : Ahead Spelled) → Meets (asked v) (λ a r. g.Asked v a.0 a.1 ts r) ts
  unfolding asked
  asked_meets ts = meets_either (meets_bind (meets_one (λ w r h. meets_give (inl (refl, refl, (w, h))))))
      (meets_either (meets_bind (meets_one (λ i r h. meets_give (inr (inl (i, refl, refl, h))))))
      (meets_bind (meets_one (λ w m e. meets_rule (wish_meets m) (λ a r h. inr (inr (m, (w, e), h)))))))

module _ (nodes labels : Scope) where
  item_meets : (ts : Ahead Spelled) → Meets (item nodes labels) (λ x r. g.Item nodes labels x ts r) ts
  unfolding item
  item_meets ts = meets_bind (meets_rule (selector_meets nodes ts) (λ s m h. meets_bind (meets_rule (asked_meets labels m) (λ a r k. meets_give (s, a.0, a.1, refl, (m, h, k))))))

  added_meets : (so : List Item) (ts : Ahead Spelled) → Meets (added nodes labels so) (λ xs r. g.Added nodes labels so xs ts r) ts
  unfolding added
  added_meets so ts = meets_bind (meets_rule (item_meets ts) (λ x r h. meets_give (x, refl, h)))

  behind_meets : (so : List Item) (ts : Ahead Spelled) → Meets (behind nodes labels so) (λ xs r. g.Behind nodes labels so xs ts r) ts
  unfolding behind
  behind_meets so ts = meets_bind (meets_one (λ w m c. meets_rule (added_meets so m) (λ xs r h. (m, (w, c), h))))

  items_meet : (ts : Ahead Spelled) → Meets (items nodes labels []) (λ xs r. (first : List Item) × (g.Added nodes labels [] first ⨾ Many (g.Behind nodes labels) first xs) ts r) ts
  unfolding items
  items_meet ts = meets_bind (meets_rule (added_meets [] ts) (λ f m h.
      meets_rule (meets_loop _ _ (g.Behind nodes labels) (consumes_behind nodes labels) behind_meets f m) (λ xs r k. (f, (m, h, k)))))

  pub map_meets : (ts : Ahead Spelled) → Meets (shape_map nodes labels) (λ xs r. g.ShapeMap nodes labels xs ts) ts
  unfolding shape_map all_items
  map_meets ts = meets_bind (meets_either
      (meets_rule (items_meet ts) (λ xs r h. meets_finish (λ e. inr (subst (λ (r : Ahead Spelled). (first : List Item) ×
      (g.Added nodes labels [] first ⨾ Many (g.Behind nodes labels) first xs) ts r) e h))))
      (meets_give (meets_finish (λ e. inl (refl, e)))))
