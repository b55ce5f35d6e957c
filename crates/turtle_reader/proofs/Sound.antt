-- What is read is spelled so.
use Rattle.std.proofs.Common.{◌≡◌, Bool, ℕ, zero, suc, List, [], Result, Ok, Err, refl, subst, inl, inr}
use Rattle.rdf_cursor.specs.Ahead.{Ahead}
use Rattle.rdf_cursor.specs.Phrases.{Is, Many}
use Rattle.rdf_cursor.specs.Readers.{give, either}
use Rattle.rdf_cursor.proofs.Soundness.{Meets, meets_give, meets_one, meets_bind, meets_either, meets_finish, meets_rule, meets_refuse, meets_loop}
use Rattle.rdf_lex.specs.Tokens.{Spelled}
use Rattle.rdf_terms.specs.declared.terms.Term.{Term}
use Rattle.graph_index.specs.declared.loading.TermTriple.{TermTriple}
use Rattle.rdf_cursor.specs.declared.stops.Fault.{Fault}
use Rattle.rdf_cursor.specs.declared.symbols.Symbol.{Symbol}
use Rattle.rdf_cursor.specs.declared.symbols.Symbol.TheVariants as symbol
use Rattle.turtle_reader.specs.Meanings.{numbered}
use Rattle.term_tokens.specs.Terms.{iri_of, blank_of, string_of, tagged_of, typed_of, tags}
use Rattle.term_tokens.proofs.Literals as any
use Rattle.turtle_reader.specs.Reading.{R, settled, next_node, iri_ref, iri, literal, resource, simple, verb, one_object, comma, objects, pair, semicolon, predicates, node, in_cell, member, next_member, cells, collection, object, subject, about_subject, listed, about_node, triples, ended, prefix_declaration, base_declaration, behind, statement, further, document}
use Rattle.turtle_reader.specs.States.{names_in, DocumentScope, added}
use Rattle.rdf_cursor.specs.Symbols.{is_symbol, is_any}
use Rattle.rdf_terms.specs.Vocabulary.{rdf_rest}
use Rattle.turtle_reader.specs.Grammar as g
use Rattle.rdf_cursor.specs.Marks.{Mark}
use Rattle.turtle_reader.proofs.Places.{local_object, consumes_object, consumes_comma, consumes_semicolon, consumes_next_member, consumes_further}

meets_settled : {A : Type 0} (a : Result A Fault) (P : A → Ahead Spelled → Type 0) (ts : Ahead Spelled) → ((x : A) → a ≡ Ok x → P x ts) → Meets (settled a) P ts
meets_settled (Ok x) P ts h = meets_give (h x refl)
meets_settled (Err f) P ts h = meets_refuse

module _ (k : Bool) where
  next_meets : (v : DocumentScope) (P : Term × DocumentScope → Ahead Spelled → Type 0) (ts : Ahead Spelled) → ((x : Term × DocumentScope) → g.IsNext k v x.0 x.1 → P x ts) → Meets (next_node k v) P ts
  unfolding next_node
  next_meets v P ts h = meets_settled (numbered k v) P ts h

  iri_meets : (v : DocumentScope) (P : List ℕ → Ahead Spelled → Type 0) (ts : Ahead Spelled) → ((i : List ℕ) (r : Ahead Spelled) → Is (iri_of k (names_in v)) i ts r → P i r) → Meets (iri k v) P ts
  unfolding iri
  iri_meets v P ts h = meets_one h

  literal_meets : (v : DocumentScope) (ts : Ahead Spelled) → Meets (literal k v) (λ x r. g.Literal k v x ts r) ts
  unfolding literal
  literal_meets v ts = any.literal_meets tags (string_of k) tagged_of (typed_of k (names_in v)) ts

  resource_meets : (v : DocumentScope) (ts : Ahead Spelled) → Meets (resource k v) (λ x r. g.Resource k v x ts r) ts
  unfolding resource
  resource_meets v ts = any.resource_meets (iri k v) (iri_of k (names_in v)) (blank_of k) ts (iri_meets v _ ts (λ i r h. h))

  simple_meets : (v : DocumentScope) (ts : Ahead Spelled) → Meets (simple k v) (λ x r. g.Simple k v x ts r) ts
  unfolding simple
  simple_meets v ts = meets_either (meets_rule (literal_meets v ts) (λ x r h. inl h)) (meets_either (meets_one (λ x r h. inr (inl h))) (meets_rule (resource_meets v ts) (λ x r h. inr (inr h))))

  verb_meets : (v : DocumentScope) (ts : Ahead Spelled) → Meets (verb k v) (λ p r. g.Verb k v p ts r) ts
  unfolding verb
  verb_meets v ts = meets_either (meets_bind (meets_one (λ w r h. meets_give (inl (refl, (w, h)))))) (iri_meets v _ ts (λ i r h. inr h))

  module _ (d : ℕ) (each : (v : DocumentScope) (ts : Ahead Spelled) → Meets (object k d v) (λ x r. g.Object k d v x.0 x.1 ts r) ts) where
    one_meets : (s : Term) (p : List ℕ) (v : DocumentScope) (ts : Ahead Spelled) → Meets (one_object k (object k d) s p v) (λ w r. g.OneObject k (g.Object k d) s p v w ts r) ts
    unfolding one_object
    one_meets s p v ts = meets_bind (meets_rule (each v ts) (λ x r h. meets_give (x.0, x.1, refl, h)))

    comma_meets : (s : Term) (p : List ℕ) (v : DocumentScope) (ts : Ahead Spelled) → Meets (comma k (object k d) s p v) (λ w r. g.Another k (g.Object k d) s p v w ts r) ts
    unfolding comma
    comma_meets s p v ts = meets_bind (meets_one (λ w m c. meets_rule (one_meets s p v m) (λ x r h. (m, (w, c), h))))

    objects_meets : (s : Term) (p : List ℕ) (v : DocumentScope) (ts : Ahead Spelled) → Meets (objects k (object k d) s p v) (λ w r. g.Objects k (g.Object k d) s p v w ts r) ts
    unfolding objects
    objects_meets s p v ts = meets_bind (meets_rule (one_meets s p v ts) (λ u m h.
        meets_rule (meets_loop _ _ (g.Another k (g.Object k d) s p) (consumes_comma k (object k d) (local_object k d) (consumes_object k d) s p) (comma_meets s p) u m) (λ w r i. (u, (m, h, i)))))

    pair_meets : (s : Term) (v : DocumentScope) (ts : Ahead Spelled) → Meets (pair k (object k d) s v) (λ w r. g.Pair k (g.Object k d) s v w ts r) ts
    unfolding pair
    pair_meets s v ts = meets_bind (meets_rule (verb_meets v ts) (λ p m h. meets_rule (objects_meets s p v m) (λ w r i. (p, (m, h, i)))))

    semicolon_meets : (s : Term) (v : DocumentScope) (ts : Ahead Spelled) → Meets (semicolon k (object k d) s v) (λ w r. g.Further k (g.Object k d) s v w ts r) ts
    unfolding semicolon
    semicolon_meets s v ts = meets_bind (meets_one (λ w m c. meets_either (meets_rule (pair_meets s v m) (λ x r h. (m, (w, c), inl h))) (meets_give (m, (w, c), inr (refl, refl)))))

    predicates_meets : (s : Term) (v : DocumentScope) (ts : Ahead Spelled) → Meets (predicates k (object k d) s v) (λ w r. g.Predicates k (g.Object k d) s v w ts r) ts
    unfolding predicates
    predicates_meets s v ts = meets_bind (meets_rule (pair_meets s v ts) (λ u m h.
        meets_rule (meets_loop _ _ (g.Further k (g.Object k d) s) (consumes_semicolon k (object k d) (local_object k d) (consumes_object k d) s) (semicolon_meets s) u m) (λ w r i. (u, (m, h, i)))))

    inside_meets : (x : Term) (v : DocumentScope) (ts : Ahead Spelled) →
        Meets (either (is_symbol symbol.CloseBracket) (give v) (predicates k (object k d) x v)) (λ u r. g.Inside k (g.Object k d) x v u ts r) ts
    inside_meets x v ts = meets_either (meets_give (inl (refl, refl))) (meets_rule (predicates_meets x v ts) (λ u r h. inr h))

    node_meets : (v : DocumentScope) (ts : Ahead Spelled) → Meets (node k (object k d) v) (λ x r. g.Node k (g.Object k d) v x.0 x.1 ts r) ts
    unfolding node
    node_meets v ts =
        meets_bind (meets_one (λ w m o. meets_bind (next_meets v _ m (λ y n. meets_bind (meets_rule (inside_meets y.0 y.1 m)
        (λ u q i. meets_bind (meets_one (λ z r c. meets_give (y.1, n, (m, (w, o), (q, i, (z, c))))))))))))

    cell_meets : (cell : Term) (v : DocumentScope) (ts : Ahead Spelled) → Meets (in_cell k (object k d) cell v) (λ x r. (cell ≡ x.0) × g.InCell k (g.Object k d) cell v x.1 ts r) ts
    unfolding in_cell
    cell_meets cell v ts = meets_bind (meets_rule (each v ts) (λ x r h. meets_give (refl, (x.0, x.1, refl, h))))

    in_named : (v u : DocumentScope) (y x : Term) (w : DocumentScope) (ts r : Ahead Spelled) → g.IsNext k v y u → (y ≡ x) × g.InCell k (g.Object k d) y u w ts r → g.Member k (g.Object k d) v x w ts r
    in_named v u y x w ts r n (e, h) = subst (λ (z : Term). g.Member k (g.Object k d) v z w ts r) e (u, n, h)

    member_meets : (v : DocumentScope) (ts : Ahead Spelled) → Meets (member k (object k d) v) (λ x r. g.Member k (g.Object k d) v x.0 x.1 ts r) ts
    unfolding member
    member_meets v ts = meets_bind (next_meets v _ ts (λ y n. meets_rule (cell_meets y.0 y.1 ts) (λ x r h. in_named v y.1 y.0 x.0 x.1 ts r n h)))

    follows : (a : Term × DocumentScope) (u : DocumentScope) (y x : Term) (w : DocumentScope) (ts r : Ahead Spelled) → g.IsNext k a.1 y u
        → (y ≡ x) × g.InCell k (g.Object k d) y (added a.0 rdf_rest y u) w ts r → g.Following k (g.Object k d) a (x, w) ts r
    follows a u y x w ts r n (e, h) = subst (λ (z : Term). g.Following k (g.Object k d) a (z, w) ts r) e (u, n, h)

    next_member_meets : (a : Term × DocumentScope) (ts : Ahead Spelled) → Meets (next_member k (object k d) a) (λ b r. g.Following k (g.Object k d) a b ts r) ts
    unfolding next_member
    next_member_meets a ts = meets_bind (next_meets a.1 _ ts (λ y n. meets_rule (cell_meets y.0 _ ts) (λ x r h. follows a y.1 y.0 x.0 x.1 ts r n h)))

    cells_meets : (v : DocumentScope) (ts : Ahead Spelled) → Meets (cells k (object k d) v) (λ x r. g.Cells k (g.Object k d) v x.0 x.1 ts r) ts
    unfolding cells
    cells_meets v ts = meets_bind (meets_rule (member_meets v ts) (λ f m h.
        meets_bind (meets_rule (meets_loop _ _ (g.Following k (g.Object k d)) (consumes_next_member k (object k d) (local_object k d) (consumes_object k d)) next_member_meets f m) (λ l n i.
        meets_bind (meets_one (λ z r c. meets_give (f, l, refl, refl, (m, h, (n, i, (z, c))))))))))

    collection_meets : (v : DocumentScope) (ts : Ahead Spelled) → Meets (collection k (object k d) v) (λ x r. g.Collection k (g.Object k d) v x.0 x.1 ts r) ts
    unfolding collection
    collection_meets v ts =
        meets_bind (meets_one (λ w m o. meets_either (meets_bind (meets_one (λ z r c. meets_give (m, (w, o), inl (refl, refl, (z, c)))))) (meets_rule (cells_meets v m) (λ x r h. (m, (w, o), inr h)))))

  object_meets : (d : ℕ) (v : DocumentScope) (ts : Ahead Spelled) → Meets (object k d v) (λ x r. g.Object k d v x.0 x.1 ts r) ts
  unfolding object g.Object
  object_meets zero v ts = meets_either meets_refuse (meets_either meets_refuse (meets_bind (meets_rule (simple_meets v ts) (λ x r h. meets_give (refl, h)))))
  object_meets (suc d) v ts =
      meets_either (meets_rule (node_meets d (object_meets d) v ts) (λ x r h. inr (inl h)))
      (meets_either (meets_rule (collection_meets d (object_meets d) v ts) (λ x r h. inr (inr h))) (meets_bind (meets_rule (simple_meets v ts) (λ x r h. meets_give (inl (refl, h))))))

  module _ (d : ℕ) where
    within_meets : (s : Term) (v : DocumentScope) (ts : Ahead Spelled) → Meets (predicates k (object k d) s v) (λ w r. g.Predicates k (g.Object k d) s v w ts r) ts
    within_meets s v ts = predicates_meets d (object_meets d) s v ts

    outside_meets : (s : Term) (v : DocumentScope) (ts : Ahead Spelled) → Meets (predicates k (object k (suc d)) s v) (λ w r. g.Predicates k (g.Object k (suc d)) s v w ts r) ts
    outside_meets s v ts = predicates_meets (suc d) (object_meets (suc d)) s v ts

    subject_meets : (v : DocumentScope) (ts : Ahead Spelled) → Meets (subject k d v) (λ x r. g.Subject k d v x.0 x.1 ts r) ts
    unfolding subject
    subject_meets v ts = meets_either (meets_rule (collection_meets d (object_meets d) v ts) (λ x r h. inr h)) (meets_bind (meets_rule (resource_meets v ts) (λ x r h. meets_give (inl (refl, h)))))

    about_subject_meets : (v : DocumentScope) (ts : Ahead Spelled) → Meets (about_subject k d v) (λ w r. g.AboutSubject k d v w ts r) ts
    unfolding about_subject
    about_subject_meets v ts = meets_bind (meets_rule (subject_meets v ts) (λ x m h. meets_rule (outside_meets x.0 x.1 m) (λ w r i. (x.0, x.1, (m, h, i)))))

    listed_meets : (s : Term) (v : DocumentScope) (ts : Ahead Spelled) → Meets (listed k d s v) (λ w r. g.Listed k d s v w ts r) ts
    unfolding listed
    listed_meets s v ts = meets_bind (meets_rule (within_meets s v ts) (λ u m h. meets_bind (meets_one (λ z n c.
        meets_either (meets_rule (outside_meets s u n) (λ w r i. (u, (m, h, (n, (z, c), inl i))))) (meets_give (u, (m, h, (n, (z, c), inr (refl, refl)))))))))

    about_node_meets : (v : DocumentScope) (ts : Ahead Spelled) → Meets (about_node k d v) (λ w r. g.AboutNode k d v w ts r) ts
    unfolding about_node
    about_node_meets v ts = meets_bind (meets_one (λ z m o. meets_bind (next_meets v _ m (λ y n.
        meets_either (meets_bind (meets_one (λ q l c. meets_rule (outside_meets y.0 y.1 l) (λ w r i. (y.0, y.1, n, (m, (z, o), inl (l, (q, c), i)))))))
        (meets_rule (listed_meets y.0 y.1 m) (λ w r h. (y.0, y.1, n, (m, (z, o), inr h))))))))

    triples_meets : (v : DocumentScope) (ts : Ahead Spelled) → Meets (triples k d v) (λ w r. g.Triples k d v w ts r) ts
    unfolding triples
    triples_meets v ts = meets_either (meets_rule (about_node_meets v ts) (λ w r h. inr h)) (meets_rule (about_subject_meets v ts) (λ w r h. inl h))

  ended_meets : (p : DocumentScope → R DocumentScope) (P : g.Steps) → ((v : DocumentScope) (ts : Ahead Spelled) → Meets (p v) (λ w r. P v w ts r) ts) → (v : DocumentScope) (ts : Ahead Spelled)
      → Meets (ended k p v) (λ w r. g.Ended k P v w ts r) ts
  unfolding ended
  ended_meets p P each v ts = meets_bind (meets_rule (each v ts) (λ w m h. meets_bind (meets_one (λ z r c. meets_give (m, h, (z, c))))))

  prefix_meets : (v : DocumentScope) (ts : Ahead Spelled) → Meets (prefix_declaration k v) (λ w r. g.PrefixDeclaration k v w ts r) ts
  unfolding prefix_declaration iri_ref
  prefix_meets v ts = meets_bind (meets_one (λ t m h. meets_bind (meets_one (λ i r e. meets_give (t, i, refl, (m, h, e))))))

  base_meets : (v : DocumentScope) (ts : Ahead Spelled) → Meets (base_declaration k v) (λ w r. g.BaseDeclaration k v w ts r) ts
  unfolding base_declaration iri_ref
  base_meets v ts = meets_bind (meets_one (λ i r e. meets_give (i, refl, e)))

  behind_meets : (a : Symbol) (p : DocumentScope → R DocumentScope) (P : g.Steps) →
      ((v : DocumentScope) (ts : Ahead Spelled) → Meets (p v) (λ w r. P v w ts r) ts) → (v : DocumentScope) (ts : Ahead Spelled)
      → Meets (behind k a p v) (λ w r. (m : Ahead Spelled) × Mark a ts m × P v w m r) ts
  unfolding behind
  behind_meets a p P each v ts = meets_bind (meets_one (λ z m h. meets_rule (each v m) (λ w r i. (m, (z, h), i))))

  module _ (d : ℕ) where
    statement_meets : (v : DocumentScope) (ts : Ahead Spelled) → Meets (statement k d v) (λ w r. g.Statement k d v w ts r) ts
    unfolding statement
    statement_meets v ts =
        meets_either (meets_rule (behind_meets _ _ _ (ended_meets _ _ prefix_meets) v ts) (λ w r h. inl (inl h)))
        (meets_either (meets_rule (behind_meets _ _ _ (ended_meets _ _ base_meets) v ts) (λ w r h. inl (inr (inl h))))
        (meets_either (meets_rule (behind_meets _ _ _ prefix_meets v ts) (λ w r h. inl (inr (inr (inl h)))))
        (meets_either (meets_rule (behind_meets _ _ _ base_meets v ts) (λ w r h. inl (inr (inr (inr h)))))
        (meets_rule (ended_meets _ _ (triples_meets d) v ts) (λ w r h. inr h)))))

    pub further_meets : (a : DocumentScope × List TermTriple) (ts : Ahead Spelled) → Meets (further k d a) (λ b r. g.Behind k d a b ts r) ts
    unfolding further
    further_meets a ts = meets_bind (meets_rule (statement_meets a.0 ts) (λ w r h. meets_give (w, refl, refl, h)))

    pub document_meets : (v : DocumentScope) (ts : Ahead Spelled) → Meets (document k d v) (λ x r. g.Document k d v x ts) ts
    unfolding document
    document_meets v ts = meets_bind (meets_rule (meets_loop is_any (further k d) (g.Behind k d) (consumes_further k d) further_meets (v, []) ts) (λ x r h.
        meets_finish (λ e. subst (λ (r : Ahead Spelled). Many (g.Behind k d) (v, []) x ts r) e h)))
