-- Each rule looks no further than the next token, and takes one where it has to.
use Rattle.std.proofs.Common.{false, List, []}
use Rattle.rdf_cursor.specs.Properties.{IsLocal, Consumes}
use Rattle.rdf_cursor.proofs.Consuming.{consumes_one, consumes_bind}
use Rattle.rdf_cursor.proofs.Locality.{local_give, local_one, local_bind, local_either, local_finish}
use Rattle.rdf_cursor.proofs.Loops.{local_loop}
use Rattle.rdf_terms.specs.declared.terms.Term.{Term}
use Rattle.shape_map.specs.declared.items.Item.{Item}
use Rattle.term_tokens.specs.Scopes.{Scope}
use Rattle.term_tokens.specs.Terms.{iri_of}
use Rattle.term_tokens.proofs.Literals as any
use Rattle.shape_map.specs.Meanings.{blank_of}
use Rattle.shape_map.specs.Reading.{R, iri, literal, resource, node, verb, or_any, of_subjects, of_objects, pattern, triples, selector, target, wish, asked, item, added, behind, items, all_items, shape_map}

module _ (v : Scope) where
  local_iri : IsLocal (iri v)
  unfolding iri
  local_iri = local_one _ _

  local_literal : IsLocal (literal v)
  unfolding literal
  local_literal = any.local_literal _ _ _ _

  local_resource : IsLocal (resource v)
  unfolding resource
  local_resource = any.local_resource (iri v) (iri_of false v) blank_of local_iri

  local_node : IsLocal (node v)
  unfolding node
  local_node = local_either _ _ _ local_literal (local_either _ _ _ (local_one _ _) local_resource)

  local_verb : IsLocal (verb v)
  unfolding verb
  local_verb = local_either _ _ _ (local_bind _ _ (local_one _ _) (λ w. local_give _)) (local_bind _ _ local_iri (λ i. local_give _))

  local_or_any : (p : R Term) → IsLocal p → IsLocal (or_any v p)
  unfolding or_any
  local_or_any p l = local_either _ _ _ (local_bind _ _ (local_one _ _) (λ w. local_give _)) (local_bind _ _ l (λ x. local_give _))

  local_of_subjects : IsLocal (of_subjects v)
  unfolding of_subjects
  local_of_subjects = local_bind _ _ (local_one _ _) (λ _. local_bind _ _ local_verb (λ p. local_bind _ _ (local_or_any (node v) local_node) (λ o. local_give _)))

  local_of_objects : IsLocal (of_objects v)
  unfolding of_objects
  local_of_objects = local_bind _ _ (local_or_any (resource v) local_resource) (λ o. local_bind _ _ local_verb (λ p. local_bind _ _ (local_one _ _) (λ _. local_give _)))

  local_triples : IsLocal (triples v)
  unfolding triples pattern
  local_triples = local_bind _ _ (local_one _ _) (λ _. local_bind _ _ (local_either _ _ _ local_of_subjects local_of_objects) (λ x. local_bind _ _ (local_one _ _) (λ _. local_give _)))

  local_selector : IsLocal (selector v)
  unfolding selector
  local_selector = local_either _ _ _ (local_bind _ _ local_triples (λ x. local_give _)) (local_bind _ _ local_node (λ x. local_give _))

  local_target : IsLocal (target v)
  unfolding target
  local_target = local_either _ _ _ (local_bind _ _ (local_one _ _) (λ _. local_give _)) (local_either _ _ _ (local_one _ _) (local_bind _ _ local_iri (λ i. local_give _)))

  local_wish : IsLocal (wish v)
  unfolding wish
  local_wish = local_either _ _ _ (local_bind _ _ (local_one _ _) (λ _. local_bind _ _ local_target (λ t. local_give _))) (local_bind _ _ local_target (λ t. local_give _))

  local_asked : IsLocal (asked v)
  unfolding asked
  local_asked = local_either _ _ _ (local_bind _ _ (local_one _ _) (λ _. local_give _))
      (local_either _ _ _ (local_bind _ _ (local_one _ _) (λ i. local_give _)) (local_bind _ _ (local_one _ _) (λ _. local_wish)))

module _ (nodes labels : Scope) where
  local_item : IsLocal (item nodes labels)
  unfolding item
  local_item = local_bind _ _ (local_selector nodes) (λ s. local_bind _ _ (local_asked labels) (λ a. local_give _))

  local_added : (so : List Item) → IsLocal (added nodes labels so)
  unfolding added
  local_added so = local_bind _ _ local_item (λ x. local_give _)

  pub local_behind : (so : List Item) → IsLocal (behind nodes labels so)
  unfolding behind
  local_behind so = local_bind _ _ (local_one _ _) (λ _. local_added so)

  pub consumes_behind : (so : List Item) → Consumes (behind nodes labels so)
  unfolding behind
  consumes_behind so = consumes_bind _ _ (consumes_one _ _) (λ _. local_added so)

  local_items : (so : List Item) → IsLocal (items nodes labels so)
  unfolding items
  local_items so = local_bind _ _ (local_added so) (λ xs. local_loop _ _ consumes_behind local_behind xs)

  local_all : (so : List Item) → IsLocal (all_items nodes labels so)
  unfolding all_items
  local_all so = local_either _ _ _ (local_items so) (local_give _)

  pub local_map : IsLocal (shape_map nodes labels)
  unfolding shape_map
  local_map = local_bind _ _ (local_all []) (λ xs. local_finish _ _)
