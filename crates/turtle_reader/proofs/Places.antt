-- Each rule looks no further than the next token, and takes one where it has to.
use Rattle.std.proofs.Common.{Bool, ℕ, zero, suc, List, [], Result, Ok, Err}
use Rattle.rdf_cursor.specs.Properties.{IsLocal, Consumes}
use Rattle.rdf_cursor.proofs.Consuming.{consumes_one, consumes_bind, consumes_then, consumes_either, consumes_refuse}
use Rattle.rdf_cursor.proofs.Locality.{local_give, local_refuse, local_one, local_bind, local_either, local_finish}
use Rattle.rdf_cursor.proofs.Loops.{local_loop}
use Rattle.rdf_terms.specs.declared.terms.Term.{Term}
use Rattle.graph_index.specs.declared.loading.TermTriple.{TermTriple}
use Rattle.rdf_cursor.specs.declared.stops.Fault.{Fault}
use Rattle.rdf_cursor.specs.declared.symbols.Symbol.{Symbol}
use Rattle.turtle_reader.specs.Meanings.{numbered}
use Rattle.term_tokens.specs.Terms.{iri_of, blank_of}
use Rattle.term_tokens.proofs.Literals as any
use Rattle.turtle_reader.specs.Reading.{R, Terms, settled, next_node, iri_ref, iri, literal, resource, simple, verb, one_object, comma, objects, pair, semicolon, predicates, node, in_cell, member, next_member, cells, collection, object, subject, about_subject, listed, about_node, triples, ended, prefix_declaration, base_declaration, behind, statement, further, document}
use Rattle.turtle_reader.specs.States.{names_in, DocumentScope}
use Rattle.rdf_cursor.specs.Symbols.{is_any}

local_settled : {A : Type 0} (x : Result A Fault) → IsLocal (settled x)
local_settled (Ok x) = local_give x
local_settled (Err f) = local_refuse f

module _ (k : Bool) where
  local_next : (v : DocumentScope) → IsLocal (next_node k v)
  unfolding next_node
  local_next v = local_settled (numbered k v)

  local_iri_ref : (v : DocumentScope) → IsLocal (iri_ref k v)
  unfolding iri_ref
  local_iri_ref v = local_one _ _

  consumes_iri_ref : (v : DocumentScope) → Consumes (iri_ref k v)
  unfolding iri_ref
  consumes_iri_ref v = consumes_one _ _

  local_iri : (v : DocumentScope) → IsLocal (iri k v)
  unfolding iri
  local_iri v = local_one _ _

  consumes_iri : (v : DocumentScope) → Consumes (iri k v)
  unfolding iri
  consumes_iri v = consumes_one _ _

  local_literal : (v : DocumentScope) → IsLocal (literal k v)
  unfolding literal
  local_literal v = any.local_literal _ _ _ _

  consumes_literal : (v : DocumentScope) → Consumes (literal k v)
  unfolding literal
  consumes_literal v = any.consumes_literal _ _ _ _

  local_resource : (v : DocumentScope) → IsLocal (resource k v)
  unfolding resource
  local_resource v = any.local_resource (iri k v) (iri_of k (names_in v)) (blank_of k) (local_iri v)

  consumes_resource : (v : DocumentScope) → Consumes (resource k v)
  unfolding resource
  consumes_resource v = consumes_either _ _ _ (consumes_one _ _) (consumes_bind _ _ (consumes_iri v) (λ i. local_give _))

  local_simple : (v : DocumentScope) → IsLocal (simple k v)
  unfolding simple
  local_simple v = local_either _ _ _ (local_literal v) (local_either _ _ _ (local_one _ _) (local_resource v))

  consumes_simple : (v : DocumentScope) → Consumes (simple k v)
  unfolding simple
  consumes_simple v = consumes_either _ _ _ (consumes_literal v) (consumes_either _ _ _ (consumes_one _ _) (consumes_resource v))

  local_verb : (v : DocumentScope) → IsLocal (verb k v)
  unfolding verb
  local_verb v = local_either _ _ _ (local_bind _ _ (local_one _ _) (λ w. local_give _)) (local_iri v)

  consumes_verb : (v : DocumentScope) → Consumes (verb k v)
  unfolding verb
  consumes_verb v = consumes_either _ _ _ (consumes_bind _ _ (consumes_one _ _) (λ w. local_give _)) (consumes_iri v)

  module _ (obj : Terms) (local : (v : DocumentScope) → IsLocal (obj v)) (takes : (v : DocumentScope) → Consumes (obj v)) where
    local_one_object : (s : Term) (p : List ℕ) (v : DocumentScope) → IsLocal (one_object k obj s p v)
    unfolding one_object
    local_one_object s p v = local_bind _ _ (local v) (λ x. local_give _)

    local_comma : (s : Term) (p : List ℕ) (v : DocumentScope) → IsLocal (comma k obj s p v)
    unfolding comma
    local_comma s p v = local_bind _ _ (local_one _ _) (λ _. local_one_object s p v)

    pub consumes_comma : (s : Term) (p : List ℕ) (v : DocumentScope) → Consumes (comma k obj s p v)
    unfolding comma
    consumes_comma s p v = consumes_bind _ _ (consumes_one _ _) (λ _. local_one_object s p v)

    local_objects : (s : Term) (p : List ℕ) (v : DocumentScope) → IsLocal (objects k obj s p v)
    unfolding objects
    local_objects s p v = local_bind _ _ (local_one_object s p v) (local_loop _ _ (consumes_comma s p) (local_comma s p))

    local_pair : (s : Term) (v : DocumentScope) → IsLocal (pair k obj s v)
    unfolding pair
    local_pair s v = local_bind _ _ (local_verb v) (λ p. local_objects s p v)

    consumes_pair : (s : Term) (v : DocumentScope) → Consumes (pair k obj s v)
    unfolding pair
    consumes_pair s v = consumes_bind _ _ (consumes_verb v) (λ p. local_objects s p v)

    local_semicolon : (s : Term) (v : DocumentScope) → IsLocal (semicolon k obj s v)
    unfolding semicolon
    local_semicolon s v = local_bind _ _ (local_one _ _) (λ _. local_either _ _ _ (local_pair s v) (local_give _))

    pub consumes_semicolon : (s : Term) (v : DocumentScope) → Consumes (semicolon k obj s v)
    unfolding semicolon
    consumes_semicolon s v = consumes_bind _ _ (consumes_one _ _) (λ _. local_either _ _ _ (local_pair s v) (local_give _))

    pub local_predicates : (s : Term) (v : DocumentScope) → IsLocal (predicates k obj s v)
    unfolding predicates
    local_predicates s v = local_bind _ _ (local_pair s v) (local_loop _ _ (consumes_semicolon s) (local_semicolon s))

    consumes_predicates : (s : Term) (v : DocumentScope) → Consumes (predicates k obj s v)
    unfolding predicates
    consumes_predicates s v = consumes_bind _ _ (consumes_pair s v) (local_loop _ _ (consumes_semicolon s) (local_semicolon s))

    local_node : (v : DocumentScope) → IsLocal (node k obj v)
    unfolding node
    local_node v = local_bind _ _ (local_one _ _)
        (λ _. local_bind _ _ (local_next v) (λ x. local_bind _ _ (local_either _ _ _ (local_give _) (local_predicates _ _)) (λ w. local_bind _ _ (local_one _ _) (λ _. local_give _))))

    consumes_node : (v : DocumentScope) → Consumes (node k obj v)
    unfolding node
    consumes_node v = consumes_bind _ _ (consumes_one _ _)
        (λ _. local_bind _ _ (local_next v) (λ x. local_bind _ _ (local_either _ _ _ (local_give _) (local_predicates _ _)) (λ w. local_bind _ _ (local_one _ _) (λ _. local_give _))))

    local_in_cell : (cell : Term) (v : DocumentScope) → IsLocal (in_cell k obj cell v)
    unfolding in_cell
    local_in_cell cell v = local_bind _ _ (local v) (λ x. local_give _)

    consumes_in_cell : (cell : Term) (v : DocumentScope) → Consumes (in_cell k obj cell v)
    unfolding in_cell
    consumes_in_cell cell v = consumes_bind _ _ (takes v) (λ x. local_give _)

    local_member : (v : DocumentScope) → IsLocal (member k obj v)
    unfolding member
    local_member v = local_bind _ _ (local_next v) (λ x. local_in_cell _ _)

    local_next_member : (a : Term × DocumentScope) → IsLocal (next_member k obj a)
    unfolding next_member
    local_next_member a = local_bind _ _ (local_next _) (λ x. local_in_cell _ _)

    pub consumes_next_member : (a : Term × DocumentScope) → Consumes (next_member k obj a)
    unfolding next_member
    consumes_next_member a = consumes_then _ _ (local_next _) (λ x. consumes_in_cell _ _)

    local_cells : (v : DocumentScope) → IsLocal (cells k obj v)
    unfolding cells
    local_cells v = local_bind _ _ (local_member v) (λ f. local_bind _ _ (local_loop _ _ consumes_next_member local_next_member f) (λ l. local_bind _ _ (local_one _ _) (λ _. local_give _)))

    local_collection : (v : DocumentScope) → IsLocal (collection k obj v)
    unfolding collection
    local_collection v = local_bind _ _ (local_one _ _) (λ _. local_either _ _ _ (local_bind _ _ (local_one _ _) (λ _. local_give _)) (local_cells v))

    consumes_collection : (v : DocumentScope) → Consumes (collection k obj v)
    unfolding collection
    consumes_collection v = consumes_bind _ _ (consumes_one _ _) (λ _. local_either _ _ _ (local_bind _ _ (local_one _ _) (λ _. local_give _)) (local_cells v))

  mutual
    unfolding object

    pub local_object : (d : ℕ) (v : DocumentScope) → IsLocal (object k d v)
    local_object zero v = local_either _ _ _ (local_refuse _) (local_either _ _ _ (local_refuse _) (local_bind _ _ (local_simple v) (λ x. local_give _)))
    local_object (suc d) v = local_either _ _ _ (local_node (object k d) (local_object d) (consumes_object d) v)
        (local_either _ _ _ (local_collection (object k d) (local_object d) (consumes_object d) v) (local_bind _ _ (local_simple v) (λ x. local_give _)))

    pub consumes_object : (d : ℕ) (v : DocumentScope) → Consumes (object k d v)
    consumes_object zero v = consumes_either _ _ _ (consumes_refuse _) (consumes_either _ _ _ (consumes_refuse _) (consumes_bind _ _ (consumes_simple v) (λ x. local_give _)))
    consumes_object (suc d) v = consumes_either _ _ _ (consumes_node (object k d) (local_object d) (consumes_object d) v)
        (consumes_either _ _ _ (consumes_collection (object k d) (local_object d) (consumes_object d) v) (consumes_bind _ _ (consumes_simple v) (λ x. local_give _)))

  module _ (d : ℕ) where
    local_within : (s : Term) (v : DocumentScope) → IsLocal (predicates k (object k d) s v)
    local_within s v = local_predicates (object k d) (local_object d) (consumes_object d) s v

    local_outside : (s : Term) (v : DocumentScope) → IsLocal (predicates k (object k (suc d)) s v)
    local_outside s v = local_predicates (object k (suc d)) (local_object (suc d)) (consumes_object (suc d)) s v

    local_subject : (v : DocumentScope) → IsLocal (subject k d v)
    unfolding subject
    local_subject v = local_either _ _ _ (local_collection (object k d) (local_object d) (consumes_object d) v) (local_bind _ _ (local_resource v) (λ x. local_give _))

    consumes_subject : (v : DocumentScope) → Consumes (subject k d v)
    unfolding subject
    consumes_subject v = consumes_either _ _ _ (consumes_collection (object k d) (local_object d) (consumes_object d) v) (consumes_bind _ _ (consumes_resource v) (λ x. local_give _))

    local_about_subject : (v : DocumentScope) → IsLocal (about_subject k d v)
    unfolding about_subject
    local_about_subject v = local_bind _ _ (local_subject v) (λ x. local_outside _ _)

    consumes_about_subject : (v : DocumentScope) → Consumes (about_subject k d v)
    unfolding about_subject
    consumes_about_subject v = consumes_bind _ _ (consumes_subject v) (λ x. local_outside _ _)

    local_listed : (s : Term) (v : DocumentScope) → IsLocal (listed k d s v)
    unfolding listed
    local_listed s v = local_bind _ _ (local_within s v) (λ w. local_bind _ _ (local_one _ _) (λ _. local_either _ _ _ (local_outside _ _) (local_give _)))

    local_about_node : (v : DocumentScope) → IsLocal (about_node k d v)
    unfolding about_node
    local_about_node v = local_bind _ _ (local_one _ _) (λ _. local_bind _ _ (local_next v) (λ x. local_either _ _ _ (local_bind _ _ (local_one _ _) (λ _. local_outside _ _)) (local_listed _ _)))

    consumes_about_node : (v : DocumentScope) → Consumes (about_node k d v)
    unfolding about_node
    consumes_about_node v = consumes_bind _ _ (consumes_one _ _)
        (λ _. local_bind _ _ (local_next v) (λ x. local_either _ _ _ (local_bind _ _ (local_one _ _) (λ _. local_outside _ _)) (local_listed _ _)))

    local_triples : (v : DocumentScope) → IsLocal (triples k d v)
    unfolding triples
    local_triples v = local_either _ _ _ (local_about_node v) (local_about_subject v)

    consumes_triples : (v : DocumentScope) → Consumes (triples k d v)
    unfolding triples
    consumes_triples v = consumes_either _ _ _ (consumes_about_node v) (consumes_about_subject v)

  local_ended : (p : DocumentScope → R DocumentScope) → ((v : DocumentScope) → IsLocal (p v)) → (v : DocumentScope) → IsLocal (ended k p v)
  unfolding ended
  local_ended p l v = local_bind _ _ (l v) (λ w. local_bind _ _ (local_one _ _) (λ _. local_give _))

  consumes_ended : (p : DocumentScope → R DocumentScope) → ((v : DocumentScope) → Consumes (p v)) → (v : DocumentScope) → Consumes (ended k p v)
  unfolding ended
  consumes_ended p l v = consumes_bind _ _ (l v) (λ w. local_bind _ _ (local_one _ _) (λ _. local_give _))

  local_prefix : (v : DocumentScope) → IsLocal (prefix_declaration k v)
  unfolding prefix_declaration
  local_prefix v = local_bind _ _ (local_one _ _) (λ t. local_bind _ _ (local_iri_ref v) (λ i. local_give _))

  local_base : (v : DocumentScope) → IsLocal (base_declaration k v)
  unfolding base_declaration
  local_base v = local_bind _ _ (local_iri_ref v) (λ i. local_give _)

  local_behind : (a : Symbol) (p : DocumentScope → R DocumentScope) → ((v : DocumentScope) → IsLocal (p v)) → (v : DocumentScope) → IsLocal (behind k a p v)
  unfolding behind
  local_behind a p l v = local_bind _ _ (local_one _ _) (λ _. l v)

  consumes_behind : (a : Symbol) (p : DocumentScope → R DocumentScope) → ((v : DocumentScope) → IsLocal (p v)) → (v : DocumentScope) → Consumes (behind k a p v)
  unfolding behind
  consumes_behind a p l v = consumes_bind _ _ (consumes_one _ _) (λ _. l v)

  module _ (d : ℕ) where
    pub local_statement : (v : DocumentScope) → IsLocal (statement k d v)
    unfolding statement
    local_statement v =
        local_either _ _ _ (local_behind _ _ (local_ended _ local_prefix) v) (local_either _ _ _ (local_behind _ _ (local_ended _ local_base) v)
        (local_either _ _ _ (local_behind _ _ local_prefix v) (local_either _ _ _ (local_behind _ _ local_base v) (local_ended _ (local_triples d) v))))

    pub consumes_statement : (v : DocumentScope) → Consumes (statement k d v)
    unfolding statement
    consumes_statement v =
        consumes_either _ _ _ (consumes_behind _ _ (local_ended _ local_prefix) v) (consumes_either _ _ _ (consumes_behind _ _ (local_ended _ local_base) v)
        (consumes_either _ _ _ (consumes_behind _ _ local_prefix v) (consumes_either _ _ _ (consumes_behind _ _ local_base v) (consumes_ended _ (consumes_triples d) v))))

    pub local_further : (a : DocumentScope × List TermTriple) → IsLocal (further k d a)
    unfolding further
    local_further a = local_bind _ _ (local_statement a.0) (λ w. local_give _)

    pub consumes_further : (a : DocumentScope × List TermTriple) → Consumes (further k d a)
    unfolding further
    consumes_further a = consumes_bind _ _ (consumes_statement a.0) (λ w. local_give _)

    pub local_document : (v : DocumentScope) → IsLocal (document k d v)
    unfolding document
    local_document v = local_bind _ _ (local_loop is_any (further k d) consumes_further local_further (v, [])) (λ w. local_finish _ _)
