-- Each rule looks no further than the next token, and takes one where it has to.
use Rattle.std.proofs.Common.{Bool, List}
use Rattle.rdf_cursor.specs.Properties.{IsLocal, Consumes}
use Rattle.rdf_cursor.proofs.Locality.{local_give, local_one, local_bind, local_either, local_finish}
use Rattle.rdf_cursor.proofs.Loops.{local_loop}
use Rattle.rdf_cursor.proofs.Consuming.{consumes_one, consumes_bind, consumes_either}
use Rattle.rdf_cursor.specs.Symbols.{is_any}
use Rattle.term_tokens.specs.Terms.{absolute_of, blank_of}
use Rattle.term_tokens.proofs.Literals as any
use Rattle.graph_index.specs.declared.loading.TermTriple.{TermTriple}
use Rattle.nt_reader.specs.Reading.{iri, subject, predicate, literal, object, statement, line_end, line, line_behind, document}

local_line_end : IsLocal line_end
unfolding line_end
local_line_end = local_either _ _ _ (local_bind _ _ (local_one _ _) (λ _. local_give _)) (local_finish _ _)

module _ (k : Bool) where
  local_iri : IsLocal (iri k)
  unfolding iri
  local_iri = local_one _ _

  local_subject : IsLocal (subject k)
  unfolding subject
  local_subject = any.local_resource (iri k) (absolute_of k) (blank_of k) local_iri

  local_predicate : IsLocal (predicate k)
  unfolding predicate
  local_predicate = local_bind _ _ local_iri (λ i. local_give _)

  local_literal : IsLocal (literal k)
  unfolding literal
  local_literal = any.local_literal _ _ _ _

  local_object : IsLocal (object k)
  unfolding object
  local_object = local_either _ _ _ local_literal local_subject

  local_statement : IsLocal (statement k)
  unfolding statement
  local_statement = local_bind _ _ local_subject (λ s. local_bind _ _ local_predicate (λ p. local_bind _ _ local_object (λ o. local_bind _ _ (local_one _ _) (λ _. local_give _))))

  local_line : IsLocal (line k)
  unfolding line
  local_line = local_either _ _ _ (local_bind _ _ (local_one _ _) (λ _. local_give _)) (local_bind _ _ local_statement (λ t. local_bind _ _ local_line_end (λ _. local_give _)))

  pub local_line_behind : (before : List TermTriple) → IsLocal (line_behind k before)
  unfolding line_behind
  local_line_behind before = local_bind _ _ local_line (λ xs. local_give _)

  consumes_subject : Consumes (subject k)
  unfolding subject iri
  consumes_subject = consumes_either _ _ _ (consumes_one _ _) (consumes_bind _ _ (consumes_one _ _) (λ i. local_give _))

  consumes_statement : Consumes (statement k)
  unfolding statement
  consumes_statement = consumes_bind _ _ consumes_subject (λ s. local_bind _ _ local_predicate (λ p. local_bind _ _ local_object (λ o. local_bind _ _ (local_one _ _) (λ _. local_give _))))

  pub consumes_line : Consumes (line k)
  unfolding line
  consumes_line = consumes_either _ _ _ (consumes_bind _ _ (consumes_one _ _) (λ _. local_give _)) (consumes_bind _ _ consumes_statement (λ t. local_bind _ _ local_line_end (λ _. local_give _)))

  pub consumes_line_behind : (before : List TermTriple) → Consumes (line_behind k before)
  unfolding line_behind
  consumes_line_behind before = consumes_bind _ _ consumes_line (λ xs. local_give _)

  pub local_document : IsLocal (document k)
  unfolding document
  local_document = local_bind _ _ (local_loop is_any (line_behind k) consumes_line_behind local_line_behind _) (λ xs. local_finish _ _)
