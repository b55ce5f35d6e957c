-- Each rule looks no further than the next token.
use Rattle.std.proofs.Common.{ℕ, Bool, List}
use Rattle.rdf_cursor.specs.Properties.{IsLocal}
use Rattle.rdf_cursor.proofs.Locality.{local_give, local_one, local_bind, local_either, local_finish}
use Rattle.session_script.specs.Reading.{named, blank, resource, suffixed, literal, object, edit, node_literal, node, target, asked, question, body, command}
use Rattle.session_script.specs.declared.signs.Sign.{Sign}
use Rattle.session_script.specs.declared.signs.Sign.TheVariants.{Plus, Minus, Question}

local_target : IsLocal target
unfolding target
local_target = local_either _ _ _ (local_bind _ _ (local_one _ _) (λ _. local_give _))
    (local_either _ _ _ (local_bind _ _ (local_one _ _) (λ _. local_give _)) (local_bind _ _ (local_one _ _) (λ _. local_give _)))

local_asked : IsLocal asked
unfolding asked
local_asked = local_either _ _ _ (local_bind _ _ (local_one _ _) (λ _. local_give _)) (local_bind _ _ (local_one _ _) (λ _. local_target))

module _ (k : Bool) where
  local_named : IsLocal (named k)
  unfolding named
  local_named = local_bind _ _ (local_one _ _) (λ i. local_give _)

  local_resource : IsLocal (resource k)
  unfolding resource blank
  local_resource = local_either _ _ _ (local_bind _ _ (local_one _ _) (λ _. local_give _)) local_named

  local_suffixed : (lex : List ℕ) → IsLocal (suffixed k lex)
  unfolding suffixed
  local_suffixed lex = local_either _ _ _ (local_one _ _) (local_either _ _ _ (local_bind _ _ (local_one _ _) (λ _. local_one _ _)) (local_give _))

  local_object : IsLocal (object k)
  unfolding object literal
  local_object = local_either _ _ _ (local_bind _ _ (local_one _ _) local_suffixed) local_resource

  local_edit : IsLocal (edit k)
  unfolding edit
  local_edit = local_bind _ _ local_resource (λ s. local_bind _ _ local_named (λ p. local_bind _ _ local_object (λ o. local_bind _ _ (local_one _ _) (λ _. local_give _))))

  local_node : IsLocal (node k)
  unfolding node node_literal
  local_node = local_either _ _ _ (local_bind _ _ (local_one _ _) (λ lex. local_either _ _ _ (local_give _) (local_suffixed lex))) local_resource

  local_question : IsLocal (question k)
  unfolding question
  local_question = local_bind _ _ local_node (λ x. local_bind _ _ local_asked (λ t. local_give _))

  local_body : (s : Sign) → IsLocal (body k s)
  unfolding body
  local_body Plus = local_bind _ _ local_edit (λ t. local_give _)
  local_body Minus = local_bind _ _ local_edit (λ t. local_give _)
  local_body Question = local_question

  pub local_command : (s : Sign) → IsLocal (command k s)
  unfolding command
  local_command s = local_bind _ _ (local_body s) (λ x. local_finish _ _)
