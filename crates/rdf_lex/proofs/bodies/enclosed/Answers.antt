use Rattle.std.proofs.Common.{arith}
use Rattle.rdf_lex.proofs.Enclosing.{is_part, ends_before, part_is}
use Rattle.rdf_lex.proofs.bodies.enclosed.Goals as goal

pub overflow_sub-text : goal.overflow_sub-text
overflow_sub-text c = let p = is_part _ _ _ c.utf8.text c.requires.1 in omega arith

pub range-requires-clause-start_le_end : goal.range-requires-clause-start_le_end
range-requires-clause-start_le_end c = let p = is_part _ _ _ c.utf8.text c.requires.1 in omega arith

pub range-requires-clause-start_boundary : goal.range-requires-clause-start_boundary
range-requires-clause-start_boundary c = λ positive. (is_part _ _ _ c.utf8.text c.requires.1).begins

pub range-requires-clause-end_boundary : goal.range-requires-clause-end_boundary
range-requires-clause-end_boundary c = ends_before _ _ _ (is_part _ _ _ c.utf8.text c.requires.1)

pub returns : goal.returns
returns c = λ body e. part_is _ _ _ _ (is_part _ _ _ c.utf8.text e) c.range.ensures.value
