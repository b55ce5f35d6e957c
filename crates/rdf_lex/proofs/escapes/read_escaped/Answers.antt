use Rattle.std.proofs.Common.{rules, string_bytes}
use Rattle.rdf_lex.proofs.Unescaping.{begins, goes, finished, stopped}
use Rattle.rdf_lex.proofs.escapes.read_escaped.Goals as goal

pub loop-ch-init : goal.loop-ch-init
loop-ch-init c = rw c.into_iter-ch-iterator.ensures.into_iter_gives (begins _ _ _ _ c.chars-ch-items.ensures.rest c.utf8.body c.in_ok-text.ensures.bytes)

pub read_char-requires : goal.read_char-requires
read_char-requires c = c.loop-ch.invariant.2

pub loop-ch-preserved : goal.loop-ch-preserved
loop-ch-preserved c = goes _ _ _ _ _ _ _ _ _ c.in-Some.ensures.steps.0 c.in_ok-reading.ensures.gave c.in_ok-reading.ensures.below c.loop-ch.invariant

pub returns-in_err-reading : goal.returns-in_err-reading
returns-in_err-reading c = stopped _ _ _ _ _ (string_bytes c.read_char.new.text) _ _ _ _ c.in-Some.ensures.steps.0 c.in_err-reading.ensures.gave c.loop-ch.invariant (search rules)

pub returns : goal.returns
returns c = λ out h. finished _ _ _ _ out _ c.in-None.ensures.steps.0.0 c.loop-ch.invariant h
