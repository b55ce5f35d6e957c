use Rattle.rdf_lex.proofs.Skipping.{Skips}
use Rattle.rdf_lex.proofs.lexed.blanks.Given as goal

abbrev pub invariant-loop-ch : goal.invariant-loop-ch
invariant-loop-ch l = Skips l.mode l.ch-iterator.rest.now l.before l.len l.source
