use Rattle.std.proofs.Common.{string_bytes}
use Rattle.rdf_lex.proofs.Unescaping.{Spent}
use Rattle.rdf_lex.proofs.escapes.read_escaped.Given as goal

abbrev pub invariant-loop-ch : goal.invariant-loop-ch
invariant-loop-ch l = Spent l.inside l.body l.ch-iterator.rest.now l.reading (string_bytes l.text)
