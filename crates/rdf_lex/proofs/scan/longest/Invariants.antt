use Rattle.rdf_lex.proofs.Scanning.{Scans}
use Rattle.rdf_lex.proofs.scan.longest.Given as goal

abbrev pub invariant-loop-ch : goal.invariant-loop-ch
invariant-loop-ch l = Scans l.mode l.ch-iterator.rest.now l.state l.best l.len l.source
