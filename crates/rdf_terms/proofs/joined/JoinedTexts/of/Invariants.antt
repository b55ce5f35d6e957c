use Rattle.rdf_terms.proofs.Joining.{Begun}
use Rattle.rdf_terms.proofs.joined.JoinedTexts.of.Given as goal

abbrev pub invariant-loop-number : goal.invariant-loop-number
invariant-loop-number l = Begun l.terms l.number l.bytes.items l.firsts.items
