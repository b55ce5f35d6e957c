use Rattle.std.proofs.Common.{take}
use Rattle.std.specs.List.{AllByRecursion}
use Rattle.proof_file.specs.Accepts.{AreNumbers}
use Rattle.rdf_terms.specs.Values.{IsValue}
use Rattle.typing_answers.proofs.nodes.terms_of.Given as goal

abbrev pub invariant-loop-node : goal.invariant-loop-node
invariant-loop-node l = record {
  numbers : AreNumbers l.terms l.copies.items (take l.node-index l.nodes);
  values : AllByRecursion IsValue l.copies.items;
}
