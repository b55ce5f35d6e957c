use Rattle.std.proofs.Common.{◌≡◌, ◌++◌, take}
use Rattle.std.specs.List.{AllByRecursion, flat_map}
use Rattle.rdf_terms.specs.Values.{IsValue}
use Rattle.proof_file.specs.Text.{ended, line_text}
use Rattle.proof_file.specs.declared.line.Line.TheVariants as Lines
use Rattle.proof_file.proofs.write.push_nodes.Given as goal

abbrev pub invariant-loop-node : goal.invariant-loop-node
invariant-loop-node l =
    record { bytes : l.out.items ≡ l.fn.out.items ++ flat_map (λ t. ended (line_text (Lines.Node t))) (take l.node-index l.nodes); texts : AllByRecursion IsValue (take l.node-index l.nodes) }
