use Rattle.std.proofs.Common.{List, ◌++◌, take}
use Rattle.schema_tree.specs.declared.schema.Pair.{Pair}
use Rattle.proof_file.specs.Views.{Refuted, no_pairs, yes_pairs}
use Rattle.proof_checker.specs.Standings.{AreStandings}
use Rattle.proof_checker.proofs.standings.Standings.note_section.Given as goal

abbrev pub invariant-loop-entry : goal.invariant-loop-entry
invariant-loop-entry l = (plus : List Pair) (minus : List Refuted) → AreStandings plus minus l.fn.self →
    AreStandings (plus ++ yes_pairs l.nodes (take l.entry-index l.records)) (minus ++ no_pairs l.nodes (take l.entry-index l.records)) l.self
