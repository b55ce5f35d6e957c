use Rattle.std.proofs.Common.{take}
use Rattle.proof_file.specs.Views.{no_pairs, yes_pairs}
use Rattle.proof_checker.specs.Standings.{AreStandings, records_in}
use Rattle.proof_checker.proofs.standings.Standings.of_sections.Given as goal

abbrev pub invariant-loop-section : goal.invariant-loop-section
invariant-loop-section l =
    AreStandings (yes_pairs l.nodes (records_in (take l.section-index l.sections))) (no_pairs l.nodes (records_in (take l.section-index l.sections))) l.standings
