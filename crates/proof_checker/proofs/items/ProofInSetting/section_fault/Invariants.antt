use Rattle.std.proofs.Common.{map, take}
use Rattle.std.specs.List.{AllByRecursion}
use Rattle.proof_file.specs.Accepts.{IsAccepted, in_section}
use Rattle.proof_checker.specs.Faults.{proof_in, setting}
use Rattle.proof_checker.proofs.items.ProofInSetting.section_fault.Given as goal

abbrev pub invariant-loop-i : goal.invariant-loop-i
invariant-loop-i l = AllByRecursion (IsAccepted (setting l.self) (proof_in l.self)) (take l.i (map (λ r. in_section l.stratum r) l.records))
