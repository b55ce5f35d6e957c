use Rattle.std.proofs.Common.{◌≡◌, length, take}
use Rattle.std.specs.List.{AllByRecursion}
use Rattle.proof_file.specs.Accepts.{IsAccepted}
use Rattle.proof_checker.specs.Faults.{proof_in, section_items, setting}
use Rattle.proof_checker.proofs.items.ProofInSetting.fault.Given as goal

abbrev pub invariant-loop-section : goal.invariant-loop-section
invariant-loop-section l =
    record {
      count : l.before ≡ length (section_items (take l.section-index l.self.sections.now));
      all : AllByRecursion (IsAccepted (setting l.self) (proof_in l.self)) (section_items (take l.section-index l.self.sections.now));
    }
