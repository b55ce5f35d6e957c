use Rattle.std.proofs.Common.{◌≡◌, ◌++◌, take}
use Rattle.std.specs.List.{AllByRecursion, flat_map}
use Rattle.schema_tree.specs.Targets.{IsTextTarget}
use Rattle.proof_file.specs.Text.{ended, line_text}
use Rattle.proof_file.specs.declared.line.Line.TheVariants as Lines
use Rattle.proof_file.proofs.write.push_claims.Given as goal

abbrev pub invariant-loop-claim : goal.invariant-loop-claim
invariant-loop-claim l =
    record {
      bytes : l.out.items ≡
          l.fn.out.items ++ flat_map (λ c. ended (line_text (Lines.Claim c))) (take l.claim-index l.claims);
      texts : AllByRecursion (λ c. IsTextTarget c.target) (take l.claim-index l.claims);
    }
