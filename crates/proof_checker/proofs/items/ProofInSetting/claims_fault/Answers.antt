use Rattle.std.proofs.Common.{get_or}
use Rattle.proof_file.specs.Accepts.{is_claim}
use Rattle.proof_checker.specs.Faults.{proof_in, setting}
use Rattle.proof_checker.proofs.Found.{found_none, found_some, next_accepted, next_fault, no_fault}
use Rattle.proof_checker.proofs.items.ProofInSetting.claims_fault.Goals as goal

pub returns-in-Some : goal.returns-in-Some
returns-in-Some c =
    next_fault (setting c.args.self.now) (proof_in c.args.self.now) (λ d. is_claim d) c.args.self.now.claims.now c.loop-i.i c.index-self-i.result c.in-Some.why c.loop-i-test.true c.loop-i.invariant
    (found_some (setting c.args.self.now) (proof_in c.args.self.now) (is_claim (get_or c.args.self.now.claims.now c.loop-i.i c.index-self-i.result)) c.in_ok-failed.failed c.in-Some.why c.in-Some.is c.in_ok-failed.ensures)

pub loop-i-preserved : goal.loop-i-preserved
loop-i-preserved c =
    next_accepted (setting c.args.self.now) (proof_in c.args.self.now) (λ d. is_claim d) c.args.self.now.claims.now c.loop-i.i c.index-self-i.result c.loop-i-test.true c.loop-i.invariant
    (found_none (setting c.args.self.now) (proof_in c.args.self.now) (is_claim (get_or c.args.self.now.claims.now c.loop-i.i c.index-self-i.result)) c.in_ok-failed.failed c.in_default.not-Some c.in_ok-failed.ensures)

pub returns : goal.returns
returns c = no_fault (setting c.args.self.now) (proof_in c.args.self.now) (λ d. is_claim d) c.args.self.now.claims.now c.loop-i.i c.loop-i-test.false c.loop-i.invariant
