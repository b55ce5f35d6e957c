use Rattle.std.proofs.Common.{subst, sym}
use Rattle.proof_file.specs.Accepts.{FailsAt, IsAccepted, Passes, checks_of, in_section}
use Rattle.proof_checker.specs.Faults.{proof_in, setting}
use Rattle.proof_checker.proofs.Found.{found_none, found_some, next_accepted, next_fault, no_fault}
use Rattle.proof_checker.proofs.items.ProofInSetting.section_fault.Goals as goal

pub record_fails-requires-clause-rising : goal.record_fails-requires-clause-rising
record_fails-requires-clause-rising c = c.requires.rising c.index-records-i.result (c.loop-i.i, c.loop-i-test.true, sym c.index-records-i.is)

pub returns-in-Some : goal.returns-in-Some
returns-in-Some c =
    let r = c.index-records-i.result in
    next_fault (setting c.args.self.now) (proof_in c.args.self.now) (λ r. in_section c.args.stratum r) c.args.records.now c.loop-i.i r c.in-Some.why c.loop-i-test.true c.loop-i.invariant
    (subst (λ e. FailsAt (Passes (setting c.args.self.now) (proof_in c.args.self.now) (in_section c.args.stratum e)) (checks_of (in_section c.args.stratum e)) c.in-Some.why) c.index-records-i.is
    (found_some (setting c.args.self.now) (proof_in c.args.self.now) (in_section c.args.stratum r) c.in_ok-failed.failed c.in-Some.why c.in-Some.is c.in_ok-failed.ensures))

pub loop-i-preserved : goal.loop-i-preserved
loop-i-preserved c =
    let r = c.index-records-i.result in
    next_accepted (setting c.args.self.now) (proof_in c.args.self.now) (λ r. in_section c.args.stratum r) c.args.records.now c.loop-i.i r c.loop-i-test.true c.loop-i.invariant
    (subst (λ e. IsAccepted (setting c.args.self.now) (proof_in c.args.self.now) (in_section c.args.stratum e)) c.index-records-i.is
    (found_none (setting c.args.self.now) (proof_in c.args.self.now) (in_section c.args.stratum r) c.in_ok-failed.failed c.in_default.not-Some c.in_ok-failed.ensures))

pub returns : goal.returns
returns c = no_fault (setting c.args.self.now) (proof_in c.args.self.now) (λ r. in_section c.args.stratum r) c.args.records.now c.loop-i.i c.loop-i-test.false c.loop-i.invariant
