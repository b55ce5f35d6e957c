use Rattle.std.proofs.Common.{arith, map, subst, sym}
use Rattle.std.specs.Prelude.{Contains, Some}
use Rattle.proof_file.specs.Accepts.{in_section, is_claim, items_of}
use Rattle.proof_checker.specs.Faults.{FirstFault, proof_in, setting}
use Rattle.proof_checker.proofs.Found.{count_fits, count_here, fault_claims, fault_fits, fault_here, fault_none, fault_some, none_here}
use Rattle.proof_checker.proofs.items.ProofInSetting.fault.Goals as goal

pub section_fault-requires-clause-rising : goal.section_fault-requires-clause-rising
section_fault-requires-clause-rising c = λ r h.
    c.requires.ready.rising c.section-item.result (c.loop-section.section-index, c.loop-section-test.true, sym c.section-item.is) r (subst (λ rs. Contains rs r) c.as_slice-records.ensures h)

pub after-requires : goal.after-requires
after-requires c =
    fault_fits (setting c.args.self.now)
    (proof_in c.args.self.now) c.args.self.now.sections.now c.args.self.now.claims.now c.loop-section.section-index c.section-item.result c.loop-section-test.true c.section-item.is c.as_slice-records.result.now c.as_slice-records.ensures c.loop-section.before c.loop-section.invariant.count c.in-Some.fault c.requires.few
    (fault_some (setting c.args.self.now) (proof_in c.args.self.now) (map (λ r. in_section c.section-item.result.stratum r) c.as_slice-records.result.now) c.in_ok-failed.failed c.in-Some.fault c.in-Some.is c.in_ok-failed.ensures)

pub returns-in-Some : goal.returns-in-Some
returns-in-Some c =
    let here = map (λ r. in_section c.section-item.result.stratum r) c.as_slice-records.result.now in
    subst (λ f. FirstFault (setting c.args.self.now) (proof_in c.args.self.now) (items_of (proof_in c.args.self.now)) (Some f)) (sym c.after.ensures)
    (fault_here (setting c.args.self.now) (proof_in c.args.self.now) c.args.self.now.sections.now c.args.self.now.claims.now c.loop-section.section-index c.section-item.result c.loop-section-test.true c.section-item.is c.as_slice-records.result.now c.as_slice-records.ensures c.loop-section.before c.loop-section.invariant.count c.in-Some.fault c.loop-section.invariant.all
    (fault_some (setting c.args.self.now) (proof_in c.args.self.now) here c.in_ok-failed.failed c.in-Some.fault c.in-Some.is c.in_ok-failed.ensures))

pub overflow_add-before : goal.overflow_add-before
overflow_add-before c = let h = count_fits (setting c.args.self.now)
    (proof_in c.args.self.now) c.args.self.now.sections.now c.args.self.now.claims.now c.loop-section.section-index c.section-item.result c.loop-section-test.true c.section-item.is c.as_slice-records.result.now c.as_slice-records.ensures c.loop-section.before c.loop-section.invariant.count c.requires.few in omega (arith, h)

pub loop-section-preserved : goal.loop-section-preserved
loop-section-preserved c =
    record {
      count = count_here (setting c.args.self.now)
          (proof_in c.args.self.now) c.args.self.now.sections.now c.args.self.now.claims.now c.loop-section.section-index c.section-item.result c.loop-section-test.true c.section-item.is c.as_slice-records.result.now c.as_slice-records.ensures c.loop-section.before c.loop-section.invariant.count;
      all = none_here (setting c.args.self.now)
          (proof_in c.args.self.now) c.args.self.now.sections.now c.args.self.now.claims.now c.loop-section.section-index c.section-item.result c.loop-section-test.true c.section-item.is c.as_slice-records.result.now c.as_slice-records.ensures c.loop-section.before c.loop-section.invariant.count c.loop-section.invariant.all
          (fault_none (setting c.args.self.now) (proof_in c.args.self.now) (map (λ r. in_section c.section-item.result.stratum r) c.as_slice-records.result.now) c.in_ok-failed.failed c.in_default.not-Some c.in_ok-failed.ensures);
    }

pub returns-in-Some-failed : goal.returns-in-Some-failed
returns-in-Some-failed c =
    subst (λ f. FirstFault (setting c.args.self.now) (proof_in c.args.self.now) (items_of (proof_in c.args.self.now)) (Some f)) (sym c.after-in-Some-failed.ensures)
    (fault_claims (setting c.args.self.now) (proof_in c.args.self.now) c.args.self.now.sections.now c.args.self.now.claims.now c.loop-section.section-index c.loop-section-test.false c.loop-section.before c.loop-section.invariant.count c.in-Some-failed.fault c.loop-section.invariant.all
    (fault_some (setting c.args.self.now) (proof_in c.args.self.now) (map (λ d. is_claim d) c.args.self.now.claims.now) c.in_ok-failed-2.failed c.in-Some-failed.fault c.in-Some-failed.is c.in_ok-failed-2.ensures))
