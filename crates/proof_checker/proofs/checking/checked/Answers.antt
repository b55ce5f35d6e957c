use Rattle.std.proofs.Common.{ap, arith, Err, ◌∙◌, subst, sym}
use Rattle.std.specs.Prelude.{Contains}
use Rattle.proof_file.specs.Accepts.{AreAccepted, AreNumbers, setting_of}
use Rattle.proof_checker.specs.Checks.{CannotTake, TakesUp}
use Rattle.proof_checker.specs.Current.{AreUsed}
use Rattle.proof_file.specs.Answers.{AreClaimed}
use Rattle.proof_checker.proofs.Checked.{accepted_all, claims_in, items_fit, rejected_for, sections_rise, still_sealed}
use Rattle.proof_checker.proofs.checking.checked.Goals as goal

pub returns-in-Err-Full-clause-fails : goal.returns-in-Err-Full-clause-fails
returns-in-Err-Full-clause-fails c =
    record { proof = c.in-Ok.read; text = c.in-Ok.ensures.found; current = c.in_ok-strata.ensures.current; full = subst (λ ls. CannotTake c.args.terms.now ls) c.into_vec.ensures (c.in-Err-Full.ensures.full (ap (λ e. Err e) c.in-Err-Full.field-0-is)) }

pub first_fault-requires-clause-few_items : goal.first_fault-requires-clause-few_items
first_fault-requires-clause-few_items c =
    items_fit c.in-Ok.read c.as_slice-sections.result.now c.as_slice.result.now c.as_slice-sections.ensures c.as_slice.ensures c.lines_are_few.ensures c.args.proof.now c.in-Ok.ensures.found (let n = c.size-fits.ensures in let m = c.size-fits.type_inv in omega (arith, n, m))

pub first_fault-requires-clause-sealed : goal.first_fault-requires-clause-sealed
first_fault-requires-clause-sealed c = still_sealed c.sealing_outlives_growth.ensures c.args.terms.now c.take_up.new.terms c.args.graph.now c.take_up.ensures.kept c.requires.numbers c.requires.sealed

pub first_fault-requires-clause-rising : goal.first_fault-requires-clause-rising
first_fault-requires-clause-rising c =
    sections_rise c.in-Ok.read c.as_slice-sections.result.now c.as_slice.result.now c.as_slice-sections.ensures c.as_slice.ensures c.args.proof.now c.in-Ok.ensures.found

pub returns-in-Some-clause-fails : goal.returns-in-Some-clause-fails
returns-in-Some-clause-fails c =
    rejected_for c.in-Ok.read c.as_slice-sections.result.now c.as_slice.result.now c.as_slice-sections.ensures c.as_slice.ensures c.list.result.now c.args.schema.now c.args.files.now c.args.terms.now c.take_up.new.terms c.args.graph.now.triples c.args.proof.now c.in-Ok-take_up.nodes.items c.as_slice-nodes.result.now c.as_slice-nodes.ensures.value
    (record { text = c.in-Ok.ensures.found; table = subst (λ ls. TakesUp c.args.terms.now ls c.take_up.new.terms) c.into_vec.ensures c.in-Ok-take_up.ensures.table; numbers = subst (λ ls. AreNumbers c.take_up.new.terms ls c.in-Ok-take_up.nodes.items) c.into_vec.ensures c.in-Ok-take_up.ensures.numbers })
    c.in_ok-strata.ensures.current (subst (λ f. AreUsed c.args.schema.now c.in-Ok.read.head f) (sym c.list.ensures) c.in_ok-strata.ensures.used) c.in_ok-fault.fault c.in-Some.fault c.in-Some.is c.in_ok-fault.ensures

pub answers-requires : goal.answers-requires
answers-requires c = λ claim held.
    claims_in c.in-Ok.read c.as_slice-sections.result.now c.as_slice.result.now c.as_slice-sections.ensures c.as_slice.ensures (setting_of c.list.result.now c.args.schema.now c.take_up.new.terms c.args.graph.now.triples c.as_slice-nodes.result.now) (accepted_all c.in-Ok.read c.as_slice-sections.result.now c.as_slice.result.now c.as_slice-sections.ensures c.as_slice.ensures c.list.result.now c.args.schema.now c.take_up.new.terms c.args.graph.now.triples c.as_slice-nodes.result.now c.in_ok-fault.fault c.in_default.not-Some c.in_ok-fault.ensures) claim (subst (λ xs. Contains xs claim) (c.into_vec-2.ensures ∙ sym c.as_slice.ensures) held)

pub returns-clause-accepted : goal.returns-clause-accepted
returns-clause-accepted c =
    record {
      strata = c.list.result.now;
      found = record {
        proof = c.in-Ok.read;
        nodes = c.in-Ok-take_up.nodes.items;
        read = (record { text = c.in-Ok.ensures.found; table = subst (λ ls. TakesUp c.args.terms.now ls c.take_up.new.terms) c.into_vec.ensures c.in-Ok-take_up.ensures.table; numbers = subst (λ ls. AreNumbers c.take_up.new.terms ls c.in-Ok-take_up.nodes.items) c.into_vec.ensures c.in-Ok-take_up.ensures.numbers });
        accepted = subst (λ ns. AreAccepted (setting_of c.list.result.now c.args.schema.now c.take_up.new.terms c.args.graph.now.triples ns) c.in-Ok.read) c.as_slice-nodes.ensures.value (accepted_all c.in-Ok.read c.as_slice-sections.result.now c.as_slice.result.now c.as_slice-sections.ensures c.as_slice.ensures c.list.result.now c.args.schema.now c.take_up.new.terms c.args.graph.now.triples c.as_slice-nodes.result.now c.in_ok-fault.fault c.in_default.not-Some c.in_ok-fault.ensures);
        claims = subst (λ given. AreClaimed c.in-Ok-take_up.nodes.items c.in-Ok.read.claims given) (sym c.of.ensures)
            (subst (λ cs. AreClaimed c.in-Ok-take_up.nodes.items cs c.in_ok-answers.field-0.items) c.into_vec-2.ensures
            (subst (λ ns. AreClaimed ns c.into_vec-2.result.items c.in_ok-answers.field-0.items) c.as_slice-nodes.ensures.value c.in_ok-answers.ensures));
      };
      current = c.in_ok-strata.ensures.current;
      used = subst (λ f. AreUsed c.args.schema.now c.in-Ok.read.head f) (sym c.list.ensures) c.in_ok-strata.ensures.used;
    }
