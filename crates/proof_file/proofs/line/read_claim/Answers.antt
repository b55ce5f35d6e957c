use Rattle.std.proofs.lemmas.Result.{err_from_is_err_and}
use Rattle.proof_file.proofs.Parts.{no_claim, node_stops, target_stops}
use Rattle.proof_file.proofs.line.read_claim.Goals as goal

pub returns-in_default : goal.returns-in_default
returns-in_default c = no_claim c.args.holds c.args.text.now c.split_once.result c.split_once.ensures.cases c.in_default.is

pub returns-in_err-node : goal.returns-in_err-node
returns-in_err-node c =
    let p = err_from_is_err_and c.from_residual.result c.from_residual.ensures.1 in
    rw (p.1, p.2) (node_stops c.args.holds c.args.text.now c.split_once.result (c.in-Some.node, c.in-Some.target) c.in_err-node.field-0.0 c.split_once.ensures.cases c.in-Some.is c.in_err-node.ensures)

pub returns-in_err-target : goal.returns-in_err-target
returns-in_err-target c =
    let p = err_from_is_err_and c.from_residual-in_err-target.result c.from_residual-in_err-target.ensures.1 in
    rw (p.1, p.2) (target_stops c.args.holds c.args.text.now c.split_once.result (c.in-Some.node, c.in-Some.target) c.in_err-target.field-0.0 c.split_once.ensures.cases c.in-Some.is c.in_err-target.ensures)
