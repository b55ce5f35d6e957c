use Rattle.std.proofs.lemmas.Result.{err_from_is_err_and}
use Rattle.std.specs.Option.{option_copied}
use Rattle.node_constraint.proofs.Refusing.{checked, numbered_cause}
use Rattle.node_constraint.proofs.constraint.checked_patterns.Goals as goal

pub returns-in_err-check_numbers : goal.returns-in_err-check_numbers
returns-in_err-check_numbers c =
    let p = err_from_is_err_and c.from_residual.result c.from_residual.ensures.1 in
    rw (p.1, p.2) (numbered_cause (option_copied c.args.datatype) c.args.facets.now c.in_err-check_numbers.field-0.0 c.in_err-check_numbers.ensures)

pub returns : goal.returns
returns c =
    checked (λ v. v.items) (option_copied c.args.datatype) c.args.facets.now c.read_patterns.result c.in_ok-check_numbers.ensures c.read_patterns.ensures
