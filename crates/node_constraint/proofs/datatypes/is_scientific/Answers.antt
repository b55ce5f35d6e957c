use Rattle.node_constraint.proofs.Numbers.{no_letter, parts_told}
use Rattle.node_constraint.proofs.datatypes.is_scientific.Goals as goal

pub returns-in-Some : goal.returns-in-Some
returns-in-Some c =
    let parts = c.in-Some.ensures.byte c.requires (λ w o h. h) in
    parts_told c.args.letter c.args.text.now c.in-Some.mantissa.now c.in-Some.exponent.now c.are_scientific.result c.are_scientific.ensures parts.0 parts.1

pub returns-in-None : goal.returns-in-None
returns-in-None c = no_letter c.args.letter c.args.text.now (c.in-None.ensures.byte c.requires (λ w o h. h))
