use Rattle.std.proofs.Common.{refl, sym, true≢false, ◌∙◌}
use Rattle.std.specs.Option.{option_copied}
use Rattle.node_constraint.proofs.Refusing.{floats, not_comparable}
use Rattle.node_constraint.proofs.constraint.check_numbers.Goals as goal

pub returns-then-any_on_floats : goal.returns-then-any_on_floats
returns-then-any_on_floats c =
    (floats c.is_float.result (option_copied c.args.datatype) c.args.facets.now c.is_float.ensures).0 (c.if-any_on_floats.ensures.0 refl)

pub returns-then-not-are_comparable : goal.returns-then-not-are_comparable
returns-then-not-are_comparable c = (
  λ h. true≢false (sym (c.if-any_on_floats.ensures.1 ((floats c.is_float.result (option_copied c.args.datatype) c.args.facets.now c.is_float.ensures).1 h))),
  not_comparable c.args.facets.now (sym c.are_comparable.ensures ∙ c.if-not-are_comparable.true),
)

pub returns : goal.returns
returns c = (
  λ h. true≢false (sym (c.if-any_on_floats.ensures.1 ((floats c.is_float.result (option_copied c.args.datatype) c.args.facets.now c.is_float.ensures).1 h))),
  sym c.are_comparable.ensures ∙ c.if-not-are_comparable.false,
)
