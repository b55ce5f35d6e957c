use Rattle.std.proofs.Common.{Contains, sym, subst}
use Rattle.schema_tree.specs.Loaded.{RefersBelow}
use Rattle.library_tests.proofs.verdicts.refers_below.Goals as goal

pub returns-in-And : goal.returns-in-And
returns-in-And c seen =
    subst (λ x. RefersBelow c.args.schema.now c.args.number x) (sym c.in-And.is)
    (λ e k. c.are_below.ensures seen e (subst (λ xs. Contains xs e) (sym c.as_slice.ensures) k))

pub returns-in-Or : goal.returns-in-Or
returns-in-Or c seen =
    subst (λ x. RefersBelow c.args.schema.now c.args.number x) (sym c.in-Or.is)
    (λ e k. c.are_below-in-Or.ensures seen e (subst (λ xs. Contains xs e) (sym c.as_slice-in-Or.ensures) k))
