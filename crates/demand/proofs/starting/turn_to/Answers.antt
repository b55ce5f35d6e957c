use Rattle.std.proofs.Common.{subst, sym}
use Rattle.demand.specs.Links.{AreShapesIn}
use Rattle.demand.proofs.starting.turn_to.Goals as goal

pub returns-then-expr-wanted-clause-shapes : goal.returns-then-expr-wanted-clause-shapes
returns-then-expr-wanted-clause-shapes c = subst (λ n. AreShapesIn c.args.schema.now (record { 0 = n }) c.args.shapes.now) c.if-expr-wanted.true c.requires.shapes

pub returns-clause-shapes : goal.returns-clause-shapes
returns-clause-shapes c = subst (λ xs. AreShapesIn c.args.schema.now c.args.wanted xs) (sym c.replace.ensures.after) c.in_ok-others.ensures
