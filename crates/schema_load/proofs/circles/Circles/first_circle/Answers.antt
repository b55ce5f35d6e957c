use Rattle.std.proofs.Common.{arith}
use Rattle.schema_load.specs.Circles.{IsRound}
use Rattle.schema_load.proofs.Firsts.{first_is, none_at_all, none_more, not_so}
use Rattle.schema_load.proofs.Walks.{round_within}
use Rattle.schema_load.proofs.circles.Circles.first_circle.Goals as goal

pub returns-then-is_circle : goal.returns-then-is_circle
returns-then-is_circle c = first_is (IsRound c.args.self.now.parts.now c.args.kind) c.loop-place.place c.loop-place.invariant (c.is_circle.ensures.0 c.if-is_circle.true)

pub loop-place-preserved : goal.loop-place-preserved
loop-place-preserved c = none_more (IsRound c.args.self.now.parts.now c.args.kind) c.loop-place.place c.loop-place.invariant (not_so c.is_circle.result c.is_circle.ensures c.if-is_circle.false)

pub returns : goal.returns
returns c = none_at_all (IsRound c.args.self.now.parts.now c.args.kind) _ c.loop-place.place (let h = c.loop-place-test.false in omega arith) c.loop-place.invariant (round_within c.args.self.now.parts.now c.args.kind)
