use Rattle.std.proofs.Common.{sym, ◌∙◌, true≢false}
use Rattle.std.specs.Option.{option_copied}
use Rattle.std.specs.Str.{chars}
use Rattle.node_constraint.specs.Held.{SatPlain}
use Rattle.node_constraint.proofs.Turning.{comparable_at, ends_here, goes_on}
use Rattle.node_constraint.proofs.constraint.plain_facets_hold.Goals as goal

pub holds-requires-clause-comparable : goal.holds-requires-clause-comparable
holds-requires-clause-comparable c =
    comparable_at c.args.facets.now c.loop-facet.facet-index c.facet-item.result c.loop-facet-test.true c.facet-item.is c.requires.comparable

pub loop-facet-preserved : goal.loop-facet-preserved
loop-facet-preserved c =
    goes_on (λ f. SatPlain f (chars c.args.text.now) (option_copied c.args.decimal)) c.args.facets.now c.loop-facet.facet-index c.facet-item.result c.loop-facet-test.true c.facet-item.is
    (c.holds.ensures.0 c.if-not-holds.false) _ c.loop-facet.invariant

pub returns-then-not-holds : goal.returns-then-not-holds
returns-then-not-holds c =
    ends_here (λ f. SatPlain f (chars c.args.text.now) (option_copied c.args.decimal)) c.args.facets.now c.loop-facet.facet-index c.facet-item.result c.loop-facet-test.true c.facet-item.is
    (λ h. true≢false (sym (c.holds.ensures.1 h) ∙ c.if-not-holds.true)) _ c.loop-facet.invariant
