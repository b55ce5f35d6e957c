use Rattle.std.proofs.Common.{sym, true≢false, ◌∙◌}
use Rattle.std.specs.Option.{option_copied}
use Rattle.std.specs.Str.{chars}
use Rattle.node_constraint.proofs.Joining.{found_all, not_plain}
use Rattle.node_constraint.proofs.constraint.facets_hold_for.Goals as goal

pub returns-then-not-plain_facets_hold : goal.returns-then-not-plain_facets_hold
returns-then-not-plain_facets_hold c = (
  λ h. absurd (true≢false (sym h)),
  λ h. absurd (not_plain (chars c.args.text.now) (option_copied c.args.decimal) c.args.facets.now (λ p. true≢false (sym (c.plain_facets_hold.ensures.1 p) ∙ c.if-not-plain_facets_hold.true)) h),
)

pub returns : goal.returns
returns c =
    found_all (chars c.args.text.now) (option_copied c.args.decimal) c.args.facets.now c.args.patterns.now c.all_found.result c.requires.patterns
    (c.plain_facets_hold.ensures.0 c.if-not-plain_facets_hold.false) c.all_found.ensures
