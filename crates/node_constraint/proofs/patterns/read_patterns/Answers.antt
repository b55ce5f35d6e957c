use Rattle.std.proofs.Common.{◌≡◌, ◌+◌, [], ◌∷◌, ◌++◌, ap, rules, subst, sym, take}
use Rattle.std.proofs.lemmas.Result.{err_from_is_err_and}
use Rattle.node_constraint.specs.Held.{AreReadFrom}
use Rattle.node_constraint.specs.Making.{pattern_in, patterns_in}
use Rattle.node_constraint.proofs.Turning.{none_in, none_read, one_read, one_stops}
use Rattle.node_constraint.proofs.patterns.read_patterns.Goals as goal
use Rattle.node_constraint.proofs.patterns.read_patterns.Goals.{in-Pattern+in_ok-pattern+in_ok-push, in_default}

pub returns-in_err-pattern : goal.returns-in_err-pattern
returns-in_err-pattern c =
    let p = err_from_is_err_and c.from_residual.result c.from_residual.ensures.1 in
    rw (p.1, p.2) (one_stops c.args.facets.now c.loop-facet.patterns.items c.loop-facet.facet-index c.facet-item.result c.loop-facet-test.true c.facet-item.is c.loop-facet.invariant
    (record { pattern = c.in-Pattern.text; flags = c.in-Pattern.flags }) c.in_err-pattern.field-0.0 (ap pattern_in c.in-Pattern.is) c.in_err-pattern.ensures)

pub loop-facet-preserved : goal.loop-facet-preserved
loop-facet-preserved c = elim c.match-facet.branch [
  | in-Pattern+in_ok-pattern+in_ok-push w ↦
      let e : c.match-facet.patterns.items ≡ c.loop-facet.patterns.items ++ w.in_ok-pattern.pattern ∷ [] = first_of (cc, search rules) in
      subst (λ ps. AreReadFrom (patterns_in (take (c.loop-facet.facet-index + 1) c.args.facets.now)) ps) (sym e)
      (one_read c.args.facets.now c.loop-facet.patterns.items c.loop-facet.facet-index c.facet-item.result c.loop-facet-test.true c.facet-item.is c.loop-facet.invariant
      (record { pattern = w.in-Pattern.text; flags = w.in-Pattern.flags }) w.in_ok-pattern.pattern (ap pattern_in w.in-Pattern.is) w.in_ok-pattern.ensures)
  | in_default w ↦
      rw w.patterns-is
      (none_read c.args.facets.now c.loop-facet.patterns.items c.loop-facet.facet-index c.facet-item.result c.loop-facet-test.true c.facet-item.is c.loop-facet.invariant
      (none_in c.facet-item.result w.in_default.not-Pattern))
]
