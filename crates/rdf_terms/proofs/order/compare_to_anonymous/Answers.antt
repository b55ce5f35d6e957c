use Rattle.std.proofs.Common.{◌≤◌, arith, sym, ◌∙◌}
use Rattle.rdf_terms.proofs.Comparing.{bare_compared, marked_behind}
use Rattle.rdf_terms.proofs.order.compare_to_anonymous.Goals as goal

pub returns-then-begins_with_anon : goal.returns-then-begins_with_anon
returns-then-begins_with_anon c =
    let last : c.args._number ≤ 4294967295 = omega (arith, c.ranges._number.fits) in
    marked_behind c.args.label.now c.args._number last (sym c.begins_with_anon.ensures ∙ c.if-begins_with_anon.true)

pub returns-else-begins_with_anon : goal.returns-else-begins_with_anon
returns-else-begins_with_anon c =
    c.cmp.ensures ∙ bare_compared c.args.label.now _ c.args._number c.as_str.ensures.bytes (sym c.begins_with_anon.ensures ∙ c.if-begins_with_anon.false)
