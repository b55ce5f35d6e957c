use Rattle.std.proofs.Common.{◌≡◌, map, take}
use Rattle.std.specs.List.{AllByRecursion}
use Rattle.serde_json.specs.View.{view}
use Rattle.shexj_writer.proofs.Lists.{IsHeldInner, IsHeldMember, inner_data, member_data}
use Rattle.shexj_writer.proofs.expressions.+expressions.Given as goal

abbrev pub invariant-expr_values-loop-member : goal.invariant-expr_values-loop-member
invariant-expr_values-loop-member l =
    (map view l.all.items ≡ map inner_data (take l.member-index l.members)) × AllByRecursion IsHeldInner (take l.member-index l.members)

abbrev pub invariant-triple_values-loop-member : goal.invariant-triple_values-loop-member
invariant-triple_values-loop-member l =
    (map view l.all.items ≡ map member_data (take l.member-index l.members)) × AllByRecursion IsHeldMember (take l.member-index l.members)
