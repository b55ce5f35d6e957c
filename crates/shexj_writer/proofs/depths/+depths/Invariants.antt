use Rattle.std.proofs.Common.{◌≡◌, drop, nat_le}
use Rattle.serde_json.specs.Data.{items_depth, members_depth}
use Rattle.serde_json.specs.View.{items_view, members_view}
use Rattle.shexj_writer.proofs.depths.+depths.Given as goal

abbrev pub invariant-are_items_within-loop-item : goal.invariant-are_items_within-loop-item
invariant-are_items_within-loop-item l =
    nat_le (items_depth (items_view l.item-items)) l.levels ≡ nat_le (items_depth (items_view (drop l.item-index l.item-items))) l.levels

abbrev pub invariant-are_members_within-loop-member : goal.invariant-are_members_within-loop-member
invariant-are_members_within-loop-member l =
    nat_le (members_depth (members_view l.members.entries)) l.levels ≡ nat_le (members_depth (members_view l.member-iterator)) l.levels
