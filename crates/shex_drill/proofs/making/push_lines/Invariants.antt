use Rattle.std.proofs.Common.{◌≡◌, ◌++◌, ◌≤◌, string_bytes, ◌-◌}
use Rattle.std.specs.List.{flat_map, range_with_len}
use Rattle.shex_drill.specs.Texts.{line_of}
use Rattle.shex_drill.proofs.making.push_lines.Given as goal

abbrev pub invariant-loop-item : goal.invariant-loop-item
invariant-loop-item l =
    (l.item ≤ l.fn.items) × (string_bytes l.out ++ flat_map (line_of l.fn.items) (range_with_len l.item (l.fn.items - l.item)) ≡
    string_bytes l.fn.out ++ flat_map (line_of l.fn.items) (range_with_len 0 l.fn.items))
