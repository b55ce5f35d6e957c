use Rattle.std.proofs.Common.{◌≡◌, ◌++◌, take}
use Rattle.shex_tools.specs.Cycles.{shape_lines}
use Rattle.shex_tools.proofs.cycles.push_shapes.Given as goal

-- the lines of the Shapes so far
abbrev pub invariant-loop-shape : goal.invariant-loop-shape
invariant-loop-shape l = l.out.items ≡ l.fn.out.items ++ shape_lines l.names (take l.shape-index l.fn.shapes)
