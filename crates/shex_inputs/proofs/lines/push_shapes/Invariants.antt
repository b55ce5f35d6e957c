use Rattle.std.proofs.Common.{◌≡◌, ◌++◌, codes, string_bytes, take}
use Rattle.std.specs.Fmt.{decimal}
use Rattle.std.specs.List.{flat_map}
use Rattle.shex_inputs.proofs.lines.push_shapes.Given as goal

abbrev pub invariant-loop-shape : goal.invariant-loop-shape
invariant-loop-shape l = string_bytes l.text ≡ string_bytes l.fn.text ++ flat_map (λ i. codes ",#" ++ decimal i.0) (take l.shape-index l.shapes)
