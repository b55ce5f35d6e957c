use Rattle.std.proofs.Common.{rules, ◌≡◌, ◌++◌, ◌<◌, string_bytes, arith}
use Rattle.std.specs.List.{flat_map, range_with_len}
use Rattle.shex_drill.specs.Texts.{line_of}
use Rattle.shex_drill.proofs.Lines.{one_more}
use Rattle.shex_drill.proofs.making.push_lines.Goals as goal

pub loop-item-preserved : goal.loop-item-preserved
loop-item-preserved c =
    let below : c.loop-item.item < c.args.items = search rules in
    let pushed : string_bytes c.push_line.new.out ≡ string_bytes c.loop-item.out ++ line_of c.args.items c.loop-item.item = search rules in (
      omega arith,
      one_more (line_of c.args.items) c.args.items c.loop-item.item (string_bytes c.loop-item.out) (string_bytes c.push_line.new.out)
          (string_bytes c.args.out.now ++ flat_map (line_of c.args.items) (range_with_len 0 c.args.items)) below c.loop-item.invariant.1 pushed,
    )
