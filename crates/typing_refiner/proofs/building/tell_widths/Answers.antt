use Rattle.std.proofs.Common.{ap, get_or}
use Rattle.std.specs.Prelude.{nat_le}
use Rattle.schema_tree.specs.declared.schema.Pair.{Pair}
use Rattle.typing_refiner.specs.Building.{is_within, told_width, wide_by, wide_one}
use Rattle.typing_refiner.proofs.Widths.{flat_next, map_next}
use Rattle.typing_refiner.proofs.building.tell_widths.Goals as goal

abbrev no_pair : Pair
no_pair = record { node = record { 0 = 0 }; shape = record { 0 = 0 } }

pub loop-pair-preserved : goal.loop-pair-preserved
loop-pair-preserved c = record {
  narrow = λ width give. map_next (is_within width c.args.budget) c.args.pairs.now c.loop-pair.pair-index no_pair _ c.loop-pair.narrow.items _ c.loop-pair-test.true (c.loop-pair.invariant.narrow width give)
      c.in_ok-push.ensures.items (ap (λ w. nat_le w c.args.budget) (c.in_ok-width.ensures width give));
  wide = λ width give. flat_next (λ p. wide_one p (told_width width p) c.args.budget) c.args.pairs.now c.loop-pair.pair-index no_pair _ c.loop-pair.wide.items _ c.loop-pair-test.true (c.loop-pair.invariant.wide width give)
      c.in_ok-push_wide.ensures (ap (λ w. wide_by (nat_le w c.args.budget) (get_or c.args.pairs.now c.loop-pair.pair-index no_pair) w) (c.in_ok-width.ensures width give));
}
