use Rattle.std.proofs.Common.{ap, sym, map}
use Rattle.xs_pattern.specs.Regex.{chars_of}
use Rattle.xs_pattern.specs.Unrolling.{sets}
use Rattle.xs_pattern.proofs.Children.{is_group, is_repeat}
use Rattle.xs_pattern.proofs.Ways.{on_ok}
use Rattle.xs_pattern.proofs.characters.+copied.Goals as goal

pub add_sets-returns-in-Group : goal.add_sets-returns-in-Group
add_sets-returns-in-Group t c =
    on_ok c.add_sets.result (map chars_of c.add_sets.new.all.items) (map chars_of c.args.all.now.items) _ _
    (ap sets (sym (is_group _ _ _ c.in-Group.is c.deref.ensures))) c.add_sets.ensures

pub add_sets-returns-in-Repeat : goal.add_sets-returns-in-Repeat
add_sets-returns-in-Repeat t c =
    on_ok c.add_repeated_sets.result (map chars_of c.add_repeated_sets.new.all.items) (map chars_of c.args.all.now.items) _ _
    (ap sets (sym (is_repeat _ _ _ _ _ c.in-Repeat.is c.deref-in-Repeat.ensures))) c.add_repeated_sets.ensures
