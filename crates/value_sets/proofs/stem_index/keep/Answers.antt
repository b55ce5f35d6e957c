use Rattle.std.proofs.Common.{rules}
use Rattle.value_sets.proofs.Apart.{put_behind}
use Rattle.value_sets.proofs.stem_index.keep.Goals as goal

pub returns-in_ok-push : goal.returns-in_ok-push
returns-in_ok-push c =
    put_behind c.args.kept.now.items c.as_slice.result.now _ c.args.stem c.begins_with_last.result c.as_slice.ensures.value c.begins_with_last.ensures (search rules) c.in_ok-push.ensures.items
