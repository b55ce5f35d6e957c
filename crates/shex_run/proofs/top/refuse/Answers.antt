use Rattle.std.proofs.Common.{string_bytes, Global}
use Rattle.shex_run.proofs.Ended.{printed}
use Rattle.shex_run.proofs.top.refuse.Goals as goal

pub returns-in_default : goal.returns-in_default
returns-in_default g c = printed (string_bytes {Z = Global}) c.words.result c.args.error c.in_default.not-Memory c.words.ensures _ _ _ _ _ (λ line h. c.say.ensures line h)
