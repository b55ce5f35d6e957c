use Rattle.std.proofs.Common.{subst, sym}
use Rattle.tool_words.specs.Lent.{following_of}
use Rattle.shard_answers.specs.Answers.{AreWaysOf}
use Rattle.shard_answers.proofs.followed.followed.Goals as goal

pub returns-clause-answer : goal.returns-clause-answer
returns-clause-answer g c = (c.told.ensures.status, subst (AreWaysOf (g.F.Files.told c.args.files.now) (following_of c.args.following.now)) (sym c.told.ensures.text) c.in_ok-text.ensures.ways)
