use Rattle.std.proofs.Common.{subst, sym}
use Rattle.tool_words.specs.Lent.{lining_of}
use Rattle.shard_answers.specs.Answers.{IsLined}
use Rattle.shard_answers.proofs.lines.lines.Goals as goal

pub returns-clause-answer : goal.returns-clause-answer
returns-clause-answer g c = (c.told.ensures.status, subst (IsLined (g.F.Files.told c.args.files.now) (lining_of c.args.lining.now)) (sym c.told.ensures.text) c.in_ok-text.ensures.lines)
