use Rattle.std.proofs.Common.{subst, sym}
use Rattle.tool_words.specs.Lent.{reaching_of}
use Rattle.shard_answers.specs.Answers.{AreNodesOf}
use Rattle.shard_answers.proofs.reached.reached.Goals as goal

pub returns-clause-answer : goal.returns-clause-answer
returns-clause-answer g c = (c.told.ensures.status, subst (AreNodesOf (g.F.Files.told c.args.files.now) (reaching_of c.args.reaching.now)) (sym c.told.ensures.text) c.in_ok-text.ensures.nodes)
