use Rattle.lists.proofs.Members.{item_there}
use Rattle.shape_map.proofs.results.push_more.Goals as goal

pub push_answer-requires : goal.push_answer-requires
push_answer-requires c = c.requires c.answer-item.result (item_there c.args.answers.now c.loop-answer.answer-index c.answer-item.result c.loop-answer-test.true c.answer-item.is)
