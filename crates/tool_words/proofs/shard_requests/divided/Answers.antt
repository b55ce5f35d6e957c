use Rattle.std.proofs.Common.{◌∙◌}
use Rattle.command_words.proofs.Divided.{are_parts, empty_text, parts, some_text, undivided}
use Rattle.tool_words.proofs.ShardWords.{divides, import_by}
use Rattle.tool_words.proofs.shard_requests.divided.Goals as goal

pub returns-in_err-nodes-clause-missed : goal.returns-in_err-nodes-clause-missed
returns-in_err-nodes-clause-missed c = λ none s d. undivided c.args.word.now c.in_err-nodes.ensures.cases (import_by s) (divides c.args.word.now s d)

pub returns-then-is_empty-clause-missed : goal.returns-then-is_empty-clause-missed
returns-then-is_empty-clause-missed c = λ none s d.
    d.nodes ((are_parts c.args.word.now c.in_ok-nodes.nodes.now c.in_ok-nodes.shard.now (import_by s)
    (parts c.args.word.now c.in_ok-nodes.nodes.now c.in_ok-nodes.shard.now c.in_ok-nodes.ensures.cases) (divides c.args.word.now s d)).0
    ∙ empty_text c.in_ok-nodes.nodes.now c.is_empty.result c.is_empty.ensures c.if-is_empty.true)

pub returns-then-is_empty-2-clause-missed : goal.returns-then-is_empty-2-clause-missed
returns-then-is_empty-2-clause-missed c = λ none s d.
    d.shard ((are_parts c.args.word.now c.in_ok-nodes.nodes.now c.in_ok-nodes.shard.now (import_by s)
    (parts c.args.word.now c.in_ok-nodes.nodes.now c.in_ok-nodes.shard.now c.in_ok-nodes.ensures.cases) (divides c.args.word.now s d)).1
    ∙ empty_text c.in_ok-nodes.shard.now c.is_empty-2.result c.is_empty-2.ensures c.if-is_empty-2.true)

pub returns-clause-found : goal.returns-clause-found
returns-clause-found c =
    let p = parts c.args.word.now c.in_ok-nodes.nodes.now c.in_ok-nodes.shard.now c.in_ok-nodes.ensures.cases in
    record {
      whole = p.whole;
      last = p.last;
      nodes = some_text c.in_ok-nodes.nodes.now c.is_empty.result c.is_empty.ensures c.if-is_empty.false;
      shard = some_text c.in_ok-nodes.shard.now c.is_empty-2.result c.is_empty-2.ensures c.if-is_empty-2.false;
    }
