use Rattle.std.proofs.Common.{map, take}
use Rattle.std.specs.List.{AllZip}
use Rattle.tool_words.specs.Lent.{shard_of}
use Rattle.tool_words.specs.Requests.{NamesBoth}
use Rattle.tool_words.proofs.shard_requests.read_shards.Given as goal

abbrev pub invariant-loop-word : goal.invariant-loop-word
invariant-loop-word l = AllZip NamesBoth (map (λ w. w.now) (take l.word-index l.words)) (map shard_of l.shards.items)
