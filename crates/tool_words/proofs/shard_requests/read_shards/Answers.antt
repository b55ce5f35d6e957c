use Rattle.std.proofs.Common.{Bor, List, [], ℕ, map, refl, subst, sym, ap}
use Rattle.std.proofs.lemmas.List.{take_all}
use Rattle.std.specs.List.{AllZip}
use Rattle.tool_words.specs.Lent.{shard_of}
use Rattle.tool_words.specs.Requests.{NamesBoth}
use Rattle.tool_words.proofs.ShardWords.{named_next, none_named}
use Rattle.tool_words.proofs.shard_requests.read_shards.Goals as goal

abbrev nothing : Bor (List ℕ)
nothing = record { ref_ptr = (0, 0); now = [] }

pub loop-word-preserved : goal.loop-word-preserved
loop-word-preserved c =
    named_next c.args.words.now c.loop-word.word-index nothing c.loop-word.shards.items c.push.new.self.items c.in-Some.files
    c.loop-word-test.true c.loop-word.invariant c.in-Some.ensures.found c.in_ok-push.ensures.items

pub returns-in_default-clause-fault : goal.returns-in_default-clause-fault
returns-in_default-clause-fault c =
    (refl, λ ss. none_named c.args.words.now c.loop-word.word-index nothing ss c.loop-word-test.true (c.in_default.ensures.missed refl))

pub returns-clause-ok : goal.returns-clause-ok
returns-clause-ok c =
    subst (λ ws. AllZip NamesBoth (map (λ w. w.now) ws) (map shard_of c.loop-word.shards.items)) (take_all c.loop-word.word-index c.args.words.now c.loop-word-test.false) c.loop-word.invariant
