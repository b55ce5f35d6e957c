-- Where contents are told, a call about data in shards is answered, or a file of it is refused or absent, and not two of these.
use Rattle.std.specs.Prelude.{ℕ, List, Option, Some}
use Rattle.tool_words.specs.Asked.{ShardCall}
use Rattle.shard_answers.specs.declared.error.CallFile.{CallFile}
use Rattle.shard_answers.specs.declared.error.ShardRefusal.{ShardRefusal}
use Rattle.shard_answers.specs.Answers.{IsAnswer}
use Rattle.shard_answers.specs.Refusals.{IsAbsent, IsRefused}

-- what is answered is not refused, and no file of it is absent
abbrev pub AnsweredIsNotLeft : Type 0
AnsweredIsNotLeft =
    (contents : List ℕ → Option (List ℕ)) (call : ShardCall) (status : ℕ) (text : List ℕ) → IsAnswer (Some contents) call status text →
    ((refusal : ShardRefusal) → ¬ IsRefused (Some contents) call refusal) × ((file : CallFile) → ¬ IsAbsent (Some contents) call file)

-- where a file is refused, none is absent
abbrev pub RefusedIsNotAbsent : Type 0
RefusedIsNotAbsent =
    (contents : List ℕ → Option (List ℕ)) (call : ShardCall) (refusal : ShardRefusal) → IsRefused (Some contents) call refusal → (file : CallFile) → ¬ IsAbsent (Some contents) call file
