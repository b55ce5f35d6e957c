use Rattle.std.proofs.Common.{◌≡◌, ◌++◌, take, codes}
use Rattle.std.specs.List.{flat_map}
use Rattle.shape_map.specs.Results.{answer_text}
use Rattle.shape_map.proofs.results.push_more.Given as goal

abbrev pub invariant-loop-answer : goal.invariant-loop-answer
invariant-loop-answer l = record {
  written : l.out.items ≡ l.fn.out.items ++ flat_map (λ a. codes ",\n" ++ answer_text l.terms a) (take l.answer-index l.answers);
}
