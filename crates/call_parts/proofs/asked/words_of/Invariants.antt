use Rattle.std.proofs.Common.{map, string_bytes, take, ◌≡◌}
use Rattle.call_parts.specs.Given.{bytes_of_words}
use Rattle.call_parts.proofs.asked.words_of.Given as goal

abbrev pub invariant-loop-word : goal.invariant-loop-word
invariant-loop-word l = map string_bytes l.words.items ≡ bytes_of_words (take l.word-index l.given)
