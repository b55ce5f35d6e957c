use Rattle.command_words.proofs.Going.{Goes}
use Rattle.command_words.proofs.imports.read_imports.Given as goal

abbrev pub invariant-loop-word : goal.invariant-loop-word
invariant-loop-word l = Goes l.words l.word-index l.given l.imports.items
