use Rattle.std.proofs.Common.{◌∙◌, ◌||◌, ap, not}
use Rattle.std.specs.Prelude.{bit_and, ◌==◌}
use Rattle.xs_pattern.proofs.Stepped.{left}
use Rattle.xs_pattern.proofs.words.Words.leaves.Goals as goal

pub returns : goal.returns
returns c = λ ss w are.
    left ss w c.args.self.now are c.args.start c.args.end c.args.set c.leaves.result c.requires
    (c.leaves.ensures ∙ ap (λ p. not (bit_and c.args.set p.ends == 0) || p.passes) c.place.ensures)
