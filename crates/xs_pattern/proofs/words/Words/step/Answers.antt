use Rattle.std.proofs.Common.{◌∙◌, ap, length, false}
use Rattle.xs_pattern.specs.Marked.{all_known, inside, marks_of, or_marks}
use Rattle.xs_pattern.specs.Way.{next, size}
use Rattle.xs_pattern.proofs.Stepped.{behind_are, stepped}
use Rattle.xs_pattern.proofs.words.Words.step.Goals as goal

pub returns : goal.returns
returns c = λ ss w are.
    stepped ss w c.args.self.now are c.args.flags c.args.start c.args.set c.behind_all-all.result c.having.result c.args.c c.requires
    (λ none. c.behind_all-all.ensures.none none ∙ ap (λ p. p.enters) c.place.ensures)
    (c.behind_all-all.ensures.all (length ss) w (behind_are ss w c.args.self.now are _ c.deref.ensures.value)
    ∙ ap (λ p. or_marks (marks_of (size w) p.enters) (next inside (all_known (length ss)) w false (marks_of (size w) c.args.set))) c.place.ensures)
    c.having.ensures
