use Rattle.std.proofs.Common.{◌∙◌, ◌++◌, ◌∷◌, [], ap, sym}
use Rattle.xs_pattern.specs.Marked.{marks_of}
use Rattle.xs_pattern.proofs.Bitwise.{marked, unmarked}
use Rattle.xs_pattern.proofs.words.with_mark.Goals as goal

pub returns-then-mark-clause-shown : goal.returns-then-mark-clause-shown
returns-then-mark-clause-shown c =
    (marked c.args.position c.args.word c.requires.within).0 ∙ ap (λ v. marks_of c.args.position c.args.word ++ v ∷ []) (sym c.if-mark.true)

pub returns-then-mark-clause-small : goal.returns-then-mark-clause-small
returns-then-mark-clause-small c = (marked c.args.position c.args.word c.requires.within).1 c.requires.small

pub returns-else-mark-clause-shown : goal.returns-else-mark-clause-shown
returns-else-mark-clause-shown c =
    (unmarked c.args.position c.args.word c.requires.small).0 ∙ ap (λ v. marks_of c.args.position c.args.word ++ v ∷ []) (sym c.if-mark.false)
