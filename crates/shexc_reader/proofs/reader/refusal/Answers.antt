use Rattle.std.proofs.Common.{sym, ◌∙◌, inr}
use Rattle.rdf_cursor.specs.Cursors.{ahead}
use Rattle.shexc_reader.proofs.Refusing.{action, first_word, second_word, third_word, syntax}
use Rattle.shexc_reader.proofs.reader.refusal.Goals as goal

pub returns-then-is_at : goal.returns-then-is_at
returns-then-is_at c = inr (action (ahead c.args.c.now) c.args.at (sym c.is_at.ensures ∙ c.if-is_at.true))

pub returns-then-is_at-2 : goal.returns-then-is_at-2
returns-then-is_at-2 c = first_word (ahead c.args.c.now) c.args.at c.left_out.result (sym c.is_at.ensures ∙ c.if-is_at.false) (sym c.is_at-else-is_at.ensures ∙ c.if-is_at-2.true) c.left_out.ensures

pub returns-then-is_at-3 : goal.returns-then-is_at-3
returns-then-is_at-3 c = second_word (ahead c.args.c.now) c.args.at c.left_out-then-is_at-3.result (sym c.is_at.ensures ∙ c.if-is_at.false) (sym c.is_at-else-is_at.ensures ∙ c.if-is_at-2.false)
    (sym c.is_at-else-is_at-2.ensures ∙ c.if-is_at-3.true) c.left_out-then-is_at-3.ensures

pub returns-then-is_at-4 : goal.returns-then-is_at-4
returns-then-is_at-4 c = third_word (ahead c.args.c.now) c.args.at c.left_out-then-is_at-4.result (sym c.is_at.ensures ∙ c.if-is_at.false) (sym c.is_at-else-is_at.ensures ∙ c.if-is_at-2.false)
    (sym c.is_at-else-is_at-2.ensures ∙ c.if-is_at-3.false) (sym c.is_at-else-is_at-3.ensures ∙ c.if-is_at-4.true) c.left_out-then-is_at-4.ensures

pub returns-else-is_at-4 : goal.returns-else-is_at-4
returns-else-is_at-4 c = inr (syntax (ahead c.args.c.now) c.args.at (sym c.is_at.ensures ∙ c.if-is_at.false) (sym c.is_at-else-is_at.ensures ∙ c.if-is_at-2.false)
    (sym c.is_at-else-is_at-2.ensures ∙ c.if-is_at-3.false) (sym c.is_at-else-is_at-3.ensures ∙ c.if-is_at-4.false))
