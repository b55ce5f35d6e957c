use Rattle.std.proofs.Common.{◌∙◌, sym}
use Rattle.rdf_lex.proofs.Unescaped.{reads_itself}
use Rattle.rdf_lex.proofs.escapes.read_body.Goals as goal

pub returns-then-stands_for_itself : goal.returns-then-stands_for_itself
returns-then-stands_for_itself c =
    reads_itself c.args.inside c.args.body.now c.in_ok-from_str.field-0 c.utf8.body (sym c.stands_for_itself.ensures ∙ c.if-stands_for_itself.true) c.in_ok-from_str.ensures.ok
