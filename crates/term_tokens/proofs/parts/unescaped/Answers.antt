use Rattle.std.proofs.Common.{refl}
use Rattle.rdf_cursor.specs.Lent.{spelled}
use Rattle.term_tokens.proofs.Meanings.{unescaped, not_unescaped}
use Rattle.term_tokens.proofs.parts.unescaped.Goals as goal

pub returns-in-Ok : goal.returns-in-Ok
returns-in-Ok c = unescaped (spelled c.args.token) c.in-Ok.text c.requires.spelled c.in-Ok.ensures

pub returns-in-Err-Escape : goal.returns-in-Err-Escape
returns-in-Err-Escape c = (refl, not_unescaped (spelled c.args.token) (rw c.in-Err-Escape.field-0-is at c.in-Err-Escape.ensures))
