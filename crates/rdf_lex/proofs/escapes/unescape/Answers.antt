use Rattle.std.proofs.Common.{sym}
use Rattle.rdf_lex.proofs.Meant.{unescapes, has_body}
use Rattle.rdf_lex.proofs.escapes.unescape.Goals as goal

pub body_of-requires : goal.body_of-requires
body_of-requires c = has_body c.args.token.kind _ c.requires.holds c.requires.spelled

pub returns : goal.returns
returns c = unescapes c.args.token.kind _ _ _ c.requires.holds c.requires.spelled c.body_of.ensures (rw (sym c.inside_kind.ensures) c.read_body.ensures)
