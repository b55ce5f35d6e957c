use Rattle.rdf_cursor.proofs.Moves.{lends}
use Rattle.rdf_cursor.proofs.cursor.Cursor.peek.Goals as goal

pub returns-in-Token : goal.returns-in-Token
returns-in-Token c = lends _ _ _ _ c.args.self.now.utf8 c.in-Token.is c.args.self.now.reached
