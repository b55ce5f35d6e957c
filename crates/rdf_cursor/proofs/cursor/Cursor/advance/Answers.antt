use Rattle.rdf_cursor.proofs.Moves.{reached_on, cut_next, ahead_on}
use Rattle.rdf_cursor.proofs.cursor.Cursor.advance.Goals as goal

pub invariant_of-self-clause-utf8 : goal.invariant_of-self-clause-utf8
invariant_of-self-clause-utf8 c = c.args.self.now.utf8

pub invariant_of-self-clause-cut : goal.invariant_of-self-clause-cut
invariant_of-self-clause-cut c = cut_next _ _ _ _ c.args.self.now.utf8 c.next-self.ensures.longest

pub invariant_of-self-clause-reached : goal.invariant_of-self-clause-reached
invariant_of-self-clause-reached c = reached_on _ _ _ _ _ _ c.args.self.now.utf8 c.in-Token.is c.end_of.ensures c.next-self.ensures.scanned c.args.self.now.reached

pub returns-in-Token-clause-ahead : goal.returns-in-Token-clause-ahead
returns-in-Token-clause-ahead c = ahead_on _ _ _ _ _ _ c.args.self.now.utf8 c.in-Token.is c.end_of.ensures c.args.self.now.cut c.next-self.ensures.scanned
