use Rattle.std.specs.Str.Iter.{chars_rest}
use Rattle.rdf_terms.proofs.TermReading.{end_piece, raw_piece}
use Rattle.rdf_terms.proofs.reader.take_piece.Goals as goal

pub returns-in_default : goal.returns-in_default
returns-in_default c = end_piece (chars_rest c.args.characters.now) (chars_rest c.next.new.self) c.in_default.ensures.steps.0.0

pub returns-in-10 : goal.returns-in-10
returns-in-10 c = raw_piece c.in-Some.character (chars_rest c.args.characters.now) (chars_rest c.next.new.self) (chars_rest c.next.new.self) c.in-Some.ensures.steps.0 c.in-10.is
