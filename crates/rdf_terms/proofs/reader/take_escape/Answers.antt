use Rattle.std.specs.Str.Iter.{chars_rest}
use Rattle.rdf_terms.proofs.TermReading.{code_piece, lone_piece}
use Rattle.rdf_terms.proofs.reader.take_escape.Goals as goal

pub returns-in-Some : goal.returns-in-Some
returns-in-Some c = code_piece c.in-Some.code (chars_rest c.args.characters.now) (chars_rest c.next.new.self) c.meant_by.result c.in-Some.ensures.steps.0 c.meant_by.ensures

pub returns-in-None : goal.returns-in-None
returns-in-None c = lone_piece (chars_rest c.args.characters.now) (chars_rest c.next.new.self) c.in-None.ensures.steps.0.0
