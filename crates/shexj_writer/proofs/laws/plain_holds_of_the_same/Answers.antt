use Rattle.shexj_writer.proofs.SameTerms.{plain_holds}
use Rattle.shexj_writer.proofs.laws.plain_holds_of_the_same.Goals as goal

pub returns : goal.returns
returns c = plain_holds
