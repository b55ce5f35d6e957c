use Rattle.shexc_reader.proofs.Schemes.{imports_schemed}
use Rattle.shexc_reader.proofs.laws.imports_have_schemes.Goals as goal

pub returns : goal.returns
returns c = imports_schemed
