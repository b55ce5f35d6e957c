use Rattle.nt_reader.proofs.DocumentLines.{documents_plain, short_documents_plain}
use Rattle.nt_reader.proofs.laws.documents_have_lines.Goals as goal

pub returns-clause-any : goal.returns-clause-any
returns-clause-any c = documents_plain

pub returns-clause-short : goal.returns-clause-short
returns-clause-short c = short_documents_plain
