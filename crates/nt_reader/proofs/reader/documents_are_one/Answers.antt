use Rattle.nt_reader.proofs.Endings.{one_document, one_short_document}
use Rattle.nt_reader.proofs.reader.documents_are_one.Goals as goal

pub returns-clause-any : goal.returns-clause-any
returns-clause-any c = λ source xs ys h k. one_document source h.1 xs ys h k

pub returns-clause-short : goal.returns-clause-short
returns-clause-short c = λ source xs ys h k. one_short_document source h.1 xs ys h k
