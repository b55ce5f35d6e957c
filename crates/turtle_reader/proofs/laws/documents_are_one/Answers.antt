use Rattle.turtle_reader.proofs.Endings.{one_document, any_document}
use Rattle.turtle_reader.proofs.laws.documents_are_one.Goals as goal

pub returns-clause-any : goal.returns-clause-any
returns-clause-any c = λ base source x y h k. one_document base source h.1 x y h k

pub returns-clause-limited : goal.returns-clause-limited
returns-clause-limited c = λ base source x y h k. one_document base source h.1 x y (any_document base source h.1 x h) (any_document base source h.1 y k)

pub returns-clause-within : goal.returns-clause-within
returns-clause-within c = λ base source x h. any_document base source h.1 x h
