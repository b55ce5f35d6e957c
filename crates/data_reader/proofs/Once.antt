-- Bytes are one document at most.
use Rattle.std.proofs.Common.{◌∙◌, List, sym, ap}
use Rattle.graph_index.specs.declared.loading.TermTriple.{TermTriple}
use Rattle.nt_reader.specs.Endings.{ShortDocumentsAreOne}
use Rattle.turtle_reader.specs.Documents.{LimitedDocumentsAreOne}
use Rattle.turtle_reader.specs.States.{DocumentScope}
use Rattle.data_reader.specs.declared.format.Format.TheVariants.{NTriples, Turtle}
use Rattle.data_reader.specs.Documents.{context_in}
use Rattle.data_reader.specs.Endings.{DataAreOne}

-- by the law of each format
pub data_once : ShortDocumentsAreOne → LimitedDocumentsAreOne → DataAreOne
data_once short limited NTriples base bytes a b (e, h) (f, k) =
    let last = sym e ∙ f in
    let triples = short bytes a.1 b.1 h k in
    λ i. (last i, triples i)
data_once short limited Turtle base bytes a b (v, e, h) (w, f, k) =
    let same = limited base bytes (v, a.1) (w, b.1) h k in
    let last = sym e ∙ ap (λ (z : DocumentScope × List TermTriple). context_in z.0) same ∙ f in
    λ i. (last i, (same i).1)
