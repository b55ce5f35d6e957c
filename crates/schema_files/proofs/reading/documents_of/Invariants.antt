use Rattle.std.proofs.Common.{◌≡◌, ◌∷◌, ◌++◌, map}
use Rattle.schema_documents.specs.Tree.{document_of}
use Rattle.schema_files.specs.Held.{digests_of, held_document}
use Rattle.schema_files.proofs.reading.documents_of.Given as goal

abbrev pub invariant-loop-document : goal.invariant-loop-document
invariant-loop-document l = record {
  all : l.fn.rest.items ≡ l.yielded ++ l.document-iterator.rest.items;
  imports : l.imports.items ≡ digests_of l.yielded;
  docs : map document_of l.docs.items ≡ document_of l.fn.root.doc ∷ map held_document l.yielded;
}
