use Rattle.schema_documents.specs.Tree.{document_of}
use Rattle.tool_words.specs.Lent.{converting_of}
use Rattle.shex_tools.proofs.Stopped.{held_has_form}
use Rattle.shex_tools.proofs.converting.convert.Goals as goal

pub text_of-requires : goal.text_of-requires
text_of-requires g c =
    held_has_form (g.F.Files.told c.args.files.now) (converting_of c.args.converting.now) (document_of c.in_ok-doc.doc) c.documents_are_expressible.ensures c.requires c.in_ok-doc.ensures.document
