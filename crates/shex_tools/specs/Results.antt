-- What answers a call.
use Rattle.std.specs.Prelude.{ℕ, List, [], ◌≡◌, ◌++◌, ◌⊎◌, codes}
use Rattle.shard_answers.specs.Answers.{Concludes as ConcludesShard, IsAnswer as IsShardAnswer}
use Rattle.shex_io.specs.Files.{Told}
use Rattle.label_extents.specs.declared.finding.Extents.{Extents}
use Rattle.schema_documents.specs.Tree.{Document}
use Rattle.call_ends.specs.Statuses.{IsAnswering, status_by}
use Rattle.explanations.specs.declared.explanation.Explanation.{Explanation}
use Rattle.rdf_terms.specs.declared.terms.Term.{Term}
use Rattle.rdf_terms.specs.declared.terms.Triple.{Triple}
use Rattle.schema_tree.specs.declared.schema.Pair.{Pair}
use Rattle.schema_tree.specs.declared.schema.Schema.{Schema}
use Rattle.serde_json.specs.Written.{compact_text}
use Rattle.shape_map.specs.declared.items.Item.{Item}
use Rattle.shape_map.specs.declared.resolve.Association.{Association}
use Rattle.shape_map.specs.Results.{result_text}
use Rattle.shex_inputs.specs.Asked.{Question}
use Rattle.shex_inputs.specs.Held.{Held}
use Rattle.shexj_reader.specs.Bytes.{IsDocumentText}
use Rattle.shexj_writer.specs.Documents.{document_data}
use Rattle.shexj_writer.specs.Plain.{plain_document}
use Rattle.tool_words.specs.Asked.{Explaining, Listing, ToolCall, of_labels, of_reasons, of_schema, of_shards}
use Rattle.tool_words.specs.Requests.{Converting}
use Rattle.shex_tools.specs.Documents.{HasText, HoldsDocument}
use Rattle.shex_tools.specs.Finding.{IsFound}
use Rattle.shex_tools.specs.Notes.{AreNotes}
use Rattle.shex_tools.specs.Outcomes.{AreHeld, IsQuestionOf}
use Rattle.shex_tools.specs.Reasons.{AreTrueReasons, are_undecided, status_of}
use Rattle.shex_tools.specs.Texts.{IsPrinted, notes_by}
use Rattle.typing_refiner.specs.declared.building.WidePair.{WidePair}

-- the text is the compact JSON of the document in ShExJ (ShEx 2.1, appendix A) and a line feed, from which the document is read back in
-- its plain form; and nothing is noted
pub record IsConverted (told : Told) (c : Converting) (status : ℕ) (text notes : List ℕ) : Type 0 where
  pub document : Document
  pub held : HoldsDocument told c document
  pub has_text : HasText document
  pub status_is : status ≡ 0
  pub text_is : text ≡ compact_text (document_data document) ++ codes "\n"
  pub notes_are : notes ≡ []
  pub read_back : IsDocumentText (plain_document document) (compact_text (document_data document))

-- the text is the result map of what is found of the extents of the schema's labels in the graph under the budget; the status is 4, and the
-- notes are a line for each demanded pair that is wide, where the verdict on some node with some label is Unknown
pub record IsListedOf (h : Held) (budget : ℕ) (status : ℕ) (text notes : List ℕ) : Type 0 where
  pub extents : Extents
  pub is_found : IsFound h budget extents
  pub status_is : status ≡ status_by extents.undecided
  pub text_is : text ≡ result_text h.terms extents.members
  pub notes_are : notes ≡ notes_by h.terms budget extents.undecided extents.wide

-- the text and the notes are those of the extents over the schema and the graph that the files hold
pub record IsListed (told : Told) (l : Listing) (status : ℕ) (text notes : List ℕ) : Type 0 where
  pub held : Held
  pub taken : AreHeld told l held
  pub listed : IsListedOf held l.budget status text notes

-- f gives the Shapes their strata, and the associations are those of the items and ask for the pairs
module _ (s : Schema) (terms : List Term) (g : List Triple) (f : List ℕ) (asked : List Association) (pairs : List Pair) (items : List Item) where
  -- the text is that of the reasons why the associations are not as asked, or the JSON of it; the status is that of what is told of
  -- them, and the notes are a line for each pair that is wide, where the verdict on some association is Unknown, and one for each selector
  -- that finds nothing
  pub record IsExplainedBy (e : Explaining) (status : ℕ) (text notes : List ℕ) : Type 0 where
    pub explanation : Explanation
    pub wide : List WidePair
    pub reasons : AreTrueReasons s terms g f e.budget asked pairs explanation wide
    pub status_is : status ≡ status_of asked explanation.answers
    pub text_is : IsPrinted s terms e asked explanation.answers text
    pub notes_are : AreNotes s terms g items e (are_undecided explanation.answers) wide notes

-- the text and the notes are those of what the map asks of the schema and the graph that the files hold
pub record IsExplained (told : Told) (e : Explaining) (status : ℕ) (text notes : List ℕ) : Type 0 where
  pub question : Question
  pub is_asked : IsQuestionOf told e question
  pub explained : IsExplainedBy question.held.schema question.terms question.held.graph question.held.strata question.associations question.pairs
      is_asked.items e status text notes

-- the text answers the call with this status, and the notes say what is left out
abbrev pub IsAnswer : Told → ToolCall → ℕ → List ℕ → List ℕ → Type 0
IsAnswer told (of_schema c) status text notes = IsConverted told c status text notes
IsAnswer told (of_labels l) status text notes = IsListed told l status text notes
IsAnswer told (of_reasons e) status text notes = IsExplained told e status text notes
IsAnswer told (of_shards s) status text notes = IsShardAnswer told s status text × (notes ≡ [])

-- the statuses of a call whose inputs are taken
abbrev pub Concludes : ToolCall → ℕ → Type 0
Concludes (of_schema c) status = status ≡ 0
Concludes (of_labels l) status = IsAnswering status
Concludes (of_reasons e) status = (status ≡ 0) ⊎ ((status ≡ 1) ⊎ (status ≡ 4))
Concludes (of_shards s) status = ConcludesShard s status
