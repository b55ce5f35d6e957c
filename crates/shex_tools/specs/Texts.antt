-- The lines that are printed to the error stream.
use Rattle.std.specs.Prelude.{ℕ, Bool, List, [], ◌≡◌, ◌++◌, codes, if◌then◌else◌}
use Rattle.rdf_terms.specs.declared.terms.Term.{Term}
use Rattle.command_words.specs.Asked.{fault_text}
use Rattle.command_words.specs.Checks.{Fault}
use Rattle.explanation_texts.specs.Answers.{explanation_text}
use Rattle.explanation_texts.specs.Data.{explanation_data}
use Rattle.explanation_texts.specs.Naming.{AreNames}
use Rattle.explanation_texts.specs.declared.setting.Setting.{Setting}
use Rattle.explanations.specs.declared.explanation.Told.{Told}
use Rattle.label_extents.specs.Messages.{extents_text}
use Rattle.label_extents.specs.declared.error.ExtentsError.TheVariants as ExtentsErrors
use Rattle.schema_files.specs.declared.error.SchemaFile.TheVariants.{Root}
use Rattle.schema_tree.specs.declared.schema.Schema.{Schema}
use Rattle.serde_json.specs.Written.{compact_text}
use Rattle.shape_map.specs.declared.resolve.Association.{Association}
use Rattle.shex_inputs.specs.declared.error.Source.TheVariants as Sources
use Rattle.program_ends.specs.Lines.{error_line}
use Rattle.shex_inputs.specs.Lines.{refusal_text}
use Rattle.shex_inputs.specs.Named.{source_name, source_of}
use Rattle.shexj_writer.specs.Messages.{write_text}
use Rattle.tool_words.specs.Asked.{Explaining, ToolCall, of_shards}
use Rattle.typing_refiner.specs.declared.building.WidePair.{WidePair}
use Rattle.wide_pairs.specs.Lines.{wide_lines}
use Rattle.shard_answers.specs.declared.error.CallFile.{CallFile}
use Rattle.shard_answers.specs.declared.error.CallFile.TheVariants as CallFiles
use Rattle.shard_answers.specs.declared.error.CoverFile.{CoverFile}
use Rattle.shard_answers.specs.declared.error.ShardRefusal.{ShardRefusal}
use Rattle.shard_answers.specs.declared.error.ShardRefusal.TheVariants as ShardRefusals
use Rattle.shard_answers.specs.Sources.{name_of as shard_name_of, refused_source as refused_shard_source}
use Rattle.shex_tools.specs.declared.stop.Refusal.{Refusal}
use Rattle.shex_tools.specs.declared.stop.Refusal.TheVariants as Refusals
use Rattle.shex_tools.specs.Calls.{inputs_of}

-- `shextool: PLACE: WHAT` with a line feed
abbrev pub tool_line : List ℕ → List ℕ → List ℕ
tool_line place what = error_line (codes "shextool") place what

-- the line for words that are at fault
abbrev pub words_line : Fault → List ℕ
words_line f = tool_line (codes "words") (fault_text f)

-- the name of a file of `covers`, and the empty text for the files of other calls
abbrev pub cover_name_of : ToolCall → CoverFile → List ℕ
cover_name_of (of_shards s) file = shard_name_of s (CallFiles.Cover file)
cover_name_of call file = []

-- the name of a file of a call
abbrev pub name_of : ToolCall → CallFile → List ℕ
name_of call (CallFiles.Input source) = source_name (inputs_of call) source
name_of call (CallFiles.Cover file) = cover_name_of call file

-- the file that is refused: too many pairs are refused at the data
abbrev pub refused_source : Refusal → CallFile
refused_source (Refusals.Input refusal) = CallFiles.Input (source_of refusal)
refused_source (Refusals.Unwritten e) = CallFiles.Input (Sources.Schema Root)
refused_source Refusals.Pairs = CallFiles.Input Sources.Data
refused_source (Refusals.Shards refusal) = refused_shard_source refusal

-- why a call about data in shards refuses a file
abbrev pub shard_cause_text : ShardRefusal → List ℕ
shard_cause_text (ShardRefusals.Input refusal) = refusal_text refusal
shard_cause_text (ShardRefusals.Size file) = codes "Size"

-- why it is refused
abbrev pub cause_text : Refusal → List ℕ
cause_text (Refusals.Input refusal) = refusal_text refusal
cause_text (Refusals.Unwritten e) = write_text e
cause_text Refusals.Pairs = extents_text ExtentsErrors.Pairs
cause_text (Refusals.Shards refusal) = shard_cause_text refusal

-- the line for a file that is refused
abbrev pub refusal_line : ToolCall → Refusal → List ℕ
refusal_line call refusal = tool_line (name_of call (refused_source refusal)) (cause_text refusal)

-- the line for a file that was not fetched
abbrev pub failed_line : List ℕ → List ℕ
failed_line name = tool_line name (codes "Failed")

-- what is due beside extents: where a membership is not told, a line for each pair that is wide, and else nothing
unfoldable pub notes_by : List Term → ℕ → Bool → List WidePair → List ℕ
notes_by terms budget undecided wide = if undecided then wide_lines terms budget wide else []

-- what is due for what is told of associations: its text, or where that is asked for its JSON (ShapeMap Structure and Language, section 4),
-- compact and with a line feed
unfoldable pub printed : Setting → Bool → List Association → List Told → List ℕ
printed setting json asked answers = if json then compact_text (explanation_data setting asked answers) ++ codes "\n" else explanation_text setting asked answers

-- so the text is made with the schema and the terms, the names of the schema's expressions and Shapes, and the limit that is given
pub record IsPrinted (s : Schema) (terms : List Term) (e : Explaining) (asked : List Association) (answers : List Told) (text : List ℕ) : Type 0 where
  pub setting : Setting
  pub schema : setting.schema.now ≡ s
  pub terms_are : setting.terms.now ≡ terms
  pub names : AreNames s terms setting.names.now
  pub limit : setting.limit ≡ e.limit
  pub text_is : text ≡ printed setting e.json asked answers
