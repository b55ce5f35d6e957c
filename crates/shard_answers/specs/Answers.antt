-- What answers a call about data in shards.
use Rattle.std.specs.Prelude.{ℕ, List, [], ◌∷◌, ◌++◌, ◌≡◌, ◌⊎◌, Option, Some, None, codes, map, option_map, slice_get, ⊤, true}
use Rattle.std.specs.List.{AllByRecursion, flat_map}
use Rattle.input_names.specs.Names.{is_base}
use Rattle.data_reader.specs.Documents.{Context, IsData}
use Rattle.data_reader.specs.Formats.{format_of}
use Rattle.data_reader.specs.declared.format.Format.{Format}
use Rattle.graph_index.specs.Loading.{IsWithin, Loads}
use Rattle.graph_index.specs.declared.loading.TermTriple.{TermTriple}
use Rattle.rdf_terms.specs.declared.terms.Term.{Term}
use Rattle.rdf_terms.specs.declared.terms.TermId.{TermId}
use Rattle.rdf_terms.specs.declared.terms.Triple.{Triple}
use Rattle.shex_io.specs.Fetching.{IsFile}
use Rattle.schema_tree.specs.declared.schema.Schema.{Schema}
use Rattle.shard_checks.specs.Cover.{missing, read_back_in}
use Rattle.shard_checks.specs.Lines.{lines_of}
use Rattle.shard_checks.specs.Reached.{AreReached, node_line}
use Rattle.shard_checks.specs.WayLines.{TellsWays}
use Rattle.shard_checks.specs.Written.{triple_line}
use Rattle.shex_inputs.specs.Asked.{IsAskedOf, Question, root_of}
use Rattle.shex_inputs.specs.Refusals.{Takes}
use Rattle.shex_io.specs.Files.{Told}
use Rattle.term_tokens.specs.Scopes.{Scope}
use Rattle.tool_words.specs.Asked.{Following, Reaching, ShardCall, of_cover, of_lines, of_nodes, of_ways}
use Rattle.tool_words.specs.Requests.{Covering, Lining, ShardFiles}
use Rattle.shard_answers.specs.Sources.{inputs_of}

-- each base that the call is given passes the check of a base
abbrev pub IsFit : ShardCall → Type 0
IsFit (of_lines l) = is_base l.data_base ≡ true
IsFit (of_ways f) = is_base f.schema_base ≡ true
IsFit (of_nodes r) = (is_base r.inputs.schema_base ≡ true) × (is_base r.inputs.data_base ≡ true)
IsFit (of_cover c) = ⊤

-- the bytes are data whose triples are the graph, each once and in the order in which they stand first, in the numbers of a table of their terms
-- (RDF 1.1 N-Triples, section 7; RDF 1.1 Turtle, section 6.5)
pub record AreHeld (format : Format) (base bytes : List ℕ) (terms : List Term) (graph : List Triple) : Type 0 where
  pub last : Context
  pub triples : List TermTriple
  pub spelled : IsData format base (last, triples) bytes
  pub loaded : Loads [] [] triples terms graph
  pub within : IsWithin terms graph

-- so it is of the bytes of the data file
pub record HoldsTriples (told : Told) (l : Lining) (terms : List Term) (graph : List Triple) : Type 0 where
  pub bytes : List ℕ
  pub file : IsFile told l.data_file bytes
  pub held : AreHeld (format_of l.data_file) l.data_base bytes terms graph

-- the text is these triples, a line each
pub record IsLined (told : Told) (l : Lining) (text : List ℕ) : Type 0 where
  pub terms : List Term
  pub graph : List Triple
  pub held : HoldsTriples told l terms graph
  pub text_is : text ≡ flat_map (triple_line l.prefix terms) graph

-- the files of the schema hold this schema, in the numbers of a table of its predicates
pub record IsSchemaOfFiles (told : Told) (f : Following) (first : List Term) (s : Schema) : Type 0 where
  pub strata : List ℕ
  pub labels : Scope
  pub taken : Takes told (inputs_of (of_ways f)) first s strata labels

-- the text has a line for each way that it reads
pub record AreWaysOf (told : Told) (f : Following) (text : List ℕ) : Type 0 where
  pub first : List Term
  pub schema : Schema
  pub of_files : IsSchemaOfFiles told f first schema
  pub tells : TellsWays schema first text

-- the text is the nodes that the associations of the map reach over the graph, a line each
pub record AreNodesOf (told : Told) (r : Reaching) (text : List ℕ) : Type 0 where
  pub question : Question
  pub is_asked : IsAskedOf told (inputs_of (of_nodes r)) question
  pub nodes : List TermId
  pub are_reached : AreReached question.held.schema question.terms question.held.graph (map root_of question.associations) nodes
  pub text_is : text ≡ flat_map (node_line question.terms) nodes

-- what tells of a line that a shard lacks: the shard's name, and the line
abbrev pub lacking_line : List ℕ → List ℕ → List ℕ
lacking_line shard line = shard ++ (codes ": " ++ (line ++ codes "\n"))

-- the first of the lines of a part, of which these predicates are read back, that a shard with these nodes lacks, if it lacks one, told so
abbrev pub told_of : (lines back : List (List ℕ)) → (shard nodes bytes : List ℕ) → Option (List ℕ)
told_of lines back shard nodes bytes = option_map (lacking_line shard) (slice_get (missing lines (lines_of bytes) (lines_of nodes) back) 0)

-- so it is of the shard in these files
pub record Finds (told : Told) (lines back : List (List ℕ)) (s : ShardFiles) (found : Option (List ℕ)) : Type 0 where
  pub nodes : List ℕ
  pub nodes_file : IsFile told s.nodes nodes
  pub bytes : List ℕ
  pub shard_file : IsFile told s.shard bytes
  pub found_is : found ≡ told_of lines back s.shard nodes bytes

-- each of the shards lacks nothing
abbrev pub LackNothing : Told → (lines back : List (List ℕ)) → List ShardFiles → Type 0
LackNothing told lines back shards = AllByRecursion (λ s. Finds told lines back s None) shards

-- one of the shards lacks a line, the first that it lacks being told, and those before it lack nothing
pub record FirstLacks (told : Told) (lines back : List (List ℕ)) (shards : List ShardFiles) (text : List ℕ) : Type 0 where
  pub before : List ShardFiles
  pub shard : ShardFiles
  pub behind : List ShardFiles
  pub shards_are : shards ≡ before ++ shard ∷ behind
  pub lack_nothing : LackNothing told lines back before
  pub lacks : Finds told lines back shard (Some text)

-- what is found of shards, one after the other
abbrev pub FindsFirst : Told → (lines back : List (List ℕ)) → List ShardFiles → Option (List ℕ) → Type 0
FindsFirst told lines back shards None = LackNothing told lines back shards
FindsFirst told lines back shards (Some text) = FirstLacks told lines back shards text

-- the files of the ways and of the part hold these
pub record AreCompared (told : Told) (c : Covering) (ways part : List ℕ) : Type 0 where
  pub ways_file : IsFile told c.ways ways
  pub part_file : IsFile told c.part part

-- what is found of the shards by the ways and the part that the files hold
pub record CoversTo (told : Told) (c : Covering) (found : Option (List ℕ)) : Type 0 where
  pub ways : List ℕ
  pub part : List ℕ
  pub are_compared : AreCompared told c ways part
  pub finds : FindsFirst told (lines_of part) (read_back_in (lines_of ways)) c.shards found

-- with the status 1 a line is told, and with 0 none is
abbrev pub IsFound : Option (List ℕ) → ℕ → List ℕ → Type 0
IsFound None status text = (status ≡ 0) × (text ≡ [])
IsFound (Some line) status text = (status ≡ 1) × (text ≡ line)

-- the text answers the call with this status
abbrev pub IsAnswer : Told → ShardCall → ℕ → List ℕ → Type 0
IsAnswer told (of_lines l) status text = (status ≡ 0) × IsLined told l text
IsAnswer told (of_ways f) status text = (status ≡ 0) × AreWaysOf told f text
IsAnswer told (of_nodes r) status text = (status ≡ 0) × AreNodesOf told r text
IsAnswer told (of_cover c) status text = (found : Option (List ℕ)) × CoversTo told c found × IsFound found status text

-- the statuses of a call that is answered
abbrev pub Concludes : ShardCall → ℕ → Type 0
Concludes (of_lines l) status = status ≡ 0
Concludes (of_ways f) status = status ≡ 0
Concludes (of_nodes r) status = status ≡ 0
Concludes (of_cover c) status = (status ≡ 0) ⊎ (status ≡ 1)
