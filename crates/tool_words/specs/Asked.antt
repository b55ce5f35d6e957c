-- What words ask for, or what is wrong with them (own).
use Rattle.std.specs.Prelude.{◌≡◌, ◌≢◌, Bool, ℕ, List, [], ◌∷◌, codes, true, false}
use Rattle.clap.specs.Words.{App, Row, Text}
use Rattle.command_words.specs.Checks.{AreImports, AreInputs, Fault, IsGivenFault, IsImportFault, arguments, base, ending}
use Rattle.input_names.specs.Names.{Import, Inputs, is_base, is_data_name, is_schema_name}
use Rattle.tool_words.specs.Commands.{convert, covers, explain, extents, followed, lines, reached, session}
use Rattle.tool_words.specs.Requests.{Asks, Budgeted, Converting, Covering, Explained, IsBudgeted, IsCovering as IsCoveringFound, IsExplained, IsLining as IsLiningFound, IsMapped, IsNamed, IsSchemed, IsScripted, Lining, Mapped, Schemed, Scripted}

-- the words ask by a command for something that passes its checks and leads to this
pub record LeadsTo {R C : Type 0} (app : App) (Are : List Row → R → Type 0) (Passes : R → C → Type 0) (words : List Text) (c : C) : Type 0 where
  pub request : R
  pub asks : Asks app Are words request
  pub passes : Passes request c

-- the first thing that is wrong with the words of a command: they ask for nothing by it, or for something that fails a check, this one first
pub data IsFirstFault {R : Type 0} (app : App) (Are : List Row → R → Type 0) (Fails : R → Fault → Type 0) (words : List Text) : Fault → Type 0 where
  unasked : ((r : R) → ¬ Asks app Are words r) → IsFirstFault app Are Fails words arguments
  failing : (r : R) → Asks app Are words r → (f : Fault) → Fails r f → IsFirstFault app Are Fails words f

-- what `extents` asks for once all checks are passed
pub record Listing : Type 0 where
  pub inputs : Inputs
  pub budget : ℕ

-- what `explain` asks for once all checks are passed
pub record Explaining : Type 0 where
  pub inputs : Inputs
  pub map_file : Text
  pub budget : ℕ
  pub limit : ℕ
  pub json : Bool

-- what `followed` asks for once all checks are passed
pub record Following : Type 0 where
  pub schema : Text
  pub schema_base : Text
  pub imports : List Import

-- what `reached` asks for once all checks are passed
pub record Reaching : Type 0 where
  pub inputs : Inputs
  pub map_file : Text

-- what words ask of a session once all checks are passed
pub record Editing : Type 0 where
  pub inputs : Inputs
  pub script : Text
  pub budget : ℕ

-- the checks, and what a request leads to that passes them
pub record PassesConverting (asked c : Converting) : Type 0 where
  pub schema : is_schema_name asked.schema ≡ true
  pub schema_base : is_base asked.schema_base ≡ true
  pub leads : c ≡ asked

pub record PassesListing (asked : Budgeted) (l : Listing) : Type 0 where
  pub inputs : AreInputs asked.given l.inputs
  pub budget : l.budget ≡ asked.budget

pub record PassesExplaining (asked : Explained) (e : Explaining) : Type 0 where
  pub inputs : AreInputs asked.budgeted.given e.inputs
  pub map_file : e.map_file ≡ asked.map_file
  pub budget : e.budget ≡ asked.budgeted.budget
  pub limit : e.limit ≡ asked.limit
  pub json : e.json ≡ asked.json

pub record PassesLining (asked l : Lining) : Type 0 where
  pub data_file : is_data_name asked.data_file ≡ true
  pub data_base : is_base asked.data_base ≡ true
  pub leads : l ≡ asked

pub record PassesFollowing (asked : Schemed) (f : Following) : Type 0 where
  pub schema : is_schema_name asked.schema ≡ true
  pub imports_given : AreImports [] asked.import_words f.imports
  pub schema_base : is_base asked.schema_base ≡ true
  pub leads : f ≡ record { schema = asked.schema; schema_base = asked.schema_base; imports = f.imports }

pub record PassesReaching (asked : Mapped) (r : Reaching) : Type 0 where
  pub inputs : AreInputs asked.given r.inputs
  pub map_file : r.map_file ≡ asked.map_file

abbrev pub PassesCovering : Covering → Covering → Type 0
PassesCovering asked c = c ≡ asked

pub record PassesEditing (asked : Scripted) (e : Editing) : Type 0 where
  pub inputs : AreInputs asked.budgeted.given e.inputs
  pub script : e.script ≡ asked.script
  pub budget : e.budget ≡ asked.budgeted.budget

-- the first check that is failed
pub data FailsConverting (asked : Converting) : Fault → Type 0 where
  schema_ending : is_schema_name asked.schema ≡ false → FailsConverting asked (ending asked.schema)
  schema_base : is_schema_name asked.schema ≡ true → is_base asked.schema_base ≡ false → FailsConverting asked (base asked.schema_base)

abbrev pub FailsListing : Budgeted → Fault → Type 0
FailsListing asked f = IsGivenFault asked.given f

abbrev pub FailsExplaining : Explained → Fault → Type 0
FailsExplaining asked f = IsGivenFault asked.budgeted.given f

pub data FailsLining (asked : Lining) : Fault → Type 0 where
  line_ending : is_data_name asked.data_file ≡ false → FailsLining asked (ending asked.data_file)
  line_base : is_data_name asked.data_file ≡ true → is_base asked.data_base ≡ false → FailsLining asked (base asked.data_base)

pub data FailsFollowing (asked : Schemed) : Fault → Type 0 where
  way_ending : is_schema_name asked.schema ≡ false → FailsFollowing asked (ending asked.schema)
  way_imports : (f : Fault) → is_schema_name asked.schema ≡ true → IsImportFault [] asked.import_words f → FailsFollowing asked f
  way_base : (imports : List Import) → is_schema_name asked.schema ≡ true → AreImports [] asked.import_words imports → is_base asked.schema_base ≡ false
      → FailsFollowing asked (base asked.schema_base)

abbrev pub FailsReaching : Mapped → Fault → Type 0
FailsReaching asked f = IsGivenFault asked.given f

abbrev pub FailsCovering : Covering → Fault → Type 0
FailsCovering asked f = ⊥

abbrev pub FailsEditing : Scripted → Fault → Type 0
FailsEditing asked f = IsGivenFault asked.budgeted.given f

-- what the words behind `convert` ask for, and the first thing that is wrong with them
abbrev pub IsConverting : List Text → Converting → Type 0
IsConverting words c = LeadsTo convert IsNamed PassesConverting words c

abbrev pub IsConvertingFault : List Text → Fault → Type 0
IsConvertingFault words f = IsFirstFault convert IsNamed FailsConverting words f

-- what those behind `extents` ask for, and what is wrong with them
abbrev pub IsListing : List Text → Listing → Type 0
IsListing words l = LeadsTo extents IsBudgeted PassesListing words l

abbrev pub IsListingFault : List Text → Fault → Type 0
IsListingFault words f = IsFirstFault extents IsBudgeted FailsListing words f

-- what those behind `explain` ask for, and what is wrong with them
abbrev pub IsExplaining : List Text → Explaining → Type 0
IsExplaining words e = LeadsTo explain IsExplained PassesExplaining words e

abbrev pub IsExplainingFault : List Text → Fault → Type 0
IsExplainingFault words f = IsFirstFault explain IsExplained FailsExplaining words f

-- those behind `lines`, `followed`, `reached` and `covers`
abbrev pub IsLining : List Text → Lining → Type 0
IsLining words l = LeadsTo lines IsLiningFound PassesLining words l

abbrev pub IsLiningFault : List Text → Fault → Type 0
IsLiningFault words f = IsFirstFault lines IsLiningFound FailsLining words f

abbrev pub IsFollowing : List Text → Following → Type 0
IsFollowing words f = LeadsTo followed IsSchemed PassesFollowing words f

abbrev pub IsFollowingFault : List Text → Fault → Type 0
IsFollowingFault words f = IsFirstFault followed IsSchemed FailsFollowing words f

abbrev pub IsReaching : List Text → Reaching → Type 0
IsReaching words r = LeadsTo reached IsMapped PassesReaching words r

abbrev pub IsReachingFault : List Text → Fault → Type 0
IsReachingFault words f = IsFirstFault reached IsMapped FailsReaching words f

abbrev pub IsCovering : List Text → Covering → Type 0
IsCovering words c = LeadsTo covers IsCoveringFound PassesCovering words c

abbrev pub IsCoveringFault : List Text → Fault → Type 0
IsCoveringFault words f = IsFirstFault covers IsCoveringFound FailsCovering words f

-- what words ask of a session, and what is wrong with them
abbrev pub IsEditing : List Text → Editing → Type 0
IsEditing words e = LeadsTo session IsScripted PassesEditing words e

abbrev pub IsEditingFault : List Text → Fault → Type 0
IsEditingFault words f = IsFirstFault session IsScripted FailsEditing words f

-- the first word is a command's name, and what holds of the others
pub record Behind (name : Text) (words : List Text) (Holds : List Text → Type 0) : Type 0 where
  pub behind : List Text
  pub named : words ≡ name ∷ behind
  pub holds : Holds behind

-- what words ask for about data in shards: the triples of a file on lines; the ways that a schema reads; the nodes that a map reaches; or a
-- line of a part that a shard lacks
pub data ShardCall : Type 0 where
  of_lines : Lining → ShardCall
  of_ways : Following → ShardCall
  of_nodes : Reaching → ShardCall
  of_cover : Covering → ShardCall

-- what words ask of the tool: a schema in ShExJ, the extents of its labels, the reasons for answers, or something about data in shards
pub data ToolCall : Type 0 where
  of_schema : Converting → ToolCall
  of_labels : Listing → ToolCall
  of_reasons : Explaining → ToolCall
  of_shards : ShardCall → ToolCall

-- the commands, and their names
pub data Command : Type 0 where
  to_convert : Command
  to_list : Command
  to_explain : Command
  to_line : Command
  to_follow : Command
  to_reach : Command
  to_cover : Command

abbrev pub name_of : Command → Text
name_of to_convert = codes "convert"
name_of to_list = codes "extents"
name_of to_explain = codes "explain"
name_of to_line = codes "lines"
name_of to_follow = codes "followed"
name_of to_reach = codes "reached"
name_of to_cover = codes "covers"

-- the words behind a command's name ask by it for what the call says
abbrev pub IsAsked : List Text → ToolCall → Type 0
IsAsked words (of_schema c) = IsConverting words c
IsAsked words (of_labels l) = IsListing words l
IsAsked words (of_reasons e) = IsExplaining words e
IsAsked words (of_shards (of_lines l)) = IsLining words l
IsAsked words (of_shards (of_ways f)) = IsFollowing words f
IsAsked words (of_shards (of_nodes r)) = IsReaching words r
IsAsked words (of_shards (of_cover c)) = IsCovering words c

-- this is the first thing that is wrong with them
abbrev pub IsFaultOf : Command → List Text → Fault → Type 0
IsFaultOf to_convert words f = IsConvertingFault words f
IsFaultOf to_list words f = IsListingFault words f
IsFaultOf to_explain words f = IsExplainingFault words f
IsFaultOf to_line words f = IsLiningFault words f
IsFaultOf to_follow words f = IsFollowingFault words f
IsFaultOf to_reach words f = IsReachingFault words f
IsFaultOf to_cover words f = IsCoveringFault words f

-- the command of a call
abbrev pub command_of : ToolCall → Command
command_of (of_schema c) = to_convert
command_of (of_labels l) = to_list
command_of (of_reasons e) = to_explain
command_of (of_shards (of_lines l)) = to_line
command_of (of_shards (of_ways f)) = to_follow
command_of (of_shards (of_nodes r)) = to_reach
command_of (of_shards (of_cover c)) = to_cover

abbrev pub IsToolCall : List Text → ToolCall → Type 0
IsToolCall words call = Behind (name_of (command_of call)) words (λ behind. IsAsked behind call)

-- the first word is no command's name, or this is the first thing that is wrong with those behind it
pub data IsToolFault (words : List Text) : Fault → Type 0 where
  unnamed : ((c : Command) (behind : List Text) → words ≢ name_of c ∷ behind) → IsToolFault words arguments
  wrong_behind : (c : Command) (f : Fault) → Behind (name_of c) words (λ behind. IsFaultOf c behind f) → IsToolFault words f
