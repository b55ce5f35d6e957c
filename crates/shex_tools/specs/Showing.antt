-- What is shown of a file that is refused.
use Rattle.std.specs.Prelude.{ℕ, List, [], ◌≡◌, ◌++◌, ◌⊎◌, Option, Some, None}
use Rattle.graph_index.specs.declared.read_error.ReadError.{ReadError}
use Rattle.graph_index.specs.declared.read_error.ReadError.TheVariants as ReadErrors
use Rattle.key_paths.specs.declared.labels.LabelPlace.{LabelPlace}
use Rattle.key_paths.specs.declared.labels.LabelPlace.TheVariants.{Declared, DeclaredAgain, Referred}
use Rattle.refusal_places.specs.Texts.{place_text}
use Rattle.schema_causes.specs.Labels.{ShowsLabel}
use Rattle.schema_causes.specs.Shown.{ShowsCause}
use Rattle.schema_documents.specs.declared.error.SchemaError.{SchemaError}
use Rattle.schema_documents.specs.declared.error.SchemaError.TheVariants as SchemaErrors
use Rattle.schema_documents.specs.declared.label.Label.{Label}
use Rattle.shex_io.specs.Fetching.{IsFile, IsTooLong}
use Rattle.schema_files.specs.Named.{Asked, base_for, name_of as schema_name}
use Rattle.schema_load.specs.declared.error.LoadError.{LoadError}
use Rattle.schema_load.specs.declared.error.LoadError.TheVariants as LoadErrors
use Rattle.schema_tree.specs.declared.schema.Target.{Target}
use Rattle.schema_tree.specs.declared.schema.Target.TheVariants as Targets
use Rattle.shape_map.specs.declared.error.MapError.{MapError}
use Rattle.shape_map.specs.declared.error.MapError.TheVariants as MapErrors
use Rattle.shex_inputs.specs.declared.error.Refusal.{Refusal as InputRefusal}
use Rattle.shex_inputs.specs.declared.error.Refusal.TheVariants as InputRefusals
use Rattle.shex_inputs.specs.declared.error.Source.{Source}
use Rattle.shex_inputs.specs.declared.error.Source.TheVariants as Sources
use Rattle.shex_inputs.specs.Named.{Inputs, asked_of}
use Rattle.shex_io.specs.Files.{Told}
use Rattle.tool_words.specs.Asked.{ToolCall, of_reasons}
use Rattle.shex_tools.specs.declared.stop.Refusal.{Refusal}
use Rattle.shex_tools.specs.declared.stop.Refusal.TheVariants as Refusals
use Rattle.shex_tools.specs.Calls.{inputs_of}
use Rattle.shex_tools.specs.Cycles.{ShowsCycle}
use Rattle.shex_tools.specs.Texts.{refusal_line}

-- the place in the bytes of a schema document, of data and of a map that an error names
abbrev pub schema_place : SchemaError → Option ℕ
schema_place (SchemaErrors.Syntax at) = Some at
schema_place (SchemaErrors.Prefix at) = Some at
schema_place e = None

abbrev pub data_place : ReadError → Option ℕ
data_place (ReadErrors.Syntax at) = Some at
data_place (ReadErrors.Prefix at) = Some at
data_place (ReadErrors.Long at) = Some at
data_place e = None

abbrev pub map_place : MapError → Option ℕ
map_place (MapErrors.Syntax at) = Some at
map_place (MapErrors.Prefix at) = Some at
map_place e = None

-- the label of a target, which the start has not
abbrev pub target_label : Target → Option Label
target_label (Targets.Label l) = Some l
target_label Targets.Start = None

-- the label of which the refusal of documents tells
abbrev pub label_in : LoadError → Option Label
label_in (LoadErrors.Twice l) = Some l
label_in (LoadErrors.Missing l) = Some l
label_in (LoadErrors.Circle l) = Some l
label_in (LoadErrors.IncludeCircle l) = Some l
label_in (LoadErrors.Deep t) = target_label t
label_in (LoadErrors.Occurrences t) = target_label t
label_in LoadErrors.Shapes = None
label_in LoadErrors.Full = None
label_in LoadErrors.Memory = None

-- the place of it that is looked for: a second declaration of what is declared twice, a reference to what is missing, and else a declaration
abbrev pub label_place : LoadError → LabelPlace
label_place (LoadErrors.Twice l) = DeclaredAgain
label_place (LoadErrors.Missing l) = Referred
label_place e = Declared

-- the base of the document in a file of the schema, by what names them; data and maps have none
abbrev pub source_base : Asked → Source → List ℕ
source_base a (Sources.Schema file) = base_for a file
source_base a Sources.Data = []
source_base a Sources.Map = []

-- what a file of this name holds, or that it is too long
abbrev pub IsFetched : Told → List ℕ → Option (List ℕ) → Type 0
IsFetched told name (Some bytes) = IsFile told name bytes
IsFetched told name None = IsTooLong told name

-- a place in a file of this name is shown in the bytes that the file holds, and not at all in a file that is too long
abbrev pub IsShown : Told → List ℕ → ℕ → List ℕ → Type 0
IsShown told name at shown = ((bytes : List ℕ) × IsFile told name bytes × (shown ≡ place_text name bytes at)) ⊎ (IsTooLong told name × (shown ≡ []))

-- what is shown of a place in a file of this name, if there is one
abbrev pub ShowsPlace : Told → List ℕ → Option ℕ → List ℕ → Type 0
ShowsPlace told name (Some at) shown = IsShown told name at shown
ShowsPlace told name None shown = shown ≡ []

-- nothing is shown, or the cause of an error in the document that a file of this name and base holds
abbrev pub IsCauseShown : Told → List ℕ → List ℕ → SchemaError → List ℕ → Type 0
IsCauseShown told name base e shown = (shown ≡ []) ⊎ ((bytes : List ℕ) × IsFile told name bytes × ShowsCause name base e bytes shown)

-- the place that an error names, or else its cause
abbrev pub ShowsDocument : Told → List ℕ → List ℕ → SchemaError → Option ℕ → List ℕ → Type 0
ShowsDocument told name base e (Some at) shown = IsShown told name at shown
ShowsDocument told name base e None shown = IsCauseShown told name base e shown

-- nothing is shown, or a place of a label in the document that a file of this name and base holds
abbrev pub IsLabelShown : Told → List ℕ → List ℕ → LabelPlace → Label → List ℕ → Type 0
IsLabelShown told name base place l shown = (shown ≡ []) ⊎ ((bytes : List ℕ) × IsFile told name bytes × ShowsLabel place name base l bytes shown)

-- what is shown of a label, if there is one, in the document that a file of this name and base holds
abbrev pub ShowsAnyLabel : Told → List ℕ → List ℕ → LabelPlace → Option Label → List ℕ → Type 0
ShowsAnyLabel told name base place (Some l) shown = IsLabelShown told name base place l shown
ShowsAnyLabel told name base place None shown = shown ≡ []

-- what is shown where documents are refused, in the schema file of this name and base: a place of the label of which the error tells
abbrev pub ShowsLoad : Told → List ℕ → List ℕ → LoadError → List ℕ → Type 0
ShowsLoad told name base e shown = ShowsAnyLabel told name base (label_place e) (label_in e) shown

-- what is shown of a file of the inputs that is refused: the place, or else the cause, of what is wrong in it; where all documents of a schema are
-- refused together, a place of a label in the schema file; and of a cycle the names of its Shapes
abbrev pub ShowsInput : Told → Inputs → InputRefusal → List ℕ → Type 0
ShowsInput told i (InputRefusals.Schema file e) shown = ShowsDocument told (schema_name (asked_of i) file) (base_for (asked_of i) file) e (schema_place e) shown
ShowsInput told i (InputRefusals.Data e) shown = ShowsPlace told i.data_file (data_place e) shown
ShowsInput told i (InputRefusals.Map e) shown = ShowsPlace told i.map_file (map_place e) shown
ShowsInput told i (InputRefusals.Load e) shown = ShowsLoad told i.schema i.schema_base e shown
ShowsInput told i (InputRefusals.NegatedCycle cycle) shown = ShowsCycle told (asked_of i) cycle shown
ShowsInput told i refusal shown = shown ≡ []

-- what is shown where a call refuses a file: `explain` alone shows something
abbrev pub ShowsRefused : Told → ToolCall → Refusal → List ℕ → Type 0
ShowsRefused told (of_reasons e) (Refusals.Input refusal) shown = ShowsInput told (inputs_of (of_reasons e)) refusal shown
ShowsRefused told call refusal shown = shown ≡ []

-- the text for a file that is refused: its line, and what is shown of the file
abbrev pub IsRefusalText : Told → ToolCall → Refusal → List ℕ → Type 0
IsRefusalText told call refusal text = (shown : List ℕ) × ShowsRefused told call refusal shown × (text ≡ refusal_line call refusal ++ shown)
