-- How the reading of the inputs can stop.
use Rattle.std.specs.Prelude.{ℕ, List, ◌≡◌, ◌≢◌, ◌⊎◌, ⊤}
use Rattle.shex_io.specs.Files.{Lacks, Told}
use Rattle.shex_io.specs.declared.files.Act.{Act}
use Rattle.shex_io.specs.Fetching.{HasFailed}
use Rattle.schema_files.specs.declared.error.SchemaFile.{SchemaFile}
use Rattle.shex_inputs.specs.declared.error.InputError.{InputError}
use Rattle.shex_inputs.specs.declared.error.InputError.TheVariants.{Refused, Failed, Memory}
use Rattle.shex_inputs.specs.declared.error.Refusal.{Refusal}
use Rattle.shex_inputs.specs.declared.error.Source.{Source}
use Rattle.shex_inputs.specs.declared.error.Source.TheVariants.{Map, Schema}
use Rattle.shex_inputs.specs.Named.{Inputs, source_name, source_of}
use Rattle.shex_inputs.specs.Refusals.{IsRefused, Reaches}

-- the next file to be fetched is told to be absent
abbrev pub IsAbsent : Told → Inputs → Source → Type 0
IsAbsent told i source = Reaches told i source × Lacks told (source_name i source)

-- a file is refused for the cause of an error, unless the error is want of memory
abbrev pub IsRefusalOf : {E : Type 0} → E → (E → Refusal) → E → InputError → Type 0
IsRefusalOf memory refusal e stop = ((e ≡ memory) × (stop ≡ Memory)) ⊎ ((e ≢ memory) × (stop ≡ Refused (refusal e)))

-- why the inputs are not taken: a file is refused, or the steps came to one that was not fetched, or memory ran out
abbrev pub Explains : Told → Inputs → InputError → Type 0
Explains told i (Refused refusal) = IsRefused told i refusal
Explains told i (Failed source) = Reaches told i source
Explains told i Memory = ⊤

-- what a call that stops does to the count of faults of the files: it rises where a fetch failed, which is then named, and else
-- stays
abbrev pub FaultsAs : Inputs → ℕ → ℕ → List ℕ → Act → InputError → Type 0
FaultsAs i before after blame act (Failed source) = HasFailed (source_name i source) before after blame act
FaultsAs i before after blame act (Refused refusal) = after ≡ before
FaultsAs i before after blame act Memory = after ≡ before

-- the stop is about a file of the schema
abbrev pub IsOfSchema : InputError → Type 0
IsOfSchema (Refused refusal) = (file : SchemaFile) × (source_of refusal ≡ Schema file)
IsOfSchema (Failed source) = (file : SchemaFile) × (source ≡ Schema file)
IsOfSchema Memory = ⊤

-- the stop is not about the map, to which the reading of schema and data does not come
abbrev pub IsBeforeMap : InputError → Type 0
IsBeforeMap (Refused refusal) = source_of refusal ≢ Map
IsBeforeMap (Failed source) = source ≢ Map
IsBeforeMap Memory = ⊤
