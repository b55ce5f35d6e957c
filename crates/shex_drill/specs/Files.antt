-- The texts of a drill as files.
use Rattle.std.specs.Prelude.{ℕ, List, Option, Some, None, codes, if◌then◌else◌, string_bytes}
use Rattle.std.specs.Str.{bytes_eq}
use Rattle.shex_io.specs.Files.{Told}
use Rattle.shex_drill.specs.declared.files.DrillFiles.{DrillFiles}
use Rattle.shex_drill.specs.Texts.{graph_text, map_text, schema_text}

-- the names of the three files
abbrev pub schema_name : List ℕ
schema_name = codes "schema.shex"

abbrev pub data_name : List ℕ
data_name = codes "data.ttl"

abbrev pub map_name : List ℕ
map_name = codes "map"

-- files of these three names hold these texts, and there are no others
abbrev pub contents_by : List ℕ → List ℕ → List ℕ → List ℕ → Option (List ℕ)
contents_by schema graph associations name =
    if bytes_eq name schema_name then Some schema
    else if bytes_eq name data_name then Some graph
    else if bytes_eq name map_name then Some associations
    else None

-- what the files of a drill with n items hold
abbrev pub drill_contents : ℕ → List ℕ → Option (List ℕ)
drill_contents n = contents_by schema_text (graph_text n) map_text

abbrev pub drill_told : ℕ → Told
drill_told n = Some (drill_contents n)

-- what files of texts hold
abbrev pub contents_of : DrillFiles → List ℕ → Option (List ℕ)
contents_of f = contents_by (string_bytes f.texts.schema) (string_bytes f.texts.graph) (string_bytes f.texts.map)
