-- Which texts are labels and references (ShEx 2.1, appendix A).
use Rattle.std.specs.Prelude.{ℕ, Bool, true, false, List, Option, Some, None, codes, option_map, if◌then◌else◌, nat_eq, drop}
use Rattle.std.specs.List.{starts_with}
use Rattle.serde_json.specs.Data.{Data}
use Rattle.schema_documents.specs.declared.label.Label.{Label}
use Rattle.schema_documents.specs.declared.label.Label.TheVariants as Labels
use Rattle.shexj_reader.specs.Keys.{text}

-- a text that begins with `_:` names a blank label
abbrev pub label_from : List ℕ → Label
label_from t = if starts_with nat_eq t (codes "_:") then Labels.Blank (drop 2 t) else Labels.Iri t

-- the label of a declaration
abbrev pub label : Option Data → Option Label
label o = option_map label_from (text o)

-- the label of a triple expression, if it has one
abbrev pub label_if_any : Option Data → Option (Option Label)
label_if_any None = Some None
label_if_any (Some d) = option_map Some (label (Some d))

-- the label that a text in place of a shape expression refers to; what has a label of its own is no text
abbrev pub reference : Bool → Data → Option Label
reference false d = label (Some d)
reference true d = None
