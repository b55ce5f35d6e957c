-- The text of a target.
use Rattle.std.specs.Prelude.{ℕ, List, codes, ⊤}
use Rattle.schema_documents.specs.Labels.{IsTextLabel, label_text}
use Rattle.schema_tree.specs.declared.schema.Target.{Target}
use Rattle.schema_tree.specs.declared.schema.Target.TheVariants.{Start, Label}

-- the text of its label, or START (ShapeMap Structure and Language, section 4)
abbrev pub target_text : Target → List ℕ
target_text Start = codes "START"
target_text (Label l) = label_text l

-- the texts of a target are of Unicode scalar values, as each text of a program is
abbrev pub IsTextTarget : Target → Type 0
IsTextTarget Start = ⊤
IsTextTarget (Label l) = IsTextLabel l
