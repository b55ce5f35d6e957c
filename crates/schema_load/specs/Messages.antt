-- What is printed of documents that stand for no schema.
use Rattle.std.specs.Prelude.{ℕ, List, ◌++◌, codes}
use Rattle.schema_documents.specs.Labels.{label_text}
use Rattle.schema_tree.specs.Targets.{target_text}
use Rattle.schema_load.specs.declared.error.LoadError.{LoadError}
use Rattle.schema_load.specs.declared.error.LoadError.TheVariants as LoadErrors

-- why documents are refused, with the label or the target of what is refused (own). No documents are refused for want of
-- memory, which has its name here too
abbrev pub load_text : LoadError → List ℕ
load_text (LoadErrors.Twice l) = codes "Twice(" ++ (label_text l ++ codes ")")
load_text (LoadErrors.Missing l) = codes "Missing(" ++ (label_text l ++ codes ")")
load_text (LoadErrors.Circle l) = codes "Circle(" ++ (label_text l ++ codes ")")
load_text (LoadErrors.IncludeCircle l) = codes "IncludeCircle(" ++ (label_text l ++ codes ")")
load_text (LoadErrors.Deep t) = codes "Deep(" ++ (target_text t ++ codes ")")
load_text (LoadErrors.Occurrences t) = codes "Occurrences(" ++ (target_text t ++ codes ")")
load_text LoadErrors.Shapes = codes "Shapes"
load_text LoadErrors.Full = codes "Full"
load_text LoadErrors.Memory = codes "Memory"
