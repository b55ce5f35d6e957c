-- When a proof is current for files, and which strata it uses (own).
use Rattle.std.specs.Prelude.{ℕ, List, ◌≡◌, Option, Some, None, ⊤}
use Rattle.proof_file.specs.declared.head.Digests.{Digests}
use Rattle.proof_file.specs.declared.head.Head.{Head}
use Rattle.proof_file.specs.declared.head.Part.{Part}
use Rattle.proof_file.specs.declared.head.Part.TheVariants as Parts
use Rattle.schema_tree.specs.declared.schema.Schema.{Schema}
use Rattle.schema_tree.specs.Edges.{IsStratified, IsStratum}
use Rattle.proof_checker.specs.declared.checking.CheckError.{CheckError}
use Rattle.proof_checker.specs.declared.checking.CheckError.TheVariants as CheckErrors

-- a proof is current for the files of these digests: it names none, or it names these and brings a stratification
abbrev pub IsCurrent : Schema → Digests → Option Head → Type 0
IsCurrent s files None = ⊤
IsCurrent s files (Some h) = (h.files ≡ files) × IsStratified s h.strata

-- the strata by which its records are meant: those that it brings, or else those of the schema
abbrev pub AreUsed : Schema → Option Head → List ℕ → Type 0
AreUsed s None f = IsStratum s f
AreUsed s (Some h) f = f ≡ h.strata

-- the part is the first whose digests differ, in the order of schema, imports and data
abbrev pub IsStale : Digests → Digests → Part → Type 0
IsStale named files Parts.Schema = ¬ (named.schema ≡ files.schema)
IsStale named files Parts.Import = (named.schema ≡ files.schema) × (¬ (named.imports ≡ files.imports))
IsStale named files Parts.Data = (named.schema ≡ files.schema) × (named.imports ≡ files.imports) × (¬ (named.graph ≡ files.graph))

-- no digest differs, or the part is the first whose digests do
abbrev pub FirstStale : Digests → Digests → Option Part → Type 0
FirstStale named files None = named ≡ files
FirstStale named files (Some part) = IsStale named files part

-- why the head of a proof keeps its records from being checked
abbrev pub HeadFails : Schema → Digests → Option Head → CheckError → Type 0
HeadFails s files head (CheckErrors.Stale part) = (h : Head) × (head ≡ Some h) × IsStale h.files files part
HeadFails s files head CheckErrors.Strata = (h : Head) × (head ≡ Some h) × (h.files ≡ files) × (¬ IsStratified s h.strata)
HeadFails s files head CheckErrors.Memory = ⊤
HeadFails s files head (CheckErrors.Syntax at) = ⊥
HeadFails s files head (CheckErrors.Rejected i w) = ⊥
HeadFails s files head CheckErrors.Full = ⊥
