-- What of a proof is read so far (own).
use Rattle.std.specs.Prelude.{ℕ, List, [], ◌∷◌, ◌++◌, ◌≡◌, Option, Some, None, ⊤}
use Rattle.rdf_terms.specs.declared.terms.Term.{Term}
use Rattle.proof_file.specs.declared.Record.{Record}
use Rattle.proof_file.specs.declared.Section.{Section}
use Rattle.proof_file.specs.declared.Claim.{Claim}
use Rattle.proof_file.specs.declared.Proof.{Proof}
use Rattle.proof_file.specs.declared.head.Digest256.{Digest256}
use Rattle.proof_file.specs.declared.head.Head.{Head}
use Rattle.proof_file.specs.declared.read.Draft.{Draft}
use Rattle.proof_file.specs.declared.read.HeadDraft.{HeadDraft}
use Rattle.proof_file.specs.Text.{ProofText}
use Rattle.proof_file.specs.Reader.{Heading, opened, importing, filed, Where, heading, behind, ended, failed, no_lines}

-- the last section, if there is one
abbrev pub last_section : Option ℕ → List Record → List Section
last_section None records = []
last_section (Some k) records = record { stratum = k; records = records } ∷ []

-- a section before the last needs a last one
abbrev pub IsBegun : Option ℕ → List Section → Type 0
IsBegun None sections = sections ≡ []
IsBegun (Some k) sections = ⊤

-- the parts are those of the proof p
pub record ArePartsOf (nodes : List Term) (sections : List Section) (stratum : Option ℕ) (records : List Record) (claims : List Claim) (p : Proof) : Type 0 where
  pub same_nodes : nodes ≡ p.nodes
  pub same_sections : sections ++ last_section stratum records ≡ p.sections
  pub begun : IsBegun stratum sections
  pub same_claims : claims ≡ p.claims

-- the head of these digests and strata, if it is whole
abbrev pub head_of : Option Digest256 → List Digest256 → Option Digest256 → Option (List ℕ) → Option Head
head_of (Some s) is (Some g) (Some numbers) = Some (record { files = record { schema = s; imports = is; graph = g }; strata = numbers })
head_of schema is graph strata = None

-- the digests are those that are read of a head
abbrev pub IsHeadDraft : HeadDraft → Heading → Type 0
IsHeadDraft d opened = (d.schema ≡ None) × (d.imports.items ≡ [])
IsHeadDraft d (importing s is) = (d.schema ≡ Some s) × (d.imports.items ≡ is)
IsHeadDraft d (filed files) = (d.schema ≡ Some files.schema) × ((d.imports.items ≡ files.imports) × (d.graph ≡ Some files.graph))

-- the draft is that of the proof p
pub record IsDraft (d : Draft) (p : Proof) : Type 0 where
  pub head : head_of d.head.schema d.head.imports.items d.head.graph d.head.strata ≡ p.head
  pub parts : ArePartsOf d.nodes.items d.sections.items d.stratum d.records.items d.claims.items p

-- the draft is that of the proof of which the bytes are the text
abbrev pub IsDraftOf : Draft → List ℕ → Type 0
IsDraftOf d bytes = (p : Proof) × (IsDraft d p × ProofText p bytes)

-- the draft has what is read of a head, and no line behind it
pub record IsHeadingDraft (d : Draft) (h : Heading) : Type 0 where
  pub head : IsHeadDraft d.head h
  pub parts : ArePartsOf d.nodes.items d.sections.items d.stratum d.records.items d.claims.items no_lines

-- the draft has the lines that are read
abbrev pub IsDraftAt : Draft → Where → Type 0
IsDraftAt d (heading h) = IsHeadingDraft d h
IsDraftAt d (behind p) = IsDraft d p
IsDraftAt d (ended p) = ⊥
IsDraftAt d (failed at) = ⊤
