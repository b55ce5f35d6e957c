-- What is to be stored, by whatever command, and what may be stored of it.
use Rattle.std.specs.Prelude.{ℕ, List, ◌≡◌, ◌⊎◌, Option, Some, None}
use Rattle.input_names.specs.Names.{Text}
use Rattle.shex_io.specs.Files.{Told, HoldsPart, KeepsOthers}
use Rattle.schema_tree.specs.Edges.{IsStratum}
use Rattle.proof_file.specs.declared.Proof.{Proof}
use Rattle.proof_file.specs.declared.head.Head.{Head}
use Rattle.proof_file.specs.Text.{ProofText}
use Rattle.command_words.specs.Asked.{Command}
use Rattle.shex_inputs.specs.Held.{Held}
use Rattle.shex_run.specs.Checking.{Confirms, IsGiven}
use Rattle.shex_run.specs.Proofs.{IsDueProof}
use Rattle.shex_run.specs.Tasks.{IsToStore}

-- the proof of the same nodes, sections and claims, with this head
abbrev pub with_head : Head → Proof → Proof
with_head head p = record { head = Some head; nodes = p.nodes; sections = p.sections; claims = p.claims }

-- the proof p, whose text the old bytes are and which has this head of its own or none, is in format 2 the new bytes: the old ones
-- where it has a head, and else the text of the same proof with the head that is given
abbrev pub IsNewest : Head → Proof → List ℕ → Option Head → List ℕ → Type 0
IsNewest head p old (Some own) new = new ≡ old
IsNewest head p old None new = ProofText (with_head head p) new

-- the new bytes are the proof p, whose text the old bytes are, in format 2, with a head that names the files and brings the strata of
-- the schema where p has none
pub record IsUpgradeOf (h : Held) (p : Proof) (old new : List ℕ) : Type 0 where
  pub head : Head
  pub files : head.files ≡ h.files
  pub least : IsStratum h.schema head.strata
  pub newest : IsNewest head p old p.head new

-- the old bytes are accepted and true, the text is the result map of their claims, and the new bytes are their proof in format 2
pub record Upgrades (h : Held) (old text new : List ℕ) : Type 0 where
  pub confirmed : Confirms h old text
  pub upgrade : IsUpgradeOf h confirmed.accepted.found.found.proof old new

-- the command is to store a proof that it checks under this name, that proof is current and accepted, and the bytes are it in format 2
pub record IsDueUpgrade (told : Told) (c : Command) (name : Text) (bytes : List ℕ) : Type 0 where
  pub task : IsToStore c name
  pub held : Held
  pub old : List ℕ
  pub given : IsGiven told c held old
  pub text : List ℕ
  pub upgrades : Upgrades held old text bytes

-- the bytes are due to be stored under this name: a proof of the answers, or the proof that is checked
abbrev pub IsDueStore : Told → Command → Text → List ℕ → Type 0
IsDueStore told c name bytes = IsDueProof told c name bytes ⊎ IsDueUpgrade told c name bytes

-- the name of the proof holds what it held or a prefix of the proof, as far as is told, and each other name what it held
pub record IsCutStore (told after : Told) (c : Command) : Type 0 where
  pub name : Text
  pub bytes : List ℕ
  pub due : IsDueStore told c name bytes
  pub part : HoldsPart told after name bytes
  pub others : KeepsOthers told after name

-- nothing is stored, or the proof in part
abbrev pub MayStore : Told → Told → Command → Type 0
MayStore told after c = (after ≡ told) ⊎ IsCutStore told after c
