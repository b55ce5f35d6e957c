-- The first check that fails, and the first item that is not accepted.
use Rattle.std.specs.Prelude.{List, [], ◌^◌, ◌<◌, map, take, length, Contains, Option, Some, None, slice_get, ⊤}
use Rattle.std.specs.List.{AllByRecursion, flat_map}
use Rattle.proof_file.specs.declared.Record.{Record}
use Rattle.proof_file.specs.declared.RecordKind.{RecordKind}
use Rattle.proof_file.specs.declared.RecordKind.TheVariants.{Plus, Minus}
use Rattle.proof_file.specs.declared.Section.{Section}
use Rattle.proof_file.specs.declared.Claim.{Claim}
use Rattle.proof_file.specs.declared.Proof.{Proof}
use Rattle.proof_file.specs.declared.Why.{Why}
use Rattle.proof_file.specs.Accepts.{FailsAt, FailsBy, IsAccepted, Item, Setting, in_section, no_of, yes_of, setting_of}
use Rattle.schema_tree.specs.States.{IsStateBefore}
use Rattle.schema_tree.specs.Rising.{Rises}
use Rattle.proof_checker.specs.declared.items.Fault.{Fault}
use Rattle.schema_tree.specs.Loaded.{IsLoaded}
use Rattle.schema_tree.specs.Sure.{Known}
use Rattle.proof_checker.specs.declared.items.ProofInSetting.{ProofInSetting}
use Rattle.proof_checker.specs.declared.standings.Reader.{Reader}
use Rattle.graph_index.specs.Contents.{IsSealedWith}
use Rattle.proof_checker.specs.Standings.{AreStandings, view_of}

-- the checks pass, or the given one is the first that fails
abbrev pub FoundBy : (Why → Type 0) → List Why → Option Why → Type 0
FoundBy P checks None = AllByRecursion P checks
FoundBy P checks (Some w) = FailsAt P checks w

-- the items of some sections
abbrev pub section_items : List Section → List Item
section_items sections = flat_map (λ x. map (λ r. in_section x.stratum r) x.records) sections

-- a proof by its sections and claims, which are all that the checks of an item look at
abbrev pub proof_of : List Section → List Claim → Proof
proof_of sections claims = record { head = None; nodes = []; sections = sections; claims = claims }

-- all items are accepted, or the given one is the first that is not, by the given check
abbrev pub FirstFault : Setting → Proof → List Item → Option Fault → Type 0
FirstFault x p items None = AllByRecursion (IsAccepted x p) items
FirstFault x p items (Some f) =
    (f.item < length items) × AllByRecursion (IsAccepted x p) (take f.item items) × FailsBy x p (slice_get items f.item) f.why

-- the states that a record lists, if it lists any, strictly rise
abbrev pub StatesRise : RecordKind → Type 0
StatesRise (Plus places) = ⊤
StatesRise (Minus rank states) = Rises IsStateBefore states

-- those of each record of the sections do
abbrev pub AreRising : List Section → Type 0
AreRising sections = (x : Section) → Contains sections x → (r : Record) → Contains x.records r → StatesRise r.kind

-- what the proof is held against: a schema, its strata, terms, a graph and the terms of the node lines
abbrev pub setting : ProofInSetting → Setting
setting h = setting_of h.strata.now h.schema.now h.terms.now h.graph.now.triples h.nodes.now

-- the proof, by its sections and claims
abbrev pub proof_in : ProofInSetting → Proof
proof_in h = proof_of h.sections.now h.claims.now

-- what a reader may use of the records
abbrev pub known_to : ProofInSetting → Reader → Known
known_to h reader = view_of h.strata.now (yes_of (setting h) (proof_in h)) (no_of (setting h) (proof_in h)) reader

-- what the checks of an item need
pub record IsReady (h : ProofInSetting) : Type 0 where
  pub loaded : IsLoaded h.schema.now
  pub standings : AreStandings (yes_of (setting h) (proof_in h)) (no_of (setting h) (proof_in h)) h.standings.now
  pub sealed : IsSealedWith h.terms.now h.graph.now
  pub rising : AreRising h.sections.now
  pub few : length h.graph.now.triples < 2 ^ 31
