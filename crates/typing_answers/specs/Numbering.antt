-- Records over other node lines (own).
use Rattle.std.specs.Prelude.{ℕ, List, Some, map, get_or, length, Contains, ◌≡◌, ◌<◌, slice_get}
use Rattle.rdf_terms.specs.declared.terms.TermId.{TermId}
use Rattle.schema_tree.specs.declared.schema.Answer.{Answer}
use Rattle.proof_file.specs.declared.Claim.{Claim}
use Rattle.proof_file.specs.declared.Record.{Record}
use Rattle.proof_file.specs.declared.Section.{Section}

-- the record with the number that its node has in the list
abbrev pub moved : List ℕ → Record → Record
moved places r = record { node = get_or places r.node 0; shape = r.shape; kind = r.kind }

-- the section, each of whose records has the number that its node has in the list
abbrev pub moved_section : List ℕ → Section → Section
moved_section places x = record { stratum = x.stratum; records = map (moved places) x.records }

-- the node has the number among these
abbrev pub IsPlace : List TermId → TermId → ℕ → Type 0
IsPlace nodes n k = slice_get nodes k ≡ Some n

-- the number that the list has at the number of the node in the table
abbrev pub place_in : List ℕ → TermId → ℕ
place_in places n = get_or places n.0 0

-- the list has, at the number of each of these nodes in the table, its number among them
pub record HasPlaces (nodes : List TermId) (places : List ℕ) : Type 0 where
  pub within : (n : TermId) → Contains nodes n → n.0 < length places
  pub found : (n : TermId) → Contains nodes n → IsPlace nodes n (place_in places n)

-- the claim of the answer, with the number that the list has for its node
abbrev pub claim_by : List ℕ → Answer → Claim
claim_by places x = record { holds = x.holds; node = place_in places x.node; target = x.target }

-- the claim is that of the answer
pub record IsClaimOf (nodes : List TermId) (x : Answer) (c : Claim) : Type 0 where
  pub node : slice_get nodes c.node ≡ Some x.node
  pub target : c.target ≡ x.target
  pub holds : c.holds ≡ x.holds
