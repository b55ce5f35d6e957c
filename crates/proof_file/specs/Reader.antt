-- What the reader of lines has come to (own).
use Rattle.std.specs.Prelude.{ℕ, suc, List, [], ◌∷◌, ◌++◌, ◌<◌, ◌≡◌, ◌⊎◌, length, map, ◌-◌, ◌==◌, false, Option, Some, None, codes, ⊤}
use Rattle.std.specs.Borrow.{Bor}
use Rattle.std.specs.List.{AllByRecursion}
use Rattle.rdf_terms.specs.declared.terms.Term.{Term}
use Rattle.proof_file.specs.declared.Record.{Record}
use Rattle.proof_file.specs.declared.Section.{Section}
use Rattle.proof_file.specs.declared.Claim.{Claim}
use Rattle.proof_file.specs.declared.Proof.{Proof}
use Rattle.proof_file.specs.declared.head.Digest256.{Digest256}
use Rattle.proof_file.specs.declared.head.Digests.{Digests}
use Rattle.proof_file.specs.declared.head.Part.{Part}
use Rattle.proof_file.specs.declared.head.Part.TheVariants as Parts
use Rattle.proof_file.specs.declared.head.Head.{Head}
use Rattle.proof_file.specs.declared.line.Line.{Line}
use Rattle.proof_file.specs.declared.line.Line.TheVariants as Lines
use Rattle.proof_file.specs.declared.lines.Stage.{Stage}
use Rattle.proof_file.specs.declared.lines.Stage.TheVariants as Stages
use Rattle.proof_file.specs.declared.lines.Lines.{Lines as Reader}
use Rattle.proof_file.specs.declared.lines.Step.{Step}
use Rattle.proof_file.specs.declared.lines.Step.TheVariants as Heads
use Rattle.proof_file.specs.declared.lines.Next.{Next}
use Rattle.proof_file.specs.declared.lines.Next.TheVariants as Nexts
use Rattle.schema_tree.specs.Rising.{IsLess, Rises}
use Rattle.proof_file.specs.Text.{IsTermBefore, IsSectionBefore, IsRecordBefore, IsLine, IsUnicode, HasNoFeed, IsFault, ProofText, line_text, lines_of, lines_text, plain_line, headed_line, first_line, last_line, text_of}

-- ---- what is read of a proof

-- how much of a head is read: nothing; the digests of the schema and of imports; or the digests of all files
pub data Heading : Type 0 where
  opened : Heading
  importing : Digest256 → List Digest256 → Heading
  filed : Digests → Heading

-- its lines
abbrev pub heading_lines : Heading → List Line
heading_lines opened = []
heading_lines (importing s is) = Lines.Digest Parts.Schema s ∷ map (λ d. Lines.Digest Parts.Import d) is
heading_lines (filed files) = Lines.Digest Parts.Schema files.schema ∷ (map (λ d. Lines.Digest Parts.Import d) files.imports ++ Lines.Digest Parts.Data files.graph ∷ [])

-- one more digest of a head
abbrev pub AddsDigest : Heading → Part → Digest256 → Heading → Type 0
AddsDigest opened Parts.Schema d more = more ≡ importing d []
AddsDigest (importing s is) Parts.Import d more = more ≡ importing s (is ++ d ∷ [])
AddsDigest (importing s is) Parts.Data d more = more ≡ filed (record { schema = s; imports = is; graph = d })
AddsDigest heading part d more = ⊥

-- the proof of a head alone, and the proof without lines
abbrev pub headed : Option Head → Proof
headed head = record { head = head; nodes = []; sections = []; claims = [] }

abbrev pub no_lines : Proof
no_lines = headed None

-- what a reader has come to: lines of a head, lines of a proof, the end of its text, or a fault at a place
pub data Where : Type 0 where
  heading : Heading → Where
  behind : Proof → Where
  ended : Proof → Where
  failed : ℕ → Where

-- what is read behind one more line of a head: the strata are its last
abbrev pub Leads : Line → Heading → Where → Type 0
Leads (Lines.Digest part d) h w = (more : Heading) × (AddsDigest h part d more × (w ≡ heading more))
Leads (Lines.Strata numbers) (filed files) w = w ≡ behind (headed (Some (record { files = files; strata = numbers })))
Leads line h w = ⊥

-- q is p with one more line behind its last
pub data Grows (p : Proof) : Line → Proof → Type 0 where
  node : (t : Term) → p.sections ≡ [] → p.claims ≡ [] → Grows p (Lines.Node t) (record { head = p.head; nodes = p.nodes ++ t ∷ []; sections = []; claims = [] })
  section : (k : ℕ) → p.claims ≡ [] → Grows p (Lines.Section k) (record { head = p.head; nodes = p.nodes; sections = p.sections ++ record { stratum = k; records = [] } ∷ []; claims = [] })
  entry : (r : Record) (front : List Section) (k : ℕ) (rs : List Record) → p.claims ≡ [] → p.sections ≡ front ++ record { stratum = k; records = rs } ∷ [] →
      Grows p (Lines.Record r) (record { head = p.head; nodes = p.nodes; sections = front ++ record { stratum = k; records = rs ++ r ∷ [] } ∷ []; claims = [] })
  claim : (c : Claim) → Grows p (Lines.Claim c) (record { head = p.head; nodes = p.nodes; sections = p.sections; claims = p.claims ++ c ∷ [] })

-- the record comes behind one of this node and this Shape
abbrev pub IsBehind : ℕ → ℕ → Record → Type 0
IsBehind n s r = (n < r.node) ⊎ ((n ≡ r.node) × (s < r.shape))

-- the line may follow: in a head, behind node lines of which the last has this text, in a section, or behind a claim
abbrev pub Follows : Stage → List ℕ → Line → Type 0
Follows Stages.Head last (Lines.Digest Parts.Schema d) = ⊤
Follows Stages.Imports last (Lines.Digest Parts.Import d) = ⊤
Follows Stages.Imports last (Lines.Digest Parts.Data d) = ⊤
Follows Stages.Files last (Lines.Strata numbers) = ⊤
Follows (Stages.Nodes n) last (Lines.Node t) = (n < 16777216) × IsLess last (line_text (Lines.Node t))
Follows (Stages.Nodes n) last (Lines.Section k) = ⊤
Follows (Stages.Nodes n) last (Lines.Record r) = ⊥
Follows (Stages.Nodes n) last (Lines.Claim c) = ⊤
Follows (Stages.Section j) last (Lines.Node t) = ⊥
Follows (Stages.Section j) last (Lines.Section k) = j < k
Follows (Stages.Section j) last (Lines.Record r) = ⊤
Follows (Stages.Section j) last (Lines.Claim c) = ⊤
Follows (Stages.Record j n s) last (Lines.Node t) = ⊥
Follows (Stages.Record j n s) last (Lines.Section k) = j < k
Follows (Stages.Record j n s) last (Lines.Record r) = IsBehind n s r
Follows (Stages.Record j n s) last (Lines.Claim c) = ⊤
Follows Stages.Claims last (Lines.Claim c) = ⊤
Follows stage last line = ⊥

-- the last line may follow: behind no part of a head
abbrev pub MayEnd : Stage → Type 0
MayEnd Stages.Head = ⊥
MayEnd Stages.Imports = ⊥
MayEnd Stages.Files = ⊥
MayEnd stage = ⊤

-- behind the line
abbrev pub next_stage : Stage → Line → Stage
next_stage Stages.Head (Lines.Digest Parts.Schema d) = Stages.Imports
next_stage Stages.Imports (Lines.Digest Parts.Data d) = Stages.Files
next_stage stage (Lines.Digest part d) = stage
next_stage Stages.Files (Lines.Strata numbers) = Stages.Nodes 0
next_stage stage (Lines.Strata numbers) = stage
next_stage (Stages.Nodes n) (Lines.Node t) = Stages.Nodes (suc n)
next_stage stage (Lines.Node t) = stage
next_stage stage (Lines.Section k) = Stages.Section k
next_stage (Stages.Section j) (Lines.Record r) = Stages.Record j r.node r.shape
next_stage (Stages.Record j n s) (Lines.Record r) = Stages.Record j r.node r.shape
next_stage stage (Lines.Record r) = stage
next_stage stage (Lines.Claim c) = Stages.Claims

-- the text of the last node line, behind the line
abbrev pub next_last : List ℕ → Line → List ℕ
next_last last (Lines.Node t) = line_text (Lines.Node t)
next_last last (Lines.Digest part d) = last
next_last last (Lines.Strata numbers) = last
next_last last (Lines.Section k) = last
next_last last (Lines.Record r) = last
next_last last (Lines.Claim c) = last

-- each line follows those before it, and the last line of a proof follows all of them
abbrev pub Runs : Stage → List ℕ → List Line → Type 0
Runs stage last [] = MayEnd stage
Runs stage last (l ∷ ls) = Follows stage last l × Runs (next_stage stage l) (next_last last l) ls

abbrev pub stage_after : Stage → List Line → Stage
stage_after stage [] = stage
stage_after stage (l ∷ ls) = stage_after (next_stage stage l) ls

abbrev pub last_after : List ℕ → List Line → List ℕ
last_after last [] = last
last_after last (l ∷ ls) = last_after (next_last last l) ls

-- the last section of the proof has the stratum k; sections above it, and records that may follow, keep the order
pub record InSection (p : Proof) (k : ℕ) (Next : Record → Type 0) : Type 0 where
  pub claims : p.claims ≡ []
  pub front : List Section
  pub records : List Record
  pub sections : p.sections ≡ front ++ record { stratum = k; records = records } ∷ []
  pub above : (x : Section) → k < x.stratum → Rises IsSectionBefore (p.sections ++ x ∷ [])
  pub behind : (r : Record) → Next r → Rises IsRecordBefore (records ++ r ∷ [])

-- the proof has come to the stage, with the text of the last node line
abbrev pub Fits : Proof → Stage → List ℕ → Type 0
Fits p (Stages.Nodes n) last = (p.sections ≡ []) × ((p.claims ≡ []) × ((length p.nodes ≡ n) × ((t : Term) → IsLess last (line_text (Lines.Node t)) → Rises IsTermBefore (p.nodes ++ t ∷ []))))
Fits p (Stages.Section k) last = InSection p k (λ r. ⊤)
Fits p (Stages.Record k n s) last = InSection p k (IsBehind n s)
Fits p Stages.Claims last = ⊤
Fits p stage last = ⊥

-- what the lines of a proof text are
abbrev pub IsGood : Line → Type 0
IsGood l = IsLine l × (IsUnicode l × HasNoFeed l)

-- a line of a proof text that may follow
abbrev pub IsNext : Stage → List ℕ → Line → Type 0
IsNext stage last l = IsGood l × Follows stage last l

-- the bytes have no line feed
abbrev pub HasNoEnd : List ℕ → Type 0
HasNoEnd bytes = AllByRecursion (λ b. (b == 10) ≡ false) bytes

-- the first line, and what follows its line feed
abbrev pub IsFirstLine : Option (Bor (List ℕ) × Bor (List ℕ)) → List ℕ → Type 0
IsFirstLine None bytes = HasNoEnd bytes
IsFirstLine (Some x) bytes = (bytes ≡ x.0.now ++ 10 ∷ x.1.now) × HasNoEnd x.0.now

-- the stage behind the first line
abbrev pub first_stage : Option Head → Stage
first_stage None = Stages.Nodes 0
first_stage (Some h) = Stages.Head

-- the stage behind what is read of a head
abbrev pub heading_stage : Heading → Stage
heading_stage opened = Stages.Head
heading_stage (importing s is) = Stages.Imports
heading_stage (filed files) = Stages.Files

-- the first line and the lines of a proof
abbrev pub behind_text : Proof → List ℕ
behind_text p = first_line p.head ++ lines_text (lines_of p)

-- the reader has given these lines of a head, with which the bytes begin
pub record IsHeading (r : Reader) (h : Heading) : Type 0 where
  pub limits : AllByRecursion IsLine (heading_lines h)
  pub parts : r.whole.now ≡ (headed_line ++ lines_text (heading_lines h)) ++ r.rest.now
  pub stage : r.stage ≡ heading_stage h
  pub last : r.last.now ≡ []

-- the reader has given the lines of p, with which the bytes begin
pub record IsPast (r : Reader) (p : Proof) : Type 0 where
  pub text : ProofText p (text_of p)
  pub parts : r.whole.now ≡ behind_text p ++ r.rest.now
  pub fits : Fits p r.stage r.last.now
  pub stage : r.stage ≡ stage_after (first_stage p.head) (lines_of p)
  pub last : r.last.now ≡ last_after [] (lines_of p)

-- this is the text of the last line, which may follow
abbrev pub IsLast : Stage → List ℕ → Type 0
IsLast stage line = (line ≡ codes "end") × MayEnd stage

-- no line at the head of what is left is the last one, or may follow
abbrev pub IsStuck : Stage → List ℕ → List ℕ → Type 0
IsStuck stage last rest = (line more : List ℕ) → HasNoEnd line → rest ≡ line ++ 10 ∷ more → ¬ IsLast stage line × ((l : Line) → IsNext stage last l → ¬ (line ≡ line_text l))

-- what stands at the head of what is left
abbrev pub Steps : Stage → List ℕ → List ℕ → Step → Type 0
Steps stage last rest (Heads.Line l text more) = (rest ≡ text.now ++ 10 ∷ more.now) × ((text.now ≡ line_text l) × IsNext stage last l)
Steps stage last rest Heads.End = (rest ≡ last_line) × MayEnd stage
Steps stage last rest (Heads.Bad left) = ((left.now ≡ rest) × IsStuck stage last rest) ⊎ ((rest ≡ last_line ++ left.now) × ((0 < length left.now) × MayEnd stage))
Steps stage last rest Heads.Memory = ⊤

-- the last line ends the text where nothing follows it
abbrev pub IsEndBefore : List ℕ → Step → Type 0
IsEndBefore more Heads.End = more ≡ []
IsEndBefore more (Heads.Bad left) = (left.now ≡ more) × (0 < length more)
IsEndBefore more result = ⊥

-- the node lines are not so many that one more could not be counted
abbrev pub IsFew : Stage → Line → Type 0
IsFew (Stages.Nodes n) (Lines.Node t) = n < 16777216
IsFew stage line = ⊤

abbrev pub Stands : Reader → Where → Type 0
Stands r (heading h) = IsHeading r h
Stands r (behind p) = IsPast r p
Stands r (ended p) = (r.stage ≡ Stages.Ended) × ProofText p r.whole.now
Stands r (failed at) = (r.stage ≡ Stages.Failed) × ((length r.whole.now - length r.rest.now ≡ at) × IsFault r.whole.now at)

-- what is given, and what the reader has come to then
abbrev pub Goes : Where → Reader → Reader → Next → Type 0
Goes (heading h) old new (Nexts.Line l) = (w : Where) × (Leads l h w × Stands new w)
Goes (heading h) old new Nexts.End = ⊥
Goes (heading h) old new (Nexts.Bad at) = Stands new (failed at)
Goes (heading h) old new Nexts.Memory = new ≡ old
Goes (behind p) old new (Nexts.Line l) = (q : Proof) × (Grows p l q × Stands new (behind q))
Goes (behind p) old new Nexts.End = Stands new (ended p)
Goes (behind p) old new (Nexts.Bad at) = Stands new (failed at)
Goes (behind p) old new Nexts.Memory = new ≡ old
Goes (ended p) old new Nexts.End = Stands new (ended p)
Goes (ended p) old new result = ⊥
Goes (failed at) old new (Nexts.Bad here) = (here ≡ at) × Stands new (failed at)
Goes (failed at) old new result = ⊥

-- bytes begin with the first line of a format, what follows it is the rest, and this is the stage behind it
abbrev pub IsOpening : Option (Stage × Bor (List ℕ)) → List ℕ → Type 0
IsOpening None bytes = (head : Option Head) (rest : List ℕ) → ¬ (bytes ≡ first_line head ++ rest)
IsOpening (Some x) bytes = ((x.0 ≡ Stages.Nodes 0) × (bytes ≡ plain_line ++ x.1.now)) ⊎ ((x.0 ≡ Stages.Head) × (bytes ≡ headed_line ++ x.1.now))

-- a reader of these bytes, behind the first line of a proof without a head or with one, or where the bytes do not begin as a
-- proof text does
abbrev pub Opens : Reader → List ℕ → Type 0
Opens r bytes = (r.whole.now ≡ bytes) × (Stands r (behind no_lines) ⊎ (Stands r (heading opened) ⊎ Stands r (failed 0)))

-- after a line less is left
abbrev pub Shortens : Reader → Reader → Next → Type 0
Shortens old new (Nexts.Line l) = length new.rest.now < length old.rest.now
Shortens old new result = ⊤
