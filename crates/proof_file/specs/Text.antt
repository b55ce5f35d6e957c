-- The text of a proof (own): lines of UTF-8, each ended by a line feed, whose fields are separated by one space. A proof with
-- a head is written in format 2, and one without in format 1.
use Rattle.std.specs.Prelude.{ℕ, Bool, true, false, List, [], ◌∷◌, ◌++◌, ◌+◌, ◌/◌, ◌%◌, ◌<◌, ◌≤◌, ◌≡◌, ◌⊎◌, if◌then◌else◌, nat_lt, length, map, codes, Contains, Option, Some, None, ⊤}
use Rattle.std.specs.Fmt.{decimal}
use Rattle.std.specs.List.{AllByRecursion, flat_map, join_with_byte}
use Rattle.rdf_terms.specs.Values.{IsValue, IsWhole}
use Rattle.rdf_terms.specs.Written.{term_text}
use Rattle.rdf_terms.specs.declared.terms.Term.{Term}
use Rattle.schema_tree.specs.declared.verdicts.Place.{Place}
use Rattle.schema_tree.specs.declared.verdicts.Place.TheVariants.{At, Rest}
use Rattle.schema_tree.specs.declared.verdicts.State.{State}
use Rattle.schema_tree.specs.Rising.{IsLess, Rises}
use Rattle.schema_tree.specs.States.{IsStateBefore}
use Rattle.schema_tree.specs.Targets.{IsTextTarget, target_text}
use Rattle.proof_file.specs.declared.RecordKind.{RecordKind}
use Rattle.proof_file.specs.declared.RecordKind.TheVariants.{Plus, Minus}
use Rattle.proof_file.specs.declared.Record.{Record}
use Rattle.proof_file.specs.declared.Section.{Section}
use Rattle.proof_file.specs.declared.Proof.{Proof}
use Rattle.proof_file.specs.declared.head.Digest256.{Digest256}
use Rattle.proof_file.specs.declared.head.Part.{Part}
use Rattle.proof_file.specs.declared.head.Part.TheVariants as Parts
use Rattle.proof_file.specs.declared.head.Head.{Head}
use Rattle.proof_file.specs.declared.line.Line.{Line}
use Rattle.proof_file.specs.declared.line.Line.TheVariants as Lines

-- ---- the text of a line, without its line feed

-- the number of an occurrence, or r for the remainder
abbrev pub place_text : Place → List ℕ
place_text (At occurrence) = decimal occurrence
place_text Rest = codes "r"

-- how many triples have their places, a colon, and the counts of the occurrences with commas between them
abbrev pub state_text : State → List ℕ
state_text x = decimal x.done ++ (codes ":" ++ join_with_byte 44 (map decimal x.counts))

-- a record begins with + where it confirms, and with - where it refutes
abbrev pub kind_mark : RecordKind → List ℕ
kind_mark (Plus places) = codes "+ "
kind_mark (Minus rank states) = codes "- "

-- what follows the node and the Shape of a record: the places, or the rank and the states
abbrev pub kind_fields : RecordKind → List (List ℕ)
kind_fields (Plus places) = map place_text places
kind_fields (Minus rank states) = decimal rank ∷ map state_text states

abbrev pub record_fields : Record → List (List ℕ)
record_fields r = decimal r.node ∷ decimal r.shape ∷ kind_fields r.kind

abbrev pub claim_mark : Bool → List ℕ
claim_mark true = codes "c + "
claim_mark false = codes "c - "

-- the lower-case hexadecimal digit of a number below 16: 0 to 9, and then a to f
abbrev pub hex_digit : ℕ → ℕ
hex_digit n = if nat_lt n 10 then n + 48 else n + 87

-- the two digits of a byte
abbrev pub hex_text : ℕ → List ℕ
hex_text byte = hex_digit (byte / 16) ∷ hex_digit (byte % 16) ∷ []

-- a digest is written as the digits of its bytes
abbrev pub digest_text : Digest256 → List ℕ
digest_text d = flat_map hex_text d.0

-- which file a digest is of: s for the schema, i for an import and d for the data
abbrev pub part_mark : Part → List ℕ
part_mark Parts.Schema = codes "s "
part_mark Parts.Import = codes "i "
part_mark Parts.Data = codes "d "

abbrev pub line_text : Line → List ℕ
line_text (Lines.Digest part d) = codes "f " ++ (part_mark part ++ digest_text d)
line_text (Lines.Strata numbers) = codes "k" ++ flat_map (λ n. codes " " ++ decimal n) numbers
line_text (Lines.Node term) = codes "n " ++ term_text term
line_text (Lines.Section stratum) = codes "s " ++ decimal stratum
line_text (Lines.Record r) = kind_mark r.kind ++ join_with_byte 32 (record_fields r)
line_text (Lines.Claim c) = claim_mark c.holds ++ (decimal c.node ++ (codes " " ++ target_text c.target))

-- ---- the text of a proof

-- each section's line is followed by its records
abbrev pub section_lines : Section → List Line
section_lines x = Lines.Section x.stratum ∷ map (λ r. Lines.Record r) x.records

-- the lines of a head: the digests of the schema, of the imports and of the data, and then the strata
abbrev pub head_lines : Option Head → List Line
head_lines None = []
head_lines (Some h) =
    Lines.Digest Parts.Schema h.files.schema ∷ (map (λ d. Lines.Digest Parts.Import d) h.files.imports ++ Lines.Digest Parts.Data h.files.graph ∷ Lines.Strata h.strata ∷ [])

-- the lines behind the head: the nodes, the sections and the claims
abbrev pub body_lines : Proof → List Line
body_lines p = map (λ t. Lines.Node t) p.nodes ++ (flat_map section_lines p.sections ++ map (λ c. Lines.Claim c) p.claims)

-- the lines of a proof: those of its head, if it has one, its nodes, its sections and its claims
abbrev pub lines_of : Proof → List Line
lines_of p = head_lines p.head ++ body_lines p

-- a line with its line feed
abbrev pub ended : List ℕ → List ℕ
ended line = line ++ 10 ∷ []

abbrev pub lines_text : List Line → List ℕ
lines_text lines = flat_map (λ l. ended (line_text l)) lines

-- the first line of a proof without a head, and of one with a head
abbrev pub plain_line : List ℕ
plain_line = ended (codes "shex-proof 1")

abbrev pub headed_line : List ℕ
headed_line = ended (codes "shex-proof 2")

-- the first line names the format
abbrev pub first_line : Option Head → List ℕ
first_line None = plain_line
first_line (Some h) = headed_line

abbrev pub last_line : List ℕ
last_line = ended (codes "end")

abbrev pub text_of : Proof → List ℕ
text_of p = first_line p.head ++ (lines_text (lines_of p) ++ last_line)

-- ---- the orders

-- the text of the one term is below that of the other
abbrev pub IsTermBefore : Term → Term → Type 0
IsTermBefore a b = IsLess (term_text a) (term_text b)

abbrev pub IsSectionBefore : Section → Section → Type 0
IsSectionBefore a b = a.stratum < b.stratum

-- by node and then Shape
abbrev pub IsRecordBefore : Record → Record → Type 0
IsRecordBefore a b = (a.node < b.node) ⊎ ((a.node ≡ b.node) × (a.shape < b.shape))

-- ---- the limits

abbrev pub IsNumber : ℕ → Type 0
IsNumber n = n ≤ 4294967295

-- 32 bytes
abbrev pub IsDigest : Digest256 → Type 0
IsDigest d = (length d.0 ≡ 32) × AllByRecursion (λ byte. byte < 256) d.0

abbrev pub IsPlace : Place → Type 0
IsPlace (At occurrence) = occurrence ≤ 65534
IsPlace Rest = ⊤

abbrev pub IsState : State → Type 0
IsState x = IsNumber x.done × AllByRecursion IsNumber x.counts

abbrev pub IsKind : RecordKind → Type 0
IsKind (Plus places) = AllByRecursion IsPlace places
IsKind (Minus rank states) = IsNumber rank × (AllByRecursion IsState states × Rises IsStateBefore states)

-- the line is within the limits, its term is one that has a text of its own, and its states strictly rise
abbrev pub IsLine : Line → Type 0
IsLine (Lines.Digest part d) = IsDigest d
IsLine (Lines.Strata numbers) = AllByRecursion IsNumber numbers
IsLine (Lines.Node term) = IsWhole term
IsLine (Lines.Section stratum) = IsNumber stratum
IsLine (Lines.Record r) = IsNumber r.node × (IsNumber r.shape × IsKind r.kind)
IsLine (Lines.Claim c) = IsNumber c.node

-- the orders and limits: node lines strictly rise by text and are at most 16,777,216, sections strictly rise, the records
-- of a section strictly rise by node and Shape, and each line is within its limits
pub record Keeps (p : Proof) : Type 0 where
  pub nodes : Rises IsTermBefore p.nodes
  pub few : length p.nodes ≤ 16777216
  pub sections : Rises IsSectionBefore p.sections
  pub records : AllByRecursion (λ x. Rises IsRecordBefore x.records) p.sections
  pub lines : AllByRecursion IsLine (lines_of p)

-- ---- the characters

-- the line has a term or target as a program holds one
abbrev pub IsUnicode : Line → Type 0
IsUnicode (Lines.Node term) = IsValue term
IsUnicode (Lines.Claim c) = IsTextTarget c.target
IsUnicode line = ⊤

-- the text of the line's term or target holds no line feed
abbrev pub HasNoFeed : Line → Type 0
HasNoFeed (Lines.Node term) = ¬ Contains (term_text term) 10
HasNoFeed (Lines.Claim c) = ¬ Contains (target_text c.target) 10
HasNoFeed line = ⊤

-- no text of a term or target in the proof holds a line feed
abbrev pub HasNoFeeds : Proof → Type 0
HasNoFeeds p = AllByRecursion HasNoFeed (lines_of p)

-- bytes are the text of the proof p; a proof that does not keep the orders and limits has none
pub record ProofText (p : Proof) (bytes : List ℕ) : Type 0 where
  pub keeps : Keeps p
  pub unicode : AllByRecursion IsUnicode (lines_of p)
  pub no_feeds : HasNoFeeds p
  pub spelled : bytes ≡ text_of p

-- ---- where bytes begin no proof text

-- the bytes begin the text of some proof
abbrev pub Begins : List ℕ → Type 0
Begins front = (p : Proof) × ((rest : List ℕ) × ProofText p (front ++ rest))

-- the bytes are whole lines
abbrev pub AreLines : List ℕ → Type 0
AreLines bytes = (bytes ≡ []) ⊎ ((front : List ℕ) × (bytes ≡ ended front))

-- The bytes are no proof text, and at is where they cease to be one: the bytes before it are whole lines that begin a proof
-- text, and with the line that begins there, if there is one, they begin none. So at is the start of the first line for
-- which the lines up to it begin no proof text, the length of bytes that end too early, or the place behind the last line
-- where more follows.
pub record IsFault (bytes : List ℕ) (at : ℕ) : Type 0 where
  pub none : (p : Proof) → ¬ ProofText p bytes
  pub front : List ℕ
  pub rest : List ℕ
  pub parts : bytes ≡ front ++ rest
  pub place : length front ≡ at
  pub lines : AreLines front
  pub begins : Begins front
  pub stops : (line more : List ℕ) → ¬ Contains line 10 → rest ≡ ended line ++ more → ¬ Begins (front ++ ended line)
