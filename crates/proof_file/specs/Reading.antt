-- Readers of parts of a line (own).
use Rattle.std.specs.Prelude.{ℕ, suc, length, Bool, true, List, [], ◌∷◌, ◌++◌, map, ◌==◌, ◌<◌, ◌≡◌, Option, Some, None, Result, Ok, Err, codes, ⊤}
use Rattle.std.specs.Borrow.{Bor}
use Rattle.std.specs.Fmt.{decimal}
use Rattle.std.specs.List.{AllByRecursion, slice_split}
use Rattle.std.specs.Str.{all_scalars}
use Rattle.proof_file.specs.declared.RecordKind.{RecordKind}
use Rattle.proof_file.specs.declared.RecordKind.TheVariants.{Plus, Minus}
use Rattle.proof_file.specs.declared.Record.{Record}
use Rattle.proof_file.specs.declared.Claim.{Claim}
use Rattle.proof_file.specs.declared.line.Line.{Line}
use Rattle.proof_file.specs.declared.line.Line.TheVariants as Lines
use Rattle.proof_file.specs.declared.fields.Stop.{Stop}
use Rattle.proof_file.specs.declared.fields.Stop.TheVariants.{Bad, Memory}
use Rattle.schema_tree.specs.Targets.{IsTextTarget, target_text}
use Rattle.proof_file.specs.Text.{IsDigest, IsNumber, IsLine, IsUnicode}

-- the source is the text of what is read, which is as it has to be; or it is the text of nothing that is so
abbrev pub Reads : {X T : Type 0} → (X → T) → (X → Type 0) → T → Result X Stop → Type 0
Reads text IsGood source (Ok x) = (source ≡ text x) × IsGood x
Reads {X} text IsGood source (Err Bad) = (x : X) → IsGood x → ¬ (source ≡ text x)
Reads text IsGood source (Err Memory) = ⊤

-- the fields between the bytes c
abbrev pub fields : ℕ → List ℕ → List (List ℕ)
fields c text = slice_split (λ b. b == c) text

-- the fields of a text that need not be there
abbrev pub fields_left : ℕ → Option (Bor (List ℕ)) → List (List ℕ)
fields_left c None = []
fields_left c (Some x) = fields c x.now

-- a text that need not be there is shorter
abbrev pub IsShorter : Option (Bor (List ℕ)) → List ℕ → Type 0
IsShorter None text = ⊤
IsShorter (Some x) text = length x.now < length text

-- the text is given unless it is empty
abbrev pub IsGiven : Option (Bor (List ℕ)) → List ℕ → Type 0
IsGiven None text = text ≡ []
IsGiven (Some x) text = (x.now ≡ text) × (0 < length text)

abbrev pub measure : Option (Bor (List ℕ)) → ℕ
measure None = 0
measure (Some x) = suc (length x.now)

abbrev pub IsScalars : List ℕ → Type 0
IsScalars text = all_scalars text ≡ true

-- a record that confirms, and one that refutes
abbrev pub IsPlusKind : RecordKind → Type 0
IsPlusKind (Plus places) = ⊤
IsPlusKind (Minus rank states) = ⊥

abbrev pub IsMinusKind : RecordKind → Type 0
IsMinusKind (Plus places) = ⊥
IsMinusKind (Minus rank states) = ⊤

abbrev pub IsPlus : Record → Type 0
IsPlus r = IsLine (Lines.Record r) × IsPlusKind r.kind

abbrev pub IsMinus : Record → Type 0
IsMinus r = IsLine (Lines.Record r) × IsMinusKind r.kind

-- a claim without its mark
abbrev pub claim_rest : Claim → List ℕ
claim_rest c = decimal c.node ++ (codes " " ++ target_text c.target)

abbrev pub IsClaim : Bool → Claim → Type 0
IsClaim holds c = (c.holds ≡ holds) × (IsNumber c.node × IsTextTarget c.target)

-- the fields of strata in a head
abbrev pub strata_fields : List ℕ → List (List ℕ)
strata_fields numbers = codes "k" ∷ map decimal numbers

-- a line of a head within its limits
abbrev pub IsHeadLine : Line → Type 0
IsHeadLine (Lines.Digest part d) = IsDigest d
IsHeadLine (Lines.Strata numbers) = AllByRecursion IsNumber numbers
IsHeadLine line = ⊥

-- a line of a claim within its limits, with a target of Unicode characters, or one of a head
abbrev pub IsClaimOrHeadLine : Line → Type 0
IsClaimOrHeadLine (Lines.Claim c) = IsNumber c.node × IsTextTarget c.target
IsClaimOrHeadLine line = IsHeadLine line

-- a line within its limits, with texts of Unicode characters
abbrev pub IsWholeLine : Line → Type 0
IsWholeLine l = IsLine l × IsUnicode l
