-- Fields with a byte between them, and lines after one another.
use Rattle.std.proofs.Common.{◌≡◌, ℕ, Option, Some, None, List, [], ◌∷◌, ◌++◌, refl, ap, sym, ◌∙◌, map, append_assoc, codes, ◌≤◌, ◌-◌, length, take, drop, get_or, arith}
use Rattle.std.proofs.lemmas.Grind.{flat_map-append}
use Rattle.std.proofs.lemmas.List.Folds.{flat_map-map}
use Rattle.std.specs.Fmt.{decimal}
use Rattle.std.specs.List.{AllByRecursion, flat_map, join_with_byte}
use Rattle.rdf_terms.specs.Values.{IsValue}
use Rattle.schema_tree.specs.Targets.{IsTextTarget}
use Rattle.proof_file.specs.Text.{ended, line_text, lines_text, section_lines, head_lines, body_lines, lines_of, first_line, last_line, text_of, IsUnicode}
use Rattle.proof_file.specs.declared.head.Digest256.{Digest256}
use Rattle.proof_file.specs.declared.head.Head.{Head}
use Rattle.proof_file.specs.declared.head.Part.TheVariants as Parts
use Rattle.proof_file.specs.declared.Record.{Record}
use Rattle.proof_file.specs.declared.Section.{Section}
use Rattle.proof_file.specs.declared.Proof.{Proof}
use Rattle.proof_file.specs.declared.line.Line.{Line}
use Rattle.lists.proofs.Quantifiers.{all_mapped, all_append}
use Rattle.std.proofs.Math.Seq.{take-length}
use Rattle.proof_file.specs.declared.line.Line.TheVariants as Lines

-- the fields behind the first have the byte before them
pub joined : (c : ℕ) (x : List ℕ) (xs : List (List ℕ)) → join_with_byte c (x ∷ xs) ≡ x ++ flat_map (λ f. c ∷ f) xs
joined c x [] = sym (append_nil x)
  where
    append_nil : (xs : List ℕ) → xs ++ [] ≡ xs
    append_nil [] = refl
    append_nil (y ∷ ys) = ap (λ z. y ∷ z) (append_nil ys)
joined c x (y ∷ ys) = ap (λ z. x ++ c ∷ z) (joined c y ys)

pub joined_map : {X : Type 0} (c : ℕ) (g : X → List ℕ) (x : List ℕ) (xs : List X) → join_with_byte c (x ∷ map g xs) ≡ x ++ flat_map (λ y. c ∷ g y) xs
joined_map c g x xs = joined c x (map g xs) ∙ ap (λ z. x ++ z) (flat_map-map (λ f. c ∷ f) g xs)

-- what `write` appends is the lines, piece by piece
pub chained : (old a b e new w x y z : List ℕ) → a ≡ old ++ w → b ≡ a ++ x → e ≡ b ++ y → new ≡ e ++ z → new ≡ old ++ (w ++ (x ++ (y ++ z)))
chained old a b e new w x y z p q r s =
    s ∙ ap (λ l. l ++ z) (r ∙ ap (λ l. l ++ y) (q ∙ ap (λ l. l ++ x) p))
    ∙ append_assoc ((old ++ w) ++ x) y z ∙ append_assoc (old ++ w) x (y ++ z) ∙ append_assoc old w (x ++ (y ++ z))

pub record_written : (m n s : List ℕ) (fs : List (List ℕ)) → m ++ ((n ++ 32 ∷ s) ++ (flat_map (λ f. 32 ∷ f) fs ++ 10 ∷ [])) ≡ (m ++ join_with_byte 32 (n ∷ s ∷ fs)) ++ 10 ∷ []
record_written m n s fs =
    ap (λ z. m ++ z) (sym (append_assoc (n ++ 32 ∷ s) (flat_map (λ f. 32 ∷ f) fs) (10 ∷ []))
    ∙ ap (λ z. z ++ 10 ∷ []) (append_assoc n (32 ∷ s) (flat_map (λ f. 32 ∷ f) fs) ∙ ap (λ z. n ++ 32 ∷ z) (sym (joined 32 s fs))))
    ∙ sym (append_assoc m (n ++ 32 ∷ join_with_byte 32 (s ∷ fs)) (10 ∷ []))

pub lines_written : {X : Type 0} (g : X → Line) (xs : List X) → flat_map (λ x. ended (line_text (g x))) xs ≡ lines_text (map g xs)
lines_written g xs = sym (flat_map-map (λ l. ended (line_text l)) g xs)

pub section_written : (x : Section) → codes "s " ++ (decimal x.stratum ++ (10 ∷ flat_map (λ r. ended (line_text (Lines.Record r))) x.records)) ≡ lines_text (section_lines x)
section_written x = ap (λ z. codes "s " ++ z) (sym (append_assoc (decimal x.stratum) (10 ∷ []) (flat_map (λ r. ended (line_text (Lines.Record r))) x.records))
    ∙ ap (λ z. (decimal x.stratum ++ 10 ∷ []) ++ z) (lines_written (λ r. Lines.Record r) x.records))

pub sections_written : (xs : List Section) → flat_map (λ x. lines_text (section_lines x)) xs ≡ lines_text (flat_map section_lines xs)
sections_written [] = refl
sections_written (x ∷ xs) = ap (λ z. lines_text (section_lines x) ++ z) (sections_written xs) ∙ sym (flat_map-append (λ l. ended (line_text l)) (section_lines x) (flat_map section_lines xs))

-- the lines of a head, one after another, and what follows them
pub head_first : (h : Head) (ls : List Line) →
    head_lines (Some h) ++ ls ≡
    Lines.Digest Parts.Schema h.files.schema ∷ (map (λ d. Lines.Digest Parts.Import d) h.files.imports ++ (Lines.Digest Parts.Data h.files.graph ∷ Lines.Strata h.strata ∷ ls))
head_first h ls =
    ap (λ z. Lines.Digest Parts.Schema h.files.schema ∷ z)
    (append_assoc (map (λ d. Lines.Digest Parts.Import d) h.files.imports) (Lines.Digest Parts.Data h.files.graph ∷ Lines.Strata h.strata ∷ []) ls)

-- what `push_head` appends is the lines of the head
pub head_written : (h : Head) →
    ended (line_text (Lines.Digest Parts.Schema h.files.schema)) ++ (flat_map (λ d. ended (line_text (Lines.Digest Parts.Import d))) h.files.imports
    ++ (ended (line_text (Lines.Digest Parts.Data h.files.graph)) ++ (107 ∷ (flat_map (λ n. 32 ∷ decimal n) h.strata ++ 10 ∷ [])))) ≡ lines_text (head_lines (Some h))
head_written h =
    ap (λ z. ended (line_text (Lines.Digest Parts.Schema h.files.schema)) ++ z)
    ((λ i. lines_written (λ d. Lines.Digest Parts.Import d) h.files.imports i ++ (ended (line_text (Lines.Digest Parts.Data h.files.graph)) ++ nil_end (ended (line_text (Lines.Strata h.strata))) i))
    ∙ sym (flat_map-append (λ l. ended (line_text l)) (map (λ d. Lines.Digest Parts.Import d) h.files.imports) (Lines.Digest Parts.Data h.files.graph ∷ Lines.Strata h.strata ∷ [])))
  where
    nil_end : (xs : List ℕ) → xs ≡ xs ++ []
    nil_end [] = refl
    nil_end (x ∷ xs) = ap (λ z. x ∷ z) (nil_end xs)

pub proof_written : (p : Proof) →
    (first_line p.head ++ lines_text (head_lines p.head)) ++ (flat_map (λ t. ended (line_text (Lines.Node t))) p.nodes ++ (flat_map (λ x. lines_text (section_lines x)) p.sections ++ (flat_map (λ c. ended (line_text (Lines.Claim c))) p.claims ++ last_line)))
    ≡ text_of p
proof_written p =
    append_assoc (first_line p.head) (lines_text (head_lines p.head)) _
    ∙ ap (λ z. first_line p.head ++ z) (
    ap (λ z. lines_text (head_lines p.head) ++ z) (
    ap (λ z. flat_map (λ t. ended (line_text (Lines.Node t))) p.nodes ++ z) (sym (append_assoc _ _ last_line) ∙ ap (λ z. z ++ last_line) inner)
    ∙ sym (append_assoc _ _ last_line) ∙ ap (λ z. z ++ last_line) outer)
    ∙ sym (append_assoc (lines_text (head_lines p.head)) (lines_text (body_lines p)) last_line)
    ∙ ap (λ z. z ++ last_line) (sym (flat_map-append (λ l. ended (line_text l)) (head_lines p.head) (body_lines p))))
  where
    inner : flat_map (λ x. lines_text (section_lines x)) p.sections ++ flat_map (λ c. ended (line_text (Lines.Claim c))) p.claims ≡
        lines_text (flat_map section_lines p.sections ++ map (λ c. Lines.Claim c) p.claims)
    inner = ap (λ z. z ++ flat_map (λ c. ended (line_text (Lines.Claim c))) p.claims) (sections_written p.sections)
        ∙ ap (λ z. lines_text (flat_map section_lines p.sections) ++ z) (lines_written (λ c. Lines.Claim c) p.claims)
        ∙ sym (flat_map-append (λ l. ended (line_text l)) (flat_map section_lines p.sections) (map (λ c. Lines.Claim c) p.claims))

    outer : flat_map (λ t. ended (line_text (Lines.Node t))) p.nodes ++ lines_text (flat_map section_lines p.sections ++ map (λ c. Lines.Claim c) p.claims) ≡ lines_text (body_lines p)
    outer = ap (λ z. z ++ lines_text (flat_map section_lines p.sections ++ map (λ c. Lines.Claim c) p.claims)) (lines_written (λ t. Lines.Node t) p.nodes)
        ∙ sym (flat_map-append (λ l. ended (line_text l)) (map (λ t. Lines.Node t) p.nodes) (flat_map section_lines p.sections ++ map (λ c. Lines.Claim c) p.claims))

-- the lines of sections hold no text of Unicode characters
section_unicode : (x : Section) → AllByRecursion IsUnicode (section_lines x)
section_unicode x = (tt, all_mapped IsUnicode (λ r. Lines.Record r) x.records (records x.records))
  where
    records : (rs : List Record) → AllByRecursion (λ r. IsUnicode (Lines.Record r)) rs
    records [] = tt
    records (r ∷ rs) = (tt, records rs)

sections_unicode : (xs : List Section) → AllByRecursion IsUnicode (flat_map section_lines xs)
sections_unicode [] = tt
sections_unicode (x ∷ xs) = all_append IsUnicode (section_lines x) (flat_map section_lines xs) (section_unicode x) (sections_unicode xs)

-- nor do those of a head
pub head_unicode : (o : Option Head) → AllByRecursion IsUnicode (head_lines o)
head_unicode None = tt
head_unicode (Some h) = (
  tt,
  all_append IsUnicode (map (λ d. Lines.Digest Parts.Import d) h.files.imports) (Lines.Digest Parts.Data h.files.graph ∷ Lines.Strata h.strata ∷ [])
      (all_mapped IsUnicode (λ d. Lines.Digest Parts.Import d) h.files.imports (imports h.files.imports)) (tt, (tt, tt)),
)
  where
    imports : (ds : List Digest256) → AllByRecursion (λ d. IsUnicode (Lines.Digest Parts.Import d)) ds
    imports [] = tt
    imports (d ∷ ds) = (tt, imports ds)

pub proof_unicode : (p : Proof) → AllByRecursion IsValue p.nodes → AllByRecursion (λ c. IsTextTarget c.target) p.claims → AllByRecursion IsUnicode (lines_of p)
proof_unicode p nodes claims =
    all_append IsUnicode (head_lines p.head) (body_lines p) (head_unicode p.head)
    (all_append IsUnicode (map (λ t. Lines.Node t) p.nodes) (flat_map section_lines p.sections ++ map (λ c. Lines.Claim c) p.claims)
    (all_mapped IsUnicode (λ t. Lines.Node t) p.nodes nodes)
    (all_append IsUnicode (flat_map section_lines p.sections) (map (λ c. Lines.Claim c) p.claims) (sections_unicode p.sections) (all_mapped IsUnicode (λ c. Lines.Claim c) p.claims claims)))

pub numbers_written : (xs : List ℕ) → 1 ≤ length xs → decimal (get_or xs 0 0) ++ flat_map (λ n. 44 ∷ decimal n) (take (length xs - 1) (drop 1 xs)) ≡ join_with_byte 44 (map decimal xs)
numbers_written [] h = absurd (omega arith)
numbers_written (x ∷ ys) h =
    let e : length (x ∷ ys) - 1 ≡ length ys = omega arith in
    ap (λ k. decimal x ++ flat_map (λ n. 44 ∷ decimal n) (take k ys)) e ∙ ap (λ l. decimal x ++ flat_map (λ n. 44 ∷ decimal n) l) (take-length ys) ∙ sym (joined_map 44 decimal (decimal x) ys)
