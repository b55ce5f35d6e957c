-- No two lines have one text, and no two proofs.
use Rattle.std.proofs.Common.{◌≡◌, ℕ, suc, ◌<◌, ◌≤◌, ◌==◌, Bool, true, false, Option, Some, None, subst, List, [], ◌∷◌, ◌++◌, refl, ap, sym, ◌∙◌, length, get_or, arith, map, append_assoc, codes, encode_utf8_all}
use Rattle.std.proofs.lemmas.Bool.{ne_eqb}
use Rattle.std.proofs.lemmas.List.{append_cancel_left, append_cancel_right}
use Rattle.std.proofs.lemmas.Str.{encodes_same}
use Rattle.std.specs.Fmt.{decimal}
use Rattle.std.specs.List.{AllByRecursion, Contains, flat_map, join_with_byte}
use Rattle.rdf_terms.specs.Written.{iri_text, term_text}
use Rattle.rdf_terms.specs.declared.terms.Term.{Term}
use Rattle.rdf_terms.proofs.TermTexts.{term_same}
use Rattle.schema_documents.specs.declared.label.Label.TheVariants as Labels
use Rattle.schema_tree.specs.declared.schema.Target.{Target}
use Rattle.schema_tree.specs.declared.schema.Target.TheVariants as Targets
use Rattle.schema_tree.specs.declared.verdicts.Place.{Place}
use Rattle.schema_tree.specs.declared.verdicts.Place.TheVariants.{At, Rest}
use Rattle.proof_file.specs.declared.RecordKind.{RecordKind}
use Rattle.proof_file.specs.declared.RecordKind.TheVariants.{Plus, Minus}
use Rattle.proof_file.specs.declared.Record.{Record}
use Rattle.proof_file.specs.declared.Section.{Section}
use Rattle.proof_file.specs.declared.Claim.{Claim}
use Rattle.proof_file.specs.declared.Proof.{Proof}
use Rattle.proof_file.specs.declared.line.Line.{Line}
use Rattle.proof_file.specs.declared.line.Line.TheVariants as Lines
use Rattle.schema_tree.specs.Targets.{target_text}
use Rattle.proof_file.specs.Text.{place_text, kind_fields, kind_mark, claim_mark, record_fields, line_text, ended, lines_text, part_mark, digest_text, head_lines, body_lines, lines_of, section_lines, plain_line, headed_line, first_line, last_line, IsDigest, IsNumber, IsPlace, IsKind, IsLine, IsUnicode, HasNoFeed, ProofText}
use Rattle.proof_file.specs.Reader.{IsGood, first_stage}
use Rattle.proof_file.specs.declared.head.Digest256.{Digest256}
use Rattle.proof_file.specs.declared.head.Head.{Head}
use Rattle.proof_file.specs.declared.head.Part.{Part}
use Rattle.proof_file.specs.declared.head.Part.TheVariants as Parts
use Rattle.proof_file.specs.Reading.{fields, IsWholeLine}
use Rattle.proof_file.proofs.Gathered.{cons_head, cons_tail, same_number}
use Rattle.lists.proofs.Quantifiers.{all_append, all_back}
use Rattle.proof_file.proofs.Numbers.{digit_of}
use Rattle.proof_file.proofs.Hex.{clean_digits, digest_same}
use Rattle.proof_file.proofs.Joined.{head_first}
use Rattle.proof_file.proofs.Parts.{once, numbers_same, states_same}
use Rattle.proof_file.proofs.Clean.{IsClean, clean_number, clean_record, clean_strata, record_cut, strata_cut}

-- ---- lines hold no line feed

pub not_held : (c : ℕ) (xs : List ℕ) → ¬ Contains xs c → IsClean c xs
not_held c [] none = tt
not_held c (x ∷ xs) none = (ne_eqb x c (λ e. none (0, (omega arith), e)), not_held c xs (λ (k, lt, e). none (suc k, (omega arith), e)))

clean_mark : (k : RecordKind) (xs : List ℕ) → IsClean 10 xs → IsClean 10 (kind_mark k ++ xs)
clean_mark (Plus ps) xs h = (refl, (refl, h))
clean_mark (Minus rank ss) xs h = (refl, (refl, h))

clean_claim : (b : Bool) (xs : List ℕ) → IsClean 10 xs → IsClean 10 (claim_mark b ++ xs)
clean_claim true xs h = (refl, (refl, (refl, (refl, h))))
clean_claim false xs h = (refl, (refl, (refl, (refl, h))))

clean_part : (p : Part) (xs : List ℕ) → IsClean 10 xs → IsClean 10 (part_mark p ++ xs)
clean_part Parts.Schema xs h = (refl, (refl, h))
clean_part Parts.Import xs h = (refl, (refl, h))
clean_part Parts.Data xs h = (refl, (refl, h))

pub clean_line : (l : Line) → IsGood l → IsClean 10 (line_text l)
clean_line (Lines.Digest p d) (h, (u, f)) = (refl, (refl, clean_part p (digest_text d) (clean_digits 10 (omega arith) d.0)))
clean_line (Lines.Strata ns) (h, (u, f)) = (refl, clean_strata ns h)
clean_line (Lines.Node t) (h, (u, f)) = (refl, (refl, not_held 10 (term_text t) f))
clean_line (Lines.Section k) (h, (u, f)) = (refl, (refl, clean_number 10 k (omega arith) h))
clean_line (Lines.Record r) (h, (u, f)) = clean_mark r.kind (join_with_byte 32 (record_fields r)) (clean_record 10 (omega arith) refl r h)
clean_line (Lines.Claim c) (h, (u, f)) = clean_claim c.holds (decimal c.node ++ (32 ∷ target_text c.target))
    (all_append (λ b. (b == 10) ≡ false) (decimal c.node) (32 ∷ target_text c.target) (clean_number 10 c.node (omega arith) h) (refl, not_held 10 (target_text c.target) f))

-- ---- no two lines have one text

iri_same : (a b : List ℕ) → iri_text a ≡ iri_text b → a ≡ b
iri_same a b e = encodes_same a b (append_cancel_right (encode_utf8_all a) (encode_utf8_all b) (62 ∷ []) (cons_tail 60 60 (encode_utf8_all a ++ 62 ∷ []) (encode_utf8_all b ++ 62 ∷ []) e))

target_same : (a b : Target) → target_text a ≡ target_text b → a ≡ b
target_same Targets.Start Targets.Start e = refl
target_same Targets.Start (Targets.Label (Labels.Iri b)) e = absurd (omega (arith, ap (λ z. get_or z 0 0) e))
target_same Targets.Start (Targets.Label (Labels.Blank b)) e = absurd (omega (arith, ap (λ z. get_or z 0 0) e))
target_same (Targets.Label (Labels.Iri a)) Targets.Start e = absurd (omega (arith, ap (λ z. get_or z 0 0) e))
target_same (Targets.Label (Labels.Blank a)) Targets.Start e = absurd (omega (arith, ap (λ z. get_or z 0 0) e))
target_same (Targets.Label (Labels.Iri a)) (Targets.Label (Labels.Iri b)) e = ap (λ z. Targets.Label (Labels.Iri z)) (iri_same a b e)
target_same (Targets.Label (Labels.Iri a)) (Targets.Label (Labels.Blank b)) e = absurd (omega (arith, ap (λ z. get_or z 0 0) e))
target_same (Targets.Label (Labels.Blank a)) (Targets.Label (Labels.Iri b)) e = absurd (omega (arith, ap (λ z. get_or z 0 0) e))
target_same (Targets.Label (Labels.Blank a)) (Targets.Label (Labels.Blank b)) e = ap (λ z. Targets.Label (Labels.Blank z))
    (encodes_same a b (append_cancel_left (codes "_:") (encode_utf8_all a) (encode_utf8_all b) e))

no_letter : (n : ℕ) → IsNumber n → decimal n ≡ 114 ∷ [] → ⊥
no_letter n h e =
    let some : 0 < length (decimal n) = omega (arith, ap length e) in
    let digit = digit_of n 0 h some in
    omega (arith, digit.1, ap (λ z. get_or z 0 0) e)

place_same : (p q : Place) → IsPlace p → IsPlace q → place_text p ≡ place_text q → p ≡ q
place_same (At m) (At n) h k e = ap (λ z. At z) (same_number m n (omega arith) (omega arith) e)
place_same (At m) Rest h k e = absurd (no_letter m (omega arith) e)
place_same Rest (At n) h k e = absurd (no_letter n (omega arith) (sym e))
place_same Rest Rest h k e = refl

places_same : (ps qs : List Place) → AllByRecursion IsPlace ps → AllByRecursion IsPlace qs → map place_text ps ≡ map place_text qs → ps ≡ qs
places_same [] [] h k e = refl
places_same [] (q ∷ qs) h k e = cc
places_same (p ∷ ps) [] h k e = cc
places_same (p ∷ ps) (q ∷ qs) (h, hs) (k, ks) e =
    let a = place_same p q h k (cons_head (place_text p) (place_text q) (map place_text ps) (map place_text qs) e) in
    let b = places_same ps qs hs ks (cons_tail (place_text p) (place_text q) (map place_text ps) (map place_text qs) e) in
    λ i. a i ∷ b i

kind_same : (j k : RecordKind) → IsKind j → IsKind k → (xs ys : List ℕ) → kind_mark j ++ xs ≡ kind_mark k ++ ys → (kind_fields j ≡ kind_fields k) → j ≡ k
kind_same (Plus ps) (Plus qs) h k xs ys e f = ap (λ z. Plus z) (places_same ps qs h k f)
kind_same (Plus ps) (Minus rank ys') h k xs ys e f = absurd (omega (arith, ap (λ z. get_or z 0 0) e))
kind_same (Minus rank xs') (Plus qs) h k xs ys e f = absurd (omega (arith, ap (λ z. get_or z 0 0) e))
kind_same (Minus rank xs') (Minus other ys') h k xs ys e f =
    let a = same_number rank other h.0 k.0 (cons_head _ _ _ _ f) in
    let b = states_same xs' ys' h.1.0 k.1.0 (cons_tail _ _ _ _ f) in
    λ i. Minus (a i) (b i)

mark_same : (j k : RecordKind) (xs ys : List ℕ) → kind_mark j ++ xs ≡ kind_mark k ++ ys → xs ≡ ys
mark_same (Plus ps) (Plus qs) xs ys e = append_cancel_left (codes "+ ") xs ys e
mark_same (Plus ps) (Minus rank ys') xs ys e = absurd (omega (arith, ap (λ z. get_or z 0 0) e))
mark_same (Minus rank xs') (Plus qs) xs ys e = absurd (omega (arith, ap (λ z. get_or z 0 0) e))
mark_same (Minus rank xs') (Minus other ys') xs ys e = append_cancel_left (codes "- ") xs ys e

record_same : (q r : Record) → IsLine (Lines.Record q) → IsLine (Lines.Record r) → line_text (Lines.Record q) ≡ line_text (Lines.Record r) → q ≡ r
record_same q r h k e =
    let joined = mark_same q.kind r.kind (join_with_byte 32 (record_fields q)) (join_with_byte 32 (record_fields r)) e in
    let same : record_fields q ≡ record_fields r = sym (record_cut q h) ∙ ap (fields 32) joined ∙ record_cut r k in
    let node = same_number q.node r.node h.0 k.0 (cons_head _ _ _ _ same) in
    let shape = same_number q.shape r.shape h.1.0 k.1.0 (cons_head _ _ _ _ (cons_tail _ _ _ _ same)) in
    let kind = kind_same q.kind r.kind h.1.1 k.1.1 (join_with_byte 32 (record_fields q)) (join_with_byte 32 (record_fields r)) e (cons_tail _ _ _ _ (cons_tail _ _ _ _ same)) in
    λ i. record { node = node i; shape = shape i; kind = kind i }

sign_same : (a b : Bool) (xs ys : List ℕ) → claim_mark a ++ xs ≡ claim_mark b ++ ys → (a ≡ b) × (xs ≡ ys)
sign_same true true xs ys e = (refl, append_cancel_left (codes "c + ") xs ys e)
sign_same true false xs ys e = absurd (omega (arith, ap (λ z. get_or z 2 0) e))
sign_same false true xs ys e = absurd (omega (arith, ap (λ z. get_or z 2 0) e))
sign_same false false xs ys e = (refl, append_cancel_left (codes "c - ") xs ys e)

claim_same : (b c : Claim) → IsNumber b.node → IsNumber c.node → line_text (Lines.Claim b) ≡ line_text (Lines.Claim c) → b ≡ c
claim_same b c h k e =
    let sign = sign_same b.holds c.holds (decimal b.node ++ (32 ∷ target_text b.target)) (decimal c.node ++ (32 ∷ target_text c.target)) e in
    let rest = once 32 (decimal b.node) (decimal c.node) (target_text b.target) (target_text c.target) (clean_number 32 b.node (omega arith) h) (clean_number 32 c.node (omega arith) k) sign.1 in
    let node = same_number b.node c.node h k rest.0 in
    let target = target_same b.target c.target rest.1 in
    λ i. record { holds = sign.0 i; node = node i; target = target i }

first_of_kind : (k : RecordKind) (xs : List ℕ) → (get_or (kind_mark k ++ xs) 0 0 ≤ 45)
first_of_kind (Plus ps) xs = omega arith
first_of_kind (Minus rank ss) xs = omega arith

first_of_claim : (b : Bool) (xs : List ℕ) → get_or (claim_mark b ++ xs) 0 0 ≡ 99
first_of_claim true xs = refl
first_of_claim false xs = refl

-- which kind of line a text is of
abbrev first_byte : Line → ℕ → Type 0
first_byte (Lines.Digest p d) n = n ≡ 102
first_byte (Lines.Strata ns) n = n ≡ 107
first_byte (Lines.Node t) n = n ≡ 110
first_byte (Lines.Section k) n = n ≡ 115
first_byte (Lines.Record r) n = n ≤ 45
first_byte (Lines.Claim c) n = n ≡ 99

first_is : (l : Line) → first_byte l (get_or (line_text l) 0 0)
first_is (Lines.Digest p d) = refl
first_is (Lines.Strata ns) = refl
first_is (Lines.Node t) = refl
first_is (Lines.Section k) = refl
first_is (Lines.Record r) = first_of_kind r.kind (join_with_byte 32 (record_fields r))
first_is (Lines.Claim c) = first_of_claim c.holds (decimal c.node ++ (32 ∷ target_text c.target))

line_of_first : (l m : Line) → line_text l ≡ line_text m → first_byte l (get_or (line_text m) 0 0)
line_of_first l m e = subst (λ z. first_byte l (get_or z 0 0)) e (first_is l)

part_same : (p q : Part) (xs ys : List ℕ) → part_mark p ++ xs ≡ part_mark q ++ ys → (p ≡ q) × (xs ≡ ys)
part_same Parts.Schema Parts.Schema xs ys e = (refl, append_cancel_left (codes "s ") xs ys e)
part_same Parts.Import Parts.Import xs ys e = (refl, append_cancel_left (codes "i ") xs ys e)
part_same Parts.Data Parts.Data xs ys e = (refl, append_cancel_left (codes "d ") xs ys e)
part_same Parts.Schema Parts.Import xs ys e = absurd (omega (arith, ap (λ z. get_or z 0 0) e))
part_same Parts.Schema Parts.Data xs ys e = absurd (omega (arith, ap (λ z. get_or z 0 0) e))
part_same Parts.Import Parts.Schema xs ys e = absurd (omega (arith, ap (λ z. get_or z 0 0) e))
part_same Parts.Import Parts.Data xs ys e = absurd (omega (arith, ap (λ z. get_or z 0 0) e))
part_same Parts.Data Parts.Schema xs ys e = absurd (omega (arith, ap (λ z. get_or z 0 0) e))
part_same Parts.Data Parts.Import xs ys e = absurd (omega (arith, ap (λ z. get_or z 0 0) e))

digest_line_same : (p q : Part) (a b : Digest256) → IsDigest a → IsDigest b → part_mark p ++ digest_text a ≡ part_mark q ++ digest_text b → Lines.Digest p a ≡ Lines.Digest q b
digest_line_same p q a b h k e =
    let parts = part_same p q (digest_text a) (digest_text b) e in
    let digests = digest_same a b h k parts.1 in
    λ i. Lines.Digest (parts.0 i) (digests i)

pub line_same : (l m : Line) → IsWholeLine l → IsWholeLine m → line_text l ≡ line_text m → l ≡ m
line_same (Lines.Digest p a) (Lines.Digest q b) h k e = digest_line_same p q a b h.0 k.0 (append_cancel_left (codes "f ") (part_mark p ++ digest_text a) (part_mark q ++ digest_text b) e)
line_same (Lines.Strata a) (Lines.Strata b) h k e = ap (λ z. Lines.Strata z) (numbers_same a b h.0 k.0 (cons_tail _ _ _ _ (sym (strata_cut a h.0) ∙ ap (fields 32) e ∙ strata_cut b k.0)))
line_same (Lines.Node a) (Lines.Node b) h k e = ap (λ z. Lines.Node z) (term_same a b h k (append_cancel_left (codes "n ") (term_text a) (term_text b) e))
line_same (Lines.Section a) (Lines.Section b) h k e = ap (λ z. Lines.Section z) (same_number a b h.0 k.0 (append_cancel_left (codes "s ") (decimal a) (decimal b) e))
line_same (Lines.Record a) (Lines.Record b) h k e = ap (λ z. Lines.Record z) (record_same a b h.0 k.0 e)
line_same (Lines.Claim a) (Lines.Claim b) h k e = ap (λ z. Lines.Claim z) (claim_same a b h.0 k.0 e)
line_same (Lines.Digest p a) (Lines.Strata b) h k e = absurd (omega (arith, ap (λ z. get_or z 0 0) e))
line_same (Lines.Digest p a) (Lines.Node b) h k e = absurd (omega (arith, ap (λ z. get_or z 0 0) e))
line_same (Lines.Digest p a) (Lines.Section b) h k e = absurd (omega (arith, ap (λ z. get_or z 0 0) e))
line_same (Lines.Strata a) (Lines.Digest q b) h k e = absurd (omega (arith, ap (λ z. get_or z 0 0) e))
line_same (Lines.Strata a) (Lines.Node b) h k e = absurd (omega (arith, ap (λ z. get_or z 0 0) e))
line_same (Lines.Strata a) (Lines.Section b) h k e = absurd (omega (arith, ap (λ z. get_or z 0 0) e))
line_same (Lines.Node a) (Lines.Digest q b) h k e = absurd (omega (arith, ap (λ z. get_or z 0 0) e))
line_same (Lines.Node a) (Lines.Strata b) h k e = absurd (omega (arith, ap (λ z. get_or z 0 0) e))
line_same (Lines.Node a) (Lines.Section b) h k e = absurd (omega (arith, ap (λ z. get_or z 0 0) e))
line_same (Lines.Section a) (Lines.Digest q b) h k e = absurd (omega (arith, ap (λ z. get_or z 0 0) e))
line_same (Lines.Section a) (Lines.Strata b) h k e = absurd (omega (arith, ap (λ z. get_or z 0 0) e))
line_same (Lines.Section a) (Lines.Node b) h k e = absurd (omega (arith, ap (λ z. get_or z 0 0) e))
line_same (Lines.Digest p a) (Lines.Record b) h k e = absurd (omega (arith, line_of_first (Lines.Record b) (Lines.Digest p a) (sym e)))
line_same (Lines.Digest p a) (Lines.Claim b) h k e = absurd (omega (arith, line_of_first (Lines.Claim b) (Lines.Digest p a) (sym e)))
line_same (Lines.Strata a) (Lines.Record b) h k e = absurd (omega (arith, line_of_first (Lines.Record b) (Lines.Strata a) (sym e)))
line_same (Lines.Strata a) (Lines.Claim b) h k e = absurd (omega (arith, line_of_first (Lines.Claim b) (Lines.Strata a) (sym e)))
line_same (Lines.Node a) (Lines.Record b) h k e = absurd (omega (arith, line_of_first (Lines.Record b) (Lines.Node a) (sym e)))
line_same (Lines.Node a) (Lines.Claim b) h k e = absurd (omega (arith, line_of_first (Lines.Claim b) (Lines.Node a) (sym e)))
line_same (Lines.Section a) (Lines.Record b) h k e = absurd (omega (arith, line_of_first (Lines.Record b) (Lines.Section a) (sym e)))
line_same (Lines.Section a) (Lines.Claim b) h k e = absurd (omega (arith, line_of_first (Lines.Claim b) (Lines.Section a) (sym e)))
line_same (Lines.Record a) (Lines.Digest q b) h k e = absurd (omega (arith, line_of_first (Lines.Record a) (Lines.Digest q b) e))
line_same (Lines.Record a) (Lines.Strata b) h k e = absurd (omega (arith, line_of_first (Lines.Record a) (Lines.Strata b) e))
line_same (Lines.Record a) (Lines.Node b) h k e = absurd (omega (arith, line_of_first (Lines.Record a) (Lines.Node b) e))
line_same (Lines.Record a) (Lines.Section b) h k e = absurd (omega (arith, line_of_first (Lines.Record a) (Lines.Section b) e))
line_same (Lines.Claim a) (Lines.Digest q b) h k e = absurd (omega (arith, line_of_first (Lines.Claim a) (Lines.Digest q b) e))
line_same (Lines.Claim a) (Lines.Strata b) h k e = absurd (omega (arith, line_of_first (Lines.Claim a) (Lines.Strata b) e))
line_same (Lines.Claim a) (Lines.Node b) h k e = absurd (omega (arith, line_of_first (Lines.Claim a) (Lines.Node b) e))
line_same (Lines.Claim a) (Lines.Section b) h k e = absurd (omega (arith, line_of_first (Lines.Claim a) (Lines.Section b) e))
line_same (Lines.Record a) (Lines.Claim b) h k e =
    absurd (let low = line_of_first (Lines.Record a) (Lines.Claim b) e in let is = first_is (Lines.Claim b) in omega (arith, low, is))
line_same (Lines.Claim a) (Lines.Record b) h k e =
    absurd (let is = line_of_first (Lines.Claim a) (Lines.Record b) e in let low = first_is (Lines.Record b) in omega (arith, low, is))

-- a line's text is not `end`
pub not_end : (l : Line) → line_text l ≡ codes "end" → ⊥
not_end l e = by l (subst (λ z. first_byte l (get_or z 0 0)) e (first_is l))
  where
    by : (l : Line) → first_byte l 101 → ⊥
    by (Lines.Digest p d) h = omega (arith, h)
    by (Lines.Strata ns) h = omega (arith, h)
    by (Lines.Node t) h = omega (arith, h)
    by (Lines.Section k) h = omega (arith, h)
    by (Lines.Record r) h = omega (arith, h)
    by (Lines.Claim c) h = omega (arith, h)

-- ---- lists of lines

pub line_first : (l : List ℕ) (ls rest : List ℕ) → (ended l ++ ls) ++ rest ≡ l ++ 10 ∷ (ls ++ rest)
line_first l ls rest = append_assoc (ended l) ls rest ∙ append_assoc l (10 ∷ []) (ls ++ rest)

pub whole : (l : Line) → IsGood l → IsWholeLine l
whole l h = (h.0, h.1.0)

-- what the text of whole lines begins with is whole lines, and what follows them is the rest of the lines
pub prefix : (ls ms : List Line) (tail rest : List ℕ) → AllByRecursion IsGood ls → AllByRecursion IsGood ms → lines_text ms ++ (last_line ++ tail) ≡ lines_text ls ++ rest →
    (more : List Line) × ((ms ≡ ls ++ more) × (rest ≡ lines_text more ++ (last_line ++ tail)))
prefix [] ms tail rest h k e = (ms, (refl, sym e))
prefix (l ∷ ls) [] tail rest (h, hs) k e =
    let p = once 10 (line_text l) (codes "end") (lines_text ls ++ rest) tail (clean_line l h) (refl, (refl, (refl, tt))) (sym (line_first (line_text l) (lines_text ls) rest) ∙ sym e) in
    absurd (not_end l p.0)
prefix (l ∷ ls) (m ∷ ms) tail rest (h, hs) (k, ks) e =
    let p = once 10 (line_text m) (line_text l) (lines_text ms ++ (last_line ++ tail)) (lines_text ls ++ rest) (clean_line m k) (clean_line l h)
    (sym (line_first (line_text m) (lines_text ms) (last_line ++ tail)) ∙ e ∙ line_first (line_text l) (lines_text ls) rest) in
    let same = line_same m l (whole m k) (whole l h) p.0 in
    let q = prefix ls ms tail rest hs ks p.1 in
    (q.0, ((λ i. same i ∷ q.1.0 i), q.1.1))

-- ---- the head of its lines

-- the first lines of two formats are not the same
pub first_same : (a b : Option Head) (xs ys : List ℕ) → first_line a ++ xs ≡ first_line b ++ ys → (first_stage a ≡ first_stage b) × (xs ≡ ys)
first_same None None xs ys e = (refl, append_cancel_left plain_line xs ys e)
first_same None (Some h) xs ys e = absurd (omega (arith, ap (λ z. get_or z 11 0) e))
first_same (Some g) None xs ys e = absurd (omega (arith, ap (λ z. get_or z 11 0) e))
first_same (Some g) (Some h) xs ys e = (refl, append_cancel_left headed_line xs ys e)

imports_in : List Line → List Digest256
imports_in [] = []
imports_in (Lines.Digest Parts.Import d ∷ ls) = d ∷ imports_in ls
imports_in (l ∷ ls) = []

-- the digest of the data, or one that is given
graph_in : Digest256 → List Line → Digest256
graph_in g [] = g
graph_in g (Lines.Digest Parts.Import d ∷ ls) = graph_in g ls
graph_in g (Lines.Digest Parts.Data d ∷ ls) = d
graph_in g (l ∷ ls) = g

strata_in : List Line → List ℕ
strata_in [] = []
strata_in (Lines.Digest p d ∷ ls) = strata_in ls
strata_in (Lines.Strata ns ∷ ls) = ns
strata_in (l ∷ ls) = []

head_in : List Line → Option Head
head_in [] = None
head_in (Lines.Digest Parts.Schema d ∷ ls) = Some (record { files = record { schema = d; imports = imports_in ls; graph = graph_in d ls }; strata = strata_in ls })
head_in (l ∷ ls) = None

its_imports : (is : List Digest256) (g : Digest256) (ls : List Line) → imports_in (map (λ d. Lines.Digest Parts.Import d) is ++ (Lines.Digest Parts.Data g ∷ ls)) ≡ is
unfolding imports_in
its_imports [] g ls = refl
its_imports (i ∷ is) g ls = ap (λ z. i ∷ z) (its_imports is g ls)

its_graph : (s : Digest256) (is : List Digest256) (g : Digest256) (ls : List Line) → graph_in s (map (λ d. Lines.Digest Parts.Import d) is ++ (Lines.Digest Parts.Data g ∷ ls)) ≡ g
unfolding graph_in
its_graph s [] g ls = refl
its_graph s (i ∷ is) g ls = its_graph s is g ls

its_strata : (is : List Digest256) (g : Digest256) (ns : List ℕ) (ls : List Line) → strata_in (map (λ d. Lines.Digest Parts.Import d) is ++ (Lines.Digest Parts.Data g ∷ Lines.Strata ns ∷ ls)) ≡ ns
unfolding strata_in
its_strata [] g ns ls = refl
its_strata (i ∷ is) g ns ls = its_strata is g ns ls

-- no line behind a head begins one
no_head : (ns : List Term) (ss : List Section) (cs : List Claim) → head_in (map (λ t. Lines.Node t) ns ++ (flat_map section_lines ss ++ map (λ c. Lines.Claim c) cs)) ≡ None
unfolding head_in
no_head [] [] [] = refl
no_head [] [] (c ∷ cs) = refl
no_head [] (s ∷ ss) cs = refl
no_head (n ∷ ns) ss cs = refl

its_head : (p : Proof) (head : Option Head) → head_in (head_lines head ++ body_lines p) ≡ head
unfolding head_in
its_head p None = no_head p.nodes p.sections p.claims
its_head p (Some h) =
    let imports = its_imports h.files.imports h.files.graph (Lines.Strata h.strata ∷ body_lines p) in
    let graph = its_graph h.files.schema h.files.imports h.files.graph (Lines.Strata h.strata ∷ body_lines p) in
    let strata = its_strata h.files.imports h.files.graph h.strata (body_lines p) in
    ap head_in (head_first h (body_lines p)) ∙ (λ i. Some (record { files = record { schema = h.files.schema; imports = imports i; graph = graph i }; strata = strata i }))

-- what passes over the lines of heads
passes_head : {X : Type 0} (f : List Line → X) → ((p : Part) (d : Digest256) (ls : List Line) → f (Lines.Digest p d ∷ ls) ≡ f ls) → ((ns : List ℕ) (ls : List Line) → f (Lines.Strata ns ∷ ls) ≡ f ls) →
    (head : Option Head) (ls : List Line) → f (head_lines head ++ ls) ≡ f ls
passes_head f digest strata None ls = refl
passes_head f digest strata (Some h) ls =
    ap f (head_first h ls) ∙ digest Parts.Schema h.files.schema _ ∙ imports h.files.imports ∙ digest Parts.Data h.files.graph _ ∙ strata h.strata ls
  where
    imports : (is : List Digest256) →
        f (map (λ d. Lines.Digest Parts.Import d) is ++ (Lines.Digest Parts.Data h.files.graph ∷ Lines.Strata h.strata ∷ ls)) ≡ f (Lines.Digest Parts.Data h.files.graph ∷ Lines.Strata h.strata ∷ ls)
    imports [] = refl
    imports (i ∷ is) = digest Parts.Import i _ ∙ imports is

-- ---- the proof of its lines

nodes_in : List Line → List Term
nodes_in [] = []
nodes_in (Lines.Node t ∷ ls) = t ∷ nodes_in ls
nodes_in (l ∷ ls) = nodes_in ls

records_in : List Line → List Record
records_in [] = []
records_in (Lines.Record r ∷ ls) = r ∷ records_in ls
records_in (l ∷ ls) = []

sections_in : List Line → List Section
sections_in [] = []
sections_in (Lines.Section k ∷ ls) = record { stratum = k; records = records_in ls } ∷ sections_in ls
sections_in (l ∷ ls) = sections_in ls

claims_in : List Line → List Claim
claims_in [] = []
claims_in (Lines.Claim c ∷ ls) = c ∷ claims_in ls
claims_in (l ∷ ls) = claims_in ls

-- the lines of sections and claims
abbrev later : List Section → List Claim → List Line
later ss cs = flat_map section_lines ss ++ map (λ c. Lines.Claim c) cs

later_first : (s : Section) (ss : List Section) (cs : List Claim) → later (s ∷ ss) cs ≡ Lines.Section s.stratum ∷ (map (λ r. Lines.Record r) s.records ++ later ss cs)
later_first s ss cs = append_assoc (section_lines s) (flat_map section_lines ss) (map (λ c. Lines.Claim c) cs)

nodes_behind : (head : Option Head) (ls : List Line) → nodes_in (head_lines head ++ ls) ≡ nodes_in ls
unfolding nodes_in
nodes_behind head ls = passes_head nodes_in (λ p d ls. refl) (λ ns ls. refl) head ls

claims_behind : (head : Option Head) (ls : List Line) → claims_in (head_lines head ++ ls) ≡ claims_in ls
unfolding claims_in
claims_behind head ls = passes_head claims_in (λ p d ls. refl) (λ ns ls. refl) head ls

sections_behind : (head : Option Head) (ls : List Line) → sections_in (head_lines head ++ ls) ≡ sections_in ls
unfolding sections_in
sections_behind head ls = passes_head sections_in (λ p d ls. refl) (λ ns ls. refl) head ls

nodes_before : (ns : List Term) (ls : List Line) → nodes_in (map (λ t. Lines.Node t) ns ++ ls) ≡ ns ++ nodes_in ls
unfolding nodes_in
nodes_before [] ls = refl
nodes_before (n ∷ ns) ls = ap (λ z. n ∷ z) (nodes_before ns ls)

nodes_of_records : (rs : List Record) (ls : List Line) → nodes_in (map (λ r. Lines.Record r) rs ++ ls) ≡ nodes_in ls
unfolding nodes_in
nodes_of_records [] ls = refl
nodes_of_records (r ∷ rs) ls = nodes_of_records rs ls

nodes_later : (ss : List Section) (cs : List Claim) → nodes_in (later ss cs) ≡ []
unfolding nodes_in
nodes_later [] [] = refl
nodes_later [] (c ∷ cs) = nodes_later [] cs
nodes_later (s ∷ ss) cs = ap nodes_in (later_first s ss cs) ∙ nodes_of_records s.records (later ss cs) ∙ nodes_later ss cs

claims_of_nodes : (ns : List Term) (ls : List Line) → claims_in (map (λ t. Lines.Node t) ns ++ ls) ≡ claims_in ls
unfolding claims_in
claims_of_nodes [] ls = refl
claims_of_nodes (n ∷ ns) ls = claims_of_nodes ns ls

claims_of_records : (rs : List Record) (ls : List Line) → claims_in (map (λ r. Lines.Record r) rs ++ ls) ≡ claims_in ls
unfolding claims_in
claims_of_records [] ls = refl
claims_of_records (r ∷ rs) ls = claims_of_records rs ls

claims_later : (ss : List Section) (cs : List Claim) → claims_in (later ss cs) ≡ cs
unfolding claims_in
claims_later [] [] = refl
claims_later [] (c ∷ cs) = ap (λ z. c ∷ z) (claims_later [] cs)
claims_later (s ∷ ss) cs = ap claims_in (later_first s ss cs) ∙ claims_of_records s.records (later ss cs) ∙ claims_later ss cs

sections_of_nodes : (ns : List Term) (ls : List Line) → sections_in (map (λ t. Lines.Node t) ns ++ ls) ≡ sections_in ls
unfolding sections_in
sections_of_nodes [] ls = refl
sections_of_nodes (n ∷ ns) ls = sections_of_nodes ns ls

sections_of_records : (rs : List Record) (ls : List Line) → sections_in (map (λ r. Lines.Record r) rs ++ ls) ≡ sections_in ls
unfolding sections_in
sections_of_records [] ls = refl
sections_of_records (r ∷ rs) ls = sections_of_records rs ls

records_later : (ss : List Section) (cs : List Claim) → records_in (later ss cs) ≡ []
unfolding records_in
records_later [] [] = refl
records_later [] (c ∷ cs) = refl
records_later (s ∷ ss) cs = ap records_in (later_first s ss cs)

records_before : (rs : List Record) (ls : List Line) → records_in ls ≡ [] → records_in (map (λ r. Lines.Record r) rs ++ ls) ≡ rs
unfolding records_in
records_before [] ls h = h
records_before (r ∷ rs) ls h = ap (λ z. r ∷ z) (records_before rs ls h)

sections_later : (ss : List Section) (cs : List Claim) → sections_in (later ss cs) ≡ ss
unfolding sections_in
sections_later [] [] = refl
sections_later [] (c ∷ cs) = sections_later [] cs
sections_later (s ∷ ss) cs =
    let records = records_before s.records (later ss cs) (records_later ss cs) in
    let rest = sections_of_records s.records (later ss cs) ∙ sections_later ss cs in
    ap sections_in (later_first s ss cs) ∙ (λ i. record { stratum = s.stratum; records = records i } ∷ rest i)

append_nil : {X : Type 0} (xs : List X) → xs ++ [] ≡ xs
append_nil [] = refl
append_nil (x ∷ xs) = ap (λ z. x ∷ z) (append_nil xs)

pub lines_same : (p q : Proof) → lines_of p ≡ lines_of q → p ≡ q
lines_same p q e =
    let head : p.head ≡ q.head = sym (its_head p p.head) ∙ ap head_in e ∙ its_head q q.head in
    let nodes : p.nodes ≡ q.nodes = sym (its_nodes p) ∙ ap nodes_in e ∙ its_nodes q in
    let sections : p.sections ≡ q.sections = sym (its_sections p) ∙ ap sections_in e ∙ its_sections q in
    let claims : p.claims ≡ q.claims = sym (its_claims p) ∙ ap claims_in e ∙ its_claims q in
    λ i. record { head = head i; nodes = nodes i; sections = sections i; claims = claims i }
  where
    its_nodes : (p : Proof) → nodes_in (lines_of p) ≡ p.nodes
    its_nodes p = nodes_behind p.head (body_lines p) ∙ nodes_before p.nodes (later p.sections p.claims) ∙ ap (λ z. p.nodes ++ z) (nodes_later p.sections p.claims) ∙ append_nil p.nodes

    its_sections : (p : Proof) → sections_in (lines_of p) ≡ p.sections
    its_sections p = sections_behind p.head (body_lines p) ∙ sections_of_nodes p.nodes (later p.sections p.claims) ∙ sections_later p.sections p.claims

    its_claims : (p : Proof) → claims_in (lines_of p) ≡ p.claims
    its_claims p = claims_behind p.head (body_lines p) ∙ claims_of_nodes p.nodes (later p.sections p.claims) ∙ claims_later p.sections p.claims

all_both : {X : Type 0} (P Q R : X → Type 0) (xs : List X) → AllByRecursion P xs → AllByRecursion Q xs → AllByRecursion R xs → AllByRecursion (λ x. P x × (Q x × R x)) xs
all_both P Q R [] h k j = tt
all_both P Q R (x ∷ xs) (h, hs) (k, ks) (j, js) = ((h, (k, j)), all_both P Q R xs hs ks js)

pub good_lines : (p : Proof) (bytes : List ℕ) → ProofText p bytes → AllByRecursion IsGood (lines_of p)
good_lines p bytes h = all_both IsLine IsUnicode HasNoFeed (lines_of p) h.keeps.lines h.unicode h.no_feeds

-- the text of a proof begins the text of no other
pub only_text : (p q : Proof) (a b tail : List ℕ) → ProofText p a → ProofText q b → b ≡ a ++ tail → (lines_of q ≡ lines_of p) × (tail ≡ [])
only_text p q a b tail h k e =
    let inner : lines_text (lines_of q) ++ (last_line ++ []) ≡ lines_text (lines_of p) ++ (last_line ++ tail) =
    (first_same q.head p.head (lines_text (lines_of q) ++ last_line) (lines_text (lines_of p) ++ (last_line ++ tail))
    (sym k.spelled ∙ e ∙ ap (λ z. z ++ tail) h.spelled ∙ append_assoc (first_line p.head) (lines_text (lines_of p) ++ last_line) tail
    ∙ ap (λ z. first_line p.head ++ z) (append_assoc (lines_text (lines_of p)) last_line tail))).1 in
    let found = prefix (lines_of p) (lines_of q) [] (last_line ++ tail) (good_lines p a h) (good_lines q b k) inner in
    by found.0 found.1.0 (all_back IsGood (lines_of p) found.0 (subst (AllByRecursion IsGood) found.1.0 (good_lines q b k))) found.1.1
  where
    by : (more : List Line) → lines_of q ≡ lines_of p ++ more → AllByRecursion IsGood more → last_line ++ tail ≡ lines_text more ++ (last_line ++ []) → (lines_of q ≡ lines_of p) × (tail ≡ [])
    by [] same good rest = (same ∙ append_nil (lines_of p), append_cancel_left last_line tail [] rest)
    by (m ∷ more) same (good, goods) rest =
        absurd (not_end m (sym (once 10 (codes "end") (line_text m) tail (lines_text more ++ last_line) (refl, (refl, (refl, tt))) (clean_line m good)
        (rest ∙ line_first (line_text m) (lines_text more) last_line)).0))

pub proofs_same : (p q : Proof) (bytes : List ℕ) → ProofText p bytes → ProofText q bytes → p ≡ q
proofs_same p q bytes h k = lines_same p q (sym (only_text p q bytes bytes [] h k (sym (append_nil bytes))).0)
