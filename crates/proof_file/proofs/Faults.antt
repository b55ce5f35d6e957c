-- Where bytes cease to be a proof text.
use Rattle.std.proofs.Common.{◌≡◌, ℕ, zero, suc, ◌<◌, ◌≤◌, ◌==◌, inr, Option, Some, None, subst, List, [], ◌∷◌, ◌++◌, refl, ap, sym, ◌∙◌, length, arith, map, append_assoc, true, false, true≢false, eq-eqb, codes, encode_utf8_all}
use Rattle.std.proofs.Math.Utf8.{encode}
use Rattle.std.proofs.lemmas.List.{length-append, append-nil}
use Rattle.std.proofs.lemmas.Fmt.{IsAscii-decimal}
use Rattle.std.proofs.lemmas.Grind.{flat_map-append}
use Rattle.std.proofs.lemmas.List.Elements.{All-from_recursion}
use Rattle.std.proofs.lemmas.Str.{IsUtf8-append, IsUtf8-from_ascii}
use Rattle.std.proofs.lemmas.Str.Ascii.{IsAscii-from_all}
use Rattle.std.specs.Fmt.{decimal}
use Rattle.std.specs.List.{AllByRecursion, Contains, flat_map, join_with_byte}
use Rattle.std.specs.Str.{IsUtf8}
use Rattle.rdf_terms.specs.Written.{term_text}
use Rattle.rdf_terms.proofs.TermTexts.{term_utf8}
use Rattle.schema_documents.specs.declared.label.Label.TheVariants as Labels
use Rattle.schema_tree.specs.declared.schema.Target.{Target}
use Rattle.schema_tree.specs.declared.schema.Target.TheVariants as Targets
use Rattle.schema_tree.specs.declared.verdicts.Place.{Place}
use Rattle.schema_tree.specs.declared.verdicts.Place.TheVariants.{At, Rest}
use Rattle.schema_tree.specs.declared.verdicts.State.{State}
use Rattle.proof_file.specs.declared.RecordKind.{RecordKind}
use Rattle.proof_file.specs.declared.RecordKind.TheVariants.{Plus, Minus}
use Rattle.proof_file.specs.declared.Proof.{Proof}
use Rattle.proof_file.specs.declared.line.Line.{Line}
use Rattle.proof_file.specs.declared.line.Line.TheVariants as Lines
use Rattle.schema_tree.specs.Targets.{IsTextTarget, target_text}
use Rattle.proof_file.specs.declared.head.Digest256.{Digest256}
use Rattle.proof_file.specs.declared.head.Head.{Head}
use Rattle.proof_file.specs.declared.head.Part.{Part}
use Rattle.proof_file.specs.declared.head.Part.TheVariants as Parts
use Rattle.proof_file.specs.Text.{Keeps, IsUnicode, HasNoFeed, HasNoFeeds, ProofText, IsFault, part_mark, digest_text, IsDigest, IsNumber, IsPlace, IsState, IsKind, place_text, state_text, kind_fields, kind_mark, claim_mark, record_fields, line_text, ended, lines_text, lines_of, first_line, last_line, text_of}
use Rattle.proof_file.specs.Reader.{behind_text, IsGood, IsLast, Follows, Runs, first_stage, stage_after, last_after}
use Rattle.lists.proofs.Quantifiers.{all_back, all_front}
use Rattle.proof_file.proofs.Parts.{once}
use Rattle.proof_file.proofs.Clean.{IsClean}
use Rattle.proof_file.proofs.Apart.{not_held, clean_line, first_same, prefix, line_first, good_lines, only_text}
use Rattle.proof_file.proofs.Hex.{low_digits}
use Rattle.proof_file.proofs.Grown.{proof_runs, runs_back}

-- ---- lines are UTF-8

utf8_number : (n : ℕ) → IsNumber n → IsUtf8 (decimal n)
utf8_number n h = IsUtf8-from_ascii (decimal n) (IsAscii-decimal n (omega arith))

utf8_join : (c : ℕ) → IsUtf8 (c ∷ []) → (fs : List (List ℕ)) → AllByRecursion IsUtf8 fs → IsUtf8 (join_with_byte c fs)
utf8_join c one [] h = ([], (refl, refl))
utf8_join c one (f ∷ []) (h, hs) = h
utf8_join c one (f ∷ g ∷ fs) (h, hs) = IsUtf8-append f (c ∷ join_with_byte c (g ∷ fs)) h (IsUtf8-append (c ∷ []) (join_with_byte c (g ∷ fs)) one (utf8_join c one (g ∷ fs) hs))

utf8_numbers : (ns : List ℕ) → AllByRecursion IsNumber ns → AllByRecursion IsUtf8 (map decimal ns)
utf8_numbers [] h = tt
utf8_numbers (n ∷ ns) (h, hs) = (utf8_number n h, utf8_numbers ns hs)

utf8_places : (ps : List Place) → AllByRecursion IsPlace ps → AllByRecursion IsUtf8 (map place_text ps)
unfolding encode
utf8_places [] h = tt
utf8_places (At n ∷ ps) (h, hs) = (utf8_number n (omega arith), utf8_places ps hs)
utf8_places (Rest ∷ ps) (h, hs) = ((codes "r", (refl, refl)), utf8_places ps hs)

utf8_states : (xs : List State) → AllByRecursion IsState xs → AllByRecursion IsUtf8 (map state_text xs)
unfolding encode
utf8_states [] h = tt
utf8_states (x ∷ xs) (h, hs) = (
  IsUtf8-append (decimal x.done) (58 ∷ join_with_byte 44 (map decimal x.counts)) (utf8_number x.done h.0)
      (IsUtf8-append (58 ∷ []) (join_with_byte 44 (map decimal x.counts)) (58 ∷ [], (refl, refl)) (utf8_join 44 (44 ∷ [], (refl, refl)) (map decimal x.counts) (utf8_numbers x.counts h.1))),
  utf8_states xs hs,
)

utf8_kind : (k : RecordKind) → IsKind k → AllByRecursion IsUtf8 (kind_fields k)
utf8_kind (Plus ps) h = utf8_places ps h
utf8_kind (Minus rank xs) h = (utf8_number rank h.0, utf8_states xs h.1.0)

utf8_mark : (k : RecordKind) → IsUtf8 (kind_mark k)
unfolding encode
utf8_mark (Plus ps) = (codes "+ ", (refl, refl))
utf8_mark (Minus rank xs) = (codes "- ", (refl, refl))

utf8_sign : (b : _) → IsUtf8 (claim_mark b)
unfolding encode
utf8_sign true = (codes "c + ", (refl, refl))
utf8_sign false = (codes "c - ", (refl, refl))

utf8_iri : (iri : List ℕ) → IsUtf8 (encode_utf8_all iri) → IsUtf8 (60 ∷ (encode_utf8_all iri ++ 62 ∷ []))
unfolding encode
utf8_iri iri h = IsUtf8-append (60 ∷ []) (encode_utf8_all iri ++ 62 ∷ []) (60 ∷ [], (refl, refl)) (IsUtf8-append (encode_utf8_all iri) (62 ∷ []) h (62 ∷ [], (refl, refl)))

utf8_target : (t : Target) → IsTextTarget t → IsUtf8 (target_text t)
unfolding encode
utf8_target Targets.Start h = (codes "START", (refl, refl))
utf8_target (Targets.Label (Labels.Iri iri)) h = utf8_iri iri (iri, (h, refl))
utf8_target (Targets.Label (Labels.Blank label)) h = IsUtf8-append (codes "_:") (encode_utf8_all label) (codes "_:", (refl, refl)) (label, (h, refl))

utf8_part : (p : Part) → IsUtf8 (part_mark p)
unfolding encode
utf8_part Parts.Schema = (codes "s ", (refl, refl))
utf8_part Parts.Import = (codes "i ", (refl, refl))
utf8_part Parts.Data = (codes "d ", (refl, refl))

utf8_digest : (d : Digest256) → IsDigest d → IsUtf8 (digest_text d)
utf8_digest d h = IsUtf8-from_ascii (digest_text d) (IsAscii-from_all (digest_text d) (All-from_recursion (λ b. b < 128) (digest_text d) (low_digits d.0 h.1)))

utf8_strata : (ns : List ℕ) → AllByRecursion IsNumber ns → IsUtf8 (flat_map (λ n. 32 ∷ decimal n) ns)
unfolding encode
utf8_strata [] h = ([], (refl, refl))
utf8_strata (n ∷ ns) (h, hs) =
    IsUtf8-append (32 ∷ []) (decimal n ++ flat_map (λ n. 32 ∷ decimal n) ns) (32 ∷ [], (refl, refl))
    (IsUtf8-append (decimal n) (flat_map (λ n. 32 ∷ decimal n) ns) (utf8_number n h) (utf8_strata ns hs))

pub utf8_line : (l : Line) → IsGood l → IsUtf8 (line_text l)
unfolding encode
utf8_line (Lines.Digest p d) (h, (u, f)) =
    IsUtf8-append (codes "f ") (part_mark p ++ digest_text d) (codes "f ", (refl, refl)) (IsUtf8-append (part_mark p) (digest_text d) (utf8_part p) (utf8_digest d h))
utf8_line (Lines.Strata ns) (h, (u, f)) = IsUtf8-append (codes "k") (flat_map (λ n. 32 ∷ decimal n) ns) (codes "k", (refl, refl)) (utf8_strata ns h)
utf8_line (Lines.Node t) (h, (u, f)) = IsUtf8-append (codes "n ") (term_text t) (codes "n ", (refl, refl)) (term_utf8 t h u)
utf8_line (Lines.Section k) (h, (u, f)) = IsUtf8-append (codes "s ") (decimal k) (codes "s ", (refl, refl)) (utf8_number k h)
utf8_line (Lines.Record r) (h, (u, f)) = IsUtf8-append (kind_mark r.kind) (join_with_byte 32 (record_fields r)) (utf8_mark r.kind)
    (utf8_join 32 (32 ∷ [], (refl, refl)) (record_fields r) (utf8_number r.node h.0, (utf8_number r.shape h.1.0, utf8_kind r.kind h.1.1)))
utf8_line (Lines.Claim c) (h, (u, f)) = IsUtf8-append (claim_mark c.holds) (decimal c.node ++ (32 ∷ target_text c.target)) (utf8_sign c.holds)
    (IsUtf8-append (decimal c.node) (32 ∷ target_text c.target) (utf8_number c.node h) (IsUtf8-append (32 ∷ []) (target_text c.target) (32 ∷ [], (refl, refl)) (utf8_target c.target u)))

-- ---- what follows the first lines of a proof

-- a first line and lines behind it
abbrev pub front_of : Option Head → List Line → List ℕ
front_of head ls = first_line head ++ lines_text ls

pub after_lines : (head : Option Head) (ls : List Line) (q : Proof) (rest : List ℕ) → AllByRecursion IsGood ls → ProofText q (front_of head ls ++ rest) →
    (more : List Line) × ((lines_of q ≡ ls ++ more) × ((rest ≡ lines_text more ++ last_line) × (first_stage q.head ≡ first_stage head)))
after_lines head ls q rest good h =
    let same = first_same q.head head (lines_text (lines_of q) ++ last_line) (lines_text ls ++ rest) (sym h.spelled ∙ append_assoc (first_line head) (lines_text ls) rest) in
    let found = prefix ls (lines_of q) [] rest good (good_lines q (front_of head ls ++ rest) h) same.1 in
    (found.0, (found.1.0, (found.1.1, same.0)))

ended_lines : (a : List ℕ) (ls : List Line) → (x : List ℕ) × (ended a ++ lines_text ls ≡ ended x)
ended_lines a [] = (a, append-nil (ended a))
ended_lines a (l ∷ ls) =
    let k = ended_lines (ended a ++ line_text l) ls in
    (k.0, (sym (append_assoc (ended a) (ended (line_text l)) (lines_text ls)) ∙ ap (λ z. z ++ lines_text ls) (sym (append_assoc (ended a) (line_text l) (10 ∷ []))) ∙ k.1))

-- the line is none that may follow these
abbrev pub IsNone : Option Head → List Line → List ℕ → Type 0
IsNone head ls line = ¬ IsLast (stage_after (first_stage head) ls) line × ((l : Line) → IsGood l → Follows (stage_after (first_stage head) ls) (last_after [] ls) l → line ≡ line_text l → ⊥)

none_follows : (head : Option Head) (ls : List Line) (q : Proof) (line ys : List ℕ) → AllByRecursion IsGood ls → IsClean 10 line → IsNone head ls line →
    ProofText q (front_of head ls ++ (ended line ++ ys)) → ⊥
none_follows head ls q line ys good clean none h =
    by found.0 found.1.0 (all_back IsGood ls found.0 (subst (AllByRecursion IsGood) found.1.0 (good_lines q (front_of head ls ++ (ended line ++ ys)) h))) found.1.1.0
  where
    found : (more : List Line) × ((lines_of q ≡ ls ++ more) × ((ended line ++ ys ≡ lines_text more ++ last_line) × (first_stage q.head ≡ first_stage head)))
    found = after_lines head ls q (ended line ++ ys) good h

    flat : ended line ++ ys ≡ line ++ 10 ∷ ys
    flat = append_assoc line (10 ∷ []) ys

    runs : (more : List Line) → lines_of q ≡ ls ++ more → Runs (stage_after (first_stage head) ls) (last_after [] ls) more
    runs more same = runs_back (first_stage head) [] ls more (subst (λ z. Runs z [] (ls ++ more)) found.1.1.1 (subst (Runs (first_stage q.head) []) same (proof_runs q h.keeps)))

    by : (more : List Line) → lines_of q ≡ ls ++ more → AllByRecursion IsGood more → ended line ++ ys ≡ lines_text more ++ last_line → ⊥
    by [] same goods rest = none.0 ((once 10 line (codes "end") ys [] clean (refl, (refl, (refl, tt))) (sym flat ∙ rest)).0, runs [] same)
    by (m ∷ more) same (goodm, goods) rest =
        none.1 m goodm (runs (m ∷ more) same).0
        (once 10 line (line_text m) ys (lines_text more ++ last_line) clean (clean_line m goodm) (sym flat ∙ rest ∙ line_first (line_text m) (lines_text more) last_line)).0

pub its_text : (p : Proof) → Keeps p → AllByRecursion IsUnicode (lines_of p) → HasNoFeeds p → ProofText p (text_of p)
its_text p keeps unicode feeds = record { keeps = keeps; unicode = unicode; no_feeds = feeds; spelled = refl }

-- the text of a proof whose lines begin with these
pub its_front : (p : Proof) (ls more : List Line) → lines_of p ≡ ls ++ more → text_of p ≡ front_of p.head ls ++ (lines_text more ++ last_line)
its_front p ls more e =
    ap (λ z. first_line p.head ++ (z ++ last_line)) (ap lines_text e ∙ flat_map-append (λ l. ended (line_text l)) ls more)
    ∙ ap (λ z. first_line p.head ++ z) (append_assoc (lines_text ls) (lines_text more) last_line)
    ∙ sym (append_assoc (first_line p.head) (lines_text ls) (lines_text more ++ last_line))

pub its_lines : (p : Proof) → text_of p ≡ behind_text p ++ last_line
its_lines p = its_front p (lines_of p) [] (sym (append-nil (lines_of p)))

-- what a first line and lines behind it are is whole lines
front_ended : (head : Option Head) (ls : List Line) → (x : List ℕ) × (front_of head ls ≡ ended x)
front_ended None ls = ended_lines (codes "shex-proof 1") ls
front_ended (Some h) ls = ended_lines (codes "shex-proof 2") ls

-- the lines begin a text, and the line that comes next, if there is one, is none that may follow
pub fault_at_line : (p : Proof) (ls left : List Line) (whole rest : List ℕ) (at : ℕ) → ProofText p (text_of p) → lines_of p ≡ ls ++ left →
    whole ≡ front_of p.head ls ++ rest → length (front_of p.head ls) ≡ at →
    ((line more : List ℕ) → IsClean 10 line → rest ≡ ended line ++ more → IsNone p.head ls line) → IsFault whole at
fault_at_line p ls left whole rest at text begins parts place none = record {
  none = λ q h. nowhere q (subst (ProofText q) parts h);
  front = front_of p.head ls;
  rest = rest;
  parts = parts;
  place = place;
  lines = inr (front_ended p.head ls);
  begins = (p, (lines_text left ++ last_line, subst (ProofText p) (its_front p ls left begins) text));
  stops = λ line more clean e (q, (ys, h)).
      none_follows p.head ls q line ys good (not_held 10 line clean) (none line more (not_held 10 line clean) e) (subst (ProofText q) (append_assoc (front_of p.head ls) (ended line) ys) h);
}
  where
    good : AllByRecursion IsGood ls
    good = all_front IsGood ls left (subst (AllByRecursion IsGood) begins (good_lines p (text_of p) text))

    nowhere : (q : Proof) → ProofText q (front_of p.head ls ++ rest) → ⊥
    nowhere q h = by found.0 (all_back IsGood ls found.0 (subst (AllByRecursion IsGood) found.1.0 (good_lines q (front_of p.head ls ++ rest) h))) found.1.1.0
      where
        found : (more : List Line) × ((lines_of q ≡ ls ++ more) × ((rest ≡ lines_text more ++ last_line) × (first_stage q.head ≡ first_stage p.head)))
        found = after_lines p.head ls q rest good h

        by : (more : List Line) → AllByRecursion IsGood more → rest ≡ lines_text more ++ last_line → ⊥
        by [] goods is = none_follows p.head ls q (codes "end") [] good (refl, (refl, (refl, tt))) (none (codes "end") [] (refl, (refl, (refl, tt))) is)
            (subst (λ z. ProofText q (front_of p.head ls ++ z)) is h)
        by (m ∷ more) (goodm, goods) is =
            let split : rest ≡ ended (line_text m) ++ (lines_text more ++ last_line) = is ∙ append_assoc (ended (line_text m)) (lines_text more) last_line in
            none_follows p.head ls q (line_text m) (lines_text more ++ last_line) good (clean_line m goodm) (none (line_text m) (lines_text more ++ last_line) (clean_line m goodm) split)
            (subst (λ z. ProofText q (front_of p.head ls ++ z)) split h)

-- more follows the last line
pub fault_after_end : (p : Proof) (whole rest : List ℕ) (at : ℕ) → ProofText p (text_of p) → whole ≡ text_of p ++ rest → length (text_of p) ≡ at → 0 < length rest → IsFault whole at
fault_after_end p whole rest at text parts place some = record {
  none = λ q h. let e = (only_text p q (text_of p) whole rest text h parts).1 in omega (arith, ap length e);
  front = text_of p;
  rest = rest;
  parts = parts;
  place = place;
  lines = inr (
    first_line p.head ++ (lines_text (lines_of p) ++ codes "end"),
    ap (λ z. first_line p.head ++ z) (sym (append_assoc (lines_text (lines_of p)) (codes "end") (10 ∷ []))) ∙ sym (append_assoc (first_line p.head) (lines_text (lines_of p) ++ codes "end") (10 ∷ [])),
  );
  begins = (p, ([], subst (ProofText p) (sym (append-nil (text_of p))) text));
  stops = λ line more clean e (q, (ys, h)).
      let nothing = (only_text p q (text_of p) ((text_of p ++ ended line) ++ ys) (ended line ++ ys) text h (append_assoc (text_of p) (ended line) ys)).1 in
      omega (arith, ap length nothing, length-append (ended line) ys, length-append line (10 ∷ []));
}

-- ---- the line that is read

not_contained : (c : ℕ) (xs : List ℕ) → IsClean c xs → ¬ Contains xs c
not_contained c [] h (k, lt, e) = omega arith
not_contained c (x ∷ xs) (h, hs) (zero, lt, e) = true≢false (sym (eq-eqb x c e) ∙ h)
not_contained c (x ∷ xs) (h, hs) (suc k, lt, e) = not_contained c xs hs (k, (omega arith), e)

clean_back : (c : ℕ) (xs ys : List ℕ) → IsClean c (xs ++ ys) → IsClean c ys
clean_back c xs ys h = all_back (λ b. (b == c) ≡ false) xs ys h

pub no_feed : (l : Line) → IsClean 10 (line_text l) → HasNoFeed l
no_feed (Lines.Node t) h = not_contained 10 (term_text t) (clean_back 10 (codes "n ") (term_text t) h)
no_feed (Lines.Digest p d) h = tt
no_feed (Lines.Strata ns) h = tt
no_feed (Lines.Section k) h = tt
no_feed (Lines.Record r) h = tt
no_feed (Lines.Claim c) h = not_contained 10 (target_text c.target)
    (clean_back 10 (codes " ") (target_text c.target) (clean_back 10 (decimal c.node) (codes " " ++ target_text c.target) (clean_back 10 (claim_mark c.holds) (decimal c.node ++ (codes " " ++ target_text c.target)) h)))

-- ---- how many lines there are

lines_few : (ls : List Line) → length ls ≤ length (lines_text ls)
lines_few [] = omega arith
lines_few (l ∷ ls) = let few = lines_few ls in omega (arith, few, length-append (line_text l) (10 ∷ []), length-append (ended (line_text l)) (lines_text ls))

pub few_lines : (p : Proof) (bytes : List ℕ) → ProofText p bytes → length (lines_of p) ≤ length bytes
few_lines p bytes h =
    let few = lines_few (lines_of p) in
    omega (arith, few, ap length h.spelled, length-append (first_line p.head) (lines_text (lines_of p) ++ last_line), length-append (lines_text (lines_of p)) last_line)
