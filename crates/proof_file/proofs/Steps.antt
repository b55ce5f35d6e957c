-- The reader of lines, line by line.
use Rattle.std.proofs.Common.{◌≡◌, ℕ, zero, suc, ◌+◌, ◌-◌, ◌<◌, ◌≤◌, ◌==◌, ◌⊎◌, inl, inr, subst, List, [], ◌∷◌, ◌++◌, refl, ap, sym, ◌∙◌, length, get_or, take, drop, arith, append_assoc, map, replicate, Option, Bool, true, false, true≢false, eq-eqb, ltb, cond, codes, Some, None, position}
use Rattle.std.proofs.lemmas.List.{length-append, length-replicate, map-append, take_rest, append-nil}
use Rattle.std.proofs.lemmas.List.Quantifiers.{position-Some}
use Rattle.std.proofs.lemmas.List.Elements.{All-from_get_or, All-replicate, recursion_from_All}
use Rattle.std.proofs.lemmas.List.Sums.{fails_before_first}
use Rattle.std.proofs.lemmas.Bool.{eqb-true, ltb-false}
use Rattle.std.proofs.lemmas.Option.{none-some}
use Rattle.std.proofs.lemmas.Grind.{flat_map-append}
use Rattle.std.specs.List.{AllByRecursion, position_or_len}
use Rattle.proof_file.specs.declared.Proof.{Proof}
use Rattle.proof_file.specs.declared.head.Digest256.{Digest256}
use Rattle.proof_file.specs.declared.head.Digests.{Digests}
use Rattle.proof_file.specs.declared.head.Head.{Head}
use Rattle.proof_file.specs.declared.head.Part.TheVariants as Parts
use Rattle.proof_file.specs.declared.line.Line.{Line}
use Rattle.proof_file.specs.declared.line.Line.TheVariants as Lines
use Rattle.proof_file.specs.declared.lines.Stage.{Stage}
use Rattle.proof_file.specs.declared.lines.Stage.TheVariants as Stages
use Rattle.proof_file.specs.declared.lines.Lines.{Lines as Reader}
use Rattle.proof_file.specs.Text.{IsDigest, IsLine, IsUnicode, HasNoFeed, ProofText, IsFault, line_text, ended, lines_text, head_lines, lines_of, plain_line, headed_line, first_line, last_line, text_of}
use Rattle.proof_file.specs.Reader.{Heading, opened, importing, filed, Where, heading, behind, Leads, heading_lines, heading_stage, headed, behind_text, IsNext, IsHeading, IsPast, IsLast, IsStuck, HasNoEnd, Grows, node, section, entry, claim, Follows, MayEnd, Fits, Stands, first_stage, next_stage, next_last, stage_after, last_after, no_lines}
use Rattle.lists.proofs.Quantifiers.{all_append, all_back}
use Rattle.proof_file.proofs.Parts.{once}
use Rattle.proof_file.proofs.Apart.{not_held}
use Rattle.proof_file.proofs.Grown.{Grown, grow, stage_append, last_append}
use Rattle.proof_file.proofs.Faults.{front_of, its_text, its_lines, fault_at_line, fault_after_end}
use Rattle.proof_file.proofs.Joined.{head_unicode}

-- ---- the first line

cut_at : (xs : List ℕ) (n : ℕ) → n < length xs → (get_or xs n 0 == 10) ≡ true → ((k : ℕ) → k < n → (get_or xs k 0 == 10) ≡ false) → (xs ≡ take n xs ++ 10 ∷ drop (suc n) xs) × HasNoEnd (take n xs)
cut_at [] n lt is before = absurd (omega arith)
cut_at (x ∷ xs) zero lt is before = (ap (λ z. z ∷ xs) (eqb-true x 10 is), tt)
cut_at (x ∷ xs) (suc n) lt is before =
    let k = cut_at xs n (omega arith) is (λ i below. before (suc i) (omega arith)) in
    (ap (λ z. x ∷ z) k.0, (before 0 (omega arith), k.1))

pub line_cut : (xs : List ℕ) (n : ℕ) → Some n ≡ position (λ b. b == 10) xs → (xs ≡ take n xs ++ 10 ∷ take (length xs - (n + 1)) (drop (n + 1) xs)) × HasNoEnd (take n xs)
line_cut xs n e =
    let k = position-Some (λ b. b == 10) xs n 0 (sym e) in
    let j = cut_at xs n k.0 k.1 k.2 in
    let more : suc n ≡ n + 1 = omega arith in
    (j.0 ∙ ap (λ z. take n xs ++ 10 ∷ z) (ap (λ i. drop i xs) more ∙ sym (take_rest xs (n + 1))), j.1)

none_below : (a n : ℕ) (b : Bool) → ltb a n ≡ b → None ≡ cond b (Some a) None → n ≤ a
none_below a n true h e = absurd (none-some a e)
none_below a n false h e = ltb-false a n h

pub no_line_cut : (xs : List ℕ) → None ≡ position (λ b. b == 10) xs → HasNoEnd xs
no_line_cut xs e =
    let far = none_below (position_or_len (λ b. b == 10) xs) (length xs) (ltb (position_or_len (λ b. b == 10) xs) (length xs)) refl e in
    recursion_from_All (λ b. (b == 10) ≡ false) xs (All-from_get_or (λ b. (b == 10) ≡ false) xs 0 (λ k lt. fails_before_first (λ b. b == 10) xs k 0 (omega arith)))

-- ---- what may not follow

pub stuck_none : (stage : Stage) (last rest : List ℕ) → HasNoEnd rest → IsStuck stage last rest
stuck_none stage last rest clean = λ line more h e. absurd (true≢false (sym (eq-eqb 10 10 refl) ∙ (all_back (λ b. (b == 10) ≡ false) line (10 ∷ more) (subst HasNoEnd e clean)).0))

pub stuck_line : (stage : Stage) (last rest text more : List ℕ) → rest ≡ text ++ 10 ∷ more → HasNoEnd text → ¬ IsLast stage text →
    ((l : Line) → IsNext stage last l → ¬ (text ≡ line_text l)) → IsStuck stage last rest
stuck_line stage last rest text more is clean end none = λ line after h e.
    let same : line ≡ text = (once 10 line text after more h clean (sym e ∙ is)).0 in
    ((λ ends. end (sym same ∙ ends.0, ends.1)), λ l next reads. none l next (sym same ∙ reads))

-- ---- a line more

-- the bytes begin with one more line
text_more : (head : Option Head) (ls more : List Line) (l : Line) (whole rest : List ℕ) → whole ≡ front_of head ls ++ (line_text l ++ 10 ∷ rest) →
    more ≡ ls ++ l ∷ [] → whole ≡ front_of head more ++ rest
text_more head ls more l whole rest e is = e ∙ sym grown
  where
    grown : front_of head more ++ rest ≡ front_of head ls ++ (line_text l ++ 10 ∷ rest)
    grown =
        ap (λ z. (first_line head ++ z) ++ rest) (ap lines_text is ∙ flat_map-append (λ l. ended (line_text l)) ls (l ∷ []) ∙ ap (λ z. lines_text ls ++ z) (append-nil (ended (line_text l))))
        ∙ ap (λ z. z ++ rest) (sym (append_assoc (first_line head) (lines_text ls) (ended (line_text l))))
        ∙ append_assoc (front_of head ls) (ended (line_text l)) rest
        ∙ ap (λ z. front_of head ls ++ z) (append_assoc (line_text l) (10 ∷ []) rest)

-- the head stays
grows_head : (p : Proof) (l : Line) (q : Proof) → Grows p l q → p.head ≡ q.head
grows_head p l q (node t sections claims) = refl
grows_head p l q (section k claims) = refl
grows_head p l q (entry r front k rs claims sections) = refl
grows_head p l q (claim c) = refl

pub past_more : (old new : Reader) (p : Proof) (l : Line) → IsPast old p → old.rest.now ≡ line_text l ++ 10 ∷ new.rest.now → IsNext old.stage old.last.now l →
    new.whole.now ≡ old.whole.now → new.stage ≡ next_stage old.stage l → new.last.now ≡ next_last old.last.now l → (q : Proof) × (Grows p l q × IsPast new q)
past_more old new p l past rest next whole stage last = (
  g.whole,
  (
    g.grows,
    record {
      text = its_text g.whole g.keeps
          (subst (AllByRecursion IsUnicode) (sym g.lines) (all_append IsUnicode (lines_of p) (l ∷ []) past.text.unicode (next.0.1.0, tt)))
          (subst (AllByRecursion HasNoFeed) (sym g.lines) (all_append HasNoFeed (lines_of p) (l ∷ []) past.text.no_feeds (next.0.1.1, tt)));
      parts = subst (λ z. new.whole.now ≡ front_of z (lines_of g.whole) ++ new.rest.now) same
          (text_more p.head (lines_of p) (lines_of g.whole) l new.whole.now new.rest.now (whole ∙ past.parts ∙ ap (λ z. behind_text p ++ z) rest) g.lines);
      fits = subst (λ z. Fits g.whole z new.last.now) (sym stage) (subst (λ z. Fits g.whole (next_stage old.stage l) z) (sym last) g.fits);
      stage = stage ∙ ap (λ z. next_stage z l) past.stage ∙ sym (stage_append (first_stage p.head) (lines_of p) (l ∷ [])) ∙ (λ i. stage_after (first_stage (same i)) (sym g.lines i));
      last = last ∙ ap (λ z. next_last z l) past.last ∙ sym (last_append [] (lines_of p) (l ∷ [])) ∙ ap (last_after []) (sym g.lines);
    },
  ),
)
  where
    g : Grown p (next_stage old.stage l) (next_last old.last.now l) l
    g = grow p old.stage old.last.now l past.text.keeps past.fits next.0.0 next.1

    same : p.head ≡ g.whole.head
    same = grows_head p l g.whole g.grows

-- ---- no line more

-- no line follows these, with which a proof's lines begin, or more follows the last line
stuck_at : (p : Proof) (ls left : List Line) (stage : Stage) (last whole rest : List ℕ) → ProofText p (text_of p) → lines_of p ≡ ls ++ left → whole ≡ front_of p.head ls ++ rest →
    stage ≡ stage_after (first_stage p.head) ls → last ≡ last_after [] ls → IsStuck stage last rest → IsFault whole (length whole - length rest)
stuck_at p ls left stage last whole rest text begins parts at is stuck =
    fault_at_line p ls left whole rest (length whole - length rest) text begins parts
    (omega (arith, ap length parts, length-append (front_of p.head ls) rest))
    (λ line more clean e.
    let k = stuck line more clean (e ∙ append_assoc line (10 ∷ []) more) in (
      (λ ends. k.0 (ends.0, subst MayEnd (sym at) ends.1)),
      λ l good follows same. k.1 l (good, subst (λ z. Follows z last l) (sym at) (subst (λ z. Follows (stage_after (first_stage p.head) ls) z l) (sym is) follows)) same,
    ))

pub past_stuck : (old : Reader) (p : Proof) (left : List ℕ) → IsPast old p → ((left ≡ old.rest.now) × IsStuck old.stage old.last.now old.rest.now) ⊎
    ((old.rest.now ≡ last_line ++ left) × ((0 < length left) × MayEnd old.stage)) →
    IsFault old.whole.now (length old.whole.now - length left)
past_stuck old p left past (inl (same, stuck)) =
    subst (λ z. IsFault old.whole.now (length old.whole.now - length z)) (sym same)
    (stuck_at p (lines_of p) [] old.stage old.last.now old.whole.now old.rest.now past.text (sym (append-nil (lines_of p))) past.parts past.stage past.last stuck)
past_stuck old p left past (inr (rest, (some, may))) =
    let parts : old.whole.now ≡ text_of p ++ left = past.parts ∙ ap (λ z. behind_text p ++ z) rest ∙ sym (append_assoc (behind_text p) last_line left) ∙ ap (λ z. z ++ left) (sym (its_lines p)) in
    fault_after_end p old.whole.now left (length old.whole.now - length left) past.text parts (omega (arith, ap length parts, length-append (text_of p) left)) some

-- ---- a head

-- a proof of a head alone has a text
headed_text : (head : Option Head) → AllByRecursion IsLine (head_lines head) → ProofText (headed head) (text_of (headed head))
headed_text head limits = its_text (headed head) (record {
  nodes = tt;
  few = omega arith;
  sections = tt;
  records = tt;
  lines = subst (AllByRecursion IsLine) (sym (append-nil (head_lines head))) limits;
}) (subst (AllByRecursion IsUnicode) (sym (append-nil (head_lines head))) (head_unicode head)) (subst (AllByRecursion HasNoFeed) (sym (append-nil (head_lines head))) (head_feeds head))
  where
    imports_feeds : (is : List Digest256) → AllByRecursion HasNoFeed (map (λ d. Lines.Digest Parts.Import d) is)
    imports_feeds [] = tt
    imports_feeds (i ∷ is) = (tt, imports_feeds is)

    head_feeds : (head : Option Head) → AllByRecursion HasNoFeed (head_lines head)
    head_feeds None = tt
    head_feeds (Some h) =
        (tt, all_append HasNoFeed (map (λ d. Lines.Digest Parts.Import d) h.files.imports) (Lines.Digest Parts.Data h.files.graph ∷ Lines.Strata h.strata ∷ []) (imports_feeds h.files.imports) (tt, (tt, tt)))

-- a digest, and what a head may have behind the part that is read
no_digest : Digest256
no_digest = record { 0 = replicate 32 0 }

no_digest_good : IsDigest no_digest
unfolding no_digest
no_digest_good = (length-replicate {A = ℕ} 32 0, recursion_from_All (λ b. b < 256) (replicate {A = ℕ} 32 0) (All-replicate (λ b. b < 256) 32 0 (omega arith)))

completed : Heading → Head
completed opened = record { files = record { schema = no_digest; imports = []; graph = no_digest }; strata = [] }
completed (importing s is) = record { files = record { schema = s; imports = is; graph = no_digest }; strata = [] }
completed (filed files) = record { files = files; strata = [] }

-- the lines that are left of it
left_lines : Heading → List Line
left_lines opened = Lines.Digest Parts.Schema no_digest ∷ Lines.Digest Parts.Data no_digest ∷ Lines.Strata [] ∷ []
left_lines (importing s is) = Lines.Digest Parts.Data no_digest ∷ Lines.Strata [] ∷ []
left_lines (filed files) = Lines.Strata [] ∷ []

completed_lines : (h : Heading) → head_lines (Some (completed h)) ≡ heading_lines h ++ left_lines h
unfolding completed left_lines
completed_lines opened = refl
completed_lines (importing s is) = refl
completed_lines (filed files) =
    sym (ap (λ z. Lines.Digest Parts.Schema files.schema ∷ z) (append_assoc (map (λ d. Lines.Digest Parts.Import d) files.imports) (Lines.Digest Parts.Data files.graph ∷ []) (Lines.Strata [] ∷ [])))

left_good : (h : Heading) → AllByRecursion IsLine (left_lines h)
unfolding left_lines
left_good opened = (no_digest_good, (no_digest_good, (tt, tt)))
left_good (importing s is) = (no_digest_good, (tt, tt))
left_good (filed files) = (tt, tt)

-- the stage behind the lines of a head
imports_stage : (is : List Digest256) (ls : List Line) → stage_after Stages.Imports (map (λ d. Lines.Digest Parts.Import d) is ++ ls) ≡ stage_after Stages.Imports ls
imports_stage [] ls = refl
imports_stage (i ∷ is) ls = imports_stage is ls

imports_last : (last : List ℕ) (is : List Digest256) (ls : List Line) → last_after last (map (λ d. Lines.Digest Parts.Import d) is ++ ls) ≡ last_after last ls
imports_last last [] ls = refl
imports_last last (i ∷ is) ls = imports_last last is ls

heading_staged : (h : Heading) → stage_after Stages.Head (heading_lines h) ≡ heading_stage h
heading_staged opened = refl
heading_staged (importing s is) = ap (stage_after Stages.Imports) (sym (append-nil (map (λ d. Lines.Digest Parts.Import d) is))) ∙ imports_stage is []
heading_staged (filed files) = imports_stage files.imports (Lines.Digest Parts.Data files.graph ∷ [])

heading_last : (h : Heading) → last_after [] (heading_lines h) ≡ []
heading_last opened = refl
heading_last (importing s is) = ap (last_after []) (sym (append-nil (map (λ d. Lines.Digest Parts.Import d) is))) ∙ imports_last [] is []
heading_last (filed files) = imports_last [] files.imports (Lines.Digest Parts.Data files.graph ∷ [])

-- the last line does not follow a part of a head
heading_goes_on : (h : Heading) → ¬ MayEnd (heading_stage h)
heading_goes_on opened may = may
heading_goes_on (importing s is) may = may
heading_goes_on (filed files) may = may

pub heading_unended : (old : Reader) (h : Heading) → IsHeading old h → ¬ MayEnd old.stage
heading_unended old h read may = heading_goes_on h (subst MayEnd read.stage may)

pub heading_stuck : (old : Reader) (h : Heading) (left : List ℕ) → IsHeading old h → ((left ≡ old.rest.now) × IsStuck old.stage old.last.now old.rest.now) ⊎
    ((old.rest.now ≡ last_line ++ left) × ((0 < length left) × MayEnd old.stage)) →
    IsFault old.whole.now (length old.whole.now - length left)
heading_stuck old h left read (inl (same, stuck)) =
    let text = headed_text (Some (completed h)) (subst (AllByRecursion IsLine) (sym (completed_lines h)) (all_append IsLine (heading_lines h) (left_lines h) read.limits (left_good h))) in
    subst (λ z. IsFault old.whole.now (length old.whole.now - length z)) (sym same)
    (stuck_at (headed (Some (completed h))) (heading_lines h) (left_lines h) old.stage old.last.now old.whole.now old.rest.now text
    (append-nil (head_lines (Some (completed h))) ∙ completed_lines h) read.parts
    (read.stage ∙ sym (heading_staged h)) (read.last ∙ sym (heading_last h)) stuck)
heading_stuck old h left read (inr (rest, (some, may))) = absurd (heading_unended old h read may)

-- one more line of a head
heading_next : (old new : Reader) (h more : Heading) (l : Line) → IsHeading old h → old.rest.now ≡ line_text l ++ 10 ∷ new.rest.now → IsLine l → heading_lines more ≡ heading_lines h ++ l ∷ [] →
    new.whole.now ≡ old.whole.now → new.stage ≡ heading_stage more → new.last.now ≡ old.last.now → IsHeading new more
heading_next old new h more l read rest good lines whole stage last = record {
  limits = subst (AllByRecursion IsLine) (sym lines) (all_append IsLine (heading_lines h) (l ∷ []) read.limits (good, tt));
  parts = text_more (Some (completed h)) (heading_lines h) (heading_lines more) l new.whole.now new.rest.now (whole ∙ read.parts
      ∙ ap (λ z. (headed_line ++ lines_text (heading_lines h)) ++ z) rest) lines;
  stage = stage;
  last = last ∙ read.last;
}

-- a head is whole
heading_whole : (old new : Reader) (files : Digests) (ns : List ℕ) → IsHeading old (filed files) → old.rest.now ≡ line_text (Lines.Strata ns) ++ 10 ∷ new.rest.now → IsLine (Lines.Strata ns) →
    new.whole.now ≡ old.whole.now → new.stage ≡ Stages.Nodes 0 → new.last.now ≡ old.last.now → IsPast new (headed (Some (record { files = files; strata = ns })))
heading_whole old new files ns read rest good whole stage last = record {
  text = headed_text (Some head) (subst (AllByRecursion IsLine) (sym lines) (all_append IsLine (heading_lines (filed files)) (Lines.Strata ns ∷ []) read.limits (good, tt)));
  parts = text_more (Some head) (heading_lines (filed files)) (lines_of (headed (Some head)))
      (Lines.Strata ns) new.whole.now new.rest.now (whole ∙ read.parts ∙ ap (λ z. (headed_line ++ lines_text (heading_lines (filed files))) ++ z) rest) all;
  fits = subst (λ z. Fits (headed (Some head)) z new.last.now) (sym stage) (subst (λ z. Fits (headed (Some head)) (Stages.Nodes 0) z) (sym (last ∙ read.last)) (refl, (refl, (refl, λ t lt. tt))));
  stage = stage ∙ sym (ap (stage_after Stages.Head) all ∙ stage_append Stages.Head (heading_lines (filed files)) (Lines.Strata ns ∷ [])
      ∙ ap (λ z. next_stage z (Lines.Strata ns)) (heading_staged (filed files)));
  last = last ∙ read.last ∙ sym (ap (last_after []) all ∙ last_append [] (heading_lines (filed files)) (Lines.Strata ns ∷ []) ∙ heading_last (filed files));
}
  where
    head : Head
    head = record { files = files; strata = ns }

    lines : head_lines (Some (record { files = files; strata = ns })) ≡ heading_lines (filed files) ++ Lines.Strata ns ∷ []
    lines = sym (ap (λ z. Lines.Digest Parts.Schema files.schema ∷ z) (append_assoc (map (λ d. Lines.Digest Parts.Import d) files.imports) (Lines.Digest Parts.Data files.graph ∷ []) (Lines.Strata ns ∷ [])))

    all : lines_of (headed (Some (record { files = files; strata = ns }))) ≡ heading_lines (filed files) ++ Lines.Strata ns ∷ []
    all = append-nil (head_lines (Some (record { files = files; strata = ns }))) ∙ lines

-- what follows a part of a head leads on
pub heading_more : (old new : Reader) (h : Heading) (l : Line) → IsHeading old h → old.rest.now ≡ line_text l ++ 10 ∷ new.rest.now → IsNext old.stage old.last.now l →
    new.whole.now ≡ old.whole.now → new.stage ≡ next_stage old.stage l → new.last.now ≡ next_last old.last.now l → (w : Where) × (Leads l h w × Stands new w)
heading_more old new h l read rest next whole stage last = by h l read rest next.0.0 (subst (λ z. Follows z old.last.now l) read.stage next.1) (stage ∙ ap (λ z. next_stage z l) read.stage) last
  where
    by : (h : Heading) (l : Line) → IsHeading old h → old.rest.now ≡ line_text l ++ 10 ∷ new.rest.now → IsLine l → Follows (heading_stage h) old.last.now l →
        new.stage ≡ next_stage (heading_stage h) l → new.last.now ≡ next_last old.last.now l → (w : Where) × (Leads l h w × Stands new w)
    by opened (Lines.Digest Parts.Schema d) read rest good follows stage last =
        (heading (importing d []), ((importing d [], (refl, refl)), heading_next old new opened (importing d []) (Lines.Digest Parts.Schema d) read rest good refl whole stage last))
    by (importing s is) (Lines.Digest Parts.Import d) read rest good follows stage last = (
      heading (importing s (is ++ d ∷ [])),
      (
        (importing s (is ++ d ∷ []), (refl, refl)),
        heading_next old new (importing s is) (importing s (is ++ d ∷ [])) (Lines.Digest Parts.Import d) read rest good
            (ap (λ z. Lines.Digest Parts.Schema s ∷ z) (map-append (λ d. Lines.Digest Parts.Import d) is (d ∷ []))) whole stage last,
      ),
    )
    by (importing s is) (Lines.Digest Parts.Data d) read rest good follows stage last = (
      heading (filed (record { schema = s; imports = is; graph = d })),
      (
        (filed (record { schema = s; imports = is; graph = d }), (refl, refl)),
        heading_next old new (importing s is) (filed (record { schema = s; imports = is; graph = d })) (Lines.Digest Parts.Data d) read rest good refl whole stage last,
      ),
    )
    by (filed files) (Lines.Strata ns) read rest good follows stage last =
        (behind (headed (Some (record { files = files; strata = ns }))), (refl, heading_whole old new files ns read rest good whole stage last))
    by opened (Lines.Digest Parts.Import d) read rest good follows stage last = absurd follows
    by opened (Lines.Digest Parts.Data d) read rest good follows stage last = absurd follows
    by opened (Lines.Strata ns) read rest good follows stage last = absurd follows
    by opened (Lines.Node t) read rest good follows stage last = absurd follows
    by opened (Lines.Section k) read rest good follows stage last = absurd follows
    by opened (Lines.Record r) read rest good follows stage last = absurd follows
    by opened (Lines.Claim c) read rest good follows stage last = absurd follows
    by (importing s is) (Lines.Digest Parts.Schema d) read rest good follows stage last = absurd follows
    by (importing s is) (Lines.Strata ns) read rest good follows stage last = absurd follows
    by (importing s is) (Lines.Node t) read rest good follows stage last = absurd follows
    by (importing s is) (Lines.Section k) read rest good follows stage last = absurd follows
    by (importing s is) (Lines.Record r) read rest good follows stage last = absurd follows
    by (importing s is) (Lines.Claim c) read rest good follows stage last = absurd follows
    by (filed files) (Lines.Digest p d) read rest good follows stage last = absurd follows
    by (filed files) (Lines.Node t) read rest good follows stage last = absurd follows
    by (filed files) (Lines.Section k) read rest good follows stage last = absurd follows
    by (filed files) (Lines.Record r) read rest good follows stage last = absurd follows
    by (filed files) (Lines.Claim c) read rest good follows stage last = absurd follows

-- ---- before the first line

pub past_first : (r : Reader) → r.whole.now ≡ plain_line ++ r.rest.now → r.stage ≡ Stages.Nodes 0 → r.last.now ≡ [] → IsPast r no_lines
past_first r whole stage last = record {
  text = headed_text None tt;
  parts = whole ∙ ap (λ z. z ++ r.rest.now) (sym (append-nil plain_line));
  fits = subst (λ z. Fits no_lines z r.last.now) (sym stage) (refl, (refl, (refl, λ t lt. tt)));
  stage = stage;
  last = last;
}

pub heading_first : (r : Reader) → r.whole.now ≡ headed_line ++ r.rest.now → r.stage ≡ Stages.Head → r.last.now ≡ [] → IsHeading r opened
heading_first r whole stage last = record { limits = tt; parts = whole ∙ ap (λ z. z ++ r.rest.now) (sym (append-nil headed_line)); stage = stage; last = last }

-- the first line of a text, without its line feed
first_words : Option Head → List ℕ
first_words None = codes "shex-proof 1"
first_words (Some h) = codes "shex-proof 2"

first_ended : (head : Option Head) → first_line head ≡ ended (first_words head)
unfolding first_words
first_ended None = refl
first_ended (Some h) = refl

clean_first : (head : Option Head) → HasNoEnd (first_words head)
unfolding first_words
clean_first None = (refl, (refl, (refl, (refl, (refl, (refl, (refl, (refl, (refl, (refl, (refl, (refl, tt))))))))))))
clean_first (Some h) = (refl, (refl, (refl, (refl, (refl, (refl, (refl, (refl, (refl, (refl, (refl, (refl, tt))))))))))))

pub no_first : (bytes : List ℕ) → ((head : Option Head) (rest : List ℕ) → ¬ (bytes ≡ first_line head ++ rest)) → IsFault bytes 0
no_first bytes none = record {
  none = λ p h. none p.head (lines_text (lines_of p) ++ last_line) h.spelled;
  front = [];
  rest = bytes;
  parts = refl;
  place = refl;
  lines = inl refl;
  begins = (no_lines, (text_of no_lines, headed_text None tt));
  stops = λ line more clean e (q, (ys, h)).
      let split : line ++ 10 ∷ ys ≡ first_words q.head ++ 10 ∷ (lines_text (lines_of q) ++ last_line) =
      sym (append_assoc line (10 ∷ []) ys) ∙ h.spelled ∙ ap (λ z. z ++ (lines_text (lines_of q) ++ last_line)) (first_ended q.head)
      ∙ append_assoc (first_words q.head) (10 ∷ []) (lines_text (lines_of q) ++ last_line) in
      none q.head more (e ∙ ap (λ z. ended z ++ more) (once 10 line (first_words q.head) ys (lines_text (lines_of q) ++ last_line) (not_held 10 line clean) (clean_first q.head) split).0
      ∙ ap (λ z. z ++ more) (sym (first_ended q.head)));
}
