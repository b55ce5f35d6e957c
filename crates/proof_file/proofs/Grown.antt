-- A proof grows line by line.
use Rattle.std.specs.Prelude.{⊤}
use Rattle.std.proofs.Common.{◌≡◌, ℕ, suc, ◌<◌, ◌≤◌, ◌+◌, ◌⊎◌, inl, inr, Option, Some, None, subst, List, [], ◌∷◌, ◌++◌, refl, ap, sym, ◌∙◌, length, arith, map, append_assoc}
use Rattle.std.proofs.lemmas.List.{map-append, length-append}
use Rattle.std.proofs.lemmas.Grind.{flat_map-append}
use Rattle.std.specs.List.{AllByRecursion, flat_map}
use Rattle.rdf_terms.specs.declared.terms.Term.{Term}
use Rattle.proof_file.specs.declared.Record.{Record}
use Rattle.proof_file.specs.declared.Section.{Section}
use Rattle.proof_file.specs.declared.Claim.{Claim}
use Rattle.proof_file.specs.declared.Proof.{Proof}
use Rattle.proof_file.specs.declared.line.Line.{Line}
use Rattle.proof_file.specs.declared.line.Line.TheVariants as Lines
use Rattle.proof_file.specs.declared.lines.Stage.{Stage}
use Rattle.proof_file.specs.declared.lines.Stage.TheVariants as Stages
use Rattle.schema_tree.specs.Rising.{Rises, RisesFrom}
use Rattle.proof_file.specs.Text.{Keeps, IsLine, IsTermBefore, IsSectionBefore, IsRecordBefore, line_text, head_lines, body_lines, lines_of, section_lines}
use Rattle.proof_file.specs.declared.head.Digest256.{Digest256}
use Rattle.proof_file.specs.declared.head.Head.{Head}
use Rattle.proof_file.specs.declared.head.Part.TheVariants as Parts
use Rattle.proof_file.specs.Reader.{IsBehind, Grows, node, section, entry, claim, Follows, MayEnd, first_stage, next_stage, next_last, Runs, stage_after, last_after, InSection, Fits}
use Rattle.proof_file.proofs.Joined.{head_first}
use Rattle.lists.proofs.Quantifiers.{all_append, all_front}

-- ---- lines of a proof that keeps the orders follow one another

pub runs_back : (stage : Stage) (last : List ℕ) (xs ys : List Line) → Runs stage last (xs ++ ys) → Runs (stage_after stage xs) (last_after last xs) ys
runs_back stage last [] ys h = h
runs_back stage last (x ∷ xs) ys (h, hs) = runs_back (next_stage stage x) (next_last last x) xs ys hs

pub stage_append : (stage : Stage) (xs ys : List Line) → stage_after stage (xs ++ ys) ≡ stage_after (stage_after stage xs) ys
stage_append stage [] ys = refl
stage_append stage (x ∷ xs) ys = stage_append (next_stage stage x) xs ys

pub last_append : (last : List ℕ) (xs ys : List Line) → last_after last (xs ++ ys) ≡ last_after (last_after last xs) ys
last_append last [] ys = refl
last_append last (x ∷ xs) ys = last_append (next_last last x) xs ys

claims_run : (stage : Stage) (last : List ℕ) → MayEnd stage → ((c : Claim) → Follows stage last (Lines.Claim c)) → (cs : List Claim) → Runs stage last (map (λ c. Lines.Claim c) cs)
claims_run stage last may h [] = may
claims_run stage last may h (c ∷ cs) = (h c, claims_run Stages.Claims last tt (λ c. tt) cs)

records_run : (k n s : ℕ) (last : List ℕ) (x : Record) (rs : List Record) (ls : List Line) → RisesFrom IsRecordBefore x rs → x.node ≡ n → x.shape ≡ s →
    ((n s : ℕ) → Runs (Stages.Record k n s) last ls) → Runs (Stages.Record k n s) last (map (λ r. Lines.Record r) rs ++ ls)
records_run k n s last x [] ls h a b then = then n s
records_run k n s last x (r ∷ rs) ls (h, hs) a b then = (before h, records_run k r.node r.shape last r rs ls hs refl refl then)
  where
    before : IsRecordBefore x r → (n < r.node) ⊎ ((n ≡ r.node) × (s < r.shape))
    before (inl lt) = inl (omega arith)
    before (inr (is, lt)) = inr ((omega arith), (omega arith))

section_run : (k : ℕ) (last : List ℕ) (rs : List Record) (ls : List Line) → Rises IsRecordBefore rs → Runs (Stages.Section k) last ls → ((n s : ℕ) → Runs (Stages.Record k n s) last ls) →
    Runs (Stages.Section k) last (map (λ r. Lines.Record r) rs ++ ls)
section_run k last [] ls h first then = first
section_run k last (r ∷ rs) ls h first then = (tt, records_run k r.node r.shape last r rs ls h refl refl then)

abbrev later : List Section → List Claim → List Line
later ss cs = flat_map section_lines ss ++ map (λ c. Lines.Claim c) cs

later_first : (s : Section) (ss : List Section) (cs : List Claim) → later (s ∷ ss) cs ≡ Lines.Section s.stratum ∷ (map (λ r. Lines.Record r) s.records ++ later ss cs)
later_first s ss cs = append_assoc (section_lines s) (flat_map section_lines ss) (map (λ c. Lines.Claim c) cs)

sections_run : (stage : Stage) (last : List ℕ) → MayEnd stage → ((c : Claim) → Follows stage last (Lines.Claim c)) → (x : Section) → ((k : ℕ) → x.stratum < k → Follows stage last (Lines.Section k)) →
    (ss : List Section) (cs : List Claim) → RisesFrom IsSectionBefore x ss → AllByRecursion (λ x. Rises IsRecordBefore x.records) ss → Runs stage last (later ss cs)
sections_run stage last may claims x above [] cs h k = claims_run stage last may claims cs
sections_run stage last may claims x above (s ∷ ss) cs (h, hs) (k, ks) =
    subst (Runs stage last) (sym (later_first s ss cs)) (
      above s.stratum h,
      section_run s.stratum last s.records (later ss cs) k
          (sections_run (Stages.Section s.stratum) last tt (λ c. tt) s (λ j lt. lt) ss cs hs ks)
          (λ n t. sections_run (Stages.Record s.stratum n t) last tt (λ c. tt) s (λ j lt. lt) ss cs hs ks),
    )

later_run : (n : ℕ) (last : List ℕ) (ss : List Section) (cs : List Claim) → Rises IsSectionBefore ss → AllByRecursion (λ x. Rises IsRecordBefore x.records) ss →
    Runs (Stages.Nodes n) last (later ss cs)
later_run n last [] cs h k = claims_run (Stages.Nodes n) last tt (λ c. tt) cs
later_run n last (s ∷ ss) cs h (k, ks) =
    subst (Runs (Stages.Nodes n) last) (sym (later_first s ss cs)) (
      tt,
      section_run s.stratum last s.records (later ss cs) k
          (sections_run (Stages.Section s.stratum) last tt (λ c. tt) s (λ j lt. lt) ss cs h ks)
          (λ m t. sections_run (Stages.Record s.stratum m t) last tt (λ c. tt) s (λ j lt. lt) ss cs h ks),
    )

nodes_run : (n : ℕ) (x : Term) (ns : List Term) (ls : List Line) → RisesFrom IsTermBefore x ns → n + length ns ≤ 16777216 → ((m : ℕ) (last : List ℕ) → Runs (Stages.Nodes m) last ls) →
    Runs (Stages.Nodes n) (line_text (Lines.Node x)) (map (λ t. Lines.Node t) ns ++ ls)
nodes_run n x [] ls h few then = then n (line_text (Lines.Node x))
nodes_run n x (y ∷ ns) ls (h, hs) few then = (((omega arith), h), nodes_run (suc n) y ns ls hs (omega arith) then)

imports_run : (last : List ℕ) (is : List Digest256) (g : Digest256) (ns : List ℕ) (ls : List Line) → Runs (Stages.Nodes 0) last ls →
    Runs Stages.Imports last (map (λ d. Lines.Digest Parts.Import d) is ++ (Lines.Digest Parts.Data g ∷ Lines.Strata ns ∷ ls))
imports_run last [] g ns ls h = (tt, (tt, h))
imports_run last (i ∷ is) g ns ls h = (tt, imports_run last is g ns ls h)

head_runs : (head : Option Head) (ls : List Line) → Runs (Stages.Nodes 0) [] ls → Runs (first_stage head) [] (head_lines head ++ ls)
head_runs None ls h = h
head_runs (Some head) ls h = subst (Runs Stages.Head []) (sym (head_first head ls)) (tt, imports_run [] head.files.imports head.files.graph head.strata ls h)

pub proof_runs : (p : Proof) → Keeps p → Runs (first_stage p.head) [] (lines_of p)
proof_runs p h = head_runs p.head (body_lines p) (by p.nodes h.nodes h.few)
  where
    rest : (m : ℕ) (last : List ℕ) → Runs (Stages.Nodes m) last (later p.sections p.claims)
    rest m last = later_run m last p.sections p.claims h.sections h.records

    by : (ns : List Term) → Rises IsTermBefore ns → length ns ≤ 16777216 → Runs (Stages.Nodes 0) [] (map (λ t. Lines.Node t) ns ++ later p.sections p.claims)
    by [] k few = rest 0 []
    by (n ∷ ns) k few = (((omega arith), refl), nodes_run 1 n ns (later p.sections p.claims) k (omega arith) rest)

-- ---- a proof with one more line

rises_from_more : {X : Type 0} (B : X → X → Type 0) (w : X) (xs : List X) (x y : X) → RisesFrom B w (xs ++ x ∷ []) → B x y → RisesFrom B w ((xs ++ x ∷ []) ++ y ∷ [])
rises_from_more B w [] x y (h, hs) k = (h, (k, tt))
rises_from_more B w (v ∷ xs) x y (h, hs) k = (h, rises_from_more B v xs x y hs k)

pub rises_more : {X : Type 0} (B : X → X → Type 0) (xs : List X) (x y : X) → Rises B (xs ++ x ∷ []) → B x y → Rises B ((xs ++ x ∷ []) ++ y ∷ [])
rises_more B [] x y h k = (k, tt)
rises_more B (v ∷ xs) x y h k = rises_from_more B v xs x y h k

-- the order of sections is that of their strata alone
last_from : (w : Section) (front : List Section) (x y : Section) → x.stratum ≡ y.stratum → RisesFrom IsSectionBefore w (front ++ x ∷ []) → RisesFrom IsSectionBefore w (front ++ y ∷ [])
last_from w [] x y e (h, hs) = ((omega arith), tt)
last_from w (v ∷ front) x y e (h, hs) = (h, last_from v front x y e hs)

last_section : (front : List Section) (x y : Section) → x.stratum ≡ y.stratum → Rises IsSectionBefore (front ++ x ∷ []) → Rises IsSectionBefore (front ++ y ∷ [])
last_section [] x y e h = tt
last_section (v ∷ front) x y e h = last_from v front x y e h

-- a line behind the head is one behind the whole
behind_head : (head : Option Head) (xs ys : List Line) (l : Line) → xs ≡ ys ++ l ∷ [] → head_lines head ++ xs ≡ (head_lines head ++ ys) ++ l ∷ []
behind_head head xs ys l e = ap (λ z. head_lines head ++ z) e ∙ sym (append_assoc (head_lines head) ys (l ∷ []))

-- p with the line l is a proof that has come to this stage
pub record Grown (p : Proof) (stage : Stage) (last : List ℕ) (l : Line) : Type 0 where
  pub whole : Proof
  pub grows : Grows p l whole
  pub keeps : Keeps whole
  pub fits : Fits whole stage last
  pub lines : lines_of whole ≡ lines_of p ++ l ∷ []

node_grows : (p : Proof) (n : ℕ) (last : List ℕ) (t : Term) → Keeps p → Fits p (Stages.Nodes n) last → IsLine (Lines.Node t) →
    Follows (Stages.Nodes n) last (Lines.Node t) → Grown p (Stages.Nodes (suc n)) (line_text (Lines.Node t)) (Lines.Node t)
node_grows p n last t keeps (sections, (claims, (count, more))) good (few, above) = record {
  whole = record { head = p.head; nodes = p.nodes ++ t ∷ []; sections = []; claims = [] };
  grows = node t sections claims;
  keeps = record {
    nodes = more t above;
    few = (let e = length-append p.nodes (t ∷ []) in omega (arith, e));
    sections = tt;
    records = tt;
    lines = subst (AllByRecursion IsLine) (sym lines) (all_append IsLine (lines_of p) (Lines.Node t ∷ []) keeps.lines (good, tt));
  };
  fits = (refl, (refl, ((let e = length-append p.nodes (t ∷ []) in omega (arith, e)), λ u k. rises_more IsTermBefore p.nodes t u (more t above) k)));
  lines = lines;
}
  where
    nil_end : {X : Type 0} (xs : List X) → xs ++ [] ≡ xs
    nil_end [] = refl
    nil_end (x ∷ xs) = ap (λ z. x ∷ z) (nil_end xs)

    before : body_lines p ≡ map (λ t. Lines.Node t) p.nodes
    before = ap (λ z. map (λ t. Lines.Node t) p.nodes ++ (flat_map section_lines z ++ map (λ c. Lines.Claim c) p.claims)) sections
        ∙ ap (λ z. map (λ t. Lines.Node t) p.nodes ++ map (λ c. Lines.Claim c) z) claims ∙ nil_end (map (λ t. Lines.Node t) p.nodes)

    lines : lines_of (record { head = p.head; nodes = p.nodes ++ t ∷ []; sections = []; claims = [] }) ≡ lines_of p ++ Lines.Node t ∷ []
    lines = behind_head p.head _ (body_lines p) (Lines.Node t)
        (nil_end (map (λ t. Lines.Node t) (p.nodes ++ t ∷ [])) ∙ map-append (λ t. Lines.Node t) p.nodes (t ∷ []) ∙ ap (λ z. z ++ Lines.Node t ∷ []) (sym before))

-- the lines of a proof whose sections are these, without claims
lines_with : List Term → List Section → List Line
lines_with ns ss = map (λ t. Lines.Node t) ns ++ flat_map section_lines ss

without_claims : (p : Proof) → p.claims ≡ [] → body_lines p ≡ lines_with p.nodes p.sections
unfolding lines_with
without_claims p e = ap (λ z. map (λ t. Lines.Node t) p.nodes ++ (flat_map section_lines p.sections ++ map (λ c. Lines.Claim c) z)) e
    ∙ ap (λ z. map (λ t. Lines.Node t) p.nodes ++ z) (nil_end (flat_map section_lines p.sections))
  where
    nil_end : {X : Type 0} (xs : List X) → xs ++ [] ≡ xs
    nil_end [] = refl
    nil_end (x ∷ xs) = ap (λ z. x ∷ z) (nil_end xs)

-- one more line of the last section
line_more : (ns : List Term) (front : List Section) (x y : Section) (l : Line) → section_lines y ≡ section_lines x ++ l ∷ [] →
    lines_with ns (front ++ y ∷ []) ≡ lines_with ns (front ++ x ∷ []) ++ l ∷ []
unfolding lines_with
line_more ns front x y l e =
    ap (λ z. map (λ t. Lines.Node t) ns ++ z) (flat_map-append section_lines front (y ∷ [])
    ∙ ap (λ z. flat_map section_lines front ++ z) (nil_end (section_lines y) ∙ e ∙ ap (λ z. z ++ l ∷ []) (sym (nil_end (section_lines x))))
    ∙ sym (append_assoc (flat_map section_lines front) (flat_map section_lines (x ∷ [])) (l ∷ [])) ∙ ap (λ z. z ++ l ∷ []) (sym (flat_map-append section_lines front (x ∷ []))))
    ∙ sym (append_assoc (map (λ t. Lines.Node t) ns) (flat_map section_lines (front ++ x ∷ [])) (l ∷ []))
  where
    nil_end : {X : Type 0} (xs : List X) → xs ++ [] ≡ xs
    nil_end [] = refl
    nil_end (x ∷ xs) = ap (λ z. x ∷ z) (nil_end xs)

section_more : (ns : List Term) (ss : List Section) (k : ℕ) → lines_with ns (ss ++ record { stratum = k; records = [] } ∷ []) ≡ lines_with ns ss ++ Lines.Section k ∷ []
unfolding lines_with
section_more ns ss k = ap (λ z. map (λ t. Lines.Node t) ns ++ z) (flat_map-append section_lines ss (record { stratum = k; records = [] } ∷ []))
    ∙ sym (append_assoc (map (λ t. Lines.Node t) ns) (flat_map section_lines ss) (Lines.Section k ∷ []))

section_grows : (p : Proof) (last : List ℕ) (k : ℕ) → Keeps p → p.claims ≡ [] →
    Rises IsSectionBefore (p.sections ++ record { stratum = k; records = [] } ∷ []) → IsLine (Lines.Section k) → Grown p (Stages.Section k) last (Lines.Section k)
section_grows p last k keeps claims rises good = record {
  whole = record { head = p.head; nodes = p.nodes; sections = p.sections ++ record { stratum = k; records = [] } ∷ []; claims = [] };
  grows = section k claims;
  keeps = record {
    nodes = keeps.nodes;
    few = keeps.few;
    sections = rises;
    records = all_append (λ x. Rises IsRecordBefore x.records) p.sections (record { stratum = k; records = [] } ∷ []) keeps.records (tt, tt);
    lines = subst (AllByRecursion IsLine) (sym lines) (all_append IsLine (lines_of p) (Lines.Section k ∷ []) keeps.lines (good, tt));
  };
  fits = record {
    claims = refl;
    front = p.sections;
    records = [];
    sections = refl;
    above = λ x lt. rises_more IsSectionBefore p.sections (record { stratum = k; records = [] }) x rises lt;
    behind = λ r h. tt;
  };
  lines = lines;
}
  where
    lines : lines_of (record { head = p.head; nodes = p.nodes; sections = p.sections ++ record { stratum = k; records = [] } ∷ []; claims = [] }) ≡ lines_of p ++ Lines.Section k ∷ []
    lines = behind_head p.head _ (body_lines p) (Lines.Section k)
        (without_claims (record { head = p.head; nodes = p.nodes; sections = p.sections ++ record { stratum = k; records = [] } ∷ []; claims = [] }) refl
        ∙ section_more p.nodes p.sections k ∙ ap (λ z. z ++ Lines.Section k ∷ []) (sym (without_claims p claims)))

claim_grows : (p : Proof) (last : List ℕ) (c : Claim) → Keeps p → IsLine (Lines.Claim c) → Grown p Stages.Claims last (Lines.Claim c)
claim_grows p last c keeps good = record {
  whole = record { head = p.head; nodes = p.nodes; sections = p.sections; claims = p.claims ++ c ∷ [] };
  grows = claim c;
  keeps = record {
    nodes = keeps.nodes;
    few = keeps.few;
    sections = keeps.sections;
    records = keeps.records;
    lines = subst (AllByRecursion IsLine) (sym lines) (all_append IsLine (lines_of p) (Lines.Claim c ∷ []) keeps.lines (good, tt));
  };
  fits = tt;
  lines = lines;
}
  where
    lines : lines_of (record { head = p.head; nodes = p.nodes; sections = p.sections; claims = p.claims ++ c ∷ [] }) ≡ lines_of p ++ Lines.Claim c ∷ []
    lines = behind_head p.head _ (body_lines p) (Lines.Claim c)
        (ap (λ z. map (λ t. Lines.Node t) p.nodes ++ (flat_map section_lines p.sections ++ z)) (map-append (λ c. Lines.Claim c) p.claims (c ∷ []))
        ∙ ap (λ z. map (λ t. Lines.Node t) p.nodes ++ z) (sym (append_assoc (flat_map section_lines p.sections) (map (λ c. Lines.Claim c) p.claims) (Lines.Claim c ∷ [])))
        ∙ sym (append_assoc (map (λ t. Lines.Node t) p.nodes) (flat_map section_lines p.sections ++ map (λ c. Lines.Claim c) p.claims) (Lines.Claim c ∷ [])))

entry_grows : (p : Proof) (last : List ℕ) (k : ℕ) (Next : Record → Type 0) (r : Record) → Keeps p → InSection p k Next → Next r → IsLine (Lines.Record r) →
    Grown p (Stages.Record k r.node r.shape) last (Lines.Record r)
entry_grows p last k Next r keeps inside next good = record {
  whole = record { head = p.head; nodes = p.nodes; sections = inside.front ++ record { stratum = k; records = inside.records ++ r ∷ [] } ∷ []; claims = [] };
  grows = entry r inside.front k inside.records inside.claims inside.sections;
  keeps = record {
    nodes = keeps.nodes;
    few = keeps.few;
    sections = rises;
    records = all_append (λ x. Rises IsRecordBefore x.records) inside.front (record { stratum = k; records = inside.records ++ r ∷ [] } ∷ [])
        (all_front (λ x. Rises IsRecordBefore x.records) inside.front (record { stratum = k; records = inside.records } ∷ []) (subst (AllByRecursion (λ x. Rises IsRecordBefore x.records)) inside.sections keeps.records))
        (inside.behind r next, tt);
    lines = subst (AllByRecursion IsLine) (sym lines) (all_append IsLine (lines_of p) (Lines.Record r ∷ []) keeps.lines (good, tt));
  };
  fits = record {
    claims = refl;
    front = inside.front;
    records = inside.records ++ r ∷ [];
    sections = refl;
    above = λ x lt. rises_more IsSectionBefore inside.front (record { stratum = k; records = inside.records ++ r ∷ [] }) x rises lt;
    behind = λ x before. rises_more IsRecordBefore inside.records r x (inside.behind r next) before;
  };
  lines = lines;
}
  where
    rises : Rises IsSectionBefore (inside.front ++ record { stratum = k; records = inside.records ++ r ∷ [] } ∷ [])
    rises = last_section inside.front (record { stratum = k; records = inside.records })
        (record { stratum = k; records = inside.records ++ r ∷ [] }) refl (subst (Rises IsSectionBefore) inside.sections keeps.sections)

    lines : lines_of (record { head = p.head; nodes = p.nodes; sections = inside.front ++ record { stratum = k; records = inside.records ++ r ∷ [] } ∷ []; claims = [] }) ≡
        lines_of p ++ Lines.Record r ∷ []
    lines = behind_head p.head _ (body_lines p) (Lines.Record r)
        (without_claims (record { head = p.head; nodes = p.nodes; sections = inside.front ++ record { stratum = k; records = inside.records ++ r ∷ [] } ∷ []; claims = [] }) refl
        ∙ line_more p.nodes inside.front (record { stratum = k; records = inside.records }) (record { stratum = k; records = inside.records ++ r ∷ [] }) (Lines.Record r)
        (ap (λ z. Lines.Section k ∷ z) (map-append (λ r. Lines.Record r) inside.records (r ∷ [])))
        ∙ ap (λ z. z ++ Lines.Record r ∷ []) (sym (without_claims p inside.claims ∙ ap (lines_with p.nodes) inside.sections)))

pub grow : (p : Proof) (stage : Stage) (last : List ℕ) (l : Line) → Keeps p → Fits p stage last → IsLine l → Follows stage last l → Grown p (next_stage stage l) (next_last last l) l
grow p Stages.Head last l k f g h = absurd f
grow p Stages.Imports last l k f g h = absurd f
grow p Stages.Files last l k f g h = absurd f
grow p (Stages.Nodes n) last (Lines.Digest q d) k f g h = absurd h
grow p (Stages.Nodes n) last (Lines.Strata ns) k f g h = absurd h
grow p (Stages.Section j) last (Lines.Digest q d) k f g h = absurd h
grow p (Stages.Section j) last (Lines.Strata ns) k f g h = absurd h
grow p (Stages.Record j n s) last (Lines.Digest q d) k f g h = absurd h
grow p (Stages.Record j n s) last (Lines.Strata ns) k f g h = absurd h
grow p Stages.Claims last (Lines.Digest q d) k f g h = absurd h
grow p Stages.Claims last (Lines.Strata ns) k f g h = absurd h
grow p (Stages.Nodes n) last (Lines.Node t) k f g h = node_grows p n last t k f g h
grow p (Stages.Nodes n) last (Lines.Section j) k f g h = section_grows p last j k f.1.0 (subst (λ z. Rises IsSectionBefore (z ++ record { stratum = j; records = [] } ∷ [])) (sym f.0) tt) g
grow p (Stages.Nodes n) last (Lines.Record r) k f g h = absurd h
grow p (Stages.Nodes n) last (Lines.Claim c) k f g h = claim_grows p last c k g
grow p (Stages.Section j) last (Lines.Node t) k f g h = absurd h
grow p (Stages.Section j) last (Lines.Section i) k f g h = section_grows p last i k f.claims (f.above (record { stratum = i; records = [] }) h) g
grow p (Stages.Section j) last (Lines.Record r) k f g h = entry_grows p last j (λ r. ⊤) r k f tt g
grow p (Stages.Section j) last (Lines.Claim c) k f g h = claim_grows p last c k g
grow p (Stages.Record j n s) last (Lines.Node t) k f g h = absurd h
grow p (Stages.Record j n s) last (Lines.Section i) k f g h = section_grows p last i k f.claims (f.above (record { stratum = i; records = [] }) h) g
grow p (Stages.Record j n s) last (Lines.Record r) k f g h = entry_grows p last j (IsBehind n s) r k f h g
grow p (Stages.Record j n s) last (Lines.Claim c) k f g h = claim_grows p last c k g
grow p Stages.Claims last (Lines.Node t) k f g h = absurd h
grow p Stages.Claims last (Lines.Section i) k f g h = absurd h
grow p Stages.Claims last (Lines.Record r) k f g h = absurd h
grow p Stages.Claims last (Lines.Claim c) k f g h = claim_grows p last c k g
grow p Stages.Ended last l k f g h = absurd f
grow p Stages.Failed last l k f g h = absurd f
