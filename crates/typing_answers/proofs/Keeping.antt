-- The stored proof keeps the orders and limits of a proof's text.
use Rattle.std.proofs.Common.{◌≡◌, ℕ, ◌<◌, ◌≤◌, inl, inr, ◌⊎◌, List, [], ◌∷◌, ◌++◌, refl, sym, ◌∙◌, ap, subst, arith, map, length}
use Rattle.std.proofs.lemmas.Cmp.{nat_cmp_total, ranked, tied_itself}
use Rattle.std.proofs.lemmas.List.{length-map}
use Rattle.std.proofs.lemmas.Map.Keys.{sorted_head, sorted_tail}
use Rattle.std.proofs.lemmas.Map.Text.{is_eq-slice_cmp}
use Rattle.std.proofs.lemmas.Option.{slice_get_within}
use Rattle.std.proofs.lemmas.Slice.Eq.{bytes_eq-Decides}
use Rattle.std.specs.Cmp.Lexicographic.{slice_cmp}
use Rattle.std.specs.List.{AllByRecursion, AllZip, flat_map}
use Rattle.std.specs.List.Sorted.{IsStrictlySortedBy}
use Rattle.std.specs.Ordering.{MatchOrdering, is_eq, nat_cmp, ordering_then}
use Rattle.std.specs.Prelude.{Contains, Option, Some, None, slice_get}
use Rattle.std.specs.declared.cmp.Ordering.{Ordering}
use Rattle.std.specs.declared.cmp.Ordering.TheVariants.{Less, Equal, Greater}
use Rattle.lists.specs.Distinct.{AreDistinct}
use Rattle.lists.proofs.Beside.{beside_back}
use Rattle.lists.proofs.Members.{from_flat_map, from_map, in_map, in_rest}
use Rattle.lists.proofs.Quantifiers.{all_append, all_mapped, all_of, all_weaker}
use Rattle.rdf_terms.specs.Laws.{IsTerm, TextsAreDistinct}
use Rattle.rdf_terms.specs.OneLine.{HasOneLine}
use Rattle.rdf_terms.specs.Order.{compare_at, text_if_any}
use Rattle.rdf_terms.specs.Values.{IsValue}
use Rattle.rdf_terms.specs.Written.{term_text}
use Rattle.rdf_terms.specs.declared.terms.Term.{Term}
use Rattle.rdf_terms.specs.declared.terms.TermId.{TermId}
use Rattle.rdf_terms.proofs.Orders.{comes_first, id_itself, id_total, nodes_once}
use Rattle.rdf_terms.proofs.TermTexts.{whole_term}
use Rattle.schema_tree.specs.Targets.{target_text}
use Rattle.schema_tree.specs.Rising.{Rises, RisesFrom}
use Rattle.proof_file.specs.Accepts.{AreNumbers}
use Rattle.proof_file.specs.Text.{HasNoFeed, HasNoFeeds, IsKind, IsLine, IsNumber, IsRecordBefore, IsSectionBefore, IsTermBefore, Keeps, body_lines, head_lines, lines_of, section_lines}
use Rattle.proof_file.specs.declared.Claim.{Claim}
use Rattle.proof_file.specs.declared.Proof.{Proof}
use Rattle.proof_file.specs.declared.Record.{Record}
use Rattle.proof_file.specs.declared.Section.{Section}
use Rattle.proof_file.specs.declared.head.Digest256.{Digest256}
use Rattle.proof_file.specs.declared.head.Head.{Head}
use Rattle.proof_file.specs.declared.head.Part.TheVariants as Parts
use Rattle.proof_file.specs.declared.line.Line.{Line}
use Rattle.proof_file.specs.declared.line.Line.TheVariants as Lines
use Rattle.typing_refiner.specs.Evidence.{AreRenumbered, IsListed, IsSameRecord}

-- ---- the order of node lines

module _ (terms : List Term) (distinct : AreDistinct terms) (law : TextsAreDistinct) where
  -- of two nodes in order the texts of the terms are
  texts_rise : (n m : TermId) (t u : Term) → slice_get terms n.0 ≡ Some t → slice_get terms m.0 ≡ Some u → IsTerm t → IsTerm u → compare_at terms n m ≡ Less → IsTermBefore t u
  texts_rise n m t u at is good fine less = go (slice_cmp nat_cmp (term_text t) (term_text u)) refl own
    where
      own : ordering_then (slice_cmp nat_cmp (term_text t) (term_text u)) (nat_cmp n.0 m.0) ≡ Less
      own = (λ i. ordering_then (slice_cmp nat_cmp (text_if_any (sym at i)) (text_if_any (sym is i))) (nat_cmp n.0 m.0)) ∙ less

      go : (r : Ordering) → slice_cmp nat_cmp (term_text t) (term_text u) ≡ r → ordering_then r (nat_cmp n.0 m.0) ≡ Less → r ≡ Less
      go Less e h = refl
      go Greater e h = cc
      go Equal e h =
          let texts : term_text t ≡ term_text u = (bytes_eq-Decides (term_text t) (term_text u)).0 (sym (is_eq-slice_cmp (term_text t) (term_text u)) ∙ ap is_eq e) in
          let terms_same : t ≡ u = law t u good fine texts in
          let number : n.0 ≡ m.0 = distinct n.0 m.0 t at (is ∙ ap (λ x. Some x) (sym terms_same)) in
          let tied : nat_cmp n.0 m.0 ≡ Equal = ap (λ k. nat_cmp k m.0) number ∙ tied_itself nat_cmp_total m.0 in
          absurd (cc)

  lines_rise_from : (n : TermId) (t : Term) (nodes : List TermId) (lines : List Term) → slice_get terms n.0 ≡ Some t → IsTerm t →
      IsStrictlySortedBy (compare_at terms) (n ∷ nodes) → AreNumbers terms lines nodes → AllByRecursion IsTerm lines →
      RisesFrom IsTermBefore t lines
  lines_rise_from n t nodes [] at good up numbers whole = tt
  lines_rise_from n t [] (u ∷ lines) at good up numbers whole = cc
  lines_rise_from n t (m ∷ nodes) (u ∷ lines) at good up numbers whole =
      let is : slice_get terms m.0 ≡ Some u = cc in
      let rest : AreNumbers terms lines nodes = cc in
      (texts_rise n m t u at is good whole.0 (sorted_head (compare_at terms) n (m ∷ nodes) up).0, lines_rise_from m u nodes lines is whole.0 (sorted_tail (compare_at terms) n (m ∷ nodes) up) rest whole.1)

  pub lines_rise : (nodes : List TermId) (lines : List Term) → IsStrictlySortedBy (compare_at terms) nodes → AreNumbers terms lines nodes → AllByRecursion IsTerm lines → Rises IsTermBefore lines
  lines_rise nodes [] up numbers whole = tt
  lines_rise [] (u ∷ lines) up numbers whole = cc
  lines_rise (m ∷ nodes) (u ∷ lines) up numbers whole =
      let is : slice_get terms m.0 ≡ Some u = cc in
      let rest : AreNumbers terms lines nodes = cc in
      lines_rise_from m u nodes lines is whole.0 up rest whole.1

-- ---- the order of records

ordered : (a b : ℕ) → (a < b) ⊎ ((a ≡ b) ⊎ (b < a))
ordered a b = go (nat_cmp a b) (ranked a b (nat_cmp a b) refl)
  where
    go : (r : Ordering) → MatchOrdering r (a < b) (a ≡ b) (b < a) → (a < b) ⊎ ((a ≡ b) ⊎ (b < a))
    go Less m = inl m
    go Equal m = inr (inl m)
    go Greater m = inr (inr m)

not_both : Less ≡ Equal → ⊥
not_both e = cc

some_one : (n m : TermId) → Some n ≡ Some m → n ≡ m
some_one n m e = cc

-- what stands before another in a list in order does so in any other list in order
lower : (terms : List Term) (own lines : List TermId) → IsStrictlySortedBy (compare_at terms) own → IsStrictlySortedBy (compare_at terms) lines → (i j a b : ℕ) (n m : TermId) →
    slice_get own i ≡ Some n → slice_get own j ≡ Some m → slice_get lines a ≡ Some n → slice_get lines b ≡ Some m → i < j → a < b
lower terms own lines own_up lines_up i j a b n m own_n own_m line_n line_m less = elim (ordered a b) [
  | inl before ↦ before
  | inr later ↦ absurd (not_later (comes_first terms own own_up i j n m own_n own_m less) later)
]
  where
    not_later : compare_at terms n m ≡ Less → (a ≡ b) ⊎ (b < a) → ⊥
    not_later first (inl same) =
        let one : n ≡ m = some_one n m (sym line_n ∙ ap (slice_get lines) same ∙ line_m) in
        not_both (sym first ∙ subst (λ z. compare_at terms n z ≡ Equal) one (id_itself terms n))
    not_later first (inr after) =
        let second : compare_at terms m n ≡ Less = comes_first terms lines lines_up b a m n line_m line_n after in
        not_both (sym ((id_total terms).trans n m n first second) ∙ id_itself terms n)

module _ (terms : List Term) (own lines : List TermId) (own_up : IsStrictlySortedBy (compare_at terms) own) (lines_up : IsStrictlySortedBy (compare_at terms) lines) where
  record_before : (a b x y : Record) → IsSameRecord own lines a x → IsSameRecord own lines b y → IsRecordBefore a b → IsRecordBefore x y
  record_before a b x y (n, own_n, line_n, shape_a, kind_a) (m, own_m, line_m, shape_b, kind_b) (inl less) =
      inl (lower terms own lines own_up lines_up a.node b.node x.node y.node n m own_n own_m line_n line_m less)
  record_before a b x y (n, own_n, line_n, shape_a, kind_a) (m, own_m, line_m, shape_b, kind_b) (inr (same, less)) =
      let one : n ≡ m = cc in
      inr (nodes_once terms lines lines_up x.node y.node n line_n (line_m ∙ ap (λ z. Some z) (sym one)), omega (arith, less, shape_a, shape_b))

  rise_from : (a x : Record) (rs qs : List Record) → IsSameRecord own lines a x → AllZip (IsSameRecord own lines) rs qs → RisesFrom IsRecordBefore a rs → RisesFrom IsRecordBefore x qs
  rise_from a x [] [] same zip up = tt
  rise_from a x [] (q ∷ qs) same zip up = absurd zip
  rise_from a x (r ∷ rs) [] same zip up = absurd zip
  rise_from a x (r ∷ rs) (q ∷ qs) same zip up = (record_before a r x q same zip.0 up.0, rise_from r q rs qs zip.0 zip.1 up.1)

  pub records_rise : (rs qs : List Record) → AllZip (IsSameRecord own lines) rs qs → Rises IsRecordBefore rs → Rises IsRecordBefore qs
  records_rise [] [] zip up = tt
  records_rise [] (q ∷ qs) zip up = absurd zip
  records_rise (r ∷ rs) [] zip up = absurd zip
  records_rise (r ∷ rs) (q ∷ qs) zip up = rise_from r q rs qs zip.0 zip.1 up

  pub all_records_rise : (xs ys : List Section) → AreRenumbered own xs lines ys → ((x : Section) → Contains xs x → Rises IsRecordBefore x.records) →
      AllByRecursion (λ (y : Section). Rises IsRecordBefore y.records) ys
  all_records_rise xs ys same up = all_of (λ (y : Section). Rises IsRecordBefore y.records) ys (λ y c.
      let (x, held, alike) = beside_back (λ (a b : Section). (a.stratum ≡ b.stratum) × AllZip (IsSameRecord own lines) a.records b.records) xs ys same y c in
      records_rise x.records y.records alike.1 (up x held))

  sections_rise_from : (a x : Section) (xs ys : List Section) → a.stratum ≡ x.stratum → AreRenumbered own xs lines ys → RisesFrom IsSectionBefore a xs → RisesFrom IsSectionBefore x ys
  sections_rise_from a x [] [] same zip up = tt
  sections_rise_from a x [] (q ∷ qs) same zip up = absurd zip
  sections_rise_from a x (r ∷ rs) [] same zip up = absurd zip
  sections_rise_from a x (r ∷ rs) (q ∷ qs) same zip up = (omega (arith, same, zip.0.0, up.0), sections_rise_from r q rs qs zip.0.0 zip.1 up.1)

  pub sections_rise : (xs ys : List Section) → AreRenumbered own xs lines ys → Rises IsSectionBefore xs → Rises IsSectionBefore ys
  sections_rise [] [] zip up = tt
  sections_rise [] (y ∷ ys) zip up = absurd zip
  sections_rise (x ∷ xs) [] zip up = absurd zip
  sections_rise (x ∷ xs) (y ∷ ys) zip up = sections_rise_from x y xs ys zip.0.0 zip.1 up

-- ---- the lines

-- the lines of a head have no term and no target
head_clean : (head : Option Head) → AllByRecursion HasNoFeed (head_lines head)
head_clean None = tt
head_clean (Some h) =
    (tt, all_append HasNoFeed (map (λ d. Lines.Digest Parts.Import d) h.files.imports) (Lines.Digest Parts.Data h.files.graph ∷ Lines.Strata h.strata ∷ []) (imports h.files.imports) (tt, (tt, tt)))
  where
    imports : (ds : List Digest256) → AllByRecursion HasNoFeed (map (λ d. Lines.Digest Parts.Import d) ds)
    imports [] = tt
    imports (d ∷ ds) = (tt, imports ds)

-- what holds of each kind of line holds of all lines
all_lines : (P : Line → Type 0) (p : Proof) → AllByRecursion P (head_lines p.head) → ((t : Term) → Contains p.nodes t → P (Lines.Node t)) →
    ((x : Section) → Contains p.sections x → P (Lines.Section x.stratum)) →
    ((k : ℕ) (r : Record) → IsListed p.sections k r → P (Lines.Record r)) → ((c : Claim) → Contains p.claims c → P (Lines.Claim c)) → AllByRecursion P (lines_of p)
all_lines P p of_head of_node of_section of_record of_claim =
    all_append P (head_lines p.head) (body_lines p) of_head
    (all_append P (map (λ t. Lines.Node t) p.nodes) (flat_map section_lines p.sections ++ map (λ c. Lines.Claim c) p.claims)
    (all_mapped P (λ t. Lines.Node t) p.nodes (all_of (λ t. P (Lines.Node t)) p.nodes of_node))
    (all_append P (flat_map section_lines p.sections) (map (λ c. Lines.Claim c) p.claims) (all_of P (flat_map section_lines p.sections) middle)
    (all_mapped P (λ c. Lines.Claim c) p.claims (all_of (λ c. P (Lines.Claim c)) p.claims of_claim))))
  where
    of_line : (x : Section) (l : Line) → Contains p.sections x → (Lines.Section x.stratum ≡ l) ⊎ Contains (map (λ r. Lines.Record r) x.records) l → P l
    of_line x l held (inl first) = subst P first (of_section x held)
    of_line x l held (inr later) = let (r, in_x, is) = from_map (λ (r : Record). Lines.Record r) x.records l later in subst P is (of_record x.stratum r (x, held, refl, in_x))

    middle : (l : Line) → Contains (flat_map section_lines p.sections) l → P l
    middle l c =
        let (x, held, here) = from_flat_map section_lines p.sections l c in
        of_line x l held (in_rest (Lines.Section x.stratum) (map (λ r. Lines.Record r) x.records) l here)

-- what the lines of the proof rest on: each node's term can stand on one line, and numbers are in range
pub record AreLinesFit (terms : List Term) (nodes : List TermId) (p : Proof) : Type 0 where
  pub head : AllByRecursion IsLine (head_lines p.head)
  pub numbers : AreNumbers terms p.nodes nodes
  pub values : AllByRecursion IsValue p.nodes
  pub few : length nodes ≤ 16777216
  pub nodes_fit : (n : TermId) (t : Term) → Contains nodes n → slice_get terms n.0 ≡ Some t → HasOneLine t
  pub strata_fit : (x : Section) → Contains p.sections x → IsNumber x.stratum
  pub records_fit : (k : ℕ) (r : Record) → IsListed p.sections k r → (n : TermId) × (slice_get nodes r.node ≡ Some n) × IsNumber r.shape × IsKind r.kind
  pub claims_fit : (c : Claim) → Contains p.claims c → (n : TermId) × (slice_get nodes c.node ≡ Some n) × (¬ Contains (target_text c.target) 10)

module _ (terms : List Term) (nodes : List TermId) (p : Proof) (fit : AreLinesFit terms nodes p) where
  line_fits : (t : Term) → Contains p.nodes t → HasOneLine t
  line_fits t held =
      let there : Contains (map (λ (i : TermId). slice_get terms i.0) nodes) (Some t) = subst (λ xs. Contains xs (Some t)) (sym fit.numbers) (in_map (λ (u : Term). Some u) p.nodes t held) in
      let (n, listed, at) = from_map (λ (i : TermId). slice_get terms i.0) nodes (Some t) there in
      fit.nodes_fit n t listed at

  in_limits : (k : ℕ) (n : TermId) → slice_get nodes k ≡ Some n → k ≤ 4294967295
  in_limits k n at = let inside : k < length nodes = slice_get_within nodes k n at in omega (arith, inside, fit.few)

  record_fits : (k : ℕ) (r : Record) → IsListed p.sections k r → IsLine (Lines.Record r)
  record_fits k r listed = let (n, at, shape, kind) = fit.records_fit k r listed in (in_limits r.node n at, (shape, kind))

  claim_fits : (c : Claim) → Contains p.claims c → IsLine (Lines.Claim c)
  claim_fits c held = let (n, at, clean) = fit.claims_fit c held in in_limits c.node n at

  claim_clean : (c : Claim) → Contains p.claims c → ¬ Contains (target_text c.target) 10
  claim_clean c held = let (n, at, clean) = fit.claims_fit c held in clean

  pub no_feeds : HasNoFeeds p
  no_feeds = all_lines HasNoFeed p (head_clean p.head) (λ t held. (line_fits t held).1) (λ x held. tt) (λ k r listed. tt) claim_clean

  pub whole_terms : AllByRecursion IsTerm p.nodes
  whole_terms = all_weaker IsValue IsTerm p.nodes (λ t held v. whole_term t ((line_fits t held).0, v)) fit.values

  few_lines : length p.nodes ≤ 16777216
  few_lines =
      let as_many : length (map (λ (i : TermId). slice_get terms i.0) nodes) ≡ length (map (λ (t : Term). Some t) p.nodes) = ap length fit.numbers in
      omega (arith, as_many, length-map nodes (λ (i : TermId). slice_get terms i.0), length-map p.nodes (λ (t : Term). Some t), fit.few)

  pub keeps : AreDistinct terms → TextsAreDistinct → IsStrictlySortedBy (compare_at terms) nodes → Rises IsSectionBefore p.sections →
      AllByRecursion (λ (x : Section). Rises IsRecordBefore x.records) p.sections → Keeps p
  keeps distinct law up sections_up records_up = record {
    nodes = lines_rise terms distinct law nodes p.nodes up fit.numbers whole_terms;
    few = few_lines;
    sections = sections_up;
    records = records_up;
    lines = all_lines IsLine p fit.head (λ t held. (line_fits t held).0) fit.strata_fit record_fits claim_fits;
  }
