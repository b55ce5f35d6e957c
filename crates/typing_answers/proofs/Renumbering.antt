-- Records over other node lines, and what they make known.
use Rattle.std.proofs.Common.{◌≡◌, ◌∙◌, ap, sym, subst, refl, ℕ, zero, suc, List, [], ◌∷◌, map, length, ◌<◌, inl, inr, ◌⊎◌}
use Rattle.std.specs.Prelude.{Some, Contains, get_or, slice_get, option_map}
use Rattle.std.specs.List.{AllZip, flat_map}
use Rattle.std.proofs.lemmas.Option.{slice_get-get_or}
use Rattle.lists.proofs.Beside.{beside, beside_back}
use Rattle.lists.proofs.Members.{from_flat_map, from_map, in_flat_map, in_map, in_one, is_first, is_later, not_in_none}
use Rattle.rdf_terms.specs.declared.terms.Term.{Term}
use Rattle.rdf_terms.specs.declared.terms.TermId.{TermId}
use Rattle.rdf_terms.specs.declared.terms.Triple.{Triple}
use Rattle.schema_tree.specs.declared.schema.Pair.{Pair}
use Rattle.schema_tree.specs.declared.schema.Schema.{Schema}
use Rattle.schema_tree.specs.Sure.{Known}
use Rattle.schema_tree.specs.Typings.{top_of}
use Rattle.proof_file.specs.declared.Record.{Record}
use Rattle.proof_file.specs.declared.RecordKind.{RecordKind}
use Rattle.proof_file.specs.declared.RecordKind.TheVariants.{Plus, Minus}
use Rattle.proof_file.specs.declared.Section.{Section}
use Rattle.proof_file.specs.Views.{Refuted, minus_of, no_pairs, pair_at, pair_with, pairs_of, plus_of, whole_view, yes_pairs}
use Rattle.removal_laws.specs.Marks.{KnowSame}
use Rattle.typing_refiner.specs.Evidence.{AreRecordsOf, AreRemovals, AreRenumbered, IsSameRecord, Removal, Shows}
use Rattle.typing_answers.specs.Numbering.{IsPlace, moved, moved_section}
use Rattle.typing_answers.proofs.Knowing.{apart, gone_are}

-- ---- moved records

-- the number of each node, by its place
pub place_at : (nodes others : List TermId) (places : List ℕ) → AllZip (IsPlace others) nodes places → (i : ℕ) (n : TermId) → slice_get nodes i ≡ Some n → slice_get others (get_or places i 0) ≡ Some n
place_at [] others [] are i n at = cc
place_at [] others (k ∷ places) are i n at = absurd are
place_at (m ∷ nodes) others [] are i n at = absurd are
place_at (m ∷ nodes) others (k ∷ places) are zero n at = are.0 ∙ at
place_at (m ∷ nodes) others (k ∷ places) are (suc i) n at = place_at nodes others places are.1 i n at

-- the records all count the nodes
abbrev pub AreCounted : List TermId → List Record → Type 0
AreCounted nodes rs = (r : Record) → Contains rs r → r.node < length nodes

module _ (nodes others : List TermId) (places : List ℕ) (are : AllZip (IsPlace others) nodes places) where
  records_same : (rs : List Record) → AreCounted nodes rs → AllZip (IsSameRecord nodes others) rs (map (moved places) rs)
  records_same [] on = tt
  records_same (r ∷ rs) on =
      let n : TermId = get_or nodes r.node (record { 0 = 0 }) in
      let at : slice_get nodes r.node ≡ Some n = slice_get-get_or nodes r.node (record { 0 = 0 }) (on r (is_first r rs)) in
      ((n, at, place_at nodes others places are r.node n at, refl, refl), records_same rs (λ q c. on q (is_later r rs q c)))

  pub renumbered : (xs : List Section) → ((x : Section) → Contains xs x → AreCounted nodes x.records) → AreRenumbered nodes xs others (map (moved_section places) xs)
  renumbered [] on = tt
  renumbered (x ∷ xs) on = ((refl, records_same x.records (on x (is_first x xs))), renumbered xs (λ y c. on y (is_later x xs y c)))

-- ---- what renumbered records make known

-- the pair of a record on a node that has a line
pair_is : (lines : List TermId) (node shape : ℕ) (p : Pair) → slice_get lines node ≡ Some p.node → shape ≡ p.shape.0 → pair_at lines node shape ≡ Some p
pair_is lines node shape p at same = ap (option_map (pair_with shape)) at ∙ (λ i. Some (record { node = p.node; shape = record { 0 = same i } }))

module _ (s : Schema) (terms : List Term) (g : List Triple) (f : List ℕ) (pairs : List Pair) (budget : ℕ) (known : Known) (all : List Removal)
    (went : AreRemovals s terms g f pairs budget (suc (top_of f)) known all) where
  -- a pair that went is one with No
  is_gone : (x : Removal) → Contains all x → Contains known.no x.pair
  is_gone x c = subst (λ xs. Contains xs x.pair) (gone_are s terms g f pairs budget (suc (top_of f)) known all went) (in_map (λ (r : Removal). r.pair) all x c)

  -- what a record shows is known
  pub is_known : (p : Pair) (kind : RecordKind) → Shows s terms g f pairs budget known all p kind → Contains known.yes p ⊎ Contains known.no p
  is_known p (Plus places) h = inl h.0
  is_known p (Minus rank states) h = inr (is_gone (record { pair = p; rank = rank; states = states }) h)

  plus_known : (p q : Pair) (kind : RecordKind) → Shows s terms g f pairs budget known all p kind → Contains (plus_of kind (Some p)) q → Contains known.yes q
  plus_known p q (Plus places) h c = subst (λ z. Contains known.yes z) (in_one p q c) h.0
  plus_known p q (Minus rank states) h c = absurd (not_in_none q c)

  minus_known : (p : Pair) (q : Refuted) (kind : RecordKind) → Shows s terms g f pairs budget known all p kind → Contains (minus_of kind (Some p)) q → Contains known.no q.pair
  minus_known p q (Plus places) h c = absurd (not_in_none q c)
  minus_known p q (Minus rank states) h c =
      subst (λ (z : Refuted). Contains known.no z.pair) (in_one (record { pair = p; rank = rank }) q c) (is_gone (record { pair = p; rank = rank; states = states }) h)

  yes_plus : (p : Pair) (kind : RecordKind) → Shows s terms g f pairs budget known all p kind → Contains known.yes p → Contains (plus_of kind (Some p)) p
  yes_plus p (Plus places) h c = is_first p []
  yes_plus p (Minus rank states) h c = absurd (apart s terms g f pairs budget (suc (top_of f)) known all went p c (is_gone (record { pair = p; rank = rank; states = states }) h))

  no_minus : (p : Pair) (kind : RecordKind) → Shows s terms g f pairs budget known all p kind → Contains known.no p → (q : Refuted) × Contains (minus_of kind (Some p)) q × (q.pair ≡ p)
  no_minus p (Plus places) h c = absurd (apart s terms g f pairs budget (suc (top_of f)) known all went p h.0 c)
  no_minus p (Minus rank states) h c = (record { pair = p; rank = rank }, is_first (record { pair = p; rank = rank }) [], refl)

  module _ (own : List TermId) (sections : List Section) (are : AreRecordsOf s terms g f pairs budget known all own sections) (lines : List TermId)
      (others : List Section) (same : AreRenumbered own sections lines others) where
    abbrev records : List Record
    records = flat_map (λ (x : Section). x.records) others

    -- a record of the others says the same of its pair as some record of the sections does
    record Comes (r : Record) : Type 0 where
      pub pair : Pair
      pub kind : RecordKind
      pub is_pair : pair_at lines r.node r.shape ≡ Some pair
      pub is_kind : kind ≡ r.kind
      pub shows : Shows s terms g f pairs budget known all pair kind

    comes : (r : Record) → Contains records r → Comes r
    comes r c =
        let (y, in_others, in_y) = from_flat_map (λ (x : Section). x.records) others r c in
        let (x, in_sections, alike) = beside_back (λ (a b : Section). (a.stratum ≡ b.stratum) × AllZip (IsSameRecord own lines) a.records b.records) sections others same y in_others in
        let (q, in_x, (n, at_own, at_lines, shape, kind)) = beside_back (IsSameRecord own lines) x.records y.records alike.1 r in_y in
        let (p, is, on, shows) = are.each x.stratum q (x, in_sections, refl, in_x) in
        let node : n ≡ p.node = cc in
        record {
          pair = p;
          kind = q.kind;
          is_pair = pair_is lines r.node r.shape p (at_lines ∙ ap (λ m. Some m) node) (sym shape ∙ is.1);
          is_kind = kind;
          shows = shows;
        }

    -- a pair that is known has such a record
    record Stands (p : Pair) : Type 0 where
      pub line : Record
      pub held : Contains records line
      pub kind : RecordKind
      pub is_pair : pair_at lines line.node line.shape ≡ Some p
      pub is_kind : kind ≡ line.kind
      pub shows : Shows s terms g f pairs budget known all p kind

    stands : (p : Pair) → Contains known.yes p ⊎ Contains known.no p → Stands p
    stands p known_it =
        let (r, (x, in_sections, stratum, in_x), of) = are.whole p known_it in
        let (y, in_others, alike) = beside (λ (a b : Section). (a.stratum ≡ b.stratum) × AllZip (IsSameRecord own lines) a.records b.records) sections others same x in_sections in
        let (line, in_y, (n, at_own, at_lines, shape, kind)) = beside (IsSameRecord own lines) x.records y.records alike.1 r in_x in
        let (q, is, on, shows) = are.each x.stratum r (x, in_sections, refl, in_x) in
        let node : n ≡ p.node = cc in
        let nodes : q.node ≡ p.node = cc in
        let shapes : q.shape.0 ≡ p.shape.0 = sym is.1 ∙ of.1 in
        let pair : q ≡ p = λ i. record { node = nodes i; shape = record { 0 = shapes i } } in
        record {
          line = line;
          held = in_flat_map (λ (z : Section). z.records) others y line in_others in_y;
          kind = r.kind;
          is_pair = pair_is lines line.node line.shape p (at_lines ∙ ap (λ m. Some m) node) (sym shape ∙ of.1);
          is_kind = kind;
          shows = subst (λ z. Shows s terms g f pairs budget known all z r.kind) pair shows;
        }

    yes_known : (q : Pair) → Contains (yes_pairs lines records) q → Contains known.yes q
    yes_known q c =
        let (r, held, here) = from_flat_map (λ (x : Record). plus_of x.kind (pair_at lines x.node x.shape)) records q c in
        let of = comes r held in
        plus_known of.pair q of.kind of.shows (subst (λ k. Contains (plus_of k (Some of.pair)) q) (sym of.is_kind) (subst (λ o. Contains (plus_of r.kind o) q) of.is_pair here))

    no_known : (q : Pair) → Contains (pairs_of (no_pairs lines records)) q → Contains known.no q
    no_known q c =
        let (z, among, is) = from_map (λ (x : Refuted). x.pair) (no_pairs lines records) q c in
        let (r, held, here) = from_flat_map (λ (x : Record). minus_of x.kind (pair_at lines x.node x.shape)) records z among in
        let of = comes r held in
        subst (λ p. Contains known.no p) is (minus_known of.pair z of.kind of.shows (subst (λ k. Contains (minus_of k (Some of.pair)) z) (sym of.is_kind) (subst (λ o. Contains (minus_of r.kind o) z) of.is_pair here)))

    known_yes : (q : Pair) → Contains known.yes q → Contains (yes_pairs lines records) q
    known_yes q c =
        let of = stands q (inl c) in
        in_flat_map (λ (x : Record). plus_of x.kind (pair_at lines x.node x.shape)) records of.line q of.held
        (subst (λ o. Contains (plus_of of.line.kind o) q) (sym of.is_pair) (subst (λ k. Contains (plus_of k (Some q)) q) of.is_kind (yes_plus q of.kind of.shows c)))

    known_no : (q : Pair) → Contains known.no q → Contains (pairs_of (no_pairs lines records)) q
    known_no q c =
        let of = stands q (inr c) in
        let (z, here, is) = no_minus q of.kind of.shows c in
        let among : Contains (no_pairs lines records) z =
        in_flat_map (λ (x : Record). minus_of x.kind (pair_at lines x.node x.shape)) records of.line z of.held
        (subst (λ o. Contains (minus_of of.line.kind o) z) (sym of.is_pair) (subst (λ k. Contains (minus_of k (Some q)) z) of.is_kind here)) in
        subst (λ p. Contains (pairs_of (no_pairs lines records)) p) is (in_map (λ (x : Refuted). x.pair) (no_pairs lines records) z among)

    -- the records make known what is known
    pub records_know : KnowSame known (whole_view (yes_pairs lines records) (no_pairs lines records))
    records_know = ((known_yes, yes_known), (known_no, no_known))
