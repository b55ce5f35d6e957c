-- The stored proof is one of the answers.
use Rattle.std.proofs.Common.{◌≡◌, ◌∙◌, ap, sym, subst, refl, ℕ, suc, List, map, length, ◌<◌, ◌≤◌, ◌+◌, arith, inl, inr, ◌⊎◌}
use Rattle.std.specs.Prelude.{Contains, Option, Some, slice_get, ◌↔◌}
use Rattle.std.specs.List.{AllByRecursion, AllZip}
use Rattle.std.specs.List.Sorted.{IsStrictlySortedBy}
use Rattle.lists.specs.Distinct.{AreDistinct}
use Rattle.lists.proofs.Beside.{beside, beside_back, same_length}
use Rattle.lists.proofs.Members.{got_in, in_flat_map}
use Rattle.rdf_terms.specs.Order.{compare_at}
use Rattle.rdf_terms.specs.Values.{IsValue}
use Rattle.rdf_terms.specs.declared.terms.Term.{Term}
use Rattle.rdf_terms.specs.declared.terms.TermId.{TermId}
use Rattle.rdf_terms.specs.declared.terms.Triple.{Triple}
use Rattle.schema_tree.specs.declared.schema.Answer.{Answer}
use Rattle.schema_tree.specs.declared.schema.Pair.{Pair}
use Rattle.schema_tree.specs.declared.schema.Schema.{Schema}
use Rattle.schema_tree.specs.Edges.{level}
use Rattle.schema_tree.specs.Sure.{Known}
use Rattle.schema_tree.specs.Targets.{target_text}
use Rattle.schema_tree.specs.Typings.{top_of}
use Rattle.demand.specs.Orders.{max_pairs}
use Rattle.proof_file.specs.Accepts.{AreNumbers}
use Rattle.proof_file.specs.Text.{IsKind, IsLine, IsNumber, head_lines}
use Rattle.proof_file.specs.declared.Claim.{Claim}
use Rattle.proof_file.specs.declared.head.Head.{Head}
use Rattle.proof_file.specs.declared.Proof.{Proof}
use Rattle.proof_file.specs.declared.Record.{Record}
use Rattle.proof_file.specs.declared.Section.{Section}
use Rattle.shape_map.specs.Selection.{max_associations}
use Rattle.typing_refiner.specs.Evidence.{AreRecordsOf, AreRemovals, AreRenumbered, IsListed, IsRecordOf, IsSameRecord, Removal}
use Rattle.typing_answers.specs.Laws.{AreLaws}
use Rattle.typing_answers.specs.Numbering.{IsClaimOf, IsPlace, moved_section}
use Rattle.typing_answers.specs.Proofs.{AreInRange, AreShownFor, IsAnswered, IsProofOf, IsRecorded}
use Rattle.typing_answers.proofs.Accepting.{are_accepted, claims_give}
use Rattle.typing_answers.proofs.Keeping.{AreLinesFit, all_records_rise, keeps, no_feeds, sections_rise}
use Rattle.typing_answers.proofs.Knowing.{know_in_turn, no_below, yes_below}
use Rattle.typing_answers.proofs.Renumbering.{is_known, records_know, renumbered}

-- what is made of the records and of the answers
pub record AreMade (terms : List Term) (own : List TermId) (sections : List Section) (answers : List Answer) (nodes : List TermId) (p : Proof) : Type 0 where
  pub sorted : IsStrictlySortedBy (compare_at terms) nodes
  pub exactly : (n : TermId) → Contains nodes n ↔ (Contains own n ⊎ IsAnswered answers n)
  pub few : length nodes ≤ max_pairs + max_associations
  pub head : AllByRecursion IsLine (head_lines p.head)
  pub numbers : AreNumbers terms p.nodes nodes
  pub values : AllByRecursion IsValue p.nodes
  pub recorded : AreRenumbered own sections nodes p.sections
  pub claimed : AllZip (IsClaimOf nodes) answers p.claims

-- the places are as many as the nodes, so each record has one
pub counted_by : (terms : List Term) (own recorded nodes : List TermId) (sections : List Section) (answers : List Answer) (places numbers : List ℕ) →
    recorded ≡ own → numbers ≡ places → AreInRange terms own sections answers → AllZip (IsPlace nodes) recorded places →
    (x : Section) (r : Record) → Contains sections x → Contains x.records r → r.node < length numbers
counted_by terms own recorded nodes sections answers places numbers lent made range zip x r held in_x =
    let inside = range.counted x r held in_x in
    omega (arith, inside, ap length lent, ap length made, same_length (IsPlace nodes) recorded places zip)

-- the parts as they are lent and made
pub made_of : (terms : List Term) (head : Option Head) (own recorded distinct nodes : List TermId) (sections moved : List Section) (answers : List Answer) (places numbers : List ℕ)
    (lines a : List Term) (b : List Section) (claims d : List Claim) →
    AllByRecursion IsLine (head_lines head) → recorded ≡ own → nodes ≡ distinct → numbers ≡ places → AreInRange terms own sections answers →
    IsStrictlySortedBy (compare_at terms) distinct → ((n : TermId) → Contains distinct n ↔ (Contains recorded n ⊎ IsAnswered answers n)) → length distinct ≤ length recorded + length answers →
    AllZip (IsPlace nodes) recorded places → moved ≡ map (moved_section numbers) sections → AreNumbers terms lines nodes → AllByRecursion IsValue lines → AllZip (IsClaimOf nodes) answers claims →
    a ≡ lines → b ≡ moved → d ≡ claims → AreMade terms own sections answers nodes (record { head = head; nodes = a; sections = b; claims = d })
made_of terms head own recorded distinct nodes sections moved answers places numbers lines a b claims d headed lent lent_nodes lent_places range sorted exactly few zip moved_are numbered values claimed a_is b_is d_is = record {
  sorted = subst (IsStrictlySortedBy (compare_at terms)) (sym lent_nodes) sorted;
  exactly = subst (λ (ns : List TermId). (n : TermId) → Contains ns n ↔ (Contains own n ⊎ IsAnswered answers n)) (sym lent_nodes)
      (subst (λ (os : List TermId). (n : TermId) → Contains distinct n ↔ (Contains os n ⊎ IsAnswered answers n)) lent exactly);
  few = omega (arith, ap length lent_nodes, ap length lent, few, range.few_nodes, range.few_answers);
  head = headed;
  numbers = subst (λ ls. AreNumbers terms ls nodes) (sym a_is) numbered;
  values = subst (AllByRecursion IsValue) (sym a_is) values;
  recorded = subst (AreRenumbered own sections nodes) (sym (b_is ∙ moved_are ∙ ap (λ ks. map (moved_section ks) sections) lent_places))
      (renumbered own nodes places (subst (λ os. AllZip (IsPlace nodes) os places) lent zip) sections (λ x held r in_x. range.counted x r held in_x));
  claimed = subst (AllZip (IsClaimOf nodes) answers) (sym d_is) claimed;
}

module _ (s : Schema) (terms : List Term) (g : List Triple) (f : List ℕ) (pairs : List Pair) (budget : ℕ) (verdicts : Known) (own : List TermId) (sections : List Section) (answers : List Answer)
    (h : AreShownFor s terms g f pairs budget verdicts own sections answers) where
  abbrev known : Known
  known = h.shown.0

  abbrev all : List Removal
  all = h.shown.1

  abbrev went : AreRemovals s terms g f pairs budget (suc (top_of f)) known all
  went = h.shown.2

  abbrev are : AreRecordsOf s terms g f pairs budget known all own sections
  are = h.shown.4

  -- the pair that a record is of
  pub record IsOfPair (k : ℕ) (r : Record) : Type 0 where
    pub pair : Pair
    pub of : IsRecordOf own r pair
    pub on : level f pair.shape ≡ k
    pub asked : Contains pairs pair

  pub is_record : (k : ℕ) (r : Record) → IsListed sections k r → IsOfPair k r
  is_record k r listed =
      let (p, of, on, shows) = are.each k r listed in
      record {
        pair = p;
        of = of;
        on = on;
        asked = elim (is_known s terms g f pairs budget known all went p r.kind shows) [
          | inl c ↦ (yes_below s terms g f pairs budget (suc (top_of f)) known all went p c).0
          | inr c ↦ (no_below s terms g f pairs budget (suc (top_of f)) known all went p c).0
        ];
      }

  -- each node of the records is that of a pair
  pub of_pair : (n : TermId) → Contains own n → (p : Pair) × Contains pairs p × (p.node ≡ n)
  of_pair n c =
      let (k, r, listed, at) = are.used n c in
      let of = is_record k r listed in
      let same : of.pair.node ≡ n = cc in
      (of.pair, of.asked, same)

  module _ (laws : AreLaws) (distinct : AreDistinct terms) (nodes : List TermId) (p : Proof) (made : AreMade terms own sections answers nodes p) where
    abbrev Same : Section → Section → Type 0
    Same a b = (a.stratum ≡ b.stratum) × AllZip (IsSameRecord own nodes) a.records b.records

    -- the stratum of a pair is a small number
    stratum_fits : (q : Pair) → Contains pairs q → IsNumber (level f q.shape)
    stratum_fits q c =
        let there = h.shapes q c in
        let (t, path) = (h.strata.1 q.shape there).0 in
        let short = laws.short s (laws.no_cycle s f (laws.stratified s f h.strata)) q.shape t (level f q.shape) path in
        omega (arith, short, h.loaded.few)

    fit : AreLinesFit terms nodes p
    fit = record {
      head = made.head;
      numbers = made.numbers;
      values = made.values;
      few = omega (arith, made.few);
      nodes_fit = λ n t c at. elim ((made.exactly n).0 c) [
        | inl in_own ↦ (let (q, asked, same) = of_pair n in_own in h.lines q t asked (ap (λ (m : TermId). slice_get terms m.0) same ∙ at))
        | inr in_answers ↦ (h.claims in_answers.0 in_answers.1).line t (ap (λ (m : TermId). slice_get terms m.0) in_answers.2 ∙ at)
      ];
      strata_fit = λ y c.
          let (x, held, same) = beside_back Same sections p.sections made.recorded y c in
          let (r, in_x) = are.some x held in
          let of = is_record x.stratum r (x, held, refl, in_x) in
          subst IsNumber (of.on ∙ same.0) (stratum_fits of.pair of.asked);
      records_fit = λ k r listed.
          let (y, in_p, is, in_y) = listed in
          let (x, held, same) = beside_back Same sections p.sections made.recorded y in_p in
          let (q, in_x, (n, at_own, at_line, shape, kind)) = beside_back (IsSameRecord own nodes) x.records y.records same.1 r in_y in
          let of = is_record x.stratum q (x, held, refl, in_x) in
          let there = h.shapes of.pair of.asked in
          (n, at_line, omega (arith, sym shape ∙ of.of.1, there, h.loaded.few), subst IsKind kind (h.kinds x.stratum q (x, held, refl, in_x)));
      claims_fit = λ c held.
          let (x, among, claim) = beside_back (IsClaimOf nodes) answers p.claims made.claimed c held in
          (x.node, claim.node, subst (λ t. ¬ Contains (target_text t) 10) (sym claim.target) (h.claims x among).clean);
    }

    lean : (n : TermId) → Contains nodes n ↔ (IsRecorded nodes p n ⊎ IsAnswered answers n)
    lean n = (there, back)
      where
        recorded : Contains own n → IsRecorded nodes p n
        recorded c =
            let (k, r, (x, held, is, in_x), at) = are.used n c in
            let (y, in_p, same) = beside Same sections p.sections made.recorded x held in
            let (q, in_y, (m, at_own, at_line, shape, kind)) = beside (IsSameRecord own nodes) x.records y.records same.1 r in_x in
            let one : m ≡ n = cc in
            (q, in_flat_map (λ (z : Section). z.records) p.sections y q in_p in_y, at_line ∙ ap (λ z. Some z) one)

        there : Contains nodes n → IsRecorded nodes p n ⊎ IsAnswered answers n
        there c = elim ((made.exactly n).0 c) [
          | inl in_own ↦ inl (recorded in_own)
          | inr in_answers ↦ inr in_answers
        ]

        back : IsRecorded nodes p n ⊎ IsAnswered answers n → Contains nodes n
        back (inl (r, c, at)) = got_in nodes r.node n at
        back (inr answered) = (made.exactly n).1 (inr answered)

    pub is_proof : IsProofOf f s terms g pairs budget answers p
    is_proof = record {
      keeps =
          keeps terms nodes p fit distinct laws.texts made.sorted (sections_rise terms own nodes h.sorted made.sorted sections p.sections made.recorded are.sections_rise)
          (all_records_rise terms own nodes h.sorted made.sorted sections p.sections made.recorded are.records_rise);
      no_feeds = no_feeds terms nodes p fit;
      nodes = nodes;
      numbers = made.numbers;
      accepted =
          are_accepted f s terms g nodes p verdicts h.loaded laws.sure
          (know_in_turn verdicts known _ h.shown.3 (records_know s terms g f pairs budget known all went own sections are nodes p.sections made.recorded))
          answers (h.records h.shapes nodes p made.recorded) h.claims made.claimed;
      claims = claims_give nodes answers p.claims made.claimed;
      recorded = record { verdicts = verdicts; own = own; evidence = sections; shown = h.shown; same = made.recorded };
      lean = lean;
    }
