-- What a question comes to by what is kept.
use Rattle.std.proofs.Common.{◌≡◌, ◌∙◌, ℕ, suc, ◌<◌, ◌≤◌, ◌+◌, ◌⊎◌, inl, inr, List, [], ◌∷◌, ◌++◌, refl, arith, sym, subst, ap, All, Bool, true, false, true≢false, length, take}
use Rattle.std.proofs.lemmas.List.Elements.{All-contains}
use Rattle.std.specs.Prelude.{◌↔◌, Contains, IfSome, IsNone, Option, Some, None}
use Rattle.demand.specs.Demand.{AreAsked, IsAsked}
use Rattle.demand.specs.Orders.{compare_pairs}
use Rattle.demand.proofs.Led.{reaches_wide}
use Rattle.demand.proofs.PairOrder.{pairs_once, pairs_total}
use Rattle.graph_index.specs.Contents.{Contents}
use Rattle.graph_index.specs.Laws.{IsOfTable}
use Rattle.lists.specs.Distinct.{AreDistinct}
use Rattle.lists.proofs.Filters.{filter_has, in_filter}
use Rattle.lists.proofs.Members.{in_one, is_first, not_in_none}
use Rattle.lists.proofs.Ordered.{sorted_one}
use Rattle.locality_laws.specs.Local.{AreKept, IsVerdict}
use Rattle.locality_laws.specs.Laws.{RefinementIsIndependent, VerdictIsIndependent}
use Rattle.locality_laws.proofs.Alike.{by_members, one_verdict}
use Rattle.rdf_terms.specs.declared.terms.Term.{Term}
use Rattle.rdf_terms.specs.declared.terms.TermId.{TermId}
use Rattle.rdf_terms.specs.declared.terms.Triple.{Triple}
use Rattle.removal_laws.specs.Marks.{KnowSame, same_verdict}
use Rattle.removal_laws.proofs.Carried.{sure_carries}
use Rattle.removal_laws.proofs.Verdicts.{verdict_is, verdict_same}
use Rattle.schema_tree.specs.declared.schema.ExprId.{ExprId}
use Rattle.schema_tree.specs.declared.schema.Pair.{Pair}
use Rattle.schema_tree.specs.declared.schema.Schema.{Schema}
use Rattle.schema_tree.specs.declared.schema.ShapeId.{ShapeId}
use Rattle.schema_tree.specs.declared.verdicts.Verdict.{Verdict}
use Rattle.schema_tree.specs.declared.verdicts.Verdict.TheVariants.{No, Unknown, Yes}
use Rattle.schema_tree.specs.Edges.{IsStratified, StandsIn}
use Rattle.schema_tree.specs.Entries.{pair_of}
use Rattle.schema_tree.specs.Laws.{DecidedIsSure, OneVerdict, RefinementExists, RefinementIsTrue, SatIsDecided, SomeVerdict, SureFollowsAnswers, SureIsTrue, WidthIsOne}
use Rattle.schema_tree.specs.Loaded.{IsLoaded}
use Rattle.schema_tree.specs.Matches.{other_end}
use Rattle.schema_tree.specs.Needs.{HoldNeeds, IsDecided, Leads, Needs, Reaches, here, step}
use Rattle.schema_tree.specs.Removal.{IsRefined}
use Rattle.schema_tree.specs.Satisfies.{Sat}
use Rattle.schema_tree.specs.Sure.{IsSure, Known, PairIs}
use Rattle.schema_tree.specs.Typings.{HoldsEnds}
use Rattle.schema_tree.proofs.Strata.{stands_there}
use Rattle.typing_refiner.specs.Building.{AreWidths}
use Rattle.typing_refiner.specs.Statements.{CountNeeds, most_of}
use Rattle.typing_session.specs.Kept.{Begins, Gains, fresh_of, is_free, kept_on, known_by_kept, pairs_of}
use Rattle.typing_session.specs.Questions.{AreFresh, IsAnswer, IsAnswerByAll, IsTrueAnswer, IsUnknownOnlyWide, IsVerdictByAll, Keeps, root_of}
use Rattle.typing_session.specs.Sound.{AreKeptFor, AreSound, HaveVerdicts, IsOfBoth}
use Rattle.typing_session.specs.Walks.{HoldOrKeepNeeds}
use Rattle.typing_session.proofs.Keeping.{Entries, free_is, gained_pairs, gained_verdict, gains_begin, kept_answers, kept_key, key_kept, known_kept, no_key}
use Rattle.typing_session.proofs.Sifting.{not_not_asked}
use Rattle.typing_session.proofs.Using.{value_there}

-- ---- what one root asks for

pub one_root : (s : Schema) (g : List Triple) (n : TermId) (e : ExprId) (q : Pair) → IsAsked s g (root_of n e) q ↔ Reaches s g n e q
one_root s g n e q = (
  (λ (r, held, reaches). (let is = in_one (record { node = n; expr = e }) r held in subst (λ z. Reaches s g z.node z.expr q) (sym is) reaches)),
  (λ reaches. (record { node = n; expr = e }, is_first (record { node = n; expr = e }) [], reaches)),
)

pub leads_on : (s : Schema) (g : List Triple) (p r q : Pair) → Leads s g p r → Needs s g r q → Leads s g p q
leads_on s g p r q here need = step q need here
leads_on s g p r q (step u first rest) need = step u first (leads_on s g u r q rest need)

asked_closed : (s : Schema) (terms : List Term) (g : List Triple) (n : TermId) (e : ExprId) (pairs : List Pair) → AreAsked s terms g (root_of n e) pairs → HoldNeeds s g pairs
asked_closed s terms g n e pairs asked p q c need =
    let (i, sign, st, leads) = (one_root s g n e p).0 ((asked.exactly p).0 c) in
    (asked.exactly q).1 ((one_root s g n e q).1 (i, sign, st, leads_on s g (pair_of n i) p q leads need))

-- ---- the pairs on which no verdict is kept

pub fresh_exactly : (es : Entries) (pairs : List Pair) (q : Pair) → Contains (fresh_of es pairs) q ↔ (Contains pairs q × (kept_on es q ≡ None))
fresh_exactly es pairs q = (
  (λ c. let (held, is) = in_filter (λ p. is_free (kept_on es p)) pairs q c in (held, free_is (kept_on es q) is)),
  (λ (held, is). filter_has (λ p. is_free (kept_on es p)) pairs q held (ap is_free is)),
)

-- a verdict is kept on a pair, or none is
pub kept_or_not : (es : Entries) (q : Pair) → Contains (pairs_of es) q ⊎ (¬ Contains (pairs_of es) q)
kept_or_not es q = go (kept_on es q) refl
  where
    go : (o : Option Verdict) → kept_on es q ≡ o → Contains (pairs_of es) q ⊎ (¬ Contains (pairs_of es) q)
    go None is = inr (no_key es q is)
    go (Some v) is = inl (kept_key es q v is)

module _ (s : Schema) (terms : List Term) (g : List Triple) (n : TermId) (e : ExprId) (es : Entries) (fresh : List Pair) (are : AreFresh s terms g (pairs_of es) n e fresh) where
  -- what is reached is kept or fresh
  pub kept_or_fresh : (q : Pair) → Reaches s g n e q → Contains (pairs_of es) q ⊎ Contains fresh q
  kept_or_fresh q reaches = elim (kept_or_not es q) [ inl k ↦ inl k | inr none ↦ inr ((are.exactly q).1 (reaches, none)) ]

  pub fresh_apart : (q : Pair) → Contains fresh q → ¬ Contains (pairs_of es) q
  fresh_apart q c = ((are.exactly q).0 c).1

  -- what fresh pairs need is fresh or kept
  pub fresh_whole : HoldOrKeepNeeds s g (pairs_of es) fresh
  fresh_whole p q c need =
      let (i, sign, st, leads) = ((are.exactly p).0 c).0 in
      elim (kept_or_fresh q (i, sign, st, leads_on s g (pair_of n i) p q leads need)) [ inl k ↦ inr k | inr f ↦ inl f ]

  -- there is one list of them
  pub fresh_one : (others : List Pair) → AreFresh s terms g (pairs_of es) n e others → fresh ≡ others
  fresh_one others too =
      sorted_one (compare_pairs terms) (pairs_total terms) fresh others are.sorted too.sorted
      (λ q c. (too.exactly q).1 ((are.exactly q).0 c)) (λ q c. (are.exactly q).1 ((too.exactly q).0 c))

-- what they need is among them, or kept with its verdict
pub fresh_kept : (s : Schema) (terms : List Term) (g : List Triple) (f : List ℕ) (budget : ℕ) (es : Entries) (pairs : List Pair) →
    HoldOrKeepNeeds s g (pairs_of es) pairs → HaveVerdicts s terms g f budget es →
    AreKept s terms g f budget (known_by_kept es) pairs
fresh_kept s terms g f budget es pairs whole verdicts p q c need = elim (whole p q c need) [
  | inl f ↦ inl f
  | inr k ↦ (let (w, is) = key_kept es q k in inr (λ v known. verdicts q v (known_kept es q v w is known)))
]

-- ---- what is kept then

pub kept_for : (s : Schema) (terms : List Term) (g : List Triple) (f : List ℕ) (budget : ℕ) (known : Known) (fresh : List Pair) (old new : Entries) → HaveVerdicts s terms g f budget old →
    ((p : Pair) (v : Verdict) → Contains fresh p → PairIs known p v → IsVerdict s terms g f budget p v) → Gains known fresh old new → AreKeptFor s terms g f budget fresh old new
kept_for s terms g f budget known fresh old new verdicts found gains = record {
  begins = gains_begin known fresh old new gains;
  pairs_are = gained_pairs known fresh old new gains;
  verdicts = λ p v e. elim (gained_verdict known fresh old new gains p v e) [ inl was ↦ verdicts p v was | inr (held, is) ↦ found p v held is ];
}

-- ---- the answer

module _ (s : Schema) (terms : List Term) (g : List Triple) (f : List ℕ) (budget : ℕ) (n : TermId) (e : ExprId) (pairs : List Pair) (old new : Entries)
    (asked : AreAsked s terms g (root_of n e) pairs) (kept : AreKeptFor s terms g f budget pairs old new) (one : OneVerdict) (some : SomeVerdict) where
  module _ (others : List Pair) (known : Known) (asked_too : AreAsked s terms g (root_of n e) others) (refined : IsRefined s terms g f others budget known) where
    -- both say the same of the node with a Shape that stands in the expression
    same_at : (i : ShapeId) (sign : Bool) → StandsIn s i e sign → (v : Verdict) → PairIs (known_by_kept new) (pair_of n i) v ↔ PairIs known (pair_of n i) v
    same_at i sign st v =
        let reached : IsAsked s g (root_of n e) (pair_of n i) = (one_root s g n e (pair_of n i)).1 (i, sign, st, here) in
        let held : Contains others (pair_of n i) = (asked_too.exactly (pair_of n i)).1 reached in
        let (w, is) = key_kept new (pair_of n i) ((kept.pairs_are (pair_of n i)).1 (inr ((asked.exactly (pair_of n i)).1 reached))) in
        let says : PairIs known (pair_of n i) w = kept.verdicts (pair_of n i) w is others known (pairs_once terms others asked_too.sorted) (asked_closed s terms g n e others asked_too) held refined in
        let kept_says : PairIs (known_by_kept new) (pair_of n i) w = kept_answers new (pair_of n i) w is in (
          (λ h. subst (λ z. PairIs known (pair_of n i) z) (one_verdict (known_by_kept new) (pair_of n i) w v kept_says h) says),
          (λ h. subst (λ z. PairIs (known_by_kept new) (pair_of n i) z) (one_verdict known (pair_of n i) w v says h) kept_says),
        )

    yes_there : IsSure s terms (known_by_kept new) n e Yes → IsSure s terms known n e Yes
    yes_there = (sure_carries s terms (known_by_kept new) known n (suc e.0) e).0 ((λ i sign st. (same_at i sign st Yes).0), (λ i st. (same_at i true st No).0))

    no_there : IsSure s terms (known_by_kept new) n e No → IsSure s terms known n e No
    no_there = (sure_carries s terms (known_by_kept new) known n (suc e.0) e).1 ((λ i sign st. (same_at i sign st No).0), (λ i st. (same_at i true st Yes).0))

    yes_back : IsSure s terms known n e Yes → IsSure s terms (known_by_kept new) n e Yes
    yes_back = (sure_carries s terms known (known_by_kept new) n (suc e.0) e).0 ((λ i sign st. (same_at i sign st Yes).1), (λ i st. (same_at i true st No).1))

    no_back : IsSure s terms known n e No → IsSure s terms (known_by_kept new) n e No
    no_back = (sure_carries s terms known (known_by_kept new) n (suc e.0) e).1 ((λ i sign st. (same_at i sign st No).1), (λ i st. (same_at i true st Yes).1))

    sure_there : (v : Verdict) → IsSure s terms (known_by_kept new) n e v → IsSure s terms known n e v
    sure_there Yes h = yes_there h
    sure_there No h = no_there h
    sure_there Unknown h = let (w, is) = some s terms known n e in by w is
      where
        by : (w : Verdict) → IsSure s terms known n e w → IsSure s terms known n e Unknown
        by Yes is = let f : Yes ≡ Unknown = one s terms (known_by_kept new) n e Yes Unknown (yes_back is) h in absurd (cc)
        by No is = let f : No ≡ Unknown = one s terms (known_by_kept new) n e No Unknown (no_back is) h in absurd (cc)
        by Unknown is = is

  pub is_answer : (v : Verdict) → IsSure s terms (known_by_kept new) n e v → IsAnswer s terms g f budget n e v
  is_answer v h others known asked_too refined = sure_there others known asked_too refined v h

  -- and no other is
  pub only_answer : RefinementExists → IsLoaded s → (v : Verdict) → IsSure s terms (known_by_kept new) n e v → (w : Verdict) → IsAnswer s terms g f budget n e w → w ≡ v
  only_answer exists loaded v h w answer =
      let (known, refined) = exists s terms g f pairs budget loaded (pairs_once terms pairs asked.sorted) in
      one s terms known n e w v (answer pairs known asked refined) (sure_there pairs known asked refined v h)

-- ---- what the answer means

module _ (s : Schema) (terms : List Term) (g : List Triple) (f : List ℕ) (budget : ℕ) (n : TermId) (e : ExprId) (pairs : List Pair) (asked : AreAsked s terms g (root_of n e) pairs)
    (exists : RefinementExists) (loaded : IsLoaded s) where
  led_inside : (U : List TermId) → HoldsEnds U g → (p q : Pair) → Leads s g p q → Contains U p.node → Contains U q.node
  led_inside U ends p q here c = c
  led_inside U ends p q (step u need rest) c = led_inside U ends u q rest (subst (λ m. Contains U m) (sym need.end) (end need.occ.inverse))
    where
      end : (inverse : Bool) → Contains U (other_end inverse need.triple)
      end true = (ends need.triple need.held).0
      end false = (ends need.triple need.held).1

  over : (U : List TermId) → HoldsEnds U g → Contains U n → (p : Pair) → Contains pairs p → Contains U p.node
  over U ends there p c = let (i, sign, st, leads) = (one_root s g n e p).0 ((asked.exactly p).0 c) in led_inside U ends (pair_of n i) p leads there

  pub is_true : RefinementIsTrue → SureIsTrue → (v : Verdict) → IsAnswer s terms g f budget n e v → IsTrueAnswer s terms g f n e v
  is_true whole sure v answer U T typing ends there =
      let (known, refined) = exists s terms g f pairs budget loaded (pairs_once terms pairs asked.sorted) in
      let agrees = whole s terms g f U T loaded typing pairs budget (over U ends there) known refined in
      let said = answer pairs known asked refined in
      let meant = sure s terms known T n e agrees in (
        (λ is. meant.0 (subst (λ z. IsSure s terms known n e z) is said)),
        (λ is. meant.1 (subst (λ z. IsSure s terms known n e z) is said)),
      )

  pub undecided : DecidedIsSure → OneVerdict → IsStratified s f → (v : Verdict) → IsAnswer s terms g f budget n e v → v ≡ Unknown → ¬ IsDecided s terms g budget n e
  undecided decided one strat v answer unknown narrow =
      let (known, refined) = exists s terms g f pairs budget loaded (pairs_once terms pairs asked.sorted) in
      let said : IsSure s terms known n e Unknown = subst (λ z. IsSure s terms known n e z) unknown (answer pairs known asked refined) in
      elim (decided s terms g f pairs budget known loaded strat (asked_closed s terms g n e pairs asked) refined n e
      (λ i sign st. (asked.exactly (pair_of n i)).1 ((one_root s g n e (pair_of n i)).1 (i, sign, st, here))) narrow) [
        | inl positive ↦ (let d : Yes ≡ Unknown = one s terms known n e Yes Unknown positive said in absurd (cc))
        | inr negative ↦ (let d : No ≡ Unknown = one s terms known n e No Unknown negative said in absurd (cc))
      ]

-- ---- what the session keeps true

module _ (s : Schema) (terms : List Term) (g : List Triple) (f : List ℕ) (budget : ℕ) (n : TermId) (e : ExprId) (fresh : List Pair) (old new : Entries)
    (are : AreFresh s terms g (pairs_of old) n e fresh) (kept : AreKeptFor s terms g f budget fresh old new) where
  -- all that is reached is kept
  reached_kept : (q : Pair) → Reaches s g n e q → Contains (pairs_of new) q
  reached_kept q reaches = (kept.pairs_are q).1 (kept_or_fresh s terms g n e old fresh are q reaches)

  pub keeps : Keeps s g n e (pairs_of old) (pairs_of new)
  keeps q = (
    (λ c. elim ((kept.pairs_are q).0 c) [ inl o ↦ inl o | inr f ↦ inr ((are.exactly q).0 f).0 ]),
    (λ c. elim c [ inl o ↦ (kept.pairs_are q).1 (inl o) | inr r ↦ reached_kept q r ]),
  )

  -- all that a question asks for is kept
  kept_asked : (pairs : List Pair) → AreAsked s terms g (root_of n e) pairs → AreKeptFor s terms g f budget pairs old new
  kept_asked pairs asked = record {
    begins = kept.begins;
    pairs_are = λ q. (
      (λ c. elim ((keeps q).0 c) [ inl o ↦ inl o | inr r ↦ inr ((asked.exactly q).1 ((one_root s g n e q).1 r)) ]),
      (λ c. (keeps q).1 (elim c [ inl o ↦ inl o | inr a ↦ inr ((one_root s g n e q).0 ((asked.exactly q).0 a)) ])),
    );
    verdicts = kept.verdicts;
  }

  module _ (distinct : AreDistinct (pairs_of new)) where
    -- it cannot be that there is no list of what is asked for
    some_asked : ¬ (¬ ((pairs : List Pair) × AreAsked s terms g (root_of n e) pairs))
    some_asked = not_not_asked s terms g (root_of n e) (pairs_of new) distinct (λ q asked. reached_kept q ((one_root s g n e q).0 asked))

    module _ (one : OneVerdict) (some : SomeVerdict) (exists : RefinementExists) (loaded : IsLoaded s) (v : Verdict) (said : IsSure s terms (known_by_kept new) n e v) where
      pub answered : IsAnswer s terms g f budget n e v
      answered others known asked refined = is_answer s terms g f budget n e others old new asked (kept_asked others asked) one some v said others known asked refined

      pub no_other : (w : Verdict) → IsAnswer s terms g f budget n e w → w ≡ v
      no_other w answer = by (same_verdict w v) refl
        where
          by : (b : Bool) → same_verdict w v ≡ b → w ≡ v
          by true is = verdict_is w v is
          by false is = absurd (some_asked (λ (pairs, asked).
              (let same : w ≡ v = only_answer s terms g f budget n e pairs old new asked (kept_asked pairs asked) one some exists loaded v said w answer in
              true≢false (sym (verdict_same v) ∙ ap (λ z. same_verdict z v) (sym same) ∙ is))))

      pub true_answer : SatIsDecided → RefinementIsTrue → SureIsTrue → IsTrueAnswer s terms g f n e v
      true_answer decided whole sure U T typing ends there = (
        (λ is. by (decided s terms T n e) is),
        (λ is sat. some_asked (λ (pairs, asked). (is_true s terms g f budget n e pairs asked exists loaded whole sure v answered U T typing ends there).1 is sat)),
      )
        where
          by : Sat s terms T n e ⊎ (¬ Sat s terms T n e) → v ≡ Yes → Sat s terms T n e
          by (inl sat) is = sat
          by (inr none) is = absurd (some_asked (λ (pairs, asked). none ((is_true s terms g f budget n e pairs asked exists loaded whole sure v answered U T typing ends there).0 is)))

      pub only_wide : DecidedIsSure → WidthIsOne → IsStratified s f → IsUnknownOnlyWide s terms g budget n e v
      only_wide decided widths strat unknown =
          reaches_wide s loaded g (pairs_of new) n e reached_kept widths terms budget
          (λ narrow. some_asked (λ (pairs, asked). undecided s terms g f budget n e pairs asked exists loaded decided one strat v answered unknown narrow))

module _ (s : Schema) (terms : List Term) (g : List Triple) (loaded : IsLoaded s) (ends : All (IsOfTable terms) g) where
  end_of : (t : Triple) (inverse : Bool) → Contains g t → (other_end inverse t).0 < length terms
  end_of t true c = (All-contains (IsOfTable terms) g t ends c).subject
  end_of t false c = (All-contains (IsOfTable terms) g t ends c).object

  led_of : (p q : Pair) → Leads s g p q → IsOfBoth s terms p → IsOfBoth s terms q
  led_of p q here h = h
  led_of p q (step u need rest) h = led_of u q rest (record {
    node = subst (λ m. m.0 < length terms) (sym need.end) (end_of need.triple need.occ.inverse need.held);
    shape = value_there s loaded u.shape need.occ.value need.sign need.stands;
  })

  reached_of : (n : TermId) (e : ExprId) → n.0 < length terms → (q : Pair) → Reaches s g n e q → IsOfBoth s terms q
  reached_of n e lt q (i, sign, st, leads) = led_of (pair_of n i) q leads (record { node = lt; shape = stands_there s loaded i e sign st })

pub sound_asked : (s : Schema) (terms : List Term) (g : Contents) (f : List ℕ) (budget : ℕ) (n : TermId) (e : ExprId) (fresh : List Pair) (old new : Entries) →
    IsLoaded s → All (IsOfTable terms) g.triples →
    n.0 < length terms → AreFresh s terms g.triples (pairs_of old) n e fresh → AreSound s terms g f budget old → AreKeptFor s terms g.triples f budget fresh old new → AreSound s terms g f budget new
sound_asked s terms g f budget n e fresh old new loaded ends lt are sound kept = record {
  of_both = λ p c. elim ((kept.pairs_are p).0 c) [
    | inl o ↦ sound.of_both p o
    | inr a ↦ reached_of s terms g.triples loaded ends n e lt p ((are.exactly p).0 a).0
  ];
  closed = λ p q c need. (kept.pairs_are q).1 (elim ((kept.pairs_are p).0 c) [
    | inl o ↦ inl (sound.closed p q o need)
    | inr a ↦ elim (fresh_whole s terms g.triples n e old fresh are p q a need) [ inl more ↦ inr more | inr k ↦ inl k ]
  ]);
  verdicts = kept.verdicts;
}

-- ---- what is taken back

pub taken_back : (old new : Entries) (k : ℕ) → Begins old new → k ≡ length old → take k new ≡ old
taken_back old new k (more, is) count = ap (λ z. take z new) count ∙ ap (take (length old)) is ∙ front old more
  where
    front : (xs ys : Entries) → take (length xs) (xs ++ ys) ≡ xs
    front [] ys = zero_taken ys
      where
        zero_taken : (zs : Entries) → take 0 zs ≡ []
        zero_taken [] = refl
        zero_taken (z ∷ zs) = refl
    front (x ∷ xs) ys = ap (λ zs. x ∷ zs) (front xs ys)

-- ---- where verdicts on all are kept

none_there : (xs : List Pair) → ((q : Pair) → ¬ Contains xs q) → xs ≡ []
none_there [] none = refl
none_there (x ∷ xs) none = absurd (none x (is_first x xs))

-- then no step is taken
pub silent : (s : Schema) (terms : List Term) (g : List Triple) (budget : ℕ) (law : WidthIsOne) (n : TermId) (e : ExprId) (es : Entries) (fresh : List Pair) (old new : ℕ) →
    AreFresh s terms g (pairs_of es) n e fresh → ((q : Pair) → Reaches s g n e q → Contains (pairs_of es) q) →
    ((width count : Pair → ℕ) → AreWidths s terms g width → CountNeeds s g fresh count → new ≤ old + most_of s terms g budget width count fresh) → new ≤ old
silent s terms g budget law n e es fresh old new are all bound =
    let none : fresh ≡ [] = none_there fresh (λ q c. ((are.exactly q).0 c).1 (all q ((are.exactly q).0 c).0)) in
    let width : Pair → ℕ = λ p. (law s terms g p).0.0 in
    let le = bound width (λ p. 0) (λ p. (law s terms g p).0.1) (λ p c. absurd (not_in_none p (subst (λ xs. Contains xs p) none c))) in
    let free : most_of s terms g budget width (λ p. 0) fresh ≡ 0 = ap (most_of s terms g budget width (λ p. 0)) none in
    omega (arith, le, free)

-- ---- by whichever strata

know_same : (a b : Known) → KnowSame a b → (p : Pair) (v : Verdict) → PairIs a p v ↔ PairIs b p v
know_same a b same p = by_members a b p (same.0.0 p, same.0.1 p) (same.1.0 p, same.1.1 p)

pub by_all : (s : Schema) (terms : List Term) (g : List Triple) (f : List ℕ) (budget : ℕ) (n : TermId) (e : ExprId) → RefinementExists →
    RefinementIsIndependent → SureFollowsAnswers → IsLoaded s → IsStratified s f →
    (v : Verdict) → IsAnswer s terms g f budget n e v → IsAnswerByAll s terms g budget n e v
by_all s terms g f budget n e exists law follows loaded strat v answer h strat_too others known asked refined =
    let (first, refined_first) = exists s terms g f others budget loaded (pairs_once terms others asked.sorted) in
    (follows s terms first known loaded (know_same first known (law s terms g f h budget others first known strat strat_too refined_first refined)) n e v).0
    (answer others first asked refined_first)

-- ---- what a question costs, by the pairs on which no verdict was kept

pub bound_fresh : (s : Schema) (terms : List Term) (g : List Triple) (budget : ℕ) (n : TermId) (e : ExprId) (es : Entries) (own : List Pair) (old new : ℕ) → AreFresh s terms g (pairs_of es) n e own →
    ((width count : Pair → ℕ) → AreWidths s terms g width → CountNeeds s g own count → new ≤ old + most_of s terms g budget width count own) →
    (fresh : List Pair) (width count : Pair → ℕ) → AreFresh s terms g (pairs_of es) n e fresh → AreWidths s terms g width → CountNeeds s g fresh count →
    new ≤ old + most_of s terms g budget width count fresh
bound_fresh s terms g budget n e es own old new are bound fresh width count too widths needs =
    subst (λ xs. CountNeeds s g xs count → new ≤ old + most_of s terms g budget width count xs) (fresh_one s terms g n e es own are fresh too) (λ m. bound width count widths m) needs

-- ---- what is kept of one pair

pub peeked : (s : Schema) (terms : List Term) (g : List Triple) (f : List ℕ) (budget : ℕ) (es : Entries) (q : Pair) → HaveVerdicts s terms g f budget es → (o : Option Verdict) → o ≡ kept_on es q →
    IfSome o (IsVerdict s terms g f budget q)
peeked s terms g f budget es q verdicts None e = tt
peeked s terms g f budget es q verdicts (Some v) e = verdicts q v (sym e)

pub peeked_by_all : (s : Schema) (terms : List Term) (g : List Triple) (f : List ℕ) (budget : ℕ) (es : Entries) (q : Pair) →
    HaveVerdicts s terms g f budget es → VerdictIsIndependent → IsLoaded s → IsStratified s f →
    (o : Option Verdict) → o ≡ kept_on es q → IfSome o (IsVerdictByAll s terms g budget q)
peeked_by_all s terms g f budget es q verdicts law loaded strat None e = tt
peeked_by_all s terms g f budget es q verdicts law loaded strat (Some v) e = λ h strat_too. law s terms g f h budget loaded strat strat_too q v (verdicts q v (sym e))

pub peeked_none : (es : Entries) (q : Pair) (o : Option Verdict) → o ≡ kept_on es q → IsNone o ↔ (¬ Contains (pairs_of es) q)
peeked_none es q None e = ((λ h. no_key es q (sym e)), (λ none. refl))
peeked_none es q (Some v) e = ((λ h. absurd (true≢false h)), (λ none. absurd (none (kept_key es q v (sym e)))))
