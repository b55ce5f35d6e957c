-- A refinement of any distinct pairs exists.
use Rattle.std.proofs.Common.{◌≡◌, ℕ, zero, suc, ◌<◌, ◌≤◌, ◌⊎◌, inl, inr, List, [], ◌∷◌, ◌++◌, refl, arith, sym, subst, ap, ◌∙◌, length, remove}
use Rattle.std.proofs.lemmas.Bool.{cases_eq}
use Rattle.std.proofs.lemmas.List.Edits.{length-remove}
use Rattle.std.proofs.lemmas.List.Elements.{Contains-append_cases, Contains-append_left, Contains-append_right}
use Rattle.std.proofs.lemmas.List.Sorted.{Contains-permutation, IsPermutation-remove, IsPermutation-sym}
use Rattle.std.proofs.lemmas.Option.{get_or_from_slice_get, slice_get-get_or, slice_get_within}
use Rattle.std.specs.List.Sorted.{IsPermutation}
use Rattle.std.specs.Prelude.{Contains, Option, Some, None, slice_get, unwrap_or}
use Rattle.node_constraint.specs.Laws.{NodesAreDecided}
use Rattle.rdf_terms.specs.declared.terms.Term.{Term}
use Rattle.rdf_terms.specs.declared.terms.TermId.{TermId}
use Rattle.rdf_terms.specs.declared.terms.Triple.{Triple}
use Rattle.lists.specs.Distinct.{AreDistinct}
use Rattle.schema_tree.specs.declared.schema.Expr.{Expr}
use Rattle.schema_tree.specs.declared.schema.Expr.TheVariants as Exprs
use Rattle.schema_tree.specs.declared.schema.ExprId.{ExprId}
use Rattle.schema_tree.specs.declared.schema.Pair.{Pair}
use Rattle.schema_tree.specs.declared.schema.Schema.{Schema}
use Rattle.schema_tree.specs.declared.schema.Shape.{Shape}
use Rattle.schema_tree.specs.declared.verdicts.Lean.TheVariants.{Possible, Impossible}
use Rattle.schema_tree.specs.declared.verdicts.Verdict.{Verdict}
use Rattle.schema_tree.specs.declared.verdicts.Verdict.TheVariants.{Yes, No}
use Rattle.schema_tree.specs.Edges.{level}
use Rattle.schema_tree.specs.Entries.{entry, pair_of, shape_at}
use Rattle.schema_tree.specs.Loaded.{IsLoaded}
use Rattle.schema_tree.specs.Places.{CanMatch, MayFail, MayHold, PairCanMatch}
use Rattle.schema_tree.specs.Removal.{AreRefinedBelow, CanGo, GoesNext, IsConfirmed, IsNarrow}
use Rattle.schema_tree.specs.Sure.{Known, PairIs, SureEntry, SureWithin}
use Rattle.schema_tree.specs.Typings.{IsPartOf}
use Rattle.schema_tree.proofs.Turns.{InTurn, in_turn_more}
use Rattle.schema_tree.proofs.Widths.{decide_within}
use Rattle.schema_tree.proofs.Decide.{same_pairs}
use Rattle.lists.proofs.Decided.{Decided, decide_member, decide_not}
use Rattle.schema_tree.proofs.DecideMatch.{decide_match}
use Rattle.schema_tree.proofs.Leans.{places_weaker}
use Rattle.lists.proofs.Quantifiers.{all_weaker, some_weaker}
use Rattle.lists.proofs.Members.{in_rest, is_first, is_later, not_in_none}

decide_three : {P Q R : Type 0} → Decided P → Decided Q → Decided R → Decided (P × Q × R)
decide_three (inl p) (inl q) (inl r) = inl (p, q, r)
decide_three (inr h) q r = inr (λ t. h t.0)
decide_three (inl p) (inr h) r = inr (λ t. h t.1)
decide_three (inl p) (inl q) (inr h) = inr (λ t. h t.2)

decide_equal : (a b : ℕ) → Decided (a ≡ b)
decide_equal a b = elim (cases_eq a b) [ inl e ↦ inl e | inr ne ↦ inr ne ]

-- the first item with P
record First {X : Type 0} (P : X → Type 0) (xs : List X) : Type 0 where
  pub at : ℕ
  pub item : X
  pub got : slice_get xs at ≡ Some item
  pub holds : P item
  pub before : (j : ℕ) (y : X) → slice_get xs j ≡ Some y → j < at → ¬ P y

first_of_rest : {X : Type 0} (P : X → Type 0) (x : X) (xs : List X) → ¬ P x → First P xs → First P (x ∷ xs)
first_of_rest P x xs fails r = record { at = suc r.at; item = r.item; got = r.got; holds = r.holds; before = before }
  where
    before : (j : ℕ) (y : _) → slice_get (x ∷ xs) j ≡ Some y → j < suc r.at → ¬ P y
    before zero y is lt h = fails (subst P (sym (ap (λ o. unwrap_or o x) is)) h)
    before (suc j) y is lt h = r.before j y is (omega arith) h

first_that : {X : Type 0} (P : X → Type 0) → ((x : X) → Decided (P x)) → (xs : List X) → First P xs ⊎ ((y : X) → Contains xs y → ¬ P y)
first_that P d [] = inr (λ y c. absurd (not_in_none y c))
first_that P d (x ∷ xs) = go (d x) (first_that P d xs)
  where
    go : Decided (P x) → First P xs ⊎ ((y : _) → Contains xs y → ¬ P y) → First P (x ∷ xs) ⊎ ((y : _) → Contains (x ∷ xs) y → ¬ P y)
    go (inl h) rest = inl (record { at = 0; item = x; got = refl; holds = h; before = λ j y is lt. absurd (omega arith) })
    go (inr fails) (inl r) = inl (first_of_rest P x xs fails r)
    go (inr fails) (inr none) = inr (λ y c. elim (in_rest x xs y c) [
      | inl e ↦ subst (λ z. ¬ P z) e fails
      | inr later ↦ none y later
    ])

-- the items with P
pub record Sifted {X : Type 0} (P : X → Type 0) (xs : List X) : Type 0 where
  pub items : List X
  pub only : (x : X) → Contains items x → Contains xs x × P x
  pub whole : (x : X) → Contains xs x → P x → Contains items x

-- with one more item that has P
pub sift_in : {X : Type 0} (P : X → Type 0) (x : X) (xs : List X) → P x → Sifted P xs → Sifted P (x ∷ xs)
sift_in P x xs h r = record {
  items = x ∷ r.items;
  only = λ y c. elim (in_rest x r.items y c) [
    | inl e ↦ (subst (λ z. Contains (x ∷ xs) z) e (is_first x xs), subst P e h)
    | inr later ↦ (let t = r.only y later in (is_later x xs y t.0, t.1))
  ];
  whole = λ y c holds. elim (in_rest x xs y c) [
    | inl e ↦ subst (λ z. Contains (x ∷ r.items) z) e (is_first x r.items)
    | inr later ↦ is_later x r.items y (r.whole y later holds)
  ];
}

-- with one more that has it not
pub sift_out : {X : Type 0} (P : X → Type 0) (x : X) (xs : List X) → ¬ P x → Sifted P xs → Sifted P (x ∷ xs)
sift_out P x xs fails r = record {
  items = r.items;
  only = λ y c. (let t = r.only y c in (is_later x xs y t.0, t.1));
  whole = λ y c holds. elim (in_rest x xs y c) [
    | inl e ↦ absurd (subst (λ z. ¬ P z) e fails holds)
    | inr later ↦ r.whole y later holds
  ];
}

-- of no items none has it
pub sift_none : {X : Type 0} (P : X → Type 0) → Sifted P []
sift_none P = record { items = []; only = λ x c. absurd (not_in_none x c); whole = λ x c h. c }

pub sift : {X : Type 0} (P : X → Type 0) → ((x : X) → Decided (P x)) → (xs : List X) → Sifted P xs
sift P d [] = sift_none P
sift P d (x ∷ xs) = elim (d x) [
  | inl h ↦ sift_in P x xs h (sift P d xs)
  | inr fails ↦ sift_out P x xs fails (sift P d xs)
]

-- a list without the item at a place
without : {X : Type 0} (xs : List X) (i : ℕ) (x : X) → slice_get xs i ≡ Some x → IsPermutation xs (x ∷ remove xs i)
without xs i x is = IsPermutation-remove xs i x (slice_get_within xs i x is) (sym (get_or_from_slice_get xs i x x is))

-- what is Yes and No under a view is so under one that knows more
module _ (s : Schema) (terms : List Term) (a b : Known) (up : (p : Pair) → PairIs a p Yes → PairIs b p Yes) (down : (p : Pair) → PairIs a p No → PairIs b p No) where
  entry_more :
      (n : TermId) (sure sure' : ExprId → Verdict → Type 0) → ((d : ExprId) → sure d Yes → sure' d Yes) →
      ((d : ExprId) → sure d No → sure' d No) → (x : Option Expr) →
      (SureEntry a terms n sure x Yes → SureEntry b terms n sure' x Yes) × (SureEntry a terms n sure x No → SureEntry b terms n sure' x No)
  entry_more n sure sure' y m None = ((λ h. h), λ h. h)
  entry_more n sure sure' y m (Some (Exprs.And es)) =
      (all_weaker (λ d. sure d Yes) (λ d. sure' d Yes) es (λ d c. y d), some_weaker (λ d. sure d No) (λ d. sure' d No) es (λ d c. m d))
  entry_more n sure sure' y m (Some (Exprs.Or es)) =
      (some_weaker (λ d. sure d Yes) (λ d. sure' d Yes) es (λ d c. y d), all_weaker (λ d. sure d No) (λ d. sure' d No) es (λ d c. m d))
  entry_more n sure sure' y m (Some (Exprs.Not d)) = (m d, y d)
  entry_more n sure sure' y m (Some (Exprs.Node c)) = ((λ h. h), λ h. h)
  entry_more n sure sure' y m (Some (Exprs.Shape i)) = (up (pair_of n i), down (pair_of n i))

  sure_more :
      (k : ℕ) (n : TermId) (e : ExprId) →
      (SureWithin k s terms a n e Yes → SureWithin k s terms b n e Yes) × (SureWithin k s terms a n e No → SureWithin k s terms b n e No)
  unfolding SureWithin
  sure_more zero n e = ((λ h. h), λ h. h)
  sure_more (suc k) n e =
      entry_more n (SureWithin k s terms a n) (SureWithin k s terms b n) (λ d. (sure_more k n d).0) (λ d. (sure_more k n d).1) (entry s e)

  hold_more : (n : TermId) (x : Option ExprId) → MayHold s terms a Impossible n x → MayHold s terms b Impossible n x
  hold_more n None h = h
  hold_more n (Some e) h = (sure_more (suc e.0) n e).0 h

  fail_more : (n : TermId) (x : Option ExprId) → MayFail s terms a Impossible n x → MayFail s terms b Impossible n x
  fail_more n None h = h
  fail_more n (Some e) h = (sure_more (suc e.0) n e).1 h

  -- what matches under a view matches under one that knows more
  pub match_more : (g : List Triple) (p : Pair) → PairCanMatch s terms g a Impossible p → PairCanMatch s terms g b Impossible p
  match_more g p = go (shape_at s p.shape)
    where
      go : (x : Option Shape) → CanMatch s terms g a Impossible p.node x → CanMatch s terms g b Impossible p.node x
      go None h = h
      go (Some sh) h =
          places_weaker _ _ _ _ sh p.node (λ t. Unit {0}) (λ t o base of fit. hold_more _ o.value) (λ t o base extra of fit. fail_more _ o.value) g _ (λ t c. tt) h

module _ (s : Schema) (terms : List Term) (nodes : NodesAreDecided) (g : List Triple) (loaded : IsLoaded s) (f : List ℕ) (pairs : List Pair) (budget : ℕ)
    (distinct : AreDistinct pairs) where
  module _ (k : ℕ) (lower : Known) (low : (p : Pair) → Contains lower.no p → level f p.shape < k) where
    decide_narrow : (p : Pair) → Decided (IsNarrow s terms g f pairs budget k p)
    decide_narrow p = decide_three (decide_member same_pairs pairs p) (decide_equal (level f p.shape) k) (decide_within s terms nodes g budget p)

    abbrev Goes : List Pair → Pair → Type 0
    Goes gone p = CanGo s terms g f pairs budget lower k gone p

    decide_goes : (gone : List Pair) (p : Pair) → Decided (Goes gone p)
    decide_goes gone p =
        decide_three (decide_narrow p) (decide_not (decide_member same_pairs gone p))
        (decide_not (decide_match s terms nodes g loaded (record { yes = lower.yes; no = lower.no ++ gone }) Possible p))

    -- some pair goes next, or none can go
    next_of : (gone : List Pair) → ((p : Pair) × GoesNext s terms g f pairs budget lower k gone p) ⊎ ((p : Pair) → ¬ Goes gone p)
    next_of gone = elim (first_that (Goes gone) (decide_goes gone) pairs) [
      | inl r ↦ inl (
        r.item,
        (
          r.holds,
          (λ q can (i, j, at_i, at_j, lt).
              (let e : j ≡ r.at = distinct j r.at r.item at_j r.got in r.before i q at_i (omega arith) can)),
        ),
      )
      | inr none ↦ inr (λ p can. none p can.0.0 can)
    ]

    abbrev Next : List Pair → Pair → Type 0
    Next gone p = GoesNext s terms g f pairs budget lower k gone p

    record Gone : Type 0 where
      pub gone : List Pair
      pub in_turn : InTurn Next gone
      pub finished : (p : Pair) → ¬ Goes gone p

    -- pairs go as long as one can; left has those that did not go
    go_on :
        (fuel : ℕ) (left gone : List Pair) → length left ≤ fuel → ((p : Pair) → Contains pairs p → ¬ Contains gone p → Contains left p) →
        InTurn Next gone → Gone
    go_on zero left gone short rest turns =
        record { gone = gone; in_turn = turns; finished = λ p can. (let held = rest p can.0.0 can.1 in let i : held.0 < length left = held.1 in absurd (omega arith)) }
    go_on (suc fuel) left gone short rest turns = step (next_of gone) (λ left' gone'. go_on fuel left' gone')
      where
        further :
            (p : Pair) → GoesNext s terms g f pairs budget lower k gone p → (i : ℕ) → slice_get left i ≡ Some p →
            (q : Pair) → Contains pairs q → ¬ Contains (gone ++ p ∷ []) q → Contains (remove left i) q
        further p next i is q held new =
            elim (in_rest p (remove left i) q (Contains-permutation _ _ q (without left i p is) (rest q held (λ c. new (Contains-append_left gone (p ∷ []) q c))))) [
              | inl e ↦ absurd (new (Contains-append_right gone (p ∷ []) q (subst (λ u. Contains (p ∷ []) u) e (is_first p []))))
              | inr later ↦ later
            ]

        step :
            ((p : Pair) × GoesNext s terms g f pairs budget lower k gone p) ⊎ ((p : Pair) → ¬ Goes gone p) →
            ((left' gone' : List Pair) → length left' ≤ fuel → ((p : Pair) → Contains pairs p → ¬ Contains gone' p → Contains left' p) → InTurn Next gone' → Gone) → Gone
        step (inr none) deeper = record { gone = gone; in_turn = turns; finished = none }
        step (inl (p, next)) deeper =
            let (i, within, at) = rest p next.0.0.0 next.0.1 in
            let is : slice_get left i ≡ Some p = slice_get-get_or left i p within ∙ ap (λ u. Some u) at in
            deeper (remove left i) (gone ++ p ∷ []) (omega (arith, length-remove left i within)) (further p next i is) (in_turn_more Next gone p turns next)

    all_gone : Gone
    all_gone = go_on (length pairs) pairs [] (omega arith) (λ p c new. c) (λ r p is. absurd (let w = slice_get_within [] r p is in omega arith))

    module _ (gone : List Pair) where
      abbrev view : List Pair → Known
      view kept = record { yes = lower.yes ++ kept; no = lower.no ++ gone }

      -- a narrow pair that did not go
      abbrev Stays : Pair → Type 0
      Stays p = IsNarrow s terms g f pairs budget k p × (¬ Contains gone p)

      decide_stays : (p : Pair) → Decided (Stays p)
      decide_stays p = both (decide_narrow p) (decide_member same_pairs gone p)
        where
          both : Decided (IsNarrow s terms g f pairs budget k p) → Decided (Contains gone p) → Decided (Stays p)
          both (inl narrow) (inr new) = inl (narrow, new)
          both (inl narrow) (inl held) = inr (λ t. t.1 held)
          both (inr wide) held = inr (λ t. wide t.0)

      -- a match holds on where more pairs are confirmed
      still :
          (kept more : List Pair) → IsPartOf kept more → ((p : Pair) → Contains more p → Stays p) →
          (p : Pair) → PairCanMatch s terms g (view kept) Impossible p → PairCanMatch s terms g (view more) Impossible p
      still kept more part stays p = match_more s terms (view kept) (view more) up down g p
        where
          up : (q : Pair) → PairIs (view kept) q Yes → PairIs (view more) q Yes
          up q is = elim (Contains-append_cases lower.yes kept q is) [
            | inl l ↦ Contains-append_left lower.yes more q l
            | inr m ↦ Contains-append_right lower.yes more q (part q m)
          ]

          out : (q : Pair) → Contains more q → Contains (lower.no ++ gone) q → ⊥
          out q m against = elim (Contains-append_cases lower.no gone q against) [
            | inl l ↦ (let lt = low q l in let at = (stays q m).0.1 in absurd (omega arith))
            | inr held ↦ (stays q m).1 held
          ]

          down : (q : Pair) → PairIs (view kept) q No → PairIs (view more) q No
          down q (new, against) = (
            (λ for_. elim (Contains-append_cases lower.yes more q for_) [
              | inl l ↦ new (Contains-append_left lower.yes kept q l)
              | inr m ↦ out q m against
            ]),
            against,
          )

      record Kept : Type 0 where
        pub kept : List Pair
        pub confirmed : IsConfirmed s terms g f pairs budget lower k gone kept
        pub greatest : (more : List Pair) → IsConfirmed s terms g f pairs budget lower k gone more → IsPartOf more kept

      -- pairs that do not match with the others are left out, one by one
      prune :
          (fuel : ℕ) (cand : List Pair) → length cand ≤ fuel → ((p : Pair) → Contains cand p → Stays p) →
          ((more : List Pair) → IsConfirmed s terms g f pairs budget lower k gone more → IsPartOf more cand) → Kept
      prune zero cand short stays holds = record {
        kept = cand;
        confirmed = λ p held. (let i : held.0 < length cand = held.1 in absurd (omega arith));
        greatest = holds;
      }
      prune (suc fuel) cand short stays holds =
          step (first_that (λ p. ¬ PairCanMatch s terms g (view cand) Impossible p) (λ p. decide_not (decide_match s terms nodes g loaded (view cand) Impossible p)) cand)
          (λ cand'. prune fuel cand')
        where
          sure :
              (p : Pair) → Contains cand p → ¬ (¬ PairCanMatch s terms g (view cand) Impossible p) →
              PairCanMatch s terms g (view cand) Impossible p
          sure p held twice = elim (decide_match s terms nodes g loaded (view cand) Impossible p) [
            | inl h ↦ h
            | inr fails ↦ absurd (twice fails)
          ]

          fewer :
              (r : First (λ p. ¬ PairCanMatch s terms g (view cand) Impossible p) cand) (more : List Pair) → IsConfirmed s terms g f pairs budget lower k gone more →
              IsPartOf more (remove cand r.at)
          fewer r more all q c = elim (in_rest r.item (remove cand r.at) q (Contains-permutation _ _ q (without cand r.at r.item r.got) (holds more all q c))) [
            | inl e ↦ absurd (r.holds (still more cand (holds more all) stays r.item (subst (λ u. PairCanMatch s terms g (view more) Impossible u) (sym e) (all q c).2)))
            | inr later ↦ later
          ]

          step :
              First (λ p. ¬ PairCanMatch s terms g (view cand) Impossible p) cand ⊎ ((p : Pair) → Contains cand p → ¬ (¬ PairCanMatch s terms g (view cand) Impossible p)) →
              ((cand' : List Pair) → length cand' ≤ fuel → ((p : Pair) → Contains cand' p → Stays p) →
              ((more : List Pair) → IsConfirmed s terms g f pairs budget lower k gone more → IsPartOf more cand') → Kept) → Kept
          step (inr all) deeper = record { kept = cand; confirmed = λ p c. (let t = stays p c in (t.0, t.1, sure p c (all p c))); greatest = holds }
          step (inl r) deeper =
              deeper (remove cand r.at) (omega (arith, length-remove cand r.at (slice_get_within cand r.at r.item r.got)))
              (λ p c. stays p (Contains-permutation _ _ p (IsPermutation-sym _ _ (without cand r.at r.item r.got)) (is_later r.item (remove cand r.at) p c)))
              (fewer r)

      all_kept : Kept
      all_kept =
          let c = sift Stays decide_stays pairs in
          prune (length c.items) c.items (omega arith) (λ p held. (c.only p held).1) (λ more all p held. (let t = all p held in c.whole p t.0.0 (t.0, t.1)))

  -- the verdicts on the strata below k
  record Refined (k : ℕ) : Type 0 where
    pub known : Known
    pub are : AreRefinedBelow s terms g f pairs budget k known
    pub low : (p : Pair) → Contains known.no p → level f p.shape < k

  one_stratum : (k : ℕ) → Refined k → Refined (suc k)
  one_stratum k r =
      let went = all_gone k r.known r.low in
      let stay = all_kept k r.known r.low went.gone in
      record {
        known = record { yes = r.known.yes ++ stay.kept; no = r.known.no ++ went.gone };
        are = (
          r.known,
          went.gone,
          stay.kept,
          r.are,
          record { in_turn = went.in_turn; finished = went.finished; confirmed = stay.confirmed; greatest = stay.greatest },
          refl,
          refl,
        );
        low = λ p c. elim (Contains-append_cases r.known.no went.gone p c) [
          | inl l ↦ (let lt = r.low p l in omega arith)
          | inr m ↦ (let (i, within, at) = m in
              let turn = went.in_turn i p (slice_get-get_or went.gone i p within ∙ ap (λ u. Some u) at) in
              let e = turn.0.0.1 in omega arith)
        ];
      }

  refined_below : (k : ℕ) → Refined k
  refined_below zero = record { known = record { yes = []; no = [] }; are = (refl, refl); low = λ p c. absurd (not_in_none p c) }
  refined_below (suc k) = one_stratum k (refined_below k)

  pub refinement_exists : (k : ℕ) → (known : Known) × AreRefinedBelow s terms g f pairs budget k known
  refinement_exists k = let r = refined_below k in (r.known, r.are)
