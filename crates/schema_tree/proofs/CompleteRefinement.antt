-- Refinement leaves a pair or an answer Unknown only where it reaches a pair whose Width is above the budget; every other
-- answer is that of the complete typing.
use Rattle.std.proofs.Common.{◌≡◌, ℕ, zero, suc, ◌<◌, ◌≤◌, ◌⊎◌, inl, inr, List, [], ◌∷◌, ◌++◌, refl, arith, sym, subst, Bool, true, false}
use Rattle.std.proofs.lemmas.Bool.{cases_eq, cases_lt}
use Rattle.std.proofs.lemmas.List.Elements.{Contains-append_cases, Contains-append_left, Contains-append_right}
use Rattle.std.specs.Prelude.{◌↔◌, Contains, Option, Some, None}
use Rattle.node_constraint.specs.Laws.{NodesAreDecided}
use Rattle.rdf_terms.specs.declared.terms.Term.{Term}
use Rattle.rdf_terms.specs.declared.terms.TermId.{TermId}
use Rattle.rdf_terms.specs.declared.terms.Triple.{Triple}
use Rattle.schema_tree.specs.declared.schema.Expr.{Expr}
use Rattle.schema_tree.specs.declared.schema.Expr.TheVariants as Exprs
use Rattle.schema_tree.specs.declared.schema.ExprId.{ExprId}
use Rattle.schema_tree.specs.declared.schema.Occurrence.{Occurrence}
use Rattle.schema_tree.specs.declared.schema.Pair.{Pair}
use Rattle.schema_tree.specs.declared.schema.Schema.{Schema}
use Rattle.schema_tree.specs.declared.schema.Shape.{Shape}
use Rattle.schema_tree.specs.declared.schema.ShapeId.{ShapeId}
use Rattle.schema_tree.specs.declared.verdicts.Lean.TheVariants.{Possible, Impossible}
use Rattle.schema_tree.specs.declared.verdicts.Verdict.{Verdict}
use Rattle.schema_tree.specs.declared.verdicts.Verdict.TheVariants.{Yes, No}
use Rattle.schema_tree.specs.Edges.{Edge, IsStratified, StandsIn, StandsInValue, in_and, in_not, in_or, itself, level}
use Rattle.schema_tree.specs.Entries.{entry, pair_of, shape_at}
use Rattle.schema_tree.specs.Loaded.{IsLoaded}
use Rattle.schema_tree.specs.Matches.{fits, other_end}
use Rattle.schema_tree.specs.Needs.{HoldNeeds, HoldRoots, IsDecided, LeadsToNarrow, Needs, here, step}
use Rattle.schema_tree.specs.Places.{CanMatch, MayFail, MayHold, PairCanMatch}
use Rattle.schema_tree.proofs.Needed.{in_graph, under_extra}
use Rattle.schema_tree.specs.Relevant.{is_forward}
use Rattle.schema_tree.specs.Removal.{AreRefinedBelow, IsConfirmed, IsRefined, IsRefinedAt}
use Rattle.schema_tree.specs.Satisfies.{Sat}
use Rattle.schema_tree.specs.Sure.{IsSure, Known, PairIs, SureEntry, SureWithin}
use Rattle.schema_tree.specs.Typings.{IsTheTyping, top_of}
use Rattle.schema_tree.specs.Width.{IsWithinWidth}
use Rattle.schema_tree.proofs.Below.{level_top}
use Rattle.schema_tree.proofs.Decide.{decide_node, decide_sat, same_pairs}
use Rattle.lists.proofs.Decided.{Decided, decide_member}
use Rattle.schema_tree.proofs.DecideMatch.{decide_match}
use Rattle.schema_tree.proofs.ExactViews.{exact_match, exact_within}
use Rattle.schema_tree.proofs.Leans.{places_weaker, sure_sound}
use Rattle.schema_tree.proofs.Truth.{all_true}
use Rattle.lists.proofs.Quantifiers.{all_weaker, some_weaker}
use Rattle.schema_tree.proofs.RefinementExists.{Sifted, sift, sift_in, sift_none, sift_out}

-- a view a that knows more than b, and no more No pairs: what is sure under it is sure under b, where it is of pairs that b knows
module _ (s : Schema) (terms : List Term) (a b : Known) (n : TermId) (no_more : (p : Pair) → PairIs a p No → PairIs b p No) where
  -- b has the Yes of a for the Shape
  abbrev HasYes : ShapeId → Type 0
  HasYes i = PairIs a (pair_of n i) Yes → PairIs b (pair_of n i) Yes

  abbrev Behind : ExprId → Type 0
  Behind e = (i : ShapeId) → StandsIn s i e true → HasYes i

  abbrev Throughout : ExprId → Type 0
  Throughout e = (i : ShapeId) (sign : Bool) → StandsIn s i e sign → HasYes i

  entry_back :
      (sure sure' : ExprId → Verdict → Type 0) →
      ((d : ExprId) → (Behind d → sure d No → sure' d No) × (Throughout d → sure d Yes → sure' d Yes)) →
      (e : ExprId) (x : Option Expr) → entry s e ≡ x →
      (Behind e → SureEntry a terms n sure x No → SureEntry b terms n sure' x No) × (Throughout e → SureEntry a terms n sure x Yes → SureEntry b terms n sure' x Yes)
  entry_back sure sure' m e None is = ((λ h v. v), λ h v. v)
  entry_back sure sure' m e (Some (Exprs.And es)) is = (
    (λ h. some_weaker (λ d. sure d No) (λ d. sure' d No) es (λ d c. (m d).0 (λ i st. h i (in_and es d is c st)))),
    (λ h. all_weaker (λ d. sure d Yes) (λ d. sure' d Yes) es (λ d c. (m d).1 (λ i sign st. h i sign (in_and es d is c st)))),
  )
  entry_back sure sure' m e (Some (Exprs.Or es)) is = (
    (λ h. all_weaker (λ d. sure d No) (λ d. sure' d No) es (λ d c. (m d).0 (λ i st. h i (in_or es d is c st)))),
    (λ h. some_weaker (λ d. sure d Yes) (λ d. sure' d Yes) es (λ d c. (m d).1 (λ i sign st. h i sign (in_or es d is c st)))),
  )
  entry_back sure sure' m e (Some (Exprs.Not d)) is =
      ((λ h. (m d).1 (λ i sign st. h i (in_not d is st))), λ h. (m d).0 (λ i st. h i true (in_not d is st)))
  entry_back sure sure' m e (Some (Exprs.Node c)) is = ((λ h v. v), λ h v. v)
  entry_back sure sure' m e (Some (Exprs.Shape i)) is = ((λ h. no_more (pair_of n i)), λ h. h i false (itself is))

  sure_back :
      (k : ℕ) (e : ExprId) →
      (Behind e → SureWithin k s terms a n e No → SureWithin k s terms b n e No) × (Throughout e → SureWithin k s terms a n e Yes → SureWithin k s terms b n e Yes)
  unfolding SureWithin
  sure_back zero e = ((λ h v. v), λ h v. v)
  sure_back (suc k) e = entry_back (SureWithin k s terms a n) (SureWithin k s terms b n) (sure_back k) e (entry s e) refl

  hold_back : (x : Option ExprId) → ((e : ExprId) → x ≡ Some e → Behind e) → MayHold s terms b Possible n x → MayHold s terms a Possible n x
  hold_back None h m = m
  hold_back (Some e) h m = λ v. m ((sure_back (suc e.0) e).0 (h e refl) v)

  fail_back :
      (x : Option ExprId) → ((e : ExprId) → x ≡ Some e → Throughout e) → MayFail s terms b Possible n x → MayFail s terms a Possible n x
  fail_back None h m = m
  fail_back (Some e) h m = λ v. m ((sure_back (suc e.0) e).1 (h e refl) v)

-- a need is an edge
edge_of : (s : Schema) (g : List Triple) (p q : Pair) → Needs s g p q → Edge s p.shape q.shape
edge_of s g p q need = record { shape = need.shape; is = need.is; occ = need.occ; of = need.of; sign = need.sign; stands = need.stands }

module _ (s : Schema) (terms : List Term) (nodes : NodesAreDecided) (g : List Triple) (loaded : IsLoaded s) (f : List ℕ) (strat : IsStratified s f)
    (pairs : List Pair) (budget : ℕ) where
  -- narrow pairs of which none needs any other
  module _ (C : List Pair) (narrow : (p : Pair) → Contains C p → Contains pairs p × IsWithinWidth s terms g budget p)
      (closed : (p q : Pair) → Contains C p → Needs s g p q → Contains C q) where
    -- each of them up to a stratum is known
    abbrev AreKnownBelow : ℕ → Known → Type 0
    AreKnownBelow k known = (p : Pair) → Contains C p → level f p.shape < k → Contains known.yes p ⊎ Contains known.no p

    module _ (k : ℕ) (lower : Known) (below : AreKnownBelow k lower) (gone kept : List Pair) (r : IsRefinedAt s terms g f pairs budget lower k gone kept) where
      abbrev Stays : Pair → Type 0
      Stays p = (level f p.shape ≡ k) × (¬ Contains gone p)

      decide_stays : (p : Pair) → Decided (Stays p)
      decide_stays p = both (decide_level (cases_eq (level f p.shape) k)) (decide_member same_pairs gone p)
        where
          decide_level : (level f p.shape ≡ k) ⊎ (¬ (level f p.shape ≡ k)) → Decided (level f p.shape ≡ k)
          decide_level d = d

          both : Decided (level f p.shape ≡ k) → Decided (Contains gone p) → Decided (Stays p)
          both (inl at) (inr new) = inl (at, new)
          both (inl at) (inl held) = inr (λ t. t.1 held)
          both (inr other) held = inr (λ t. other t.0)

      sifted : Sifted Stays C
      sifted = sift Stays decide_stays C

      -- those of the stratum that did not go
      abbrev cand : List Pair
      cand = sifted.items

      abbrev before : Known
      before = record { yes = lower.yes; no = lower.no ++ gone }

      abbrev after : Known
      after = record { yes = lower.yes ++ cand; no = lower.no ++ gone }

      no_more : (p : Pair) → PairIs after p No → PairIs before p No
      no_more p (new, held) = ((λ c. new (Contains-append_left lower.yes cand p c)), held)

      -- a pair below the stratum that is Yes was so before
      yes_below : (p : Pair) → level f p.shape < k → PairIs after p Yes → PairIs before p Yes
      yes_below p lt c = elim (Contains-append_cases lower.yes cand p c) [
        | inl l ↦ l
        | inr m ↦ (let at = (sifted.only p m).1.0 in absurd (omega arith))
      ]

      module _ (p : Pair) (of_c : Contains C p) (at : level f p.shape ≡ k) where
        -- what the pair needs is known
        known_need : (q : Pair) → Needs s g p q → (Contains after.yes q → PairIs after q Yes) × (¬ Contains after.yes q → PairIs after q No)
        known_need q need = ((λ c. c), λ new. (new, found new (decide_member same_pairs gone q)))
          where
            le : level f q.shape ≤ level f p.shape
            le = strat.never_rises p.shape q.shape (edge_of s g p q need)

            low : ¬ Contains after.yes q → Contains lower.yes q ⊎ Contains lower.no q → Contains (lower.no ++ gone) q
            low new (inl held) = absurd (new (Contains-append_left lower.yes cand q held))
            low new (inr held) = Contains-append_left lower.no gone q held

            found : ¬ Contains after.yes q → Decided (Contains gone q) → Contains (lower.no ++ gone) q
            found new (inl went) = Contains-append_right lower.no gone q went
            found new (inr still) = elim (cases_lt (level f q.shape) k) [
              | inl lt ↦ low new (below q (closed p q of_c need) lt)
              | inr ge ↦ (let most = le in absurd (new (Contains-append_right lower.yes cand q (sifted.whole q (closed p q of_c need) (omega arith, still)))))
            ]

        module _ (sh : Shape) (is : shape_at s p.shape ≡ Some sh) where
          abbrev edge : (o : Occurrence) → Contains sh.occs o → (e : ExprId) → o.value ≡ Some e → (i : ShapeId) (sign : Bool) → StandsIn s i e sign → Edge s p.shape i
          edge o of e value i sign st =
              record { shape = sh; is = is; occ = o; of = of; sign = sign; stands = subst (λ v. StandsInValue s i v sign) (sym value) st }

          -- behind a ShapeNot only pairs below the stratum are asked for
          hold_on :
              (t : Triple) (o : Occurrence) → Contains g t → Contains sh.occs o → fits o p.node t ≡ true →
              MayHold s terms before Possible (other_end o.inverse t) o.value → MayHold s terms after Possible (other_end o.inverse t) o.value
          hold_on t o held of fit =
              hold_back s terms after before (other_end o.inverse t) no_more o.value
              (λ e value i st. yes_below (pair_of (other_end o.inverse t) i)
              (let lt : level f i < level f p.shape = strat.falls p.shape i (edge o of e value i true st) (inl refl) in omega arith))

          -- and under EXTRA
          fail_on :
              (t : Triple) (o : Occurrence) → Contains g t → Contains sh.extra t.p → Contains sh.occs o → is_forward p.node t o ≡ true →
              MayFail s terms before Possible t.o o.value → MayFail s terms after Possible t.o o.value
          fail_on t o held extra of forward =
              fail_back s terms after before t.o no_more o.value
              (λ e value i sign st. yes_below (pair_of t.o i)
              (let lt : level f i < level f p.shape = strat.falls p.shape i (edge o of e value i sign st) (inr (under_extra sh p.node t o forward extra).0) in omega arith))

        match_on : PairCanMatch s terms g before Possible p → PairCanMatch s terms g after Possible p
        match_on = go (shape_at s p.shape) refl
          where
            go :
                (x : Option Shape) → shape_at s p.shape ≡ x → CanMatch s terms g before Possible p.node x →
                CanMatch s terms g after Possible p.node x
            go None is h = h
            go (Some sh) is h =
                places_weaker _ _ _ _ sh p.node (λ t. Contains g t) (hold_on sh is) (fail_on sh is) g _ (in_graph terms g sh p.node) h

        -- since all that it needs is known, it matches where Unknown is impossible
        matches : ¬ Contains gone p → PairCanMatch s terms g after Impossible p
        matches new = elim (decide_match s terms nodes g loaded before Possible p) [
          | inl h ↦ (exact_match s terms nodes g after after.yes p Impossible loaded known_need).1
              ((exact_match s terms nodes g after after.yes p Possible loaded known_need).0 (match_on h))
          | inr none ↦ absurd (let n = narrow p of_c in r.finished p ((n.0, at, n.1), new, none))
        ]

      all_confirmed : IsConfirmed s terms g f pairs budget lower k gone cand
      all_confirmed p c =
          let t = sifted.only p c in
          let n = narrow p t.0 in ((n.0, t.1.0, n.1), t.1.1, matches p t.0 t.1.0 t.1.1)

      known_here : (p : Pair) → Contains C p → level f p.shape ≡ k → Contains kept p ⊎ Contains gone p
      known_here p of_c at = elim (decide_member same_pairs gone p) [
        | inl went ↦ inr went
        | inr new ↦ inl (r.greatest cand all_confirmed p (sifted.whole p of_c (at, new)))
      ]

    -- so each of them is known on all strata
    known_below : (k : ℕ) (known : Known) → AreRefinedBelow s terms g f pairs budget k known → AreKnownBelow k known
    known_below zero known refined p of_c lt = absurd (omega arith)
    known_below (suc k) known (lower, gone, kept, earlier, r, yes_is, no_is) p of_c lt = elim (cases_lt (level f p.shape) k) [
      | inl less ↦ elim (known_below k lower earlier p of_c less) [
        | inl y ↦ inl (subst (λ ps. Contains ps p) (sym yes_is) (Contains-append_left lower.yes kept p y))
        | inr m ↦ inr (subst (λ ps. Contains ps p) (sym no_is) (Contains-append_left lower.no gone p m))
      ]
      | inr ge ↦ elim (known_here k lower (known_below k lower earlier) gone kept r p of_c (omega arith)) [
        | inl y ↦ inl (subst (λ ps. Contains ps p) (sym yes_is) (Contains-append_right lower.yes kept p y))
        | inr m ↦ inr (subst (λ ps. Contains ps p) (sym no_is) (Contains-append_right lower.no gone p m))
      ]
    ]

  -- it cannot be that the items with P have no list
  not_not_sifted : {X : Type 0} (P : X → Type 0) (xs : List X) → ¬ (¬ Sifted P xs)
  not_not_sifted P [] none = none (sift_none P)
  not_not_sifted P (x ∷ xs) none =
      not_not_sifted P xs (λ r. none (sift_out P x xs (λ h. none (sift_in P x xs h r)) r))

  module _ (held : HoldNeeds s g pairs) (known : Known) (refined : IsRefined s terms g f pairs budget known) where
    -- a pair that reaches no wide pair has a verdict
    pub narrow_known : (p : Pair) → Contains pairs p → LeadsToNarrow s terms g budget p → Contains known.yes p ⊎ Contains known.no p
    narrow_known p of narrow = go (decide_member same_pairs known.yes p) (decide_member same_pairs known.no p)
      where
        listed : Sifted (LeadsToNarrow s terms g budget) pairs → Contains known.yes p ⊎ Contains known.no p
        listed r =
            known_below r.items (λ q c. (let t = r.only q c in (t.0, t.1 q here)))
            (λ q u c need. (let t = r.only q c in r.whole u (held q u t.0 need) (λ x leads. t.1 x (step u need leads))))
            (suc (top_of f)) known refined p (r.whole p of narrow) (let top : level f p.shape ≤ top_of f = level_top f p.shape.0 in omega arith)

        go : Decided (Contains known.yes p) → Decided (Contains known.no p) → Contains known.yes p ⊎ Contains known.no p
        go (inl y) rest = inl y
        go (inr none) (inl m) = inr m
        go (inr none) (inr neither) = absurd (not_not_sifted (LeadsToNarrow s terms g budget) pairs (λ r. elim (listed r) [ inl y ↦ none y | inr m ↦ neither m ]))

    -- and a node with an expression that reaches none has a sure answer
    pub decided_sure :
        (n : TermId) (e : ExprId) → HoldRoots s pairs n e → IsDecided s terms g budget n e →
        IsSure s terms known n e Yes ⊎ IsSure s terms known n e No
    decided_sure n e asked decided = elim (decide_sat s terms (decide_node nodes) (suc e.0) known.yes n e) [
      | inl h ↦ inl (exact.0 h)
      | inr h ↦ inr (exact.1 h)
    ]
      where
        answered : (i : ShapeId) (sign : Bool) → StandsIn s i e sign →
            (Contains known.yes (pair_of n i) → PairIs known (pair_of n i) Yes) × (¬ Contains known.yes (pair_of n i) → PairIs known (pair_of n i) No)
        answered i sign st = (
          (λ c. c),
          (λ new. elim (narrow_known (pair_of n i) (asked i sign st) (λ q leads. decided q (i, sign, st, leads))) [
            | inl y ↦ absurd (new y)
            | inr m ↦ (new, m)
          ]),
        )

        exact : (Sat s terms known.yes n e → IsSure s terms known n e Yes) × (¬ Sat s terms known.yes n e → IsSure s terms known n e No)
        exact = exact_within s terms nodes known known.yes n (suc e.0) e answered

    -- which is that of the complete typing
    pub decided_answer :
        (U : List TermId) → ((p : Pair) → Contains pairs p → Contains U p.node) → (T : List Pair) → IsTheTyping s terms g f U T →
        (n : TermId) (e : ExprId) → HoldRoots s pairs n e → IsDecided s terms g budget n e →
        (IsSure s terms known n e Yes ↔ Sat s terms T n e) × (IsSure s terms known n e No ↔ (¬ Sat s terms T n e))
    decided_answer U nodes_in T complete n e asked decided = both (decided_sure n e asked decided)
      where
        true_of : (IsSure s terms known n e Yes → Sat s terms T n e) × (IsSure s terms known n e No → ¬ Sat s terms T n e)
        true_of = sure_sound s terms known T (all_true s terms g loaded f U pairs budget nodes_in T complete known refined) n (suc e.0) e

        both : IsSure s terms known n e Yes ⊎ IsSure s terms known n e No →
            (IsSure s terms known n e Yes ↔ Sat s terms T n e) × (IsSure s terms known n e No ↔ (¬ Sat s terms T n e))
        both (inl y) = ((true_of.0, (λ h. y)), (true_of.1, (λ fails. absurd (fails (true_of.0 y)))))
        both (inr m) = ((true_of.0, (λ h. absurd (true_of.1 m h))), (true_of.1, (λ fails. m)))
