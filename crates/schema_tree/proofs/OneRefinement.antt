-- Any two refinements of the same pairs say the same: the same pairs went, in the same order, and the same are kept.
use Rattle.std.proofs.Common.{◌≡◌, ℕ, zero, suc, ◌<◌, ◌≤◌, inl, inr, List, [], ◌∷◌, ◌++◌, refl, arith, sym, subst, ap, ◌∙◌, length, take, get_or}
use Rattle.std.proofs.Math.Seq.{take-length, take-suc}
use Rattle.std.proofs.lemmas.Bool.{cases_eq, cases_lt}
use Rattle.std.proofs.lemmas.List.Elements.{Contains-append_cases, Contains-append_left, Contains-append_right}
use Rattle.std.proofs.lemmas.Option.{slice_get-get_or}
use Rattle.std.specs.Prelude.{◌↔◌, Contains, Option, Some, None, slice_get, unwrap_or}
use Rattle.rdf_terms.specs.declared.terms.Term.{Term}
use Rattle.rdf_terms.specs.declared.terms.TermId.{TermId}
use Rattle.rdf_terms.specs.declared.terms.Triple.{Triple}
use Rattle.schema_tree.specs.declared.schema.ExprId.{ExprId}
use Rattle.schema_tree.specs.declared.schema.Pair.{Pair}
use Rattle.schema_tree.specs.declared.schema.Schema.{Schema}
use Rattle.schema_tree.specs.declared.schema.Shape.{Shape}
use Rattle.schema_tree.specs.declared.verdicts.Lean.{Lean}
use Rattle.schema_tree.specs.declared.verdicts.Lean.TheVariants.{Possible, Impossible}
use Rattle.schema_tree.specs.declared.verdicts.Verdict.{Verdict}
use Rattle.schema_tree.specs.declared.verdicts.Verdict.TheVariants.{Yes, No, Unknown}
use Rattle.schema_tree.specs.Entries.{pair_of, shape_at}
use Rattle.schema_tree.specs.Loaded.{IsLoaded}
use Rattle.schema_tree.specs.Places.{CanMatch, MayFail, MayHold, PairCanMatch}
use Rattle.schema_tree.specs.Removal.{AreRefinedBelow, CanGo, GoesNext, IsConfirmed, IsRefinedAt}
use Rattle.schema_tree.specs.Sure.{IsSure, Known, PairIs}
use Rattle.schema_tree.specs.Typings.{HaveSame, IsPartOf}
use Rattle.lists.proofs.Exactly.{not_same}
use Rattle.schema_tree.proofs.Fuel.{sure_alike}
use Rattle.schema_tree.proofs.Leans.{places_weaker}

-- the two know the same
abbrev pub KnowSame : Known → Known → Type 0
KnowSame a b = HaveSame a.yes b.yes × HaveSame a.no b.no

same_list : (T W : List Pair) → T ≡ W → HaveSame T W
same_list T W e = subst (λ V. HaveSame T V) e ((λ p c. c), λ p c. c)

turned : (T W : List Pair) → HaveSame T W → HaveSame W T
turned T W h = (h.1, h.0)

know_turned : (a b : Known) → KnowSame a b → KnowSame b a
know_turned a b h = (turned a.yes b.yes h.0, turned a.no b.no h.1)

-- lists with the same pairs, each with more of the same
joined : (T W more more' : List Pair) → HaveSame T W → HaveSame more more' → HaveSame (T ++ more) (W ++ more')
joined T W more more' h m = (part T W more more' h.0 m.0, part W T more' more h.1 m.1)
  where
    part : (A B C D : List Pair) → IsPartOf A B → IsPartOf C D → IsPartOf (A ++ C) (B ++ D)
    part A B C D ab cd p c = elim (Contains-append_cases A C p c) [
      | inl l ↦ Contains-append_left B D p (ab p l)
      | inr r ↦ Contains-append_right B D p (cd p r)
    ]

pair_alike : (a b : Known) → KnowSame a b → (p : Pair) (v : Verdict) → PairIs a p v → PairIs b p v
pair_alike a b h p Yes is = h.0.0 p is
pair_alike a b h p No is = ((λ c. is.0 (h.0.1 p c)), h.1.0 p is.1)
pair_alike a b h p Unknown is = ((λ c. is.0 (h.0.1 p c)), λ c. is.1 (h.1.1 p c))

module _ (s : Schema) (terms : List Term) (g : List Triple) (loaded : IsLoaded s) where
  -- views that know the same give the same verdicts
  sure_same : (a b : Known) → KnowSame a b → (n : TermId) (e : ExprId) (v : Verdict) → IsSure s terms a n e v ↔ IsSure s terms b n e v
  sure_same a b h n e v =
      sure_alike s terms loaded a b (λ p w. (pair_alike a b h p w, pair_alike b a (know_turned a b h) p w)) n (suc e.0) (suc e.0) e (omega arith) (omega arith) v

  hold_same :
      (a b : Known) → KnowSame a b → (lean : Lean) (n : TermId) (x : Option ExprId) → MayHold s terms a lean n x →
      MayHold s terms b lean n x
  hold_same a b h Possible n None m = m
  hold_same a b h Impossible n None m = m
  hold_same a b h Possible n (Some e) m = (not_same (sure_same a b h n e No)).0 m
  hold_same a b h Impossible n (Some e) m = (sure_same a b h n e Yes).0 m

  fail_same :
      (a b : Known) → KnowSame a b → (lean : Lean) (n : TermId) (x : Option ExprId) → MayFail s terms a lean n x →
      MayFail s terms b lean n x
  fail_same a b h Possible n None m = m
  fail_same a b h Impossible n None m = m
  fail_same a b h Possible n (Some e) m = (not_same (sure_same a b h n e Yes)).0 m
  fail_same a b h Impossible n (Some e) m = (sure_same a b h n e No).0 m

  -- and the same matches
  pub match_same : (a b : Known) → KnowSame a b → (lean : Lean) (p : Pair) → PairCanMatch s terms g a lean p → PairCanMatch s terms g b lean p
  match_same a b h lean p = go (shape_at s p.shape)
    where
      go : (x : Option Shape) → CanMatch s terms g a lean p.node x → CanMatch s terms g b lean p.node x
      go None m = m
      go (Some sh) m =
          places_weaker _ _ _ _ sh p.node (λ t. Unit {0}) (λ t o base of fit. hold_same a b h lean _ o.value)
          (λ t o base extra of fit. fail_same a b h lean _ o.value) g _ (λ t c. tt) m

  module _ (f : List ℕ) (pairs : List Pair) (budget : ℕ) (k : ℕ) where
    can_go_same :
        (a b : Known) → KnowSame a b → (gone : List Pair) (p : Pair) → CanGo s terms g f pairs budget a k gone p → CanGo s terms g f pairs budget b k gone p
    can_go_same a b h gone p (narrow, new, cannot) = (
      narrow,
      new,
      (λ m. cannot (match_same _ _ (turned a.yes b.yes h.0, joined b.no a.no gone gone (turned a.no b.no h.1) (same_list gone gone refl)) Possible p m)),
    )

    -- after the same pairs the same one goes next
    next_same :
        (a b : Known) → KnowSame a b → (gone : List Pair) (p q : Pair) →
        GoesNext s terms g f pairs budget a k gone p → GoesNext s terms g f pairs budget b k gone q → p ≡ q
    next_same a b h gone p q (can_p, first_p) (can_q, first_q) = go can_p.0.0 can_q.0.0
      where
        before : (i j : ℕ) → i < j → slice_get pairs i ≡ Some p → slice_get pairs j ≡ Some q → p ≡ q
        before i j lt at_i at_j = absurd (first_q p (can_go_same a b h gone p can_p) (i, j, at_i, at_j, lt))

        behind : (i j : ℕ) → j < i → slice_get pairs i ≡ Some p → slice_get pairs j ≡ Some q → p ≡ q
        behind i j lt at_i at_j = absurd (first_p q (can_go_same b a (know_turned a b h) gone q can_q) (j, i, at_j, at_i, lt))

        go : Contains pairs p → Contains pairs q → p ≡ q
        go (i, within_i, is_i) (j, within_j, is_j) =
            let at_i : slice_get pairs i ≡ Some p = slice_get-get_or pairs i p within_i ∙ ap (λ u. Some u) is_i in
            let at_j : slice_get pairs j ≡ Some q = slice_get-get_or pairs j q within_j ∙ ap (λ u. Some u) is_j in
            elim (cases_lt i j) [
              | inl lt ↦ before i j lt at_i at_j
              | inr ge ↦ elim (cases_eq i j) [
                | inl e ↦ ap (λ u. unwrap_or u p) (sym at_i ∙ (ap (λ l. slice_get pairs l) e ∙ at_j))
                | inr ne ↦ behind i j (omega arith) at_i at_j
              ]
            ]

    module _ (a b : Known) (h : KnowSame a b) (gone kept gone' kept' : List Pair)
        (r : IsRefinedAt s terms g f pairs budget a k gone kept) (r' : IsRefinedAt s terms g f pairs budget b k gone' kept') where
      abbrev none : Pair
      none = pair_of (record { 0 = 0 }) (record { 0 = 0 })

      -- where the first i that went are the same, so is the one after them
      one_further : (i : ℕ) → i < length gone → i < length gone' → take i gone ≡ take i gone' → take (suc i) gone ≡ take (suc i) gone'
      one_further i lt lt' earlier = take-suc gone i none lt ∙ (joined_same ∙ sym (take-suc gone' i none lt'))
        where
          one : get_or gone i none ≡ get_or gone' i none
          one =
              next_same a b h (take i gone) _ _ (r.in_turn i (get_or gone i none) (slice_get-get_or gone i none lt))
              (subst (λ ps. GoesNext s terms g f pairs budget b k ps (get_or gone' i none)) (sym earlier)
              (r'.in_turn i (get_or gone' i none) (slice_get-get_or gone' i none lt')))

          joined_same : take i gone ++ get_or gone i none ∷ [] ≡ take i gone' ++ get_or gone' i none ∷ []
          joined_same = ap (λ ps. ps ++ get_or gone i none ∷ []) earlier ∙ ap (λ p. take i gone' ++ p ∷ []) one

      firsts_same : (i : ℕ) → i ≤ length gone → i ≤ length gone' → take i gone ≡ take i gone'
      firsts_same zero lt lt' = refl
      firsts_same (suc i) lt lt' = one_further i lt lt' (firsts_same i (omega arith) (omega arith))

      -- the second list goes on no further, since nothing more could go
      no_longer : ¬ (length gone < length gone')
      no_longer lt =
          let i : ℕ = length gone in
          let whole : take i gone' ≡ gone = sym (firsts_same i (omega arith) (omega arith)) ∙ take-length gone in
          let next = r'.in_turn i (get_or gone' i none) (slice_get-get_or gone' i none lt) in
          r.finished (get_or gone' i none)
          (can_go_same b a (know_turned a b h) gone (get_or gone' i none)
          (subst (λ ps. CanGo s terms g f pairs budget b k ps (get_or gone' i none)) whole next.0))

    -- what is confirmed under one view is so under another that knows the same
    confirmed_same :
        (a b : Known) → KnowSame a b → (gone kept : List Pair) → IsConfirmed s terms g f pairs budget a k gone kept →
        IsConfirmed s terms g f pairs budget b k gone kept
    confirmed_same a b h gone kept all p c =
        let t = all p c in
        let same : KnowSame (record { yes = a.yes ++ kept; no = a.no ++ gone }) (record { yes = b.yes ++ kept; no = b.no ++ gone }) =
        (joined a.yes b.yes kept kept h.0 (same_list kept kept refl), joined a.no b.no gone gone h.1 (same_list gone gone refl)) in
        (t.0, t.1, match_same _ _ same Impossible p t.2)

    -- two refinements of a stratum over the same verdicts below
    stratum_same :
        (a b : Known) → KnowSame a b → (gone kept gone' kept' : List Pair) → IsRefinedAt s terms g f pairs budget a k gone kept →
        IsRefinedAt s terms g f pairs budget b k gone' kept' → (gone ≡ gone') × HaveSame kept kept'
    stratum_same a b h gone kept gone' kept' r r' = (
      went,
      (
        r'.greatest kept (subst (λ ps. IsConfirmed s terms g f pairs budget b k ps kept) went (confirmed_same a b h gone kept r.confirmed)),
        r.greatest kept' (subst (λ ps. IsConfirmed s terms g f pairs budget a k ps kept') (sym went) (confirmed_same b a (know_turned a b h) gone' kept' r'.confirmed)),
      ),
    )
      where
        went : gone ≡ gone'
        went = elim (cases_lt (length gone) (length gone')) [
          | inl lt ↦ absurd (no_longer a b h gone kept gone' kept' r r' lt)
          | inr ge ↦ elim (cases_lt (length gone') (length gone)) [
            | inl lt ↦ absurd (no_longer b a (know_turned a b h) gone' kept' gone kept r' r lt)
            | inr le ↦ (let size : length gone ≡ length gone' = omega arith in
                sym (take-length gone)
                ∙ (firsts_same a b h gone kept gone' kept' r r' (length gone) (omega arith) (omega arith)
                ∙ (ap (λ i. take i gone') size ∙ take-length gone')))
          ]
        ]

  -- two refinements have the same Yes pairs, and the same No pairs in the same order
  pub refined_same :
      (f : List ℕ) (pairs : List Pair) (budget : ℕ) (k : ℕ) (x y : Known) → AreRefinedBelow s terms g f pairs budget k x →
      AreRefinedBelow s terms g f pairs budget k y → HaveSame x.yes y.yes × (x.no ≡ y.no)
  refined_same f pairs budget zero x y a b = (same_list x.yes y.yes (a.0 ∙ sym b.0), a.1 ∙ sym b.1)
  refined_same f pairs budget (suc k) x y (lower, gone, kept, before, r, yes_is, no_is) (lower', gone', kept', before', r', yes_is', no_is') =
      let (low_yes, low_no) = refined_same f pairs budget k lower lower' before before' in
      let (went, same_kept) = stratum_same f pairs budget k lower lower' (low_yes, same_list lower.no lower'.no low_no) gone kept gone' kept' r r' in (
        subst (λ T. HaveSame T y.yes) (sym yes_is) (subst (λ T. HaveSame (lower.yes ++ kept) T) (sym yes_is') (joined lower.yes lower'.yes kept kept' low_yes same_kept)),
        no_is ∙ (ap (λ ps. ps ++ gone) low_no ∙ (ap (λ ps. lower'.no ++ ps) went ∙ sym no_is')),
      )
