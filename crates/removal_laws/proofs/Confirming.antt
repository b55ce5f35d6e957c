-- Confirmation by an agenda: the greatest pairs that confirm one another are left.
use Rattle.std.proofs.Common.{◌≡◌, ◌≢◌, ℕ, suc, ◌<◌, ◌⊎◌, inl, inr, List, ◌++◌, refl, arith, sym, subst, ap, ◌∙◌, Bool, true, false, not, filter, nat_eq, true≢false}
use Rattle.std.proofs.lemmas.Bool.{cases_eq, eq-eqb, eqb-true}
use Rattle.std.proofs.lemmas.List.Elements.{Contains-append_cases, Contains-append_left, Contains-append_right}
use Rattle.std.specs.Prelude.{◌↔◌, Contains, Some, slice_get, slice_set}
use Rattle.lists.specs.Distinct.{AreDistinct}
use Rattle.rdf_terms.specs.declared.terms.Term.{Term}
use Rattle.rdf_terms.specs.declared.terms.Triple.{Triple}
use Rattle.schema_tree.specs.declared.schema.Pair.{Pair}
use Rattle.schema_tree.specs.declared.schema.Schema.{Schema}
use Rattle.schema_tree.specs.declared.verdicts.Lean.TheVariants.{Impossible}
use Rattle.schema_tree.specs.declared.verdicts.Verdict.{Verdict}
use Rattle.schema_tree.specs.declared.verdicts.Verdict.TheVariants.{Yes, No, Unknown}
use Rattle.schema_tree.specs.Edges.{level}
use Rattle.schema_tree.specs.Needs.{Needs}
use Rattle.schema_tree.specs.Places.{PairCanMatch}
use Rattle.schema_tree.specs.Removal.{CanGo, IsConfirmed, IsNarrow, IsRefinedAt}
use Rattle.schema_tree.specs.Sure.{Known, PairIs}
use Rattle.schema_tree.specs.Typings.{IsPartOf}
use Rattle.lists.proofs.Members.{got_in}
use Rattle.lists.proofs.Filters.{in_filter, filter_has}
use Rattle.removal_laws.specs.Marks.{KnowSame, known_by, marked, outside}
use Rattle.schema_tree.specs.Entries.{same_pair}
use Rattle.removal_laws.specs.Stages.{IsBefore, IsConfirming, IsOpen, IsRaised, IsRemoving, IsYesAt, both}
use Rattle.removal_laws.proofs.Carried.{match_alike, match_up}
use Rattle.removal_laws.proofs.Known.{held_at, is_no, is_yes, know_turned, match_known, no_at, set_here, set_other, to_outside}
use Rattle.schema_tree.proofs.Pairs.{pair_same}
use Rattle.schema_tree.proofs.Pairs.{pair_is}
use Rattle.removal_laws.proofs.Marking.{from_mark, to_mark}

module _ (s : Schema) (terms : List Term) (g : List Triple) (f : List ℕ) (pairs : List Pair) (budget : ℕ) (elsewhere : Known) (distinct : AreDistinct pairs)
    (lower : Known) (k : ℕ) where
  abbrev Confirming : List Verdict → List Pair → (ℕ → Type 0) → Type 0
  Confirming marks gone Todo = IsConfirming s terms g f pairs budget elsewhere lower k marks gone Todo

  abbrev Open : ℕ → Type 0
  Open i = IsOpen s terms g f pairs budget elsewhere k i

  abbrev view : List Pair → List Pair → Known
  view gone cand = both s terms g f pairs budget elsewhere lower gone cand

  -- ---- at the start every pair that did not go is Yes

  module _ (old marks : List Verdict) (gone : List Pair) (None_ : ℕ → Type 0) (r : IsRemoving s terms g f pairs budget elsewhere lower k old gone None_)
      (low : (q : Pair) → Contains lower.yes q ⊎ Contains lower.no q → Contains pairs q → level f q.shape < k)
      (raised : (i : ℕ) → IsRaised s terms g f pairs budget elsewhere k old marks i) where
    on_stratum : Pair → Bool
    on_stratum q = nat_eq (level f q.shape) k

    abbrev start_cand : List Pair
    start_cand = filter (λ q. nat_eq (level f q.shape) k) (marked Yes pairs marks)

    start_are : (q : Pair) → Contains start_cand q ↔ IsYesAt s terms g f pairs budget elsewhere k marks q
    start_are q = (
      (λ c. (let (m, e) = in_filter (λ u. nat_eq (level f u.shape) k) (marked Yes pairs marks) q c in
          let (i, there, mark) = to_mark Yes pairs marks q m in (i, there, mark, eqb-true (level f q.shape) k e))),
      (λ (i, there, mark, e). filter_has (λ u. nat_eq (level f u.shape) k) (marked Yes pairs marks) q (from_mark Yes pairs marks q (i, there, mark)) (eq-eqb (level f q.shape) k e)),
    )

    -- a Yes on the stratum was raised
    was_raised : (i : ℕ) (q : Pair) → slice_get pairs i ≡ Some q → level f q.shape ≡ k → slice_get marks i ≡ Some Yes → Open i × (slice_get old i ≡ Some Unknown)
    was_raised i q there at mark = elim (raised i) [
      | inl (o, u, y) ↦ (o, u)
      | inr (none, same) ↦ absurd (no_yes (r.fresh i q there at) (sym same ∙ mark))
    ]
      where
        no_yes : (slice_get old i ≡ Some Unknown) ⊎ Contains gone q → slice_get old i ≡ Some Yes → ⊥
        no_yes (inl u) y = cc
        no_yes (inr c) y = let n = no_at elsewhere pairs distinct old i q there (r.knows.1.1 q (Contains-append_right lower.no gone q c)) in cc

    same_no : (i : ℕ) → slice_get marks i ≡ Some No → slice_get old i ≡ Some No
    same_no i n = elim (raised i) [ inl (o, u, y) ↦ absurd (cc) | inr (none, same) ↦ sym same ∙ n ]

    still_no : (i : ℕ) → slice_get old i ≡ Some No → slice_get marks i ≡ Some No
    still_no i n = elim (raised i) [ inl (o, u, y) ↦ absurd (cc) | inr (none, same) ↦ same ∙ n ]

    still_yes : (i : ℕ) → slice_get old i ≡ Some Yes → slice_get marks i ≡ Some Yes
    still_yes i n = elim (raised i) [ inl (o, u, y) ↦ y | inr (none, same) ↦ same ∙ n ]

    pub begun : (Todo : ℕ → Type 0) → ((i : ℕ) → Open i → slice_get old i ≡ Some Unknown → Todo i) → ((i : ℕ) → Todo i → Open i × (slice_get marks i ≡ Some Yes)) →
        Confirming marks gone Todo
    begun Todo all only = record {
      cand = start_cand;
      are = start_are;
      knows = ((yes_back, yes_on), (no_back, no_on));
      new = λ i p there lt. elim (raised i) [
        | inl (o, u, y) ↦ absurd (let (q, at, n) = o in let e = n.1 in let same : Some p ≡ Some q = sym there ∙ at in
            let w : p ≡ q = cc in let z : level f p.shape ≡ level f q.shape = ap (λ u. level f u.shape) w in omega arith)
        | inr (none, same) ↦ same ∙ r.new i p there lt
      ];
      low = low;
      stay = stay;
      greatest = greatest;
      settled = λ i p there at mark out. absurd (let (o, u) = was_raised i p there at mark in out (all i o u));
      open_to = only;
    }
      where
        yes_back : (q : Pair) → Contains (known_by elsewhere pairs marks).yes q → Contains (lower.yes ++ start_cand) q
        yes_back q c = elim (Contains-append_cases (marked Yes pairs marks) (outside pairs elsewhere.yes) q c) [
          | inl m ↦ (let (i, there, mark) = to_mark Yes pairs marks q m in elim (raised i) [
            | inl (o, u, y) ↦ (let (p, at, n) = o in let same : Some p ≡ Some q = sym at ∙ there in let w : p ≡ q = cc in
                Contains-append_right lower.yes start_cand q ((start_are q).1 (i, there, mark, ap (λ u. level f u.shape) (sym w) ∙ n.1)))
            | inr (none, same) ↦ Contains-append_left lower.yes start_cand q (r.knows.0.0 q (is_yes elsewhere pairs distinct old i q there (sym same ∙ mark)))
          ])
          | inr o ↦ Contains-append_left lower.yes start_cand q (r.knows.0.0 q (Contains-append_right (marked Yes pairs old) (outside pairs elsewhere.yes) q o))
        ]

        yes_on : (q : Pair) → Contains (lower.yes ++ start_cand) q → Contains (known_by elsewhere pairs marks).yes q
        yes_on q c = elim (Contains-append_cases lower.yes start_cand q c) [
          | inl l ↦ elim (Contains-append_cases (marked Yes pairs old) (outside pairs elsewhere.yes) q (r.knows.0.1 q l)) [
            | inl m ↦ (let (i, there, mark) = to_mark Yes pairs old q m in is_yes elsewhere pairs distinct marks i q there (still_yes i mark))
            | inr o ↦ Contains-append_right (marked Yes pairs marks) (outside pairs elsewhere.yes) q o
          ]
          | inr d ↦ (let (i, there, mark, e) = (start_are q).0 d in is_yes elsewhere pairs distinct marks i q there mark)
        ]

        no_back : (q : Pair) → Contains (known_by elsewhere pairs marks).no q → Contains (lower.no ++ gone) q
        no_back q c = elim (Contains-append_cases (marked No pairs marks) (outside pairs elsewhere.no) q c) [
          | inl m ↦ (let (i, there, mark) = to_mark No pairs marks q m in r.knows.1.0 q (is_no elsewhere pairs distinct old i q there (same_no i mark)))
          | inr o ↦ r.knows.1.0 q (Contains-append_right (marked No pairs old) (outside pairs elsewhere.no) q o)
        ]

        no_on : (q : Pair) → Contains (lower.no ++ gone) q → Contains (known_by elsewhere pairs marks).no q
        no_on q c = elim (Contains-append_cases (marked No pairs old) (outside pairs elsewhere.no) q (r.knows.1.1 q c)) [
          | inl m ↦ (let (i, there, mark) = to_mark No pairs old q m in is_no elsewhere pairs distinct marks i q there (still_no i mark))
          | inr o ↦ Contains-append_right (marked No pairs marks) (outside pairs elsewhere.no) q o
        ]

        stay : (p : Pair) → Contains start_cand p → IsNarrow s terms g f pairs budget k p × (¬ Contains gone p)
        stay p c =
            let (i, there, mark, e) = (start_are p).0 c in
            let ((q, at, n), u) = was_raised i p there e mark in
            let same : Some p ≡ Some q = sym there ∙ at in
            let w : q ≡ p = cc in (
              subst (λ z. IsNarrow s terms g f pairs budget k z) w n,
              (λ d. let z = no_at elsewhere pairs distinct old i p there (r.knows.1.1 p (Contains-append_right lower.no gone p d)) in absurd cc),
            )

        greatest : (more : List Pair) → IsConfirmed s terms g f pairs budget lower k gone more → IsPartOf more start_cand
        greatest more confirmed p c =
            let (narrow, new, match) = confirmed p c in
            let (i, there) = held_at pairs p narrow.0 in
            (start_are p).1 (i, there, raise i there narrow (r.fresh i p there narrow.1) new, narrow.1)
          where
            raise : (i : ℕ) → slice_get pairs i ≡ Some p → IsNarrow s terms g f pairs budget k p → (slice_get old i ≡ Some Unknown) ⊎ Contains gone p → ¬ Contains gone p →
                slice_get marks i ≡ Some Yes
            raise i there narrow (inr d) new = absurd (new d)
            raise i there narrow (inl u) new = elim (raised i) [ inl (o, v, y) ↦ y | inr (none, same) ↦ absurd (none ((p, there, narrow), u)) ]

  -- ---- a pair is looked at

  module _ (marks : List Verdict) (gone : List Pair) (at : ℕ) (p : Pair) (here : slice_get pairs at ≡ Some p) (Old : ℕ → Type 0)
      (r : Confirming marks gone (λ i. Old i ⊎ (i ≡ at))) where
    same_at : (q : Pair) → slice_get pairs at ≡ Some q → q ≡ p
    same_at q there = let same : Some p ≡ Some q = sym here ∙ there in cc

    -- it matches, and stays
    pub holds : PairCanMatch s terms g (known_by elsewhere pairs marks) Impossible p → Confirming marks gone Old
    holds match = record {
      cand = r.cand;
      are = r.are;
      knows = r.knows;
      new = r.new;
      low = r.low;
      stay = r.stay;
      greatest = r.greatest;
      settled = settled;
      open_to = λ i o. r.open_to i (inl o);
    }
      where
        settled : (i : ℕ) (q : Pair) → slice_get pairs i ≡ Some q → level f q.shape ≡ k → slice_get marks i ≡ Some Yes → ¬ Old i →
            PairCanMatch s terms g (view gone r.cand) Impossible q
        settled i q there on mark out = elim (cases_eq i at) [
          | inl e ↦ subst (λ u. PairCanMatch s terms g (view gone r.cand) Impossible u) (sym (same_at q (subst (λ j. slice_get pairs j ≡ Some q) e there)))
              (match_known s terms g (known_by elsewhere pairs marks) (view gone r.cand) Impossible p r.knows match)
          | inr ne ↦ r.settled i q there on mark (λ h. elim h [ inl o ↦ out o | inr e ↦ ne e ])
        ]

    -- it does not, and is Unknown
    module _ (never : ¬ PairCanMatch s terms g (known_by elsewhere pairs marks) Impossible p) (least : (i : ℕ) → Old i → at < i)
        (Needing New : ℕ → Type 0) (needing : (i : ℕ) (q : Pair) → slice_get pairs i ≡ Some q → Needs s g q p → Needing i)
        (new : (i : ℕ) → New i ↔ (Old i ⊎ (Needing i × Open i × (slice_get (slice_set marks at Unknown) i ≡ Some Yes)))) where
      abbrev marks' : List Verdict
      marks' = slice_set marks at Unknown

      abbrev here_open : Open at × (slice_get marks at ≡ Some Yes)
      here_open = r.open_to at (inr refl)

      narrow : IsNarrow s terms g f pairs budget k p
      narrow = let (q, there, n) = here_open.0 in subst (λ u. IsNarrow s terms g f pairs budget k u) (same_at q there) n

      other_mark : (i : ℕ) → i ≢ at → slice_get marks' i ≡ slice_get marks i
      other_mark i ne = set_other marks at i Unknown ne

      new_mark : slice_get marks' at ≡ Some Unknown
      new_mark = set_here marks at Yes Unknown here_open.1

      -- a mark that is Yes or No is not the new one
      not_here : (i : ℕ) (v : Verdict) → v ≢ Unknown → slice_get marks' i ≡ Some v → i ≢ at
      not_here i v ne mark e = ne (let z : slice_get marks' at ≡ Some v = subst (λ j. slice_get marks' j ≡ Some v) e mark in let w : Some v ≡ Some Unknown = sym z ∙ new_mark in cc)

      yes_apart : Yes ≢ Unknown
      yes_apart e = cc

      no_apart : No ≢ Unknown
      no_apart e = cc

      p_in : Contains r.cand p
      p_in = (r.are p).1 (at, here, here_open.1, narrow.1)

      abbrev cand' : List Pair
      cand' = filter (λ q. not (same_pair q p)) r.cand

      less : (q : Pair) → Contains cand' q → Contains r.cand q × (q ≢ p)
      less q c =
          let (d, e) = in_filter (λ u. not (same_pair u p)) r.cand q c in
          (d, (λ is. true≢false (sym e ∙ ap not (ap (λ u. same_pair u p) is ∙ pair_same p))))

      on : (q : Pair) → Contains r.cand q → q ≢ p → Contains cand' q
      on q c ne = filter_has (λ u. not (same_pair u p)) r.cand q c (by (same_pair q p) refl)
        where
          by : (b : Bool) → same_pair q p ≡ b → not (same_pair q p) ≡ true
          by true e = absurd (ne (pair_is q p e))
          by false e = ap not e

      are' : (q : Pair) → Contains cand' q ↔ IsYesAt s terms g f pairs budget elsewhere k marks' q
      are' q = (to, from)
        where
          to : Contains cand' q → IsYesAt s terms g f pairs budget elsewhere k marks' q
          to c =
              let (d, ne) = less q c in
              let (i, there, mark, e) = (r.are q).0 d in
              (i, there, other_mark i (λ is. ne (same_at q (subst (λ j. slice_get pairs j ≡ Some q) is there))) ∙ mark, e)

          from : IsYesAt s terms g f pairs budget elsewhere k marks' q → Contains cand' q
          from (i, there, mark, e) =
              let ne : i ≢ at = not_here i Yes yes_apart mark in
              on q ((r.are q).1 (i, there, sym (other_mark i ne) ∙ mark, e)) (λ is. ne (distinct i at p (subst (λ u. slice_get pairs i ≡ Some u) is there) here))

      low_apart : (q : Pair) → Contains lower.yes q → q ≢ p
      low_apart q c e = let l : level f q.shape < k = r.low q (inl c) (subst (λ u. Contains pairs u) (sym e) narrow.0) in
          let z : level f q.shape ≡ level f p.shape = ap (λ u. level f u.shape) e in let w = narrow.1 in absurd (omega arith)

      knows' : KnowSame (known_by elsewhere pairs marks') (view gone cand')
      knows' = ((yes_back, yes_on), (no_back, no_on))
        where
          yes_back : (q : Pair) → Contains (known_by elsewhere pairs marks').yes q → Contains (lower.yes ++ cand') q
          yes_back q c = elim (Contains-append_cases (marked Yes pairs marks') (outside pairs elsewhere.yes) q c) [
            | inl m ↦ (let (i, there, mark) = to_mark Yes pairs marks' q m in
                let ne : i ≢ at = not_here i Yes yes_apart mark in
                elim (Contains-append_cases lower.yes r.cand q (r.knows.0.0 q (is_yes elsewhere pairs distinct marks i q there (sym (other_mark i ne) ∙ mark)))) [
                  | inl l ↦ Contains-append_left lower.yes cand' q l
                  | inr d ↦ Contains-append_right lower.yes cand' q (on q d (λ is. ne (distinct i at p (subst (λ u. slice_get pairs i ≡ Some u) is there) here)))
                ])
            | inr o ↦ elim (Contains-append_cases lower.yes r.cand q (r.knows.0.0 q (Contains-append_right (marked Yes pairs marks) (outside pairs elsewhere.yes) q o))) [
              | inl l ↦ Contains-append_left lower.yes cand' q l
              | inr d ↦ absurd (let (i, there, mark, e) = (r.are q).0 d in out_of q o (got_in pairs i q there))
            ]
          ]
            where
              out_of : (q : Pair) → Contains (outside pairs elsewhere.yes) q → Contains pairs q → ⊥
              out_of q o inside = (to_out q o).1 inside
                where
                  to_out : (u : Pair) → Contains (outside pairs elsewhere.yes) u → Contains elsewhere.yes u × (¬ Contains pairs u)
                  to_out u h = to_outside pairs elsewhere.yes u h

          yes_on : (q : Pair) → Contains (lower.yes ++ cand') q → Contains (known_by elsewhere pairs marks').yes q
          yes_on q c = elim (Contains-append_cases lower.yes cand' q c) [
            | inl l ↦ elim (Contains-append_cases (marked Yes pairs marks) (outside pairs elsewhere.yes) q (r.knows.0.1 q (Contains-append_left lower.yes r.cand q l))) [
              | inl m ↦ (let (i, there, mark) = to_mark Yes pairs marks q m in
                  is_yes elsewhere pairs distinct marks' i q there (other_mark i (λ is. low_apart q l (same_at q (subst (λ j. slice_get pairs j ≡ Some q) is there))) ∙ mark))
              | inr o ↦ Contains-append_right (marked Yes pairs marks') (outside pairs elsewhere.yes) q o
            ]
            | inr d ↦ (let (i, there, mark, e) = (are' q).0 d in is_yes elsewhere pairs distinct marks' i q there mark)
          ]

          no_back : (q : Pair) → Contains (known_by elsewhere pairs marks').no q → Contains (lower.no ++ gone) q
          no_back q c = elim (Contains-append_cases (marked No pairs marks') (outside pairs elsewhere.no) q c) [
            | inl m ↦ (let (i, there, mark) = to_mark No pairs marks' q m in
                r.knows.1.0 q (is_no elsewhere pairs distinct marks i q there (sym (other_mark i (not_here i No no_apart mark)) ∙ mark)))
            | inr o ↦ r.knows.1.0 q (Contains-append_right (marked No pairs marks) (outside pairs elsewhere.no) q o)
          ]

          no_on : (q : Pair) → Contains (lower.no ++ gone) q → Contains (known_by elsewhere pairs marks').no q
          no_on q c = elim (Contains-append_cases (marked No pairs marks) (outside pairs elsewhere.no) q (r.knows.1.1 q c)) [
            | inl m ↦ (let (i, there, mark) = to_mark No pairs marks q m in
                is_no elsewhere pairs distinct marks' i q there (other_mark i (λ is. (let w = here_open.1 in let z : slice_get marks at ≡
                Some No = subst (λ j. slice_get marks j ≡ Some No) is mark in absurd cc)) ∙ mark))
            | inr o ↦ Contains-append_right (marked No pairs marks') (outside pairs elsewhere.no) q o
          ]

      -- another pair is known as before
      alike : (q : Pair) (v : Verdict) → q ≢ p → PairIs (view gone r.cand) q v ↔ PairIs (view gone cand') q v
      alike q v ne = by v
        where
          there : Contains (lower.yes ++ r.cand) q → Contains (lower.yes ++ cand') q
          there c = elim (Contains-append_cases lower.yes r.cand q c) [ inl l ↦ Contains-append_left lower.yes cand' q l | inr d ↦ Contains-append_right lower.yes cand' q (on q d ne) ]

          back : Contains (lower.yes ++ cand') q → Contains (lower.yes ++ r.cand) q
          back c = elim (Contains-append_cases lower.yes cand' q c) [ inl l ↦ Contains-append_left lower.yes r.cand q l | inr d ↦ Contains-append_right lower.yes r.cand q (less q d).0 ]

          by : (w : Verdict) → PairIs (view gone r.cand) q w ↔ PairIs (view gone cand') q w
          by Yes = (there, back)
          by No = ((λ h. ((λ c. h.0 (back c)), h.1)), (λ h. ((λ c. h.0 (there c)), h.1)))
          by Unknown = ((λ h. ((λ c. h.0 (back c)), h.1)), (λ h. ((λ c. h.0 (there c)), h.1)))

      pub drops : Confirming marks' gone New
      drops = record {
        cand = cand';
        are = are';
        knows = knows';
        new = λ i q there lt. other_mark i (λ e. (let l = narrow.1 in let w : q ≡ p = same_at q (subst (λ j. slice_get pairs j ≡ Some q) e there) in
            let z : level f q.shape ≡ level f p.shape = ap (λ u. level f u.shape) w in absurd (omega arith))) ∙ r.new i q there lt;
        low = r.low;
        stay = λ q c. r.stay q (less q c).0;
        greatest = greatest;
        settled = settled;
        open_to = open_to;
      }
        where
          greatest : (more : List Pair) → IsConfirmed s terms g f pairs budget lower k gone more → IsPartOf more cand'
          greatest more confirmed q c = on q (r.greatest more confirmed q c) (λ e. never
              (match_known s terms g (view gone r.cand) (known_by elsewhere pairs marks) Impossible p (know_turned _ _ r.knows)
              (match_up s terms g (view gone more) (view gone r.cand) p (λ u need. up u) (λ u need. down u)
              (subst (λ u. PairCanMatch s terms g (view gone more) Impossible u) e (confirmed q c).2))))
            where
              up : (u : Pair) → PairIs (view gone more) u Yes → PairIs (view gone r.cand) u Yes
              up u h = elim (Contains-append_cases lower.yes more u h) [
                | inl l ↦ Contains-append_left lower.yes r.cand u l
                | inr m ↦ Contains-append_right lower.yes r.cand u (r.greatest more confirmed u m)
              ]

              down : (u : Pair) → PairIs (view gone more) u No → PairIs (view gone r.cand) u No
              down u (none, held) = (
                (λ h. elim (Contains-append_cases lower.yes r.cand u h) [
                  | inl l ↦ none (Contains-append_left lower.yes more u l)
                  | inr d ↦ against d (Contains-append_cases lower.no gone u held)
                ]),
                held,
              )
                where
                  against : Contains r.cand u → Contains lower.no u ⊎ Contains gone u → ⊥
                  against d (inl l) = let (n, new_) = r.stay u d in let lt = r.low u (inr l) n.0 in let e = n.1 in omega arith
                  against d (inr w) = (r.stay u d).1 w

          settled : (i : ℕ) (q : Pair) → slice_get pairs i ≡ Some q → level f q.shape ≡ k → slice_get marks' i ≡ Some Yes → ¬ New i →
              PairCanMatch s terms g (view gone cand') Impossible q
          settled i q there e mark out =
              let ne : i ≢ at = not_here i Yes yes_apart mark in
              let old : slice_get marks i ≡ Some Yes = sym (other_mark i ne) ∙ mark in
              let n : IsNarrow s terms g f pairs budget k q = (r.stay q ((r.are q).1 (i, there, old, e))).0 in
              match_alike s terms g (view gone r.cand) (view gone cand') Impossible q
              (λ u need v. alike u v (λ is. out ((new i).1 (inr (needing i q there (subst (λ z. Needs s g q z) is need), (q, there, n), mark)))))
              (r.settled i q there e old (λ h. elim h [ inl o ↦ out ((new i).1 (inl o)) | inr is ↦ ne is ]))

          open_to : (i : ℕ) → New i → Open i × (slice_get marks' i ≡ Some Yes)
          open_to i h = elim ((new i).0 h) [
            | inl o ↦ (let (is_open, mark) = r.open_to i (inl o) in (is_open, other_mark i (λ e. (let l = least i o in absurd (omega arith))) ∙ mark))
            | inr (n, is_open, mark) ↦ (is_open, mark)
          ]

  -- ---- at the end the stratum is refined

  module _ (marks : List Verdict) (gone : List Pair) (Todo : ℕ → Type 0) (r : Confirming marks gone Todo) (none : (i : ℕ) → ¬ Todo i) where
    pub refined : (old : List Verdict) (Past : ℕ → Type 0) → IsRemoving s terms g f pairs budget elsewhere lower k old gone Past →
        ((p : Pair) → ¬ CanGo s terms g f pairs budget lower k gone p) → IsRefinedAt s terms g f pairs budget lower k gone r.cand
    refined old Past removing finished = record {
      in_turn = removing.in_turn;
      finished = finished;
      confirmed = λ p c. (let (narrow, new) = r.stay p c in let (i, there, mark, e) = (r.are p).0 c in (narrow, new, r.settled i p there e mark (none i)));
      greatest = r.greatest;
    }

    pub above : IsBefore s terms g f pairs budget elsewhere (view gone r.cand) (suc k) marks
    above = record { knows = r.knows; new = λ i p there le. r.new i p there (omega arith) }
