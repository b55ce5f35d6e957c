-- Removal by an agenda: the pairs go in their turns.
use Rattle.std.proofs.Common.{◌≡◌, ◌≢◌, ℕ, ◌<◌, ◌⊎◌, inl, inr, List, [], ◌∷◌, ◌++◌, refl, arith, sym, subst, ap, ◌∙◌}
use Rattle.std.proofs.lemmas.Bool.{cases_eq, cases_lt}
use Rattle.std.proofs.lemmas.List.Elements.{Contains-append_cases, Contains-append_left, Contains-append_right}
use Rattle.std.proofs.lemmas.Option.{slice_get_within}
use Rattle.std.specs.Prelude.{◌↔◌, Contains, Some, slice_get, slice_set}
use Rattle.lists.specs.Distinct.{AreDistinct}
use Rattle.rdf_terms.specs.declared.terms.Term.{Term}
use Rattle.rdf_terms.specs.declared.terms.Triple.{Triple}
use Rattle.schema_tree.specs.declared.schema.Pair.{Pair}
use Rattle.schema_tree.specs.declared.schema.Schema.{Schema}
use Rattle.schema_tree.specs.declared.verdicts.Lean.TheVariants.{Possible}
use Rattle.schema_tree.specs.declared.verdicts.Verdict.{Verdict}
use Rattle.schema_tree.specs.declared.verdicts.Verdict.TheVariants.{Yes, No, Unknown}
use Rattle.schema_tree.specs.Edges.{level}
use Rattle.schema_tree.specs.Needs.{Needs}
use Rattle.schema_tree.specs.Places.{PairCanMatch}
use Rattle.schema_tree.specs.Removal.{CanGo, ComesBefore, GoesNext, IsNarrow}
use Rattle.schema_tree.specs.Sure.{Known}
use Rattle.schema_tree.proofs.Turns.{in_turn_more}
use Rattle.lists.proofs.Members.{in_one, is_first, not_in_none}
use Rattle.removal_laws.specs.Marks.{KnowSame, known_by, marked, outside}
use Rattle.removal_laws.specs.Stages.{IsBefore, IsOpen, IsRemoving, without}
use Rattle.removal_laws.proofs.Carried.{match_alike}
use Rattle.removal_laws.proofs.Known.{held_at, is_no, is_yes, know_turned, match_known, more_gone, no_at, set_here, set_other, yes_at}
use Rattle.removal_laws.proofs.Marking.{to_mark}

module _ (s : Schema) (terms : List Term) (g : List Triple) (f : List ℕ) (pairs : List Pair) (budget : ℕ) (elsewhere : Known) (distinct : AreDistinct pairs)
    (lower : Known) (k : ℕ) where
  abbrev Goes : List Pair → Pair → Type 0
  Goes gone p = GoesNext s terms g f pairs budget lower k gone p

  abbrev Removing : List Verdict → List Pair → (ℕ → Type 0) → Type 0
  Removing marks gone Todo = IsRemoving s terms g f pairs budget elsewhere lower k marks gone Todo

  abbrev Open : ℕ → Type 0
  Open i = IsOpen s terms g f pairs budget elsewhere k i

  -- an Unknown pair did not go
  not_gone : (marks : List Verdict) (gone : List Pair) (Todo : ℕ → Type 0) → Removing marks gone Todo → (i : ℕ) (p : Pair) → slice_get pairs i ≡ Some p →
      slice_get marks i ≡ Some Unknown → ¬ Contains gone p
  not_gone marks gone Todo r i p at mark c =
      let e = no_at elsewhere pairs distinct marks i p at (r.knows.1.1 p (Contains-append_right lower.no gone p c)) in absurd cc

  -- ---- at the start every open pair is to be looked at

  module _ (marks : List Verdict) (before : IsBefore s terms g f pairs budget elsewhere lower k marks) where
    -- lower knows no pair of the stratum or above
    pub low : (q : Pair) → Contains lower.yes q ⊎ Contains lower.no q → Contains pairs q → level f q.shape < k
    low q known inside = elim (cases_lt (level f q.shape) k) [
      | inl lt ↦ lt
      | inr ge ↦ (let (i, at) = held_at pairs q inside in absurd (by known i at (before.new i q at ge)))
    ]
      where
        by : Contains lower.yes q ⊎ Contains lower.no q → (i : ℕ) → slice_get pairs i ≡ Some q → slice_get marks i ≡ Some Unknown → ⊥
        by (inl y) i at mark = let e = yes_at elsewhere pairs distinct marks i q at (before.knows.0.1 q y) in absurd cc
        by (inr n) i at mark = let e = no_at elsewhere pairs distinct marks i q at (before.knows.1.1 q n) in absurd cc

    pub start : (Todo : ℕ → Type 0) → ((i : ℕ) → Open i → Todo i) → ((i : ℕ) → Todo i → Open i) → Removing marks [] Todo
    start Todo all only = record {
      in_turn = λ r p is. absurd (let w = slice_get_within [] r p is in omega arith);
      knows = (before.knows.0, ((λ q c. Contains-append_left lower.no [] q (before.knows.1.0 q c)), (λ q c. before.knows.1.1 q (back q c))));
      fresh = λ i p at is. inl (before.new i p at (omega arith));
      new = λ i p at lt. before.new i p at (omega arith);
      settled = λ i p at narrow mark out. absurd (out (all i (p, at, narrow)));
      open_to = λ i todo. (only i todo, (let (p, at, narrow) = only i todo in before.new i p at (let e = narrow.1 in omega arith)));
    }
      where
        back : (q : Pair) → Contains (lower.no ++ []) q → Contains lower.no q
        back q c = elim (Contains-append_cases lower.no [] q c) [ inl l ↦ l | inr n ↦ absurd (not_in_none q n) ]

  -- ---- a pair is looked at

  module _ (marks : List Verdict) (gone : List Pair) (at : ℕ) (p : Pair) (here : slice_get pairs at ≡ Some p) (Old : ℕ → Type 0)
      (r : Removing marks gone (λ i. Old i ⊎ (i ≡ at))) where
    -- it can match, and stays
    pub stays : PairCanMatch s terms g (known_by elsewhere pairs marks) Possible p → Removing marks gone Old
    stays match = record {
      in_turn = r.in_turn;
      knows = r.knows;
      fresh = r.fresh;
      new = r.new;
      settled = settled;
      open_to = λ i o. r.open_to i (inl o);
    }
      where
        settled : (i : ℕ) (q : Pair) → slice_get pairs i ≡ Some q → IsNarrow s terms g f pairs budget k q → slice_get marks i ≡ Some Unknown → ¬ Old i →
            PairCanMatch s terms g (without s terms g f pairs budget elsewhere lower gone) Possible q
        settled i q there narrow mark out = elim (cases_eq i at) [
          | inl e ↦ subst (λ u. PairCanMatch s terms g (without s terms g f pairs budget elsewhere lower gone) Possible u)
              (let both : Some p ≡ Some q = sym here ∙ ap (λ j. slice_get pairs j) (sym e) ∙ there in cc)
              (match_known s terms g (known_by elsewhere pairs marks) (without s terms g f pairs budget elsewhere lower gone) Possible p r.knows match)
          | inr ne ↦ r.settled i q there narrow mark (λ h. elim h [ inl o ↦ out o | inr e ↦ ne e ])
        ]

    -- it cannot, and goes
    module _ (never : ¬ PairCanMatch s terms g (known_by elsewhere pairs marks) Possible p) (least : (i : ℕ) → Old i → at < i)
        (Needing New : ℕ → Type 0) (needing : (i : ℕ) (q : Pair) → slice_get pairs i ≡ Some q → Needs s g q p → Needing i)
        (new : (i : ℕ) → New i ↔ (Old i ⊎ (Needing i × Open i × (slice_get (slice_set marks at No) i ≡ Some Unknown)))) where
      abbrev marks' : List Verdict
      marks' = slice_set marks at No

      abbrev gone' : List Pair
      gone' = gone ++ p ∷ []

      abbrev here_open : Open at × (slice_get marks at ≡ Some Unknown)
      here_open = r.open_to at (inr refl)

      same_at : (q : Pair) → slice_get pairs at ≡ Some q → q ≡ p
      same_at q there = let both : Some p ≡ Some q = sym here ∙ there in cc

      narrow : IsNarrow s terms g f pairs budget k p
      narrow = let (q, there, n) = here_open.0 in subst (λ u. IsNarrow s terms g f pairs budget k u) (same_at q there) n

      other_mark : (i : ℕ) → i ≢ at → slice_get marks' i ≡ slice_get marks i
      other_mark i ne = set_other marks at i No ne

      goes : Goes gone p
      goes = (
        (
          narrow,
          not_gone marks gone (λ i. Old i ⊎ (i ≡ at)) r at p here here_open.1,
          (λ m. never (match_known s terms g (without s terms g f pairs budget elsewhere lower gone) (known_by elsewhere pairs marks) Possible p (know_turned _ _ r.knows) m)),
        ),
        first,
      )
        where
          first : (q : Pair) → CanGo s terms g f pairs budget lower k gone q → ¬ ComesBefore pairs q p
          first q (narrow_q, new_q, never_q) (i, j, there, here_j, lt) =
              let e : j ≡ at = distinct j at p here_j here in
              never_q (r.settled i q there narrow_q (mark (r.fresh i q there narrow_q.1))
              (λ h. elim h [ inl o ↦ (let l = least i o in absurd (omega arith)) | inr is ↦ absurd (omega arith) ]))
            where
              mark : (slice_get marks i ≡ Some Unknown) ⊎ Contains gone q → slice_get marks i ≡ Some Unknown
              mark (inl m) = m
              mark (inr c) = absurd (new_q c)

      knows' : KnowSame (known_by elsewhere pairs marks') (without s terms g f pairs budget elsewhere lower gone')
      knows' = (((λ q c. r.knows.0.0 q (yes_back q c)), (λ q c. yes_on q (r.knows.0.1 q c))), (no_back, no_on))
        where
          yes_back : (q : Pair) → Contains (known_by elsewhere pairs marks').yes q → Contains (known_by elsewhere pairs marks).yes q
          yes_back q c = elim (Contains-append_cases (marked Yes pairs marks') (outside pairs elsewhere.yes) q c) [
            | inl m ↦ (let (i, there, mark) = to_mark Yes pairs marks' q m in
                is_yes elsewhere pairs distinct marks i q there (sym (other_mark i (λ e. (let w : slice_get marks' at ≡ Some No = set_here marks at Unknown No here_open.1 in
                let z : slice_get marks' at ≡ Some Yes = subst (λ j. slice_get marks' j ≡ Some Yes) e mark in absurd cc))) ∙ mark))
            | inr o ↦ Contains-append_right (marked Yes pairs marks) (outside pairs elsewhere.yes) q o
          ]

          yes_on : (q : Pair) → Contains (known_by elsewhere pairs marks).yes q → Contains (known_by elsewhere pairs marks').yes q
          yes_on q c = elim (Contains-append_cases (marked Yes pairs marks) (outside pairs elsewhere.yes) q c) [
            | inl m ↦ (let (i, there, mark) = to_mark Yes pairs marks q m in
                is_yes elsewhere pairs distinct marks' i q there (other_mark i (λ e. (let w = here_open.1 in let z : slice_get marks at ≡
                Some Yes = subst (λ j. slice_get marks j ≡ Some Yes) e mark in absurd cc)) ∙ mark))
            | inr o ↦ Contains-append_right (marked Yes pairs marks') (outside pairs elsewhere.yes) q o
          ]

          no_back : (q : Pair) → Contains (known_by elsewhere pairs marks').no q → Contains (lower.no ++ gone') q
          no_back q c = elim (Contains-append_cases (marked No pairs marks') (outside pairs elsewhere.no) q c) [
            | inl m ↦ (let (i, there, mark) = to_mark No pairs marks' q m in
                elim (cases_eq i at) [
                  | inl e ↦ Contains-append_right lower.no gone' q (Contains-append_right gone (p ∷ []) q
                      (subst (λ u. Contains (u ∷ []) q) (same_at q (subst (λ j. slice_get pairs j ≡ Some q) e there)) (is_first q [])))
                  | inr ne ↦ wider q (r.knows.1.0 q (is_no elsewhere pairs distinct marks i q there (sym (other_mark i ne) ∙ mark)))
                ])
            | inr o ↦ wider q (r.knows.1.0 q (Contains-append_right (marked No pairs marks) (outside pairs elsewhere.no) q o))
          ]
            where
              wider : (u : Pair) → Contains (lower.no ++ gone) u → Contains (lower.no ++ gone') u
              wider u h = elim (Contains-append_cases lower.no gone u h) [
                | inl l ↦ Contains-append_left lower.no gone' u l
                | inr w ↦ Contains-append_right lower.no gone' u (Contains-append_left gone (p ∷ []) u w)
              ]

          no_on : (q : Pair) → Contains (lower.no ++ gone') q → Contains (known_by elsewhere pairs marks').no q
          no_on q c = elim (Contains-append_cases lower.no gone' q c) [
            | inl l ↦ kept q (r.knows.1.1 q (Contains-append_left lower.no gone q l))
            | inr w ↦ elim (Contains-append_cases gone (p ∷ []) q w) [
              | inl v ↦ kept q (r.knows.1.1 q (Contains-append_right lower.no gone q v))
              | inr v ↦ subst (λ u. Contains (known_by elsewhere pairs marks').no u) (in_one p q v) (is_no elsewhere pairs distinct marks' at p here (set_here marks at Unknown No here_open.1))
            ]
          ]
            where
              kept : (u : Pair) → Contains (known_by elsewhere pairs marks).no u → Contains (known_by elsewhere pairs marks').no u
              kept u h = elim (Contains-append_cases (marked No pairs marks) (outside pairs elsewhere.no) u h) [
                | inl m ↦ (let (i, there, mark) = to_mark No pairs marks u m in
                    is_no elsewhere pairs distinct marks' i u there (other_mark i (λ e. (let w = here_open.1 in let z : slice_get marks at ≡
                    Some No = subst (λ j. slice_get marks j ≡ Some No) e mark in absurd cc)) ∙ mark))
                | inr o ↦ Contains-append_right (marked No pairs marks') (outside pairs elsewhere.no) u o
              ]

      pub went : Removing marks' gone' New
      went = record {
        in_turn = in_turn_more Goes gone p r.in_turn goes;
        knows = knows';
        fresh = fresh;
        new = λ i q there lt. other_mark i (λ e. (let l = narrow.1 in let w : q ≡ p = same_at q (subst (λ j. slice_get pairs j ≡ Some q) e there) in
            let z : level f q.shape ≡ level f p.shape = ap (λ u. level f u.shape) w in absurd (omega arith))) ∙ r.new i q there lt;
        settled = settled;
        open_to = open_to;
      }
        where
          fresh : (i : ℕ) (q : Pair) → slice_get pairs i ≡ Some q → level f q.shape ≡ k → (slice_get marks' i ≡ Some Unknown) ⊎ Contains gone' q
          fresh i q there is = elim (cases_eq i at) [
            | inl e ↦ inr (Contains-append_right gone (p ∷ []) q (subst (λ u. Contains (u ∷ []) q) (same_at q (subst (λ j. slice_get pairs j ≡ Some q) e there)) (is_first q [])))
            | inr ne ↦ elim (r.fresh i q there is) [
              | inl m ↦ inl (other_mark i ne ∙ m)
              | inr c ↦ inr (Contains-append_left gone (p ∷ []) q c)
            ]
          ]

          settled : (i : ℕ) (q : Pair) → slice_get pairs i ≡ Some q → IsNarrow s terms g f pairs budget k q → slice_get marks' i ≡ Some Unknown → ¬ New i →
              PairCanMatch s terms g (without s terms g f pairs budget elsewhere lower gone') Possible q
          settled i q there n mark out = elim (cases_eq i at) [
            | inl e ↦ (let w : slice_get marks' at ≡ Some No = set_here marks at Unknown No here_open.1 in
                let z : slice_get marks' at ≡ Some Unknown = subst (λ j. slice_get marks' j ≡ Some Unknown) e mark in absurd cc)
            | inr ne ↦ match_alike s terms g (without s terms g f pairs budget elsewhere lower gone) (without s terms g f pairs budget elsewhere lower gone') Possible q
                (λ u need v. more_gone lower.yes lower.no gone p u v (λ e. out ((new i).1 (inr (needing i q there (subst (λ z. Needs s g q z) e need), (q, there, n), mark)))))
                (r.settled i q there n (sym (other_mark i ne) ∙ mark) (λ h. elim h [ inl o ↦ out ((new i).1 (inl o)) | inr e ↦ ne e ]))
          ]

          open_to : (i : ℕ) → New i → Open i × (slice_get marks' i ≡ Some Unknown)
          open_to i h = elim ((new i).0 h) [
            | inl o ↦ (let (is_open, mark) = r.open_to i (inl o) in (is_open, other_mark i (λ e. (let l = least i o in absurd (omega arith))) ∙ mark))
            | inr (n, is_open, mark) ↦ (is_open, mark)
          ]

  -- ---- at the end none can go

  pub ended :
      (marks : List Verdict) (gone : List Pair) (Todo : ℕ → Type 0) → Removing marks gone Todo → ((i : ℕ) → ¬ Todo i) → (p : Pair) → ¬ CanGo s terms g f pairs budget lower k gone p
  ended marks gone Todo r none p (narrow, new, never) =
      let (i, at) = held_at pairs p narrow.0 in
      never (r.settled i p at narrow (mark i (r.fresh i p at narrow.1)) (none i))
    where
      mark : (i : ℕ) → (slice_get marks i ≡ Some Unknown) ⊎ Contains gone p → slice_get marks i ≡ Some Unknown
      mark i (inl m) = m
      mark i (inr c) = absurd (new c)
