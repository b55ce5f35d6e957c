-- Numbers that are put on an agenda, one by one.
use Rattle.std.proofs.Common.{◌≡◌, ℕ, ◌<◌, ◌+◌, ◌⊎◌, inl, inr, List, [], ◌∷◌, ◌++◌, sym, subst, length, take, get_or}
use Rattle.std.proofs.lemmas.List.{take_more}
use Rattle.std.proofs.lemmas.List.Elements.{Contains-append_cases, Contains-append_left, Contains-append_right}
use Rattle.std.specs.Prelude.{◌↔◌, Contains, Some, None, option_map, slice_get}
use Rattle.lists.proofs.Members.{in_one, is_first}
use Rattle.schema_tree.specs.declared.verdicts.Verdict.{Verdict}
use Rattle.typing_refiner.specs.declared.ground.Ground.{Ground}
use Rattle.typing_refiner.specs.Ready.{GoesBack, IsAmong, Waits}

-- the numbers on the agenda, and those of the list that have P
abbrev pub Holds : List ℕ → List ℕ → (ℕ → Type 0) → List ℕ → Type 0
Holds before xs P now = (q : ℕ) → Contains now q ↔ (Contains before q ⊎ (Contains xs q × P q))

pub in_more : (xs : List ℕ) (i q : ℕ) → i < length xs → Contains (take (i + 1) xs) q ↔ (Contains (take i xs) q ⊎ (q ≡ get_or xs i 0))
in_more xs i q within = (to, from)
  where
    to : Contains (take (i + 1) xs) q → Contains (take i xs) q ⊎ (q ≡ get_or xs i 0)
    to c = elim (Contains-append_cases (take i xs) (get_or xs i 0 ∷ []) q (subst (λ ys. Contains ys q) (take_more xs i 0 within) c)) [
      | inl l ↦ inl l
      | inr r ↦ inr (sym (in_one (get_or xs i 0) q r))
    ]

    from : Contains (take i xs) q ⊎ (q ≡ get_or xs i 0) → Contains (take (i + 1) xs) q
    from h = subst (λ ys. Contains ys q) (sym (take_more xs i 0 within)) (by h)
      where
        by : Contains (take i xs) q ⊎ (q ≡ get_or xs i 0) → Contains (take i xs ++ get_or xs i 0 ∷ []) q
        by (inl l) = Contains-append_left (take i xs) (get_or xs i 0 ∷ []) q l
        by (inr e) = Contains-append_right (take i xs) (get_or xs i 0 ∷ []) q (subst (λ z. Contains (get_or xs i 0 ∷ []) z) (sym e) (is_first (get_or xs i 0) []))

-- the next one has P, and is put on the agenda
pub put_one : (before xs : List ℕ) (P : ℕ → Type 0) (i : ℕ) (old new : List ℕ) → i < length xs → Holds before (take i xs) P old → P (get_or xs i 0) →
    ((q : ℕ) → Contains new q ↔ (Contains old q ⊎ (q ≡ get_or xs i 0))) → Holds before (take (i + 1) xs) P new
put_one before xs P i old new within h p put q = (to, from)
  where
    to : Contains new q → Contains before q ⊎ (Contains (take (i + 1) xs) q × P q)
    to c = elim ((put q).0 c) [
      | inl o ↦ elim ((h q).0 o) [ inl b ↦ inl b | inr t ↦ inr ((in_more xs i q within).1 (inl t.0), t.1) ]
      | inr e ↦ inr ((in_more xs i q within).1 (inr e), subst P (sym e) p)
    ]

    from : Contains before q ⊎ (Contains (take (i + 1) xs) q × P q) → Contains new q
    from (inl b) = (put q).1 (inl ((h q).1 (inl b)))
    from (inr t) = elim ((in_more xs i q within).0 t.0) [
      | inl l ↦ (put q).1 (inl ((h q).1 (inr (l, t.1))))
      | inr e ↦ (put q).1 (inr e)
    ]

-- it has it not, and the agenda stays
pub pass_one : (before xs : List ℕ) (P : ℕ → Type 0) (i : ℕ) (old : List ℕ) → i < length xs → Holds before (take i xs) P old → ¬ P (get_or xs i 0) →
    Holds before (take (i + 1) xs) P old
pass_one before xs P i old within h none q = (to, from)
  where
    to : Contains old q → Contains before q ⊎ (Contains (take (i + 1) xs) q × P q)
    to c = elim ((h q).0 c) [ inl b ↦ inl b | inr t ↦ inr ((in_more xs i q within).1 (inl t.0), t.1) ]

    from : Contains before q ⊎ (Contains (take (i + 1) xs) q × P q) → Contains old q
    from (inl b) = (h q).1 (inl b)
    from (inr t) = elim ((in_more xs i q within).0 t.0) [
      | inl l ↦ (h q).1 (inr (l, t.1))
      | inr e ↦ absurd (none (subst P e t.1))
    ]

-- the numbers that need the pair of a number are those that are kept with it
pub back_among :
    (h : Ground) (k at : ℕ) (marks : List Verdict) (mark : Verdict) (needing old xs new : List ℕ) → option_map (λ v. v.items) (slice_get h.needing.now at) ≡ Some needing → xs ≡ needing →
    Holds old xs (Waits h k marks mark) new → (q : ℕ) → Contains new q ↔ (Contains old q ⊎ GoesBack h k at marks mark q)
back_among h k at marks mark needing old xs new is same holds q = (
  (λ c. elim ((holds q).0 c) [
    | inl l ↦ inl l
    | inr t ↦ inr (subst (λ o. IsAmong o q) (sym is) (subst (λ ys. Contains ys q) same t.0), t.1)
  ]),
  (λ c. elim c [
    | inl l ↦ (holds q).1 (inl l)
    | inr t ↦ (holds q).1 (inr (subst (λ ys. Contains ys q) (sym same) (subst (λ o. IsAmong o q) is t.0), t.1))
  ]),
)

pub back_none :
    (h : Ground) (k at : ℕ) (marks : List Verdict) (mark : Verdict) (old : List ℕ) → slice_get h.needing.now at ≡ None →
    (q : ℕ) → Contains old q ↔ (Contains old q ⊎ GoesBack h k at marks mark q)
back_none h k at marks mark old is q = (inl, (λ c. elim c [ inl l ↦ l | inr t ↦ absurd (subst (λ o. IsAmong (option_map (λ v. v.items) o) q) is t.0) ]))

-- all of the list are put on the agenda
pub holds_all : (before xs now : List ℕ) → Holds before xs (λ q. Unit {0}) now → (q : ℕ) → Contains now q ↔ (Contains before q ⊎ Contains xs q)
holds_all before xs now h q = (
  (λ c. elim ((h q).0 c) [ inl l ↦ inl l | inr t ↦ inr t.0 ]),
  (λ c. elim c [ inl l ↦ (h q).1 (inl l) | inr r ↦ (h q).1 (inr (r, tt)) ]),
)
