-- The reading by sets of positions is exact: a way may end at a place where it holds from an earlier place at which it was entered.
use Rattle.std.proofs.Common.{◌≡◌, ℕ, zero, suc, ◌+◌, ◌<◌, ◌≤◌, ◌⊎◌, inl, inr, List, [], ◌∷◌, ◌++◌, length, drop, refl, arith, sym, subst, ap, ◌∙◌, Bool, true, false, ◌||◌, ◌&&◌, append_assoc, length-append}
use Rattle.std.specs.Prelude.{replicate}
use Rattle.std.proofs.Math.Seq.{drop-append_seam}
use Rattle.std.proofs.lemmas.List.{replicate-append-replicate, length-replicate}
use Rattle.std.proofs.lemmas.Bool.{cases_lt}
use Rattle.xs_pattern.specs.declared.walk.Edge.{Edge}
use Rattle.xs_pattern.specs.Language.{Leads}
use Rattle.xs_pattern.specs.Way.{Way, nothing, never, start, finish, one, then, either, plus, size, passes, first, ends, next, Runs}

-- tests
pub or_left : (a b : Bool) → a ≡ true → (a || b) ≡ true
or_left true b h = refl
or_left false b h = absurd (cc)

pub or_right : (a b : Bool) → b ≡ true → (a || b) ≡ true
or_right true b h = refl
or_right false b h = h

pub or_cases : (a b : Bool) → (a || b) ≡ true → (a ≡ true) ⊎ (b ≡ true)
or_cases true b h = inl refl
or_cases false b h = inr h

pub and_both : (a b : Bool) → a ≡ true → b ≡ true → (a && b) ≡ true
and_both true b h k = k
and_both false b h k = absurd (cc)

pub and_parts : (a b : Bool) → (a && b) ≡ true → (a ≡ true) × (b ≡ true)
and_parts true b h = (refl, h)
and_parts false b h = absurd (cc)

-- paths
pub leads_more : (R : ℕ → ℕ → Type 0) (i : ℕ) (places : List ℕ) (k j : ℕ) → Leads R i places k → R k j → Leads R i (places ++ j ∷ []) j
leads_more R i [] k j at r = (subst (λ v. R v j) at r, refl)
leads_more R i (m ∷ ms) k j (step, rest) r = (step, leads_more R m ms k j rest r)

pub leads_forward : (R : ℕ → ℕ → Type 0) → ((i j : ℕ) → R i j → i ≤ j) → (i : ℕ) (places : List ℕ) (j : ℕ) → Leads R i places j → i ≤ j
leads_forward R up i [] j at = omega arith
leads_forward R up i (k ∷ ks) j (step, rest) =
    let a = up i k step in let b = leads_forward R up k ks j rest in omega arith

pub length-next : (e : Edge) (has : ℕ → Bool) (w : Way) (enters : Bool) (marks : List Bool) → length (next e has w enters marks) ≡ size w
length-next e has nothing enters marks = refl
length-next e has never enters marks = refl
length-next e has start enters marks = refl
length-next e has finish enters marks = refl
length-next e has (one k) enters marks = refl
length-next e has (then a b) enters marks =
    let x = length-next e has a enters marks in
    let y = length-next e has b (ends e a marks || (enters && passes e a)) (drop (size a) marks) in
    omega (arith, length-append (next e has a enters marks) (next e has b (ends e a marks || (enters && passes e a)) (drop (size a) marks)))
length-next e has (either a b) enters marks =
    let x = length-next e has a enters marks in
    let y = length-next e has b enters (drop (size a) marks) in
    omega (arith, length-append (next e has a enters marks) (next e has b enters (drop (size a) marks)))
length-next e has (plus a) enters marks = length-next e has a (enters || ends e a marks) marks

-- what is behind a part of known length
behind : (n : ℕ) (xs ys all : List Bool) → length xs ≡ n → all ≡ xs ++ ys → drop n all ≡ ys
behind n xs ys all len is = subst (λ v. drop n v ≡ ys) (sym is) (subst (λ v. drop v (xs ++ ys) ≡ ys) len (drop-append_seam xs ys))

regroup : (xs ys zs all : List Bool) → all ≡ (xs ++ ys) ++ zs → all ≡ xs ++ (ys ++ zs)
regroup xs ys zs all is = is ∙ append_assoc xs ys zs

blank_parts : (n m : ℕ) (rest all : List Bool) → all ≡ replicate (n + m) false ++ rest → all ≡ replicate n false ++ (replicate m false ++ rest)
blank_parts n m rest all is = regroup (replicate n false) (replicate m false) rest all (is ∙ ap (λ v. v ++ rest) (sym (replicate-append-replicate n m false)))

blank_behind : (n m : ℕ) (rest all : List Bool) → all ≡ replicate (n + m) false ++ rest → drop n all ≡ replicate m false ++ rest
blank_behind n m rest all is = behind n (replicate n false) (replicate m false ++ rest) all (length-replicate n false) (blank_parts n m rest all is)

module _ (edge : ℕ → Edge) (has : ℕ → ℕ → Bool) where
  -- marks are those of the way, entered at some places, first blank and then each made from the one before
  pub record IsRun (w : Way) (enters : ℕ → Bool) (marks : ℕ → List Bool) : Type 0 where
    pub blank : (rest : List Bool) × (marks 0 ≡ replicate (size w) false ++ rest)
    pub goes : (j : ℕ) → (rest : List Bool) × (marks (suc j) ≡ next (edge j) (has j) w (enters j) (marks j) ++ rest)

  -- it holds up to j from an earlier place at which it was entered
  abbrev pub Came : Way → (ℕ → Bool) → ℕ → Type 0
  Came w enters j = (i : ℕ) × (i < j) × (enters i ≡ true) × Runs edge has w i j

  pub forward : (w : Way) (i j : ℕ) → Runs edge has w i j → i ≤ j
  unfolding Runs
  forward nothing i j h = omega arith
  forward never i j h = absurd h
  forward start i j h = omega (arith, h.1)
  forward finish i j h = omega (arith, h.1)
  forward (one k) i j h = omega (arith, h.1)
  forward (then a b) i j (k, x, y) = let p = forward a i k x in let q = forward b k j y in omega arith
  forward (either a b) i j (inl x) = forward a i j x
  forward (either a b) i j (inr y) = forward b i j y
  forward (plus a) i j (places, some, path) = leads_forward (Runs edge has a) (forward a) i places j path

  -- a way passes where it holds between a place and itself
  same_place : (i k j : ℕ) → i ≤ k → k ≤ j → j ≡ i → k ≡ i
  same_place i k j a b c = omega arith

  pub passes_holds : (w : Way) (j : ℕ) → passes (edge j) w ≡ true → Runs edge has w j j
  unfolding Runs
  passes_holds nothing j h = refl
  passes_holds never j h = absurd (cc)
  passes_holds start j h = (h, refl)
  passes_holds finish j h = (h, refl)
  passes_holds (one k) j h = absurd (cc)
  passes_holds (then a b) j h =
      let p = and_parts (passes (edge j) a) (passes (edge j) b) h in
      (j, passes_holds a j p.0, passes_holds b j p.1)
  passes_holds (either a b) j h = elim (or_cases (passes (edge j) a) (passes (edge j) b) h) [
    | inl x ↦ inl (passes_holds a j x)
    | inr y ↦ inr (passes_holds b j y)
  ]
  passes_holds (plus a) j h = (j ∷ [], omega arith, (passes_holds a j h, refl))

  pub holds_passes : (w : Way) (j : ℕ) → Runs edge has w j j → passes (edge j) w ≡ true
  unfolding Runs
  holds_passes nothing j h = refl
  holds_passes never j h = absurd h
  holds_passes start j h = h.0
  holds_passes finish j h = h.0
  holds_passes (one k) j h = absurd (omega (arith, h.1))
  holds_passes (then a b) j (k, x, y) =
      let at = same_place j k j (forward a j k x) (forward b k j y) refl in
      and_both (passes (edge j) a) (passes (edge j) b) (holds_passes a j (subst (λ v. Runs edge has a j v) at x)) (holds_passes b j (subst (λ v. Runs edge has b v j) at y))
  holds_passes (either a b) j (inl x) = or_left (passes (edge j) a) (passes (edge j) b) (holds_passes a j x)
  holds_passes (either a b) j (inr y) = or_right (passes (edge j) a) (passes (edge j) b) (holds_passes b j y)
  holds_passes (plus a) j ([], some, path) = absurd (omega arith)
  holds_passes (plus a) j (k ∷ ks, some, (step, path)) =
      let at = same_place j k j (forward a j k step) (leads_forward (Runs edge has a) (forward a) k ks j path) refl in
      holds_passes a j (subst (λ v. Runs edge has a j v) at step)

  -- the run of the parts of a way
  left_then : (a b : Way) (enters : ℕ → Bool) (marks : ℕ → List Bool) → IsRun (then a b) enters marks → IsRun a enters marks
  left_then a b enters marks run = record {
    blank = (replicate (size b) false ++ run.blank.0, blank_parts (size a) (size b) run.blank.0 (marks 0) run.blank.1);
    goes = λ j.
        let other = next (edge j) (has j) b (ends (edge j) a (marks j) || (enters j && passes (edge j) a)) (drop (size a) (marks j)) in
        (other ++ (run.goes j).0, regroup (next (edge j) (has j) a (enters j) (marks j)) other (run.goes j).0 (marks (suc j)) (run.goes j).1);
  }

  left_either : (a b : Way) (enters : ℕ → Bool) (marks : ℕ → List Bool) → IsRun (either a b) enters marks → IsRun a enters marks
  left_either a b enters marks run = record {
    blank = (replicate (size b) false ++ run.blank.0, blank_parts (size a) (size b) run.blank.0 (marks 0) run.blank.1);
    goes = λ j.
        let other = next (edge j) (has j) b (enters j) (drop (size a) (marks j)) in
        (other ++ (run.goes j).0, regroup (next (edge j) (has j) a (enters j) (marks j)) other (run.goes j).0 (marks (suc j)) (run.goes j).1);
  }

  -- where the second part of a sequence is entered
  abbrev pub handed : Way → (ℕ → Bool) → (ℕ → List Bool) → ℕ → Bool
  handed a enters marks j = ends (edge j) a (marks j) || (enters j && passes (edge j) a)

  right_then : (a b : Way) (enters : ℕ → Bool) (marks : ℕ → List Bool) → IsRun (then a b) enters marks → IsRun b (handed a enters marks) (λ j. drop (size a) (marks j))
  right_then a b enters marks run = record {
    blank = (run.blank.0, blank_behind (size a) (size b) run.blank.0 (marks 0) run.blank.1);
    goes = λ j.
        let one = next (edge j) (has j) a (enters j) (marks j) in
        let other = next (edge j) (has j) b (handed a enters marks j) (drop (size a) (marks j)) in
        ((run.goes j).0, behind (size a) one (other ++ (run.goes j).0) (marks (suc j)) (length-next (edge j) (has j) a (enters j) (marks j)) (regroup one other (run.goes j).0 (marks (suc j)) (run.goes j).1));
  }

  right_either : (a b : Way) (enters : ℕ → Bool) (marks : ℕ → List Bool) → IsRun (either a b) enters marks → IsRun b enters (λ j. drop (size a) (marks j))
  right_either a b enters marks run = record {
    blank = (run.blank.0, blank_behind (size a) (size b) run.blank.0 (marks 0) run.blank.1);
    goes = λ j.
        let one = next (edge j) (has j) a (enters j) (marks j) in
        let other = next (edge j) (has j) b (enters j) (drop (size a) (marks j)) in
        ((run.goes j).0, behind (size a) one (other ++ (run.goes j).0) (marks (suc j)) (length-next (edge j) (has j) a (enters j) (marks j)) (regroup one other (run.goes j).0 (marks (suc j)) (run.goes j).1));
  }

  -- where the body of a repetition is entered
  abbrev pub again : Way → (ℕ → Bool) → (ℕ → List Bool) → ℕ → Bool
  again a enters marks j = enters j || ends (edge j) a (marks j)

  inner_plus : (a : Way) (enters : ℕ → Bool) (marks : ℕ → List Bool) → IsRun (plus a) enters marks → IsRun a (again a enters marks) marks
  inner_plus a enters marks run = record { blank = run.blank; goes = run.goes }

  -- both ways at one place
  abbrev pub Exact : Way → (ℕ → Bool) → (ℕ → List Bool) → Type 0
  Exact w enters marks = (j : ℕ) → (ends (edge j) w (marks j) ≡ true → Came w enters j) × (Came w enters j → ends (edge j) w (marks j) ≡ true)

  exact_one : (k : ℕ) (enters : ℕ → Bool) (marks : ℕ → List Bool) → IsRun (one k) enters marks → Exact (one k) enters marks
  unfolding Runs
  exact_one k enters marks run zero = (λ h. absurd (let e = ap first run.blank.1 in cc), λ (i, lt, x, r). absurd (omega arith))
  exact_one k enters marks run (suc j) =
      let at : first (marks (suc j)) ≡ (enters j && has j k) = ap first (run.goes j).1 in (
        λ h. (let p = and_parts (enters j) (has j k) (sym at ∙ h) in (j, omega arith, p.0, (p.1, omega arith))),
        λ (i, lt, x, (r, is)). (let same : i ≡ j = omega arith in at ∙ and_both (enters j) (has j k) (subst (λ v. enters v ≡ true) same x) (subst (λ v. has v k ≡ true) same r)),
      )

  handed_came : (a : Way) (enters : ℕ → Bool) (marks : ℕ → List Bool) → Exact a enters marks → (k : ℕ) → handed a enters marks k ≡ true → (i : ℕ) × (i ≤ k) × (enters i ≡ true) × Runs edge has a i k
  handed_came a enters marks left k h = elim (or_cases (ends (edge k) a (marks k)) (enters k && passes (edge k) a) h) [
    | inl x ↦ widen ((left k).0 x)
    | inr y ↦ stay (and_parts (enters k) (passes (edge k) a) y)
  ]
    where
      widen : Came a enters k → (i : ℕ) × (i ≤ k) × (enters i ≡ true) × Runs edge has a i k
      widen (i, lt, e, r) = (i, omega arith, e, r)

      stay : (enters k ≡ true) × (passes (edge k) a ≡ true) → (i : ℕ) × (i ≤ k) × (enters i ≡ true) × Runs edge has a i k
      stay (e, p) = (k, omega arith, e, passes_holds a k p)

  came_handed : (a : Way) (enters : ℕ → Bool) (marks : ℕ → List Bool) → Exact a enters marks → (i k : ℕ) → enters i ≡ true → Runs edge has a i k → handed a enters marks k ≡ true
  came_handed a enters marks left i k e r = go (cases_lt i k)
    where
      go : (i < k) ⊎ (k ≤ i) → handed a enters marks k ≡ true
      go (inl lt) = or_left (ends (edge k) a (marks k)) (enters k && passes (edge k) a) ((left k).1 (i, lt, e, r))
      go (inr le) =
          let up = forward a i k r in
          let same : i ≡ k = omega arith in
          or_right (ends (edge k) a (marks k)) (enters k && passes (edge k) a)
          (and_both (enters k) (passes (edge k) a) (subst (λ v. enters v ≡ true) same e) (holds_passes a k (subst (λ v. Runs edge has a v k) same r)))

  exact_then : (a b : Way) (enters : ℕ → Bool) (marks : ℕ → List Bool) → Exact a enters marks → Exact b (handed a enters marks) (λ j. drop (size a) (marks j)) → Exact (then a b) enters marks
  unfolding Runs
  exact_then a b enters marks left right j = (out, into)
    where
      second : Came b (handed a enters marks) j → Came (then a b) enters j
      second (k, lt, e, r) = let f = handed_came a enters marks left k e in (f.0, omega arith, f.2, (k, f.3, r))

      past : (ends (edge j) a (marks j) ≡ true) × (passes (edge j) b ≡ true) → Came (then a b) enters j
      past (x, p) = let f = (left j).0 x in (f.0, f.1, f.2, (j, f.3, passes_holds b j p))

      out : ends (edge j) (then a b) (marks j) ≡ true → Came (then a b) enters j
      out h = elim (or_cases (ends (edge j) b (drop (size a) (marks j))) (ends (edge j) a (marks j) && passes (edge j) b) h) [
        | inl x ↦ second ((right j).0 x)
        | inr y ↦ past (and_parts (ends (edge j) a (marks j)) (passes (edge j) b) y)
      ]

      meets : (i k : ℕ) → i < j → enters i ≡ true → Runs edge has a i k → Runs edge has b k j → (k < j) ⊎ (j ≤ k) → ends (edge j) (then a b) (marks j) ≡ true
      meets i k lt e x y (inl before) = or_left (ends (edge j) b (drop (size a) (marks j))) (ends (edge j) a (marks j) && passes (edge j) b)
          ((right j).1 (k, before, came_handed a enters marks left i k e x, y))
      meets i k lt e x y (inr le) =
          let up = forward b k j y in
          let same : k ≡ j = omega arith in
          or_right (ends (edge j) b (drop (size a) (marks j))) (ends (edge j) a (marks j) && passes (edge j) b)
          (and_both (ends (edge j) a (marks j)) (passes (edge j) b) ((left j).1 (i, lt, e, subst (λ v. Runs edge has a i v) same x)) (holds_passes b j (subst (λ v. Runs edge has b v j) same y)))

      into : Came (then a b) enters j → ends (edge j) (then a b) (marks j) ≡ true
      into (i, lt, e, (k, x, y)) = meets i k lt e x y (cases_lt k j)

  exact_either : (a b : Way) (enters : ℕ → Bool) (marks : ℕ → List Bool) → Exact a enters marks → Exact b enters (λ j. drop (size a) (marks j)) → Exact (either a b) enters marks
  unfolding Runs
  exact_either a b enters marks left right j = (out, into)
    where
      first_one : Came a enters j → Came (either a b) enters j
      first_one (i, lt, e, r) = (i, lt, e, inl r)

      second_one : Came b enters j → Came (either a b) enters j
      second_one (i, lt, e, r) = (i, lt, e, inr r)

      out : ends (edge j) (either a b) (marks j) ≡ true → Came (either a b) enters j
      out h = elim (or_cases (ends (edge j) a (marks j)) (ends (edge j) b (drop (size a) (marks j))) h) [
        | inl x ↦ first_one ((left j).0 x)
        | inr y ↦ second_one ((right j).0 y)
      ]

      into : Came (either a b) enters j → ends (edge j) (either a b) (marks j) ≡ true
      into (i, lt, e, inl r) = or_left (ends (edge j) a (marks j)) (ends (edge j) b (drop (size a) (marks j))) ((left j).1 (i, lt, e, r))
      into (i, lt, e, inr r) = or_right (ends (edge j) a (marks j)) (ends (edge j) b (drop (size a) (marks j))) ((right j).1 (i, lt, e, r))

  module _ (a : Way) (enters : ℕ → Bool) (marks : ℕ → List Bool) (inner : Exact a (again a enters marks) marks) where
    -- a path of at least one step leads up to j from an earlier place at which the repetition was entered
    abbrev Path : ℕ → Type 0
    Path j = (i : ℕ) × (places : List ℕ) × (i < j) × (enters i ≡ true) × (1 ≤ length places) × Leads (Runs edge has a) i places j

    extended : (k j : ℕ) → k < j → Runs edge has a k j → Path k → Path j
    extended k j lt r (i, places, before, e, some, path) = (i, places ++ j ∷ [], omega arith, e, omega (arith, length-append places (j ∷ [])), leads_more (Runs edge has a) i places k j path r)

    -- each end of the body is reached by such a path
    stepped : (j : ℕ) → ((k : ℕ) → k < j → ends (edge k) a (marks k) ≡ true → Path k) → Came a (again a enters marks) j → Path j
    stepped j earlier (k, lt, e, r) = elim (or_cases (enters k) (ends (edge k) a (marks k)) e) [
      | inl x ↦ (k, j ∷ [], lt, x, omega arith, (r, refl))
      | inr y ↦ extended k j lt r (earlier k lt y)
    ]

    path_back : (n j : ℕ) → j ≤ n → ends (edge j) a (marks j) ≡ true → Path j
    path_back zero j le h = let lt = ((inner j).0 h).1 in absurd (omega arith)
    path_back (suc n) j le h = stepped j (λ k lt. path_back n k (omega arith)) ((inner j).0 h)

    moved : (i k j : ℕ) (ks : List ℕ) → again a enters marks i ≡ true → Runs edge has a i k → Leads (Runs edge has a) k ks j →
        (k < j → again a enters marks k ≡ true → ends (edge j) a (marks j) ≡ true) → i < j → (i < k) ⊎ (k ≤ i) → (k < j) ⊎ (j ≤ k) → ends (edge j) a (marks j) ≡ true
    moved i k j ks e r path on lt (inr le) q =
        let up = forward a i k r in
        let same : i ≡ k = omega arith in
        on (omega arith) (subst (λ v. again a enters marks v ≡ true) same e)
    moved i k j ks e r path on lt (inl before) (inl after) = on after (or_right (enters k) (ends (edge k) a (marks k)) ((inner k).1 (i, before, e, r)))
    moved i k j ks e r path on lt (inl before) (inr le) =
        let up = leads_forward (Runs edge has a) (forward a) k ks j path in
        let same : k ≡ j = omega arith in
        subst (λ v. ends (edge v) a (marks v) ≡ true) same ((inner k).1 (i, before, e, r))

    -- a path from where the body is entered leads to an end of it
    path_on : (i : ℕ) (places : List ℕ) (j : ℕ) → i < j → again a enters marks i ≡ true → Leads (Runs edge has a) i places j → ends (edge j) a (marks j) ≡ true
    path_on i [] j lt e at = absurd (omega arith)
    path_on i (k ∷ ks) j lt e (r, path) = moved i k j ks e r path (λ after into. path_on k ks j after into path) lt (cases_lt i k) (cases_lt k j)

    exact_plus : Exact (plus a) enters marks
    unfolding Runs
    exact_plus j = (out, into)
      where
        out : ends (edge j) (plus a) (marks j) ≡ true → Came (plus a) enters j
        out h = let f = path_back j j (omega arith) h in (f.0, f.2, f.3, (f.1, f.4, f.5))

        into : Came (plus a) enters j → ends (edge j) (plus a) (marks j) ≡ true
        into (i, lt, e, (places, some, path)) = path_on i places j lt (or_left (enters i) (ends (edge i) a (marks i)) e) path

  -- what never moves a text on has no end behind a character
  exact_still : (w : Way) (enters : ℕ → Bool) (marks : ℕ → List Bool) → ((j : ℕ) → ends (edge j) w (marks j) ≡ false) → ((i j : ℕ) → Runs edge has w i j → j ≤ i) → Exact w enters marks
  exact_still w enters marks ended back j = (out, into)
    where
      out : ends (edge j) w (marks j) ≡ true → Came w enters j
      out h = let e = ended j in absurd (cc)

      into : Came w enters j → ends (edge j) w (marks j) ≡ true
      into (i, lt, e, r) = let le = back i j r in absurd (omega arith)

  -- a way may end at a place exactly where it holds up to it from an earlier place at which it was entered
  pub exact : (w : Way) (enters : ℕ → Bool) (marks : ℕ → List Bool) → IsRun w enters marks → Exact w enters marks
  unfolding Runs
  exact nothing enters marks run = exact_still nothing enters marks (λ j. refl) (λ i j r. omega arith)
  exact never enters marks run = exact_still never enters marks (λ j. refl) (λ i j r. absurd r)
  exact start enters marks run = exact_still start enters marks (λ j. refl) (λ i j r. omega (arith, r.1))
  exact finish enters marks run = exact_still finish enters marks (λ j. refl) (λ i j r. omega (arith, r.1))
  exact (one k) enters marks run = exact_one k enters marks run
  exact (then a b) enters marks run = exact_then a b enters marks (exact a enters marks (left_then a b enters marks run))
      (exact b (handed a enters marks) (λ j. drop (size a) (marks j)) (right_then a b enters marks run))
  exact (either a b) enters marks run = exact_either a b enters marks (exact a enters marks (left_either a b enters marks run))
      (exact b enters (λ j. drop (size a) (marks j)) (right_either a b enters marks run))
  exact (plus a) enters marks run = exact_plus a enters marks (exact a (again a enters marks) marks (inner_plus a enters marks run))
