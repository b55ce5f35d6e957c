-- Visits to places, one after the other.
use Rattle.std.proofs.Common.{◌≡◌, ℕ, zero, suc, ◌+◌, ◌<◌, List, [], ◌∷◌, ◌++◌, refl, sym, ap, subst, arith, length, ◌∙◌, get_or, set, Some, Bool, true, false, inl, inr, ◌⊎◌, map, get_or-set_other, length-set, length-append, replicate, true≢false}
use Rattle.std.specs.Prelude.{Contains, slice_get}
use Rattle.std.proofs.lemmas.Bool.{cases_eq}
use Rattle.std.proofs.lemmas.List.{length-map, length-replicate}
use Rattle.std.proofs.lemmas.Option.{slice_get_within}
use Rattle.schema_load.specs.declared.part.Part.{Part}
use Rattle.schema_load.specs.declared.sorting.Visit.{Visit}
use Rattle.schema_load.specs.declared.sorting.Visit.TheVariants.{Enter, Leave}
use Rattle.schema_load.specs.Graph.{Reaches, at_once}
use Rattle.schema_load.specs.Parts.{IsAt}
use Rattle.schema_load.specs.Sorting.{AreEntered, IsBehind, IsVisited, IsVisiting, place_of, unopened}
use Rattle.schema_load.specs.Steps.{AreInside, AreTargets, IsNext, Keeps, nexts, undone}
use Rattle.schema_load.proofs.Leads.{step_of}
use Rattle.schema_load.proofs.Loadable.{append_cases, held_at, index_of}
use Rattle.schema_load.proofs.Sorts.{next_at, none_done, one_left}
use Rattle.schema_load.proofs.Stuck.{reach_more}

-- ---- lists by index

pub get_left : {X : Type 0} (xs ys : List X) (i : ℕ) (x : X) → slice_get xs i ≡ Some x → slice_get (xs ++ ys) i ≡ Some x
get_left [] ys i x e = absurd (let bad : ⊥ = cc in bad)
get_left (y ∷ xs) ys zero x e = e
get_left (y ∷ xs) ys (suc i) x e = get_left xs ys i x e

pub get_right : {X : Type 0} (xs ys : List X) (k : ℕ) (x : X) → slice_get ys k ≡ Some x → slice_get (xs ++ ys) (length xs + k) ≡ Some x
get_right [] ys k x e = subst (λ n. slice_get ys n ≡ Some x) (let h : k ≡ 0 + k = omega arith in h) e
get_right (y ∷ xs) ys k x e = subst (λ n. slice_get (y ∷ (xs ++ ys)) n ≡ Some x) (let h : suc (length xs + k) ≡ suc (length xs) + k = omega arith in h) (get_right xs ys k x e)

pub get_last : {X : Type 0} (xs : List X) (x : X) → slice_get (xs ++ x ∷ []) (length xs) ≡ Some x
get_last xs x = subst (λ n. slice_get (xs ++ x ∷ []) n ≡ Some x) (let h : length xs + 0 ≡ length xs = omega arith in h) (get_right xs (x ∷ []) 0 x refl)

only_one : {X : Type 0} (v w : X) (j : ℕ) → slice_get (v ∷ []) j ≡ Some w → (j ≡ 0) × (v ≡ w)
only_one v w zero e = (refl, let same : v ≡ w = cc in same)
only_one v w (suc j) e = absurd (let bad : ⊥ = cc in bad)

pub split_one : {X : Type 0} (xs : List X) (v w : X) (i : ℕ) → slice_get (xs ++ v ∷ []) i ≡ Some w → (slice_get xs i ≡ Some w) ⊎ ((i ≡ length xs) × (v ≡ w))
split_one xs v w i e = elim (append_cases xs (v ∷ []) i w e) [
  | inl (lt, at) ↦ inl at
  | inr (j, is, at) ↦ (let (none, same) = only_one v w j at in inr (omega arith, same))
]

pub entered_is : (ns : List ℕ) (k : ℕ) (w : Visit) → slice_get (map Enter ns) k ≡ Some w → (q : ℕ) × (Enter q ≡ w) × (slice_get ns k ≡ Some q)
entered_is [] k w e = absurd (let bad : ⊥ = cc in bad)
entered_is (n ∷ ns) zero w e = (n, (let same : Enter n ≡ w = cc in same), refl)
entered_is (n ∷ ns) (suc k) w e = entered_is ns k w e

pub entered_at : (ns : List ℕ) (k q : ℕ) → slice_get ns k ≡ Some q → slice_get (map Enter ns) k ≡ Some (Enter q)
entered_at [] k q e = absurd (let bad : ⊥ = cc in bad)
entered_at (n ∷ ns) zero q e = let same : n ≡ q = cc in ap (λ z. Some (Enter z)) same
entered_at (n ∷ ns) (suc k) q e = entered_at ns k q e

-- a flag that is read
pub flag_off : (ms : List Bool) (p : ℕ) (b : Bool) → b ≡ get_or ms p b → b ≡ false → get_or ms p false ≡ false
flag_off ms p b read e = sym (subst (λ z. z ≡ get_or ms p z) e read)

-- ---- all visits

pub entered_none : (visits : List Visit) → visits ≡ [] → AreEntered 0 visits
entered_none visits e = record { size = ap length e; each = λ p lt. absurd (omega arith) }

pub entered_next : (n : ℕ) (visits after : List Visit) → AreEntered n visits → after ≡ visits ++ Enter n ∷ [] → AreEntered (n + 1) after
entered_next n visits after before pushed = record {
  size = ap length pushed ∙ (let h = length-append visits (Enter n ∷ []) in let s = before.size in omega arith);
  each = λ p lt. subst (λ vs. slice_get vs p ≡ Some (Enter p)) (sym pushed) (elim (cases_eq p n) [
    | inl same ↦ subst (λ z. slice_get (visits ++ Enter n ∷ []) z ≡ Some (Enter z)) (sym same)
        (subst (λ z. slice_get (visits ++ Enter n ∷ []) z ≡ Some (Enter n)) before.size (get_last visits (Enter n)))
    | inr apart ↦ get_left visits (Enter n ∷ []) p (Enter p) (before.each p (omega (arith, apart)))
  ]);
}

-- ---- how many can come

pub unopened_set : (parts : List Part) (targets : List ℕ) (opened : List Bool) (p : ℕ) (x : Part) → length targets ≡ length parts →
    length opened ≡ length parts → slice_get parts p ≡ Some x → get_or opened p false ≡ false →
    unopened parts targets (set opened p true) + (1 + length (nexts (get_or targets p 0) x)) ≡ unopened parts targets opened
unopened_set [] targets opened p x a b at free = absurd (let bad : ⊥ = cc in bad)
unopened_set (y ∷ ys) [] opened p x a b at free = absurd (omega arith)
unopened_set (y ∷ ys) (t ∷ ts) [] p x a b at free = absurd (omega arith)
unopened_set (y ∷ ys) (t ∷ ts) (true ∷ os) zero x a b at free = absurd (let bad : ⊥ = cc in bad)
unopened_set (y ∷ ys) (t ∷ ts) (false ∷ os) zero x a b at free = let same : y ≡ x = cc in
    subst (λ z. unopened ys ts os + (1 + length (nexts t z)) ≡ (1 + length (nexts t y)) + unopened ys ts os) same (omega arith)
unopened_set (y ∷ ys) (t ∷ ts) (true ∷ os) (suc p) x a b at free = unopened_set ys ts os p x (omega arith) (omega arith) at free
unopened_set (y ∷ ys) (t ∷ ts) (false ∷ os) (suc p) x a b at free = let h = unopened_set ys ts os p x (omega arith) (omega arith) at free in omega arith

pub now_visits : (rest pushed after : List Visit) (read ns : List ℕ) (p : ℕ) → pushed ≡ rest ++ Leave p ∷ [] → read ≡ ns → after ≡ pushed ++ map Enter read →
    after ≡ (rest ++ Leave p ∷ []) ++ map Enter ns
now_visits rest pushed after read ns p a b e = e ∙ (ap (λ vs. vs ++ map Enter read) a ∙ ap (λ us. (rest ++ Leave p ∷ []) ++ map Enter us) b)

module _ (parts : List Part) (targets : List ℕ) where
  pub visiting_all : (n : ℕ) (visits : List Visit) → n ≡ length parts → AreEntered n visits → IsVisiting parts targets (replicate n false) (replicate n false) visits
  visiting_all n visits size are = record {
    size = length-replicate n false ∙ size;
    inside = λ i v at. (let e = visit_is i v at in let lt = low i v at in subst (λ z. z < length parts) (ap place_of e) (omega arith));
    pending = λ i p q at next. absurd (no_leave i p at);
    reach = λ i j p v at lt there. absurd (no_leave i p at);
    left = λ q is. absurd (none_done n q is);
    waits = λ q lt. inr (q, Enter q, are.each q (omega arith), refl);
  }
    where
      low : (i : ℕ) (v : Visit) → slice_get visits i ≡ Some v → i < n
      low i v at = let w = slice_get_within visits i v at in let s = are.size in omega arith

      visit_is : (i : ℕ) (v : Visit) → slice_get visits i ≡ Some v → Enter i ≡ v
      visit_is i v at = let both : Some (Enter i) ≡ Some v = sym (are.each i (low i v at)) ∙ at in (let same : Enter i ≡ v = cc in same)

      no_leave : (i p : ℕ) → ¬ (slice_get visits i ≡ Some (Leave p))
      no_leave i p at = let same = visit_is i (Leave p) at in (let bad : ⊥ = cc in bad)

  -- ---- the next visit

  module _ (opened done : List Bool) (rest : List Visit) (v : Visit) (before : IsVisiting parts targets opened done (rest ++ v ∷ [])) where
    here : slice_get (rest ++ v ∷ []) (length rest) ≡ Some v
    here = get_last rest v

    earlier : (i : ℕ) (w : Visit) → slice_get rest i ≡ Some w → slice_get (rest ++ v ∷ []) i ≡ Some w
    earlier i w at = get_left rest (v ∷ []) i w at

    pub visit_inside : place_of v < length parts
    visit_inside = before.inside (length rest) v here

    -- a visit to a place that is done goes out
    pub dropped : (after : List Bool) → ((q : ℕ) → get_or done q false ≡ true → get_or after q false ≡ true) → get_or after (place_of v) false ≡ true → IsVisiting parts targets opened after rest
    dropped after still over = record {
      size = before.size;
      inside = λ i w at. before.inside i w (earlier i w at);
      pending = λ i p q at next. elim (before.pending i p q (earlier i (Leave p) at) next) [
        | inl is ↦ inl (still q is)
        | inr (j, w, lt, there, place) ↦ elim (split_one rest v w j there) [
          | inl old ↦ inr (j, w, lt, old, place)
          | inr (e, same) ↦ inl (subst (λ z. get_or after z false ≡ true) (ap place_of same ∙ place) over)
        ]
      ];
      reach = λ i j p w at lt there. before.reach i j p w (earlier i (Leave p) at) lt (earlier j w there);
      left = λ q is. elim (before.left q is) [
        | inl d ↦ inl (still q d)
        | inr (i, at) ↦ elim (split_one rest v (Leave q) i at) [
          | inl old ↦ inr (i, old)
          | inr (e, same) ↦ inl (subst (λ z. get_or after z false ≡ true) (ap place_of same) over)
        ]
      ];
      waits = λ q lt. elim (before.waits q lt) [
        | inl d ↦ inl (still q d)
        | inr (j, w, there, place) ↦ elim (split_one rest v w j there) [
          | inl old ↦ inr (j, w, old, place)
          | inr (e, same) ↦ inl (subst (λ z. get_or after z false ≡ true) (ap place_of same ∙ place) over)
        ]
      ];
    }

    -- all to which a place leads are done when it is left
    pub leave_ready : (p : ℕ) → v ≡ Leave p → (q : ℕ) → IsNext parts targets p q → get_or done q false ≡ true
    leave_ready p e q next = elim (before.pending (length rest) p q (here ∙ ap Some e) next) [
      | inl d ↦ d
      | inr (j, w, lt, there, place) ↦ absurd (let n = slice_get_within (rest ++ v ∷ []) j w there in let l = length-append rest (v ∷ []) in omega arith)
    ]

    -- a place that is entered again before it is left leads to itself
    pub enter_again : (p : ℕ) → v ≡ Enter p → get_or opened p false ≡ true → get_or done p false ≡ false → (q : ℕ) × Reaches parts q q
    enter_again p e entered free = elim (before.left p entered) [
      | inl d ↦ absurd (true≢false (sym d ∙ free))
      | inr (i, at) ↦ elim (split_one rest v (Leave p) i at) [
        | inl old ↦ (p, subst (λ z. Reaches parts p (place_of z)) e (before.reach i (length rest) p v at (slice_get_within rest i (Leave p) old) here))
        | inr (n, same) ↦ absurd (let both : Enter p ≡ Leave p = sym e ∙ same in let bad : ⊥ = cc in bad)
      ]
    ]

  -- a place that is entered for the first time
  module _ (are : AreTargets parts targets) (are_inside : AreInside parts targets) (opened done : List Bool) (rest : List Visit) (p : ℕ) (x : Part)
      (before : IsVisiting parts targets opened done (rest ++ Enter p ∷ [])) (at_p : IsAt parts p x) where
    abbrev ns : List ℕ
    ns = nexts (get_or targets p 0) x

    abbrev base : List Visit
    base = rest ++ Leave p ∷ []

    abbrev now : List Visit
    now = base ++ map Enter ns

    from_rest : (i : ℕ) (w : Visit) → slice_get rest i ≡ Some w → slice_get now i ≡ Some w
    from_rest i w at = get_left base (map Enter ns) i w (get_left rest (Leave p ∷ []) i w at)

    was : (i : ℕ) (w : Visit) → slice_get rest i ≡ Some w → slice_get (rest ++ Enter p ∷ []) i ≡ Some w
    was i w at = get_left rest (Enter p ∷ []) i w at

    was_here : slice_get (rest ++ Enter p ∷ []) (length rest) ≡ Some (Enter p)
    was_here = get_last rest (Enter p)

    is_here : slice_get now (length rest) ≡ Some (Leave p)
    is_here = get_left base (map Enter ns) (length rest) (Leave p) (get_last rest (Leave p))

    -- a visit is an old one, that by which the place is left, or one to a place to which it leads
    data IsOne (i : ℕ) (w : Visit) : Type 0 where
      old : slice_get rest i ≡ Some w → IsOne i w
      own : i ≡ length rest → Leave p ≡ w → IsOne i w
      new : (q : ℕ) → Enter q ≡ w → Contains ns q → length rest < i → IsOne i w

    one_of : (i : ℕ) (w : Visit) → slice_get now i ≡ Some w → IsOne i w
    one_of i w at = elim (append_cases base (map Enter ns) i w at) [
      | inl (lt, there) ↦ elim (split_one rest (Leave p) w i there) [
        | inl here ↦ old here
        | inr (e, same) ↦ own e same
      ]
      | inr (k, e, there) ↦ (let (q, same, is) = entered_is ns k w there in let l = length-append rest (Leave p ∷ []) in new q same (held_at ns k q is) (omega arith))
    ]

    leave_is : (i r : ℕ) → slice_get now i ≡ Some (Leave r) → (slice_get rest i ≡ Some (Leave r)) ⊎ ((i ≡ length rest) × (p ≡ r))
    leave_is i r at = go (one_of i (Leave r) at)
      where
        go : IsOne i (Leave r) → (slice_get rest i ≡ Some (Leave r)) ⊎ ((i ≡ length rest) × (p ≡ r))
        go (old h) = inl h
        go (own e same) = inr (e, let one : p ≡ r = cc in one)
        go (new q same c lt) = absurd (let bad : ⊥ = cc in bad)

    -- a visit to a place is still there
    moved : (j q : ℕ) (w : Visit) → slice_get (rest ++ Enter p ∷ []) j ≡ Some w → place_of w ≡ q → (u : Visit) × (slice_get now j ≡ Some u) × (place_of u ≡ q)
    moved j q w there place = elim (split_one rest (Enter p) w j there) [
      | inl here ↦ (w, from_rest j w here, place)
      | inr (e, same) ↦ (Leave p, subst (λ n. slice_get now n ≡ Some (Leave p)) (sym e) is_here, ap place_of same ∙ place)
    ]

    inside_p : p < length parts
    inside_p = before.inside (length rest) (Enter p) was_here

    pub opened_first : IsVisiting parts targets (set opened p true) done now
    opened_first = record { size = length-set opened p true ∙ before.size; inside = inside; pending = pending; reach = reach; left = left; waits = waits }
      where
        inside : (i : ℕ) (w : Visit) → slice_get now i ≡ Some w → place_of w < length parts
        inside i w at = go (one_of i w at)
          where
            go : IsOne i w → place_of w < length parts
            go (old h) = before.inside i w (was i w h)
            go (own e same) = subst (λ z. place_of z < length parts) same inside_p
            go (new q same c lt) = subst (λ z. place_of z < length parts) same (are_inside p q (x, at_p, c))

        pending : (i r q : ℕ) → slice_get now i ≡ Some (Leave r) → IsNext parts targets r q → (get_or done q false ≡ true) ⊎ IsBehind now i q
        pending i r q at next = elim (leave_is i r at) [
          | inl h ↦ elim (before.pending i r q (was i (Leave r) h) next) [
            | inl d ↦ inl d
            | inr (j, w, lt, there, place) ↦ (let (u, is, same) = moved j q w there place in inr (j, u, lt, is, same))
          ]
          | inr (e, same) ↦ (
              let c = next_at parts targets p q x at_p (subst (λ z. IsNext parts targets z q) (sym same) next) in
              let (k, is) = index_of ns q c in
              let l = length-append rest (Leave p ∷ []) in
              inr (length base + k, Enter q, (let lt : i < length base + k = omega arith in lt), get_right base (map Enter ns) k (Enter q) (entered_at ns k q is), refl)
              )
        ]

        reach : (i j r : ℕ) (w : Visit) → slice_get now i ≡ Some (Leave r) → i < j → slice_get now j ≡ Some w → Reaches parts r (place_of w)
        reach i j r w at lt there = elim (leave_is i r at) [
          | inl h ↦ from_old h (one_of j w there)
          | inr (e, same) ↦ subst (λ z. Reaches parts z (place_of w)) same (from_own e (one_of j w there))
        ]
          where
            from_old : slice_get rest i ≡ Some (Leave r) → IsOne j w → Reaches parts r (place_of w)
            from_old h (old g) = before.reach i j r w (was i (Leave r) h) lt (was j w g)
            from_old h (own e same) = subst (λ z. Reaches parts r (place_of z)) same (before.reach i (length rest) r (Enter p) (was i (Leave r) h) (slice_get_within rest i (Leave r) h) was_here)
            from_old h (new q same c less) =
                subst (λ z. Reaches parts r (place_of z)) same
                (reach_more parts r p q (before.reach i (length rest) r (Enter p) (was i (Leave r) h) (slice_get_within rest i (Leave r) h) was_here) (step_of parts targets are p q (x, at_p, c)))

            from_own : i ≡ length rest → IsOne j w → Reaches parts p (place_of w)
            from_own e (old g) = absurd (let n = slice_get_within rest j w g in omega arith)
            from_own e (own f same) = absurd (omega arith)
            from_own e (new q same c less) = let (y, here, leads) = step_of parts targets are p q (x, at_p, c) in subst (λ z. Reaches parts p (place_of z)) same (at_once here leads)

        left : (q : ℕ) → get_or (set opened p true) q false ≡ true → (get_or done q false ≡ true) ⊎ ((i : ℕ) × (slice_get now i ≡ Some (Leave q)))
        left q is = elim (cases_eq q p) [
          | inl same ↦ inr (length rest, is_here ∙ ap (λ z. Some (Leave z)) (sym same))
          | inr apart ↦ elim (before.left q (sym (get_or-set_other opened p q true false apart) ∙ is)) [
            | inl d ↦ inl d
            | inr (i, at) ↦ elim (split_one rest (Enter p) (Leave q) i at) [
              | inl h ↦ inr (i, from_rest i (Leave q) h)
              | inr (e, same) ↦ absurd (let bad : ⊥ = cc in bad)
            ]
          ]
        ]

        waits : (q : ℕ) → q < length parts → (get_or done q false ≡ true) ⊎ IsVisited now q
        waits q lt = elim (before.waits q lt) [
          | inl d ↦ inl d
          | inr (j, w, there, place) ↦ (let (u, is, same) = moved j q w there place in inr (j, u, is, same))
        ]

    pub fewer : AreTargets parts targets → get_or opened p false ≡ false → length now + unopened parts targets (set opened p true) < (length rest + 1) + unopened parts targets opened
    fewer aims free =
        let h = unopened_set parts targets opened p x aims.size before.size at_p free in
        let a = length-append base (map Enter ns) in
        let b = length-append rest (Leave p ∷ []) in
        let c = length-map ns Enter in
        omega arith

  -- when no visit is left all places are done
  pub all_sorted : (opened done : List Bool) (order : List ℕ) → IsVisiting parts targets opened done [] → Keeps parts targets done order → length order ≡ length parts
  all_sorted opened done order visiting kept = elim (cases_eq (undone done) 0) [
    | inl none ↦ (let c = kept.count in omega arith)
    | inr some ↦ (
        let (p, lt, free) = one_left done (omega (arith, some)) in
        elim (visiting.waits p (let s = kept.size in omega arith)) [
          | inl d ↦ absurd (true≢false (sym d ∙ free))
          | inr (j, w, there, place) ↦ absurd (let bad : ⊥ = cc in bad)
        ]
        )
  ]
