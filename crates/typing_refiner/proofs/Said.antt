-- What is said of pairs at their numbers.
use Rattle.std.proofs.Common.{◌≡◌, ◌≢◌, ◌∙◌, ℕ, zero, suc, ◌<◌, ◌⊎◌, inl, inr, List, [], ◌∷◌, arith, refl, sym, ap, subst, length}
use Rattle.std.proofs.lemmas.Bool.{cases_eq}
use Rattle.std.proofs.lemmas.Option.{slice_get_within}
use Rattle.std.specs.Prelude.{Contains, Option, Some, None, slice_get, slice_set}
use Rattle.lists.proofs.Members.{in_rest, is_first, is_later, not_in_none}
use Rattle.proof_file.specs.declared.RecordKind.{RecordKind}
use Rattle.proof_file.specs.declared.RecordKind.TheVariants.{Minus, Plus}
use Rattle.removal_laws.proofs.Known.{set_other}
use Rattle.typing_refiner.specs.declared.removal.Removed.{Removed}
use Rattle.typing_refiner.specs.declared.strata_loop.Confirmed.{Confirmed}
use Rattle.typing_refiner.specs.Filing.{put_confirmed, put_gone, put_strata}

abbrev pub Kinds : Type 0
Kinds = List (Option RecordKind)

-- something is said at the number
abbrev pub IsSaid : Kinds → ℕ → Type 0
IsSaid kinds i = (k : RecordKind) × (slice_get kinds i ≡ Some (Some k))

set_is : {X : Type 0} (xs : List X) (i : ℕ) (v y : X) → slice_get (slice_set xs i v) i ≡ Some y → v ≡ y
set_is [] i v y e = absurd (let f : None ≡ Some y = e in cc)
set_is (x ∷ xs) zero v y e = let f : Some v ≡ Some y = e in cc
set_is (x ∷ xs) (suc i) v y e = set_is xs i v y e

pub set_in : {X : Type 0} (xs : List X) (i : ℕ) (v : X) → i < length xs → slice_get (slice_set xs i v) i ≡ Some v
set_in [] i v lt = absurd (omega (arith, lt))
set_in (x ∷ xs) zero v lt = refl
set_in (x ∷ xs) (suc i) v lt = set_in xs i v (let k : suc i < suc (length xs) = lt in let l : i < length xs = omega (arith, k) in l)

pub set_long : {X : Type 0} (xs : List X) (i : ℕ) (v : X) → length (slice_set xs i v) ≡ length xs
set_long [] i v = refl
set_long (x ∷ xs) zero v = refl
set_long (x ∷ xs) (suc i) v = ap suc (set_long xs i v)

within_said : (kinds : Kinds) (i : ℕ) (k : RecordKind) → slice_get kinds i ≡ Some (Some k) → i < length kinds
within_said kinds i k e = slice_get_within kinds i (Some k) e

-- what is said after one more is put
set_said : (kinds : Kinds) (at : ℕ) (k : RecordKind) (i : ℕ) (v : RecordKind) → slice_get (slice_set kinds at (Some k)) i ≡ Some (Some v) → (slice_get kinds i ≡ Some (Some v)) ⊎ ((at ≡ i) × (v ≡ k))
set_said kinds at k i v e = elim (cases_eq i at) [
  | inl is ↦ inr (sym is, (let f : Some k ≡ Some v = set_is kinds at (Some k) (Some v) (subst (λ j. slice_get (slice_set kinds at (Some k)) j ≡ Some (Some v)) is e) in let g : v ≡ k = cc in g))
  | inr ne ↦ inl (sym (set_other kinds at i (Some k) ne) ∙ e)
]

set_kept : (kinds : Kinds) (at : ℕ) (k : RecordKind) (i : ℕ) → IsSaid kinds i → IsSaid (slice_set kinds at (Some k)) i
set_kept kinds at k i (v, e) = elim (cases_eq i at) [
  | inl is ↦ (k, subst (λ j. slice_get (slice_set kinds at (Some k)) j ≡ Some (Some k)) (sym is) (set_in kinds at (Some k) (subst (λ j. j < length kinds) is (within_said kinds i v e))))
  | inr ne ↦ (v, set_other kinds at i (Some k) ne ∙ e)
]

-- ---- of pairs that went

abbrev pub SaysGone : List Removed → ℕ → RecordKind → Type 0
SaysGone xs i k = (x : Removed) × Contains xs x × (x.at ≡ i) × (k ≡ Minus x.rank x.states)

gone_said : (xs : List Removed) (kinds : Kinds) (i : ℕ) (k : RecordKind) → slice_get (put_gone xs kinds) i ≡ Some (Some k) → (slice_get kinds i ≡ Some (Some k)) ⊎ SaysGone xs i k
gone_said [] kinds i k e = inl e
gone_said (x ∷ xs) kinds i k e = elim (gone_said xs (slice_set kinds x.at (Some (Minus x.rank x.states))) i k e) [
  | inl l ↦ (elim (set_said kinds x.at (Minus x.rank x.states) i k l) [
    | inl o ↦ inl o
    | inr n ↦ inr (x, is_first x xs, n.0, n.1)
  ])
  | inr s ↦ inr (s.0, is_later x xs s.0 s.1, s.2, s.3)
]

gone_kept : (xs : List Removed) (kinds : Kinds) (i : ℕ) → IsSaid kinds i → IsSaid (put_gone xs kinds) i
gone_kept [] kinds i s = s
gone_kept (x ∷ xs) kinds i s = gone_kept xs (slice_set kinds x.at (Some (Minus x.rank x.states))) i (set_kept kinds x.at (Minus x.rank x.states) i s)

gone_all : (xs : List Removed) (kinds : Kinds) (x : Removed) → Contains xs x → x.at < length kinds → IsSaid (put_gone xs kinds) x.at
gone_all [] kinds x c lt = absurd (not_in_none x c)
gone_all (y ∷ ys) kinds x c lt = go (in_rest y ys x c) (λ d l. gone_all ys (slice_set kinds y.at (Some (Minus y.rank y.states))) x d l)
  where
    go : (y ≡ x) ⊎ Contains ys x → (Contains ys x → x.at < length (slice_set kinds y.at (Some (Minus y.rank y.states))) → IsSaid (put_gone (y ∷ ys) kinds) x.at) → IsSaid (put_gone (y ∷ ys) kinds) x.at
    go (inl e) deeper =
        subst (λ z. IsSaid (put_gone (y ∷ ys) kinds) z.at) e
        (gone_kept ys (slice_set kinds y.at (Some (Minus y.rank y.states))) y.at (Minus y.rank y.states, set_in kinds y.at (Some (Minus y.rank y.states)) (subst (λ z. z.at < length kinds) (sym e) lt)))
    go (inr later) deeper =
        deeper later (let l = set_long kinds y.at (Some (Minus y.rank y.states)) in let m : x.at < length (slice_set kinds y.at (Some (Minus y.rank y.states))) = omega (arith, l, lt) in m)

gone_long : (xs : List Removed) (kinds : Kinds) → length (put_gone xs kinds) ≡ length kinds
gone_long [] kinds = refl
gone_long (x ∷ xs) kinds = gone_long xs (slice_set kinds x.at (Some (Minus x.rank x.states))) ∙ set_long kinds x.at (Some (Minus x.rank x.states))

abbrev pub SaysGoneIn : List (List Removed) → ℕ → RecordKind → Type 0
SaysGoneIn vs i k = (v : List Removed) × Contains vs v × SaysGone v i k

strata_said : (vs : List (List Removed)) (kinds : Kinds) (i : ℕ) (k : RecordKind) → slice_get (put_strata vs kinds) i ≡ Some (Some k) → (slice_get kinds i ≡ Some (Some k)) ⊎ SaysGoneIn vs i k
strata_said [] kinds i k e = inl e
strata_said (v ∷ vs) kinds i k e = elim (strata_said vs (put_gone v kinds) i k e) [
  | inl l ↦ (elim (gone_said v kinds i k l) [
    | inl o ↦ inl o
    | inr n ↦ inr (v, is_first v vs, n)
  ])
  | inr s ↦ inr (s.0, is_later v vs s.0 s.1, s.2)
]

strata_kept : (vs : List (List Removed)) (kinds : Kinds) (i : ℕ) → IsSaid kinds i → IsSaid (put_strata vs kinds) i
strata_kept [] kinds i s = s
strata_kept (v ∷ vs) kinds i s = strata_kept vs (put_gone v kinds) i (gone_kept v kinds i s)

strata_all : (vs : List (List Removed)) (kinds : Kinds) (v : List Removed) (x : Removed) → Contains vs v → Contains v x → x.at < length kinds → IsSaid (put_strata vs kinds) x.at
strata_all [] kinds v x c d lt = absurd (not_in_none v c)
strata_all (w ∷ ws) kinds v x c d lt = go (in_rest w ws v c) (λ e l. strata_all ws (put_gone w kinds) v x e d l)
  where
    go : (w ≡ v) ⊎ Contains ws v → (Contains ws v → x.at < length (put_gone w kinds) → IsSaid (put_strata ws (put_gone w kinds)) x.at) → IsSaid (put_strata ws (put_gone w kinds)) x.at
    go (inl e) deeper = strata_kept ws (put_gone w kinds) x.at (gone_all w kinds x (subst (λ z. Contains z x) (sym e) d) lt)
    go (inr later) deeper = deeper later (let l = gone_long w kinds in let m : x.at < length (put_gone w kinds) = omega (arith, l, lt) in m)

strata_long : (vs : List (List Removed)) (kinds : Kinds) → length (put_strata vs kinds) ≡ length kinds
strata_long [] kinds = refl
strata_long (v ∷ vs) kinds = strata_long vs (put_gone v kinds) ∙ gone_long v kinds

-- ---- of pairs that are confirmed

abbrev pub SaysConfirmed : List Confirmed → ℕ → RecordKind → Type 0
SaysConfirmed cs i k = (c : Confirmed) × Contains cs c × (c.at ≡ i) × (k ≡ Plus c.places)

confirmed_said : (cs : List Confirmed) (kinds : Kinds) (i : ℕ) (k : RecordKind) → slice_get (put_confirmed cs kinds) i ≡ Some (Some k) → (slice_get kinds i ≡ Some (Some k)) ⊎ SaysConfirmed cs i k
confirmed_said [] kinds i k e = inl e
confirmed_said (x ∷ xs) kinds i k e = elim (confirmed_said xs (slice_set kinds x.at (Some (Plus x.places))) i k e) [
  | inl l ↦ (elim (set_said kinds x.at (Plus x.places) i k l) [
    | inl o ↦ inl o
    | inr n ↦ inr (x, is_first x xs, n.0, n.1)
  ])
  | inr s ↦ inr (s.0, is_later x xs s.0 s.1, s.2, s.3)
]

confirmed_kept : (cs : List Confirmed) (kinds : Kinds) (i : ℕ) → IsSaid kinds i → IsSaid (put_confirmed cs kinds) i
confirmed_kept [] kinds i s = s
confirmed_kept (x ∷ xs) kinds i s = confirmed_kept xs (slice_set kinds x.at (Some (Plus x.places))) i (set_kept kinds x.at (Plus x.places) i s)

confirmed_all : (cs : List Confirmed) (kinds : Kinds) (x : Confirmed) → Contains cs x → x.at < length kinds → IsSaid (put_confirmed cs kinds) x.at
confirmed_all [] kinds x c lt = absurd (not_in_none x c)
confirmed_all (y ∷ ys) kinds x c lt = go (in_rest y ys x c) (λ d l. confirmed_all ys (slice_set kinds y.at (Some (Plus y.places))) x d l)
  where
    go : (y ≡ x) ⊎ Contains ys x → (Contains ys x → x.at < length (slice_set kinds y.at (Some (Plus y.places))) → IsSaid (put_confirmed (y ∷ ys) kinds) x.at) →
        IsSaid (put_confirmed (y ∷ ys) kinds) x.at
    go (inl e) deeper =
        subst (λ z. IsSaid (put_confirmed (y ∷ ys) kinds) z.at) e
        (confirmed_kept ys (slice_set kinds y.at (Some (Plus y.places))) y.at (Plus y.places, set_in kinds y.at (Some (Plus y.places)) (subst (λ z. z.at < length kinds) (sym e) lt)))
    go (inr later) deeper = deeper later (let l = set_long kinds y.at (Some (Plus y.places)) in let m : x.at < length (slice_set kinds y.at (Some (Plus y.places))) = omega (arith, l, lt) in m)

-- ---- of all

module _ (empty : Kinds) (none : (i : ℕ) (k : RecordKind) → slice_get empty i ≢ Some (Some k)) (all : List (List Removed)) (confirmed : List Confirmed) where
  abbrev pub final : Kinds
  final = put_confirmed confirmed (put_strata all empty)

  -- what is said is said of a pair that went or is confirmed
  pub all_said : (i : ℕ) (k : RecordKind) → slice_get final i ≡ Some (Some k) → SaysGoneIn all i k ⊎ SaysConfirmed confirmed i k
  all_said i k e = elim (confirmed_said confirmed (put_strata all empty) i k e) [
    | inl l ↦ (elim (strata_said all empty i k l) [
      | inl o ↦ absurd (none i k o)
      | inr s ↦ inl s
    ])
    | inr s ↦ inr s
  ]

  pub gone_is_said : (v : List Removed) (x : Removed) → Contains all v → Contains v x → x.at < length empty → IsSaid final x.at
  gone_is_said v x c d lt = confirmed_kept confirmed (put_strata all empty) x.at (strata_all all empty v x c d lt)

  pub confirmed_is_said : (x : Confirmed) → Contains confirmed x → x.at < length empty → IsSaid final x.at
  confirmed_is_said x c lt = confirmed_all confirmed (put_strata all empty) x c (let l = strata_long all empty in let m : x.at < length (put_strata all empty) = omega (arith, l, lt) in m)
