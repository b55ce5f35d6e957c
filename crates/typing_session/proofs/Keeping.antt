-- Verdicts that are kept, one after the other.
use Rattle.std.proofs.Common.{◌≡◌, ℕ, zero, suc, ◌<◌, ◌+◌, ◌⊎◌, inl, inr, List, [], ◌∷◌, ◌++◌, refl, arith, sym, subst, ap, ◌∙◌, Bool, true, false, true≢false, cond, not, take, length, get_or, append_assoc}
use Rattle.std.proofs.lemmas.List.{append-nil, map-append, take_more}
use Rattle.std.proofs.lemmas.List.Elements.{Contains-append_cases, Contains-append_left, Contains-append_right}
use Rattle.std.proofs.lemmas.Option.{slice_get-get_or}
use Rattle.std.specs.Prelude.{◌↔◌, Contains, Option, Some, None, slice_get, if◌then◌else◌}
use Rattle.demand.proofs.Taken.{in_more}
use Rattle.lists.specs.Distinct.{AreDistinct}
use Rattle.lists.proofs.Filters.{filter_has, in_filter}
use Rattle.lists.proofs.Members.{got_in, in_one, in_rest, is_first, is_later, not_in_none}
use Rattle.locality_laws.proofs.Alike.{one_verdict}
use Rattle.removal_laws.specs.Marks.{same_verdict}
use Rattle.schema_tree.specs.declared.schema.Pair.{Pair}
use Rattle.schema_tree.specs.declared.verdicts.Verdict.{Verdict}
use Rattle.schema_tree.specs.declared.verdicts.Verdict.TheVariants.{No, Unknown, Yes}
use Rattle.schema_tree.specs.Entries.{same_pair}
use Rattle.schema_tree.specs.Sure.{Known, PairIs}
use Rattle.schema_tree.proofs.Pairs.{pair_is, pair_same}
use Rattle.typing_session.specs.Kept.{Begins, Gains, is_free, is_that, kept_on, known_by_kept, pairs_of, pairs_with}

abbrev pub Entries : Type 0
Entries = List (Pair × Verdict)

-- ---- a verdict and its pair

pub kept_key : (es : Entries) (q : Pair) (v : Verdict) → kept_on es q ≡ Some v → Contains (pairs_of es) q
kept_key [] q v e = cc
kept_key (x ∷ es) q v e = go (same_pair q x.0) refl e (λ h. kept_key es q v h)
  where
    go : (b : Bool) → same_pair q x.0 ≡ b → cond b (Some x.1) (kept_on es q) ≡ Some v → (kept_on es q ≡ Some v → Contains (pairs_of es) q) → Contains (x.0 ∷ pairs_of es) q
    go true is h deeper = subst (λ z. Contains (z ∷ pairs_of es) q) (pair_is q x.0 is) (is_first q (pairs_of es))
    go false is h deeper = is_later x.0 (pairs_of es) q (deeper h)

pub key_kept : (es : Entries) (q : Pair) → Contains (pairs_of es) q → (v : Verdict) × (kept_on es q ≡ Some v)
key_kept [] q c = absurd (not_in_none q c)
key_kept (x ∷ es) q c = go (same_pair q x.0) refl (in_rest x.0 (pairs_of es) q c) (λ later. key_kept es q later)
  where
    go : (b : Bool) → same_pair q x.0 ≡ b → (x.0 ≡ q) ⊎ Contains (pairs_of es) q → (Contains (pairs_of es) q → (v : Verdict) × (kept_on es q ≡ Some v)) →
        (v : Verdict) × (cond b (Some x.1) (kept_on es q) ≡ Some v)
    go true is h deeper = (x.1, refl)
    go false is (inl e) deeper = absurd (true≢false (sym (ap (same_pair q) e ∙ pair_same q) ∙ is))
    go false is (inr later) deeper = deeper later

pub no_key : (es : Entries) (q : Pair) → kept_on es q ≡ None → ¬ Contains (pairs_of es) q
no_key es q none c = let (v, e) = key_kept es q c in let f : Some v ≡ None = sym e ∙ none in absurd (cc)

pub key_none : (es : Entries) (q : Pair) → ¬ Contains (pairs_of es) q → kept_on es q ≡ None
key_none es q none = go (kept_on es q) refl
  where
    go : (o : Option Verdict) → kept_on es q ≡ o → kept_on es q ≡ None
    go None e = e
    go (Some v) e = absurd (none (kept_key es q v e))

pub free_is : (o : Option Verdict) → is_free o ≡ true → o ≡ None
free_is None e = refl
free_is (Some v) e = absurd (true≢false (sym e))

pub not_free : (o : Option Verdict) → not (is_free o) ≡ true → (v : Verdict) × (o ≡ Some v)
not_free None e = absurd (true≢false (sym e))
not_free (Some v) e = (v, refl)

pub entry_kept : (es : Entries) (q : Pair) (v : Verdict) → kept_on es q ≡ Some v → Contains es (q, v)
entry_kept [] q v e = cc
entry_kept (x ∷ es) q v e = go (same_pair q x.0) refl e (λ h. entry_kept es q v h)
  where
    pair_up : (p : Pair) (w u : Verdict) → q ≡ p → Some w ≡ Some u → ◌≡◌ {A = Pair × Verdict} (p, w) (q, u)
    pair_up p w u a b = cc

    go : (b : Bool) → same_pair q x.0 ≡ b → cond b (Some x.1) (kept_on es q) ≡ Some v → (kept_on es q ≡ Some v → Contains es (q, v)) → Contains (x ∷ es) (q, v)
    go true is h deeper = subst (λ z. Contains (x ∷ es) z) (pair_up x.0 x.1 v (pair_is q x.0 is) h) (is_first x es)
    go false is h deeper = is_later x es (q, v) (deeper h)

-- ---- more entries

pub kept_stays : (old more : Entries) (q : Pair) (v : Verdict) → kept_on old q ≡ Some v → kept_on (old ++ more) q ≡ Some v
kept_stays [] more q v e = cc
kept_stays (x ∷ old) more q v e = go (same_pair q x.0) e (λ h. kept_stays old more q v h)
  where
    go : (b : Bool) → cond b (Some x.1) (kept_on old q) ≡ Some v → (kept_on old q ≡ Some v → kept_on (old ++ more) q ≡ Some v) → cond b (Some x.1) (kept_on (old ++ more) q) ≡ Some v
    go true h deeper = h
    go false h deeper = deeper h

pub kept_behind : (old more : Entries) (q : Pair) → kept_on old q ≡ None → kept_on (old ++ more) q ≡ kept_on more q
kept_behind [] more q e = refl
kept_behind (x ∷ old) more q e = go (same_pair q x.0) e (λ h. kept_behind old more q h)
  where
    go : (b : Bool) → cond b (Some x.1) (kept_on old q) ≡ None → (kept_on old q ≡ None → kept_on (old ++ more) q ≡ kept_on more q) → cond b (Some x.1) (kept_on (old ++ more) q) ≡ kept_on more q
    go true h deeper = cc
    go false h deeper = deeper h

pairs_append : (old more : Entries) → pairs_of (old ++ more) ≡ pairs_of old ++ pairs_of more
pairs_append old more = map-append (λ e. e.0) old more

-- what is kept then is what was kept and the pairs
pub gained_pairs : (known : Known) (pairs : List Pair) (old new : Entries) → Gains known pairs old new → (q : Pair) → Contains (pairs_of new) q ↔ (Contains (pairs_of old) q ⊎ Contains pairs q)
gained_pairs known pairs old new h q = (
  (λ c. elim (Contains-append_cases (pairs_of old) (pairs_of h.more) q (subst (λ xs. Contains xs q) whole c)) [
    | inl o ↦ inl o
    | inr m ↦ inr (subst (λ xs. Contains xs q) h.pairs_are m)
  ]),
  (λ c. subst (λ xs. Contains xs q) (sym whole) (elim c [
    | inl o ↦ Contains-append_left (pairs_of old) (pairs_of h.more) q o
    | inr p ↦ Contains-append_right (pairs_of old) (pairs_of h.more) q (subst (λ xs. Contains xs q) (sym h.pairs_are) p)
  ])),
)
  where
    whole : pairs_of new ≡ pairs_of old ++ pairs_of h.more
    whole = ap pairs_of h.is ∙ pairs_append old h.more

-- a verdict that is kept then was kept, or is one of the pairs and known
pub gained_verdict : (known : Known) (pairs : List Pair) (old new : Entries) → Gains known pairs old new → (q : Pair) (v : Verdict) → kept_on new q ≡ Some v →
    (kept_on old q ≡ Some v) ⊎ (Contains pairs q × PairIs known q v)
gained_verdict known pairs old new h q v e = go (kept_on old q) refl
  where
    go : (o : Option Verdict) → kept_on old q ≡ o → (kept_on old q ≡ Some v) ⊎ (Contains pairs q × PairIs known q v)
    go (Some w) is = inl (is ∙ (sym (kept_stays old h.more q w is) ∙ sym (ap (λ es. kept_on es q) h.is) ∙ e))
    go None is =
        let at : kept_on h.more q ≡ Some v = sym (kept_behind old h.more q is) ∙ sym (ap (λ es. kept_on es q) h.is) ∙ e in
        inr (subst (λ xs. Contains xs q) h.pairs_are (kept_key h.more q v at), h.verdicts_are q v (entry_kept h.more q v at))

pub gains_none : (known : Known) (old : Entries) → Gains known [] old old
gains_none known old = record { more = []; is = sym (append-nil old); pairs_are = refl; verdicts_are = λ q v c. absurd (not_in_none (q, v) c) }

pub gains_more : (known : Known) (pairs : List Pair) (old mid new : Entries) (i : ℕ) (d : Pair) (v : Verdict) → i < length pairs → Gains known (take i pairs) old mid →
    new ≡ mid ++ (get_or pairs i d, v) ∷ [] → PairIs known (get_or pairs i d) v → Gains known (take (i + 1) pairs) old new
gains_more known pairs old mid new i d v inside h is said = record {
  more = h.more ++ (get_or pairs i d, v) ∷ [];
  is = is ∙ ap (λ es. es ++ (get_or pairs i d, v) ∷ []) h.is ∙ append_assoc old h.more ((get_or pairs i d, v) ∷ []);
  pairs_are = pairs_append h.more ((get_or pairs i d, v) ∷ []) ∙ ap (λ ps. ps ++ get_or pairs i d ∷ []) h.pairs_are ∙ sym (take_more pairs i d inside);
  verdicts_are = λ q w c. elim (Contains-append_cases h.more ((get_or pairs i d, v) ∷ []) (q, w) c) [
    | inl m ↦ h.verdicts_are q w m
    | inr o ↦ (let e = in_one (get_or pairs i d, v) (q, w) o in subst (λ z. PairIs known z.0 z.1) e said)
  ];
}

pub gains_begin : (known : Known) (pairs : List Pair) (old new : Entries) → Gains known pairs old new → Begins old new
gains_begin known pairs old new h = (h.more, h.is)

-- what is among the first items has a place among them
in_take : {X : Type 0} (xs : List X) (n : ℕ) (q : X) → Contains (take n xs) q → (j : ℕ) × (j < n) × (slice_get xs j ≡ Some q)
in_take [] zero q c = absurd (not_in_none q c)
in_take [] (suc n) q c = absurd (not_in_none q c)
in_take (x ∷ xs) zero q c = absurd (not_in_none q c)
in_take (x ∷ xs) (suc n) q c = elim (in_rest x (take n xs) q c) [
  | inl e ↦ (0, omega arith, ap (λ z. Some z) e)
  | inr later ↦ (let (j, l, at) = in_take xs n q later in (suc j, omega (arith, l), at))
]

-- no verdict is kept yet on the next pair
pub still_free : (known : Known) (pairs : List Pair) (old mid : Entries) (i : ℕ) (d : Pair) → i < length pairs → AreDistinct pairs → ((q : Pair) → Contains pairs q → kept_on old q ≡ None) →
    Gains known (take i pairs) old mid → kept_on mid (get_or pairs i d) ≡ None
still_free known pairs old mid i d inside distinct new h = key_none mid (get_or pairs i d) (λ c. by ((gained_pairs known (take i pairs) old mid h (get_or pairs i d)).0 c))
  where
    at : slice_get pairs i ≡ Some (get_or pairs i d)
    at = slice_get-get_or pairs i d inside

    by : Contains (pairs_of old) (get_or pairs i d) ⊎ Contains (take i pairs) (get_or pairs i d) → ⊥
    by (inl c) = no_key old (get_or pairs i d) (new (get_or pairs i d) (got_in pairs i (get_or pairs i d) at)) c
    by (inr c) = let (j, less, is) = in_take pairs i (get_or pairs i d) c in let e : j ≡ i = distinct j i (get_or pairs i d) is at in omega (arith, less, e)

-- ---- what is known by them

pub kept_answers : (es : Entries) (q : Pair) (v : Verdict) → kept_on es q ≡ Some v → PairIs (known_by_kept es) q v
kept_answers es q v e = by v e
  where
    has : (w : Verdict) → kept_on es q ≡ Some w → same_verdict w w ≡ true → Contains (pairs_with w es) q
    has w is same = filter_has (λ p. is_that w (kept_on es p)) (pairs_of es) q (kept_key es q w is) (ap (is_that w) is ∙ same)

    hasnt : (w u : Verdict) → kept_on es q ≡ Some u → same_verdict w u ≡ false → ¬ Contains (pairs_with w es) q
    hasnt w u is apart c = true≢false (sym (in_filter (λ p. is_that w (kept_on es p)) (pairs_of es) q c).1 ∙ ap (is_that w) is ∙ apart)

    by : (w : Verdict) → kept_on es q ≡ Some w → PairIs (known_by_kept es) q w
    by Yes is = has Yes is refl
    by No is = (hasnt Yes No is refl, has No is refl)
    by Unknown is = (hasnt Yes Unknown is refl, hasnt No Unknown is refl)

pub none_answers : (es : Entries) (q : Pair) → kept_on es q ≡ None → PairIs (known_by_kept es) q Unknown
none_answers es q none = (out Yes, out No)
  where
    out : (w : Verdict) → ¬ Contains (pairs_with w es) q
    out w c = no_key es q none (in_filter (λ p. is_that w (kept_on es p)) (pairs_of es) q c).0

-- what is known of a pair that is kept is its verdict
pub known_kept : (es : Entries) (q : Pair) (v w : Verdict) → kept_on es q ≡ Some w → PairIs (known_by_kept es) q v → kept_on es q ≡ Some v
known_kept es q v w is known = is ∙ ap (λ z. Some z) (one_verdict (known_by_kept es) q w v (kept_answers es q w is) known)

-- ---- what is forgotten

module _ (pairs : List Pair) (old mid new : Entries) (i : ℕ) (d : Pair) (inside : i < length pairs)
    (one : (q : Pair) → kept_on new q ≡ (if same_pair (get_or pairs i d) q then None else kept_on mid q)) where
  pub gone_more : ((q : Pair) → Contains (take i pairs) q → kept_on mid q ≡ None) → (q : Pair) → Contains (take (i + 1) pairs) q → kept_on new q ≡ None
  gone_more h q c = one q ∙ go (same_pair (get_or pairs i d) q) refl ((in_more pairs i d q inside).0 c)
    where
      go : (b : Bool) → same_pair (get_or pairs i d) q ≡ b → Contains (take i pairs) q ⊎ (get_or pairs i d ≡ q) → (if b then None else kept_on mid q) ≡ None
      go true is k = refl
      go false is (inl l) = h q l
      go false is (inr e) = absurd (true≢false (sym (ap (same_pair (get_or pairs i d)) (sym e) ∙ pair_same (get_or pairs i d)) ∙ is))

  pub others_more : ((q : Pair) → (¬ Contains (take i pairs) q) → kept_on mid q ≡ kept_on old q) → (q : Pair) → (¬ Contains (take (i + 1) pairs) q) → kept_on new q ≡ kept_on old q
  others_more h q none = one q ∙ go (same_pair (get_or pairs i d) q) refl
    where
      go : (b : Bool) → same_pair (get_or pairs i d) q ≡ b → (if b then None else kept_on mid q) ≡ kept_on old q
      go true is = absurd (none ((in_more pairs i d q inside).1 (inr (pair_is (get_or pairs i d) q is))))
      go false is = h q (λ c. none ((in_more pairs i d q inside).1 (inl c)))
