-- Which kept pairs reach an end of a triple: those at its ends, and each that needs one of those that were met.
use Rattle.std.proofs.Common.{◌≡◌, ◌∙◌, ℕ, ◌<◌, ◌≤◌, ◌+◌, ◌⊎◌, inl, inr, List, [], ◌∷◌, ◌++◌, arith, sym, subst, ap, length, get_or, filter, not}
use Rattle.std.proofs.lemmas.Bool.{cases_lt}
use Rattle.std.proofs.lemmas.List.Elements.{Contains-append_cases, Contains-append_left, Contains-append_right}
use Rattle.std.proofs.lemmas.Option.{slice_get-get_or}
use Rattle.std.specs.Prelude.{◌↔◌, Contains, Some, slice_get}
use Rattle.demand.specs.Closing.{Grows}
use Rattle.lists.specs.Distinct.{AreDistinct}
use Rattle.lists.proofs.Among.{few_among}
use Rattle.lists.proofs.Filters.{filter_has, in_filter}
use Rattle.lists.proofs.Members.{got_in, in_one, is_first, not_in_none, place_of}
use Rattle.rdf_terms.specs.declared.terms.TermId.{TermId}
use Rattle.rdf_terms.specs.declared.terms.Triple.{Triple}
use Rattle.schema_tree.specs.declared.schema.Pair.{Pair}
use Rattle.schema_tree.specs.declared.schema.Schema.{Schema}
use Rattle.schema_tree.specs.Needs.{HoldNeeds, Leads, Needs, here, step}
use Rattle.typing_session.specs.Edits.{AddsNode, AreAtEnds, HoldUsers, IsAtEnd, ReachesEnd, SpreadsFrom}
use Rattle.typing_session.specs.Kept.{is_free, kept_on, pairs_of}
use Rattle.typing_session.specs.Uses.{AreUsers}
use Rattle.typing_session.proofs.Keeping.{Entries, kept_key, key_kept, not_free}
use Rattle.typing_session.proofs.Using.{got_within}

-- those of the pairs that are kept
pub kept_among : (es : Entries) (pairs : List Pair) (q : Pair) → Contains (filter (λ p. not (is_free (kept_on es p))) pairs) q ↔ (Contains pairs q × Contains (pairs_of es) q)
kept_among es pairs q = (
  (λ c. let (held, is) = in_filter (λ p. not (is_free (kept_on es p))) pairs q c in let (v, e) = not_free (kept_on es q) is in (held, kept_key es q v e)),
  (λ (held, key). let (v, e) = key_kept es q key in filter_has (λ p. not (is_free (kept_on es p))) pairs q held (ap (λ o. not (is_free o)) e)),
)

-- ---- where it starts

pub start_met : (es : Entries) (t : Triple) (bound : ℕ) (none mid ends held before met : List Pair) → none ≡ [] → AddsNode t.s bound none mid → AddsNode t.o bound mid ends →
    held ≡ filter (λ p. not (is_free (kept_on es p))) ends → before ≡ [] → Grows before held met → ((q : Pair) → Contains (pairs_of es) q → q.shape.0 < bound) →
    AreAtEnds (pairs_of es) t met
start_met es t bound none mid ends held before met none_is first second held_is before_is grows shapes q = (
  (λ c. elim ((grows.same q).0 c) [
    | inl b ↦ absurd (not_in_none q (subst (λ xs. Contains xs q) before_is b))
    | inr h ↦ (let (there, key) = (kept_among es ends q).0 (subst (λ xs. Contains xs q) held_is h) in (key, end there))
  ]),
  (λ (key, at). (grows.same q).1 (inr (subst (λ xs. Contains xs q) (sym held_is) ((kept_among es ends q).1 (into (shapes q key) at, key))))),
)
  where
    end : Contains ends q → IsAtEnd t q
    end c = elim ((second q).0 c) [
      | inr o ↦ inr o.0
      | inl m ↦ elim ((first q).0 m) [ inr s ↦ inl s.0 | inl n ↦ absurd (not_in_none q (subst (λ xs. Contains xs q) none_is n)) ]
    ]

    into : q.shape.0 < bound → IsAtEnd t q → Contains ends q
    into lt (inl s) = (second q).1 (inl ((first q).1 (inr (s, lt))))
    into lt (inr o) = (second q).1 (inr (o, lt))

-- ---- how it goes on

pub record Spread (s : Schema) (g : List Triple) (kept start : List Pair) (at : ℕ) (met : List Pair) : Type 0 where
  pub from : SpreadsFrom s g kept start met
  pub done : (i : ℕ) (p q : Pair) → i < at → slice_get met i ≡ Some q → Needs s g p q → Contains kept p → Contains met p

pub spread_none : (s : Schema) (g : List Triple) (kept start : List Pair) → ((q : Pair) → Contains start q → Contains kept q) → Spread s g kept start 0 start
spread_none s g kept start within = record { from = ((λ q c. c), (λ p c. (within p c, (p, c, here)))); done = λ i p q lt at need key. absurd (omega (arith, lt)) }

pub spread_more : (s : Schema) (g : List Triple) (es : Entries) (start : List Pair) (at : ℕ) (met found held new : List Pair) (d : Pair) → at < length met →
    Spread s g (pairs_of es) start at met → AreUsers s g (get_or met at d) found → held ≡ filter (λ p. not (is_free (kept_on es p))) found → Grows met held new →
    Spread s g (pairs_of es) start (at + 1) new
spread_more s g es start at met found held new d inside h users held_is grows = record {
  from = (
    (λ q c. (grows.same q).1 (inl (h.from.0 q c))),
    (λ p c. elim ((grows.same p).0 c) [ inl m ↦ h.from.1 p m | inr n ↦ led p n ]),
  );
  done = λ i p q lt is need key. (grows.same p).1 (by i p q lt is need key);
}
  where
    there : slice_get met at ≡ Some (get_or met at d)
    there = slice_get-get_or met at d inside

    among : (p : Pair) → Contains held p ↔ (Contains found p × Contains (pairs_of es) p)
    among p = subst (λ xs. Contains xs p ↔ (Contains found p × Contains (pairs_of es) p)) (sym held_is) (kept_among es found p)

    led : (p : Pair) → Contains held p → Contains (pairs_of es) p × ((q : Pair) × Contains start q × Leads s g p q)
    led p n =
        let (of, key) = (among p).0 n in
        let (key_of, (q, began, leads)) = h.from.1 (get_or met at d) (got_in met at (get_or met at d) there) in
        (key, (q, began, step (get_or met at d) ((users p).0 of) leads))

    by : (i : ℕ) (p q : Pair) → i < at + 1 → slice_get new i ≡ Some q → Needs s g p q → Contains (pairs_of es) p → Contains met p ⊎ Contains held p
    by i p q lt is need key = elim (cases_lt i at) [
      | inl less ↦ (let same : slice_get met i ≡ Some q = back i q (omega (arith, less, inside)) is in inl (h.done i p q less same need key))
      | inr ge ↦ (let e : i ≡ at = omega (arith, lt, ge) in
          let same : slice_get met at ≡ Some q = back at q inside (subst (λ j. slice_get new j ≡ Some q) e is) in
          let of : get_or met at d ≡ q = one (get_or met at d) q (sym there ∙ same) in
          inr ((among p).1 ((users p).1 (subst (λ u. Needs s g p u) (sym of) need), key)))
    ]
      where
        one : (a b : Pair) → Some a ≡ Some b → a ≡ b
        one a b e = cc

        back : (j : ℕ) (u : Pair) → j < length met → slice_get new j ≡ Some u → slice_get met j ≡ Some u
        back j u l is = slice_get-get_or met j d l ∙ (sym (grows.kept j (get_or met j d) (slice_get-get_or met j d l)) ∙ is)

pub spread_all : (s : Schema) (g : List Triple) (kept start : List Pair) (at : ℕ) (met : List Pair) → length met ≤ at → Spread s g kept start at met → HoldUsers s g kept met
spread_all s g kept start at met le h p q c need key =
    let (i, is) = place_of met q c in
    let lt = got_within met i q is in
    h.done i p q (omega (arith, lt, le)) is need key

-- ---- what was met

pub met_exactly : (s : Schema) (g : List Triple) (kept : List Pair) (t : Triple) (start met : List Pair) → HoldNeeds s g kept → AreAtEnds kept t start →
    SpreadsFrom s g kept start met → HoldUsers s g kept met →
    (q : Pair) → Contains met q ↔ (Contains kept q × ReachesEnd s g t q)
met_exactly s g kept t start met closed starts from whole q = (
  (λ c. let (key, (u, began, leads)) = from.1 q c in (key, (u, leads, ((starts u).0 began).1))),
  (λ (key, (r, leads, end)). into q r leads key end),
)
  where
    into : (p r : Pair) → Leads s g p r → Contains kept p → IsAtEnd t r → Contains met p
    into p r here key end = from.0 p ((starts p).1 (key, end))
    into p r (step u need rest) key end = whole p u (into u r rest (closed p u key need) end) need key

-- ---- the pairs of a node

pub node_more : (n : TermId) (k : ℕ) (old mid new : List Pair) → AddsNode n k old mid → new ≡ mid ++ record { node = n; shape = record { 0 = k } } ∷ [] → AddsNode n (k + 1) old new
node_more n k old mid new h is q = (
  (λ c. elim (Contains-append_cases mid (record { node = n; shape = record { 0 = k } } ∷ []) q (subst (λ xs. Contains xs q) is c)) [
    | inl m ↦ elim ((h q).0 m) [ inl o ↦ inl o | inr t ↦ inr (t.0, (let l = t.1 in omega (arith, l))) ]
    | inr o ↦ (let e = in_one (record { node = n; shape = record { 0 = k } }) q o in
        let at : k ≡ q.shape.0 = ap (λ p. p.shape.0) e in
        inr (sym (ap (λ p. p.node) e), omega (arith, at)))
  ]),
  (λ c. subst (λ xs. Contains xs q) (sym is) (by c)),
)
  where
    by : Contains old q ⊎ ((q.node ≡ n) × (q.shape.0 < k + 1)) → Contains (mid ++ record { node = n; shape = record { 0 = k } } ∷ []) q
    by (inl o) = Contains-append_left mid (record { node = n; shape = record { 0 = k } } ∷ []) q ((h q).1 (inl o))
    by (inr (node, lt)) = elim (cases_lt q.shape.0 k) [
      | inl less ↦ Contains-append_left mid (record { node = n; shape = record { 0 = k } } ∷ []) q ((h q).1 (inr (node, less)))
      | inr ge ↦ (let e : k ≡ q.shape.0 = omega (arith, lt, ge) in
          let made : record { node = n; shape = record { 0 = k } } ≡ q = (λ i. record { node = sym node i; shape = record { 0 = e i } }) in
          Contains-append_right mid (record { node = n; shape = record { 0 = k } } ∷ []) q
          (subst (λ z. Contains (record { node = n; shape = record { 0 = k } } ∷ []) z) made (is_first (record { node = n; shape = record { 0 = k } }) [])))
    ]

pub node_all : {X : Type 0} (n : TermId) (k : ℕ) (xs ys : List X) (old new : List Pair) → xs ≡ ys → k ≤ length xs → length xs ≤ k → AddsNode n k old new → AddsNode n (length ys) old new
node_all n k xs ys old new same le ge h = subst (λ j. AddsNode n j old new) (let e = ap (λ zs. length zs) same in let f : k ≡ length ys = omega (arith, le, ge, e) in f) h

-- what was met is no more than what is kept
pub met_few : (s : Schema) (g : List Triple) (kept start : List Pair) (at : ℕ) (met : List Pair) → AreDistinct met → Spread s g kept start at met → length met ≤ length kept
met_few s g kept start at met distinct h = few_among met kept distinct (λ q c. (h.from.1 q c).0)
