-- Which pairs a question reaches and are not kept: those at which it starts, and each that one of those that were met needs.
use Rattle.std.proofs.Common.{◌≡◌, ◌∙◌, ℕ, ◌<◌, ◌≤◌, ◌+◌, ◌⊎◌, inl, inr, List, [], ◌++◌, refl, arith, sym, subst, ap, length, get_or, map}
use Rattle.std.proofs.lemmas.Bool.{cases_lt}
use Rattle.std.proofs.lemmas.List.{length-append, length-map}
use Rattle.std.proofs.lemmas.List.Elements.{Contains-append_left, Contains-append_right}
use Rattle.std.proofs.lemmas.Option.{slice_get-get_or}
use Rattle.std.specs.List.Sorted.{IsStrictlySortedBy}
use Rattle.std.specs.Prelude.{◌↔◌, Contains, Some, slice_get}
use Rattle.demand.specs.Closing.{AreMany, Grows, IsLedTo}
use Rattle.demand.specs.Links.{AreShapesIn}
use Rattle.demand.specs.Orders.{compare_pairs, max_pairs}
use Rattle.demand.proofs.Reached.{to_asked}
use Rattle.lists.specs.Distinct.{AreDistinct}
use Rattle.lists.proofs.Among.{few_among}
use Rattle.lists.proofs.Members.{from_map, got_in, in_map, is_first, not_in_none, place_of}
use Rattle.rdf_terms.specs.declared.terms.Term.{Term}
use Rattle.rdf_terms.specs.declared.terms.TermId.{TermId}
use Rattle.rdf_terms.specs.declared.terms.Triple.{Triple}
use Rattle.schema_tree.specs.declared.schema.ExprId.{ExprId}
use Rattle.schema_tree.specs.declared.schema.Pair.{Pair}
use Rattle.schema_tree.specs.declared.schema.Schema.{Schema}
use Rattle.schema_tree.specs.declared.schema.ShapeId.{ShapeId}
use Rattle.schema_tree.specs.Entries.{pair_of}
use Rattle.schema_tree.specs.Needs.{HoldNeeds, Leads, Needs, Reaches, here, step}
use Rattle.typing_session.specs.Kept.{fresh_of, pairs_of}
use Rattle.typing_session.specs.Questions.{AreFresh, ReachesTooMany, root_of}
use Rattle.typing_session.specs.Walks.{AreStart, FollowsNeeds, HoldOrKeepNeeds}
use Rattle.typing_session.proofs.Asked.{fresh_exactly, kept_or_not, leads_on, one_root}
use Rattle.typing_session.proofs.Keeping.{Entries, key_none, no_key}
use Rattle.typing_session.proofs.Using.{got_within, some_is}

-- those of the pairs that are not kept
pub missing_among : (es : Entries) (pairs : List Pair) (q : Pair) → Contains (fresh_of es pairs) q ↔ (Contains pairs q × (¬ Contains (pairs_of es) q))
missing_among es pairs q = (
  (λ c. let (held, none) = (fresh_exactly es pairs q).0 c in (held, no_key es q none)),
  (λ (held, none). (fresh_exactly es pairs q).1 (held, key_none es q none)),
)

-- ---- where it starts

pub start_met : (s : Schema) (es : Entries) (n : TermId) (e : ExprId) (shapes : List ShapeId) (pairs missing before met : List Pair) → AreShapesIn s e shapes → pairs ≡ map (pair_of n) shapes →
    missing ≡ fresh_of es pairs → before ≡ [] → Grows before missing met → AreStart s (pairs_of es) n e met
start_met s es n e shapes pairs missing before met are pairs_are missing_are before_is grows q = (
  (λ c. elim ((grows.same q).0 c) [
    | inl b ↦ absurd (not_in_none q (subst (λ xs. Contains xs q) before_is b))
    | inr m ↦ (let (held, none) = (missing_among es pairs q).0 (subst (λ xs. Contains xs q) missing_are m) in
        let (i, stands, same) = from_map (pair_of n) shapes q (subst (λ xs. Contains xs q) pairs_are held) in
        ((sym (ap (λ u. u.node) same), (are q.shape).0 (subst (λ u. Contains shapes u.shape) same stands)), none))
  ]),
  (λ ((node, stands), none). (grows.same q).1 (inr (subst (λ xs. Contains xs q) (sym missing_are) ((missing_among es pairs q).1 (
    subst (λ xs. Contains xs q) (sym pairs_are)
        (subst (λ u. Contains (map (pair_of n) shapes) u) (ap (λ m. pair_of m q.shape) (sym node)) (in_map (pair_of n) shapes q.shape ((are q.shape).1 stands))),
    none,
  ))))),
)

-- ---- how it goes on

pub record Followed (s : Schema) (g : List Triple) (kept start : List Pair) (at : ℕ) (met : List Pair) : Type 0 where
  pub from : FollowsNeeds s g kept start met
  pub done : (i : ℕ) (p q : Pair) → i < at → slice_get met i ≡ Some p → Needs s g p q → Contains met q ⊎ Contains kept q
  pub few : at ≤ max_pairs

pub followed_none : (s : Schema) (g : List Triple) (kept start : List Pair) → ((q : Pair) → Contains start q → ¬ Contains kept q) → Followed s g kept start 0 start
followed_none s g kept start apart =
    record { from = ((λ q c. c), (λ q c. (apart q c, (q, c, here)))); done = λ i p q lt is need. absurd (omega (arith, lt)); few = omega arith }

pub followed_more : (s : Schema) (g : List Triple) (es : Entries) (start : List Pair) (at : ℕ) (met found missing new : List Pair) (d : Pair) → at < length met → length met ≤ max_pairs →
    Followed s g (pairs_of es) start at met → ((q : Pair) → Contains found q ↔ Needs s g (get_or met at d) q) → missing ≡ fresh_of es found → Grows met missing new →
    Followed s g (pairs_of es) start (at + 1) new
followed_more s g es start at met found missing new d inside few h needs missing_are grows = record {
  from = (
    (λ q c. (grows.same q).1 (inl (h.from.0 q c))),
    (λ q c. elim ((grows.same q).0 c) [ inl m ↦ h.from.1 q m | inr n ↦ led q n ]),
  );
  done = λ i p q lt is need. elim (by i p q lt is need) [ inl c ↦ inl ((grows.same q).1 c) | inr k ↦ inr k ];
  few = omega (arith, inside, few);
}
  where
    there : slice_get met at ≡ Some (get_or met at d)
    there = slice_get-get_or met at d inside

    among : (q : Pair) → Contains missing q ↔ (Contains found q × (¬ Contains (pairs_of es) q))
    among q = subst (λ xs. Contains xs q ↔ (Contains found q × (¬ Contains (pairs_of es) q))) (sym missing_are) (missing_among es found q)

    led : (q : Pair) → Contains missing q → (¬ Contains (pairs_of es) q) × IsLedTo s g start q
    led q n =
        let (of, none) = (among q).0 n in
        let (not_kept, (p, began, leads)) = h.from.1 (get_or met at d) (got_in met at (get_or met at d) there) in
        (none, (p, began, leads_on s g p (get_or met at d) q leads ((needs q).0 of)))

    by : (i : ℕ) (p q : Pair) → i < at + 1 → slice_get new i ≡ Some p → Needs s g p q → (Contains met q ⊎ Contains missing q) ⊎ Contains (pairs_of es) q
    by i p q lt is need = elim (cases_lt i at) [
      | inl less ↦ (let same : slice_get met i ≡ Some p = back i p (omega (arith, less, inside)) is in
          elim (h.done i p q less same need) [ inl m ↦ inl (inl m) | inr k ↦ inr k ])
      | inr ge ↦ (let e : i ≡ at = omega (arith, lt, ge) in
          let same : slice_get met at ≡ Some p = back at p inside (subst (λ j. slice_get new j ≡ Some p) e is) in
          let of : get_or met at d ≡ p = some_is (get_or met at d) p (sym there ∙ same) in
          let held : Contains found q = (needs q).1 (subst (λ u. Needs s g u q) (sym of) need) in
          elim (kept_or_not es q) [ inl k ↦ inr k | inr none ↦ inl (inr ((among q).1 (held, none))) ])
    ]
      where
        back : (j : ℕ) (u : Pair) → j < length met → slice_get new j ≡ Some u → slice_get met j ≡ Some u
        back j u l is = slice_get-get_or met j d l ∙ (sym (grows.kept j (get_or met j d) (slice_get-get_or met j d l)) ∙ is)

pub followed_all : (s : Schema) (g : List Triple) (kept start : List Pair) (at : ℕ) (met : List Pair) → length met ≤ at → Followed s g kept start at met → HoldOrKeepNeeds s g kept met
followed_all s g kept start at met le h p q c need =
    let (i, is) = place_of met p c in
    let lt = got_within met i p is in
    h.done i p q (omega (arith, lt, le)) is need

pub followed_few : (s : Schema) (g : List Triple) (kept start : List Pair) (at : ℕ) (met : List Pair) → length met ≤ at → Followed s g kept start at met → length met ≤ max_pairs
followed_few s g kept start at met le h = let few = h.few in omega (arith, le, few)

-- more are met than may be asked for
pub followed_many : (s : Schema) (g : List Triple) (kept start : List Pair) (at : ℕ) (met : List Pair) → AreDistinct met → max_pairs < length met →
    Followed s g kept start at met → AreMany (IsLedTo s g start)
followed_many s g kept start at met distinct many h = record { pairs = met; distinct = distinct; many = many; all = λ q c. (h.from.1 q c).1 }

-- ---- what was met

-- what is needed through others and is not kept is met, since what a kept pair needs is kept
led_met : (s : Schema) (g : List Triple) (kept met : List Pair) → HoldNeeds s g kept → HoldOrKeepNeeds s g kept met → (p q : Pair) → Leads s g p q →
    ((¬ Contains kept p) → Contains met p) → ¬ Contains kept q →
    Contains met q
led_met s g kept met closed whole p q here there none = there none
led_met s g kept met closed whole p q (step u need rest) there none =
    led_met s g kept met closed whole u q rest
    (λ free. elim (whole p u (there (λ k. free (closed p u k need))) need) [ inl m ↦ m | inr k ↦ absurd (free k) ])
    none

pub met_fresh : (s : Schema) (terms : List Term) (g : List Triple) (kept : List Pair) (n : TermId) (e : ExprId) (start met list : List Pair) → HoldNeeds s g kept → AreStart s kept n e start →
    FollowsNeeds s g kept start met → HoldOrKeepNeeds s g kept met → IsStrictlySortedBy (compare_pairs terms) list → ((q : Pair) → Contains list q ↔ Contains met q) → AreFresh s terms g kept n e list
met_fresh s terms g kept n e start met list closed starts from whole sorted same = record {
  sorted = sorted;
  exactly = λ q. (
    (λ c. let (none, led) = from.1 q ((same q).0 c) in (reached q led, none)),
    (λ ((i, sign, st, leads), none). (same q).1 (led_met s g kept met closed whole (pair_of n i) q leads
        (λ free. from.0 (pair_of n i) ((starts (pair_of n i)).1 ((refl, (sign, st)), free))) none)),
  );
}
  where
    reached : (q : Pair) → IsLedTo s g start q → Reaches s g n e q
    reached q (p, began, leads) =
        let ((node, (sign, st)), none) = (starts p).0 began in
        (p.shape, sign, st, subst (λ m. Leads s g (pair_of m p.shape) q) node leads)

pub too_many : (s : Schema) (g : List Triple) (kept : List Pair) (n : TermId) (e : ExprId) (start : List Pair) → AreStart s kept n e start → AreMany (IsLedTo s g start) → ReachesTooMany s g n e
too_many s g kept n e start starts h = record {
  pairs = h.pairs;
  distinct = h.distinct;
  many = h.many;
  reached = λ q c. (let (p, began, leads) = h.all q c in
      to_asked s g (root_of n e) p q (record { node = n; expr = e }, is_first (record { node = n; expr = e }) [], ((starts p).0 began).0) leads);
}

-- kept and fresh ones leave no room for too many
pub not_many : (s : Schema) (terms : List Term) (g : List Triple) (n : TermId) (e : ExprId) (es : Entries) (fresh : List Pair) →
    AreFresh s terms g (pairs_of es) n e fresh → length es + length fresh ≤ max_pairs →
    ¬ ReachesTooMany s g n e
not_many s terms g n e es fresh are le many =
    let among = few_among many.pairs (pairs_of es ++ fresh) many.distinct (λ q c. within q ((one_root s g n e q).0 (many.reached q c)) (kept_or_not es q)) in
    let more = many.many in
    let both = length-append (pairs_of es) fresh in
    let kept = length-map es (λ x. x.0) in
    omega (arith, le, among, more, both, kept)
  where
    within : (q : Pair) → Reaches s g n e q → Contains (pairs_of es) q ⊎ (¬ Contains (pairs_of es) q) → Contains (pairs_of es ++ fresh) q
    within q reaches (inl k) = Contains-append_left (pairs_of es) fresh q k
    within q reaches (inr none) = Contains-append_right (pairs_of es) fresh q ((are.exactly q).1 (reaches, none))
