-- Walks by which groups of places are found: what stands where, and visits that go out.
use Rattle.std.proofs.Common.{◌≡◌, ℕ, zero, suc, ◌+◌, ◌<◌, ◌≤◌, List, [], ◌∷◌, ◌++◌, refl, sym, ap, subst, arith, length, ◌∙◌, get_or, Some, inl, inr, ◌⊎◌, take, length-append}
use Rattle.std.specs.Prelude.{Contains, slice_get}
use Rattle.std.proofs.lemmas.Bool.{cases_eq, cases_lt}
use Rattle.std.proofs.lemmas.List.Elements.{Contains-append_cases, Contains-append_left}
use Rattle.std.proofs.lemmas.Option.{slice_get_within}
use Rattle.lists.proofs.Members.{in_rest, is_first, is_later, not_in_none}
use Rattle.schema_load.specs.declared.groups.Standing.{Standing}
use Rattle.schema_load.specs.declared.groups.Standing.TheVariants.{Grouped, Open, Unseen}
use Rattle.schema_load.specs.declared.part.Part.{Part}
use Rattle.schema_load.specs.declared.sorting.Visit.{Visit}
use Rattle.schema_load.specs.declared.sorting.Visit.TheVariants.{Enter, Leave}
use Rattle.schema_load.specs.Graph.{Reaches, at_once, through}
use Rattle.schema_load.specs.Groups.{AreJoined, IsComing, IsGrouping, IsSettled}
use Rattle.schema_load.specs.Sorting.{place_of}
use Rattle.schema_load.specs.Steps.{IsNext}
use Rattle.schema_load.proofs.Loadable.{held_at, index_of}
use Rattle.schema_load.proofs.Visits.{get_last, get_left, split_one}

-- ---- standings

pub one_open : (w : Standing) (m n : ℕ) → w ≡ Open m → w ≡ Open n → m ≡ n
one_open w m n a b = let both : Open m ≡ Open n = sym a ∙ b in let same : m ≡ n = cc in same

pub one_grouped : (w : Standing) (m n : ℕ) → w ≡ Grouped m → w ≡ Grouped n → m ≡ n
one_grouped w m n a b = let both : Grouped m ≡ Grouped n = sym a ∙ b in let same : m ≡ n = cc in same

pub open_not_grouped : (w : Standing) (m g : ℕ) → w ≡ Open m → ¬ (w ≡ Grouped g)
open_not_grouped w m g a b = let both : Open m ≡ Grouped g = sym a ∙ b in let bad : ⊥ = cc in bad

pub open_not_unseen : (w : Standing) (m : ℕ) → w ≡ Open m → ¬ (w ≡ Unseen)
open_not_unseen w m a b = let both : Open m ≡ Unseen = sym a ∙ b in let bad : ⊥ = cc in bad

pub grouped_not_unseen : (w : Standing) (g : ℕ) → w ≡ Grouped g → ¬ (w ≡ Unseen)
grouped_not_unseen w g a b = let both : Grouped g ≡ Unseen = sym a ∙ b in let bad : ⊥ = cc in bad

pub enter_not_leave : (v : Visit) (p q : ℕ) → v ≡ Enter p → ¬ (v ≡ Leave q)
enter_not_leave v p q a b = let both : Enter p ≡ Leave q = sym a ∙ b in let bad : ⊥ = cc in bad

pub one_entered : (v : Visit) (p q : ℕ) → v ≡ Enter p → v ≡ Enter q → p ≡ q
one_entered v p q a b = let both : Enter p ≡ Enter q = sym a ∙ b in let same : p ≡ q = cc in same

pub one_left : (v : Visit) (p q : ℕ) → v ≡ Leave p → v ≡ Leave q → p ≡ q
one_left v p q a b = let both : Leave p ≡ Leave q = sym a ∙ b in let same : p ≡ q = cc in same

pub one_there : (xs : List ℕ) (i a b : ℕ) → slice_get xs i ≡ Some a → slice_get xs i ≡ Some b → a ≡ b
one_there xs i a b x y = let both : Some a ≡ Some b = sym x ∙ y in let same : a ≡ b = cc in same

-- ---- lists

pub at_end : (xs : List ℕ) → 0 < length xs → (init : List ℕ) × (l : ℕ) × (xs ≡ init ++ l ∷ [])
at_end [] lt = absurd (omega arith)
at_end (x ∷ []) lt = ([], x, refl)
at_end (x ∷ (y ∷ ys)) lt = let (init, l, e) = at_end (y ∷ ys) (omega arith) in (x ∷ init, l, ap (λ us. x ∷ us) e)

pub greatest : (ns : List ℕ) → 0 < length ns → (m : ℕ) × Contains ns m × ((b : ℕ) → Contains ns b → b ≤ m)
greatest [] lt = absurd (omega arith)
greatest (n ∷ []) lt = (
  n,
  is_first n [],
  λ b c. elim (in_rest n [] b c) [
    | inl same ↦ omega arith
    | inr rest ↦ absurd (not_in_none b rest)
  ],
)
greatest (n ∷ (m ∷ ns)) lt = let (k, c, most) = greatest (m ∷ ns) (omega arith) in elim (cases_lt k n) [
  | inl less ↦ (
    n,
    is_first n (m ∷ ns),
    λ b h. elim (in_rest n (m ∷ ns) b h) [
      | inl same ↦ omega arith
      | inr rest ↦ (let le = most b rest in omega arith)
    ],
  )
  | inr le ↦ (
    k,
    is_later n (m ∷ ns) k c,
    λ b h. elim (in_rest n (m ∷ ns) b h) [
      | inl same ↦ omega arith
      | inr rest ↦ most b rest
    ],
  )
]

pub from_take : (n : ℕ) (xs : List ℕ) (i x : ℕ) → slice_get (take n xs) i ≡ Some x → (i < n) × (slice_get xs i ≡ Some x)
from_take zero xs i x e = absurd (let bad : ⊥ = cc in bad)
from_take (suc n) [] i x e = absurd (let bad : ⊥ = cc in bad)
from_take (suc n) (y ∷ ys) zero x e = (omega arith, e)
from_take (suc n) (y ∷ ys) (suc i) x e = let (lt, at) = from_take n ys i x e in (omega arith, at)

pub in_take : (n : ℕ) (xs : List ℕ) (i x : ℕ) → i < n → slice_get xs i ≡ Some x → slice_get (take n xs) i ≡ Some x
in_take zero xs i x lt e = absurd (omega arith)
in_take (suc n) [] i x lt e = absurd (let bad : ⊥ = cc in bad)
in_take (suc n) (y ∷ ys) zero x lt e = e
in_take (suc n) (y ∷ ys) (suc i) x lt e = in_take n ys i x (omega arith) e

pub some_at : (xs : List ℕ) → 0 < length xs → (x : ℕ) × (slice_get xs 0 ≡ Some x)
some_at [] lt = absurd (omega arith)
some_at (x ∷ xs) lt = (x, refl)

pub within_one : {X : Type 0} (xs : List X) (v : X) (i : ℕ) (x : X) → slice_get (xs ++ v ∷ []) i ≡ Some x → i < length xs + 1
within_one xs v i x e = let w = slice_get_within (xs ++ v ∷ []) i x e in let l = length-append xs (v ∷ []) in omega arith

-- a visit before another is one of those that are left
pub not_last : (rest : List Visit) (v : Visit) (i j : ℕ) (w u : Visit) → i < j → slice_get rest j ≡ Some u → slice_get (rest ++ v ∷ []) i ≡ Some w → slice_get rest i ≡ Some w
not_last rest v i j w u lt there at = elim (split_one rest v w i at) [
  | inl old ↦ old
  | inr (e, same) ↦ absurd (let n = slice_get_within rest j u there in omega arith)
]

module _ (parts : List Part) (targets : List ℕ) where
  reach_on : (p q r : ℕ) → Reaches parts p q → Reaches parts q r → Reaches parts p r
  reach_on p q r (at_once at leads) rest = through at leads rest
  reach_on p q r (through {q = m} at leads more) rest = through at leads (reach_on m q r more rest)

  -- ---- the next visit

  module _ (s : List Standing) (trail starts : List ℕ) (count : ℕ) (rest : List Visit) (v : Visit) (before : IsGrouping parts targets s trail starts count (rest ++ v ∷ [])) where
    here : slice_get (rest ++ v ∷ []) (length rest) ≡ Some v
    here = get_last rest v

    earlier : (i : ℕ) (w : Visit) → slice_get rest i ≡ Some w → slice_get (rest ++ v ∷ []) i ≡ Some w
    earlier i w at = get_left rest (v ∷ []) i w at

    pub visit_inside : place_of v < length parts
    visit_inside = before.inside (length rest) v here

    pub place_inside : (p : ℕ) → v ≡ Enter p → p < length s
    place_inside p e = let lt = subst (λ z. place_of z < length parts) e visit_inside in let n = before.size in omega arith

    pub left_inside : (p : ℕ) → v ≡ Leave p → p < length s
    left_inside p e = let lt = subst (λ z. place_of z < length parts) e visit_inside in let n = before.size in omega arith

    pub left_open : (p : ℕ) → v ≡ Leave p → (n : ℕ) × (get_or s p Unseen ≡ Open n)
    left_open p e = before.left (length rest) p (here ∙ ap Some e)

    pub trail_low : (p n : ℕ) → get_or s p Unseen ≡ Open n → n ≤ length trail
    trail_low p n is = let lt = slice_get_within trail n p (before.stands p n is) in omega arith

    -- what is open leads to a place that is entered
    pub to_entered : (q : ℕ) → v ≡ Enter q → (i p : ℕ) → slice_get trail i ≡ Some p → Reaches parts p q
    to_entered q e i p at =
        let some = slice_get_within trail i p at in
        let (z, low, is) = before.first (omega arith) in
        let (b, c, most) = greatest starts (omega arith) in
        let (k, r, there, leave) = before.begun b c in
        elim (split_one rest v (Leave r) k leave) [
          | inl old ↦ (
              let on : Reaches parts r q = subst (λ w. Reaches parts r (place_of w)) e (before.reach k (length rest) r v (slice_get_within rest k (Leave r) old) leave here) in
              elim (cases_lt i b) [
                | inl less ↦ reach_on p r q (before.forward i b p r less at there) on
                | inr le ↦ elim (cases_eq i b) [
                  | inl same ↦ subst (λ w. Reaches parts w q) (one_there trail b r p there (subst (λ n. slice_get trail n ≡ Some p) same at)) on
                  | inr apart ↦ reach_on p r q (before.back b i r p (omega (arith, apart)) there at (λ c has. inl (most c has))) on
                ]
              ]
              )
          | inr (n, same) ↦ absurd (enter_not_leave v q r e same)
        ]

    -- a visit to a place that was entered goes out, where groups may be joined
    module _ (q : ℕ) (e : v ≡ Enter q) (seen : ¬ (get_or s q Unseen ≡ Unseen)) (kept : List ℕ) (fewer : (b : ℕ) → Contains kept b → Contains starts b)
        (rising : (k l a b : ℕ) → k < l → slice_get kept k ≡ Some a → slice_get kept l ≡ Some b → a < b)
        (first : 0 < length trail → Contains kept 0)
        (back : (i j p r : ℕ) → i < j → slice_get trail i ≡ Some p → slice_get trail j ≡ Some r → ((b : ℕ) → Contains kept b → (b ≤ i) ⊎ (j < b)) → Reaches parts r p)
        (settled : (i : ℕ) → IsSettled s kept i q) where
      begun : (b : ℕ) → Contains kept b → (i : ℕ) × (p : ℕ) × (slice_get trail b ≡ Some p) × (slice_get rest i ≡ Some (Leave p))
      begun b c = let (i, p, at, leave) = before.begun b (fewer b c) in elim (split_one rest v (Leave p) i leave) [
        | inl old ↦ (i, p, at, old)
        | inr (n, same) ↦ absurd (enter_not_leave v q p e same)
      ]

      pending : (i p r : ℕ) → slice_get trail i ≡ Some p → IsNext parts targets p r → IsSettled s kept i r ⊎ IsComing rest p r
      pending i p r at next = go (before.pending i p r at next)
        where
          go : IsSettled s starts i r ⊎ IsComing (rest ++ v ∷ []) p r → IsSettled s kept i r ⊎ IsComing rest p r
          go (inl (inl known)) = inl (inl known)
          go (inl (inr (j, is, le))) = inl (inr (j, is, λ b c. le b (fewer b c)))
          go (inr (a, k, lt, leave, enter)) = elim (split_one rest v (Enter r) k enter) [
            | inl old ↦ inr (a, k, lt, not_last rest v a k (Leave p) (Enter r) lt old leave, old)
            | inr (n, same) ↦ inl (subst (λ z. IsSettled s kept i z) (one_entered v q r e same) (settled i))
          ]

      dropped : IsGrouping parts targets s trail kept count rest
      dropped = record {
        size = before.size;
        inside = λ i w at. before.inside i w (earlier i w at);
        held = before.held;
        stands = before.stands;
        forward = before.forward;
        back = back;
        rising = rising;
        begun = begun;
        first = first;
        left = λ i p at. before.left i p (earlier i (Leave p) at);
        order = λ i j p r m n lt a b. before.order i j p r m n lt (earlier i (Leave p) a) (earlier j (Leave r) b);
        reach = λ i j p w lt a b. before.reach i j p w lt (earlier i (Leave p) a) (earlier j w b);
        pending = pending;
        low = before.low;
        falls = before.falls;
        one = before.one;
        waits = λ p lt none. (let (i, at) = before.waits p lt none in elim (split_one rest v (Enter p) i at) [
          | inl old ↦ (i, old)
          | inr (n, same) ↦ absurd (seen (subst (λ z. get_or s z Unseen ≡ Unseen) (sym (one_entered v q p e same)) none))
        ]);
      }

    -- a place whose group is known is entered
    pub entered_grouped : (q g : ℕ) → v ≡ Enter q → get_or s q Unseen ≡ Grouped g → IsGrouping parts targets s trail starts count rest
    entered_grouped q g e is = dropped q e (grouped_not_unseen (get_or s q Unseen) g is) starts (λ b c. c) before.rising before.first before.back (λ i. inl (g, is))

    -- an open place is entered: its group and all behind it are one
    module _ (q n : ℕ) (e : v ≡ Enter q) (is : get_or s q Unseen ≡ Open n) (kept : List ℕ) (joins : AreJoined starts n kept) where
      at_q : slice_get trail n ≡ Some q
      at_q = before.stands q n is

      was_start : (b : ℕ) → Contains kept b → Contains starts b
      was_start b c = subst (λ z. Contains z b) (sym joins.all) (Contains-append_left kept joins.out b c)

      was_at : (k b : ℕ) → slice_get kept k ≡ Some b → slice_get starts k ≡ Some b
      was_at k b at = subst (λ z. slice_get z k ≡ Some b) (sym joins.all) (get_left kept joins.out k b at)

      kept_or_out : (b : ℕ) → Contains starts b → Contains kept b ⊎ Contains joins.out b
      kept_or_out b c = Contains-append_cases kept joins.out b (subst (λ z. Contains z b) joins.all c)

      kept_rising : (k l a b : ℕ) → k < l → slice_get kept k ≡ Some a → slice_get kept l ≡ Some b → a < b
      kept_rising k l a b lt x y = before.rising k l a b lt (was_at k a x) (was_at l b y)

      kept_low : (b : ℕ) → Contains kept b → b ≤ n
      kept_low b c =
          let (k, at) = index_of kept b c in
          let within = slice_get_within kept k b at in
          let (init, l, ends) = at_end kept (omega arith) in
          let le = joins.last init l ends in
          elim (split_one init l b k (subst (λ z. slice_get z k ≡ Some b) ends at)) [
            | inl old ↦ (
                let lt = slice_get_within init k b old in
                let less = kept_rising k (length init) b l lt at (subst (λ z. slice_get z (length init) ≡ Some l) (sym ends) (get_last init l)) in
                omega arith
                )
            | inr (m, same) ↦ omega arith
          ]

      kept_first : 0 < length trail → Contains kept 0
      kept_first lt = elim (kept_or_out 0 (before.first lt)) [
        | inl k ↦ k
        | inr o ↦ absurd (let h = joins.behind 0 o in omega arith)
      ]

      kept_back : (i j p r : ℕ) → i < j → slice_get trail i ≡ Some p → slice_get trail j ≡ Some r → ((b : ℕ) → Contains kept b → (b ≤ i) ⊎ (j < b)) → Reaches parts r p
      kept_back i j p r lt a b apart = elim (cases_lt n j) [
        | inl less ↦ (
            let on = to_entered q e j r b in
            elim (cases_lt n i) [
              | inl later ↦ reach_on r q p on (before.forward n i q p later at_q a)
              | inr le ↦ elim (cases_eq i n) [
                | inl same ↦ subst (λ z. Reaches parts r z) (one_there trail n q p at_q (subst (λ z. slice_get trail z ≡ Some p) same a)) on
                | inr other ↦ reach_on r q p on (before.back i n p q (omega (arith, other)) a at_q (λ c has. between less c (kept_or_out c has)))
              ]
            ]
            )
        | inr le ↦ before.back i j p r lt a b (λ c has. elim (kept_or_out c has) [
          | inl k ↦ apart c k
          | inr o ↦ inr (let h = joins.behind c o in omega arith)
        ])
      ]
        where
          between : n < j → (c : ℕ) → Contains kept c ⊎ Contains joins.out c → (c ≤ i) ⊎ (n < c)
          between less c (inr o) = inr (joins.behind c o)
          between less c (inl k) = elim (apart c k) [
            | inl low ↦ inl low
            | inr high ↦ inr (omega arith)
          ]

      pub joined : IsGrouping parts targets s trail kept count rest
      joined = dropped q e (open_not_unseen (get_or s q Unseen) n is) kept was_start kept_rising kept_first kept_back (λ i. inr (n, is, λ b c le. kept_low b c))

    -- a place is left that begins no group
    module _ (p i : ℕ) (e : v ≡ Leave p) (is : get_or s p Unseen ≡ Open i) (not_last_start : (init : List ℕ) → ¬ (starts ≡ init ++ i ∷ [])) where
      at_p : slice_get trail i ≡ Some p
      at_p = before.stands p i is

      -- the places that are still to be left were opened before
      still : (k r b : ℕ) → slice_get rest k ≡ Some (Leave r) → slice_get trail b ≡ Some r → b < i
      still k r b at there = before.order k (length rest) r p b i (slice_get_within rest k (Leave r) at) (earlier k (Leave r) at) (here ∙ ap Some e) (before.held b r there) is

      no_start : ¬ Contains starts i
      no_start c =
          let (k, at) = index_of starts i c in
          let within = slice_get_within starts k i at in
          let (init, l, ends) = at_end starts (omega arith) in
          elim (split_one init l i k (subst (λ z. slice_get z k ≡ Some i) ends at)) [
            | inl old ↦ (
                let lt = slice_get_within init k i old in
                let ends_at : slice_get starts (length init) ≡ Some l = subst (λ z. slice_get z (length init) ≡ Some l) (sym ends) (get_last init l) in
                let less = before.rising k (length init) i l lt at ends_at in
                let (m, r, there, leave) = before.begun l (held_at starts (length init) l ends_at) in
                elim (split_one rest v (Leave r) m leave) [
                  | inl was ↦ (let h = still m r l was there in omega arith)
                  | inr (n, same) ↦ (
                      let one = one_left v p r e same in
                      let f = one_open (get_or s p Unseen) i l is (subst (λ z. get_or s z Unseen ≡ Open l) (sym one) (before.held l r there)) in
                      omega arith
                      )
                ]
                )
            | inr (m, same) ↦ not_last_start init (subst (λ z. starts ≡ init ++ z ∷ []) same ends)
          ]

      begun_still : (b : ℕ) → Contains starts b → (k : ℕ) × (r : ℕ) × (slice_get trail b ≡ Some r) × (slice_get rest k ≡ Some (Leave r))
      begun_still b c = let (k, r, at, leave) = before.begun b c in elim (split_one rest v (Leave r) k leave) [
        | inl old ↦ (k, r, at, old)
        | inr (n, same) ↦ absurd (
            let one = one_left v p r e same in
            let f = one_open (get_or s p Unseen) i b is (subst (λ z. get_or s z Unseen ≡ Open b) (sym one) (before.held b r at)) in
            no_start (subst (λ z. Contains starts z) (sym f) c)
            )
      ]

      coming_still : (q r : ℕ) → IsComing (rest ++ v ∷ []) q r → IsComing rest q r
      coming_still q r (a, k, lt, leave, enter) = elim (split_one rest v (Enter r) k enter) [
        | inl old ↦ (a, k, lt, not_last rest v a k (Leave q) (Enter r) lt old leave, old)
        | inr (n, same) ↦ absurd (enter_not_leave v r p same e)
      ]

      pub passed : IsGrouping parts targets s trail starts count rest
      passed = record {
        size = before.size;
        inside = λ j w at. before.inside j w (earlier j w at);
        held = before.held;
        stands = before.stands;
        forward = before.forward;
        back = before.back;
        rising = before.rising;
        begun = begun_still;
        first = before.first;
        left = λ j r at. before.left j r (earlier j (Leave r) at);
        order = λ j k q r m n lt a b. before.order j k q r m n lt (earlier j (Leave q) a) (earlier k (Leave r) b);
        reach = λ j k q w lt a b. before.reach j k q w lt (earlier j (Leave q) a) (earlier k w b);
        pending = λ j q r at next. elim (before.pending j q r at next) [
          | inl known ↦ inl known
          | inr coming ↦ inr (coming_still q r coming)
        ];
        low = before.low;
        falls = before.falls;
        one = before.one;
        waits = λ q lt none. (let (j, at) = before.waits q lt none in elim (split_one rest v (Enter q) j at) [
          | inl old ↦ (j, old)
          | inr (n, same) ↦ absurd (enter_not_leave v q p same e)
        ]);
      }
