-- Records are put behind those of their strata, one after another.
use Rattle.std.proofs.Common.{◌≡◌, ◌≢◌, ◌∙◌, ℕ, zero, suc, ◌<◌, ◌+◌, ◌⊎◌, inl, inr, List, [], ◌∷◌, ◌++◌, arith, refl, sym, ap, subst, get_or, length, map, append_assoc}
use Rattle.std.proofs.lemmas.Bool.{cases_eq}
use Rattle.std.proofs.lemmas.Bool.Decides.{nat_tests}
use Rattle.std.proofs.lemmas.List.{append-nil, length-append, map-append}
use Rattle.std.proofs.lemmas.List.Elements.{Contains-append_cases, Contains-append_left, Contains-append_right}
use Rattle.std.proofs.lemmas.Map.Keys.{Less-from_sorted}
use Rattle.std.proofs.lemmas.Option.{get_or_from_slice_get, slice_get-get_or, slice_get-map, slice_get_within}
use Rattle.std.specs.List.Sorted.{IsStrictlySortedBy}
use Rattle.std.specs.Ordering.{is_eq, nat_cmp, ordering_reverse, ordering_then}
use Rattle.std.specs.declared.cmp.Ordering.{Ordering}
use Rattle.std.specs.declared.cmp.Ordering.TheVariants.{Less, Equal, Greater}
use Rattle.std.specs.Prelude.{Contains, Option, Some, None, option_map, slice_get, slice_set}
use Rattle.lists.proofs.Members.{in_one, is_first, is_later, not_in_none}
use Rattle.lists.proofs.Quantifiers.{all_append}
use Rattle.rdf_terms.proofs.Orders.{id_itself, id_total, ids_tie}
use Rattle.rdf_terms.proofs.SameTerms.{same_is}
use Rattle.rdf_terms.specs.Order.{compare_at}
use Rattle.rdf_terms.specs.declared.terms.Term.{Term}
use Rattle.rdf_terms.specs.declared.terms.TermId.{TermId}
use Rattle.schema_tree.specs.declared.schema.Pair.{Pair}
use Rattle.schema_tree.specs.Edges.{level}
use Rattle.schema_tree.specs.Rising.{Rises, RisesFrom}
use Rattle.proof_file.specs.declared.Record.{Record}
use Rattle.proof_file.specs.declared.RecordKind.{RecordKind}
use Rattle.proof_file.specs.declared.Section.{Section}
use Rattle.proof_file.specs.Text.{IsRecordBefore}
use Rattle.demand.specs.Orders.{compare_pairs}
use Rattle.removal_laws.proofs.Known.{held_at, set_other}
use Rattle.typing_refiner.proofs.Said.{set_in}
use Rattle.typing_refiner.specs.Evidence.{IsRecordOf}
use Rattle.typing_refiner.specs.Filing.{EndsWith, HasRecord, IsFiled, IsNumbered, IsPushed, section_of, sections_from}

-- ---- lists that grow at their end

pub pushed : {X : Type 0} (old : List X) (x : X) (i : ℕ) (y : X) → slice_get (old ++ x ∷ []) i ≡ Some y → (slice_get old i ≡ Some y) ⊎ ((i ≡ length old) × (x ≡ y))
pushed [] x zero y e = inr (refl, (let f : Some x ≡ Some y = e in cc))
pushed [] x (suc i) y e = absurd (let f : None ≡ Some y = e in cc)
pushed (z ∷ zs) x zero y e = inl e
pushed (z ∷ zs) x (suc i) y e = elim (pushed zs x i y e) [
  | inl l ↦ inl l
  | inr r ↦ inr (ap suc r.0, r.1)
]

kept_at : {X : Type 0} (old more : List X) (i : ℕ) (y : X) → slice_get old i ≡ Some y → slice_get (old ++ more) i ≡ Some y
kept_at [] more i y e = absurd (let f : None ≡ Some y = e in cc)
kept_at (z ∷ zs) more zero y e = e
kept_at (z ∷ zs) more (suc i) y e = kept_at zs more i y e

one_of : {X : Type 0} (o : Option X) (x y : X) → o ≡ Some x → o ≡ Some y → x ≡ y
one_of o x y a b = let e : Some x ≡ Some y = sym a ∙ b in cc

there_is : {X : Type 0} (xs : List X) (i : ℕ) → i < length xs → (x : X) × (slice_get xs i ≡ Some x)
there_is [] i lt = absurd (omega (arith, lt))
there_is (x ∷ xs) zero lt = (x, refl)
there_is (x ∷ xs) (suc i) lt = there_is xs i (let k : suc i < suc (length xs) = lt in let l : i < length xs = omega (arith, k) in l)

sorted_push : {K : Type 0} (R : K → K → Ordering) (xs : List K) (x : K) → IsStrictlySortedBy R xs → ((y : K) → Contains xs y → R y x ≡ Less) → IsStrictlySortedBy R (xs ++ x ∷ [])
unfolding IsStrictlySortedBy
sorted_push R [] x up below = (tt, tt)
sorted_push R (z ∷ zs) x up below =
    (all_append (λ y. R z y ≡ Less) zs (x ∷ []) up.0 (below z (is_first z zs), tt), sorted_push R zs x up.1 (λ y c. below y (is_later z zs y c)))

pub sorted_none : {K : Type 0} (R : K → K → Ordering) → IsStrictlySortedBy R []
unfolding IsStrictlySortedBy
sorted_none R = tt

sorted_before : {K : Type 0} (R : K → K → Ordering) (xs : List K) (i j : ℕ) (x y : K) → IsStrictlySortedBy R xs → slice_get xs i ≡ Some x → slice_get xs j ≡ Some y → i < j → R x y ≡ Less
sorted_before R xs i j x y up at_i at_j lt =
    let a : get_or xs i x ≡ x = get_or_from_slice_get xs i x x at_i in
    let b : get_or xs j x ≡ y = get_or_from_slice_get xs j y x at_j in
    ap (λ z. R x z) (sym b) ∙ (ap (λ z. R z (get_or xs j x)) (sym a) ∙ Less-from_sorted R xs i j x up lt (slice_get_within xs j y at_j))

rises_on : {X : Type 0} (P : X → X → Type 0) (z : X) (xs : List X) (x : X) → RisesFrom P z xs → P z x → ((y : X) → Contains xs y → P y x) → RisesFrom P z (xs ++ x ∷ [])
rises_on P z [] x up here below = (here, tt)
rises_on P z (y ∷ ys) x up here below = (up.0, rises_on P y ys x up.1 (below y (is_first y ys)) (λ w c. below w (is_later y ys w c)))

rises_push : {X : Type 0} (P : X → X → Type 0) (xs : List X) (x : X) → Rises P xs → ((y : X) → Contains xs y → P y x) → Rises P (xs ++ x ∷ [])
rises_push P [] x up below = tt
rises_push P (z ∷ zs) x up below = rises_on P z zs x up (below z (is_first z zs)) (λ w c. below w (is_later z zs w c))

-- ---- orders

then_less : (o p : Ordering) → ordering_then o p ≡ Less → (o ≡ Less) ⊎ ((o ≡ Equal) × (p ≡ Less))
then_less Less p e = inl refl
then_less Equal p e = inr (refl, e)
then_less Greater p e = absurd (let f : Greater ≡ Less = e in cc)

less_numbers : (a b : ℕ) → nat_cmp a b ≡ Less → a < b
less_numbers a b e = grind (arith, nat_tests, e)

same_ids : (terms : List Term) (a b : TermId) → compare_at terms a b ≡ Equal → a ≡ b
same_ids terms a b e = same_is a b (ids_tie terms a b ∙ ap is_eq e)

less_not : (terms : List Term) (a b : TermId) → compare_at terms a b ≡ Less → compare_at terms b a ≡ Less → ⊥
less_not terms a b e f =
    let g : compare_at terms b a ≡ Greater = (id_total terms).antisymm b a ∙ ap ordering_reverse e in
    let h : Less ≡ Greater = sym f ∙ g in cc

-- ---- one more record

module _ (terms : List Term) (f : List ℕ) (table : List Pair) (sorted : IsStrictlySortedBy (compare_pairs terms) table) (kinds : List (Option RecordKind)) (at : ℕ) (p : Pair) (kind : RecordKind)
    (there : slice_get table at ≡ Some p) (said : slice_get kinds at ≡ Some (Some kind)) (nodes new_nodes : List TermId) (number : ℕ) (numbered : IsNumbered nodes p.node new_nodes number)
    (lists new_lists : List (List Record)) (put : IsPushed lists (level f p.shape) (record { node = number; shape = p.shape.0; kind = kind }) new_lists)
    (filed : IsFiled terms f table kinds at nodes lists) where
  abbrev k0 : ℕ
  k0 = level f p.shape

  abbrev r0 : Record
  r0 = record { node = number; shape = p.shape.0; kind = kind }

  grown : (i : ℕ) (n : TermId) → slice_get nodes i ≡ Some n → slice_get new_nodes i ≡ Some n
  grown i n e = elim numbered.2 [
    | inl same ↦ ap (λ xs. slice_get xs i) same ∙ e
    | inr more ↦ ap (λ xs. slice_get xs i) more.0 ∙ kept_at nodes (p.node ∷ []) i n e
  ]

  in_new : (k : ℕ) (r : Record) → HasRecord new_lists k r → HasRecord lists k r ⊎ ((k ≡ k0) × (r0 ≡ r))
  in_new k r (rs, at_k, c) = elim (cases_eq k k0) [
    | inl e ↦ (let same : put.0 ++ r0 ∷ [] ≡ rs = one_of (slice_get new_lists k0) (put.0 ++ r0 ∷ []) rs put.2 (subst (λ j. slice_get new_lists j ≡ Some rs) e at_k) in
        elim (Contains-append_cases put.0 (r0 ∷ []) r (subst (λ xs. Contains xs r) (sym same) c)) [
          | inl l ↦ inl (put.0, ap (slice_get lists) e ∙ put.1, l)
          | inr m ↦ inr (e, in_one r0 r m)
        ])
    | inr ne ↦ inl (rs, sym (put.3 k ne) ∙ at_k, c)
  ]

  old_in : (k : ℕ) (r : Record) → HasRecord lists k r → HasRecord new_lists k r
  old_in k r (rs, at_k, c) = elim (cases_eq k k0) [
    | inl e ↦ (let same : put.0 ≡ rs = one_of (slice_get lists k0) put.0 rs put.1 (subst (λ j. slice_get lists j ≡ Some rs) e at_k) in
        (put.0 ++ r0 ∷ [], ap (slice_get new_lists) e ∙ put.2, Contains-append_left put.0 (r0 ∷ []) r (subst (λ xs. Contains xs r) (sym same) c)))
    | inr ne ↦ (rs, put.3 k ne ∙ at_k, c)
  ]

  new_in : HasRecord new_lists k0 r0
  new_in = (put.0 ++ r0 ∷ [], put.2, Contains-append_right put.0 (r0 ∷ []) r0 (is_first r0 []))

  abbrev Of : List TermId → ℕ → ℕ → Record → Type 0
  Of ns n k r = (i : ℕ) × (q : Pair) × (i < n) × (slice_get table i ≡ Some q) × IsRecordOf ns r q × (level f q.shape ≡ k) × (slice_get kinds i ≡ Some (Some r.kind))

  each : (k : ℕ) (r : Record) → HasRecord new_lists k r → Of new_nodes (at + 1) k r
  each k r h = elim (in_new k r h) [
    | inl o ↦ (let (i, q, lt, at_q, is, on, kd) = filed.each k r o in
        (i, q, (let l : i < at + 1 = omega (arith, lt) in l), at_q, (grown r.node q.node is.0, is.1), on, kd))
    | inr n ↦ subst (λ z. Of new_nodes (at + 1) k z) n.1 (at, p, (let l : at < at + 1 = omega arith in l), there, (numbered.0, refl), sym n.0, said)
  ]

  whole : (i : ℕ) (q : Pair) (kd : RecordKind) → i < at + 1 → slice_get table i ≡ Some q → slice_get kinds i ≡ Some (Some kd) → (r : Record) ×
      HasRecord new_lists (level f q.shape) r × IsRecordOf new_nodes r q
  whole i q kd lt at_q is = elim (cases_eq i at) [
    | inl e ↦ (let same : p ≡ q = one_of (slice_get table at) p q there (subst (λ j. slice_get table j ≡ Some q) e at_q) in
        subst (λ z. (r : Record) × HasRecord new_lists (level f z.shape) r × IsRecordOf new_nodes r z) same (r0, new_in, (numbered.0, refl)))
    | inr ne ↦ (let (r, h, of) = filed.whole i q kd (let l : i < at = omega (arith, lt, ne) in l) at_q is in (r, old_in (level f q.shape) r h, (grown r.node q.node of.0, of.1)))
  ]

  used_old : (j : ℕ) (n : TermId) → slice_get nodes j ≡ Some n → (k : ℕ) × (r : Record) × HasRecord new_lists k r × (r.node ≡ j)
  used_old j n e = let (k, r, h, is) = filed.used j n e in (k, r, old_in k r h, is)

  used : (j : ℕ) (n : TermId) → slice_get new_nodes j ≡ Some n → (k : ℕ) × (r : Record) × HasRecord new_lists k r × (r.node ≡ j)
  used j n e = elim numbered.2 [
    | inl same ↦ used_old j n (subst (λ xs. slice_get xs j ≡ Some n) same e)
    | inr more ↦ (elim (pushed nodes p.node j n (subst (λ xs. slice_get xs j ≡ Some n) more.0 e)) [
      | inl o ↦ used_old j n o
      | inr l ↦ (k0, r0, new_in, (let a = numbered.1 in let b = ap length more.0 ∙ length-append nodes (p.node ∷ []) in let c = l.0 in let d : number ≡ j = omega (arith, a, b, c) in d))
    ])
  ]

  pair_below : (i : ℕ) (q : Pair) → i < at → slice_get table i ≡ Some q → compare_pairs terms q p ≡ Less
  pair_below i q lt at_q = sorted_before (compare_pairs terms) table i at q p sorted at_q there lt

  before_new : (r : Record) → HasRecord lists k0 r → IsRecordBefore r r0
  before_new r h = by numbered.2
    where
      by : (new_nodes ≡ nodes) ⊎ ((new_nodes ≡ nodes ++ p.node ∷ []) × (¬ EndsWith nodes p.node)) → IsRecordBefore r r0
      by (inl same) =
          let (i, q, lt, at_q, is, on, kd) = filed.each k0 r h in
          let inside = slice_get_within nodes r.node q.node is.0 in
          let len : length nodes ≡ suc number = ap length (sym same) ∙ numbered.1 in
          elim (cases_eq r.node number) [
            | inl e ↦ (let node_is : q.node ≡ p.node = one_of (slice_get new_nodes number) q.node p.node (subst (λ j. slice_get new_nodes j ≡ Some q.node) e (grown r.node q.node is.0)) numbered.0 in
                elim (then_less (compare_at terms q.node p.node) (nat_cmp q.shape.0 p.shape.0) (pair_below i q lt at_q)) [
                  | inl l ↦ absurd (let z : compare_at terms p.node p.node ≡ Less = subst (λ n. compare_at terms n p.node ≡ Less) node_is l in let y : Equal ≡
                      Less = sym (id_itself terms p.node) ∙ z in cc)
                  | inr m ↦ inr (e, (let s = less_numbers q.shape.0 p.shape.0 m.1 in let a = is.1 in let b : r.shape < p.shape.0 = omega (arith, s, a) in b))
                ])
            | inr ne ↦ inl (let l : r.node < number = omega (arith, inside, len, ne) in l)
          ]
      by (inr more) =
          let (i, q, lt, at_q, is, on, kd) = filed.each k0 r h in
          let inside = slice_get_within nodes r.node q.node is.0 in
          let a = numbered.1 in let b = ap length more.0 ∙ length-append nodes (p.node ∷ []) in
          inl (let l : r.node < number = omega (arith, inside, a, b) in l)

  rising : (k : ℕ) (rs : List Record) → slice_get new_lists k ≡ Some rs → Rises IsRecordBefore rs
  rising k rs e = elim (cases_eq k k0) [
    | inl is ↦ (let same : put.0 ++ r0 ∷ [] ≡ rs = one_of (slice_get new_lists k0) (put.0 ++ r0 ∷ []) rs put.2 (subst (λ j. slice_get new_lists j ≡ Some rs) is e) in
        subst (Rises IsRecordBefore) same (rises_push IsRecordBefore put.0 r0 (filed.rising k0 put.0 put.1) (λ r c. before_new r (put.0, put.1, c))))
    | inr ne ↦ filed.rising k rs (sym (put.3 k ne) ∙ e)
  ]

  -- a node comes from a pair before this one
  comes : (j : ℕ) (n : TermId) → slice_get nodes j ≡ Some n → (compare_at terms n p.node ≡ Less) ⊎ (n ≡ p.node)
  comes j n e =
      let (k, r, h, is_j) = filed.used j n e in
      let (i, q, lt, at_q, is, on, kd) = filed.each k r h in
      let same : q.node ≡ n = one_of (slice_get nodes j) q.node n (subst (λ x. slice_get nodes x ≡ Some q.node) is_j is.0) e in
      elim (then_less (compare_at terms q.node p.node) (nat_cmp q.shape.0 p.shape.0) (pair_below i q lt at_q)) [
        | inl l ↦ inl (subst (λ x. compare_at terms x p.node ≡ Less) same l)
        | inr m ↦ inr (sym same ∙ same_ids terms q.node p.node m.0)
      ]

  below_new : ¬ EndsWith nodes p.node → (n : TermId) → Contains nodes n → compare_at terms n p.node ≡ Less
  below_new new n c = let (j, e) = held_at nodes n c in by j e (comes j n e)
    where
      by : (j : ℕ) → slice_get nodes j ≡ Some n → (compare_at terms n p.node ≡ Less) ⊎ (n ≡ p.node) → compare_at terms n p.node ≡ Less
      by j e (inl l) = l
      by j e (inr same) = absurd (elim (cases_eq (suc j) (length nodes)) [
        | inl last ↦ new (j, last, e ∙ ap (λ z. Some z) same)
        | inr ne ↦ (let inside = slice_get_within nodes j n e in
            let (m, is_m) = before_last (length nodes) j inside ne in
            let (v, at_v) = there_is nodes m (let l : m < length nodes = omega (arith, is_m) in l) in
            let up : compare_at terms n v ≡ Less = sorted_before (compare_at terms) nodes j m n v filed.order e at_v (let l : j < m = omega (arith, inside, ne, is_m) in l) in
            elim (comes m v at_v) [
              | inl l ↦ less_not terms n v up (subst (λ x. compare_at terms v x ≡ Less) (sym same) l)
              | inr w ↦ (let y : compare_at terms n n ≡ Less = subst (λ x. compare_at terms n x ≡ Less) (w ∙ sym same) up in let z : Equal ≡ Less = sym (id_itself terms n) ∙ y in cc)
            ])
      ])
        where
          before_last : (len j : ℕ) → j < len → suc j ≢ len → (m : ℕ) × (suc m ≡ len)
          before_last zero j lt ne = absurd (omega (arith, lt))
          before_last (suc m) j lt ne = (m, refl)

  order : IsStrictlySortedBy (compare_at terms) new_nodes
  order = elim numbered.2 [
    | inl same ↦ subst (IsStrictlySortedBy (compare_at terms)) (sym same) filed.order
    | inr more ↦ subst (IsStrictlySortedBy (compare_at terms)) (sym more.0) (sorted_push (compare_at terms) nodes p.node filed.order (below_new more.1))
  ]

  pub filed_next : IsFiled terms f table kinds (at + 1) new_nodes new_lists
  filed_next = record { each = each; whole = whole; used = used; rising = rising; order = order }

-- nothing is said of the pair
pub filed_past : (terms : List Term) (f : List ℕ) (table : List Pair) (kinds : List (Option RecordKind)) (at : ℕ) (nodes : List TermId) (lists : List (List Record)) → slice_get kinds at ≡ Some None →
    IsFiled terms f table kinds at nodes lists → IsFiled terms f table kinds (at + 1) nodes lists
filed_past terms f table kinds at nodes lists none filed = record {
  each = λ k r h. (let (i, q, lt, at_q, is, on, kd) = filed.each k r h in (i, q, (let l : i < at + 1 = omega (arith, lt) in l), at_q, is, on, kd));
  whole = λ i q kd lt at_q is. elim (cases_eq i at) [
    | inl e ↦ absurd (let a : Some None ≡ Some (Some kd) = sym none ∙ subst (λ j. slice_get kinds j ≡ Some (Some kd)) e is in cc)
    | inr ne ↦ filed.whole i q kd (let l : i < at = omega (arith, lt, ne) in l) at_q is
  ];
  used = filed.used;
  rising = filed.rising;
  order = filed.order;
}

-- at first there are no records
pub filed_first : (terms : List Term) (f : List ℕ) (table : List Pair) (kinds : List (Option RecordKind)) (nodes : List TermId) (lists : List (List Record)) → nodes ≡ [] →
    ((i : ℕ) (rs : List Record) → slice_get lists i ≡ Some rs → rs ≡ []) → IsFiled terms f table kinds 0 nodes lists
filed_first terms f table kinds nodes lists none empty = record {
  each = λ k r (rs, e, c). absurd (not_in_none r (subst (λ xs. Contains xs r) (empty k rs e) c));
  whole = λ i q kd lt at_q is. absurd (omega (arith, lt));
  used = λ j n e. absurd (let a : None ≡ Some n = subst (λ xs. slice_get xs j ≡ Some n) none e in cc);
  rising = λ k rs e. subst (Rises IsRecordBefore) (sym (empty k rs e)) tt;
  order = subst (IsStrictlySortedBy (compare_at terms)) (sym none) (sorted_none (compare_at terms));
}

-- ---- loops

-- a record goes last in the list of a number
pub pushed_to : {V : Type 0} (f : V → List Record) (xs new : List V) (at : ℕ) (r : Record) (d u v : V) → at < length xs → u ≡ get_or xs at d → f v ≡ f u ++ r ∷ [] → new ≡ slice_set xs at v →
    IsPushed (map f xs) at r (map f new)
pushed_to f xs new at r d u v lt is same set = (
  f u,
  slice_get-map f xs at ∙ ap (option_map f) (slice_get-get_or xs at d lt ∙ ap (λ z. Some z) (sym is)),
  ap (λ ys. slice_get (map f ys) at) set ∙ (slice_get-map f (slice_set xs at v) at ∙ (ap (option_map f) (set_in xs at v lt) ∙ ap (λ z. Some z) same)),
  (λ j ne. ap (λ ys. slice_get (map f ys) j) set ∙ (slice_get-map f (slice_set xs at v) j ∙ (ap (option_map f) (set_other xs at j v ne) ∙ sym (slice_get-map f xs j)))),
)

-- nothing is said at one more number
pub none_pushed : (old new : List (Option RecordKind)) → new ≡ old ++ None ∷ [] → ((i : ℕ) (k : RecordKind) → slice_get old i ≢ Some (Some k)) →
    (i : ℕ) (k : RecordKind) → slice_get new i ≢ Some (Some k)
none_pushed old new is none i k e = elim (pushed old None i (Some k) (subst (λ xs. slice_get xs i ≡ Some (Some k)) is e)) [
  | inl o ↦ none i k o
  | inr l ↦ (let f : None ≡ Some k = l.1 in cc)
]

-- one more list is empty
pub empty_pushed : {V : Type 0} (f : V → List Record) (old new : List V) (v : V) → new ≡ old ++ v ∷ [] → f v ≡ [] → ((i : ℕ) (rs : List Record) → slice_get (map f old) i ≡ Some rs → rs ≡ []) →
    (i : ℕ) (rs : List Record) → slice_get (map f new) i ≡ Some rs → rs ≡ []
empty_pushed f old new v is none all i rs e =
    elim (pushed (map f old) (f v) i rs (subst (λ xs. slice_get xs i ≡ Some rs) (ap (map f) is ∙ map-append f old (v ∷ [])) e)) [
      | inl o ↦ all i rs o
      | inr l ↦ sym l.1 ∙ none
    ]

pub yielded_within : {X : Type 0} (all yielded rest behind : List X) (x : X) → all ≡ yielded ++ rest → rest ≡ x ∷ behind → length yielded < length all
yielded_within all yielded rest behind x is next =
    let a : length all ≡ length yielded + length rest = ap length is ∙ length-append yielded rest in
    let b : length rest ≡ suc (length behind) = ap length next in
    omega (arith, a, b)

pub at_yielded : {X : Type 0} (all yielded rest behind : List X) (x : X) → all ≡ yielded ++ rest → rest ≡ x ∷ behind → slice_get all (length yielded) ≡ Some x
at_yielded all yielded rest behind x is next = ap (λ xs. slice_get xs (length yielded)) (is ∙ ap (λ ys. yielded ++ ys) next) ∙ go yielded
  where
    go : (ys : List _) → slice_get (ys ++ x ∷ behind) (length ys) ≡ Some x
    go [] = refl
    go (y ∷ ys) = go ys

pub all_yielded : {X : Type 0} (all yielded rest : List X) → all ≡ yielded ++ rest → rest ≡ [] → length yielded ≡ length all
all_yielded all yielded rest is none =
    let a : length all ≡ length yielded + length rest = ap length is ∙ length-append yielded rest in
    let b : length rest ≡ 0 = ap length none in
    omega (arith, a, b)

-- one more list has its section
pub made_next : {V : Type 0} (f : V → List Record) (all old new : List Section) (k : ℕ) (rest behind : List V) (x : V) → rest ≡ x ∷ behind → all ≡ old ++ sections_from k (map f rest) →
    new ≡ old ++ section_of k (f x) → all ≡ new ++ sections_from (k + 1) (map f behind)
made_next f all old new k rest behind x next is made =
    let e : suc k ≡ k + 1 = omega arith in
    subst (λ j. all ≡ new ++ sections_from j (map f behind)) e
    (is ∙ (ap (λ rs. old ++ sections_from k (map f rs)) next ∙ (sym (append_assoc old (section_of k (f x)) (sections_from (suc k) (map f behind)))
    ∙ ap (λ xs. xs ++ sections_from (suc k) (map f behind)) (sym made))))

pub made_last : {V : Type 0} (f : V → List Record) (all made : List Section) (k : ℕ) (rest : List V) → rest ≡ [] → all ≡ made ++ sections_from k (map f rest) → made ≡ all
made_last f all made k rest none is = sym (is ∙ (ap (λ rs. made ++ sections_from k (map f rs)) none ∙ append-nil made))
