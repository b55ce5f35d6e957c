-- What the keys of triples tell.
use Rattle.std.proofs.Common.{◌≡◌, ℕ, zero, suc, ◌+◌, ◌*◌, ◌<◌, ◌≤◌, inl, inr, length, get_or, take, drop, map, min, max, List, [], ◌∷◌, ◌++◌, All, arith, refl, ap, sym, subst, ◌∙◌, Bool, true, false, true≢false, cond, not}
use Rattle.std.proofs.lemmas.Bool.{eq-eqb, eqb-true}
use Rattle.std.proofs.lemmas.Map.Text.{is_eq-slice_cmp}
use Rattle.std.proofs.lemmas.Map.Views.{All-keys-insert_entry, All-values-insert_entry}
use Rattle.std.specs.BTreeMap.{BTreeMap, get, insert_entry, is_at}
use Rattle.std.specs.Cmp.Lexicographic.{bytes_decides, slice_cmp}
use Rattle.std.specs.Ordering.{nat_cmp}
use Rattle.std.proofs.lemmas.List.Elements.{All-weaker}
use Rattle.std.specs.Global.{Vec}
use Rattle.std.specs.List.{list_any}
use Rattle.std.specs.Map.{keys_of, lookup, values_of}
use Rattle.std.specs.Prelude.{Contains, count_by, sum_by, Option, Some, bytes_eq, ◌&&◌, ◌||◌}
use Rattle.rdf_terms.specs.declared.terms.TermId.{TermId}
use Rattle.rdf_terms.specs.declared.terms.Triple.{Triple}
use Rattle.rdf_terms.specs.Graphs.{is_loop, same_id}
use Rattle.schema_tree.specs.declared.schema.ExprId.{ExprId}
use Rattle.schema_tree.specs.declared.schema.Shape.{Shape}
use Rattle.schema_tree.specs.declared.verdicts.Verdict.{Verdict}
use Rattle.schema_tree.specs.Relevant.{is_forward}
use Rattle.schema_tree.specs.Width.{is_open, is_open_rest, is_taken_by, product, ways}
use Rattle.std.proofs.lemmas.List.{take_more, take_all}
use Rattle.std.proofs.lemmas.List.Sums.{sum_by-append, sum_by-cons}
use Rattle.bag_match.specs.Keys.{AreCounted, AreSized, CountsOne, HaveKeys, IsKeyLong, compare_lists, has_key, held, if_any, is_set, key_of, places_of}
use Rattle.schema_tree.proofs.Widths.{ways_some}
use Rattle.bag_match.proofs.Classes.{IsNear, end_is}
use Rattle.bag_match.proofs.Rising.{in_push}
use Rattle.bag_match.proofs.Spread.{mul-le-mul}
use Rattle.std.proofs.Common.{mul_assoc, mul_comm}
use Rattle.std.proofs.lemmas.Bool.{cases_lt}
use Rattle.lists.proofs.Members.{any_true, is_first, is_later}

-- ---- the remainder

extra_in : (t : Triple) (xs : List TermId) → list_any (λ p. same_id p t.p) xs ≡ true → Contains xs t.p
extra_in t [] e = absurd (true≢false (sym e))
extra_in t (x ∷ xs) e = go (same_id x t.p) refl (λ h. extra_in t xs h) e
  where
    go : (b : Bool) → same_id x t.p ≡ b → (list_any (λ p. same_id p t.p) xs ≡ true → Contains xs t.p) → (b || list_any (λ p. same_id p t.p) xs) ≡ true → Contains (x ∷ xs) t.p
    go true is deeper h = subst (λ z. Contains (x ∷ xs) z) (ap (λ k. record { 0 = k }) (eqb-true x.0 t.p.0 is)) (is_first x xs)
    go false is deeper h = is_later x xs t.p (deeper h)

-- an arc out that a forward occurrence fits may not stay where its predicate is not in extra
pub not_in_extra : (plain : TermId → Option ExprId → Verdict) (sh : Shape) (n : TermId) (t : Triple) → IsNear n t → same_id t.s n ≡ true →
    list_any (is_forward n t) sh.occs ≡ true → (Contains sh.extra t.p → ⊥) → false ≡ is_open_rest plain sh n t
not_in_extra plain sh n t near out fits none = go (same_id t.s n) out (same_id t.o n) (is_loop t) (end_is n t near)
    (list_any (λ p. same_id p t.p) sh.extra) refl (list_any (is_forward n t) sh.occs) fits
  where
    taken : Bool
    taken = list_any (is_taken_by plain n t) sh.occs

    go : (a : Bool) → a ≡ true → (o l : Bool) → o ≡ cond a l true → (x : Bool) → list_any (λ p. same_id p t.p) sh.extra ≡ x → (f : Bool) → f ≡ true →
        false ≡ ((o && not l) || (a && ((x && not taken) || not f)))
    go false e o l is x at f g = absurd (true≢false (sym e))
    go true e o l is true at f g = absurd (none (extra_in t sh.extra at))
    go true e o l is false at false g = absurd (true≢false (sym g))
    go true e true true is false at true g = refl
    go true e true false is false at true g = absurd (true≢false is)
    go true e false l is false at true g = refl

-- by its form it may exactly where its predicate is in extra
pub open_by_extra : (sh : Shape) (n : TermId) (t : Triple) (b : Bool) → IsNear n t → same_id t.s n ≡ true → list_any (is_forward n t) sh.occs ≡ true → (b ≡ true → Contains sh.extra t.p) →
    (Contains sh.extra t.p → b ≡ true) → b ≡ is_open sh n t
open_by_extra sh n t b near out fits in_extra extra_is =
    go (same_id t.s n) out (same_id t.o n) (is_loop t) (end_is n t near) (list_any (λ p. same_id p t.p) sh.extra) refl (list_any (is_forward n t) sh.occs) fits b in_extra extra_is
  where
    go : (a : Bool) → a ≡ true → (o l : Bool) → o ≡ cond a l true → (x : Bool) → list_any (λ p. same_id p t.p) sh.extra ≡ x → (f : Bool) → f ≡ true →
        (c : Bool) → (c ≡ true → Contains sh.extra t.p) → (Contains sh.extra t.p → c ≡ true) → c ≡ ((o && not l) || (a && (x || not f)))
    go false e o l is x at f g c there here = absurd (true≢false (sym e))
    go true e o l is x at false g c there here = absurd (true≢false (sym g))
    go true e true false is x at true g c there here = absurd (true≢false is)
    go true e true true is true at true g c there here = here (extra_in t sh.extra at)
    go true e false l is true at true g c there here = here (extra_in t sh.extra at)
    go true e o l is false at true g true there here = absurd (true≢false (sym (any_true (λ p. same_id p t.p) sh.extra t.p (there refl) (eq-eqb t.p.0 t.p.0 refl)) ∙ at))
    go true e true true is false at true g false there here = refl
    go true e false l is false at true g false there here = refl

-- ---- counting

same_get : (m : BTreeMap (Vec ℕ) ℕ) (a b : Vec ℕ) → a.items ≡ b.items → get compare_lists m a ≡ get compare_lists m b
same_get m a b e = ap (λ (xs : List ℕ). lookup (is_at (λ (z : Vec ℕ). slice_cmp nat_cmp xs z.items)) m.entries) e

-- one more is counted where the key has the next number
pub counts_one : (old new : BTreeMap (Vec ℕ) ℕ) (key : Vec ℕ) (next : ℕ) → next ≡ suc (held (get compare_lists old key)) →
    ((q : Vec ℕ) → get compare_lists new q ≡ cond (is_at (compare_lists key) q) (Some next) (get compare_lists old q)) → CountsOne key.items old new
counts_one old new key next is updates k =
    updates k ∙ ap (λ b. cond b (Some next) (get compare_lists old k)) (is_eq-slice_cmp key.items k.items) ∙ go (bytes_eq key.items k.items) refl
  where
    go : (b : Bool) → bytes_eq key.items k.items ≡ b → cond b (Some next) (get compare_lists old k) ≡ cond b (Some (suc (held (get compare_lists old k)))) (get compare_lists old k)
    go true e = ap Some (is ∙ ap (λ x. suc (held x)) (same_get old key k ((bytes_decides key.items k.items).0 e)))
    go false e = refl

pub sized_more : (old new : BTreeMap (Vec ℕ) ℕ) (key : Vec ℕ) (next bound : ℕ) → IsKeyLong key → next ≤ bound + 1 → new.entries ≡ insert_entry compare_lists old.entries key next →
    AreSized bound old → AreSized (bound + 1) new
sized_more old new key next bound long le is sized = record {
  long = subst (λ es. All IsKeyLong (keys_of es)) (sym is) (All-keys-insert_entry compare_lists key next IsKeyLong old.entries sized.long long);
  few = subst (λ es. All (λ v. v ≤ bound + 1) (values_of es)) (sym is)
      (All-values-insert_entry compare_lists key next (λ v. v ≤ bound + 1) old.entries
      (All-weaker (λ v. v ≤ bound) (λ v. v ≤ bound + 1) (λ v h. omega (arith, h)) (values_of old.entries) sized.few) le);
}

pub held_any : (c : ℕ) → held (if_any c) ≡ c
held_any zero = refl
held_any (suc c) = refl

count_push : {X : Type 0} (p : X → Bool) (xs : List X) (x : X) → count_by p (xs ++ x ∷ []) ≡ count_by p xs + cond (p x) 1 0
count_push p xs x =
    let a = sum_by-append (λ z. cond (p z) 1 0) xs (x ∷ []) in
    let b = sum_by-cons (λ z. cond (p z) 1 0) x [] in
    let c : sum_by (λ z. cond (p z) 1 0) [] ≡ 0 = refl in
    omega (arith, a, b, c)

-- so the next triple is counted too
pub counted_next : (plain : TermId → Option ExprId → Verdict) (sh : Shape) (n : TermId) (ts : List Triple) (i : ℕ) (d : Triple) → i < length ts → (old new : BTreeMap (Vec ℕ) ℕ) (key : Vec ℕ) →
    key.items ≡ key_of plain sh n (get_or ts i d) → AreCounted plain sh n (take i ts) old → CountsOne key.items old new → AreCounted plain sh n (take (i + 1) ts) new
counted_next plain sh n ts i d within old new key is counted one k =
    one k
    ∙ (λ j. cond (bytes_eq (is j) k.items) (Some (suc (held (counted k j)))) (counted k j))
    ∙ go (has_key plain sh n k.items (get_or ts i d))
    ∙ ap if_any (sym (ap (λ zs. count_by (has_key plain sh n k.items) zs) (take_more ts i d within) ∙ count_push (has_key plain sh n k.items) (take i ts) (get_or ts i d)))
  where
    c : ℕ
    c = count_by (has_key plain sh n k.items) (take i ts)

    go : (b : Bool) → cond b (Some (suc (held (if_any c)))) (if_any c) ≡ if_any (c + cond b 1 0)
    go true = ap (λ z. Some (suc z)) (held_any c) ∙ ap if_any (let e : suc c ≡ c + 1 = omega arith in e)
    go false = ap if_any (let e : c ≡ c + 0 = omega arith in e)

pub none_counted : (plain : TermId → Option ExprId → Verdict) (sh : Shape) (n : TermId) (ts : List Triple) (i : ℕ) → length ts ≤ i → (m : BTreeMap (Vec ℕ) ℕ) →
    AreCounted plain sh n (take i ts) m → AreCounted plain sh n ts m
none_counted plain sh n ts i past m counted = subst (λ us. AreCounted plain sh n us m) (take_all i ts past) counted

pub have_next : (plain : TermId → Option ExprId → Verdict) (sh : Shape) (n : TermId) (ts : List Triple) (i : ℕ) (d : Triple) → i < length ts → (key : Vec ℕ) →
    key.items ≡ key_of plain sh n (get_or ts i d) → HaveKeys plain sh n (take i ts) → HaveKeys plain sh n (take (i + 1) ts)
have_next plain sh n ts i d within key is have t held =
    elim (in_push (take i ts) (get_or ts i d) t (subst (λ zs. Contains zs t) (take_more ts i d within) held)) [
      | inl before ↦ have t before
      | inr own ↦ (key, is ∙ ap (λ z. key_of plain sh n z) own)
    ]

-- ---- products up to a bound

-- a factor may be cut at the bound before it is multiplied
pub cut_first : (a b most : ℕ) → 1 ≤ b → min (min a most * b) most ≡ min (a * b) most
cut_first a b most some = elim (cases_lt most a) [
  | inl above ↦
      let x : min a most ≡ most = omega (arith, above) in
      let y : most * 1 ≤ most * b = mul-le-mul most most 1 b (omega arith) some in
      let z : a * 1 ≤ a * b = mul-le-mul a a 1 b (omega arith) some in
      let w : min (most * b) most ≡ most = omega (arith, y) in
      ap (λ k. min (k * b) most) x ∙ w ∙ (let v : most ≡ min (a * b) most = omega (arith, z, above) in v)
  | inr within ↦ ap (λ k. min (k * b) most) (let x : min a most ≡ a = omega (arith, within) in x)
]

-- one more factor, each step cut at the bound
pub cut_step : (p w r most next way : ℕ) → 1 ≤ p → 1 ≤ w → 1 ≤ r → way ≡ min w most → next ≡ min (p * way) most → min (next * r) most ≡ min (p * (w * r)) most
cut_step p w r most next way a b c is at =
    ap (λ k. min (k * r) most) at
    ∙ cut_first (p * way) r most c
    ∙ ap (λ k. min k most) (ap (λ k. p * k * r) is ∙ mul_assoc p (min w most) r ∙ mul_comm p (min w most * r) ∙ mul_assoc (min w most) r p)
    ∙ cut_first w (r * p) most (mul_some r p c a)
    ∙ ap (λ k. min k most) (sym (mul_assoc w r p) ∙ mul_comm (w * r) p)
  where
    mul_some : (a b : ℕ) → 1 ≤ a → 1 ≤ b → 1 ≤ a * b
    mul_some a b h k = grind (arith, h, k)

-- a class has a way, and all classes together
pub some_way : (d : ℕ) (key : List ℕ) → 1 ≤ ways d (places_of key)
some_way d key =
    let (p, e) = one_more (count_by is_set (drop 3 key)) in
    subst (λ k. 1 ≤ ways d k) (sym e) (ways_some d p)
  where
    one_more : (k : ℕ) → (p : ℕ) × (max 1 k ≡ suc p)
    one_more zero = (0, omega arith)
    one_more (suc k) = (k, omega arith)

pub some_ways : (es : List (Vec ℕ × ℕ)) → 1 ≤ product (map (λ e. ways e.1 (places_of e.0.items)) es)
some_ways [] = omega arith
some_ways (e ∷ es) = let a = some_way e.1 e.0.items in let b = some_ways es in both (ways e.1 (places_of e.0.items)) (product (map (λ z. ways z.1 (places_of z.0.items)) es)) a b
  where
    both : (a b : ℕ) → 1 ≤ a → 1 ≤ b → 1 ≤ a * b
    both a b h k = grind (arith, h, k)

-- the product of the classes that are left goes on with the next
pub product_goes : (it rest : List (Vec ℕ × ℕ)) (key : Vec ℕ) (things p way next most all : ℕ) → it ≡ (key, things) ∷ rest → 1 ≤ p → way ≡ min (ways things (places_of key.items)) most →
    next ≡ min (p * way) most → min (p * product (map (λ e. ways e.1 (places_of e.0.items)) it)) most ≡ min all most →
    min (next * product (map (λ e. ways e.1 (places_of e.0.items)) rest)) most ≡ min all most
product_goes it rest key things p way next most all steps some is at before =
    cut_step p (ways things (places_of key.items)) (product (map (λ e. ways e.1 (places_of e.0.items)) rest)) most next way some (some_way things key.items) (some_ways rest) is at
    ∙ ap (λ zs. min (p * product (map (λ e. ways e.1 (places_of e.0.items)) zs)) most) (sym steps) ∙ before

pub product_ends : (it : List (Vec ℕ × ℕ)) (p most all : ℕ) → it ≡ [] → p ≤ most → min (p * product (map (λ e. ways e.1 (places_of e.0.items)) it)) most ≡ min all most → p ≡ min all most
product_ends it p most all ends within before =
    (let e : p ≡ min (p * 1) most = omega (arith, within) in e) ∙ ap (λ zs. min (p * product (map (λ e. ways e.1 (places_of e.0.items)) zs)) most) (sym ends) ∙ before

pub long_rest : (it rest : List (Vec ℕ × ℕ)) (key : Vec ℕ) (things : ℕ) → it ≡ (key, things) ∷ rest → All IsKeyLong (keys_of it) → IsKeyLong key × All IsKeyLong (keys_of rest)
long_rest it rest key things steps all =
    let here = subst (λ zs. All IsKeyLong (keys_of zs)) steps all in
    (here 0 key (omega arith), λ i d within. here (suc i) d (omega (arith, within)))

pub some_next : (p way next most w : ℕ) → 1 ≤ p → 1 ≤ w → 1 ≤ most → way ≡ min w most → next ≡ min (p * way) most → 1 ≤ next
some_next p way next most w a b c is at =
    let x : 1 ≤ way = omega (arith, b, c, is) in
    let y : 1 ≤ p * way = both p way a x in
    omega (arith, c, at, y)
  where
    both : (a b : ℕ) → 1 ≤ a → 1 ≤ b → 1 ≤ a * b
    both a b h k = grind (arith, h, k)
