-- The living states of counts in their order, one after the other.
use Rattle.std.proofs.Common.{◌≡◌, ℕ, ◌+◌, ◌≤◌, inl, inr, length, List, [], ◌∷◌, ◌++◌, refl, arith, ap, sym, subst, ◌∙◌, Bool, true, false, true≢false, append_assoc}
use Rattle.std.proofs.lemmas.List.{append-nil, length-append}
use Rattle.std.proofs.lemmas.List.Elements.{Contains-append_right}
use Rattle.std.specs.Prelude.{Contains, IsTrue, ◌↔◌}
use Rattle.std.specs.List.Sorted.{IsStrictlySortedBy}
use Rattle.std.specs.Global.{Vec}
use Rattle.std.specs.Cmp.Lexicographic.{slice_cmp}
use Rattle.std.specs.Ordering.{nat_cmp}
use Rattle.std.specs.declared.cmp.Ordering.TheVariants.{Less}
use Rattle.rdf_terms.specs.declared.terms.TermId.{TermId}
use Rattle.rdf_terms.specs.declared.terms.Triple.{Triple}
use Rattle.schema_tree.specs.declared.schema.Shape.{Shape}
use Rattle.schema_tree.specs.declared.verdicts.State.{State}
use Rattle.schema_tree.specs.States.{IsDead, IsStateBefore}
use Rattle.lists.proofs.Quantifiers.{all_at}
use Rattle.lists.proofs.Members.{in_rest, is_first, is_later, not_in_none}
use Rattle.bag_match.specs.Counts.{state_of}
use Rattle.bag_match.specs.Layers.{AreLiving}
use Rattle.bag_match.specs.Sets.{AreSmall}
use Rattle.bag_match.proofs.Putting.{compare_items, lists}
use Rattle.bag_match.proofs.Rising.{in_push, push_has, push_keeps, rising_push}

-- the counts come before those behind them
abbrev pub AreBelow : List (List ℕ) → List ℕ → Type 0
AreBelow cs c = (b : List ℕ) → Contains cs b → slice_cmp nat_cmp b c ≡ Less

pub below_next : (ys : List (Vec ℕ)) (k : Vec ℕ) (rest : List (Vec ℕ)) → IsStrictlySortedBy compare_items (ys ++ k ∷ rest) → AreBelow (lists ys) k.items
unfolding IsStrictlySortedBy
below_next [] k rest sorted b c = absurd (not_in_none b c)
below_next (y ∷ ys) k rest sorted b c = elim (in_rest y.items (lists ys) b c) [
  | inl e ↦ subst (λ z. slice_cmp nat_cmp z k.items ≡ Less) e (all_at (λ z. compare_items y z ≡ Less) (ys ++ k ∷ rest) k sorted.0 (Contains-append_right ys (k ∷ rest) k (is_first k rest)))
  | inr later ↦ below_next ys k rest sorted.1 b later
]

pub lists_push : (ys : List (Vec ℕ)) (k : Vec ℕ) → lists (ys ++ k ∷ []) ≡ lists ys ++ k.items ∷ []
lists_push [] k = refl
lists_push (y ∷ ys) k = ap (λ zs. y.items ∷ zs) (lists_push ys k)

pub lists_has : (ys : List (Vec ℕ)) (k : Vec ℕ) (rest : List (Vec ℕ)) → Contains (lists (ys ++ k ∷ rest)) k.items
lists_has [] k rest = is_first k.items (lists rest)
lists_has (y ∷ ys) k rest = is_later y.items (lists (ys ++ k ∷ rest)) k.items (lists_has ys k rest)

pub small_at : (n : ℕ) (left : List ℕ) (keys ys : List (Vec ℕ)) (k : Vec ℕ) (rest : List (Vec ℕ)) → AreSmall n left (lists keys) → keys ≡ ys ++ k ∷ rest → AreSmall n left (k.items ∷ [])
small_at n left keys ys k rest small is c h =
    small c (elim (in_rest k.items [] c h) [
      | inl e ↦ subst (λ z. Contains (lists keys) z) e (subst (λ zs. Contains (lists zs) k.items) (sym is) (lists_has ys k rest))
      | inr none ↦ absurd (not_in_none c none)
    ])

module _ (sh : Shape) (n : TermId) (ts : List Triple) (done : ℕ) where
  pub living_none : AreLiving sh n ts done [] []
  living_none = record { rising = tt; same = λ x. ((λ c. absurd (not_in_none x c)), λ (d, c, h). absurd (not_in_none x.counts c)) }

  pub living_alive : (cs : List (List ℕ)) (states : List State) (c : List ℕ) → AreLiving sh n ts done cs states → AreBelow cs c → ¬ IsDead sh n ts (state_of done c) →
      AreLiving sh n ts done (cs ++ c ∷ []) (states ++ state_of done c ∷ [])
  living_alive cs states c h below alive = record {
    rising = rising_push IsStateBefore states (state_of done c) h.rising (λ x d. let k = (h.same x).0 d in inr (k.0, below x.counts k.1));
    same = λ x. (
      (λ d. elim (in_push states (state_of done c) x d) [
        | inl before ↦ let k = (h.same x).0 before in (k.0, push_keeps cs c x.counts k.1, k.2)
        | inr own ↦ ((ap (λ z. z.done) (sym own)), push_has cs c x.counts (ap (λ z. z.counts) own), subst (λ z. ¬ IsDead sh n ts z) own alive)
      ]),
      (λ (d, held, lives). elim (in_push cs c x.counts held) [
        | inl before ↦ push_keeps states (state_of done c) x ((h.same x).1 (d, before, lives))
        | inr own ↦ push_has states (state_of done c) x (λ i. state_of (sym d i) (own i))
      ]),
    );
  }

  pub living_dead : (cs : List (List ℕ)) (states : List State) (c : List ℕ) → AreLiving sh n ts done cs states → IsDead sh n ts (state_of done c) → AreLiving sh n ts done (cs ++ c ∷ []) states
  living_dead cs states c h dead = record {
    rising = h.rising;
    same = λ x. (
      (λ d. let k = (h.same x).0 d in (k.0, push_keeps cs c x.counts k.1, k.2)),
      (λ (d, held, lives). elim (in_push cs c x.counts held) [
        | inl before ↦ (h.same x).1 (d, before, lives)
        | inr own ↦ let same : state_of done c ≡ x = (λ i. state_of (sym d i) (own i)) in absurd (lives (subst (λ z. IsDead sh n ts z) same dead))
      ]),
    );
  }

-- one more of the keys is looked at
module _ (keys ys : List (Vec ℕ)) (k : Vec ℕ) (all rest : List (Vec ℕ)) (split : keys ≡ ys ++ all) (first : all ≡ k ∷ rest) where
  pub keys_are : keys ≡ ys ++ k ∷ rest
  keys_are = split ∙ ap (λ z. ys ++ z) first

  pub keys_next : keys ≡ (ys ++ k ∷ []) ++ rest
  keys_next = keys_are ∙ sym (append_assoc ys (k ∷ []) rest)

  pub ticks_next : (start before now : ℕ) → before ≡ start + length ys → now ≡ before + 1 → now ≡ start + length (ys ++ k ∷ [])
  ticks_next start before now was is = let l = length-append ys (k ∷ []) in omega (arith, was, is, l)

  pub small_now : (n : ℕ) (left now : List ℕ) → AreSmall n left (lists keys) → now ≡ k.items → AreSmall n left (now ∷ [])
  small_now n left now small is = subst (λ z. AreSmall n left (z ∷ [])) (sym is) (small_at n left keys ys k rest small keys_are)

  module _ (sh : Shape) (n : TermId) (ts : List Triple) (done : ℕ) (states : List State) (r : Bool) (now counts : List ℕ)
      (sorted : IsStrictlySortedBy compare_items keys) (was : AreLiving sh n ts done (lists ys) states) (at : now ≡ k.items)
      (told : IsTrue r ↔ IsDead sh n ts (state_of done now)) where
    pub living_on : (new : List State) → r ≡ false → counts ≡ k.items → new ≡ states ++ state_of done counts ∷ [] → AreLiving sh n ts done (lists (ys ++ k ∷ [])) new
    living_on new lives own is =
        subst (λ z. AreLiving sh n ts done (lists (ys ++ k ∷ [])) z) (sym (is ∙ ap (λ z. states ++ state_of done z ∷ []) own))
        (subst (λ zs. AreLiving sh n ts done zs (states ++ state_of done k.items ∷ [])) (sym (lists_push ys k))
        (living_alive sh n ts done (lists ys) states k.items was (below_next ys k rest (subst (λ z. IsStrictlySortedBy compare_items z) keys_are sorted))
        (λ dead. true≢false (sym (told.1 (subst (λ z. IsDead sh n ts (state_of done z)) (sym at) dead)) ∙ lives))))

    pub dead_on : r ≡ true → AreLiving sh n ts done (lists (ys ++ k ∷ [])) states
    dead_on dies =
        subst (λ zs. AreLiving sh n ts done zs states) (sym (lists_push ys k))
        (living_dead sh n ts done (lists ys) states k.items was (subst (λ z. IsDead sh n ts (state_of done z)) at (told.0 dies)))

-- no key is left
pub living_whole : (sh : Shape) (n : TermId) (ts : List Triple) (done : ℕ) (keys ys all : List (Vec ℕ)) (states : List State) → keys ≡ ys ++ all → all ≡ [] →
    AreLiving sh n ts done (lists ys) states → AreLiving sh n ts done (lists keys) states
living_whole sh n ts done keys ys all states split none h =
    subst (λ zs. AreLiving sh n ts done (lists zs) states) (sym (split ∙ ap (λ z. ys ++ z) none ∙ append-nil ys)) h

pub few_on : (ys : List (Vec ℕ)) (k : Vec ℕ) (states new : List State) (x : State) → length states ≤ length ys → new ≡ states ++ x ∷ [] → length new ≤ length (ys ++ k ∷ [])
few_on ys k states new x few is =
    let a = length-append ys (k ∷ []) in let b = length-append states (x ∷ []) in let e : length new ≡ length (states ++ x ∷ []) = ap (λ z. length z) is in omega (arith, a, b, e, few)

pub few_still : (ys : List (Vec ℕ)) (k : Vec ℕ) (states : List State) → length states ≤ length ys → length states ≤ length (ys ++ k ∷ [])
few_still ys k states few = let a = length-append ys (k ∷ []) in omega (arith, a, few)
