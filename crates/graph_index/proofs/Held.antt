-- The triples that a set holds.
use Rattle.std.proofs.Common.{◌≡◌, ℕ, ◌+◌, ◌-◌, ◌≤◌, Bool, true, false, not, if◌then◌else◌, List, [], ◌∷◌, ap, eq-eqb, refl, sym, ◌∙◌, ◌&&◌, ◌↔◌, IsTrue, true≢false, Contains, length, get_or, set, take, arith, Option, Some, None, subst}
use Rattle.std.proofs.lemmas.List.{get_or_default}
use borrow.Author.Tests.{eqb-true}
use Rattle.std.proofs.lemmas.List.Quantifiers.{position-Some}
use Rattle.std.proofs.lemmas.List.Sorted.{IsPermutation-swap_remove}
use Rattle.std.proofs.lemmas.Map.Views.{list_any-from_Contains}
use Rattle.std.specs.Bool.{Decides}
use Rattle.std.specs.List.{list_any, position, swap_remove}
use Rattle.std.specs.List.Sorted.{IsPermutation}
use Rattle.std.specs.Option.{option_map_or}
use Rattle.indexmap.proofs.CallerLemmas.{Contains-list_any}
use Rattle.indexmap.specs.IndexSet.{swap_remove_by}
use Rattle.lists.specs.Equality.{decided_equiv}
use Rattle.std.proofs.lemmas.Bool.{and_parts}
use Rattle.rdf_terms.specs.declared.terms.Triple.{Triple}
use Rattle.rdf_terms.specs.contracts.terms.TriplePartialEq.TheImpl.{ghosts}
use Rattle.graph_index.proofs.Blocks.{none_at}

abbrev pub same_triple : Triple → Triple → Bool
same_triple = ghosts.eq

both_and : (p q : Bool) → p ≡ true → q ≡ true → (p && q) ≡ true
both_and p q a b = rw (a, b) refl

pub triple_decides : (a b : Triple) → Decides (same_triple a b) (a ≡ b)
triple_decides a b = (there, λ e. both_and _ _ (eq-eqb a.s.0 b.s.0 (ap (λ t. t.s.0) e)) (both_and _ _ (eq-eqb a.p.0 b.p.0 (ap (λ t. t.p.0) e)) (eq-eqb a.o.0 b.o.0 (ap (λ t. t.o.0) e))))
  where
    there : same_triple a b ≡ true → a ≡ b
    there h =
        let first = and_parts _ _ h in
        let second = and_parts _ _ first.1 in
        λ i. record {
          s = record { 0 = eqb-true a.s.0 b.s.0 first.0 i };
          p = record { 0 = eqb-true a.p.0 b.p.0 second.0 i };
          o = record { 0 = eqb-true a.o.0 b.o.0 second.1 i };
        }

pub held : (xs : List Triple) (t : Triple) → list_any (same_triple t) xs ≡ true → Contains xs t
held xs t h = Contains-list_any same_triple (λ a b. (triple_decides a b).0) xs t h

pub held_exactly : (xs : List Triple) (t : Triple) (r : Bool) → r ≡ list_any (same_triple t) xs → IsTrue r ↔ Contains xs t
held_exactly xs t r is = (λ h. held xs t (sym is ∙ h), λ there. is ∙ list_any-from_Contains (decided_equiv same_triple triple_decides) t xs there)

-- what an insertion says of a triple: it was not held, or it was
pub told_new : (xs ys : List Triple) (t : Triple) (r : Bool) → xs ≡ ys → r ≡ not (list_any (same_triple t) xs) → r ≡ true → ¬ Contains ys t
told_new xs ys t r same is e = λ there. by (list_any (same_triple t) xs)
    (list_any-from_Contains (decided_equiv same_triple triple_decides) t xs (subst (λ zs. Contains zs t) (sym same) there)) (sym is ∙ e)
  where
    by : (b : Bool) → b ≡ true → not b ≡ true → ⊥
    by true h n = true≢false (sym n)
    by false h n = true≢false (sym h)

pub told_old : (xs ys : List Triple) (t : Triple) (r : Bool) → xs ≡ ys → r ≡ not (list_any (same_triple t) xs) → r ≡ false → Contains ys t
told_old xs ys t r same is e = subst (λ zs. Contains zs t) same (held xs t (by (list_any (same_triple t) xs) (sym is ∙ e)))
  where
    by : (b : Bool) → not b ≡ false → b ≡ true
    by true n = refl
    by false n = absurd (true≢false n)

-- a set that was not full is not too large with one more
pub still_few : (old new most : ℕ) (r : Bool) → new ≡ old + (if r then 1 else 0) → old ≤ most → (old ≡ most → ⊥) → new ≤ most
still_few old new most true is few less = omega arith
still_few old new most false is few less = omega arith

-- of a list that is not empty, the item that fills the gap does not depend on the default
same_gap : (x t : Triple) (ys : List Triple) (i : ℕ) → swap_remove (x ∷ ys) i t ≡ swap_remove (x ∷ ys) i x
same_gap x t ys i = ap (λ z. take (length (x ∷ ys) - 1) (set (x ∷ ys) i z)) (get_or_default (x ∷ ys) (length (x ∷ ys) - 1) t x (omega arith))

pub removed_triple : (xs new : List Triple) (t : Triple) → list_any (same_triple t) xs ≡ true → new ≡ swap_remove_by (same_triple t) xs → IsPermutation xs (t ∷ new)
removed_triple [] new t h is = absurd (true≢false (sym h))
removed_triple (x ∷ ys) new t h is = by (position (same_triple t) (x ∷ ys)) refl is
  where
    by : (o : Option ℕ) → position (same_triple t) (x ∷ ys) ≡ o → new ≡ option_map_or (λ i. swap_remove (x ∷ ys) i x) o (x ∷ ys) → IsPermutation (x ∷ ys) (t ∷ new)
    by (Some i) at e =
        let k = position-Some (same_triple t) (x ∷ ys) i t at in
        subst (λ z. IsPermutation (x ∷ ys) (t ∷ z)) (same_gap x t ys i ∙ sym e) (IsPermutation-swap_remove (x ∷ ys) i t k.0 ((triple_decides t (get_or (x ∷ ys) i t)).0 k.1))
    by None at e =
        let k = held (x ∷ ys) t h in
        absurd (true≢false (sym ((triple_decides t (get_or (x ∷ ys) k.0 t)).1 (sym k.2)) ∙ none_at (same_triple t) (x ∷ ys) at k.0 t k.1))
