-- A sealed graph of which a triple is inserted or removed.
use Rattle.std.proofs.Common.{◌≡◌, List, [], ◌∷◌, ◌++◌, refl, sym, Contains, IsPermutation, Option, subst, inl, inr}
use Rattle.std.proofs.lemmas.List.Sorted.{IsPermutation-to_front}
use Rattle.std.specs.List.{list_any}
use Rattle.std.specs.Option.{IsSomeAnd}
use Rattle.indexmap.specs.IndexSet.{insert_key, swap_remove_by}
use Rattle.lists.specs.Additions.{Adds}
use Rattle.lists.specs.Distinct.{AreDistinct}
use Rattle.lists.proofs.Additions.{adds_distinct}
use Rattle.lists.proofs.Distinct.{adds_item}
use Rattle.rdf_terms.specs.declared.terms.Term.{Term}
use Rattle.rdf_terms.specs.declared.terms.Triple.{Triple}
use Rattle.graph_index.specs.Contents.{Arrangement, Contents, IsArranged, IsSealedWith}
use Rattle.graph_index.proofs.Held.{held_exactly, removed_triple, same_triple, triple_decides}

-- a triple that is not held goes last
pub appended : (xs new : List Triple) (t : Triple) → (¬ Contains xs t) → new ≡ insert_key same_triple xs t → new ≡ xs ++ t ∷ []
appended xs new t missing is = by (adds_item same_triple triple_decides xs t new is)
  where
    by : Adds xs t new → new ≡ xs ++ t ∷ []
    by (inl (held, e)) = absurd (missing held)
    by (inr (other, e)) = e

pub distinct_more : (xs new : List Triple) (t : Triple) → AreDistinct xs → (¬ Contains xs t) → new ≡ xs ++ t ∷ [] → AreDistinct new
distinct_more xs new t distinct missing is = adds_distinct xs new t distinct (inr (missing, is))

-- a triple that is held comes out
pub taken : (xs new : List Triple) (t : Triple) → Contains xs t → new ≡ swap_remove_by (same_triple t) xs → IsPermutation xs (t ∷ new)
taken xs new t held is = removed_triple xs new t ((held_exactly xs t (list_any (same_triple t) xs) refl).1 held) is

module _ (terms : List Term) (t : Triple) (g : Contents) (keys : List Triple) (rows : Option Arrangement) (view : ◌≡◌ {A = Contents} (record { triples = keys; lent = rows }) g) (sealed : IsSealedWith terms g) where
  pub rows_sealed : IsSomeAnd rows (IsArranged terms keys)
  rows_sealed = subst (IsSealedWith terms) (sym view) sealed

  module _ (new : List Triple) (new_rows : Option Arrangement) where
    pub sealed_more :
        ((triples more : List Triple) → IsPermutation more (t ∷ triples) → IsSomeAnd rows (IsArranged terms triples) → IsSomeAnd new_rows (IsArranged terms more)) → new ≡ keys ++ t ∷ []
        → IsSomeAnd new_rows (IsArranged terms new)
    sealed_more step is = step keys new (subst (λ (v : List Triple). IsPermutation v (t ∷ keys)) (sym is) (IsPermutation-to_front keys t)) rows_sealed

    pub sealed_less :
        ((triples left : List Triple) → IsPermutation triples (t ∷ left) → IsSomeAnd rows (IsArranged terms triples) → IsSomeAnd new_rows (IsArranged terms left)) → IsPermutation keys (t ∷ new)
        → IsSomeAnd new_rows (IsArranged terms new)
    sealed_less step p = step keys new p rows_sealed
