-- What is known of all pairs is kept for some of them.
use Rattle.std.proofs.Common.{◌≡◌, inl, inr, ℕ, zero, suc, ◌≤◌, List, [], ◌∷◌, length, refl, sym, ap, subst, arith, Bool, true, false, cond, filter}
use Rattle.std.specs.Prelude.{Contains}
use Rattle.lists.specs.Distinct.{AreDistinct}
use Rattle.lists.proofs.Among.{few_among}
use Rattle.lists.proofs.Filters.{in_filter}
use Rattle.lists.proofs.Members.{got_in, place_of}
use Rattle.rdf_terms.specs.declared.terms.Term.{Term}
use Rattle.rdf_terms.specs.declared.terms.Triple.{Triple}
use Rattle.schema_tree.specs.declared.schema.Pair.{Pair}
use Rattle.schema_tree.specs.declared.schema.Schema.{Schema}
use Rattle.schema_tree.specs.Needs.{HoldNeeds}
use Rattle.schema_tree.specs.Sure.{Known}
use Rattle.locality_laws.specs.Local.{AreKept}
use Rattle.typing_refiner.specs.Statements.{AreVerdictsOn}

-- ---- some of distinct pairs

module _ (t : Pair → Bool) where
  pub some_distinct : (xs : List Pair) → AreDistinct xs → AreDistinct (filter t xs)
  some_distinct [] d = d
  some_distinct (x ∷ xs) d = go (t x) (some_distinct xs (λ i j y a b. let e : suc i ≡ suc j = d (suc i) (suc j) y a b in omega (arith, e)))
    where
      once : ¬ Contains (filter t xs) x
      once c = let (j, at) = place_of xs x (in_filter t xs x c).0 in let e : 0 ≡ suc j = d 0 (suc j) x refl at in omega (arith, e)

      joined : (ys : List Pair) → ¬ Contains ys x → AreDistinct ys → AreDistinct (x ∷ ys)
      joined ys out e zero zero y a b = refl
      joined ys out e zero (suc j) y a b = absurd (out (let f : x ≡ y = cc in subst (λ z. Contains ys z) (sym f) (got_in ys j y b)))
      joined ys out e (suc i) zero y a b = absurd (out (let f : x ≡ y = cc in subst (λ z. Contains ys z) (sym f) (got_in ys i y a)))
      joined ys out e (suc i) (suc j) y a b = ap suc (e i j y a b)

      go : (b : Bool) → AreDistinct (filter t xs) → AreDistinct (cond b (x ∷ filter t xs) (filter t xs))
      go true rest = joined (filter t xs) once rest
      go false rest = rest

  pub some_few : (xs : List Pair) → AreDistinct xs → length (filter t xs) ≤ length xs
  some_few xs d = few_among (filter t xs) xs (some_distinct xs d) (λ x c. (in_filter t xs x c).0)

-- what closed pairs know of their own needs is kept
pub all_kept : (s : Schema) (terms : List Term) (g : List Triple) (f : List ℕ) (budget : ℕ) (known : Known) (pairs : List Pair) → HoldNeeds s g pairs → AreKept s terms g f budget known pairs
all_kept s terms g f budget known pairs closed p q c need = inl (closed p q c need)

pub some_kept : (s : Schema) (terms : List Term) (g : List Triple) (f : List ℕ) (budget : ℕ) (known : Known) (all : List Pair) (t : Pair → Bool) →
    HoldNeeds s g all → AreVerdictsOn s terms g f budget all known →
    AreKept s terms g f budget known (filter t all)
some_kept s terms g f budget known all t closed are p q c need = inr (λ v is. are.0 q v (closed p q (in_filter t all p c).0 need) is)
