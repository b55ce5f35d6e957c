-- Pairs of which none is told to be wide.
use Rattle.std.proofs.Common.{◌≡◌, ℕ, Bool, true, false, List, [], ◌∷◌, ◌++◌, ◌⊎◌, inl, inr, refl, sym, subst, ◌∙◌, arith}
use Rattle.std.specs.Prelude.{Contains, codes, ◌-◌, ◌^◌, ◌<◌, ◌≤◌, min}
use Rattle.std.specs.List.{flat_map}
use Rattle.std.proofs.Math.Dec.{leb}
use Rattle.std.proofs.lemmas.Bool.{leb-true}
use Rattle.lists.proofs.Members.{in_rest, not_in_none}
use Rattle.rdf_terms.specs.declared.terms.Term.{Term}
use Rattle.schema_tree.specs.declared.schema.Pair.{Pair}
use Rattle.schema_tree.specs.Laws.{WidthIsOne}
use Rattle.typing_refiner.specs.Building.{told_width, wide_by, wide_one}
use Rattle.typing_refiner.specs.declared.building.WidePair.{WidePair}
use Rattle.wide_pairs.specs.Laws.{NoneIsWide}
use Rattle.wide_pairs.specs.Lines.{wide_line, wide_lines}

none_of_both : {X : Type 0} (a b : List X) → a ++ b ≡ [] → (a ≡ []) × (b ≡ [])
none_of_both [] b e = (refl, e)
none_of_both (x ∷ a) b e = absurd cc

none_at : {X Y : Type 0} (f : X → List Y) (xs : List X) → flat_map f xs ≡ [] → (x : X) → Contains xs x → f x ≡ []
none_at f [] e x c = absurd (not_in_none x c)
none_at f (y ∷ xs) e x c = by (none_at f xs parts.1 x) (in_rest y xs x c)
  where
    parts : (f y ≡ []) × (flat_map f xs ≡ [])
    parts = none_of_both (f y) (flat_map f xs) e

    by : (Contains xs x → f x ≡ []) → (y ≡ x) ⊎ Contains xs x → f x ≡ []
    by behind (inl is) = subst (λ z. f z ≡ []) is parts.0
    by behind (inr later) = behind later

passes : (b : Bool) (p : Pair) (w : ℕ) → wide_by b p w ≡ [] → b ≡ true
passes true p w e = refl
passes false p w e = absurd cc

within : (w m budget : ℕ) → budget < m → leb (min w m) budget ≡ true → w ≤ budget
within w m budget lt e = let le = leb-true (min w m) budget e in omega (arith, lt, le)

-- a line is not empty, so that no line is of no pair
no_line : (terms : List Term) (budget : ℕ) (wide : List WidePair) → wide_lines terms budget wide ≡ [] → wide ≡ []
no_line terms budget [] e = refl
no_line terms budget (w ∷ ws) e = absurd (begun (none_of_both (codes "wide ") _ (none_of_both (wide_line terms budget w) (wide_lines terms budget ws) e).0).0)
  where
    begun : codes "wide " ≡ [] → ⊥
    begun is = cc

pub none_wide : WidthIsOne → NoneIsWide
none_wide one s terms g budget pairs wide few are nothing p c =
    let width : Pair → ℕ = λ q. (one s terms g q).0.0 in
    let none : wide_one p (told_width width p) budget ≡ [] =
    none_at (λ q. wide_one q (told_width width q) budget) pairs (sym (sym (no_line terms budget wide nothing) ∙ are width (λ q. (one s terms g q).0.1))) p c in
    (width p, (one s terms g p).0.1, within (width p) (2 ^ 64 - 1) budget few (passes (leb (told_width width p) budget) p (told_width width p) none))
