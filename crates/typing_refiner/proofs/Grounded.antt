-- What is put together is what a refinement asks for.
use Rattle.std.proofs.Common.{◌≡◌, ◌∙◌, ℕ, Bool, true, ◌<◌, ◌≤◌, List, arith, sym, ap, subst, length, map, ◌++◌, take, drop}
use Rattle.std.proofs.Math.Dec.{leb}
use Rattle.std.proofs.lemmas.Bool.{le-leb, leb-true}
use Rattle.std.proofs.lemmas.List.{length-map, take-append-le, take_all}
use Rattle.std.proofs.lemmas.Option.{slice_get-map}
use Rattle.std.specs.Prelude.{◌↔◌, ◌-◌, ◌^◌, IsTrue, Some, min, option_map, slice_get}
use Rattle.rdf_terms.specs.declared.terms.Triple.{Triple}
use Rattle.schema_tree.specs.declared.schema.Pair.{Pair}
use Rattle.schema_tree.specs.declared.schema.Schema.{Schema}
use Rattle.schema_tree.specs.Needs.{Needs}
use Rattle.rdf_terms.specs.declared.terms.Term.{Term}
use Rattle.schema_tree.specs.Laws.{WidthIsOne}
use Rattle.schema_tree.specs.Width.{IsWithinWidth}
use Rattle.typing_refiner.specs.Building.{AreNeeds, AreWidths, HasAt, is_within}
use Rattle.typing_refiner.specs.Ready.{IsAmong}

within_is : (w m budget : ℕ) → budget < m → (leb (min w m) budget ≡ true) ↔ (w ≤ budget)
within_is w m budget lt = (
  (λ e. let le = leb-true (min w m) budget e in omega (arith, lt, le)),
  (λ le. le-leb (min w m) budget (omega (arith, lt, le))),
)

-- the function that gives each pair its Width
abbrev pub width_by : WidthIsOne → (s : Schema) (terms : List Term) (g : List Triple) → Pair → ℕ
width_by law s terms g p = (law s terms g p).0.0

pub widths_by : (law : WidthIsOne) (s : Schema) (terms : List Term) (g : List Triple) → AreWidths s terms g (width_by law s terms g)
widths_by law s terms g p = (law s terms g p).0.1

narrow_of : (law : WidthIsOne) (s : Schema) (terms : List Term) (g : List Triple) (budget : ℕ) (width : Pair → ℕ) → AreWidths s terms g width →
    (pairs : List Pair) (narrow tests : List Bool) → tests ≡ narrow →
    narrow ≡ map (is_within width budget) pairs → budget < 2 ^ 64 - 1 →
    (i : ℕ) (p : Pair) (b : Bool) → slice_get pairs i ≡ Some p → slice_get tests i ≡ Some b → IsTrue b ↔ IsWithinWidth s terms g budget p
narrow_of law s terms g budget width widths pairs narrow tests same is lt i p b at test =
    let told : slice_get tests i ≡ option_map (is_within width budget) (slice_get pairs i) = ap (λ xs. slice_get xs i) (same ∙ is) ∙ slice_get-map (is_within width budget) pairs i in
    let both : Some b ≡ Some (is_within width budget p) = sym test ∙ (told ∙ ap (option_map (is_within width budget)) at) in
    let e : is_within width budget p ≡ b = cc in
    let ways = subst (λ c. IsTrue c ↔ (width p ≤ budget)) e (within_is (width p) (2 ^ 64 - 1) budget lt) in
    ((λ t. (width p, widths p, ways.0 t)), (λ r. ways.1 (subst (λ v. v ≤ budget) ((law s terms g p).1 r.0 (width p) r.1 (widths p)) r.2)))

pub narrow_at : (law : WidthIsOne) (s : Schema) (terms : List Term) (g : List Triple) (budget : ℕ) (pairs : List Pair) (narrow tests : List Bool) → tests ≡ narrow →
    ((width : Pair → ℕ) → AreWidths s terms g width → narrow ≡ map (is_within width budget) pairs) → budget < 2 ^ 64 - 1 →
    (i : ℕ) (p : Pair) (b : Bool) → slice_get pairs i ≡ Some p → slice_get tests i ≡ Some b → IsTrue b ↔ IsWithinWidth s terms g budget p
narrow_at law s terms g budget pairs narrow tests same are lt =
    let widths = widths_by law s terms g in
    narrow_of law s terms g budget (width_by law s terms g) widths pairs narrow tests same (are (width_by law s terms g) widths) lt

pub tested : (law : WidthIsOne) (s : Schema) (terms : List Term) (g : List Triple) (budget : ℕ) (pairs : List Pair) (narrow tests : List Bool) → tests ≡ narrow →
    ((width : Pair → ℕ) → AreWidths s terms g width → narrow ≡ map (is_within width budget) pairs) → length tests ≡ length pairs
tested law s terms g budget pairs narrow tests same are =
    ap length (same ∙ are (width_by law s terms g) (widths_by law s terms g)) ∙ length-map pairs (is_within (width_by law s terms g) budget)

pub needing_at : {V : Type 0} (f : V → List ℕ) (s : Schema) (g : List Triple) (pairs : List Pair) (lists held : List V) → held ≡ lists → AreNeeds s g pairs (map f lists) →
    (i j : ℕ) (p q : Pair) → slice_get pairs i ≡ Some p → slice_get pairs j ≡ Some q → Needs s g q p → IsAmong (option_map f (slice_get held i)) j
needing_at f s g pairs lists held same are i j p q at_i at_j needs =
    subst (λ o. IsAmong o j) (slice_get-map f held i) (subst (λ xs. HasAt (map f xs) i j) (sym same) ((are i j).1 (q, p, at_j, at_i, needs)))

-- what is written back over a whole vector
pub written_back : {X : Type 0} (new old : List X) (n : ℕ) → length new ≡ length old → n ≡ length old → take n (new ++ drop (length new) old) ≡ new
written_back new old n same is = take-append-le n new (drop (length new) old) (let e : n ≤ length new = omega (arith, same, is) in e)
    ∙ take_all n new (let e : length new ≤ n = omega (arith, same, is) in e)
