-- Lists in groups whose sizes lie within bounds, and rows of parts.
use Rattle.std.proofs.Common.{◌≡◌, ℕ, zero, suc, ◌-◌, ◌*◌, ◌≤◌, List, [], ◌∷◌, ◌++◌, refl, arith, sym, ap, length, max, take, drop, length-drop}
use Rattle.std.proofs.Math.Nat.{mul-le-mul_right}
use Rattle.std.proofs.lemmas.List.{take-append-drop, length-take-le, nil_from_length}
use Rattle.std.proofs.lemmas.List.Concat.{flat_map-append}
use Rattle.std.proofs.lemmas.List.Sorted.{IsPermutation-refl}
use Rattle.std.specs.List.{AllByRecursion}
use Rattle.std.specs.List.Sorted.{IsPermutation}
use Rattle.lists.proofs.Joined.{flat, interleave}
use Rattle.tally.specs.declared.Bound.{Bound}
use Rattle.tally.specs.declared.Bound.TheVariants.{Upto, Free}
use Rattle.tally.specs.Copies.{Fills}
use Rattle.tally.specs.Deals.{IsUpTo}
use Rattle.tally.specs.Span.{IsOrdered}

-- a list in k groups of sizes from low to the bound
pub record Groups {X : Type 0} (low : ℕ) (bound : Bound) (k : ℕ) (xs : List X) : Type 0 where
  pub groups : List (List X)
  pub many : length groups ≡ k
  pub is : flat groups ≡ xs
  pub sizes : AllByRecursion (λ group. (low ≤ length group) × IsUpTo (length group) bound) groups

-- a first group of so many items, and groups of what is left
one_more :
    {X : Type 0} (low : ℕ) (bound : Bound) (k : ℕ) (xs : List X) (size : ℕ) → size ≤ length xs → low ≤ size →
    IsUpTo size bound → Groups low bound k (drop size xs) → Groups low bound (suc k) xs
one_more low bound k xs size short least most r = record {
  groups = take size xs ∷ r.groups;
  many = ap suc r.many;
  is = rw r.is (take-append-drop size xs);
  sizes = ((rw (length-take-le size xs short) least, rw (length-take-le size xs short) most), r.sizes);
}

-- a list is put into k groups wherever its length allows k groups
pub group_in :
    {X : Type 0} (low : ℕ) (bound : Bound) → IsOrdered low bound → (k : ℕ) (xs : List X) →
    Fills low bound k (length xs) → Groups low bound k xs
group_in low Free ord zero xs h =
    record { groups = []; many = refl; is = sym (nil_from_length xs (h.1 refl)); sizes = tt }
group_in low (Upto m) ord zero xs h =
    record { groups = []; many = refl; is = sym (nil_from_length xs (omega arith)); sizes = tt }
group_in low Free ord (suc k) xs h =
    let size : ℕ = length xs - low * k in
    one_more low Free k xs size (omega arith) (omega arith) tt
    (group_in low Free ord k (drop size xs) (omega (arith, length-drop size xs), λ e. rw (length-drop, e) (omega arith)))
group_in low (Upto m) ord (suc k) xs h =
    let size : ℕ = max low (length xs - m * k) in
    let order : low * k ≤ m * k = mul-le-mul_right k ord in
    one_more low (Upto m) k xs size (omega arith) (omega arith) (omega arith)
    (group_in low (Upto m) ord k (drop size xs) (omega (arith, length-drop size xs), omega (arith, length-drop size xs)))

-- k rows of parts that hold the items, and nothing else
pub record Rows {X : Type 0} (R : List (List X) → Type 0) (k : ℕ) (xs : List X) : Type 0 where
  pub rows : List (List (List X))
  pub many : length rows ≡ k
  pub deals : IsPermutation xs (flat (flat rows))
  pub all : AllByRecursion R rows

-- rows without parts hold nothing
pub no_rows : {X : Type 0} (R : List (List X) → Type 0) → R [] → (k : ℕ) → Rows R k []
no_rows R none zero = record { rows = []; many = refl; deals = IsPermutation-refl []; all = tt }
no_rows R none (suc k) = let r = no_rows R none k in
    record { rows = [] ∷ r.rows; many = ap suc r.many; deals = r.deals; all = (none, r.all) }

-- rows with one part more each
pub zip_rows :
    {X : Type 0} (P : List X → Type 0) (Q R : List (List X) → Type 0) →
    ((part : List X) (row : List (List X)) → P part → Q row → R (part ∷ row)) → (k : ℕ) (parts : List (List X)) (rows : List (List (List X))) →
    length parts ≡ k → length rows ≡ k → AllByRecursion P parts → AllByRecursion Q rows → Rows R k (flat parts ++ flat (flat rows))
zip_rows P Q R join k [] [] a b h t = record { rows = []; many = a; deals = IsPermutation-refl []; all = tt }
zip_rows P Q R join k [] (row ∷ rows) a b h t = absurd (omega arith)
zip_rows P Q R join k (part ∷ parts) [] a b h t = absurd (omega arith)
zip_rows P Q R join zero (part ∷ parts) (row ∷ rows) a b h t = absurd (omega arith)
zip_rows P Q R join (suc k) (part ∷ parts) (row ∷ rows) a b h t =
    let r = zip_rows P Q R join k parts rows (omega arith) (omega arith) h.1 t.1 in
    record {
      rows = (part ∷ row) ∷ r.rows;
      many = ap suc r.many;
      deals = rw (flat_map-append (λ xs. xs) row (flat rows), flat_map-append (λ xs. xs) row (flat r.rows))
          (interleave part (flat parts) (flat row) (flat (flat rows)) (flat (flat r.rows)) r.deals);
      all = (join part row h.0 t.0, r.all);
    }
