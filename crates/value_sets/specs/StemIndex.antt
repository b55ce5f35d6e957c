-- Stems that are kept in the order of their bytes, so that one that a text begins with is found by halving (own).
use Rattle.std.specs.Prelude.{ℕ, List, [], ◌∷◌, ◌++◌, ◌-◌, ◌≡◌, ◌<◌, ◌≤◌, ◌⊎◌, ◌↔◌, Any, Bool, IsSomeAnd, encode_utf8_all, false, true, get_or, length, not, slice_get}
use Rattle.std.specs.Cmp.Lexicographic.{slice_cmp}
use Rattle.std.specs.List.Sorted.{IsPartitionPoint}
use Rattle.std.specs.Ordering.{is_lt, nat_cmp}
use Rattle.std.specs.declared.cmp.Ordering.{Ordering}
use Rattle.value_sets.specs.Stems.{HasPrefix}

-- the order of the bytes of two texts
abbrev pub by_bytes : List ℕ → List ℕ → Ordering
by_bytes a b = slice_cmp nat_cmp (encode_utf8_all a) (encode_utf8_all b)

-- whether the first text is not behind the second
abbrev pub is_upto : List ℕ → List ℕ → Bool
is_upto a b = not (is_lt (by_bytes b a))

-- no stem is behind one that stands after it, or begins that
abbrev pub AreApart : List (List ℕ) → Type 0
AreApart stems = (i j : ℕ) (d : List ℕ) → i < j → j < length stems →
    (is_upto (get_or stems i d) (get_or stems j d) ≡ true) × (¬ HasPrefix (get_or stems i d) (get_or stems j d))

-- the texts that begin with one of these stems are those that begin with one of the others
abbrev pub StandFor : List (List ℕ) → List (List ℕ) → Type 0
StandFor stems others = (text : List ℕ) → Any (λ stem. HasPrefix stem text) stems ↔ Any (λ stem. HasPrefix stem text) others

-- there is a last stem, and the text begins with it
abbrev pub BeginsWithLast : List (List ℕ) → List ℕ → Type 0
BeginsWithLast stems text = IsSomeAnd (slice_get stems (length stems - 1)) (λ stem. HasPrefix stem text)

-- the stem is put behind those that are kept, where it does not begin with the last one
abbrev pub Keeps : List (List ℕ) → List ℕ → List (List ℕ) → Type 0
Keeps old stem new = (BeginsWithLast old stem × (new ≡ old)) ⊎ ((¬ BeginsWithLast old stem) × (new ≡ old ++ stem ∷ []))

-- so many of the stems are not behind the text, and then come those that are
abbrev pub IsCountUpto : List (List ℕ) → List ℕ → ℕ → Type 0
IsCountUpto stems text count =
    (count ≤ length stems) × IsPartitionPoint (λ stem. is_upto stem text ≡ true) (λ stem. is_upto stem text ≡ false) stems count
