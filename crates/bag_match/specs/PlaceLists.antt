-- Lists that stand one behind the other, by where each begins (own).
use Rattle.std.specs.Prelude.{ℕ, ⊤, List, [], ◌∷◌, ◌-◌, ◌≤◌, drop, length, take}
use Rattle.schema_tree.specs.declared.verdicts.Place.{Place}

-- the first of the numbers, or the other where there is none
abbrev pub first_of : ℕ → List ℕ → ℕ
first_of end [] = end
first_of end (start ∷ starts) = start

-- the places from each start to the next, and from the last to the end
abbrev pub lists_from : List Place → List ℕ → List (List Place)
lists_from places [] = []
lists_from places (start ∷ starts) = take (first_of (length places) starts - start) (drop start places) ∷ lists_from places starts

-- the starts do not fall, and none is behind the end
abbrev pub AreStarts : ℕ → List ℕ → Type 0
AreStarts end [] = ⊤
AreStarts end (start ∷ starts) = (start ≤ first_of end starts) × AreStarts end starts
