-- Terms, triples and triple constraints in the text of an explanation (own).
use Rattle.std.specs.Prelude.{ℕ, suc, Bool, List, [], ◌∷◌, ◌++◌, ◌==◌, ◌-◌, ◌&&◌, not, Option, Some, None, codes, if◌then◌else◌, length, slice_get, take}
use Rattle.std.specs.Fmt.{decimal}
use Rattle.std.specs.List.{filter, flat_map}
use Rattle.rdf_terms.specs.declared.terms.Term.{Term}
use Rattle.rdf_terms.specs.declared.terms.Triple.{Triple}
use Rattle.rdf_terms.specs.Graphs.{same_id}
use Rattle.rdf_terms.specs.Order.{text_at}
use Rattle.schema_tree.specs.declared.schema.Occurrence.{Occurrence}

-- a triple as a line of N-Triples, without its line feed
abbrev pub triple_text : List Term → Triple → List ℕ
triple_text terms t = text_at terms t.s ++ (codes " " ++ (text_at terms t.p ++ (codes " " ++ (text_at terms t.o ++ codes " ."))))

-- what stands before the predicate of a triple constraint: `^` where it takes arcs in
abbrev pub direction : Bool → List ℕ
direction inverse = if inverse then codes "^" else []

-- both have the same predicate and direction
abbrev pub is_alike : Occurrence → Occurrence → Bool
is_alike a b = same_id a.predicate b.predicate && (if a.inverse then b.inverse else not b.inverse)

-- what stands behind the predicate where k others with the same predicate and direction stand before it
abbrev pub turn : ℕ → List ℕ
turn k = if k == 0 then [] else codes "#" ++ decimal (suc k)

-- a triple constraint behind these others, if it is there
abbrev pub occurrence_text : List Term → List Occurrence → Option Occurrence → List ℕ
occurrence_text terms before None = []
occurrence_text terms before (Some o) = direction o.inverse ++ (text_at terms o.predicate ++ turn (length (filter (is_alike o) before)))

-- the triple constraint of a number
abbrev pub constraint_text : List Term → List Occurrence → ℕ → List ℕ
constraint_text terms occs i = occurrence_text terms (take i occs) (slice_get occs i)

-- triple constraints, a comma and a space before each
abbrev pub more_constraints : List Term → List Occurrence → List ℕ → List ℕ
more_constraints terms occs numbers = flat_map (λ i. codes ", " ++ constraint_text terms occs i) numbers

-- triple constraints, a comma and a space between two
abbrev pub constraints_text : List Term → List Occurrence → List ℕ → List ℕ
constraints_text terms occs [] = []
constraints_text terms occs (i ∷ numbers) = constraint_text terms occs i ++ more_constraints terms occs numbers

-- a line that says how many more there are, if there are more
abbrev pub more_text : List ℕ → ℕ → List ℕ
more_text margin k = if k == 0 then [] else margin ++ (codes ".. " ++ (decimal k ++ codes " more\n"))

-- at most so many items, each by its text, and how many more there are
abbrev pub limited : {X : Type 0} → ℕ → List ℕ → (X → List ℕ) → List X → List ℕ
limited limit margin text xs = flat_map text (take limit xs) ++ more_text margin (length xs - limit)
