-- The lines for idle selectors (own).
use Rattle.std.specs.Prelude.{ℕ, Bool, List, [], ◌++◌, ◌==◌, ◌-◌, Option, Some, None, codes, if◌then◌else◌, length, nat_eq, take}
use Rattle.std.specs.Cmp.Lexicographic.{pointwise}
use Rattle.std.specs.Fmt.{decimal}
use Rattle.std.specs.List.{flat_map}
use Rattle.rdf_terms.specs.Written.{term_text}
use Rattle.rdf_terms.specs.declared.terms.Term.{Term}
use Rattle.shape_map.specs.declared.items.Focus.{Focus}
use Rattle.shape_map.specs.declared.items.Focus.TheVariants.{Subject, Object}
use Rattle.shape_map.specs.declared.items.Selector.{Selector}
use Rattle.shape_map.specs.declared.items.Selector.TheVariants.{Node, Triples}
use Rattle.shape_map.specs.declared.items.TriplePattern.{TriplePattern}

-- the two lines have the same bytes
abbrev pub same_line : List ℕ → List ℕ → Bool
same_line a b = pointwise nat_eq a b

-- the end of a pattern that is not at the focus: `_` where any node may stand there
abbrev pub other_text : Option Term → List ℕ
other_text None = codes "_"
other_text (Some t) = term_text t

-- the ends and the predicate of a pattern, by the end at the focus
abbrev pub ends_text : Focus → List ℕ → List ℕ → List ℕ
ends_text Subject predicate other = codes "{FOCUS " ++ (predicate ++ (codes " " ++ (other ++ codes "}")))
ends_text Object predicate other = codes "{" ++ (other ++ (codes " " ++ (predicate ++ codes " FOCUS}")))

-- a pattern as a shape map has it, with the texts of its terms (ShapeMap Structure and Language, section 3.1)
abbrev pub pattern_text : TriplePattern → List ℕ
pattern_text x = ends_text x.focus (term_text x.predicate) (other_text x.other)

-- the line for a selector that finds nothing
abbrev pub selector_line : Selector → List ℕ
selector_line (Node t) = codes "not in the data: " ++ (term_text t ++ codes "\n")
selector_line (Triples x) = codes "nothing selected: " ++ (pattern_text x ++ codes "\n")

-- a line that says how many more there are, if there are more
abbrev pub more_line : ℕ → List ℕ
more_line k = if k == 0 then [] else codes ".. " ++ (decimal k ++ codes " more\n")

-- at most so many lines, and how many more there are
abbrev pub idle_text : ℕ → List (List ℕ) → List ℕ
idle_text limit lines = flat_map (λ line. line) (take limit lines) ++ more_line (length lines - limit)
