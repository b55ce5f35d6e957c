-- Law of idle selectors, which callers' proofs stand on (own).
use Rattle.std.specs.Prelude.{◌≡◌, ℕ, List, Contains}
use Rattle.rdf_terms.specs.declared.terms.Term.{Term}
use Rattle.rdf_terms.specs.declared.terms.Triple.{Triple}
use Rattle.shape_map.specs.declared.items.Item.{Item}
use Rattle.idle_selectors.specs.Idle.{AreIdleLines, IsIdle}
use Rattle.idle_selectors.specs.Texts.{selector_line}

-- each selector of the items that is idle has its line
abbrev pub HaveLines : List Term → List Triple → List Item → List (List ℕ) → Type 0
HaveLines terms graph items lines = (i : Item) → Contains items i → IsIdle terms graph i.selector → Contains lines (selector_line i.selector)

-- each line is that of a selector of the items that is idle
abbrev pub AreOfIdle : List Term → List Triple → List Item → List (List ℕ) → Type 0
AreOfIdle terms graph items lines = (l : List ℕ) → Contains lines l → (i : Item) × Contains items i × IsIdle terms graph i.selector × (selector_line i.selector ≡ l)

-- each line that is told for a map is that of a selector of the map that is idle
abbrev pub LinesAreExact : Type 0
LinesAreExact =
    (terms : List Term) (graph : List Triple) (items : List Item) (lines : List (List ℕ)) → AreIdleLines terms graph items lines →
    HaveLines terms graph items lines × AreOfIdle terms graph items lines
