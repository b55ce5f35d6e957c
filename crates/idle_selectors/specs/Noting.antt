-- What the functions that list lines promise one another.
use Rattle.std.specs.Prelude.{◌≡◌, ◌⊎◌, ℕ, List}
use Rattle.lists.specs.Additions.{Adds}
use Rattle.rdf_terms.specs.declared.terms.Term.{Term}
use Rattle.rdf_terms.specs.declared.terms.Triple.{Triple}
use Rattle.shape_map.specs.declared.items.Selector.{Selector}
use Rattle.idle_selectors.specs.Idle.{Finds, IsIdle}
use Rattle.idle_selectors.specs.Texts.{selector_line}

-- a selector is noted: where it is idle, its line goes behind those that are there, unless it is one of them
abbrev pub Notes : List Term → List Triple → Selector → List (List ℕ) → List (List ℕ) → Type 0
Notes terms graph x old new = (IsIdle terms graph x × Adds old (selector_line x) new) ⊎ (Finds terms graph x × (new ≡ old))
