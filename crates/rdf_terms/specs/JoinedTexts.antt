-- The texts of terms, one behind the other, with the places at which they begin.
use Rattle.std.specs.Prelude.{ℕ, List, ◌≡◌, ◌≤◌, ◌+◌, length, slice_index, take}
use Rattle.std.specs.List.{flat_map}
use Rattle.rdf_terms.specs.declared.terms.Term.{Term}
use Rattle.rdf_terms.specs.Written.{term_text}

-- the texts of the terms, and where each of them begins and the last one ends
pub record AreJoined (terms : List Term) (bytes firsts : List ℕ) : Type 0 where
  pub texts : bytes ≡ flat_map term_text terms
  pub long : length firsts ≡ length terms + 1
  pub begins : (k : ℕ) → k ≤ length terms → slice_index firsts k ≡ length (flat_map term_text (take k terms))
