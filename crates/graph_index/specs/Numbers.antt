-- The numbers that stand in triples.
use Rattle.std.specs.Prelude.{ℕ, List, Bool, true, ◌≡◌, ◌<◌, suc, slice_get, Some, Contains, length}
use Rattle.rdf_terms.specs.declared.terms.TermId.{TermId}
use Rattle.rdf_terms.specs.declared.terms.Triple.{Triple}
use Rattle.graph_index.specs.Places.{place_of}

-- the three numbers of the triple are of the list
pub record IsOf (ids : List TermId) (t : Triple) : Type 0 where
  pub subject : Contains ids t.s
  pub predicate : Contains ids t.p
  pub object : Contains ids t.o

-- the list holds each number that is marked, and no number that has no mark to set
pub record AreNoted (marks : List Bool) (ids : List TermId) : Type 0 where
  pub marked : (n : TermId) → slice_get marks n.0 ≡ Some true → Contains ids n
  pub within : (n : TermId) → Contains ids n → n.0 < length marks

-- a number that has a place is the item of the list there
abbrev pub ArePlacesIn : List TermId → List ℕ → Type 0
ArePlacesIn ids places = (n : TermId) (k : ℕ) → place_of places n ≡ suc k → slice_get ids k ≡ Some n
