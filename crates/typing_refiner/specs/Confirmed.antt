-- What shows that pairs are confirmed (own).
use Rattle.std.specs.Prelude.{ℕ, List, ◌≡◌, map, slice_get, Some}
use Rattle.rdf_terms.specs.declared.terms.Term.{Term}
use Rattle.rdf_terms.specs.declared.terms.Triple.{Triple}
use Rattle.schema_tree.specs.declared.schema.Pair.{Pair}
use Rattle.schema_tree.specs.declared.schema.Schema.{Schema}
use Rattle.schema_tree.specs.Entries.{shape_at}
use Rattle.schema_tree.specs.Sure.{Known}
use Rattle.typing_refiner.specs.declared.ground.Ground.{Ground}
use Rattle.typing_refiner.specs.declared.strata_loop.Confirmed.{Confirmed}
use Rattle.typing_refiner.specs.Records.{AreLeastFor, HasPlaces}

-- the numbers of the pairs
abbrev pub numbers_of : List Confirmed → List ℕ
numbers_of cs = map (λ c. c.at) cs

-- the places are the least of the pair of the number
abbrev pub HasPlacesAt : Ground → Known → Confirmed → Type 0
HasPlacesAt h view c = (p : Pair) → slice_get h.table.now c.at ≡ Some p → HasPlaces h view p c.places

-- each has the least places of its pair under the view
abbrev pub AreConfirmedOn : Schema → List Term → List Triple → List Pair → Known → List Confirmed → Type 0
AreConfirmedOn s terms g pairs view cs =
    (r : ℕ) (c : Confirmed) → slice_get cs r ≡ Some c → (p : Pair) → slice_get pairs c.at ≡ Some p → AreLeastFor s terms g view p.node (shape_at s p.shape) c.places

abbrev pub HavePlaces : Ground → Known → List Confirmed → Type 0
HavePlaces h view cs = AreConfirmedOn h.schema.now h.terms.now h.graph.now.triples h.table.now view cs
