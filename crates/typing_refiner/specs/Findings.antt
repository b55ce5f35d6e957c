-- What a look at a pair comes to while pairs are removed (own).
use Rattle.std.specs.Prelude.{◌≡◌}
use Rattle.schema_tree.specs.declared.schema.Pair.{Pair}
use Rattle.schema_tree.specs.declared.verdicts.Lean.TheVariants.{Possible}
use Rattle.schema_tree.specs.Places.{PairCanMatch}
use Rattle.schema_tree.specs.Sure.{Known}
use Rattle.bag_match.specs.Outcomes.{IsOutcome}
use Rattle.bag_match.specs.declared.outcome.Outcome.TheVariants as outcomes
use Rattle.typing_refiner.specs.declared.ground.Ground.{Ground}
use Rattle.typing_refiner.specs.declared.removal.Finding.{Finding}
use Rattle.typing_refiner.specs.declared.removal.Finding.TheVariants.{Goes, Placed}
use Rattle.typing_refiner.specs.declared.wanted.Wanted.TheVariants as Wanteds

-- the places are those of the match, or the pair cannot match, and where records are wanted the states are those of the match
abbrev pub IsFinding : Ground → Known → Pair → Finding → Type 0
IsFinding h view p (Placed places) = IsOutcome h.schema.now h.terms.now h.graph.now.triples view Possible p (outcomes.Placed places)
IsFinding h view p (Goes states) =
    (¬ PairCanMatch h.schema.now h.terms.now h.graph.now.triples view Possible p)
    × ((h.wanted ≡ Wanteds.Records) → IsOutcome h.schema.now h.terms.now h.graph.now.triples view Possible p (outcomes.Never states))
