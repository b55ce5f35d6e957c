-- Two ways to say that triples match an expression so many times: parts that each match it, and places with counts (ShEx
-- 2.1, section 5.5.2, `matches`; own: counts).
use Rattle.std.specs.Prelude.{ℕ, true, List, [], ◌∷◌, ◌≡◌, length, slice_get, ⊤}
use Rattle.std.specs.List.{AllByRecursion}
use Rattle.rdf_terms.specs.declared.terms.TermId.{TermId}
use Rattle.rdf_terms.specs.declared.terms.Triple.{Triple}
use Rattle.tally.specs.Copies.{Copies}
use Rattle.tally.specs.Plan.{Plan}
use Rattle.tally.specs.Symbols.{has_symbol}
use Rattle.schema_tree.specs.declared.schema.ExprId.{ExprId}
use Rattle.schema_tree.specs.declared.schema.Occurrence.{Occurrence}
use Rattle.schema_tree.specs.declared.verdicts.Place.{Place}
use Rattle.schema_tree.specs.declared.verdicts.Place.TheVariants.{At}
use Rattle.schema_tree.specs.Matches.{Deals, Matches, Takes}
use Rattle.schema_tree.specs.Places.{times}

-- sat says what a node satisfies, occs are the occurrences of the Shape, n is the node, and c the expression
module _ (sat : TermId → ExprId → Type 0) (occs : List Occurrence) (n : TermId) (c : Plan) where
  -- the triples deal into k parts that each match c
  pub record AreDealt (k : ℕ) (ts : List Triple) : Type 0 where
    pub parts : List (List Triple)
    pub many : length parts ≡ k
    pub deals : Deals ts parts
    pub each : AllByRecursion (λ part. Matches sat occs n c part) parts

  -- each triple is taken at its place, by an occurrence that stands in c
  abbrev pub AreTaken : List Triple → List Place → Type 0
  AreTaken [] [] = ⊤
  AreTaken (t ∷ ts) (At i ∷ ps) = (has_symbol i c ≡ true) × Takes sat n (slice_get occs i) t × AreTaken ts ps
  AreTaken ts ps = ⊥

  -- each triple has a place where it is taken, and the counts of the places spell k copies of c
  pub record ArePlaced (k : ℕ) (ts : List Triple) : Type 0 where
    pub places : List Place
    pub taken : AreTaken ts places
    pub spelled : Copies c (times places) k
