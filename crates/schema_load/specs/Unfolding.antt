-- What the functions that unfold triple expressions promise one another.
use Rattle.std.specs.Prelude.{⊤, ℕ, ◌+◌, ◌<◌, ◌≤◌, ◌≡◌, List, [], ◌∷◌, Option, Some, None, length, get_or, Contains}
use Rattle.rdf_terms.specs.declared.terms.Term.{Term}
use Rattle.tally.specs.Plan.{Plan, Plans, each, one, sym}
use Rattle.schema_tree.specs.declared.schema.ExprId.{ExprId}
use Rattle.schema_tree.specs.declared.schema.Occurrence.{Occurrence}
use Rattle.schema_load.specs.declared.part.Part.{Part}
use Rattle.schema_load.specs.declared.part.Part.TheVariants.{Triple}
use Rattle.schema_load.specs.declared.part.TriplePart.{TriplePart}
use Rattle.schema_load.specs.declared.part.TripleForm.{TripleForm}
use Rattle.schema_load.specs.declared.part.TripleForm.TheVariants.{Arc, Each, Include, One}
use Rattle.schema_load.specs.declared.unfolding.Unfolder.{Unfolder}
use Rattle.schema_load.specs.Building.{HasPredicates}
use Rattle.schema_load.specs.Parts.{AreWhole, IsAt, IsNamed}
use Rattle.schema_load.specs.Requirements.{HasOccurrences, HasOne, HaveOccurrences, IsTwice, NoneIs}
use Rattle.schema_load.specs.Stands.{IsOccurrence, UnfoldAll, Unfolds}
use Rattle.schema_load.specs.Steps.{AreDepths, AreTargets, HoldTriples, IsTripleAt}

-- what has to hold before a triple expression is unfolded
pub record IsReady (u : Unfolder) : Type 0 where
  pub targets : AreTargets u.parts.now u.targets.now
  pub depths : AreDepths u.parts.now u.depths.now
  pub whole : AreWhole u.parts.now
  pub triples : HoldTriples u.parts.now
  pub once : NoneIs (HasOne (IsTwice u.parts.now))
  pub numbers : length u.numbers.now ≡ length u.parts.now
  pub predicates : HasPredicates u.parts.now u.terms.now

-- a value's place is inside
abbrev pub IsValueInside : Option ℕ → ℕ → Type 0
IsValueInside None n = ⊤
IsValueInside (Some p) n = p < n

-- behind k occurrences there is room for those of the triple expression at p
abbrev pub HasRoom : List Part → ℕ → ℕ → Type 0
HasRoom parts p k = (n : ℕ) × HasOccurrences parts p n × (k + n ≤ 256)

-- behind k occurrences there is room for those of the triple expressions at these places together
abbrev pub HaveRoom : List Part → List ℕ → ℕ → Type 0
HaveRoom parts ps k = (n : ℕ) × HaveOccurrences parts ps n × (k + n ≤ 256)

-- a triple expression of the form stands at p
abbrev pub IsFormAt : List Part → ℕ → TripleForm → Type 0
IsFormAt parts p f = (t : TriplePart) × IsAt parts p (Triple t) × (t.form ≡ f)

-- triple expressions stand at the places, less deep than that at p
abbrev pub AreBelow : List Part → List ℕ → List ℕ → ℕ → Type 0
AreBelow parts depths ps p = (q : ℕ) → Contains ps q → IsTripleAt parts q × (get_or depths q 0 < get_or depths p 0)

-- the form, unfolded, is the plan over the occurrences, whose numbers begin with k
module _ (terms : List Term) (parts : List Part) (number : ℕ → ExprId) where
  abbrev pub UnfoldsForm : TripleForm → ℕ → Plan → List Occurrence → Type 0
  UnfoldsForm (Arc a) k plan occs = (o : Occurrence) × IsOccurrence terms parts number a o × (plan ≡ sym k) × (occs ≡ o ∷ [])
  UnfoldsForm (Each ps) k plan occs = (plans : Plans) × UnfoldAll terms parts number ps k plans occs × (plan ≡ each plans)
  UnfoldsForm (One ps) k plan occs = (plans : Plans) × UnfoldAll terms parts number ps k plans occs × (plan ≡ one plans)
  UnfoldsForm (Include l) k plan occs = (q : ℕ) × IsNamed parts l q × Unfolds terms parts number q k plan occs
