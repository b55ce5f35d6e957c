-- What refinement records is accepted (own).
use Rattle.std.specs.Prelude.{ℕ, zero, suc, List, [], ◌∷◌, ◌++◌, ◌≡◌, ◌<◌, ◌↔◌, take, slice_get, Some, Contains}
use Rattle.rdf_terms.specs.declared.terms.TermId.{TermId}
use Rattle.schema_tree.specs.declared.schema.Pair.{Pair}
use Rattle.rdf_terms.specs.declared.terms.Term.{Term}
use Rattle.rdf_terms.specs.declared.terms.Triple.{Triple}
use Rattle.schema_tree.specs.declared.schema.Schema.{Schema}
use Rattle.schema_tree.specs.Removal.{AreRefinedBelow, IsRefinedAt}
use Rattle.schema_tree.specs.Typings.{HaveSame}
use Rattle.schema_tree.specs.declared.schema.Shape.{Shape}
use Rattle.schema_tree.specs.declared.verdicts.Place.{Place}
use Rattle.schema_tree.specs.declared.verdicts.State.{State}
use Rattle.schema_tree.specs.Edges.{IsStratified, level}
use Rattle.schema_tree.specs.Sure.{Known}
use Rattle.proof_file.specs.declared.Proof.{Proof}
use Rattle.proof_file.specs.declared.RecordKind.TheVariants.{Plus, Minus}
use Rattle.proof_file.specs.Accepts.{IsAccepted, Setting, in_section, no_of, yes_of}
use Rattle.proof_file.specs.Views.{Refuted, pairs_of, whole_view}
use Rattle.typing_refiner.specs.Records.{AreLeastFor, AreStatesFor, known_without}

-- the record of a pair that is confirmed, with the least places under the verdicts of all records, is accepted on its stratum
abbrev pub KeptIsAccepted : Type 0
KeptIsAccepted =
    (x : Setting) (p : Proof) → IsStratified x.schema x.strata → (node shape : ℕ) (n : TermId) (sh : Shape) → slice_get x.nodes node ≡ Some n → slice_get x.schema.shapes shape ≡ Some sh →
    (places : List Place) → AreLeastFor x.schema x.terms x.graph (whole_view (yes_of x p) (no_of x p)) n (Some sh) places →
    IsAccepted x p (in_section (level x.strata (record { 0 = shape })) (record { node = node; shape = shape; kind = Plus places }))

-- what all records say is what is known of lower strata, and their ranks on the stratum are those of the pairs that went
pub record AreRecordsAt (x : Setting) (p : Proof) (k : ℕ) (lower : Known) (gone : List Pair) : Type 0 where
  pub yes_low : (q : Pair) → Contains lower.yes q ↔ (Contains (yes_of x p) q × (level x.strata q.shape < k))
  pub no_low : (q : Pair) → Contains lower.no q ↔ (Contains (pairs_of (no_of x p)) q × (level x.strata q.shape < k))
  pub ranks : (q : Pair) (r : ℕ) → (Contains (no_of x p) (record { pair = q; rank = r }) × (level x.strata q.shape ≡ k)) ↔ ((j : ℕ) × (slice_get gone j ≡ Some q) × (r ≡ suc j))

-- the record of a pair that went, with its rank and the states of this moment, is accepted on its stratum
abbrev pub GoneIsAccepted : Type 0
GoneIsAccepted =
    (x : Setting) (p : Proof) → IsStratified x.schema x.strata → (node shape : ℕ) (n : TermId) (sh : Shape) → slice_get x.nodes node ≡ Some n → slice_get x.schema.shapes shape ≡ Some sh →
    (lower : Known) (gone : List Pair) → AreRecordsAt x p (level x.strata (record { 0 = shape })) lower gone → (i : ℕ) (states : List State) →
    AreStatesFor x.schema x.terms x.graph (known_without lower (take i gone)) n (Some sh) states →
    IsAccepted x p (in_section (level x.strata (record { 0 = shape })) (record { node = node; shape = shape; kind = Minus (suc i) states }))

-- the pairs with ranks from this on
abbrev pub ranked_from : ℕ → List Pair → List Refuted
ranked_from r [] = []
ranked_from r (p ∷ ps) = record { pair = p; rank = r } ∷ ranked_from (suc r) ps

module _ (s : Schema) (terms : List Term) (g : List Triple) (f : List ℕ) (pairs : List Pair) (budget : ℕ) where
  -- the verdicts of refinement on the strata below k, and the pairs that went with their ranks, from 1 on each stratum
  abbrev pub AreRanked : ℕ → Known → List Refuted → Type 0
  AreRanked zero known minus = (known.yes ≡ []) × (known.no ≡ []) × (minus ≡ [])
  AreRanked (suc k) known minus =
      (lower : Known) × (low : List Refuted) × (gone kept : List Pair) × AreRanked k lower low × IsRefinedAt s terms g f pairs budget lower k gone kept
      × (known.yes ≡ lower.yes ++ kept) × (known.no ≡ lower.no ++ gone) × (minus ≡ low ++ ranked_from 1 gone)

  -- the stratum k is refined over lower, and all verdicts say below it what lower says, and have the ranks of those that went
  pub record HasRecordsAt (known : Known) (minus : List Refuted) (k : ℕ) : Type 0 where
    pub lower : Known
    pub gone : List Pair
    pub kept : List Pair
    pub refined : IsRefinedAt s terms g f pairs budget lower k gone kept
    pub yes_low : (q : Pair) → Contains lower.yes q ↔ (Contains known.yes q × (level f q.shape < k))
    pub no_low : (q : Pair) → Contains lower.no q ↔ (Contains (pairs_of minus) q × (level f q.shape < k))
    pub ranks : (q : Pair) (r : ℕ) → (Contains minus (record { pair = q; rank = r }) × (level f q.shape ≡ k)) ↔ ((j : ℕ) × (slice_get gone j ≡ Some q) × (r ≡ suc j))

  -- the records are those of the verdicts, with their ranks
  abbrev pub AreRecordsOf : Setting → Proof → Known → List Refuted → Type 0
  AreRecordsOf x p known minus =
      (x.strata ≡ f) × HaveSame (yes_of x p) known.yes × ((u : Refuted) → Contains (no_of x p) u ↔ Contains minus u)

-- a refinement has its ranks, and records of its verdicts with these ranks say on each stratum what was known there
abbrev pub RefinementIsRecorded : Type 0
RefinementIsRecorded =
    (s : Schema) (terms : List Term) (g : List Triple) (f : List ℕ) (pairs : List Pair) (budget top : ℕ) (known : Known) → AreRefinedBelow s terms g f pairs budget top known →
    (minus : List Refuted) × AreRanked s terms g f pairs budget top known minus
    × ((x : Setting) (p : Proof) → AreRecordsOf s terms g f pairs budget x p known minus → (k : ℕ) → k < top →
    (h : HasRecordsAt s terms g f pairs budget known minus k) × AreRecordsAt x p k h.lower h.gone)
