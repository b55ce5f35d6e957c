-- A node has a Shape of a loaded schema exactly where allowed places for its relevant triples have matching counts.
use Rattle.std.proofs.Common.{◌≡◌, List, subst, sym, filter}
use Rattle.std.specs.Prelude.{◌↔◌, Option, Some}
use Rattle.std.specs.List.Sorted.{IsPermutation}
use Rattle.rdf_terms.specs.declared.terms.Term.{Term}
use Rattle.rdf_terms.specs.declared.terms.TermId.{TermId}
use Rattle.rdf_terms.specs.declared.terms.Triple.{Triple}
use Rattle.rdf_terms.specs.Graphs.{neigh}
use Rattle.schema_tree.specs.declared.schema.ExprId.{ExprId}
use Rattle.schema_tree.specs.declared.schema.Pair.{Pair}
use Rattle.schema_tree.specs.declared.schema.Schema.{Schema}
use Rattle.schema_tree.specs.declared.schema.Shape.{Shape}
use Rattle.schema_tree.specs.declared.schema.ShapeId.{ShapeId}
use Rattle.schema_tree.specs.Entries.{shape_at}
use Rattle.schema_tree.specs.Loaded.{IsLoaded}
use Rattle.schema_tree.specs.Matches.{SatValue}
use Rattle.schema_tree.specs.Places.{HasPlaces}
use Rattle.schema_tree.specs.Relevant.{is_relevant}
use Rattle.schema_tree.specs.Satisfies.{Sat}
use Rattle.schema_tree.specs.Shapes.{ShapeHolds, ShapeOk}
use Rattle.schema_tree.proofs.FromPlaces.{from_places}
use Rattle.schema_tree.proofs.Made.{well_made}
use Rattle.schema_tree.proofs.ToPlaces.{to_places}

pub shape_places :
    (s : Schema) (terms : List Term) (g order : List Triple) (T : List Pair) (n : TermId) (i : ShapeId) (sh : Shape) → IsLoaded s →
    shape_at s i ≡ Some sh →
    IsPermutation (neigh g n) order →
    ShapeOk s terms g T n i
    ↔ HasPlaces (λ m v. SatValue (Sat s terms T m) v) (λ m v. ¬ SatValue (Sat s terms T m) v) g sh n (filter (is_relevant sh.occs n) order)
shape_places s terms g order T n i sh loaded is ordered = (
  (λ h. to_places sat g sh n (λ c e. (well_made s loaded i sh is c e).0) order ordered (subst holds is h)),
  (λ h. subst holds (sym is) (from_places sat g sh n (well_made s loaded i sh is) order ordered h)),
)
  where
    sat : TermId → ExprId → Type 0
    sat = Sat s terms T

    holds : Option Shape → Type 0
    holds = ShapeHolds sat g n
