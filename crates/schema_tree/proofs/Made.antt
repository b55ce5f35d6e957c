-- What loading promises of a Shape's expression, in the form that the proofs use.
use Rattle.std.proofs.Common.{◌≡◌, ℕ, ◌<◌, subst, length, true}
use Rattle.std.specs.Prelude.{Some}
use Rattle.tally.specs.Plan.{Plan}
use Rattle.tally.specs.Span.{IsSound}
use Rattle.tally.specs.Symbols.{IsDistinct, has_symbol}
use Rattle.schema_tree.specs.declared.schema.Schema.{Schema}
use Rattle.schema_tree.specs.declared.schema.Shape.{Shape}
use Rattle.schema_tree.specs.declared.schema.ShapeId.{ShapeId}
use Rattle.schema_tree.specs.Entries.{shape_at}
use Rattle.schema_tree.specs.Loaded.{BodyOk, IsLoaded}

-- the expression, if there is one, has each symbol once, no minimum above its bound, and a symbol for each occurrence
abbrev pub IsWellMade : Shape → Type 0
IsWellMade sh =
    (c : Plan) → sh.body ≡ Some c →
    IsDistinct c × IsSound c × ((i : ℕ) → i < length sh.occs → has_symbol i c ≡ true)

-- each Shape of a loaded schema is so
pub well_made : (s : Schema) → IsLoaded s → (i : ShapeId) (sh : Shape) → shape_at s i ≡ Some sh → IsWellMade sh
well_made s loaded i sh is c e =
    let ok : BodyOk sh.occs (Some c) = subst (λ body. BodyOk sh.occs body) e (loaded.shapes i sh is).body in (ok.0, ok.1, ok.2)
