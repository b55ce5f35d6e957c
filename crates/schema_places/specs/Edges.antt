-- Where a thing stands for which a document in ShExC is refused, by what beginnings of the document are refused for.
use Rattle.std.specs.Prelude.{ℕ, suc, List, Option, Some, None, ◌≡◌, ◌≢◌, ◌<◌, length, take}
use Rattle.schema_documents.specs.declared.error.SchemaError.{SchemaError}
use Rattle.schema_documents.specs.declared.error.SchemaError.TheVariants as errors
use Rattle.shexc_reader.specs.Documents.{IsDocument}
use Rattle.shexc_reader.specs.Refusals.{Explains}
use Rattle.shexc_reader.specs.States.{State}
use Rattle.schema_places.specs.declared.kinds.Thing.{Thing}
use Rattle.schema_places.specs.Things.{thing_of}

-- reading the bytes ends so: they are a document, or they are refused for an error, which is not want of memory
abbrev pub EndsAs : List ℕ → List ℕ → Option SchemaError → Type 0
EndsAs base bytes None = (x : State) × IsDocument base bytes x
EndsAs base bytes (Some e) = (e ≢ errors.Memory) × Explains base e bytes

-- the thing for which it ends so
abbrev pub thing_at : Option SchemaError → Option Thing
thing_at None = None
thing_at (Some e) = thing_of e

-- where a thing begins that ends right behind so many bytes, by how reading them ends: where they are refused as Syntax, and else behind them
abbrev pub place_behind : ℕ → Option SchemaError → ℕ
place_behind size (Some (errors.Syntax at)) = at
place_behind size end = size

-- the bytes are refused for the thing
abbrev pub IsRefusedFor : List ℕ → Thing → List ℕ → Type 0
IsRefusedFor base thing bytes = (e : SchemaError) × EndsAs base bytes (Some e) × (thing_of e ≡ Some thing)

-- the bytes are a document or are refused for something else, and a thing that ends right behind them begins at this place
pub record IsOtherwise (base : List ℕ) (thing : Thing) (bytes : List ℕ) (at : ℕ) : Type 0 where
  pub end : Option SchemaError
  pub ends : EndsAs base bytes end
  pub apart : thing_at end ≢ Some thing
  pub place : at ≡ place_behind (length bytes) end

-- the first so many bytes are not refused for the thing, with the next byte they are, and the thing that ends with it begins at this place
pub record IsEdge (base : List ℕ) (thing : Thing) (source : List ℕ) (at : ℕ) : Type 0 where
  pub size : ℕ
  pub inside : size < length source
  pub shorter : IsOtherwise base thing (take size source) at
  pub longer : IsRefusedFor base thing (take (suc size) source)

-- what reading the bytes tells of the thing: where it begins if it ends right behind them, or that they are refused for it
abbrev pub Looks : List ℕ → Thing → List ℕ → Option ℕ → Type 0
Looks base thing bytes (Some at) = IsOtherwise base thing bytes at
Looks base thing bytes None = IsRefusedFor base thing bytes

-- what it tells where so many bytes are refused for this error
abbrev pub IsMet : SchemaError → Thing → ℕ → Option ℕ → Type 0
IsMet met thing size (Some at) = (thing_of met ≢ Some thing) × (at ≡ place_behind size (Some met))
IsMet met thing size None = thing_of met ≡ Some thing
