-- The things for which documents in ShExC are refused without a place.
use Rattle.std.specs.Prelude.{Option, Some, None}
use Rattle.schema_documents.specs.declared.error.SchemaError.{SchemaError}
use Rattle.schema_documents.specs.declared.error.SchemaError.TheVariants as errors
use Rattle.schema_places.specs.declared.kinds.Thing.{Thing}
use Rattle.schema_places.specs.declared.kinds.Thing.TheVariants as things

-- the thing of which an error tells
abbrev pub thing_of : SchemaError → Option Thing
thing_of (errors.Form word) = Some things.Word
thing_of errors.Action = Some things.Action
thing_of errors.External = Some things.External
thing_of errors.FloatFacet = Some things.FloatFacet
thing_of errors.FacetNumber = Some things.FacetNumber
thing_of (errors.Pattern e) = Some things.Pattern
thing_of errors.Deep = Some things.Bracket
thing_of errors.NotUtf8 = None
thing_of errors.Json = None
thing_of (errors.Syntax at) = None
thing_of (errors.Key name) = None
thing_of (errors.Prefix at) = None
thing_of errors.Memory = None
