-- What is printed of a schema that is refused.
use Rattle.std.specs.Prelude.{ℕ, List, ◌++◌, codes, encode_utf8_all}
use Rattle.std.specs.Fmt.{decimal}
use Rattle.xs_pattern.specs.Messages.{pattern_text}
use Rattle.schema_documents.specs.declared.error.SchemaError.{SchemaError}
use Rattle.schema_documents.specs.declared.error.SchemaError.TheVariants as SchemaErrors

-- why a schema document is refused; a name of a key or a type is as it is written. No file is refused for want of memory,
-- which has its name here too
abbrev pub schema_text : SchemaError → List ℕ
schema_text SchemaErrors.NotUtf8 = codes "NotUtf8"
schema_text SchemaErrors.Json = codes "Json"
schema_text (SchemaErrors.Syntax at) = codes "Syntax(" ++ (decimal at ++ codes ")")
schema_text (SchemaErrors.Key name) = codes "Key(" ++ (encode_utf8_all name ++ codes ")")
schema_text (SchemaErrors.Form name) = codes "Form(" ++ (encode_utf8_all name ++ codes ")")
schema_text SchemaErrors.Action = codes "Action"
schema_text SchemaErrors.External = codes "External"
schema_text SchemaErrors.FloatFacet = codes "FloatFacet"
schema_text SchemaErrors.FacetNumber = codes "FacetNumber"
schema_text (SchemaErrors.Pattern error) = codes "Pattern(" ++ (pattern_text error ++ codes ")")
schema_text (SchemaErrors.Prefix at) = codes "Prefix(" ++ (decimal at ++ codes ")")
schema_text SchemaErrors.Deep = codes "Deep"
schema_text SchemaErrors.Memory = codes "Memory"
