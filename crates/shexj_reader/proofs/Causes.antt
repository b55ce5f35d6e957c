-- How the fault of a part is the fault of the whole.
use Rattle.std.proofs.Common.{◌≡◌, sym, subst}
use Rattle.std.specs.Prelude.{Err, IfErr, IsErrAnd, IsOkAnd, MatchResult, Ok, Result}
use Rattle.schema_documents.specs.declared.error.SchemaError.{SchemaError}
use Rattle.schema_documents.specs.declared.error.SchemaError.TheVariants as Errors
use Rattle.shexj_reader.specs.Faults.{Because, Fault}

pub because : (P Q : Fault → Type 0) (e : SchemaError) → ((f : Fault) → P f → Q f) → Because P e → Because Q e
because P Q Errors.NotUtf8 w h = absurd h
because P Q Errors.Json w h = absurd h
because P Q (Errors.Syntax at) w h = absurd h
because P Q Errors.External w h = w _ h
because P Q (Errors.Prefix at) w h = absurd h
because P Q Errors.Deep w h = w _ h
because P Q (Errors.Key name) w h = w _ h
because P Q (Errors.Form name) w h = w _ h
because P Q Errors.Action w h = w _ h
because P Q Errors.FloatFacet w h = w _ h
because P Q Errors.FacetNumber w h = w _ h
because P Q (Errors.Pattern e) w h = w _ h
because P Q Errors.Memory w h = tt

-- a `?` passes a refusal on
pub passed : {T : Type 0} (P Q : Fault → Type 0) (r : Result T SchemaError) (e : SchemaError) → IsErrAnd r (λ x. x ≡ e) → ((f : Fault) → P f → Q f) → Because P e → IfErr r (Because Q)
passed P Q (Ok x) e same w h = tt
passed P Q (Err x) e same w h = because P Q x w (subst (λ (y : SchemaError). Because P y) (sym same) h)

-- the refusal of a call is that of the whole
pub handed : {T : Type 0} (P Q : Fault → Type 0) (r : Result T SchemaError) → ((f : Fault) → P f → Q f) → IfErr r (Because P) → IfErr r (Because Q)
handed P Q (Ok x) w h = tt
handed P Q (Err x) w h = because P Q x w h

-- the refusal of a call whose value is made into another is that of the whole
pub made : {T U : Type 0} (P Q : Fault → Type 0) (made_of : T → U → Type 0) (r : Result T SchemaError) (s : Result U SchemaError) →
    MatchResult r (λ x. IsOkAnd s (made_of x)) (λ e. s ≡ Err e) → ((f : Fault) → P f → Q f) → IfErr r (Because P) → IfErr s (Because Q)
made P Q made_of (Ok x) (Ok y) m w h = tt
made P Q made_of (Ok x) (Err e) m w h = absurd m
made P Q made_of (Err e) (Ok y) m w h = tt
made P Q made_of (Err e) (Err d) m w h = because P Q d w (subst (λ (r : Result _ SchemaError). IfErr r (Because P)) (sym m) h)
