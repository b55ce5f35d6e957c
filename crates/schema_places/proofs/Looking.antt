-- What reading some bytes tells of a thing.
use Rattle.std.proofs.Common.{◌≡◌, ◌≢◌, ◌≤◌, ◌<◌, ◌-◌, sym, subst, refl, ℕ, suc, List, length, take, arith}
use Rattle.std.specs.Prelude.{Option, Some, None, Result, Ok, Err, IfOk}
use Rattle.std.proofs.lemmas.List.{take_all}
use Rattle.schema_documents.specs.declared.error.SchemaError.{SchemaError}
use Rattle.schema_documents.specs.declared.error.SchemaError.TheVariants as errors
use Rattle.shexc_reader.specs.Documents.{IsRead}
use Rattle.shexc_reader.specs.Refusals.{Explains}
use Rattle.shexc_reader.specs.declared.state.Parsed.{Parsed}
use Rattle.schema_places.specs.declared.kinds.Thing.{Thing}
use Rattle.schema_places.specs.Edges.{IsEdge, IsMet, IsOtherwise, IsRefusedFor, Looks}

-- a document is not refused
pub of_document : (base bytes : List ℕ) (thing : Thing) (p : Parsed) → IsRead base bytes p → IsOtherwise base thing bytes (length bytes)
of_document base bytes thing p is = record { end = None; ends = (is.0, is.1); apart = λ e. cc; place = refl }

-- what an error tells
pub of_error : (base bytes : List ℕ) (thing : Thing) (e : SchemaError) → Explains base e bytes → e ≢ errors.Memory → (found : Option ℕ) →
    IsMet e thing (length bytes) found → Looks base thing bytes found
of_error base bytes thing e explains apart (Some at) (other, place) = record { end = Some e; ends = (apart, explains); apart = other; place = place }
of_error base bytes thing e explains apart None is = (e, (apart, explains), is)

-- what the answer tells, unless memory ran out
pub of_answer : {E : Type 0} (base bytes : List ℕ) (thing : Thing) (e : SchemaError) → Explains base e bytes → (r : Result (Option ℕ) E) →
    IfOk r (λ found. IsMet e thing (length bytes) found) → IfOk r (λ found. e ≢ errors.Memory) → IfOk r (λ found. Looks base thing bytes found)
of_answer base bytes thing e explains (Ok found) met apart = of_error base bytes thing e explains apart found met
of_answer base bytes thing e explains (Err x) met apart = tt

-- the longest beginning is the whole
pub whole : (base source : List ℕ) (thing : Thing) → IsRefusedFor base thing source → IsRefusedFor base thing (take (length source) source)
whole base source thing is = subst (λ bytes. IsRefusedFor base thing bytes) (sym (take_all (length source) source (omega (arith)))) is

-- two beginnings of which the longer has one byte more
pub edge_at : (base source : List ℕ) (thing : Thing) (size refused at : ℕ) → size < refused → refused ≤ length source → refused - size ≤ 1 →
    IsOtherwise base thing (take size source) at → IsRefusedFor base thing (take refused source) → IsEdge base thing source at
edge_at base source thing size refused at more within one shorter longer =
    let next : refused ≡ suc size = omega (arith) in
    record { size = size; inside = omega (arith); shorter = shorter; longer = subst (λ n. IsRefusedFor base thing (take n source)) next longer }
