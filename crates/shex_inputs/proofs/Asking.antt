-- Bytes that are no map are said so, and what is refused but for want of memory.
use Rattle.std.proofs.Common.{◌≢◌, ℕ, List, refl}
use Rattle.std.specs.Prelude.{Err, IfErr, Ok, Result}
use Rattle.shape_map.specs.declared.error.MapError.{MapError}
use Rattle.shape_map.specs.declared.error.MapError.TheVariants as error
use Rattle.shape_map.specs.declared.items.Item.{Item}
use Rattle.shape_map.specs.Maps.{Explains as MapExplains, IsMap, ReadsAs}
use Rattle.term_tokens.specs.Scopes.{Scope}
use Rattle.shape_map.specs.Selection.{UnlessMemory}
use Rattle.shex_inputs.specs.Stops.{MapStops}

-- what holds unless memory ran out holds of each other refusal
pub unless_memory : (e : MapError) (P : Type 0) → e ≢ error.Memory → UnlessMemory e P → P
unless_memory error.NotUtf8 P apart h = h
unless_memory (error.Syntax at) P apart h = h
unless_memory (error.Prefix at) P apart h = h
unless_memory (error.Label l) P apart h = h
unless_memory error.NoStart P apart h = h
unless_memory error.Many P apart h = h
unless_memory error.Memory P apart h = absurd (apart refl)
unless_memory error.Full P apart h = h

-- bytes that are no map
not_read : (e : MapError) (items : List Item) → e ≢ error.Memory → ReadsAs (Err e) items → ⊥
not_read error.NotUtf8 items apart h = h
not_read (error.Syntax at) items apart h = h
not_read (error.Prefix at) items apart h = h
not_read (error.Label l) items apart h = h
not_read error.NoStart items apart h = h
not_read error.Many items apart h = h
not_read error.Memory items apart h = apart refl
not_read error.Full items apart h = h

pub map_stops : (nodes labels : Scope) (bytes : List ℕ) (r : Result (List Item) MapError) → IfErr r (λ e. MapExplains nodes labels e bytes) →
    ((items : List Item) → IsMap nodes labels bytes items → ReadsAs r items) → IfErr r (MapStops nodes labels bytes)
map_stops nodes labels bytes (Ok items) cause complete = tt
map_stops nodes labels bytes (Err e) cause complete = λ apart. (cause, λ items is. not_read e items apart (complete items is))
