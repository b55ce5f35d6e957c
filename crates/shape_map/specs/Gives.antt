-- Why the reader stops, and the answers for it.
use Rattle.std.specs.Prelude.{ℕ}
use Rattle.rdf_cursor.specs.declared.stops.Fault.{Fault}
use Rattle.rdf_cursor.specs.declared.stops.Fault.TheVariants.{Syntax, Prefix, Deep, Long, Full}
use Rattle.rdf_cursor.specs.declared.stops.Stop.{Stop}
use Rattle.rdf_cursor.specs.declared.stops.Stop.TheVariants as stop
use Rattle.shape_map.specs.declared.error.MapError.{MapError}
use Rattle.shape_map.specs.declared.error.MapError.TheVariants as error

-- no fault comes from a limit: nothing limits a map's brackets, lengths or nodes
abbrev pub IsMapFault : Fault → Type 0
IsMapFault Syntax = Unit {0}
IsMapFault Prefix = Unit {0}
IsMapFault Deep = ⊥
IsMapFault Long = ⊥
IsMapFault Full = ⊥

abbrev pub IsMapStop : Stop → Type 0
IsMapStop stop.Memory = Unit {0}
IsMapStop (stop.Fault f) = IsMapFault f

-- the answer for a stop at a place
abbrev pub error_of : Stop → ℕ → MapError
error_of stop.Memory at = error.Memory
error_of (stop.Fault Syntax) at = error.Syntax at
error_of (stop.Fault Prefix) at = error.Prefix at
error_of (stop.Fault Deep) at = error.Syntax at
error_of (stop.Fault Long) at = error.Syntax at
error_of (stop.Fault Full) at = error.Syntax at
