-- Why a text was not read, by what stopped its reader, and the answer that it gets.
use Rattle.std.specs.Prelude.{ℕ}
use Rattle.rdf_cursor.specs.declared.stops.Fault.TheVariants as faults
use Rattle.rdf_cursor.specs.declared.stops.Stop.{Stop}
use Rattle.rdf_cursor.specs.declared.stops.Stop.TheVariants as stop
use Rattle.graph_index.specs.declared.loading.LoadError.{LoadError}
use Rattle.graph_index.specs.declared.loading.LoadError.TheVariants as load
use Rattle.graph_index.specs.declared.read_error.ReadError.{ReadError}
use Rattle.graph_index.specs.declared.read_error.ReadError.TheVariants as error
use Rattle.data_loading.specs.declared.refusal.Refusal.{Refusal}
use Rattle.data_loading.specs.declared.refusal.Refusal.TheVariants.{Memory, Full, Fault}

-- of a reader's stop, and of a triple that was not loaded
abbrev pub from_stop : Stop → Refusal
from_stop stop.Memory = Memory
from_stop (stop.Fault f) = Fault f

abbrev pub from_load : LoadError → Refusal
from_load load.Memory = Memory
from_load load.Full = Full

-- the answer for a refusal at a place
abbrev pub error_of : Refusal → ℕ → ReadError
error_of Memory at = error.Memory
error_of Full at = error.Full
error_of (Fault faults.Syntax) at = error.Syntax at
error_of (Fault faults.Prefix) at = error.Prefix at
error_of (Fault faults.Deep) at = error.Deep
error_of (Fault faults.Long) at = error.Long at
error_of (Fault faults.Full) at = error.Full
