-- Why a reader of ShExC stops, and what a function of a reader gives, by the reader on lists that it follows.
use Rattle.std.specs.Prelude.{◌≡◌, Result, Ok, Err}
use Rattle.rdf_cursor.specs.Ahead.{Ahead}
use Rattle.rdf_cursor.specs.Readers.{Answer, Reader}
use Rattle.rdf_cursor.specs.declared.stops.Fault as any
use Rattle.rdf_cursor.specs.declared.stops.Fault.TheVariants as plain
use Rattle.rdf_cursor.specs.declared.stops.Stop as any_stop
use Rattle.rdf_cursor.specs.declared.stops.Stop.TheVariants as plain_stop
use Rattle.rdf_lex.specs.Tokens.{Spelled}
use Rattle.shexc_constraints.specs.declared.faults.Fault.{Fault}
use Rattle.shexc_constraints.specs.declared.faults.Fault.TheVariants.{Syntax, Prefix, Deep}
use Rattle.shexc_constraints.specs.declared.faults.Stop.{Stop}
use Rattle.shexc_constraints.specs.declared.faults.Stop.TheVariants as stop

abbrev pub R : Type 0 → Type 0
R A = Reader Spelled Fault A

-- the fault of a token that is at fault in any language; no length is bounded, and no anonymous node is numbered
abbrev pub fault_by : any.Fault → Fault
fault_by plain.Syntax = Syntax
fault_by plain.Prefix = Prefix
fault_by plain.Deep = Deep
fault_by plain.Long = Syntax
fault_by plain.Full = Syntax

-- the stop that a stop in any language is
abbrev pub stop_by : any_stop.Stop → Stop
stop_by plain_stop.Memory = stop.Memory
stop_by (plain_stop.Fault f) = stop.Fault (fault_by f)

abbrev pub raised : {A : Type 0} → Result A any.Fault → Result A Fault
raised (Ok x) = Ok x
raised (Err f) = Err (fault_by f)

-- a fault is that of the reader, and what lies ahead is what it left; of want of memory nothing is said
abbrev pub StopsAs : {Y : Type 0} → Stop → Ahead Spelled → Answer Spelled Fault Y → Type 0
StopsAs stop.Memory rest answer = Unit {0}
StopsAs (stop.Fault f) rest answer = answer ≡ Err (f, rest)

-- a value, as it is seen, is that of the reader
abbrev pub Gives : {X Y : Type 0} → (X → Y) → Result X Stop → Ahead Spelled → Answer Spelled Fault Y → Type 0
Gives view (Ok x) rest answer = answer ≡ Ok (view x, rest)
Gives view (Err e) rest answer = StopsAs e rest answer

-- a stop is the fault of what a token stands for, or want of memory
abbrev pub FailsAs : {Y : Type 0} → Stop → Result Y Fault → Type 0
FailsAs stop.Memory answer = Unit {0}
FailsAs (stop.Fault f) answer = answer ≡ Err f

abbrev pub Answers : {X Y : Type 0} → (X → Y) → Result X Stop → Result Y Fault → Type 0
Answers view (Ok x) answer = answer ≡ Ok (view x)
Answers view (Err e) answer = FailsAs e answer
