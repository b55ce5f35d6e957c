-- What a function of a reader gives, by the reader on lists that it follows.
use Rattle.std.specs.Prelude.{◌≡◌, Result, Ok, Err}
use Rattle.rdf_cursor.specs.Ahead.{Ahead}
use Rattle.rdf_cursor.specs.Readers.{Answer}
use Rattle.rdf_lex.specs.Tokens.{Spelled}
use Rattle.rdf_cursor.specs.declared.stops.Fault.{Fault}
use Rattle.rdf_cursor.specs.declared.stops.Stop.{Stop}
use Rattle.rdf_cursor.specs.declared.stops.Stop.TheVariants as stop

-- a fault is that of the reader, and what lies ahead is what it left; of want of memory nothing is said
abbrev pub StopsAs : {Y : Type 0} → Stop → Ahead Spelled → Answer Spelled Fault Y → Type 0
StopsAs stop.Memory rest answer = Unit {0}
StopsAs (stop.Fault f) rest answer = answer ≡ Err (f, rest)

-- a value, as it is seen, is that of the reader
abbrev pub Gives : {X Y : Type 0} → (X → Y) → Result X Stop → Ahead Spelled → Answer Spelled Fault Y → Type 0
Gives view (Ok x) rest answer = answer ≡ Ok (view x, rest)
Gives view (Err e) rest answer = StopsAs e rest answer

-- the same of what a token stands for
abbrev pub FailsAs : {Y : Type 0} → Stop → Result Y Fault → Type 0
FailsAs stop.Memory answer = Unit {0}
FailsAs (stop.Fault f) answer = answer ≡ Err f

abbrev pub Answers : {X Y : Type 0} → (X → Y) → Result X Stop → Result Y Fault → Type 0
Answers view (Ok x) answer = answer ≡ Ok (view x)
Answers view (Err e) answer = FailsAs e answer
