-- A step's fault is the loop's.
use Rattle.std.proofs.Common.{◌≡◌, Bool, true}
use Rattle.rdf_cursor.specs.Ahead.{Ahead, next_is}
use Rattle.rdf_cursor.specs.Properties.{Consumes}
use Rattle.rdf_cursor.specs.Readers.{Answer, Reader, loop}
use Rattle.rdf_cursor.proofs.Loops.{loop_fails}
use Rattle.rdf_lex.specs.Tokens.{Spelled}
use Rattle.rdf_cursor.specs.declared.stops.Fault.{Fault}
use Rattle.rdf_cursor.specs.declared.stops.Stop.{Stop}
use Rattle.rdf_cursor.specs.declared.stops.Stop.TheVariants as stop
use Rattle.rdf_cursor.specs.Stops.{StopsAs}

pub fails_loop : {S : Type 0} (class : Spelled → Bool) (step : S → Reader Spelled Fault S) (consumes : (s : S) →
    Consumes (step s)) (e : Stop) (s : S) (ts r : Ahead Spelled) (total : Answer Spelled Fault S)
    → next_is class ts ≡ true → StopsAs e r (step s ts) → loop class step s ts ≡ total → StopsAs e r total
fails_loop class step consumes stop.Memory s ts r total n f all = tt
fails_loop class step consumes (stop.Fault d) s ts r total n f all = loop_fails class step consumes s ts (d, r) total n f all
