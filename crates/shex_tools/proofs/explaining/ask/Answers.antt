use Rattle.std.proofs.Common.{refl, subst, sym}
use Rattle.schema_tree.specs.Edges.{IsStratum}
use Rattle.schema_tree.specs.Loaded.{IsLoaded}
use Rattle.shex_inputs.specs.Asked.{Question}
use Rattle.shex_inputs.specs.Held.{held_by}
use Rattle.tool_words.specs.Asked.{of_reasons}
use Rattle.tool_words.specs.Lent.{explaining_of}
use Rattle.shex_tools.specs.Calls.{inputs_of}
use Rattle.shex_tools.proofs.Asking.{ready}
use Rattle.shex_tools.proofs.Stopped.{asking_explains, input_faults}
use Rattle.shex_tools.proofs.explaining.ask.Goals as goal

pub read_map-requires-clause-taken : goal.read_map-requires-clause-taken
read_map-requires-clause-taken g c = c.requires.taken

pub returns-in-Ok-clause-ready : goal.returns-in-Ok-clause-ready
returns-in-Ok-clause-ready g c =
    let (digests, taken) = c.requires.taken in
    let h = c.read_map.new.holding in
    let q : Question = record { held = held_by c.args.holding.now digests; terms = h.terms; associations = c.in-Ok.asked.associations.items; pairs = c.in-Ok.asked.pairs } in
    ready (g.F.Files.told c.args.files.now) (inputs_of (of_reasons (explaining_of c.args.explaining.now))) q h c.args.explaining.now.budget (c.in-Ok.ensures.asked digests taken)
    (sym c.read_map.ensures.schema) (sym c.read_map.ensures.strata) (sym c.read_map.ensures.graph) refl c.requires.budget
    (subst IsLoaded (sym c.read_map.ensures.schema) c.requires.loaded)
    (subst (λ f. IsStratum h.schema f) (sym c.read_map.ensures.strata) (subst (λ s. IsStratum s c.args.holding.now.strata) (sym c.read_map.ensures.schema) c.requires.strata))
    c.in-Ok.ensures.sealed c.read_map.ensures.of_new_table c.in-Ok.ensures.closed

pub returns-in-Err-clause-cause : goal.returns-in-Err-clause-cause
returns-in-Err-clause-cause g c =
    asking_explains (g.F.Files.told c.args.files.now) (explaining_of c.args.explaining.now) c.in-Err.error c.stop_of.result c.in-Err.ensures.cause c.stop_of.ensures

pub returns-in-Err-clause-faults : goal.returns-in-Err-clause-faults
returns-in-Err-clause-faults g c =
    input_faults (of_reasons (explaining_of c.args.explaining.now)) (g.F.Files.faults c.args.files.now) (g.F.Files.faults c.read_map.new.files)
    (g.F.Files.blame c.read_map.new.files) (g.F.Files.act c.read_map.new.files) c.in-Err.error c.stop_of.result c.in-Err.ensures.faults c.stop_of.ensures
