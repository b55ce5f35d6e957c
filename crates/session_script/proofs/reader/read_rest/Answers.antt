use Rattle.std.proofs.Common.{◌∙◌, arith}
use Rattle.rdf_cursor.specs.Cursors.{ahead}
use Rattle.session_script.proofs.Rests.{found_from, stop_from, within_from, cause_from}
use Rattle.session_script.proofs.reader.read_rest.Goals as goal

pub overflow_add-start : goal.overflow_add-start
overflow_add-start c =
    let le = within_from c.args.sign c.args.rest.now c.utf8.rest _ c.new-c.ensures.ahead (ahead c.command.new.c) c.place.result _ (c.in-Err.ensures.source ∙ c.new-c.ensures.source) c.place.ensures in
    omega (arith, le, c.requires)

pub error-requires : goal.error-requires
error-requires c = stop_from c.args.sign c.args.rest.now c.utf8.rest _ c.new-c.ensures.ahead c.in-Err.stop (ahead c.command.new.c) c.in-Err.ensures.gives

pub returns-in-Ok-clause-found : goal.returns-in-Ok-clause-found
returns-in-Ok-clause-found c = found_from c.args.sign c.args.rest.now c.utf8.rest _ c.new-c.ensures.ahead c.in-Ok.command (ahead c.command.new.c) c.in-Ok.ensures.gives

pub returns-in-Err-clause-refused : goal.returns-in-Err-clause-refused
returns-in-Err-clause-refused c =
    cause_from c.args.sign c.args.rest.now c.utf8.rest _ c.new-c.ensures.ahead c.in-Err.stop _ c.place.result c.args.start (ahead c.command.new.c) _ c.in-Err.ensures.gives (c.in-Err.ensures.source
    ∙ c.new-c.ensures.source) c.place.ensures c.error.ensures
