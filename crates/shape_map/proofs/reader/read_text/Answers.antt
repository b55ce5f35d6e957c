use Rattle.std.proofs.Common.{◌∙◌}
use Rattle.rdf_cursor.specs.Cursors.{ahead}
use Rattle.term_tokens.specs.Scopes.{scope_of}
use Rattle.shape_map.proofs.Endings.{map_stop, found_from, ok_from, err_from, cause_from}
use Rattle.shape_map.proofs.reader.read_text.Goals as goal

pub error-requires : goal.error-requires
error-requires c = map_stop (scope_of c.args.nodes.now) (scope_of c.args.labels.now) _ (ahead c.shape_map.new.c) c.in-Err.stop c.in-Err.ensures.gives

pub returns-in-Ok-clause-found : goal.returns-in-Ok-clause-found
returns-in-Ok-clause-found c = found_from (scope_of c.args.nodes.now)
    (scope_of c.args.labels.now) c.args.text.now c.utf8.text _ c.new-c.ensures.ahead _ _ (ahead c.shape_map.new.c) c.in-Ok.ensures.gives c.of.ensures

pub returns-in-Ok-clause-complete : goal.returns-in-Ok-clause-complete
returns-in-Ok-clause-complete c = λ items m. ok_from (scope_of c.args.nodes.now)
    (scope_of c.args.labels.now) c.args.text.now c.utf8.text _ c.new-c.ensures.ahead _ _ items (ahead c.shape_map.new.c) m c.in-Ok.ensures.gives c.of.ensures

pub returns-in-Err-clause-complete : goal.returns-in-Err-clause-complete
returns-in-Err-clause-complete c = λ items m.
    err_from (scope_of c.args.nodes.now)
    (scope_of c.args.labels.now) c.args.text.now c.utf8.text _ c.new-c.ensures.ahead c.in-Err.stop _ _ (ahead c.shape_map.new.c) items m c.in-Err.ensures.gives c.error.ensures

pub returns-in-Err-clause-refused : goal.returns-in-Err-clause-refused
returns-in-Err-clause-refused c =
    cause_from (scope_of c.args.nodes.now)
    (scope_of c.args.labels.now) c.args.text.now c.utf8.text _ c.new-c.ensures.ahead c.in-Err.stop _ _ _ _ c.in-Err.ensures.gives (c.in-Err.ensures.source
    ∙ c.new-c.ensures.source) c.place.ensures c.error.ensures
