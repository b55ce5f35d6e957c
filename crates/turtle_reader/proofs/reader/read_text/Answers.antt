use Rattle.std.proofs.Common.{◌∙◌}
use Rattle.rdf_cursor.specs.Cursors.{ahead}
use Rattle.turtle_reader.proofs.Endings.{found_from, ok_from, err_from, cause_from}
use Rattle.turtle_reader.proofs.reader.read_text.Goals as goal

pub returns-in-Ok-load_statements-clause-found : goal.returns-in-Ok-load_statements-clause-found
returns-in-Ok-load_statements-clause-found c =
    found_from c.args.base.now c.args.text.now c.utf8.text _ c.new-c.ensures.ahead _ c.in-Ok.ensures _ _ (ahead c.load_statements.new.c) _ _ _ _ c.in-Ok-load_statements.ensures.ends c.into_prefixes.ensures.last

pub returns-in-Ok-load_statements-clause-complete : goal.returns-in-Ok-load_statements-clause-complete
returns-in-Ok-load_statements-clause-complete c = λ v ts terms graph doc loads within.
    ok_from c.args.base.now c.args.text.now c.utf8.text _ c.new-c.ensures.ahead _ c.in-Ok.ensures _ _ v (ahead c.load_statements.new.c) _ _ terms _ _ graph ts c.requires.distinct doc loads c.in-Ok-load_statements.ensures.ends c.into_prefixes.ensures.last

pub returns-in-Err-clause-complete : goal.returns-in-Err-clause-complete
returns-in-Err-clause-complete c = λ v ts terms graph doc loads within.
    err_from c.args.base.now c.args.text.now c.utf8.text _ c.new-c.ensures.ahead _ c.in-Ok.ensures c.in-Err.refusal _ _ _ v _ _ _ terms _ _ _ graph _ ts c.requires.distinct doc loads within c.in-Err.ensures.ends c.error.ensures

pub returns-in-Err-clause-refused : goal.returns-in-Err-clause-refused
returns-in-Err-clause-refused c =
    cause_from c.args.base.now c.args.text.now c.utf8.text _ c.new-c.ensures.ahead _ c.in-Ok.ensures c.in-Err.refusal _ _ _ _ _ _ _ _ _ c.in-Err.ensures.ends (c.in-Err.ensures.source
    ∙ c.new-c.ensures.source) c.place.ensures c.error.ensures
