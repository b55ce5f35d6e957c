use Rattle.std.proofs.Common.{◌∙◌}
use Rattle.rdf_cursor.specs.Cursors.{ahead}
use Rattle.nt_reader.proofs.Endings.{found_from, ok_from, err_from, cause_from}
use Rattle.nt_reader.proofs.reader.read_text.Goals as goal

pub returns-in-Ok-clause-found : goal.returns-in-Ok-clause-found
returns-in-Ok-clause-found c = found_from c.args.text.now c.utf8.text _ c.new-c.ensures.ahead (ahead c.load_lines.new.c) _ _ _ _ c.in-Ok.ensures.ends

pub returns-in-Ok-clause-complete : goal.returns-in-Ok-clause-complete
returns-in-Ok-clause-complete c =
    λ xs terms graph doc loads within. ok_from c.args.text.now c.utf8.text _ c.new-c.ensures.ahead (ahead c.load_lines.new.c) _ _ terms _ _ graph xs c.requires doc loads c.in-Ok.ensures.ends

pub returns-in-Err-clause-complete : goal.returns-in-Err-clause-complete
returns-in-Err-clause-complete c = λ xs terms graph doc loads within.
    err_from c.args.text.now c.utf8.text _ c.new-c.ensures.ahead c.in-Err.refusal _ _ _ _ _ terms _ _ _ graph _ xs c.requires doc loads within c.in-Err.ensures.ends c.error.ensures

pub returns-in-Err-clause-refused : goal.returns-in-Err-clause-refused
returns-in-Err-clause-refused c =
    cause_from c.args.text.now c.utf8.text _ c.new-c.ensures.ahead c.in-Err.refusal _ _ _ _ _ _ _ _ c.in-Err.ensures.ends (c.in-Err.ensures.source
    ∙ c.new-c.ensures.source) c.place.ensures c.error.ensures
