use Rattle.std.proofs.Common.{rules, []}
use Rattle.std.proofs.lemmas.Result.{err_from_is_err_and}
use Rattle.session_script.specs.Scripts.{lines_of}
use Rattle.session_script.proofs.Texts.{one_script, cut_some, cut_none, begins, comes_on, comes_to, refuses, only_memory}
use Rattle.session_script.proofs.reader.read_text.Goals as goal

pub loop-line-init : goal.loop-line-init
loop-line-init c = record { text = search rules; comes = begins c.args.text.now c.new-commands.result.items c.new-commands.ensures.items }

pub loop-line-preserved : goal.loop-line-preserved
loop-line-preserved c =
    let rest = c.loop-line.rest.now in
    record {
      text = search rules;
      comes = comes_on c.args.text.now rest c.in-Some.line.now c.in-Some.behind.now c.loop-line.commands.items c.read_line.new.commands.items c.loop-line.invariant.comes
          (cut_some rest (c.in-Some.line, c.in-Some.behind) c.in-Some.ensures.cases) c.in_ok-read_line.ensures;
    }

pub returns-in_err-read_line-clause-refused : goal.returns-in_err-read_line-clause-refused
returns-in_err-read_line-clause-refused c =
    let p = err_from_is_err_and c.from_residual.result c.from_residual.ensures.1 in
    let rest = c.loop-line.rest.now in
    let cut = cut_some rest (c.in-Some.line, c.in-Some.behind) c.in-Some.ensures.cases in
    rw (p.1, p.2)
    (refuses c.args.text.now rest c.in-Some.line.now (lines_of c.in-Some.behind.now) c.loop-line.commands.items c.loop-line.invariant.comes cut.lines c.in_err-read_line.field-0.0 c.start_of.result c.start_of.ensures.place c.in_err-read_line.ensures)

pub returns-in_err-read_line-clause-memory : goal.returns-in_err-read_line-clause-memory
returns-in_err-read_line-clause-memory c = λ xs script.
    let p = err_from_is_err_and c.from_residual.result c.from_residual.ensures.1 in
    let rest = c.loop-line.rest.now in
    let cut = cut_some rest (c.in-Some.line, c.in-Some.behind) c.in-Some.ensures.cases in
    rw (p.1, p.2)
    (only_memory c.args.text.now rest c.in-Some.line.now (lines_of c.in-Some.behind.now) c.loop-line.commands.items c.loop-line.invariant.comes cut.lines c.in_err-read_line.field-0.0 c.start_of.result xs c.in_err-read_line.ensures script)

pub returns-in_err-read_line-2-clause-refused : goal.returns-in_err-read_line-2-clause-refused
returns-in_err-read_line-2-clause-refused c =
    let p = err_from_is_err_and c.from_residual-in_err-read_line-2.result c.from_residual-in_err-read_line-2.ensures.1 in
    let rest = c.loop-line.rest.now in
    rw (p.1, p.2)
    (refuses c.args.text.now rest rest [] c.loop-line.commands.items c.loop-line.invariant.comes (cut_none rest c.in_default.ensures.cases) c.in_err-read_line-2.field-0.0 c.start_of-2.result c.start_of-2.ensures.place c.in_err-read_line-2.ensures)

pub returns-in_err-read_line-2-clause-memory : goal.returns-in_err-read_line-2-clause-memory
returns-in_err-read_line-2-clause-memory c = λ xs script.
    let p = err_from_is_err_and c.from_residual-in_err-read_line-2.result c.from_residual-in_err-read_line-2.ensures.1 in
    let rest = c.loop-line.rest.now in
    rw (p.1, p.2)
    (only_memory c.args.text.now rest rest [] c.loop-line.commands.items c.loop-line.invariant.comes (cut_none rest c.in_default.ensures.cases) c.in_err-read_line-2.field-0.0 c.start_of-2.result xs c.in_err-read_line-2.ensures script)

pub returns-clause-found : goal.returns-clause-found
returns-clause-found c =
    comes_to c.args.text.now c.loop-line.rest.now c.loop-line.commands.items c.read_line-2.new.commands.items c.utf8.text c.loop-line.invariant.comes (cut_none c.loop-line.rest.now c.in_default.ensures.cases) c.in_ok-read_line-2.ensures

pub returns-clause-complete : goal.returns-clause-complete
returns-clause-complete c = λ xs script.
    one_script c.args.text.now c.read_line-2.new.commands.items xs
    (comes_to c.args.text.now c.loop-line.rest.now c.loop-line.commands.items c.read_line-2.new.commands.items c.utf8.text c.loop-line.invariant.comes (cut_none c.loop-line.rest.now c.in_default.ensures.cases) c.in_ok-read_line-2.ensures) script
