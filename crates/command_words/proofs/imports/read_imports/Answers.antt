use Rattle.std.proofs.Common.{◌∙◌, List, [], ℕ, Bor, refl, sym}
use Rattle.input_names.specs.Lent.{import_of}
use Rattle.command_words.specs.Checks.{again, file, form}
use Rattle.command_words.proofs.Going.{fault_here, goes_first, goes_last, goes_next, iris, was_known, was_new}
use Rattle.command_words.proofs.imports.read_imports.Goals as goal

abbrev nothing : Bor (List ℕ)
nothing = record { ref_ptr = (0, 0); now = [] }

pub loop-word-init : goal.loop-word-init
loop-word-init c = goes_first c.args.words.now c.new-given.result c.new-imports.result.items c.new-given.ensures.empty c.new-imports.ensures.items

pub loop-word-preserved : goal.loop-word-preserved
loop-word-preserved c =
    goes_next c.args.words.now c.loop-word.word-index nothing c.loop-word.given c.insert.new.self c.loop-word.imports.items c.push.new.self.items c.in-Some.import c.in_ok-is_new.is_new
    c.loop-word-test.true c.loop-word.invariant c.in-Some.ensures.found c.in_ok-is_new.ensures.added c.if-not-is_new.false (sym c.is_schema_name.ensures ∙ c.if-not-is_schema_name.false)
    c.in_ok-is_new.ensures.updates.0 c.in_ok-push.ensures.items

pub returns-in_default-clause-fault : goal.returns-in_default-clause-fault
returns-in_default-clause-fault c =
    fault_here c.args.words.now c.loop-word.word-index nothing c.loop-word.given c.loop-word.imports.items _ c.loop-word-test.true c.loop-word.invariant (form (c.in_default.ensures.missed refl))

pub returns-then-not-is_new-clause-fault : goal.returns-then-not-is_new-clause-fault
returns-then-not-is_new-clause-fault c =
    fault_here c.args.words.now c.loop-word.word-index nothing c.loop-word.given c.loop-word.imports.items _ c.loop-word-test.true c.loop-word.invariant
    (again (import_of c.in-Some.import) c.in-Some.ensures.found
    (was_known c.loop-word.given (iris c.loop-word.imports.items) c.in-Some.import.iri c.in_ok-is_new.is_new c.loop-word.invariant.known c.in_ok-is_new.ensures.added c.if-not-is_new.true))

pub returns-then-not-is_schema_name-clause-fault : goal.returns-then-not-is_schema_name-clause-fault
returns-then-not-is_schema_name-clause-fault c =
    fault_here c.args.words.now c.loop-word.word-index nothing c.loop-word.given c.loop-word.imports.items _ c.loop-word-test.true c.loop-word.invariant
    (file (import_of c.in-Some.import) c.in-Some.ensures.found
    (was_new c.loop-word.given (iris c.loop-word.imports.items) c.in-Some.import.iri c.in_ok-is_new.is_new c.loop-word.invariant.known c.in_ok-is_new.ensures.added c.if-not-is_new.false)
    (sym c.is_schema_name.ensures ∙ c.if-not-is_schema_name.true))

pub returns-clause-ok : goal.returns-clause-ok
returns-clause-ok c = goes_last c.args.words.now c.loop-word.word-index c.loop-word.given c.loop-word.imports.items c.loop-word-test.false c.loop-word.invariant
