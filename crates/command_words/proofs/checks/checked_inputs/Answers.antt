use Rattle.std.proofs.Common.{◌∙◌, ap, map, sym}
use Rattle.input_names.specs.Lent.{import_of}
use Rattle.command_words.specs.Checks.{data_base, data_ending, schema_base, schema_ending}
use Rattle.command_words.specs.Lent.{given_of}
use Rattle.command_words.proofs.Exact.{imports_failed, with_imports}
use Rattle.command_words.proofs.checks.checked_inputs.Goals as goal

pub returns-then-not-is_schema_name-clause-fault : goal.returns-then-not-is_schema_name-clause-fault
returns-then-not-is_schema_name-clause-fault c = schema_ending (sym c.is_schema_name.ensures ∙ c.if-not-is_schema_name.true)

pub returns-then-not-is_data_name-clause-fault : goal.returns-then-not-is_data_name-clause-fault
returns-then-not-is_data_name-clause-fault c = data_ending (sym c.is_schema_name.ensures ∙ c.if-not-is_schema_name.false) (sym c.is_data_name.ensures ∙ c.if-not-is_data_name.true)

pub returns-in_err-imports-clause-fault : goal.returns-in_err-imports-clause-fault
returns-in_err-imports-clause-fault c =
    imports_failed (given_of c.args.given) (map (λ w. w.now) c.deref.result.now) c.from_residual.result c.in_err-imports.field-0.0 c.from_residual.ensures.1
    (record { schema = sym c.is_schema_name.ensures ∙ c.if-not-is_schema_name.false; data_file = sym c.is_data_name.ensures ∙ c.if-not-is_data_name.false })
    (ap (map (λ w. w.now)) c.deref.ensures.value) c.in_err-imports.ensures.fault

pub returns-then-not-is_base-clause-fault : goal.returns-then-not-is_base-clause-fault
returns-then-not-is_base-clause-fault c =
    schema_base (map import_of c.in_ok-imports.imports.items)
    (with_imports (given_of c.args.given) (map (λ w. w.now) c.deref.result.now) (map import_of c.in_ok-imports.imports.items)
    (sym c.is_schema_name.ensures ∙ c.if-not-is_schema_name.false) (sym c.is_data_name.ensures ∙ c.if-not-is_data_name.false)
    (ap (map (λ w. w.now)) c.deref.ensures.value) c.in_ok-imports.ensures.ok)
    (sym c.is_base.ensures ∙ c.if-not-is_base.true)

pub returns-then-not-is_base-2-clause-fault : goal.returns-then-not-is_base-2-clause-fault
returns-then-not-is_base-2-clause-fault c =
    data_base (map import_of c.in_ok-imports.imports.items)
    (with_imports (given_of c.args.given) (map (λ w. w.now) c.deref.result.now) (map import_of c.in_ok-imports.imports.items)
    (sym c.is_schema_name.ensures ∙ c.if-not-is_schema_name.false) (sym c.is_data_name.ensures ∙ c.if-not-is_data_name.false)
    (ap (map (λ w. w.now)) c.deref.ensures.value) c.in_ok-imports.ensures.ok)
    (sym c.is_base.ensures ∙ c.if-not-is_base.false) (sym c.is_base-2.ensures ∙ c.if-not-is_base-2.true)
