use Rattle.std.proofs.Common.{◌≡◌, ◌∙◌, List, [], ap, map, subst, sym, true}
use Rattle.clap.specs.Words.{Text}
use Rattle.command_words.specs.Checks.{AreImports, IsImportFault}
use Rattle.input_names.specs.Names.{is_schema_name}
use Rattle.input_names.specs.Lent.{import_of}
use Rattle.command_words.proofs.Exact.{handed_on}
use Rattle.tool_words.specs.Asked.{FailsFollowing, way_base, way_ending, way_imports}
use Rattle.tool_words.specs.Lent.{schemed_of}
use Rattle.tool_words.proofs.shards.checked_schema.Goals as goal

pub returns-then-not-is_schema_name-clause-fault : goal.returns-then-not-is_schema_name-clause-fault
returns-then-not-is_schema_name-clause-fault c = way_ending (sym c.is_schema_name.ensures ∙ c.if-not-is_schema_name.true)

pub returns-in_err-imports-clause-fault : goal.returns-in_err-imports-clause-fault
returns-in_err-imports-clause-fault c =
    let asked = schemed_of c.args.asked in
    let words : map (λ w. w.now) c.deref.result.now ≡ asked.import_words = ap (map (λ w. w.now)) c.deref.ensures.value in
    let named : is_schema_name asked.schema ≡ true = sym c.is_schema_name.ensures ∙ c.if-not-is_schema_name.false in
    handed_on (IsImportFault [] (map (λ w. w.now) c.deref.result.now)) (FailsFollowing asked) c.from_residual.result c.in_err-imports.field-0.0 c.from_residual.ensures.1
    (λ f bad. way_imports f named (subst (λ (ws : List Text). IsImportFault [] ws f) words bad)) c.in_err-imports.ensures.fault

pub returns-then-not-is_base-clause-fault : goal.returns-then-not-is_base-clause-fault
returns-then-not-is_base-clause-fault c =
    let asked = schemed_of c.args.asked in
    let words : map (λ w. w.now) c.deref.result.now ≡ asked.import_words = ap (map (λ w. w.now)) c.deref.ensures.value in
    way_base (map import_of c.in_ok-imports.imports.items) (sym c.is_schema_name.ensures ∙ c.if-not-is_schema_name.false)
    (subst (λ (ws : List Text). AreImports [] ws (map import_of c.in_ok-imports.imports.items)) words c.in_ok-imports.ensures.ok) (sym c.is_base.ensures ∙ c.if-not-is_base.true)
