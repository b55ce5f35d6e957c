use Rattle.std.proofs.Common.{◌∙◌, ap, subst, sym}
use Rattle.input_names.specs.Names.{is_base}
use Rattle.command_words.specs.Lent.{command_of}
use Rattle.shex_inputs.specs.Held.{HasTaken}
use Rattle.shex_inputs.specs.Outcomes.{Explains as ExplainsInput, FaultsAs as FaultsAsInput}
use Rattle.shex_run.specs.Stopping.{Explains, FaultsAs}
use Rattle.shex_run.specs.Tasks.{inputs_of, map_name}
use Rattle.shex_run.proofs.Answering.{base_of_task, input_stopped}
use Rattle.shex_run.proofs.answers.hold.Goals as goal

pub read_holding-requires : goal.read_holding-requires
read_holding-requires g c = let (task, same) = c.inputs.ensures in record {
  schema_base = ap (λ k. is_base k.schema_base) (sym same)
      ∙ c.requires.schema;
  data_base = ap (λ k. is_base k.data_base) (sym same) ∙ c.requires.data_file;
}

pub returns-in-Ok-clause-taken : goal.returns-in-Ok-clause-taken
returns-in-Ok-clause-taken g c = let (task, same) = c.inputs.ensures in subst (λ k. HasTaken (g.F.Files.told c.args.files.now) (inputs_of k) c.in-Ok.taken)
    (sym same) (c.in-Ok.ensures.taken (map_name task))

pub returns-in-Err-clause-cause : goal.returns-in-Err-clause-cause
returns-in-Err-clause-cause g c =
    let (task, same) = c.inputs.ensures in
    let k = command_of c.args.command.now in
    let before = g.F.Files.faults c.args.files.now in
    let after = g.F.Files.faults c.read_holding.new.files in
    let blame = g.F.Files.blame c.read_holding.new.files in
    let act = g.F.Files.act c.read_holding.new.files in
    subst (λ s. Explains (g.F.Files.told c.args.files.now) k s) (sym c.stop_of.ensures)
    (input_stopped (g.F.Files.told c.args.files.now) (g.F.Files.told c.read_holding.new.files) k before after blame act c.in-Err.error (base_of_task k.task c.in-Err.error c.in-Err.ensures.before_map)
    (subst (λ z. ExplainsInput (g.F.Files.told c.args.files.now) (inputs_of z) c.in-Err.error) (sym same) (c.in-Err.ensures.cause (map_name task)))
    (subst (λ z. FaultsAsInput (inputs_of z) before after blame act c.in-Err.error) (sym same) (c.in-Err.ensures.faults (map_name task))) c.in-Err.ensures.told_stays).cause

pub returns-in-Err-clause-faults : goal.returns-in-Err-clause-faults
returns-in-Err-clause-faults g c =
    let (task, same) = c.inputs.ensures in
    let k = command_of c.args.command.now in
    let before = g.F.Files.faults c.args.files.now in
    let after = g.F.Files.faults c.read_holding.new.files in
    let blame = g.F.Files.blame c.read_holding.new.files in
    let act = g.F.Files.act c.read_holding.new.files in
    subst (λ s. FaultsAs k before after blame act s) (sym c.stop_of.ensures)
    (input_stopped (g.F.Files.told c.args.files.now) (g.F.Files.told c.read_holding.new.files) k before after blame act c.in-Err.error (base_of_task k.task c.in-Err.error c.in-Err.ensures.before_map)
    (subst (λ z. ExplainsInput (g.F.Files.told c.args.files.now) (inputs_of z) c.in-Err.error) (sym same) (c.in-Err.ensures.cause (map_name task)))
    (subst (λ z. FaultsAsInput (inputs_of z) before after blame act c.in-Err.error) (sym same) (c.in-Err.ensures.faults (map_name task))) c.in-Err.ensures.told_stays).faults
