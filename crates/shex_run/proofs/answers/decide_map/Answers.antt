use Rattle.std.proofs.Common.{◌≤◌, refl, subst, sym}
use Rattle.std.specs.List.{AllByRecursion}
use Rattle.std.specs.Prelude.{is_some, option_map}
use Rattle.rdf_terms.specs.Tables.{max_terms}
use Rattle.command_words.specs.Lent.{command_of}
use Rattle.command_words.specs.declared.command.Command.TheVariants as Lent
use Rattle.proof_file.specs.Text.{IsLine, head_lines}
use Rattle.proof_file.specs.declared.head.Digests.{Digests}
use Rattle.schema_tree.specs.Loaded.{IsLoaded}
use Rattle.shex_inputs.specs.Asked.{Question}
use Rattle.shex_inputs.specs.Held.{held_by}
use Rattle.shex_inputs.specs.declared.holding.Holding.{Holding}
use Rattle.shex_inputs.specs.declared.map.Asked.{Asked}
use Rattle.shex_run.specs.Stopping.{Explains}
use Rattle.shex_run.specs.Tasks.{inputs_of}
use Rattle.shex_run.proofs.Answering.{input_stopped, wish_of_task}
use Rattle.shex_run.proofs.Digests.{head_fits}
use Rattle.shex_run.proofs.Replies.{ready, reply}
use Rattle.shex_run.proofs.answers.decide_map.Goals as goal

abbrev question : Holding → Digests → Holding → Asked → Question
question old files new asked = record { held = held_by old files; terms = new.terms; associations = asked.associations.items; pairs = asked.pairs }

pub read_map-requires-clause-taken : goal.read_map-requires-clause-taken
read_map-requires-clause-taken g c = (c.requires.taken.files, c.requires.taken.taken)

pub decide-requires : goal.decide-requires
decide-requires g c =
    ready (g.F.Files.told c.args.files.now) (command_of (Lent.Validate c.args.validation.now))
    (question c.args.holding.now c.requires.taken.files c.read_map.new.holding c.in-Ok.asked)
    (c.in-Ok.ensures.asked c.requires.taken.files c.requires.taken.taken) c.read_map.new.holding c.in-Ok.asked.associations.items c.in-Ok.asked.pairs
    (record { schema = c.read_map.ensures.schema; strata = c.read_map.ensures.strata; terms = refl; graph = c.read_map.ensures.graph; associations = refl; pairs = refl }) c.requires.fit
    c.args.validation.now.map.now (option_map (λ s. s.now) c.args.validation.now.proof) c.args.validation.now.budget c.in_ok-head.head
    (subst (λ o. AllByRecursion IsLine (head_lines o)) (sym (c.in_ok-head.ensures c.requires.taken.files c.requires.taken.kept))
    (head_fits (g.F.Files.told c.args.files.now) (inputs_of (command_of (Lent.Validate c.args.validation.now)))
    (held_by c.args.holding.now c.requires.taken.files) c.requires.taken.taken c.requires.loaded (is_some c.args.digests))) refl
    (subst IsLoaded (sym c.read_map.ensures.schema) c.requires.loaded)
    c.in-Ok.ensures.sealed c.read_map.ensures.of_new_table c.in-Ok.ensures.closed c.are_texts.ensures.schema c.are_texts.ensures.data_file c.data_have_lines.ensures c.map_has_lines.ensures c.bases_are_lines.ensures c.labels_have_lines.ensures

pub returns-in-Ok-decide-clause-decided : goal.returns-in-Ok-decide-clause-decided
returns-in-Ok-decide-clause-decided g c =
    reply (g.F.Files.told c.args.files.now) (command_of (Lent.Validate c.args.validation.now))
    (question c.args.holding.now c.requires.taken.files c.read_map.new.holding c.in-Ok.asked)
    (c.in-Ok.ensures.asked c.requires.taken.files c.requires.taken.taken) c.read_map.new.holding c.in-Ok.asked.associations.items c.in-Ok.asked.pairs
    (record { schema = c.read_map.ensures.schema; strata = c.read_map.ensures.strata; terms = refl; graph = c.read_map.ensures.graph; associations = refl; pairs = refl }) c.requires.fit
    c.args.validation.now.map.now (option_map (λ s. s.now) c.args.validation.now.proof) c.args.validation.now.budget refl
    (is_some c.args.digests) c.in_ok-head.head (c.in_ok-head.ensures c.requires.taken.files c.requires.taken.kept) c.in-Ok-decide.decided c.in-Ok-decide.ensures
    (subst (λ k. k ≤ max_terms) c.len-count.ensures.count c.len-count.ensures.few) c.requires.of_table c.width_is_one.ensures.decided

pub returns-in-Err-clause-cause : goal.returns-in-Err-clause-cause
returns-in-Err-clause-cause g c =
    let k = command_of (Lent.Validate c.args.validation.now) in
    subst (λ s. Explains (g.F.Files.told c.args.files.now) k s) (sym c.stop_of.ensures)
    (input_stopped (g.F.Files.told c.args.files.now) (g.F.Files.told c.read_map.new.files) k (g.F.Files.faults c.args.files.now) (g.F.Files.faults c.read_map.new.files) (g.F.Files.blame c.read_map.new.files) (g.F.Files.act c.read_map.new.files) c.in-Err.error
    (wish_of_task c.args.validation.now.map.now (option_map (λ s. s.now) c.args.validation.now.proof) c.args.validation.now.budget c.in-Err.error) c.in-Err.ensures.cause c.in-Err.ensures.faults c.in-Err.ensures.told_stays).cause
