use Rattle.std.proofs.Common.{codes, subst}
use Rattle.shex_inputs.specs.Outcomes.{Explains as InputsExplain, FaultsAs as InputsFaultAs}
use Rattle.shex_inputs.specs.Refusals.{Takes}
use Rattle.term_tokens.specs.Scopes.{scope_of}
use Rattle.tool_words.specs.Asked.{of_ways}
use Rattle.tool_words.specs.Lent.{following_of}
use Rattle.shard_answers.proofs.Stopping.{input_faults, ways_explain}
use Rattle.shard_answers.proofs.followed.load.Goals as goal

pub returns-in-Ok-clause-schema : goal.returns-in-Ok-clause-schema
returns-in-Ok-clause-schema g c =
    let l = c.in-Ok.loaded in
    record {
      strata = l.strata;
      labels = scope_of l.labels;
      taken = subst (λ i. Takes (g.F.Files.told c.args.files.now) i l.terms l.schema l.strata (scope_of l.labels)) c.in_ok-inputs.ensures.inputs (c.in-Ok.ensures.taken (codes "")).0;
    }

pub returns-clause-cause : goal.returns-clause-cause
returns-clause-cause g c =
    ways_explain (g.F.Files.told c.args.files.now) (following_of c.args.following.now) c.in-Err.error c.stop_of.result
    (subst (λ i. InputsExplain (g.F.Files.told c.args.files.now) i c.in-Err.error) c.in_ok-inputs.ensures.inputs (c.in-Err.ensures.cause (codes ""))) c.in-Err.ensures.of_schema c.stop_of.ensures

pub returns-clause-faults : goal.returns-clause-faults
returns-clause-faults g c =
    let before = g.F.Files.faults c.args.files.now in
    let after = g.F.Files.faults c.read_schema.new.files in
    let blame = g.F.Files.blame c.read_schema.new.files in
    let act = g.F.Files.act c.read_schema.new.files in
    input_faults (of_ways (following_of c.args.following.now)) before after blame act c.in-Err.error c.stop_of.result
    (subst (λ i. InputsFaultAs i before after blame act c.in-Err.error) c.in_ok-inputs.ensures.inputs (c.in-Err.ensures.faults (codes ""))) c.stop_of.ensures
