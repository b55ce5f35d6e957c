use Rattle.std.proofs.Common.{◌∙◌, subst}
use Rattle.std.proofs.lemmas.Result.{on_ok_weaker}
use Rattle.std.specs.Result.{IfErr, IfOk}
use Rattle.shex_inputs.specs.Held.{held_by}
use Rattle.tool_words.specs.Asked.{of_nodes}
use Rattle.tool_words.specs.Lent.{reaching_of}
use Rattle.shard_answers.specs.Answers.{AreNodesOf}
use Rattle.shard_answers.specs.Stops.{Explains, FaultsAs}
use Rattle.shard_answers.proofs.Asking.{taken_later}
use Rattle.shard_answers.proofs.reached.text_of.Goals as goal

pub nodes_over-text-requires-clause-taken : goal.nodes_over-text-requires-clause-taken
nodes_over-text-requires-clause-taken g c =
    let (digests, taken) = c.in_ok-holding.ensures.taken in
    (digests, taken_later (g.F.Files.told c.args.files.now) _ (reaching_of c.args.reaching.now) c.in_ok-holding.ensures.told_stays (held_by c.in_ok-holding.holding digests) taken)

pub returns-clause-nodes : goal.returns-clause-nodes
returns-clause-nodes g c =
    subst (λ t. IfOk c.nodes_over-text.result (λ text. AreNodesOf t (reaching_of c.args.reaching.now) text.items)) c.in_ok-holding.ensures.told_stays c.nodes_over-text.ensures.nodes

pub returns-clause-cause : goal.returns-clause-cause
returns-clause-cause g c =
    subst (λ t. IfErr c.nodes_over-text.result (Explains t (of_nodes (reaching_of c.args.reaching.now)))) c.in_ok-holding.ensures.told_stays c.nodes_over-text.ensures.cause

pub returns-clause-faults : goal.returns-clause-faults
returns-clause-faults g c =
    let files = c.nodes_over-text.new.files in
    subst (λ n. IfErr c.nodes_over-text.result (FaultsAs (of_nodes (reaching_of c.args.reaching.now)) n (g.F.Files.faults files) (g.F.Files.blame files) (g.F.Files.act files))) c.in_ok-holding.ensures.faults_stay
    c.nodes_over-text.ensures.faults

pub returns-clause-faults_stay : goal.returns-clause-faults_stay
returns-clause-faults_stay g c = on_ok_weaker c.nodes_over-text.result (λ e. e ∙ c.in_ok-holding.ensures.faults_stay) c.nodes_over-text.ensures.faults_stay
