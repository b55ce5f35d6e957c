use Rattle.graph_index.proofs.Blocks.{rest_is}
use Rattle.graph_index.proofs.Grouped.{grouped_behind}
use Rattle.graph_index.proofs.Stepped.{begins, found, passes}
use Rattle.graph_index.proofs.node_rows.block_of.Goals as goal

pub loop-first-init : goal.loop-first-init
loop-first-init c = begins c.args.rows.now c.args.p

pub first_block-count-requires-clause-grouped : goal.first_block-count-requires-clause-grouped
first_block-count-requires-clause-grouped c = grouped_behind c.args.rows.now _ c.loop-first.first (rest_is c.args.rows.now c.loop-first.first) c.requires

pub returns-then-rest-p : goal.returns-then-rest-p
returns-then-rest-p c =
    found c.args.rows.now _ c.args.p c.loop-first.first c.first_block-count.result (rest_is c.args.rows.now c.loop-first.first) c.loop-first.invariant c.first_block-count.ensures
    _ c.if-rest-p.true

pub loop-first-preserved : goal.loop-first-preserved
loop-first-preserved c =
    passes c.args.rows.now _ c.args.p c.loop-first.first c.first_block-count.result (rest_is c.args.rows.now c.loop-first.first) c.loop-first.invariant c.first_block-count.ensures
    _ c.if-rest-p.false
