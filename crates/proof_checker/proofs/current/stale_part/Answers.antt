use Rattle.proof_checker.proofs.Differing.{digest_decides, met, met_list, missed, missed_list}
use Rattle.proof_checker.proofs.current.stale_part.Goals as goal

pub returns-then-ne-2 : goal.returns-then-ne-2
returns-then-ne-2 c = (
  met _ (digest_decides c.args.named.now.schema c.args.files.now.schema) c.if-ne.ensures,
  missed_list c.args.named.now.imports c.args.files.now.imports c.as_slice.result.now c.as_slice-2.result.now c.as_slice.ensures c.as_slice-2.ensures c.if-ne-2.ensures,
)

pub returns-then-ne-3 : goal.returns-then-ne-3
returns-then-ne-3 c = (
  met _ (digest_decides c.args.named.now.schema c.args.files.now.schema) c.if-ne.ensures,
  met_list c.args.named.now.imports c.args.files.now.imports c.as_slice.result.now c.as_slice-2.result.now c.as_slice.ensures c.as_slice-2.ensures c.if-ne-2.ensures,
  missed _ (digest_decides c.args.named.now.graph c.args.files.now.graph) c.if-ne-3.ensures,
)

pub returns : goal.returns
returns c =
    let schema = met _ (digest_decides c.args.named.now.schema c.args.files.now.schema) c.if-ne.ensures in
    let imports = met_list c.args.named.now.imports c.args.files.now.imports c.as_slice.result.now c.as_slice-2.result.now c.as_slice.ensures c.as_slice-2.ensures c.if-ne-2.ensures in
    let graph = met _ (digest_decides c.args.named.now.graph c.args.files.now.graph) c.if-ne-3.ensures in
    λ i. record { schema = schema i; imports = imports i; graph = graph i }
