use Rattle.std.proofs.Common.{◌∙◌, ap, inl, subst}
use Rattle.std.proofs.lemmas.Result.{err_from_is_err_and}
use Rattle.shex_io.specs.Fetching.{IsFile}
use Rattle.tool_words.specs.Lent.{shard_of}
use Rattle.shard_answers.specs.Answers.{told_of}
use Rattle.shard_answers.proofs.Comparing.{second_stops}
use Rattle.shard_answers.proofs.covers.compare.Goals as goal

pub returns-in_err-nodes-clause-stops : goal.returns-in_err-nodes-clause-stops
returns-in_err-nodes-clause-stops g c =
    let p = err_from_is_err_and c.from_residual.result c.from_residual.ensures.1 in
    rw (p.1, p.2) (inl c.in_err-nodes.ensures.stops)

pub returns-in_err-shard-clause-stops : goal.returns-in_err-shard-clause-stops
returns-in_err-shard-clause-stops g c =
    let p = err_from_is_err_and c.from_residual-in_err-shard.result c.from_residual-in_err-shard.ensures.1 in
    rw (p.1, p.2)
    (second_stops (g.F.Files.told c.args.files.now) (g.F.Files.told c.fetch.new.files) (g.F.Files.faults c.args.files.now) (g.F.Files.faults c.fetch.new.files) (g.F.Files.faults c.fetch-2.new.files)
    (g.F.Files.blame c.fetch-2.new.files)
    (g.F.Files.act c.fetch-2.new.files) c.in_err-shard.field-0.0 c.in_ok-nodes.ensures.told_stays c.in_ok-nodes.ensures.faults_stay (shard_of c.args.names.now) c.args.at
    c.in_ok-nodes.nodes.items c.in_ok-nodes.ensures.bytes c.in_err-shard.ensures.stops)

pub returns-clause-found : goal.returns-clause-found
returns-clause-found g c = λ lines back is_part. record {
  nodes = c.in_ok-nodes.nodes.items;
  nodes_file = c.in_ok-nodes.ensures.bytes;
  bytes = c.in_ok-shard.shard.items;
  shard_file = subst (λ t. IsFile t c.args.names.now.shard.now c.in_ok-shard.shard.items) c.in_ok-nodes.ensures.told_stays c.in_ok-shard.ensures.bytes;
  found_is =
      c.in_ok-text_if_lacking.ensures lines back is_part
      ∙ ap (λ z. told_of lines back c.args.names.now.shard.now z c.as_slice-2.result.now) c.as_slice.ensures.value
      ∙ ap (told_of lines back c.args.names.now.shard.now c.in_ok-nodes.nodes.items) c.as_slice-2.ensures.value;
}
