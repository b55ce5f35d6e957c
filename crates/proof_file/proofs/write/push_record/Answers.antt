use Rattle.std.proofs.Common.{◌++◌, ◌∷◌, [], ap, ◌∙◌}
use Rattle.std.specs.Fmt.{decimal}
use Rattle.std.specs.List.{flat_map}
use Rattle.proof_file.specs.Text.{kind_mark, kind_fields}
use Rattle.proof_file.proofs.Joined.{chained, record_written}
use Rattle.proof_file.proofs.write.push_record.Goals as goal

pub returns : goal.returns
returns c =
    chained c.args.out.now.items c.extend_from_slice.new.self.items c.push_pair.new.out.items c.push_kind.new.out.items c.push.new.self.items
    (kind_mark c.args.r.now.kind) (decimal c.args.r.now.node ++ 32 ∷ decimal c.args.r.now.shape) (flat_map (λ f. 32 ∷ f) (kind_fields c.args.r.now.kind)) (10 ∷ [])
    (c.in_ok-extend_from_slice.ensures.items ∙ ap (λ z. c.args.out.now.items ++ z) c.mark.ensures) c.in_ok-push_pair.ensures c.in_ok-push_kind.ensures c.in_ok-push.ensures.items
    ∙ ap (λ z. c.args.out.now.items ++ z) (record_written (kind_mark c.args.r.now.kind) (decimal c.args.r.now.node) (decimal c.args.r.now.shape) (kind_fields c.args.r.now.kind))
