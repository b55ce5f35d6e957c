use Rattle.std.proofs.Common.{◌++◌, ◌∷◌, [], ap, ◌∙◌}
use Rattle.std.specs.Fmt.{decimal}
use Rattle.std.specs.List.{flat_map}
use Rattle.proof_file.specs.Text.{ended, line_text}
use Rattle.proof_file.specs.declared.head.Part.TheVariants as Parts
use Rattle.proof_file.specs.declared.line.Line.TheVariants as Lines
use Rattle.proof_file.proofs.Heads.{chained_six}
use Rattle.proof_file.proofs.Joined.{head_written}
use Rattle.proof_file.proofs.write.push_head.Goals as goal

pub returns : goal.returns
returns c =
    let head = c.args.head.now in
    chained_six c.args.out.now.items c.push_digest.new.out.items c.push_imports.new.out.items c.push_digest-2.new.out.items c.push.new.self.items c.push_separated.new.out.items c.push-2.new.self.items
    (ended (line_text (Lines.Digest Parts.Schema head.files.schema))) (flat_map (λ d. ended (line_text (Lines.Digest Parts.Import d))) head.files.imports)
    (ended (line_text (Lines.Digest Parts.Data head.files.graph))) (107 ∷ []) (flat_map (λ n. 32 ∷ decimal n) head.strata) (10 ∷ [])
    c.in_ok-push_digest.ensures
    (c.in_ok-push_imports.ensures ∙ ap (λ z. c.push_digest.new.out.items ++ flat_map (λ d. ended (line_text (Lines.Digest Parts.Import d))) z) c.as_slice.ensures)
    c.in_ok-push_digest-2.ensures
    c.in_ok-push.ensures.items
    (c.in_ok-push_separated.ensures ∙ ap (λ z. c.push.new.self.items ++ flat_map (λ n. 32 ∷ decimal n) z) c.as_slice-2.ensures)
    c.in_ok-push-2.ensures.items
    ∙ ap (λ z. c.args.out.now.items ++ z) (head_written head)
