use Rattle.std.proofs.Common.{◌++◌, ◌∷◌, [], ap, ◌∙◌, codes}
use Rattle.std.specs.Fmt.{decimal}
use Rattle.std.specs.List.{flat_map}
use Rattle.proof_file.specs.Text.{ended, line_text}
use Rattle.proof_file.specs.declared.line.Line.TheVariants as Lines
use Rattle.proof_file.proofs.Joined.{chained, section_written}
use Rattle.proof_file.proofs.write.push_section.Goals as goal

pub returns : goal.returns
returns c =
    chained c.args.out.now.items c.extend_from_slice.new.self.items c.push_number.new.out.items c.push.new.self.items c.push_records.new.out.items
    (codes "s ") (decimal c.args.section.now.stratum) (10 ∷ []) (flat_map (λ r. ended (line_text (Lines.Record r))) c.args.section.now.records)
    c.in_ok-extend_from_slice.ensures.items c.in_ok-push_number.ensures c.in_ok-push.ensures.items
    (c.in_ok-push_records.ensures ∙ ap (λ z. c.push.new.self.items ++ flat_map (λ r. ended (line_text (Lines.Record r))) z) c.as_slice.ensures)
    ∙ ap (λ z. c.args.out.now.items ++ z) (section_written c.args.section.now)
