use Rattle.std.proofs.Common.{◌++◌, ap, subst, ◌∙◌}
use Rattle.std.specs.List.{AllByRecursion, flat_map}
use Rattle.rdf_terms.specs.Values.{IsValue}
use Rattle.schema_tree.specs.Targets.{IsTextTarget}
use Rattle.proof_file.specs.Text.{ended, line_text, lines_text, section_lines, last_line}
use Rattle.proof_file.specs.declared.line.Line.TheVariants as Lines
use Rattle.proof_file.proofs.Joined.{chained, proof_written, proof_unicode}
use Rattle.proof_file.proofs.write.write.Goals as goal

pub returns : goal.returns
returns c =
    let p = c.args.p.now in
    λ feeds. record {
      keeps = c.requires;
      unicode = proof_unicode p (subst (λ z. AllByRecursion IsValue z) c.as_slice.ensures c.in_ok-push_nodes.ensures.texts)
          (subst (λ z. AllByRecursion (λ c. IsTextTarget c.target) z) c.as_slice-3.ensures c.in_ok-push_claims.ensures.texts);
      no_feeds = feeds;
      spelled =
          chained c.in_ok-out.out.items c.push_nodes.new.out.items c.push_sections.new.out.items c.push_claims.new.out.items c.extend_from_slice.new.self.items
          (flat_map (λ t. ended (line_text (Lines.Node t))) p.nodes) (flat_map (λ x. lines_text (section_lines x)) p.sections) (flat_map (λ c. ended (line_text (Lines.Claim c))) p.claims) last_line
          (c.in_ok-push_nodes.ensures.lines ∙ ap (λ z. c.in_ok-out.out.items ++ flat_map (λ t. ended (line_text (Lines.Node t))) z) c.as_slice.ensures)
          (c.in_ok-push_sections.ensures ∙ ap (λ z. c.push_nodes.new.out.items ++ flat_map (λ x. lines_text (section_lines x)) z) c.as_slice-2.ensures)
          (c.in_ok-push_claims.ensures.lines ∙ ap (λ z. c.push_sections.new.out.items ++ flat_map (λ c. ended (line_text (Lines.Claim c))) z) c.as_slice-3.ensures)
          c.in_ok-extend_from_slice.ensures.items
          ∙ ap (λ z. z ++ (flat_map (λ t. ended (line_text (Lines.Node t))) p.nodes ++ (flat_map (λ x. lines_text (section_lines x)) p.sections ++ (flat_map (λ c. ended (line_text (Lines.Claim c))) p.claims ++ last_line)))) c.in_ok-out.ensures
          ∙ proof_written p;
    }
