use Rattle.std.proofs.Common.{codes}
use Rattle.std.proofs.lemmas.Result.{on_ok_weaker}
use Rattle.explanation_texts.specs.Reasons.{inner_margin, misfit_line}
use Rattle.explanation_texts.specs.Words.{limited, triple_text}
use Rattle.explanation_texts.proofs.Stepped.{four}
use Rattle.explanation_texts.proofs.setting.Setting.push_unmatched.Goals as goal

pub returns : goal.returns
returns c =
    on_ok_weaker c.push_limited_misfits.result
    (four c.args.out.now.items (codes "  unmatched: ") (triple_text c.args.self.now.terms.now c.args.triple) (codes "\n")
    (limited c.args.self.now.limit inner_margin (misfit_line c.args.self.now c.args.occs.now) c.args.misfits.now) c.extend_from_slice.new.self.items
    c.push_triple.new.out.items c.extend_from_slice-2.new.self.items c.push_limited_misfits.new.out.items c.in_ok-extend_from_slice.ensures.items
    c.in_ok-push_triple.ensures c.in_ok-extend_from_slice-2.ensures.items)
    c.push_limited_misfits.ensures
