use Rattle.std.proofs.Common.{[], subst, sym, ◌++◌, take}
use Rattle.proof_file.specs.Views.{no_pairs, yes_pairs}
use Rattle.proof_checker.specs.Standings.{AreStandings, records_in}
use Rattle.proof_checker.proofs.Noted.{all_sections, next_section, none_noted}
use Rattle.proof_checker.proofs.standings.Standings.of_sections.Goals as goal

pub loop-section-init : goal.loop-section-init
loop-section-init c = subst (λ es. AreStandings [] [] es) (sym c.new-standings.ensures) none_noted

pub loop-section-preserved : goal.loop-section-preserved
loop-section-preserved c =
    let before = records_in (take c.loop-section.section-index c.args.sections.now) in
    next_section c.args.nodes.now c.args.sections.now c.loop-section.section-index c.section-item.result c.loop-section-test.true c.section-item.is c.note_section.new.self
    (subst (λ rs. AreStandings (yes_pairs c.args.nodes.now before ++ yes_pairs c.args.nodes.now rs) (no_pairs c.args.nodes.now before ++ no_pairs c.args.nodes.now rs) c.note_section.new.self)
    c.as_slice.ensures (c.in_ok-note_section.ensures _ _ c.loop-section.invariant))

pub returns : goal.returns
returns c =
    all_sections c.args.nodes.now c.args.sections.now c.loop-section.section-index c.loop-section-test.false c.loop-section.standings c.loop-section.invariant
