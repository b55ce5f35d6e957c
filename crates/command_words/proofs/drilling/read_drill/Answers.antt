use Rattle.std.proofs.Common.{◌≡◌, ◌≢◌, [], ◌∙◌, List, ap, map, refl, rules, subst}
use Rattle.std.specs.Prelude.{string_bytes}
use Rattle.clap.specs.Words.{App, Row, app_of, found_of, rows_of}
use Rattle.command_words.specs.Checks.{arguments}
use Rattle.command_words.specs.Commands.{faults, rows}
use Rattle.command_words.specs.Drills.{Drill, IsFoundDrill, IsGivenDrill, drill}
use Rattle.command_words.proofs.Exact.{handed_on}
use Rattle.command_words.proofs.drilling.read_drill.Goals as goal

pub returns-in_err-matches-clause-fault : goal.returns-in_err-matches-clause-fault
returns-in_err-matches-clause-fault c =
    let words = map string_bytes c.args.words.now in
    handed_on (λ f. (f ≡ arguments) × (faults (app_of c.in_ok-command.command) words ≢ [])) (λ f. (f ≡ arguments) × ((d : Drill) → ¬ IsFoundDrill words d))
    c.from_residual-in_err-matches.result c.in_err-matches.field-0.0 c.from_residual-in_err-matches.ensures.1
    (λ f (is, refused). (is, λ d found. refused (ap (λ (a : App). faults a words) c.in_ok-command.ensures ∙ found.taken))) c.in_err-matches.ensures.fault

pub returns-in-None-clause-fault : goal.returns-in-None-clause-fault
returns-in-None-clause-fault c = (
  refl,
  λ d found.
      let same : rows drill (map string_bytes c.args.words.now) ≡ rows_of (found_of c.in_ok-matches.matches) = search rules in
      c.drilling-asked.ensures.missed (search rules) d (subst (λ (seen : List Row). IsGivenDrill seen d) same found.given),
)
