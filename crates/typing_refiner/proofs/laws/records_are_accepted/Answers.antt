use Rattle.schema_tree.specs.Edges.{level}
use Rattle.proof_file.specs.Accepts.{no_of, yes_of}
use Rattle.typing_refiner.specs.Records.{known_without}
use Rattle.typing_refiner.proofs.Accepted.{minus_accepted, plus_accepted}
use Rattle.typing_refiner.proofs.Recorded.{ranks_of, records_at, told}
use Rattle.typing_refiner.proofs.Ranked.{as_it_was}
use Rattle.std.proofs.Common.{suc, take}
use Rattle.typing_refiner.proofs.laws.records_are_accepted.Goals as goal

pub returns-clause-kept : goal.returns-clause-kept
returns-clause-kept c = λ x p strat node shape n sh node_is shape_is places least. plus_accepted x p strat node shape n sh node_is shape_is places least

pub returns-clause-gone : goal.returns-clause-gone
returns-clause-gone c = λ x p strat node shape n sh node_is shape_is lower gone are i states listed.
    minus_accepted x p strat node shape n sh node_is shape_is (suc i) (known_without lower (take i gone)) states
    (as_it_was x.strata (level x.strata (record { 0 = shape })) (yes_of x p) (no_of x p) lower gone are.yes_low are.no_low are.ranks i) listed

pub returns-clause-strata : goal.returns-clause-strata
returns-clause-strata c = λ s terms g f pairs budget top known refined.
    let (minus, is) = ranks_of s terms g f pairs budget top known refined in (
      minus,
      is,
      (λ x p are k lt.
          let h = records_at s terms g f pairs budget top known minus is k lt in (h, told s terms g f pairs budget x p known minus k are.0 are.1 are.2 h)),
    )
