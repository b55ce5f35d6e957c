use Rattle.tally.proofs.Parted.{copies_deal, deal_copies}
use Rattle.tally.proofs.laws.copies_are_deals.Goals as goal

pub returns : goal.returns
returns c = λ p symbols counts k distinct sound have. (
  copies_deal p symbols counts k distinct sound have,
  deal_copies p symbols counts k distinct have,
)
