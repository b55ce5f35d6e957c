use Rattle.xs_text.proofs.OrderLaws.{order_is_total, order_is_strict, order_is_transitive, order_is_of_values, order_is_decided}
use Rattle.xs_text.proofs.laws.decimals_are_ordered.Goals as goal

pub returns-clause-total : goal.returns-clause-total
returns-clause-total c = order_is_total

pub returns-clause-strict : goal.returns-clause-strict
returns-clause-strict c = order_is_strict

pub returns-clause-transitive : goal.returns-clause-transitive
returns-clause-transitive c = order_is_transitive

pub returns-clause-of_values : goal.returns-clause-of_values
returns-clause-of_values c = order_is_of_values

pub returns-clause-decided : goal.returns-clause-decided
returns-clause-decided c = order_is_decided
