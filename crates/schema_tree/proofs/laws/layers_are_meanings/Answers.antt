use Rattle.std.proofs.Common.{suc, arith}
use Rattle.schema_tree.proofs.Fuel.{sat_fuel, sat_layer, sure_alike, sure_fuel, sure_layer}
use Rattle.schema_tree.proofs.laws.layers_are_meanings.Goals as goal

pub returns-clause-layer : goal.returns-clause-layer
returns-clause-layer c = λ s terms T n e loaded. sat_layer s terms loaded T n e

pub returns-clause-bound : goal.returns-clause-bound
returns-clause-bound c = λ s terms T n e k m loaded. sat_fuel s terms loaded T n k m e

pub returns-clause-sure_layer : goal.returns-clause-sure_layer
returns-clause-sure_layer c = λ s terms view n e v loaded. sure_layer s terms loaded view n e v

pub returns-clause-sure_bound : goal.returns-clause-sure_bound
returns-clause-sure_bound c =
    λ s terms view n e v k m loaded above over. sure_fuel s terms loaded view n k m e above over v

pub returns-clause-sure_answers : goal.returns-clause-sure_answers
returns-clause-sure_answers c =
    λ s terms view other loaded same n e v. sure_alike s terms loaded view other same n (suc e.0) (suc e.0) e (omega arith) (omega arith) v
