use Rattle.schema_tree.proofs.Independent.{same_answers, same_pairs, strata_alike}
use Rattle.schema_tree.proofs.laws.strata_are_alike.Goals as goal

pub returns-clause-pairs : goal.returns-clause-pairs
returns-clause-pairs c = λ s terms g f h U V T W sf sh eu ev a b. same_pairs s terms g f h sf sh U V eu ev T W a b

pub returns-clause-answers : goal.returns-clause-answers
returns-clause-answers c =
    λ s terms g f h U V T W sf sh eu ev a b. same_answers s terms g f h sf sh U V eu ev T W a b

pub returns-clause-typings : goal.returns-clause-typings
returns-clause-typings c = λ s terms g f h U T W sf sh ends. strata_alike s terms g f h sf sh U ends T W
