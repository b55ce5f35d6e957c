use Rattle.std.proofs.Common.{◌∙◌, rules, tests}
use Rattle.std.proofs.lemmas.Iterator.{YieldsList-from_slice}
use Rattle.std.proofs.lemmas.Iterator.Search.{any_from_yields_List}
use Rattle.rdf_cursor.specs.Symbols.{same_symbol}
use Rattle.shexc_constraints.proofs.Listed.{any_is_one}
use Rattle.shexc_constraints.proofs.tokens.is_one_of.Goals as goal

pub returns : goal.returns
returns c =
    any_from_yields_List (same_symbol c.args.symbol) c.any.new.self _ _ c.any.ensures.ran (YieldsList-from_slice c.args.symbols.now cc) (λ x b q k. search (rules, tests))
    ∙ any_is_one c.args.symbol c.args.symbols.now
