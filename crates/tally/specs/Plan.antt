-- An expression over counts as a plain tree, with lists of children.
use Rattle.std.specs.Prelude.{ℕ, Bool, false, List, [], ◌∷◌, ◌&&◌, map, nat_eq}
use Rattle.tally.specs.declared.Bound.{Bound}
use Rattle.tally.specs.declared.Bound.TheVariants.{Free, Upto}
use Rattle.tally.specs.declared.Count.{Count}
use Rattle.tally.specs.declared.Count.TheOpen.{Count-F, Sym, Each, One, Many}
use Rattle.tally.specs.declared.Count.TheFolds.{fold-Count}

mutual
  -- a triple expression (ShEx 2.1 section 5.5): a triple constraint, an EachOf, a OneOf, or one with a cardinality
  pub data Plan : Type 0 where
    sym : ℕ → Plan
    each : Plans → Plan
    one : Plans → Plan
    many : ℕ → Bound → Plan → Plan

  -- the members of an EachOf or a OneOf
  pub data Plans : Type 0 where
    no_plans : Plans
    more_plans : Plan → Plans → Plans

-- the cardinality is once and no more
abbrev pub is_once : ℕ → Bound → Bool
is_once min (Upto max) = nat_eq min 1 && nat_eq max 1
is_once min Free = false

-- a list of plans as the members of one
abbrev pub row : List Plan → Plans
row [] = no_plans
row (p ∷ ps) = more_plans p (row ps)

-- one layer, with the plan of each child in its place
abbrev pub plan_step : Count-F Plan → Plan
plan_step (Sym i) = sym i
plan_step (Each all) = each (row all.items)
plan_step (One all) = one (row all.items)
plan_step (Many min bound c) = many min bound c.value

-- the expression as a plain tree
abbrev pub plan_of : Count → Plan
plan_of = fold-Count Plan plan_step

-- a list of expressions as members
abbrev pub plans_of : List Count → Plans
plans_of cs = row (map plan_of cs)
