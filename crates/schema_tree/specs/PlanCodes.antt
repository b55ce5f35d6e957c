-- The code of a plain tree of a triple expression, by which a proof tells such trees apart.
use Rattle.std.proofs.Common.{ℕ, ◌≡◌, refl, sym, ap, ◌∙◌}
use Rattle.std.specs.Coded.{Coded}
use base.Stored.{Gv, gnil, gnum, gcons}
use Rattle.tally.specs.declared.Bound.{Bound}
use Rattle.tally.specs.declared.Bound.TheVariants.{Upto, Free}
use Rattle.tally.specs.Plan.{Plan, Plans, sym as symbol, each, one, many, no_plans, more_plans}

-- a maximum
bound_code : Bound → Gv
bound_code (Upto n) = gnum n
bound_code Free = gnil

-- the maximum of its code
bound_from : Gv → Bound
bound_from (gnum n) = Upto n
bound_from _ = Free

bound_back : (b : Bound) → bound_from (bound_code b) ≡ b
unfolding bound_code bound_from
bound_back (Upto n) = refl
bound_back Free = refl

-- the number of a code
number_from : Gv → ℕ
number_from (gnum n) = n
number_from _ = 0

mutual
  -- a tree
  pub plan_code : Plan → Gv
  plan_code (symbol i) = gnum i
  plan_code (each ps) = gcons gnil (plans_code ps)
  plan_code (one ps) = gcons (gnum 0) (plans_code ps)
  plan_code (many min bound p) = gcons (gcons (gnum min) (bound_code bound)) (plan_code p)

  -- its members
  plans_code : Plans → Gv
  plans_code no_plans = gnil
  plans_code (more_plans p ps) = gcons (plan_code p) (plans_code ps)

mutual
  -- the tree of its code
  pub plan_from : Gv → Plan
  plan_from gnil = symbol 0
  plan_from (gnum i) = symbol i
  plan_from (gcons gnil ps) = each (plans_from ps)
  plan_from (gcons (gnum _) ps) = one (plans_from ps)
  plan_from (gcons (gcons min bound) p) = many (number_from min) (bound_from bound) (plan_from p)

  -- the members of theirs
  plans_from : Gv → Plans
  plans_from (gcons p ps) = more_plans (plan_from p) (plans_from ps)
  plans_from _ = no_plans

mutual
  unfolding plan_code plans_code plan_from plans_from number_from

  pub plan_back : (p : Plan) → plan_from (plan_code p) ≡ p
  plan_back (symbol i) = refl
  plan_back (each ps) = ap each (plans_back ps)
  plan_back (one ps) = ap one (plans_back ps)
  plan_back (many min bound p) = λ i. many min (bound_back bound i) (plan_back p i)

  plans_back : (ps : Plans) → plans_from (plans_code ps) ≡ ps
  plans_back no_plans = refl
  plans_back (more_plans p ps) = λ i. more_plans (plan_back p i) (plans_back ps i)

-- trees of one code are one tree
abbrev pub coded_plan : Coded Plan
coded_plan = record { code = plan_code; inj = λ p q same. sym (plan_back p) ∙ ap plan_from same ∙ plan_back q }
