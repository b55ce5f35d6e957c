-- What an edit leaves: pairs that reach no end of the triple, and their verdicts.
use Rattle.std.proofs.Common.{ℕ, inl, inr, List}
use Rattle.std.specs.Prelude.{Contains}
use Rattle.lists.specs.Distinct.{AreDistinct}
use Rattle.locality_laws.specs.Laws.{RefinementIsLocal}
use Rattle.rdf_terms.specs.declared.terms.Term.{Term}
use Rattle.rdf_terms.specs.declared.terms.Triple.{Triple}
use Rattle.schema_tree.specs.declared.schema.Pair.{Pair}
use Rattle.schema_tree.specs.declared.schema.Schema.{Schema}
use Rattle.schema_tree.specs.Laws.{RefinementExists}
use Rattle.schema_tree.specs.Needs.{HoldNeeds, Leads, here, step}
use Rattle.schema_tree.proofs.Decide.{same_terms}
use Rattle.lists.proofs.Decided.{Decided, decide_either}
use Rattle.typing_session.specs.Edits.{IsAtEnd, ReachesEnd}
use Rattle.typing_session.specs.Laws.{IsEdit, ReachIsSame, VerdictsStay}
use Rattle.part_laws.proofs.Alike.{AreAlike, alike_turned, verdict_alike}
use Rattle.typing_session.proofs.Around.{can_match_same, needs_same, within_same}

decide_end : (t : Triple) (p : Pair) → Decided (IsAtEnd t p)
decide_end t p = decide_either (same_terms p.node t.s) (same_terms p.node t.o)

module _ (s : Schema) (more fewer : List Triple) (t : Triple) (edit : IsEdit more t fewer) where
  -- the way to the first end that is met is in both graphs
  to_fewer : (p q : Pair) → Leads s more p q → IsAtEnd t q → ReachesEnd s fewer t p
  to_fewer p q here end = (p, here, end)
  to_fewer p q (step u need rest) end = by (decide_end t p) (to_fewer u q rest end)
    where
      by : Decided (IsAtEnd t p) → ReachesEnd s fewer t u → ReachesEnd s fewer t p
      by (inl is) deeper = (p, here, is)
      by (inr far) (r, leads, at) = (r, step u ((needs_same more fewer t edit p far s u).0 need) leads, at)

  to_more : (p q : Pair) → Leads s fewer p q → IsAtEnd t q → ReachesEnd s more t p
  to_more p q here end = (p, here, end)
  to_more p q (step u need rest) end = by (decide_end t p) (to_more u q rest end)
    where
      by : Decided (IsAtEnd t p) → ReachesEnd s more t u → ReachesEnd s more t p
      by (inl is) deeper = (p, here, is)
      by (inr far) (r, leads, at) = (r, step u ((needs_same more fewer t edit p far s u).1 need) leads, at)

pub reach_same : ReachIsSame
reach_same s more fewer t edit p = (
  (λ (q, leads, end). to_fewer s more fewer t edit p q leads end),
  (λ (q, leads, end). to_more s more fewer t edit p q leads end),
)

module _ (s : Schema) (terms : List Term) (more fewer : List Triple) (t : Triple) (f : List ℕ) (budget : ℕ) (d : AreDistinct more) (e : AreDistinct fewer) (edit : IsEdit more t fewer)
    (pairs : List Pair) (far : (q : Pair) → Contains pairs q → ¬ IsAtEnd t q) where
  alike : AreAlike s terms terms more fewer budget pairs
  alike = record {
    match_alike = λ p c view lean. can_match_same more fewer t edit p (far p c) s terms d e view lean;
    width_alike = λ p c. within_same more fewer t edit p (far p c) s terms d e budget;
  }

  pub closed_fewer : HoldNeeds s more pairs → HoldNeeds s fewer pairs
  closed_fewer h p q c need = h p q c ((needs_same more fewer t edit p (far p c) s q).1 need)

  pub closed_more : HoldNeeds s fewer pairs → HoldNeeds s more pairs
  closed_more h p q c need = h p q c ((needs_same more fewer t edit p (far p c) s q).0 need)

pub verdicts_stay : RefinementExists → RefinementIsLocal → VerdictsStay
verdicts_stay exists local s terms more fewer t f budget loaded d e edit pairs distinct far p held v = (
  (λ closed is. verdict_alike s terms terms more fewer f budget pairs (alike s terms more fewer t f budget d e edit pairs far) exists local loaded distinct closed
      (closed_fewer s terms more fewer t f budget d e edit pairs far closed) p held v is),
  (λ closed is. verdict_alike s terms terms fewer more f budget pairs (alike_turned s terms terms more fewer budget pairs (alike s terms more fewer t f budget d e edit pairs far)) exists local loaded distinct closed
      (closed_more s terms more fewer t f budget d e edit pairs far closed) p held v is),
)
