-- A pair that reaches no end of a triple has the same verdict with the triple and without, whatever else is refined.
use Rattle.std.proofs.Common.{◌≡◌, ℕ, List, refl, sym, subst, ap, ◌∙◌, Bool, true, false, true≢false}
use Rattle.std.specs.Prelude.{Contains}
use Rattle.lists.specs.Distinct.{AreDistinct}
use Rattle.locality_laws.specs.Laws.{RefinementIsLocal}
use Rattle.locality_laws.specs.Local.{IsVerdict}
use Rattle.locality_laws.proofs.Alike.{one_verdict, some_verdict}
use Rattle.rdf_terms.specs.declared.terms.Term.{Term}
use Rattle.rdf_terms.specs.declared.terms.Triple.{Triple}
use Rattle.removal_laws.specs.Marks.{same_verdict}
use Rattle.removal_laws.proofs.Verdicts.{verdict_is, verdict_same}
use Rattle.schema_tree.specs.declared.schema.Pair.{Pair}
use Rattle.schema_tree.specs.declared.schema.Schema.{Schema}
use Rattle.schema_tree.specs.declared.verdicts.Verdict.{Verdict}
use Rattle.schema_tree.specs.Laws.{RefinementExists}
use Rattle.schema_tree.specs.Needs.{HoldNeeds, Leads, here}
use Rattle.schema_tree.specs.Sure.{PairIs}
use Rattle.typing_session.specs.Edits.{IsAtEnd, ReachesEnd}
use Rattle.typing_session.specs.Laws.{VerdictIsSame}
use Rattle.typing_session.proofs.Asked.{leads_on}
use Rattle.typing_session.proofs.Edited.{closed_fewer, closed_more, reach_same, verdicts_stay}
use Rattle.typing_session.proofs.Sifting.{Sifted, not_not_sifted}

module _ (s : Schema) (terms : List Term) (g h : List Triple) (t : Triple) (f : List ℕ) (budget : ℕ) (p : Pair) (v : Verdict) (away : ¬ ReachesEnd s h t p)
    (stay : (pairs : List Pair) → AreDistinct pairs → ((q : Pair) → Contains pairs q → ¬ IsAtEnd t q) → HoldNeeds s h pairs → Contains pairs p →
    IsVerdict s terms g f budget p v → IsVerdict s terms h f budget p v) where
  carried : IsVerdict s terms g f budget p v → IsVerdict s terms h f budget p v
  carried is all whole distinct closed held refined =
      let (w, said) = some_verdict whole p in
      by w said (same_verdict v w) refl
    where
      sifted : Sifted (Leads s h p) all → PairIs whole p v
      sifted r =
          stay r.items r.distinct (λ q c end. away (q, ((r.same q).0 c).1, end))
          (λ q u c need. (let (there, leads) = (r.same q).0 c in (r.same u).1 (closed q u there need, leads_on s h p q u leads need)))
          ((r.same p).1 (held, here)) is all whole distinct closed held refined

      by : (w : Verdict) → PairIs whole p w → (b : Bool) → same_verdict v w ≡ b → PairIs whole p v
      by w said true e = subst (λ z. PairIs whole p z) (sym (verdict_is v w e)) said
      by w said false e =
          absurd (not_not_sifted (Leads s h p) all distinct (λ r.
          true≢false (sym (verdict_same v) ∙ ap (same_verdict v) (one_verdict whole p v w (sifted r) said) ∙ e)))

pub verdict_same_by_all : RefinementExists → RefinementIsLocal → VerdictIsSame
verdict_same_by_all exists local s terms more fewer t f budget loaded d e edit p away v = (
  carried s terms more fewer t f budget p v (λ r. away ((reach_same s more fewer t edit p).1 r))
      (λ pairs distinct far closed held is. (verdicts_stay exists local s terms more fewer t f budget loaded d e edit pairs distinct far p held v).0
      (closed_more s terms more fewer t f budget d e edit pairs far closed) is),
  carried s terms fewer more t f budget p v away
      (λ pairs distinct far closed held is. (verdicts_stay exists local s terms more fewer t f budget loaded d e edit pairs distinct far p held v).1
      (closed_fewer s terms more fewer t f budget d e edit pairs far closed) is),
)
