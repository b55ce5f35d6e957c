-- What is sure by the verdicts of refinement is true of the complete typing.
use Rattle.std.proofs.Common.{◌≡◌, sym, refl, ℕ, List, ◌++◌, map, inl, inr, true≢false}
use Rattle.std.specs.Prelude.{Bool, true, false, Contains, IsTrue, ◌↔◌}
use Rattle.lists.proofs.Members.{in_map}
use Rattle.std.proofs.lemmas.List.Elements.{Contains-append_left, Contains-append_right}
use Rattle.rdf_terms.specs.declared.terms.Term.{Term}
use Rattle.rdf_terms.specs.declared.terms.TermId.{TermId}
use Rattle.rdf_terms.specs.declared.terms.Triple.{Triple}
use Rattle.schema_tree.specs.declared.schema.Answer.{Answer}
use Rattle.schema_tree.specs.declared.schema.ExprId.{ExprId}
use Rattle.schema_tree.specs.declared.schema.Pair.{Pair}
use Rattle.schema_tree.specs.declared.schema.Schema.{Schema}
use Rattle.schema_tree.specs.declared.verdicts.Verdict.{Verdict}
use Rattle.schema_tree.specs.declared.verdicts.Verdict.TheVariants.{Yes, No, Unknown}
use Rattle.schema_tree.specs.Edges.{IsStratified, IsStratum}
use Rattle.schema_tree.specs.Laws.{AnswersAlike, DecidedIsSure, OneVerdict, RefinementIsTrue, StrataAreStratified, SureFollowsAnswers, SureIsTrue, TypingExists, WidthIsOne}
use Rattle.schema_tree.specs.Loaded.{IsLoaded}
use Rattle.schema_tree.specs.Needs.{HoldNeeds, HoldRoots, ReachesWide}
use Rattle.schema_tree.specs.Removal.{IsRefined}
use Rattle.schema_tree.specs.Satisfies.{Sat}
use Rattle.schema_tree.specs.Sure.{Agrees, IsSure, Known, PairIs}
use Rattle.schema_tree.specs.Truths.{IsTruth}
use Rattle.schema_tree.specs.Typings.{HoldsEnds}
use Rattle.demand.proofs.Led.{reached_there, reaches_wide}
use Rattle.proof_file.specs.Accepts.{verdict_of}
use Rattle.shape_map.specs.declared.resolve.Association.{Association}
use Rattle.typing_answers.specs.Laws.{SureAnswersAreTrue}
use Rattle.typing_answers.specs.Replies.{AreReplies, AreSureAnswers}
use Rattle.typing_answers.proofs.Given.{given_to}

-- the laws of typings and refinement
pub record AreLaws : Type 0 where
  pub exist : TypingExists
  pub alike : AnswersAlike
  pub stratified : StrataAreStratified
  pub sure : SureIsTrue
  pub follows : SureFollowsAnswers
  pub one : OneVerdict
  pub refined : RefinementIsTrue
  pub decided : DecidedIsSure
  pub widths : WidthIsOne

no_yes : No ≡ Unknown → ⊥
no_yes e = cc

yes_no : Yes ≡ Unknown → ⊥
yes_no e = cc

module _ (laws : AreLaws) (s : Schema) (terms : List Term) (g : List Triple) (f : List ℕ) (pairs : List Pair) (budget : ℕ) (verdicts : Known)
    (loaded : IsLoaded s) (strata : IsStratum s f) (needs : HoldNeeds s g pairs) (refined : IsRefined s terms g f pairs budget verdicts) where
  stratified : IsStratified s f
  stratified = laws.stratified s f strata

  -- the terms of a list, and the nodes of the pairs
  abbrev widened : List TermId → List TermId
  widened U = U ++ map (λ (p : Pair). p.node) pairs

  -- what is sure is so in each complete typing over terms that have the graph's ends and the node
  abbrev says : Bool → Type 0 → Type 0
  says true P = P
  says false P = ¬ P

  sure_says : (n : TermId) (e : ExprId) (holds : Bool) → IsSure s terms verdicts n e (verdict_of holds) → (U : List TermId) (T : List Pair) → Agrees T verdicts → says holds (Sat s terms T n e)
  sure_says n e true sure U T agrees = (laws.sure s terms verdicts T n e agrees).0 sure
  sure_says n e false sure U T agrees = (laws.sure s terms verdicts T n e agrees).1 sure

  as_it_is : (holds : Bool) (P Q : Type 0) → P ↔ Q → says holds Q → (IsTrue holds → P) × (P → IsTrue holds)
  as_it_is true P Q same h = (λ t. same.1 h, λ p. refl)
  as_it_is false P Q same h = (λ t. absurd (true≢false (sym t)), λ p. absurd (h (same.0 p)))

  pub truth : (n : TermId) (e : ExprId) (holds : Bool) → IsSure s terms verdicts n e (verdict_of holds) → IsTruth s terms g n e holds
  truth n e holds sure = record {
    exists = λ U. (let (T, typing) = laws.exist s terms g f U loaded stratified in (f, T, record { strata = strata; complete = typing }));
    exact = λ h U T ends in_u typing.
        let V : List TermId = widened U in
        let (W, whole) = laws.exist s terms g f V loaded stratified in
        let agrees : Agrees W verdicts =
        laws.refined s terms g f V W loaded whole pairs budget (λ p c. Contains-append_right U (map (λ (q : Pair). q.node) pairs) p.node (in_map (λ (q : Pair). q.node) pairs p c)) verdicts refined in
        let ends' : HoldsEnds V g = λ t c. (Contains-append_left U (map (λ (q : Pair). q.node) pairs) _ (ends t c).0, Contains-append_left U (map (λ (q : Pair). q.node) pairs) _ (ends t c).1) in
        let same : Sat s terms T n e ↔ Sat s terms W n e =
        laws.alike s terms g h f U V T W (laws.stratified s h typing.strata) stratified ends ends' typing.complete whole n e in_u (Contains-append_left U (map (λ (q : Pair). q.node) pairs) n in_u) in
        as_it_is holds (Sat s terms T n e) (Sat s terms W n e) same (sure_says n e holds sure V W agrees);
  }

  -- an expression that is Unknown reaches a pair whose Width is above the budget
  unknown_wide : (n : TermId) (e : ExprId) → HoldRoots s pairs n e → IsSure s terms verdicts n e Unknown → ReachesWide s terms g budget n e
  unknown_wide n e roots unsure =
      reaches_wide s loaded g pairs n e (reached_there s g pairs needs n e roots) laws.widths terms budget
      (λ decided. elim (laws.decided s terms g f pairs budget verdicts loaded stratified needs refined n e roots decided) [
        | inl holds ↦ yes_no (laws.one s terms verdicts n e Yes Unknown holds unsure)
        | inr fails ↦ no_yes (laws.one s terms verdicts n e No Unknown fails unsure)
      ])

  pub replies : (view : Known) → ((p : Pair) (v : Verdict) → PairIs view p v ↔ PairIs verdicts p v) → (asked : List Association) (answers : List Answer) →
      ((a : Association) → Contains asked a → HoldRoots s pairs a.node a.expr) →
      AreSureAnswers s terms view asked answers → AreReplies s terms verdicts g budget asked answers
  replies view same asked answers roots sure = given_to asked answers
      (λ a c unsure. (let u = (laws.follows s terms view verdicts loaded same a.node a.expr Unknown).0 unsure in record { unsure = u; wide = unknown_wide a.node a.expr (roots a c) u }))
      (λ a x c h. (let v = (laws.follows s terms view verdicts loaded same a.node a.expr (verdict_of x.holds)).0 h.sure in record { sure = v; answer = record { node = h.node; target = h.target; truth = truth a.node a.expr x.holds v } }))
      sure

pub sure_answers : AreLaws → SureAnswersAreTrue
sure_answers laws s terms g f pairs budget verdicts view asked answers loaded strata roots needs refined same sure =
    replies laws s terms g f pairs budget verdicts loaded strata needs refined view same asked answers roots sure
