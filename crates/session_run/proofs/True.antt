-- What a question is answered with is true of the complete typing.
use Rattle.std.proofs.Common.{◌≡◌, ℕ, true, false, true≢false, List, Contains, ◌↔◌, refl, sym}
use Rattle.rdf_terms.specs.declared.terms.Term.{Term}
use Rattle.rdf_terms.specs.declared.terms.TermId.{TermId}
use Rattle.rdf_terms.specs.declared.terms.Triple.{Triple}
use Rattle.schema_tree.specs.declared.schema.ExprId.{ExprId}
use Rattle.schema_tree.specs.declared.schema.Pair.{Pair}
use Rattle.schema_tree.specs.declared.schema.Schema.{Schema}
use Rattle.schema_tree.specs.declared.verdicts.Verdict.{Verdict}
use Rattle.schema_tree.specs.declared.verdicts.Verdict.TheVariants.{No, Yes}
use Rattle.schema_tree.specs.Edges.{IsStratum}
use Rattle.schema_tree.specs.Laws.{AnswersAlike, StrataAreStratified, TypingExists}
use Rattle.schema_tree.specs.Loaded.{IsLoaded}
use Rattle.schema_tree.specs.Satisfies.{Sat}
use Rattle.schema_tree.specs.Truths.{IsTruth, IsTypingOf}
use Rattle.schema_tree.specs.Typings.{HoldsEnds, IsTheTyping}
use Rattle.typing_session.specs.Questions.{IsTrueAnswer}

-- the laws of typings
pub record AreLaws : Type 0 where
  pub exist : TypingExists
  pub alike : AnswersAlike
  pub stratified : StrataAreStratified

module _ (laws : AreLaws) (s : Schema) (terms : List Term) (g : List Triple) (f : List ℕ) (loaded : IsLoaded s) (strata : IsStratum s f) (n : TermId) (e : ExprId) where
  exists : (U : List TermId) → (h : List ℕ) × (T : List Pair) × IsTypingOf s terms g h U T
  exists U = let (T, typing) = laws.exist s terms g f U loaded (laws.stratified s f strata) in (f, T, record { strata = strata; complete = typing })

  -- by the strata of the session there is a typing over the same terms, with the same answer
  alike : (h : List ℕ) (U : List TermId) (T : List Pair) → HoldsEnds U g → Contains U n → IsTypingOf s terms g h U T
      → (W : List Pair) × IsTheTyping s terms g f U W × (Sat s terms T n e ↔ Sat s terms W n e)
  alike h U T ends there typing =
      let (W, whole) = laws.exist s terms g f U loaded (laws.stratified s f strata) in
      (W, whole, laws.alike s terms g h f U U T W (laws.stratified s h typing.strata) (laws.stratified s f strata) ends ends typing.complete whole n e there there)

  pub satisfied : (v : Verdict) → IsTrueAnswer s terms g f n e v → v ≡ Yes → IsTruth s terms g n e true
  satisfied v is said = record {
    exists = exists;
    exact = λ h U T ends there typing. let (W, whole, same) = alike h U T ends there typing in (λ t. same.1 ((is U W whole ends there).0 said), λ sat. refl);
  }

  pub unsatisfied : (v : Verdict) → IsTrueAnswer s terms g f n e v → v ≡ No → IsTruth s terms g n e false
  unsatisfied v is said = record {
    exists = exists;
    exact = λ h U T ends there typing. let (W, whole, same) = alike h U T ends there typing in (λ t. absurd (true≢false (sym t)), λ sat. absurd ((is U W whole ends there).1 said (same.0 sat)));
  }
