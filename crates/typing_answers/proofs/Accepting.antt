-- The stored proof is accepted.
use Rattle.std.proofs.Common.{◌≡◌, ◌∙◌, ap, sym, subst, refl, ℕ, List, [], ◌∷◌, map}
use Rattle.std.specs.Prelude.{Contains, Some, slice_get, option_map}
use Rattle.std.specs.List.{AllZip, flat_map}
use Rattle.std.proofs.lemmas.Option.{slice_get_within}
use Rattle.lists.proofs.Beside.{beside_back}
use Rattle.lists.proofs.Members.{from_flat_map, from_map}
use Rattle.lists.proofs.Quantifiers.{all_append, all_of}
use Rattle.rdf_terms.specs.declared.terms.Term.{Term}
use Rattle.rdf_terms.specs.declared.terms.TermId.{TermId}
use Rattle.rdf_terms.specs.declared.terms.Triple.{Triple}
use Rattle.schema_tree.specs.declared.schema.Answer.{Answer}
use Rattle.schema_tree.specs.declared.schema.Schema.{Schema}
use Rattle.schema_tree.specs.Laws.{SureFollowsAnswers}
use Rattle.schema_tree.specs.Loaded.{IsLoaded, IsTarget}
use Rattle.schema_tree.specs.Sure.{IsSure, Known}
use Rattle.proof_file.specs.Accepts.{AreAccepted, IsAccepted, Item, PassesClaim, Setting, in_section, is_claim, no_of, setting_of, verdict_of, yes_of}
use Rattle.proof_file.specs.Answers.{AreClaimed, answer_with}
use Rattle.proof_file.specs.Views.{whole_view}
use Rattle.proof_file.specs.declared.Claim.{Claim}
use Rattle.proof_file.specs.declared.Proof.{Proof}
use Rattle.proof_file.specs.declared.Record.{Record}
use Rattle.proof_file.specs.declared.Section.{Section}
use Rattle.removal_laws.specs.Marks.{KnowSame}
use Rattle.typing_refiner.specs.Evidence.{IsListed}
use Rattle.typing_answers.specs.Numbering.{IsClaimOf}
use Rattle.typing_answers.specs.Proofs.{CanBeClaimed}
use Rattle.typing_answers.proofs.Knowing.{know_alike}

-- the claims give the answers
claim_gives : (nodes : List TermId) (x : Answer) (c : Claim) → IsClaimOf nodes x c → option_map (answer_with c) (slice_get nodes c.node) ≡ Some x
claim_gives nodes x c claim =
    ap (option_map (answer_with c)) claim.node ∙ ap (λ (y : Answer). Some y) (λ i. record { node = x.node; target = claim.target i; holds = claim.holds i })

pub claims_give : (nodes : List TermId) (answers : List Answer) (claims : List Claim) → AllZip (IsClaimOf nodes) answers claims → AreClaimed nodes claims answers
claims_give nodes [] [] h = refl
claims_give nodes [] (c ∷ claims) h = absurd h
claims_give nodes (x ∷ answers) [] h = absurd h
claims_give nodes (x ∷ answers) (c ∷ claims) h = λ i. claim_gives nodes x c h.0 i ∷ claims_give nodes answers claims h.1 i

module _ (f : List ℕ) (s : Schema) (terms : List Term) (g : List Triple) (nodes : List TermId) (p : Proof) (verdicts : Known)
    (loaded : IsLoaded s) (law : SureFollowsAnswers) (knows : KnowSame verdicts (whole_view (yes_of (setting_of f s terms g nodes) p) (no_of (setting_of f s terms g nodes) p))) where
  abbrev setting : Setting
  setting = setting_of f s terms g nodes

  abbrev whole : Known
  whole = whole_view (yes_of setting p) (no_of setting p)

  claim_passes : (x : Answer) (c : Claim) → CanBeClaimed s terms verdicts x → IsClaimOf nodes x c → IsAccepted setting p (is_claim c)
  claim_passes x c can claim = (
    slice_get_within nodes c.node x.node claim.node,
    (subst (λ m. PassesClaim setting p c m) (sym claim.node) (can.expr, subst (λ t. IsTarget s t can.expr) (sym claim.target) can.is_target, sure), tt),
  )
    where
      own : IsSure s terms whole x.node can.expr (verdict_of x.holds)
      own = (law s terms verdicts whole loaded (know_alike verdicts whole knows) x.node can.expr (verdict_of x.holds)).0 can.sure

      sure : IsSure s terms whole x.node can.expr (verdict_of c.holds)
      sure = subst (λ b. IsSure s terms whole x.node can.expr (verdict_of b)) (sym claim.holds) own

  pub are_accepted : (answers : List Answer) → ((k : ℕ) (r : Record) → IsListed p.sections k r → IsAccepted setting p (in_section k r)) →
      ((x : Answer) → Contains answers x → CanBeClaimed s terms verdicts x) →
      AllZip (IsClaimOf nodes) answers p.claims → AreAccepted setting p
  are_accepted answers records can claimed =
      all_append (IsAccepted setting p) (flat_map (λ (x : Section). map (λ (r : Record). in_section x.stratum r) x.records) p.sections) (map (λ c. is_claim c) p.claims)
      (all_of (IsAccepted setting p) (flat_map (λ (x : Section). map (λ (r : Record). in_section x.stratum r) x.records) p.sections) of_record)
      (all_of (IsAccepted setting p) (map (λ c. is_claim c) p.claims) of_claim)
    where
      of_record : (item : Item) → Contains (flat_map (λ (x : Section). map (λ (r : Record). in_section x.stratum r) x.records) p.sections) item → IsAccepted setting p item
      of_record item held =
          let (x, among, here) = from_flat_map (λ (x : Section). map (λ (r : Record). in_section x.stratum r) x.records) p.sections item held in
          let (r, in_x, is) = from_map (λ (r : Record). in_section x.stratum r) x.records item here in
          subst (IsAccepted setting p) is (records x.stratum r (x, among, refl, in_x))

      of_claim : (item : Item) → Contains (map (λ c. is_claim c) p.claims) item → IsAccepted setting p item
      of_claim item held =
          let (c, among, is) = from_map (λ (c : Claim). is_claim c) p.claims item held in
          let (x, in_answers, claim) = beside_back (IsClaimOf nodes) answers p.claims claimed c among in
          subst (IsAccepted setting p) is (claim_passes x c (can x in_answers) claim)
