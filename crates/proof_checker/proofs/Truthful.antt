-- What is accepted, by whatever stratification, is true.
use Rattle.std.proofs.Common.{◌≡◌, ℕ, Bool, true, false, List, ap, sym, subst, ◌∙◌}
use Rattle.std.specs.Prelude.{◌↔◌, Contains, Option, Some, None, slice_get, option_map}
use Rattle.rdf_terms.specs.declared.terms.TermId.{TermId}
use Rattle.rdf_terms.specs.declared.terms.Term.{Term}
use Rattle.rdf_terms.specs.declared.terms.Triple.{Triple}
use Rattle.schema_tree.specs.declared.schema.Answer.{Answer}
use Rattle.schema_tree.specs.declared.schema.Pair.{Pair}
use Rattle.schema_tree.specs.declared.schema.Schema.{Schema}
use Rattle.schema_tree.specs.declared.schema.ExprId.{ExprId}
use Rattle.schema_tree.specs.Edges.{IsStratified, IsStratum}
use Rattle.schema_tree.specs.Laws.{AnswersAlike, StrataAreStratified, StrataGiveOneTyping, TypingExists}
use Rattle.schema_tree.specs.Loaded.{IsLoaded}
use Rattle.schema_tree.specs.Satisfies.{Sat}
use Rattle.lists.proofs.Members.{from_map, got_in, in_map}
use Rattle.proof_file.specs.declared.Claim.{Claim}
use Rattle.proof_file.specs.declared.Proof.{Proof}
use Rattle.proof_file.specs.declared.head.Digests.{Digests}
use Rattle.proof_file.specs.declared.head.Head.{Head}
use Rattle.schema_tree.specs.Typings.{HaveSame, HoldsEnds, IsTheTyping}
use Rattle.proof_file.specs.Accepts.{AreNumbers}
use Rattle.proof_file.specs.Laws.{HoldsLines, IsTrueClaim, IsTrueProof, Says, Soundness}
use Rattle.proof_file.specs.Answers.{AreClaimed, answer_with}
use Rattle.proof_checker.specs.Checks.{IsAcceptedFor, IsTrueAnswer, IsTrueAs}
use Rattle.proof_checker.specs.Current.{AreUsed, IsCurrent}

some_is : {X : Type 0} {x y : X} → Some x ≡ Some y → x ≡ y
some_is h = cc

-- each answer is that of a claim
claim_of : (nodes : List TermId) (claims : List Claim) (answers : List Answer) → AreClaimed nodes claims answers → (a : Answer) → Contains answers a →
    (c : Claim) × Contains claims c × (option_map (answer_with c) (slice_get nodes c.node) ≡ Some a)
claim_of nodes claims answers are a h =
    from_map (λ c. option_map (answer_with c) (slice_get nodes c.node)) claims (Some a) (subst (λ xs. Contains xs (Some a)) (sym are) (in_map (λ b. Some b) answers a h))

module _ (s : Schema) (terms : List Term) (nodes : List TermId) (T : List Pair) where
  answer_true : (c : Claim) (a : Answer) → option_map (answer_with c) (slice_get nodes c.node) ≡ Some a → IsTrueClaim s terms nodes T c → IsTrueAnswer s terms T a
  answer_true c a is h =
      subst (λ b. IsTrueAnswer s terms T b) (some_is (sym (ap (λ o. option_map (answer_with c) o) h.is_node) ∙ is))
      (record { expr = h.expr; is_target = h.is_target; says = h.says })

-- the strata that a current proof uses are a stratification
used_stratified : StrataAreStratified → (s : Schema) (files : Digests) (head : Option Head) (f : List ℕ) → IsCurrent s files head → AreUsed s head f → IsStratified s f
used_stratified law s files None f current used = law s f used
used_stratified law s files (Some h) f current used = subst (IsStratified s) (sym used) current.1

-- a node line's number stands in each list that holds the node lines
node_there : (U : List TermId) (terms lines : List Term) (nodes : List TermId) → AreNumbers terms lines nodes → HoldsLines U terms lines →
    (k : ℕ) (n : TermId) → slice_get nodes k ≡ Some n → Contains U n
node_there U terms lines nodes numbers holds k n at =
    let (t, line, is) = from_map (λ t. Some t) lines (slice_get terms n.0)
    (subst (λ xs. Contains xs (slice_get terms n.0)) numbers (in_map (λ i. slice_get terms i.0) nodes n (got_in nodes k n at))) in
    holds n t line (sym is)

-- what is said of a fact is said of one that is the same
says_same : {A B : Type 0} (b : Bool) → (A ↔ B) → Says b B → Says b A
says_same true same h = same.1 h
says_same false same h = λ a. h (same.0 a)

-- what is true of a typing is true of another with the same pairs, and with the same answers for the nodes of some lines
module _ (s : Schema) (terms : List Term) (U : List TermId) (p : Proof) (nodes : List TermId) (numbers : AreNumbers terms p.nodes nodes) (holds : HoldsLines U terms p.nodes)
    (T W : List Pair) (one : HaveSame T W) (both : (n : TermId) (e : ExprId) → Contains U n → Sat s terms T n e ↔ Sat s terms W n e) where
  claim_same : (c : Claim) → IsTrueClaim s terms nodes W c → IsTrueClaim s terms nodes T c
  claim_same c h = record {
    node = h.node;
    is_node = h.is_node;
    expr = h.expr;
    is_target = h.is_target;
    says = says_same c.holds (both h.node h.expr (node_there U terms p.nodes nodes numbers holds c.node h.node h.is_node)) h.says;
  }

  proof_same : IsTrueProof s terms nodes W p → IsTrueProof s terms nodes T p
  proof_same h = record {
    ins = λ q there. one.1 q (h.ins q there);
    outs = λ q there held. h.outs q there (one.0 q.pair held);
    claims = λ c there. claim_same c (h.claims c there);
  }

-- the laws by which what is accepted by one stratification is true of the complete typing by any
pub record AreLaws : Type 0 where
  pub sound : Soundness
  pub stratified : StrataAreStratified
  pub exists : TypingExists
  pub typings : StrataGiveOneTyping
  pub answers : AnswersAlike

module _ (laws : AreLaws) (s : Schema) (files : Digests) (old terms : List Term) (g : List Triple) (bytes : List ℕ) (loaded : IsLoaded s) (answers : List Answer)
    (a : IsAcceptedFor s files old terms g bytes answers) where
  used : IsStratified s a.strata
  used = used_stratified laws.stratified s files a.found.proof.head a.strata a.current a.used

  truth : (f : List ℕ) (U : List TermId) (T : List Pair) → IsStratum s f → HoldsLines U terms a.found.proof.nodes → HoldsEnds U g → IsTheTyping s terms g f U T →
      IsTrueProof s terms a.found.nodes T a.found.proof
  truth f U T own holds ends typing =
      let (W, other) = laws.exists s terms g a.strata U loaded used in
      let least : IsStratified s f = laws.stratified s f own in
      proof_same s terms U a.found.proof a.found.nodes a.found.read.numbers holds T W (laws.typings s terms g f a.strata U T W least used ends typing other)
      (λ n e there. laws.answers s terms g f a.strata U U T W least used ends ends typing other n e there there)
      (laws.sound a.strata s terms g a.found.proof loaded (record { nodes = a.found.nodes; numbers = a.found.read.numbers; items = a.found.accepted }) U holds W other)

  pub true_as : IsTrueAs s old terms g bytes answers
  true_as = record {
    proof = a.found.proof;
    nodes = a.found.nodes;
    read = a.found.read;
    truth = truth;
    replies = λ f U T own holds ends typing b h.
        let (c, there, is) = claim_of a.found.nodes a.found.proof.claims answers a.found.claims b h in
        answer_true s terms a.found.nodes T c b is ((truth f U T own holds ends typing).claims c there);
  }
