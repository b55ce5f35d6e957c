-- The answers to what a map asks, as they are decided over what the code holds.
use Rattle.std.proofs.Common.{◌≡◌, ◌≤◌, ap, sym, subst, ℕ, List, length, map, ◌∙◌}
use Rattle.std.specs.List.{AllByRecursion}
use Rattle.std.specs.Prelude.{All, Bool, IfSome, Option, Some, None, is_some, true}
use Rattle.std.specs.Str.{IsUtf8}
use Rattle.shex_io.specs.Files.{Told}
use Rattle.rdf_terms.specs.Tables.{max_terms}
use Rattle.rdf_terms.specs.declared.terms.Term.{Term}
use Rattle.rdf_terms.specs.declared.terms.Triple.{Triple}
use Rattle.graph_index.specs.Contents.{IsSealedWith}
use Rattle.graph_index.specs.Laws.{IsOfTable}
use Rattle.schema_tree.specs.declared.schema.Pair.{Pair}
use Rattle.schema_tree.specs.declared.schema.Schema.{Schema}
use Rattle.schema_tree.specs.Edges.{IsStratum}
use Rattle.schema_tree.specs.Laws.{DecidedByFormIsDecided}
use Rattle.schema_tree.specs.Loaded.{IsLoaded}
use Rattle.schema_tree.specs.Needs.{HoldNeeds}
use Rattle.schema_tree.specs.Removal.{IsRefined}
use Rattle.proof_file.specs.declared.Proof.{Proof}
use Rattle.proof_file.specs.declared.head.Head.{Head}
use Rattle.proof_file.specs.Text.{IsLine, head_lines}
use Rattle.demand.specs.Demand.{AreAsked}
use Rattle.demand.specs.Orders.{max_pairs}
use Rattle.shape_map.specs.declared.resolve.Association.{Association}
use Rattle.shape_map.specs.Results.{result_text}
use Rattle.shape_map.specs.Selection.{max_associations}
use Rattle.data_reader.specs.Documents.{DataHaveLines}
use Rattle.shape_map.specs.Maps.{MapHasLines}
use Rattle.input_names.specs.Laws.{BasesAreLines}
use Rattle.command_words.specs.Asked.{Command}
use Rattle.shex_inputs.specs.declared.holding.Holding.{Holding}
use Rattle.shex_inputs.specs.Asked.{IsAskedOf, Question, root_of}
use Rattle.shex_inputs.specs.Laws.{LabelsHaveLines}
use Rattle.shape_map.specs.Answers.{IsAsked}
use Rattle.typing_answers.specs.Proofs.{HasLines, IsProofOf as Proves}
use Rattle.typing_answers.specs.Replies.{AreReplies}
use Rattle.shex_run.specs.declared.deciding.Decided.{Decided}
use Rattle.shex_run.specs.Ready.{AreOnLines, IsDecided, IsReady, IsReply, IsReplyProof, head_if, head_of}
use Rattle.shex_run.specs.Statuses.{status_of}
use Rattle.shex_run.specs.Stopping.{IsFit}
use Rattle.shex_run.specs.Tasks.{IsToValidate, inputs_of}
use Rattle.shex_run.specs.Texts.{notes_by}
use Rattle.wide_pairs.specs.Wide.{AreWide}
use Rattle.shex_run.proofs.Asked.{asked, ends, few, lines, proved}
use Rattle.shex_run.proofs.Digests.{as_wanted, head_given}

-- what a question holds, as the code holds it
pub record IsHeld (b : Holding) (xs : List Association) (ps : List Pair) (q : Question) : Type 0 where
  pub schema : b.schema ≡ q.held.schema
  pub strata : b.strata ≡ q.held.strata
  pub terms : b.terms ≡ q.terms
  pub graph : b.graph.triples ≡ q.held.graph
  pub associations : xs ≡ q.associations
  pub pairs : ps ≡ q.pairs

-- what is so of the question is so of what the code holds, and the other way round
module _ (b : Holding) (xs : List Association) (pairs : List Pair) (q : Question) (is : IsHeld b xs pairs q)
    (P : Schema → List ℕ → List Term → List Triple → List Association → List Pair → Type 0) where
  pub to_code : P q.held.schema q.held.strata q.terms q.held.graph q.associations q.pairs → P b.schema b.strata b.terms b.graph.triples xs pairs
  to_code h =
      subst (λ s. P s b.strata b.terms b.graph.triples xs pairs) (sym is.schema)
      (subst (λ f. P q.held.schema f b.terms b.graph.triples xs pairs) (sym is.strata)
      (subst (λ ts. P q.held.schema q.held.strata ts b.graph.triples xs pairs) (sym is.terms)
      (subst (λ g. P q.held.schema q.held.strata q.terms g xs pairs) (sym is.graph)
      (subst (λ ys. P q.held.schema q.held.strata q.terms q.held.graph ys pairs) (sym is.associations)
      (subst (λ ps. P q.held.schema q.held.strata q.terms q.held.graph q.associations ps) (sym is.pairs) h)))))

  pub to_question : P b.schema b.strata b.terms b.graph.triples xs pairs → P q.held.schema q.held.strata q.terms q.held.graph q.associations q.pairs
  to_question h =
      subst (λ ps. P q.held.schema q.held.strata q.terms q.held.graph q.associations ps) is.pairs
      (subst (λ ys. P q.held.schema q.held.strata q.terms q.held.graph ys pairs) is.associations
      (subst (λ g. P q.held.schema q.held.strata q.terms g xs pairs) is.graph
      (subst (λ ts. P q.held.schema q.held.strata ts b.graph.triples xs pairs) is.terms
      (subst (λ f. P q.held.schema f b.terms b.graph.triples xs pairs) is.strata
      (subst (λ s. P s b.strata b.terms b.graph.triples xs pairs) is.schema h)))))

module _ (told : Told) (c : Command) (q : Question) (of : IsAskedOf told (inputs_of c) q) (b : Holding) (xs : List Association) (pairs : List Pair) (is : IsHeld b xs pairs q) (fit : IsFit c) where
  code : (P : Schema → List ℕ → List Term → List Triple → List Association → List Pair → Type 0) →
      P q.held.schema q.held.strata q.terms q.held.graph q.associations q.pairs → P b.schema b.strata b.terms b.graph.triples xs pairs
  code P h = to_code b xs pairs q is P h

  of_question : All (IsOfTable b.terms) b.graph.triples → All (IsOfTable q.terms) q.held.graph
  of_question all = to_question b xs pairs q is (λ s f ts g ys ps. All (IsOfTable ts) g) all

  -- the question can be answered over what the code holds
  pub ready : (map_name : List ℕ) (proof_name : Option (List ℕ)) (budget : ℕ) (head : Option Head) → AllByRecursion IsLine (head_lines head) →
      IsToValidate c map_name proof_name budget → IsLoaded b.schema → IsSealedWith b.terms b.graph → All (IsOfTable b.terms) b.graph.triples → HoldNeeds b.schema b.graph.triples pairs →
      IsUtf8 c.schema_base → IsUtf8 c.data_base → DataHaveLines → MapHasLines → BasesAreLines → LabelsHaveLines → IsReady b xs pairs budget head
  ready map_name proof_name budget head headed task loaded sealed all needs one other data_law map_law base_law label_law = record {
    within = (fit.budget map_name proof_name budget task).1;
    loaded = loaded;
    strata = code (λ s f ts g ys ps. IsStratum s f) of.taken.holding.is_schema.strata;
    sealed = sealed;
    of_table = all;
    asked = code (λ s f ts g ys ps. All (IsAsked s ts) ys) (asked told c q of (of_question all));
    few = code (λ s f ts g ys ps. length ys ≤ max_associations) (few told c q of);
    reached = code (λ s f ts g ys ps. AreAsked s ts g (map root_of ys) ps) of.asked;
    needs = needs;
    few_pairs = code (λ s f ts g ys ps. length ps ≤ max_pairs) of.few;
    lines = code (λ s f ts g ys ps. All (HasLines ts) ys) (lines told c q of fit one other data_law map_law base_law label_law);
    headed = headed;
    ends = code (λ s f ts g ys ps. AreOnLines ts g) (ends told c q of fit one other data_law map_law base_law label_law);
  }

  module _ (map_name : List ℕ) (proof_name : Option (List ℕ)) (budget : ℕ) (task : IsToValidate c map_name proof_name budget) (with_proof : Bool)
      (head : Option Head) (of_head : head ≡ head_if with_proof q.held) (d : Decided) (decided : IsDecided b xs pairs budget head d) where
    question : (P : Schema → List ℕ → List Term → List Triple → List Association → List Pair → Type 0) → P b.schema b.strata b.terms b.graph.triples xs pairs →
        P q.held.schema q.held.strata q.terms q.held.graph q.associations q.pairs
    question P h = to_question b xs pairs q is P h

    replies : AreReplies q.held.schema q.terms decided.verdicts q.held.graph budget q.associations decided.answers
    replies = question (λ s f ts g ys ps. AreReplies s ts decided.verdicts g budget ys decided.answers) decided.replies

    reply_proof : length b.terms ≤ max_terms → All (IsOfTable q.held.terms) q.held.graph → DecidedByFormIsDecided → (p : Proof) →
        Proves b.strata b.schema b.terms b.graph.triples pairs budget decided.answers p → p.head ≡ Some (head_of q.held) → IsReplyProof q budget decided.answers p
    reply_proof within of_held law p proves headed = record {
      keeps = proves.keeps;
      no_feeds = proves.no_feeds;
      proves = λ bytes text.
          proved told c q of of_held budget (fit.budget map_name proof_name budget task).0 law decided.verdicts decided.answers replies p
          (question (λ s f ts g ys ps. Proves f s ts g ps budget decided.answers p) proves) bytes text headed (subst (λ ts. length ts ≤ max_terms) is.terms within);
    }

    -- the head of a proof that is there
    given_head : (p : Proof) → true ≡ is_some head → p.head ≡ head → p.head ≡ Some (head_of q.held)
    given_head p there headed = headed ∙ of_head ∙ head_given with_proof q.held (there ∙ ap is_some of_head)

    reply_proofs : length b.terms ≤ max_terms → All (IsOfTable q.held.terms) q.held.graph → DecidedByFormIsDecided → (o : Option Proof) →
        is_some o ≡ is_some head → IfSome o (Proves b.strata b.schema b.terms b.graph.triples pairs budget decided.answers) →
        IfSome o (λ p. p.head ≡ head) → IfSome o (IsReplyProof q budget decided.answers)
    reply_proofs within of_held law None there proves headed = proves
    reply_proofs within of_held law (Some p) there proves headed = reply_proof within of_held law p proves (given_head p there headed)

    pub reply : length b.terms ≤ max_terms → All (IsOfTable q.held.terms) q.held.graph → DecidedByFormIsDecided → IsReply told c budget with_proof d
    reply within of_held law = record {
      question = q;
      answers = decided.answers;
      given = decided.given;
      are_answers = record {
        asked = of;
        verdicts = decided.verdicts;
        refined = question (λ s f ts g ys ps. IsRefined s ts g f ps budget decided.verdicts) decided.refined;
        replies = replies;
      };
      low = decided.low;
      status_is = decided.status_is ∙ ap (λ ys. status_of ys decided.answers) is.associations;
      text_is = decided.text_is ∙ ap (λ ts. result_text ts decided.answers) is.terms;
      wide = decided.wide;
      are_wide = question (λ s f ts g ys ps. AreWide s ts g budget ps decided.wide) decided.are_wide;
      notes_are = decided.notes_are ∙ ap (λ ts. notes_by ts (length xs) budget decided.answers decided.wide) is.terms
          ∙ ap (λ ys. notes_by q.terms (length ys) budget decided.answers decided.wide) is.associations;
      proof = reply_proofs within of_held law d.proof decided.wanted decided.proof decided.headed;
      wanted = decided.wanted ∙ ap is_some of_head ∙ as_wanted with_proof q.held;
    }
