-- What answers rest on where a question is ready.
use Rattle.std.proofs.Common.{◌≡◌, ◌<◌, ℕ, List, ap, subst, length, map}
use Rattle.std.specs.Prelude.{Contains, Option, Some, slice_get}
use Rattle.std.proofs.lemmas.List.Elements.{All-contains}
use Rattle.lists.proofs.Members.{from_map, in_map}
use Rattle.graph_index.specs.Laws.{IsOfTable}
use Rattle.rdf_terms.specs.OneLine.{HasOneLine}
use Rattle.rdf_terms.specs.declared.terms.Term.{Term}
use Rattle.rdf_terms.specs.declared.terms.TermId.{TermId}
use Rattle.rdf_terms.specs.declared.terms.Triple.{Triple}
use Rattle.schema_tree.specs.declared.schema.Answer.{Answer}
use Rattle.schema_tree.specs.declared.schema.Pair.{Pair}
use Rattle.schema_tree.specs.Entries.{pair_of}
use Rattle.schema_tree.specs.Needs.{HoldRoots, here}
use Rattle.schema_tree.specs.Removal.{IsRefined}
use Rattle.schema_tree.specs.Sure.{Known}
use Rattle.removal_laws.specs.Marks.{KnowSame}
use Rattle.proof_file.specs.declared.Section.{Section}
use Rattle.proof_file.specs.declared.head.Head.{Head}
use Rattle.shape_map.specs.Answers.{IsAsked}
use Rattle.shape_map.specs.declared.resolve.Association.{Association}
use Rattle.demand.specs.declared.reach.Root.{Root}
use Rattle.typing_refiner.specs.Evidence.{AreAccepted, AreFine, AreShownBy}
use Rattle.typing_answers.specs.Proofs.{AreShownFor, HasLines}
use Rattle.typing_answers.specs.Laws.{SureAnswersAreTrue}
use Rattle.typing_answers.specs.Replies.{AreReplies, AreSureAnswers}
use Rattle.typing_answers.proofs.Knowing.{know_alike}
use Rattle.typing_answers.proofs.Preparing.{asked_fit, shown_for}
use Rattle.shex_inputs.specs.declared.holding.Holding.{Holding}
use Rattle.shex_inputs.specs.Asked.{root_of}
use Rattle.shex_run.specs.Ready.{IsOnLine, IsReady}

module _ (h : Holding) (xs : List Association) (pairs : List Pair) (budget : ℕ) (head : Option Head) (is : IsReady h xs pairs budget head) where
  ends : (t : Triple) → Contains h.graph.triples t → (t.s.0 < length h.terms) × (t.o.0 < length h.terms)
  ends t held = let of : IsOfTable h.terms t = All-contains (IsOfTable h.terms) h.graph.triples t is.of_table held in (of.subject, of.object)

  of_asked : (r : Root) → Contains (map root_of xs) r → (a : Association) × Contains xs a × (a.node ≡ r.node)
  of_asked r c = let (a, held, e) = from_map root_of xs r c in (a, held, ap (λ (z : Root). z.node) e)

  lines_of : (a : Association) → Contains xs a → HasLines h.terms a
  lines_of a c = All-contains (HasLines h.terms) xs a is.lines c

  root_line : (r : Root) → Contains (map root_of xs) r → IsOnLine h.terms r.node
  root_line r c = let (a, held, same) = of_asked r c in subst (λ n. IsOnLine h.terms n) same (λ t at. (lines_of a held).node t at)

  pair_line : (p : Pair) (t : Term) → Contains pairs p → slice_get h.terms p.node.0 ≡ Some t → HasOneLine t
  pair_line p t c at = (asked_fit h.schema h.graph.triples is.loaded (IsOnLine h.terms) is.ends h.terms (map root_of xs) pairs root_line is.reached p c).0 t at

  pub shown : (view : Known) (own : List TermId) (sections : List Section) (answers : List Answer) →
      AreShownBy h.schema h.terms h.graph.triples h.strata pairs budget view own sections → AreFine sections →
      AreAccepted h.schema h.terms h.graph.triples h.strata pairs own sections → AreSureAnswers h.schema h.terms view xs answers →
      AreShownFor h.schema h.terms h.graph.triples h.strata pairs budget view own sections answers
  shown view own sections answers by fine accepted sure =
      let (known, all, removals, same, records) = by in
      shown_for h.schema h.terms h.graph.triples h.strata pairs budget view own sections (map root_of xs) xs answers is.loaded is.strata ends is.reached is.few_pairs of_asked pair_line
      (λ a c. (All-contains (IsAsked h.schema h.terms) xs a is.asked c, lines_of a c)) is.few by records.nodes_rise fine accepted sure

  -- the pairs have those of each association's node with the Shapes of its expression
  roots_held : (a : Association) → Contains xs a → HoldRoots h.schema pairs a.node a.expr
  roots_held a c i sign stands = (is.reached.exactly (pair_of a.node i)).1 (root_of a, in_map root_of xs a c, (i, sign, stands, here))

  pub answered : SureAnswersAreTrue → (view known : Known) → IsRefined h.schema h.terms h.graph.triples h.strata pairs budget known → KnowSame view known →
      (answers : List Answer) → AreSureAnswers h.schema h.terms view xs answers → AreReplies h.schema h.terms known h.graph.triples budget xs answers
  answered law view known refined same answers sure =
      law h.schema h.terms h.graph.triples h.strata pairs budget known view xs answers is.loaded is.strata roots_held is.needs refined (know_alike view known same) sure
