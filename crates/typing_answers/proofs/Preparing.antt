-- What a caller shows before it has answers proved.
use Rattle.std.proofs.Common.{◌≡◌, ◌∙◌, ap, sym, subst, refl, ℕ, Bool, true, false, List, [], ◌∷◌, map, length, ◌<◌, ◌≤◌, arith, inl, inr}
use Rattle.std.specs.Prelude.{Contains, Option, Some, None, slice_get}
use Rattle.std.proofs.lemmas.List.{length-map}
use Rattle.std.proofs.lemmas.Option.{slice_get_within}
use Rattle.lists.proofs.Among.{few_among}
use Rattle.lists.proofs.Members.{in_map, in_rest, is_first, is_later}
use Rattle.rdf_terms.specs.declared.terms.Term.{Term}
use Rattle.rdf_terms.specs.declared.terms.TermId.{TermId}
use Rattle.rdf_terms.specs.declared.terms.Triple.{Triple}
use Rattle.rdf_terms.proofs.Orders.{nodes_once}
use Rattle.schema_tree.specs.declared.schema.Answer.{Answer}
use Rattle.schema_tree.specs.declared.schema.ExprId.{ExprId}
use Rattle.schema_tree.specs.declared.schema.Pair.{Pair}
use Rattle.schema_tree.specs.declared.schema.Schema.{Schema}
use Rattle.schema_tree.specs.declared.schema.ShapeId.{ShapeId}
use Rattle.schema_tree.specs.Edges.{IsStratum, StandsInValue}
use Rattle.schema_tree.specs.Loaded.{IsLoaded, IsTarget}
use Rattle.schema_tree.specs.Matches.{other_end}
use Rattle.schema_tree.specs.Needs.{Leads, Reaches, here, step}
use Rattle.schema_tree.specs.Sure.{IsSure, Known}
use Rattle.proof_file.specs.Accepts.{verdict_of}
use Rattle.proof_file.specs.declared.Section.{Section}
use Rattle.schema_tree.specs.Targets.{target_text}
use Rattle.shape_map.specs.Answers.{IsAsked}
use Rattle.shape_map.specs.declared.resolve.Association.{Association}
use Rattle.schema_tree.proofs.Strata.{stands_there}
use Rattle.demand.specs.Demand.{AreAsked}
use Rattle.demand.specs.Orders.{max_pairs}
use Rattle.demand.specs.declared.reach.Root.{Root}
use Rattle.rdf_terms.specs.OneLine.{HasOneLine}
use Rattle.shape_map.specs.Selection.{max_associations}
use Rattle.proof_file.specs.Text.{IsKind}
use Rattle.proof_file.specs.declared.Record.{Record}
use Rattle.rdf_terms.specs.Order.{compare_at}
use Rattle.std.specs.List.Sorted.{IsStrictlySortedBy}
use Rattle.typing_refiner.specs.Evidence.{AreShownBy, IsListed}
use Rattle.typing_refiner.specs.Evidence.{AreAccepted as AcceptsAll}
use Rattle.typing_answers.specs.Proofs.{AreInRange, AreShownFor, CanBeClaimed, HasLines}
use Rattle.typing_answers.specs.Replies.{AreSureAnswers, IsSureAnswer, given, left, none}
use Rattle.typing_answers.proofs.Proving.{is_record, of_pair}

-- ---- what is shown is in range

pub in_range : (s : Schema) (terms : List Term) (g : List Triple) (f : List ℕ) (pairs : List Pair) (budget : ℕ) (verdicts : Known) (own : List TermId) (sections : List Section)
    (answers : List Answer) →
    AreShownFor s terms g f pairs budget verdicts own sections answers → AreInRange terms own sections answers
in_range s terms g f pairs budget verdicts own sections answers h = record {
  counted = λ x r c d. (let of = is_record s terms g f pairs budget verdicts own sections answers h x.stratum r (x, c, refl, d) in slice_get_within own r.node of.pair.node of.of.0);
  recorded = λ n c. (let (p, asked, same) = of_pair s terms g f pairs budget verdicts own sections answers h n c in subst (λ (m : TermId). m.0 < length terms) same (h.table p asked));
  answered = λ x c. (h.claims x c).node;
  few_nodes = (
      let few = few_among own (map (λ (p : Pair). p.node) pairs) (λ i j n p q. nodes_once terms own h.sorted i j n p q)
      (λ n c. (let (p, asked, same) = of_pair s terms g f pairs budget verdicts own sections answers h n c in subst (Contains (map (λ (q : Pair). q.node) pairs)) same (in_map (λ (q : Pair). q.node) pairs p asked))) in
      omega (arith, few, length-map pairs (λ (p : Pair). p.node), h.few_pairs)
      );
  few_answers = h.few_answers;
}

-- ---- sure answers to associations can be claimed

module _ (s : Schema) (terms : List Term) (verdicts : Known) where
  claimed : (a : Association) (x : Answer) → IsAsked s terms a → HasLines terms a → IsSureAnswer s terms verdicts a x → CanBeClaimed s terms verdicts x
  claimed a x asked lines reply = record {
    node = subst (λ (n : TermId). n.0 < length terms) (sym reply.node) asked.node;
    line = λ t at. lines.node t (ap (λ (n : TermId). slice_get terms n.0) (sym reply.node) ∙ at);
    clean = subst (λ t. ¬ Contains (target_text t) 10) (sym reply.target) lines.target;
    expr = a.expr;
    is_target = subst (λ t. IsTarget s t a.expr) (sym reply.target) asked.is_target;
    sure = subst (λ (n : TermId). IsSure s terms verdicts n a.expr (verdict_of x.holds)) (sym reply.node) reply.sure;
  }

  pub can_be_claimed : (asked : List Association) (answers : List Answer) → ((a : Association) → Contains asked a → IsAsked s terms a × HasLines terms a) →
      AreSureAnswers s terms verdicts asked answers → (x : Answer) → Contains answers x → CanBeClaimed s terms verdicts x
  can_be_claimed [] [] fine none x c = absurd (omega (arith, c.1))
  can_be_claimed [] (y ∷ answers) fine k x c = elim k [ ]
  can_be_claimed (a ∷ asked) answers fine (left u more) x c = can_be_claimed asked answers (λ b held. fine b (is_later a asked b held)) more x c
  can_be_claimed (a ∷ asked) (y ∷ answers) fine (given sure more) x c = elim (in_rest y answers x c) [
    | inl same ↦ subst (CanBeClaimed s terms verdicts) same (claimed a y (fine a (is_first a asked)).0 (fine a (is_first a asked)).1 sure)
    | inr later ↦ can_be_claimed asked answers (λ b held. fine b (is_later a asked b held)) more x later
  ]

  pub no_more : (asked : List Association) (answers : List Answer) → AreSureAnswers s terms verdicts asked answers → length answers ≤ length asked
  no_more [] [] none = omega arith
  no_more [] (y ∷ answers) k = elim k [ ]
  no_more (a ∷ asked) answers (left u more) = let less = no_more asked answers more in omega (arith, less)
  no_more (a ∷ asked) (y ∷ answers) (given sure more) = let less = no_more asked answers more in omega (arith, less)

-- ---- the pairs that a node with an expression reaches

module _ (s : Schema) (g : List Triple) (loaded : IsLoaded s) where
  in_value : (i : ShapeId) (value : Option ExprId) (sign : Bool) → StandsInValue s i value sign → i.0 < length s.shapes
  in_value i None sign h = absurd h
  in_value i (Some e) sign h = stands_there s loaded i e sign h

  end_is : (P : TermId → Type 0) → ((t : Triple) → Contains g t → P t.s × P t.o) → (inverse : Bool) (t : Triple) → Contains g t → P (other_end inverse t)
  end_is P ends false t c = (ends t c).1
  end_is P ends true t c = (ends t c).0

  module _ (P : TermId → Type 0) (ends : (t : Triple) → Contains g t → P t.s × P t.o) where
    abbrev Fine : Pair → Type 0
    Fine p = P p.node × (p.shape.0 < length s.shapes)

    leads_to : (p q : Pair) → Fine p → Leads s g p q → Fine q
    leads_to p q fine here = fine
    leads_to p q fine (step r needs more) =
        leads_to r q (subst P (sym needs.end) (end_is P ends needs.occ.inverse needs.triple needs.held), in_value r.shape needs.occ.value needs.sign needs.stands) more

    -- is on the node, or on an end of a triple, and has a Shape of the schema
    pub reached : (n : TermId) (e : ExprId) (q : Pair) → P n → Reaches s g n e q → P q.node × (q.shape.0 < length s.shapes)
    reached n e q fine (i, sign, stands, leads) = leads_to (record { node = n; shape = i }) q (fine, stands_there s loaded i e sign stands) leads

    -- each pair that is asked for is on such a node, and has a Shape of the schema
    pub asked_fit : (terms : List Term) (roots : List Root) (pairs : List Pair) → ((r : Root) → Contains roots r → P r.node) → AreAsked s terms g roots pairs →
        (p : Pair) → Contains pairs p → P p.node × (p.shape.0 < length s.shapes)
    asked_fit terms roots pairs fine asked p c = let (r, held, reaches) = (asked.exactly p).0 c in reached r.node r.expr p (fine r held) reaches

-- ---- what answers rest on

pub shown_for : (s : Schema) (terms : List Term) (g : List Triple) (f : List ℕ) (pairs : List Pair) (budget : ℕ) (verdicts : Known) (own : List TermId) (sections : List Section) (roots : List Root)
    (asked : List Association) (answers : List Answer) →
    IsLoaded s → IsStratum s f → ((t : Triple) → Contains g t → (t.s.0 < length terms) × (t.o.0 < length terms)) → AreAsked s terms g roots pairs → length pairs ≤ max_pairs →
    ((r : Root) → Contains roots r → (a : Association) × Contains asked a × (a.node ≡ r.node)) → ((p : Pair) (t : Term) → Contains pairs p → slice_get terms p.node.0 ≡ Some t → HasOneLine t) →
    ((a : Association) → Contains asked a → IsAsked s terms a × HasLines terms a) → length asked ≤ max_associations →
    AreShownBy s terms g f pairs budget verdicts own sections → IsStrictlySortedBy (compare_at terms) own →
    ((k : ℕ) (r : Record) → IsListed sections k r → IsKind r.kind) → AcceptsAll s terms g f pairs own sections → AreSureAnswers s terms verdicts asked answers →
    AreShownFor s terms g f pairs budget verdicts own sections answers
shown_for s terms g f pairs budget verdicts own sections roots asked answers loaded strata ends are few_pairs of_asked lines fine few shown sorted kinds records sure =
    let fit : (p : Pair) → Contains pairs p → (p.node.0 < length terms) × (p.shape.0 < length s.shapes) =
    asked_fit s g loaded (λ n. n.0 < length terms) ends terms roots pairs (λ r c. (let (a, held, same) = of_asked r c in subst (λ (n : TermId). n.0 < length terms) same (fine a held).0.node)) are in
    let no_longer : length answers ≤ length asked = no_more s terms verdicts asked answers sure in
    record {
      loaded = loaded;
      strata = strata;
      shapes = λ p c. (fit p c).1;
      table = λ p c. (fit p c).0;
      lines = lines;
      few_pairs = few_pairs;
      shown = shown;
      sorted = sorted;
      kinds = kinds;
      records = records;
      claims = can_be_claimed s terms verdicts asked answers fine sure;
      few_answers = omega (arith, no_longer, few);
    }
