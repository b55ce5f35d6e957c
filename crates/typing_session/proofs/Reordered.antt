-- The answer to a question is that of the graph as a set.
use Rattle.std.proofs.Common.{◌∙◌, ℕ, List}
use Rattle.std.specs.Prelude.{◌↔◌, Contains}
use Rattle.demand.specs.Demand.{AreAsked, IsAsked}
use Rattle.lists.specs.Distinct.{AreDistinct}
use Rattle.rdf_terms.specs.declared.terms.Term.{Term}
use Rattle.rdf_terms.specs.declared.terms.TermId.{TermId}
use Rattle.rdf_terms.specs.declared.terms.Triple.{Triple}
use Rattle.schema_tree.specs.declared.schema.ExprId.{ExprId}
use Rattle.schema_tree.specs.declared.schema.Pair.{Pair}
use Rattle.schema_tree.specs.declared.schema.Schema.{Schema}
use Rattle.schema_tree.specs.declared.verdicts.Lean.{Lean}
use Rattle.schema_tree.specs.Entries.{shape_at}
use Rattle.schema_tree.specs.Needs.{Leads, Needs, here, step}
use Rattle.schema_tree.specs.Places.{PairCanMatch}
use Rattle.schema_tree.specs.Sure.{Known}
use Rattle.schema_tree.specs.Width.{IsWithinWidth}
use Rattle.typing_session.specs.Questions.{ReachesTooMany, root_of}
use Rattle.typing_session.specs.SetLaws.{AnswersAreOfSets, ReachIsOfSets}
use Rattle.part_laws.proofs.Alike.{AreAlike, refined_alike}
use Rattle.part_laws.proofs.Near.{match_same, width_same}

-- ---- what is reached

module _ (s : Schema) (g h : List Triple) (into : (t : Triple) → Contains g t → Contains h t) where
  needs_into : (p q : Pair) → Needs s g p q → Needs s h p q
  needs_into p q n = record { shape = n.shape; is = n.is; occ = n.occ; of = n.of; triple = n.triple; held = into n.triple n.held; fit = n.fit; end = n.end; sign = n.sign; stands = n.stands }

  leads_into : (p q : Pair) → Leads s g p q → Leads s h p q
  leads_into p q here = here
  leads_into p q (step u need rest) = step u (needs_into p u need) (leads_into u q rest)

  asked_into : (n : TermId) (e : ExprId) (q : Pair) → IsAsked s g (root_of n e) q → IsAsked s h (root_of n e) q
  asked_into n e q (r, held, (i, sign, stands, leads)) = (r, held, (i, sign, stands, leads_into (record { node = r.node; shape = i }) q leads))

  many_into : (n : TermId) (e : ExprId) → ReachesTooMany s g n e → ReachesTooMany s h n e
  many_into n e m = record { pairs = m.pairs; distinct = m.distinct; many = m.many; reached = λ q c. asked_into n e q (m.reached q c) }

pub reach_is_of_sets : ReachIsOfSets
reach_is_of_sets s g h into n e many = many_into s g h into n e many

-- ---- what can match, and the Widths

module _ (s : Schema) (terms : List Term) (g h : List Triple) (d : AreDistinct g) (e : AreDistinct h) (same : (t : Triple) → Contains g t ↔ Contains h t) where
  match_set : (p : Pair) (view : Known) (lean : Lean) → PairCanMatch s terms g view lean p ↔ PairCanMatch s terms h view lean p
  match_set p view lean = (
    match_same g h p.node d e s terms view lean (shape_at s p.shape) (λ sh is t read. same t),
    match_same h g p.node e d s terms view lean (shape_at s p.shape) (λ sh is t read. ((same t).1, (same t).0)),
  )

  within_set : (p : Pair) (budget : ℕ) → IsWithinWidth s terms g budget p ↔ IsWithinWidth s terms h budget p
  within_set p budget = (
    (λ (w, has, le). (w, record { plain = has.plain; tells = has.tells; is = has.is ∙ width_same g h p.node d e has.plain (shape_at s p.shape) (λ sh is t read. same t) }, le)),
    (λ (w, has, le). (w, record { plain = has.plain; tells = has.tells; is = has.is ∙ width_same h g p.node e d has.plain (shape_at s p.shape) (λ sh is t read. ((same t).1, (same t).0)) }, le)),
  )

  alike : (budget : ℕ) (pairs : List Pair) → AreAlike s terms terms h g budget pairs
  alike budget pairs = record {
    match_alike = λ p c view lean. ((match_set p view lean).1, (match_set p view lean).0);
    width_alike = λ p c. ((within_set p budget).1, (within_set p budget).0);
  }

  asked_back : (n : TermId) (x : ExprId) (pairs : List Pair) → AreAsked s terms h (root_of n x) pairs → AreAsked s terms g (root_of n x) pairs
  asked_back n x pairs asked = record {
    sorted = asked.sorted;
    exactly = λ q. (
      (λ c. asked_into s h g (λ t. (same t).1) n x q ((asked.exactly q).0 c)),
      (λ a. (asked.exactly q).1 (asked_into s g h (λ t. (same t).0) n x q a)),
    );
  }

pub answers_are_of_sets : AnswersAreOfSets
answers_are_of_sets s terms g h f budget n x v d e same answer pairs known asked refined =
    answer pairs known (asked_back s terms g h d e same n x pairs asked) (refined_alike s terms terms h g f budget pairs (alike s terms g h d e same budget pairs) known refined)
