use Rattle.std.proofs.Common.{◌≡◌, ◌≤◌, ◌<◌, ◌+◌, ℕ, List, Contains, length, subst, sym}
use Rattle.demand.specs.Links.{AreLinks}
use Rattle.schema_tree.specs.declared.schema.Pair.{Pair}
use Rattle.schema_tree.specs.declared.verdicts.Verdict.{Verdict}
use Rattle.schema_tree.specs.Needs.{Reaches}
use Rattle.typing_refiner.specs.Building.{AreWidths}
use Rattle.typing_refiner.specs.Statements.{CountNeeds, most_of}
use Rattle.typing_session.specs.Kept.{pairs_of}
use Rattle.typing_session.specs.Questions.{AreFresh, IsAnswer, IsAnswerByAll, IsTrueAnswer, IsUnknownOnlyWide, Keeps}
use Rattle.typing_session.specs.References.{AreReferences}
use Rattle.typing_session.specs.Seen.{Seen}
use Rattle.typing_session.proofs.Asked.{bound_fresh, keeps, silent, sound_asked}
use Rattle.typing_session.proofs.Referring.{of_held, there}
use Rattle.typing_session.proofs.session.Session.ask.Goals as goal

pub find_references-requires-clause-there : goal.find_references-requires-clause-there
find_references-requires-clause-there g c = c.self.invariant.3

pub found_references-requires : goal.found_references-requires
found_references-requires g c = there _ _ c.in_ok-find_references.ensures.found

pub asked-requires-clause-links : goal.asked-requires-clause-links
asked-requires-clause-links g c =
    subst (AreLinks c.self.inside.schema) (sym c.as_slice-links.ensures) (of_held (AreReferences c.self.inside.schema) _ _ c.found_references.ensures c.in_ok-find_references.ensures.found).links

pub answer-requires-clause-links : goal.answer-requires-clause-links
answer-requires-clause-links g c =
    subst (AreLinks c.self.inside.schema) (sym c.as_slice-links.ensures) (of_held (AreReferences c.self.inside.schema) _ _ c.found_references.ensures c.in_ok-find_references.ensures.found).links

pub answer-requires-clause-posed : goal.answer-requires-clause-posed
answer-requires-clause-posed g c = record {
  loaded = c.self.invariant.0.loaded;
  sealed = c.self.invariant.1.sealed;
  stratified = c.self.invariant.0.stratified;
  budget = c.self.invariant.0.range;
}

pub returns-in_err-verdict-clause-bounded : goal.returns-in_err-verdict-clause-bounded
returns-in_err-verdict-clause-bounded g c =
    subst (λ (x : Seen). (fresh : List Pair) (width count : Pair → ℕ) → AreFresh x.schema x.terms x.graph x.kept c.args.node c.args.expr fresh →
    AreWidths x.schema x.terms x.graph width → CountNeeds x.schema x.graph fresh count →
    c.answer.new.steps ≤ c.args.steps.now + most_of x.schema x.terms x.graph x.budget width count fresh) c.self.view_is
    (bound_fresh c.self.inside.schema c.self.inside.terms c.self.inside.graph.triples c.self.inside.budget c.args.node c.args.expr c.self.inside.kept c.as_slice.result.now c.args.steps.now c.answer.new.steps
    (subst (AreFresh c.self.inside.schema c.self.inside.terms c.self.inside.graph.triples (pairs_of c.self.inside.kept) c.args.node c.args.expr) (sym c.as_slice.ensures.value) c.in_ok-fresh.ensures.fresh) c.in_err-verdict.ensures.bounded)

pub returns-in_err-verdict-clause-silent : goal.returns-in_err-verdict-clause-silent
returns-in_err-verdict-clause-silent g c =
    subst (λ (x : Seen). ((q : Pair) → Reaches x.schema x.graph c.args.node c.args.expr q → Contains x.kept q) → c.answer.new.steps ≤ c.args.steps.now) c.self.view_is
    (λ all. silent c.self.inside.schema c.self.inside.terms c.self.inside.graph.triples c.self.inside.budget c.width_is_one.ensures.one c.args.node c.args.expr c.self.inside.kept c.as_slice.result.now c.args.steps.now c.answer.new.steps
    (subst (AreFresh c.self.inside.schema c.self.inside.terms c.self.inside.graph.triples (pairs_of c.self.inside.kept) c.args.node c.args.expr) (sym c.as_slice.ensures.value) c.in_ok-fresh.ensures.fresh) all c.in_err-verdict.ensures.bounded)

pub invariant_of-self-2 : goal.invariant_of-self-2
invariant_of-self-2 g c = (
  c.self.invariant.0,
  c.self.invariant.1,
  sound_asked c.self.inside.schema c.self.inside.terms c.self.inside.graph c.self.inside.strata c.self.inside.budget c.args.node c.args.expr c.as_slice.result.now c.self.inside.kept c.answer.new.kept c.self.invariant.0.loaded c.self.invariant.1.ends
      (subst (λ (x : Seen). c.args.node.0 < length x.terms) (sym c.self.view_is) c.requires.node)
      (subst (AreFresh c.self.inside.schema c.self.inside.terms c.self.inside.graph.triples (pairs_of c.self.inside.kept) c.args.node c.args.expr) (sym c.as_slice.ensures.value) c.in_ok-fresh.ensures.fresh) c.self.invariant.2
      c.in_ok-verdict.ensures.kept,
  c.find_references.ensures.there,
)

pub returns-clause-answer : goal.returns-clause-answer
returns-clause-answer g c = subst (λ (x : Seen). IsAnswer x.schema x.terms x.graph x.strata x.budget c.args.node c.args.expr c.in_ok-verdict.verdict) c.self.view_is c.in_ok-verdict.ensures.answer

pub returns-clause-no_other : goal.returns-clause-no_other
returns-clause-no_other g c =
    subst (λ (x : Seen). (w : Verdict) → IsAnswer x.schema x.terms x.graph x.strata x.budget c.args.node c.args.expr w → w ≡ c.in_ok-verdict.verdict) c.self.view_is c.in_ok-verdict.ensures.no_other

pub returns-clause-by_all : goal.returns-clause-by_all
returns-clause-by_all g c = subst (λ (x : Seen). IsAnswerByAll x.schema x.terms x.graph x.budget c.args.node c.args.expr c.in_ok-verdict.verdict) c.self.view_is c.in_ok-verdict.ensures.by_all

pub returns-clause-true_answer : goal.returns-clause-true_answer
returns-clause-true_answer g c = subst (λ (x : Seen). IsTrueAnswer x.schema x.terms x.graph x.strata c.args.node c.args.expr c.in_ok-verdict.verdict) c.self.view_is c.in_ok-verdict.ensures.true_answer

pub returns-clause-only_wide : goal.returns-clause-only_wide
returns-clause-only_wide g c =
    subst (λ (x : Seen). IsUnknownOnlyWide x.schema x.terms x.graph x.budget c.args.node c.args.expr c.in_ok-verdict.verdict) c.self.view_is c.in_ok-verdict.ensures.only_wide

pub returns-clause-keeps : goal.returns-clause-keeps
returns-clause-keeps g c =
    subst (λ (x : Seen). Keeps x.schema x.graph c.args.node c.args.expr x.kept (pairs_of c.answer.new.kept)) c.self.view_is
    (keeps c.self.inside.schema c.self.inside.terms c.self.inside.graph.triples c.self.inside.strata c.self.inside.budget c.args.node c.args.expr c.as_slice.result.now c.self.inside.kept c.answer.new.kept
    (subst (AreFresh c.self.inside.schema c.self.inside.terms c.self.inside.graph.triples (pairs_of c.self.inside.kept) c.args.node c.args.expr) (sym c.as_slice.ensures.value) c.in_ok-fresh.ensures.fresh) c.in_ok-verdict.ensures.kept)

pub returns-clause-bounded : goal.returns-clause-bounded
returns-clause-bounded g c =
    subst (λ (x : Seen). (fresh : List Pair) (width count : Pair → ℕ) → AreFresh x.schema x.terms x.graph x.kept c.args.node c.args.expr fresh →
    AreWidths x.schema x.terms x.graph width → CountNeeds x.schema x.graph fresh count →
    c.answer.new.steps ≤ c.args.steps.now + most_of x.schema x.terms x.graph x.budget width count fresh) c.self.view_is
    (bound_fresh c.self.inside.schema c.self.inside.terms c.self.inside.graph.triples c.self.inside.budget c.args.node c.args.expr c.self.inside.kept c.as_slice.result.now c.args.steps.now c.answer.new.steps
    (subst (AreFresh c.self.inside.schema c.self.inside.terms c.self.inside.graph.triples (pairs_of c.self.inside.kept) c.args.node c.args.expr) (sym c.as_slice.ensures.value) c.in_ok-fresh.ensures.fresh) c.in_ok-verdict.ensures.bounded)

pub returns-clause-silent : goal.returns-clause-silent
returns-clause-silent g c =
    subst (λ (x : Seen). ((q : Pair) → Reaches x.schema x.graph c.args.node c.args.expr q → Contains x.kept q) → c.answer.new.steps ≤ c.args.steps.now) c.self.view_is
    (λ all. silent c.self.inside.schema c.self.inside.terms c.self.inside.graph.triples c.self.inside.budget c.width_is_one.ensures.one c.args.node c.args.expr c.self.inside.kept c.as_slice.result.now c.args.steps.now c.answer.new.steps
    (subst (AreFresh c.self.inside.schema c.self.inside.terms c.self.inside.graph.triples (pairs_of c.self.inside.kept) c.args.node c.args.expr) (sym c.as_slice.ensures.value) c.in_ok-fresh.ensures.fresh) all c.in_ok-verdict.ensures.bounded)
