use Rattle.std.proofs.Common.{◌≡◌, ◌∙◌, Bool, List, ap, length, map, rules, subst, sym, vec_len}
use Rattle.std.specs.Prelude.{Contains}
use Rattle.std.proofs.lemmas.List.{length-map}
use Rattle.schema_tree.proofs.Strata.{stratum_stratified}
use Rattle.shape_map.specs.declared.resolve.Association.{Association}
use Rattle.typing_answers.proofs.Preparing.{in_range}
use Rattle.typing_answers.specs.Replies.{AreSureAnswers}
use Rattle.typing_refiner.specs.Refinement.{known_by_it}
use Rattle.shex_run.specs.Statuses.{status_by}
use Rattle.shex_run.specs.Texts.{notes_by}
use Rattle.shex_run.proofs.Asked.{answers_within}
use Rattle.shex_run.proofs.Decisions.{answered, shown}
use Rattle.shex_run.proofs.deciding.decide.Goals as goal

pub refine-requires-clause-stratified : goal.refine-requires-clause-stratified
refine-requires-clause-stratified c = stratum_stratified c.args.holding.now.schema c.args.holding.now.strata c.requires.strata

pub text_of-requires : goal.text_of-requires
text_of-requires c = λ x h.
    answers_within c.args.holding.now.schema c.args.holding.now.terms (known_by_it c.in_ok-refined.refined) c.args.asked.associations.items c.in_ok-given.given.items c.in_ok-given.ensures c.requires.asked x
    (subst (λ xs. Contains xs x) c.as_slice-answers.ensures.value h)

pub proof_if-requires-clause-range : goal.proof_if-requires-clause-range
proof_if-requires-clause-range c = λ on.
    let h = c.args.holding.now in
    let r = c.in_ok-refined.refined in
    let sure : AreSureAnswers h.schema h.terms (known_by_it r) c.args.asked.associations.items c.as_slice-answers.result.now =
    subst (λ xs. AreSureAnswers h.schema h.terms (known_by_it r) c.args.asked.associations.items xs) (sym c.as_slice-answers.ensures.value) c.in_ok-given.ensures in
    in_range h.schema h.terms h.graph.triples h.strata c.args.asked.pairs c.args.budget (known_by_it r) r.nodes r.sections c.as_slice-answers.result.now
    (shown h c.args.asked.associations.items c.args.asked.pairs c.args.budget c.args.head c.requires (known_by_it r) r.nodes r.sections c.as_slice-answers.result.now
    (c.in_ok-refined.ensures.records (c.wanted-wanted.ensures.records (c.is_some.ensures ∙ on)))
    (c.in_ok-refined.ensures.fine (c.wanted-wanted.ensures.records (c.is_some.ensures ∙ on))) (c.in_ok-refined.ensures.accepted (c.wanted-wanted.ensures.records (c.is_some.ensures ∙ on))) sure)

pub returns : goal.returns
returns c =
    let h = c.args.holding.now in
    let r = c.in_ok-refined.refined in
    let xs = c.args.asked.associations.items in
    let answers = c.as_slice-answers.result.now in
    let sure : AreSureAnswers h.schema h.terms (known_by_it r) xs answers =
    subst (λ ys. AreSureAnswers h.schema h.terms (known_by_it r) xs ys) (sym c.as_slice-answers.ensures.value) c.in_ok-given.ensures in
    let size : vec_len c.in_ok-wants.wants ≡ length c.in_ok-wants.wants.items = search rules in
    let (known, refined, same) = c.in_ok-refined.ensures.verdicts in
    record {
      verdicts = known;
      refined = refined;
      answers = answers;
      given = sym c.as_slice-answers.ensures.value;
      replies = answered h xs c.args.asked.pairs c.args.budget c.args.head c.requires c.sure_answers_are_true.ensures (known_by_it r) known refined same answers sure;
      proof = c.in_ok-proof.ensures.proof h.schema h.graph.triples h.strata c.args.asked.pairs c.args.budget (known_by_it r) (λ on. (
          shown h xs c.args.asked.pairs c.args.budget c.args.head c.requires (known_by_it r) r.nodes r.sections answers
          (c.in_ok-refined.ensures.records (c.wanted-wanted.ensures.records (c.is_some.ensures ∙ on)))
          (c.in_ok-refined.ensures.fine (c.wanted-wanted.ensures.records (c.is_some.ensures ∙ on))) (c.in_ok-refined.ensures.accepted (c.wanted-wanted.ensures.records (c.is_some.ensures ∙ on))) sure
          ));
      headed = c.in_ok-proof.ensures.headed;
      wanted = c.in_ok-proof.ensures.wanted;
      low = c.status-status.ensures.low;
      status_is =
          c.status-status.ensures.status
          ∙ ap (λ (ws : List Bool). status_by ws answers) (c.as_slice-2.ensures.value ∙ c.in_ok-wants.ensures ∙ ap (λ (ys : List Association). map (λ a. a.want) ys) c.as_slice.ensures.value);
      text_is = c.in_ok-text.ensures;
      wide = c.wide-wide.result.now;
      are_wide = λ width are. c.wide-wide.ensures ∙ c.in_ok-refined.ensures.wide width are;
      notes_are = c.in_ok-notes.ensures ∙ ap (λ n. notes_by h.terms n c.args.budget answers c.wide-wide.result.now)
          (c.len.ensures ∙ size ∙ ap length c.in_ok-wants.ensures ∙ length-map c.as_slice.result.now (λ (a : Association). a.want) ∙ ap length c.as_slice.ensures.value);
    }
