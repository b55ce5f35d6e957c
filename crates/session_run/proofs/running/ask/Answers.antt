use Rattle.std.proofs.Common.{◌≡◌, ◌∙◌, Err, Some, ap, refl, subst, sym}
use Rattle.std.specs.Prelude.{slice_get}
use Rattle.std.proofs.lemmas.Option.{slice_get_within}
use Rattle.std.proofs.lemmas.Result.{err_from_is_err_and}
use Rattle.schema_tree.specs.Edges.{IsStratum}
use Rattle.schema_tree.specs.Loaded.{IsLoaded}
use Rattle.typing_session.specs.Seen.{Seen}
use Rattle.session_run.specs.Running.{state_of}
use Rattle.session_run.proofs.Edited.{terms_keep}
use Rattle.session_run.proofs.Ran.{asked_fills, asked_keeps, is_none, many_first, many_kept, replies, says_one, too_many, undeclared}
use Rattle.session_run.proofs.True.{AreLaws, satisfied, unsatisfied}
use Rattle.session_run.proofs.running.ask.Goals as goal

pub returns-in_default-clause-stops : goal.returns-in_default-clause-stops
returns-in_default-clause-stops g c =
    let x = c.args.session.now in
    undeclared x.schema x.strata x.budget (state_of x) c.args.node c.args.target.now c.undeclared.result (c.target.ensures.absent.0 (is_none c.target.result c.in_default.not-Some)) c.undeclared.ensures

pub returns-in_err-node-clause-stops : goal.returns-in_err-node-clause-stops
returns-in_err-node-clause-stops g c =
    let p = err_from_is_err_and c.from_residual.result c.from_residual.ensures.1 in
    let x = c.args.session.now in
    rw (p.1, p.2) (asked_fills x.schema x.strata x.budget (state_of x) c.args.node c.args.target.now c.in-Some.expr c.in_err-node.field-0.0 c.in-Some.ensures.found c.in_err-node.ensures.stops)

pub returns-in_err-node-clause-keeps : goal.returns-in_err-node-clause-keeps
returns-in_err-node-clause-keeps g c = terms_keep c.args.session.now c.number.new.session c.number.ensures.alone

pub ask-requires : goal.ask-requires
ask-requires g c = record { node = slice_get_within c.number.new.session.terms c.in_ok-node.node.0 c.args.node c.in_ok-node.ensures.number }

pub returns-in_err-verdict-clause-stops : goal.returns-in_err-verdict-clause-stops
returns-in_err-verdict-clause-stops g c =
    let p = err_from_is_err_and c.from_residual-in_err-verdict.result c.from_residual-in_err-verdict.ensures.1 in
    let x = c.args.session.now in
    rw (p.1, p.2) (too_many x.schema x.strata x.budget (state_of x) c.args.node c.args.target.now c.in-Some.expr c.number.new.session.terms c.in_ok-node.node c.in_err-verdict.field-0.0 _ c.in-Some.ensures.found c.in_ok-node.ensures.added c.in_ok-node.ensures.few c.in_ok-node.ensures.number
    (λ e. many_first x c.number.new.session c.in_ok-node.node c.in-Some.expr c.number.ensures.alone (c.in_err-verdict.ensures.many (ap (λ z. Err z) e))) refl)

pub returns-in_err-verdict-clause-keeps : goal.returns-in_err-verdict-clause-keeps
returns-in_err-verdict-clause-keeps g c = asked_keeps c.args.session.now c.number.new.session c.ask.new.self c.number.ensures.alone c.ask.ensures.alone

pub returns-in_err-push_line-clause-keeps : goal.returns-in_err-push_line-clause-keeps
returns-in_err-push_line-clause-keeps g c = asked_keeps c.args.session.now c.number.new.session c.ask.new.self c.number.ensures.alone c.ask.ensures.alone

pub returns-in_err-note-clause-stops : goal.returns-in_err-note-clause-stops
returns-in_err-note-clause-stops g c =
    let p = err_from_is_err_and c.from_residual-in_err-note.result c.from_residual-in_err-note.ensures.1 in
    let x = c.args.session.now in
    rw (p.1, p.2) (too_many x.schema x.strata x.budget (state_of x) c.args.node c.args.target.now c.in-Some.expr c.number.new.session.terms c.in_ok-node.node c.in_err-note.field-0.0 _ c.in-Some.ensures.found c.in_ok-node.ensures.added c.in_ok-node.ensures.few c.in_ok-node.ensures.number
    (λ e. many_first x c.number.new.session c.in_ok-node.node c.in-Some.expr c.number.ensures.alone
    (many_kept c.number.new.session c.ask.new.self c.in_ok-node.node c.in-Some.expr c.ask.ensures.alone (c.in_err-note.ensures.many (ap (λ z. Err z) e)))) refl)

pub returns-in_err-note-clause-keeps : goal.returns-in_err-note-clause-keeps
returns-in_err-note-clause-keeps g c = asked_keeps c.args.session.now c.number.new.session c.ask.new.self c.number.ensures.alone c.ask.ensures.alone

pub returns-clause-keeps : goal.returns-clause-keeps
returns-clause-keeps g c = asked_keeps c.args.session.now c.number.new.session c.ask.new.self c.number.ensures.alone c.ask.ensures.alone

pub returns-clause-replies : goal.returns-clause-replies
returns-clause-replies g c =
    let x = c.args.session.now in
    let mid = c.number.new.session in
    let last = c.ask.new.self in
    let loaded : IsLoaded mid.schema = subst (λ (z : Seen). IsLoaded z.schema) (sym c.number.ensures.alone) c.requires.loaded in
    let strata : IsStratum mid.schema mid.strata = subst (λ (z : Seen). IsStratum z.schema z.strata) (sym c.number.ensures.alone) c.requires.strata in
    let laws : AreLaws = record { exist = c.typing_is_one.ensures.exists; alike = c.strata_are_alike.ensures.answers; stratified = c.strata_are_least.ensures.stratified } in
    let (notes, are, noted) = c.in_ok-note.ensures.noted in (
      record { node = c.args.node; target = c.args.target.now; verdict = c.in_ok-verdict.verdict; notes = notes },
      replies x mid last c.number.ensures.alone c.ask.ensures.alone c.args.node c.args.target.now c.in-Some.expr c.in_ok-node.node c.in_ok-verdict.verdict notes c.in-Some.ensures.found c.in_ok-node.ensures.added c.in_ok-node.ensures.few c.in_ok-node.ensures.number c.in_ok-verdict.ensures.few (record {
        answer = c.in_ok-verdict.ensures.answer;
        no_other = c.in_ok-verdict.ensures.no_other;
        by_all = c.in_ok-verdict.ensures.by_all;
        satisfied = satisfied laws mid.schema mid.terms mid.graph mid.strata loaded strata c.in_ok-node.node c.in-Some.expr c.in_ok-verdict.verdict c.in_ok-verdict.ensures.true_answer;
        unsatisfied = unsatisfied laws mid.schema mid.terms mid.graph mid.strata loaded strata c.in_ok-node.node c.in-Some.expr c.in_ok-verdict.verdict c.in_ok-verdict.ensures.true_answer;
        only_wide = c.in_ok-verdict.ensures.only_wide;
      }) are,
      says_one c.args.said.now c.note.new.said c.terms.result.now c.in_ok-node.node c.args.node c.args.target.now c.in_ok-verdict.verdict notes
          (subst (λ ts. slice_get ts c.in_ok-node.node.0 ≡ Some c.args.node) (sym (c.terms.ensures ∙ ap (λ (z : Seen). z.terms) c.ask.ensures.alone)) c.in_ok-node.ensures.number)
          (ap (λ v. v.items) c.note.ensures.text ∙ c.in_ok-push_line.ensures) noted c.in_ok-note.ensures.undecided,
    )
