use Rattle.std.proofs.Common.{ap, Err, subst, ◌∷◌, [], ◌++◌}
use Rattle.std.specs.List.{flat_map}
use Rattle.std.proofs.lemmas.Result.{err_from_is_err_and}
use Rattle.lists.proofs.Additions.{adds_grows, grown_on, stays}
use Rattle.rdf_terms.specs.declared.terms.Term.{Term}
use Rattle.data_loading.specs.Loads.{LoadsAll}
use Rattle.turtle_reader.specs.Objects.{triples_of}
use Rattle.turtle_reader.proofs.ListLoading.{no_subject}
use Rattle.turtle_reader.proofs.loading.load_subject.Goals as goal

pub returns-in_err-s-clause-loads : goal.returns-in_err-s-clause-loads
returns-in_err-s-clause-loads c =
    let p = err_from_is_err_and c.from_residual.result c.from_residual.ensures.1 in
    rw (p.1, p.2)
    (subst (λ (s : Term). LoadsAll (Err c.in_err-s.field-0.0) c.args.terms.now c.args.graph.now.triples
    (flat_map (triples_of s) (c.args.list.before.items ++ c.args.list.last ∷ [])) c.number.new.terms c.args.graph.now.triples)
    c.into_term.ensures
    (no_subject c.in_err-s.field-0.0 c.args.terms.now c.number.new.terms c.args.graph.now.triples c.args.graph.now.triples c.into_term.result
    c.args.list.before.items c.args.list.last
    (λ e. c.in_err-s.ensures.full (ap Err e))))

pub returns-clause-loads : goal.returns-clause-loads
returns-clause-loads c =
    subst (λ (s : Term). LoadsAll c.load_each_list.result c.args.terms.now c.args.graph.now.triples
    (flat_map (triples_of s) (c.args.list.before.items ++ c.args.list.last ∷ [])) c.load_each_list.new.terms c.load_each_list.new.graph.triples)
    c.into_term.ensures (c.load_each_list.ensures.loads c.args.terms.now c.into_term.result
    (record { added = c.in_ok-s.ensures.added; subject = c.in_ok-s.ensures.number }))

pub returns-in_err-s-clause-appended : goal.returns-in_err-s-clause-appended
returns-in_err-s-clause-appended c = stays _

pub returns-clause-grown : goal.returns-clause-grown
returns-clause-grown c = grown_on _ _ _ (adds_grows _ _ _ c.in_ok-s.ensures.added) c.load_each_list.ensures.grown
