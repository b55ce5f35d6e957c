use Rattle.std.proofs.Common.{ap, Err}
use Rattle.std.proofs.lemmas.Result.{err_from_is_err_and}
use Rattle.rdf_terms.specs.Tables.{max_terms}
use Rattle.rdf_terms.specs.declared.terms.Term.TheVariants.{Iri}
use Rattle.graph_index.proofs.Loaded.{second_fills}
use Rattle.lists.proofs.Additions.{adds_grows, grown_on, stays}
use Rattle.turtle_reader.proofs.ListLoading.{both_begin, no_list}
use Rattle.turtle_reader.proofs.loading.load_list.Goals as goal

pub returns-in_err-p-clause-loads : goal.returns-in_err-p-clause-loads
returns-in_err-p-clause-loads c = λ old s b.
    let r = err_from_is_err_and c.from_residual.result c.from_residual.ensures.1 in
    rw (r.1, r.2)
    (no_list c.in_err-p.field-0.0 old c.number.new.terms c.args.graph.now.triples c.args.graph.now.triples s
    (Iri c.args.list.predicate) c.args.list.before.items c.args.list.last
    (λ e o all h. second_fills max_terms old c.args.terms.now all s (Iri c.args.list.predicate) o b.added (c.in_err-p.ensures.full (ap Err e)) h))

pub returns-clause-loads : goal.returns-clause-loads
returns-clause-loads c = λ old s b.
    c.load_objects.ensures.loads old s (Iri c.args.list.predicate)
    (both_begin old _ _ s _ _ _ b.added c.in_ok-p.ensures.added b.subject c.in_ok-p.ensures.number)

pub returns-in_err-p-clause-appended : goal.returns-in_err-p-clause-appended
returns-in_err-p-clause-appended c = stays _

pub returns-clause-grown : goal.returns-clause-grown
returns-clause-grown c = grown_on _ _ _ (adds_grows _ _ _ c.in_ok-p.ensures.added) c.load_objects.ensures.grown
