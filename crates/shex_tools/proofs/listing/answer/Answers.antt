use Rattle.std.proofs.Common.{◌≡◌, [], All, subst, sym}
use Rattle.std.proofs.lemmas.Result.{err_from_is_err_and}
use Rattle.graph_index.specs.Laws.{IsOfTable}
use Rattle.schema_tree.specs.Edges.{IsStratum}
use Rattle.schema_tree.specs.Loaded.{IsLoaded}
use Rattle.proof_file.specs.declared.head.Digests.{Digests}
use Rattle.shape_map.specs.Results.{result_text}
use Rattle.shex_inputs.specs.Held.{Held, held_by}
use Rattle.shex_tools.specs.Finding.{FindingStops, IsFound}
use Rattle.shex_tools.specs.Texts.{notes_by}
use Rattle.shex_tools.proofs.listing.answer.Goals as goal

-- what the clauses say of all digests, they say of these
any : Digests
any = record { schema = record { 0 = [] }; imports = []; graph = record { 0 = [] } }

pub found-requires-clause-loaded : goal.found-requires-clause-loaded
found-requires-clause-loaded c = subst (λ (k : Held). IsLoaded k.schema) (sym (c.seal.ensures.held any)) c.requires.loaded

pub found-requires-clause-strata : goal.found-requires-clause-strata
found-requires-clause-strata c = subst (λ (k : Held). IsStratum k.schema k.strata) (sym (c.seal.ensures.held any)) c.requires.strata

pub found-requires-clause-of_table : goal.found-requires-clause-of_table
found-requires-clause-of_table c = subst (λ (k : Held). All (IsOfTable k.terms) k.graph) (sym (c.seal.ensures.held any)) c.requires.of_table

pub returns-in_err-extents-clause-stops : goal.returns-in_err-extents-clause-stops
returns-in_err-extents-clause-stops c = λ digests.
    let p = err_from_is_err_and c.from_residual-in_err-extents.result c.from_residual-in_err-extents.ensures.1 in
    rw (p.1, p.2)
    (subst (λ (k : Held). FindingStops k c.in_err-extents.field-0.0) (c.seal.ensures.held digests) (c.in_err-extents.ensures.stops digests))

pub returns-clause-listed : goal.returns-clause-listed
returns-clause-listed c = λ digests.
    let x = c.in_ok-extents.extents in
    let r = c.in_ok-response_of.field-0 in
    let same : held_by c.seal.new.holding digests ≡ held_by c.args.holding.now digests = c.seal.ensures.held digests in
    record {
      extents = x;
      is_found = subst (λ (k : Held). IsFound k c.args.budget x) same (c.in_ok-extents.ensures.found digests);
      status_is = c.in_ok-response_of.ensures.status;
      text_is = subst (λ (k : Held). r.text.items ≡ result_text k.terms x.members) same c.in_ok-response_of.ensures.text;
      notes_are = subst (λ (k : Held). r.notes.items ≡ notes_by k.terms c.args.budget x.undecided x.wide) same c.in_ok-response_of.ensures.notes;
    }
