-- Triples among which one finds no room.
use Rattle.std.proofs.Common.{◌≡◌, List, [], ◌∷◌, ◌++◌, sym, ap, ◌∙◌, append_assoc}
use Rattle.std.proofs.lemmas.List.{append-nil}
use Rattle.rdf_terms.specs.declared.terms.Term.{Term}
use Rattle.rdf_terms.specs.declared.terms.Triple.{Triple}
use Rattle.graph_index.specs.declared.loading.TermTriple.{TermTriple}
use Rattle.graph_index.specs.Loading.{Loads, FindsNoRoom}
use Rattle.graph_index.proofs.Loaded.{loads_append}
use Rattle.data_loading.specs.Loads.{Fills}

pub fills_at : (terms now_terms : List Term) (graph now_graph : List Triple) (all so rest : List TermTriple) (t : TermTriple) → all ≡ so ++ t ∷ rest →
    Loads terms graph so now_terms now_graph → FindsNoRoom now_terms now_graph t → Fills terms graph all
fills_at terms now_terms graph now_graph all so rest t e l n = record { before = so; last = t; behind = rest; parts = e; mid_terms = now_terms; mid_graph = now_graph; loaded = l; no_room = n }

-- triples behind others
pub fills_behind : (terms mid_terms : List Term) (graph mid_graph : List Triple) (so ts : List TermTriple) → Loads terms graph so mid_terms mid_graph →
    Fills mid_terms mid_graph ts → Fills terms graph (so ++ ts)
fills_behind terms mid_terms graph mid_graph so ts l f = record {
  before = so ++ f.before;
  last = f.last;
  behind = f.behind;
  parts = ap (λ (v : List TermTriple). so ++ v) f.parts ∙ sym (append_assoc so f.before (f.last ∷ f.behind));
  mid_terms = f.mid_terms;
  mid_graph = f.mid_graph;
  loaded = loads_append terms mid_terms f.mid_terms graph mid_graph f.mid_graph so f.before l f.loaded;
  no_room = f.no_room;
}

-- what is as it was has grown by nothing
pub is_grown : {X : Type 0} (xs ys : List X) → ys ≡ xs → (more : List X) × (ys ≡ xs ++ more)
is_grown xs ys e = ([], e ∙ sym (append-nil xs))
