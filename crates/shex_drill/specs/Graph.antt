-- What the data of a drill stand for.
use Rattle.std.specs.Prelude.{◌≤◌, ℕ, List, [], ◌∷◌, codes}
use Rattle.std.specs.List.{flat_map, range_with_len}
use Rattle.graph_index.specs.declared.loading.TermTriple.{TermTriple}
use Rattle.turtle_reader.specs.Documents.{IsDocument}
use Rattle.turtle_reader.specs.States.{DocumentScope, declared, start}
use Rattle.shex_drill.specs.Terms.{home, named, item_term, tag_term}
use Rattle.shex_drill.specs.Texts.{graph_text, next_of, tag_of}

-- the triples of item i among n: it leads to the next item, and has its tag
abbrev pub triples_of : ℕ → ℕ → List TermTriple
triples_of n i =
    record { subject = item_term i; predicate = named (codes "next"); object = item_term (next_of n i) }
    ∷ record { subject = item_term i; predicate = named (codes "tag"); object = tag_term (tag_of i) } ∷ []

abbrev pub graph_triples : ℕ → List TermTriple
graph_triples n = flat_map (triples_of n) (range_with_len 0 n)

-- the base and the prefixes at the end
abbrev pub graph_scope : List ℕ → DocumentScope
graph_scope base = declared [] home (start base)

-- the data spell a document with these triples, under any base
abbrev pub GraphIsDocument : Type 0
GraphIsDocument = (n : ℕ) → n ≤ 100000 → (base : List ℕ) → IsDocument base (graph_text n) (graph_scope base, graph_triples n)
