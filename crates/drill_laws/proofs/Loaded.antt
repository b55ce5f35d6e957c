-- Any triples can be loaded, and each brings three terms at most.
use Rattle.std.proofs.Common.{◌≡◌, ◌+◌, ◌*◌, ◌≤◌, List, [], ◌∷◌, ◌++◌, length, Some, refl, arith, inl, inr, ◌⊎◌}
use Rattle.std.specs.Prelude.{Contains, slice_get}
use Rattle.lists.specs.Additions.{Adds, AddsAll, more, none}
use Rattle.lists.proofs.Additions.{add_few, all_few, all_held}
use Rattle.lists.proofs.Decided.{Decided, decide_member, from_test}
use Rattle.lists.proofs.Members.{is_first, is_later, place_of}
use Rattle.rdf_terms.specs.declared.terms.Term.{Term}
use Rattle.rdf_terms.specs.declared.terms.TermId.{TermId}
use Rattle.rdf_terms.specs.declared.terms.Triple.{Triple}
use Rattle.rdf_terms.proofs.SameTerms.{same_term, term_decides}
use Rattle.graph_index.specs.declared.loading.TermTriple.{TermTriple}
use Rattle.graph_index.specs.Loading.{IsNumbered, Loads, nothing, terms_of, triple}
use Rattle.graph_index.proofs.Held.{same_triple, triple_decides}

same_terms : (x y : Term) → Decided (x ≡ y)
same_terms x y = from_test (same_term x y) (term_decides x y)

same_triples : (x y : Triple) → Decided (x ≡ y)
same_triples x y = from_test (same_triple x y) (triple_decides x y)

-- ---- additions

module _ {X : Type 0} (same : (x y : X) → Decided (x ≡ y)) where
  one_added : (old : List X) (x : X) → (new : List X) × Adds old x new
  one_added old x = by (decide_member same old x)
    where
      by : Contains old x ⊎ (¬ Contains old x) → (new : List X) × Adds old x new
      by (inl c) = (old, inl (c, refl))
      by (inr c) = (old ++ x ∷ [], inr (c, refl))

  all_added : (old xs : List X) → (new : List X) × AddsAll old xs new
  all_added old [] = (old, none)
  all_added old (x ∷ xs) = let (mid, a) = one_added old x in let (new, rest) = all_added mid xs in (new, more a rest)

-- ---- triples

number_for : (terms : List Term) (x : Term) → Contains terms x → (n : TermId) × (slice_get terms n.0 ≡ Some x)
number_for terms x c = let (i, at) = place_of terms x c in (record { 0 = i }, at)

numbered : (old mid : List Term) (t : TermTriple) → AddsAll old (terms_of t) mid → (n : Triple) × IsNumbered mid t n
numbered old mid t adds =
    let (s, is_s) = number_for mid t.subject (all_held old mid (terms_of t) t.subject adds (is_first t.subject (t.predicate ∷ t.object ∷ []))) in
    let (p, is_p) = number_for mid t.predicate (all_held old mid (terms_of t) t.predicate adds (is_later t.subject (t.predicate ∷ t.object ∷ []) t.predicate (is_first t.predicate (t.object ∷ [])))) in
    let (o, is_o) =
    number_for mid t.object (all_held old mid (terms_of t) t.object adds (is_later t.subject (t.predicate ∷ t.object ∷ []) t.object (is_later t.predicate (t.object ∷ []) t.object (is_first t.object [])))) in
    (record { s = s; p = p; o = o }, record { subject = is_s; predicate = is_p; object = is_o })

pub all_loaded : (terms : List Term) (graph : List Triple) (ts : List TermTriple) → (new : List Term) × (grown : List Triple) × Loads terms graph ts new grown
all_loaded terms graph [] = (terms, graph, nothing)
all_loaded terms graph (t ∷ ts) =
    let (mid, adds) = all_added same_terms terms (terms_of t) in
    let (n, is) = numbered terms mid t adds in
    let (g, a) = one_added same_triples graph n in
    let (new, grown, rest) = all_loaded mid g ts in
    (new, grown, triple n adds is a rest)

-- how many terms and triples there are then
pub loaded_few : (old new : List Term) (graph grown : List Triple) (ts : List TermTriple) → Loads old graph ts new grown →
    (length new ≤ length old + 3 * length ts) × (length grown ≤ length graph + length ts)
loaded_few old new graph grown ts nothing = (omega arith, omega arith)
loaded_few old new graph grown ts (triple {mid = mid} {grown = g} {t = t} {ts = us} n adds is a rest) =
    let (terms, triples) = loaded_few mid new g grown us rest in
    let three = all_few old mid (terms_of t) adds in
    let one = add_few graph g n a in
    (omega (arith, terms, three), omega (arith, triples, one))
