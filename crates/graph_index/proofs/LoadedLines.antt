-- Triples of terms that can stand on one line, and tables and graphs that take them up.
use Rattle.std.proofs.Common.{List, Contains, ◌≡◌, ℕ, [], ◌∷◌, ◌++◌, Some, sym, subst, ◌∙◌, ◌⊎◌, inl, inr, arith}
use Rattle.std.specs.List.{AllByRecursion}
use Rattle.std.proofs.lemmas.List.Elements.{All-contains, All-from_recursion, Contains-append_left, Contains-append_right, Contains-push, Contains-push_cases}
use Rattle.std.specs.Prelude.{slice_get}
use Rattle.std.proofs.lemmas.Option.{same_Some}
use Rattle.lists.proofs.Additions.{all_grow, kept_at}
use Rattle.lists.specs.Additions.{Adds}
use Rattle.rdf_terms.proofs.TermLines.{PlainTerm, has_line}
use Rattle.rdf_terms.specs.declared.terms.Term.{Term}
use Rattle.rdf_terms.specs.declared.terms.Triple.{Triple}
use Rattle.rdf_terms.specs.OneLine.{HasOneLine}
use Rattle.rdf_terms.proofs.AddedLines.{AllHaveOneLine, all_added}
use Rattle.graph_index.specs.declared.loading.TermTriple.{TermTriple}
use Rattle.graph_index.specs.Loading.{HaveOneLine, IsNumbered, Loads, nothing, triple, terms_of}
use Rattle.graph_index.specs.Laws.{LoadingBringsLines, LoadedEndsHaveLines}

pub record PlainTriple (t : TermTriple) : Type 0 where
  pub subject : PlainTerm t.subject
  pub predicate : PlainTerm t.predicate
  pub object : PlainTerm t.object

triple_is : (t : TermTriple) → PlainTriple t → HaveOneLine t
triple_is t h = record {
  subject = has_line t.subject h.subject;
  predicate = has_line t.predicate h.predicate;
  object = has_line t.object h.object;
}

pub triples_are : (triples : List TermTriple) → AllByRecursion PlainTriple triples → (t : TermTriple) → Contains triples t → HaveOneLine t
triples_are triples h t c = triple_is t (All-contains PlainTriple triples t (All-from_recursion PlainTriple triples h) c)

three_have_lines : (t : TermTriple) → HaveOneLine t → AllHaveOneLine (terms_of t)
three_have_lines t h x c = by x (Contains-push_cases (t.subject ∷ t.predicate ∷ []) t.object x c)
  where
    first_two : (x : Term) → Contains (t.subject ∷ []) x ⊎ (t.predicate ≡ x) → HasOneLine x
    first_two x (inl d) = first_one x (Contains-push_cases [] t.subject x d)
      where
        first_one : (x : Term) → Contains [] x ⊎ (t.subject ≡ x) → HasOneLine x
        first_one x (inl d) = absurd (omega (arith, d.1))
        first_one x (inr e) = subst HasOneLine e h.subject
    first_two x (inr e) = subst HasOneLine e h.predicate

    by : (x : Term) → Contains (t.subject ∷ t.predicate ∷ []) x ⊎ (t.object ≡ x) → HasOneLine x
    by x (inl d) = first_two x (Contains-push_cases (t.subject ∷ []) t.predicate x d)
    by x (inr e) = subst HasOneLine e h.object

first_triple : (t : TermTriple) (ts : List TermTriple) → ((u : TermTriple) → Contains (t ∷ ts) u → HaveOneLine u) → HaveOneLine t
first_triple t ts k = k t (Contains-append_left (t ∷ []) ts t (Contains-push [] t))

other_triples : (t : TermTriple) (ts : List TermTriple) → ((u : TermTriple) → Contains (t ∷ ts) u → HaveOneLine u) → (u : TermTriple) → Contains ts u → HaveOneLine u
other_triples t ts k u c = k u (Contains-append_right (t ∷ []) ts u c)

all_loaded : {terms new_terms : List Term} {graph new_graph : List Triple} {ts : List TermTriple} → Loads terms graph ts new_terms new_graph → AllHaveOneLine terms
    → ((t : TermTriple) → Contains ts t → HaveOneLine t) → AllHaveOneLine new_terms
all_loaded nothing h k = h
all_loaded (triple {terms} {mid} {new_terms} {graph} {grown} {new_graph} {t} {ts} n a m g others) h k =
    all_loaded others (all_added a h (three_have_lines t (first_triple t ts k))) (other_triples t ts k)

pub loading_keeps : LoadingBringsLines
loading_keeps terms graph ts new_terms new_graph l h k = all_loaded l h k

-- the number is that of a term which can stand on one line
abbrev NumbersLine : List Term → ℕ → Type 0
NumbersLine terms i = (x : Term) × (slice_get terms i ≡ Some x) × HasOneLine x

-- so are the numbers of the ends of a triple, and of each triple of a graph
record EndsNumberLines (terms : List Term) (n : Triple) : Type 0 where
  subject : NumbersLine terms n.s.0
  object : NumbersLine terms n.o.0

abbrev AllEndsNumberLines : List Term → List Triple → Type 0
AllEndsNumberLines terms graph = (n : Triple) → Contains graph n → EndsNumberLines terms n

number_kept : (old new : List Term) → ((behind : List Term) × (new ≡ old ++ behind)) → (i : ℕ) → NumbersLine old i → NumbersLine new i
number_kept old new g i (x, e, h) = (x, kept_at old new i x g e, h)

ends_kept : (old new : List Term) (graph : List Triple) → ((behind : List Term) × (new ≡ old ++ behind)) → AllEndsNumberLines old graph → AllEndsNumberLines new graph
ends_kept old new graph g h n c = let i = h n c in record { subject = number_kept old new g n.s.0 i.subject; object = number_kept old new g n.o.0 i.object }

one_loaded : (mid : List Term) (graph grown : List Triple) (t : TermTriple) (n : Triple) → IsNumbered mid t n → HaveOneLine t → Adds graph n grown →
    AllEndsNumberLines mid graph → AllEndsNumberLines mid grown
one_loaded mid graph grown t n m h (inl (c, e)) k = subst (AllEndsNumberLines mid) (sym e) k
one_loaded mid graph grown t n m h (inr (c, e)) k = subst (AllEndsNumberLines mid) (sym e) (λ p d. by p (Contains-push_cases graph n p d))
  where
    by : (p : Triple) → Contains graph p ⊎ (n ≡ p) → EndsNumberLines mid p
    by p (inl d) = k p d
    by p (inr d) = subst (EndsNumberLines mid) d (record { subject = (t.subject, m.subject, h.subject); object = (t.object, m.object, h.object) })

all_ends : {terms new_terms : List Term} {graph new_graph : List Triple} {ts : List TermTriple} → Loads terms graph ts new_terms new_graph → AllEndsNumberLines terms graph
    → ((t : TermTriple) → Contains ts t → HaveOneLine t) → AllEndsNumberLines new_terms new_graph
all_ends nothing h k = h
all_ends (triple {terms} {mid} {new_terms} {graph} {grown} {new_graph} {t} {ts} n a m g others) h k =
    let kept = ends_kept terms mid graph (all_grow terms mid (terms_of t) a) h in
    all_ends others (one_loaded mid graph grown t n m (first_triple t ts k) g kept) (other_triples t ts k)

numbered_line : (terms : List Term) (i : ℕ) (x : Term) → NumbersLine terms i → slice_get terms i ≡ Some x → HasOneLine x
numbered_line terms i x (y, e, h) f = subst HasOneLine (same_Some y x (sym e ∙ f)) h

pub loaded_ends : LoadedEndsHaveLines
loaded_ends first terms ts graph l k n c =
    let p = all_ends l (λ m d. absurd (omega (arith, d.1))) k n c in (λ x e. numbered_line terms n.s.0 x p.subject e, λ x e. numbered_line terms n.o.0 x p.object e)
