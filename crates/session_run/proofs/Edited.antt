-- What an edit of a session is to a graph as a set.
use Rattle.std.proofs.Common.{◌≡◌, ◌∙◌, ap, sym, subst, List, [], ◌∷◌, inl, inr, ◌≤◌, length, Bool, true, false, true≢false}
use Rattle.std.proofs.lemmas.List.Elements.{Contains-append_cases, Contains-append_left, Contains-append_right}
use Rattle.std.proofs.lemmas.List.Sorted.{Contains-permutation, IsPermutation-sym}
use Rattle.std.proofs.lemmas.Option.{slice_get_within}
use Rattle.std.specs.Bool.{OnFalse, OnTrue}
use Rattle.std.specs.List.Sorted.{IsPermutation}
use Rattle.std.specs.Prelude.{◌↔◌, Contains, IsTrue}
use Rattle.graph_index.specs.Laws.{IsOfTable}
use Rattle.graph_index.specs.Loading.{IsNumbered, terms_of}
use Rattle.graph_index.specs.declared.loading.TermTriple.{TermTriple}
use Rattle.lists.specs.Additions.{Adds, AddsAll}
use Rattle.lists.specs.Distinct.{AreDistinct}
use Rattle.lists.proofs.Additions.{adds_distinct}
use Rattle.lists.proofs.Members.{in_one, in_rest, is_first, is_later}
use Rattle.rdf_terms.specs.Tables.{max_terms}
use Rattle.rdf_terms.specs.declared.terms.Term.{Term}
use Rattle.rdf_terms.specs.declared.terms.Triple.{Triple}
use Rattle.typing_session.specs.Seen.{Seen, with_graph, with_kept, with_terms}
use Rattle.part_laws.proofs.Sets.{left_over}
use Rattle.session_run.specs.Running.{Keeps, state_of}
use Rattle.session_run.specs.Script.{Edits, IsFullFor, IsWith, IsWithWithin, IsWithout}

-- ---- graphs

pub with_added : (old new : List Triple) (t : Triple) → AreDistinct old → Adds old t new → IsWith old t new
with_added old new t d (inl (held, same)) = record {
  distinct = subst AreDistinct (sym same) d;
  exactly = λ x. (
    (λ c. inl (subst (λ xs. Contains xs x) same c)),
    (λ c. subst (λ xs. Contains xs x) (sym same) (elim c [ inl was ↦ was | inr is ↦ subst (λ z. Contains old z) (sym is) held ])),
  );
}
with_added old new t d (inr (apart, grown)) = record {
  distinct = adds_distinct old new t d (inr (apart, grown));
  exactly = λ x. (
    (λ c. elim (Contains-append_cases old (t ∷ []) x (subst (λ xs. Contains xs x) grown c)) [ inl was ↦ inl was | inr is ↦ inr (sym (in_one t x is)) ]),
    (λ c. subst (λ xs. Contains xs x) (sym grown) (elim c [
      | inl was ↦ Contains-append_left old (t ∷ []) x was
      | inr is ↦ Contains-append_right old (t ∷ []) x (subst (λ z. Contains (t ∷ []) z) (sym is) (is_first t []))
    ])),
  );
}

without_removed : (old new : List Triple) (t : Triple) → AreDistinct old → IsPermutation old (t ∷ new) → IsWithout old t new
without_removed old new t d p =
    let (apart, gone) = left_over old new t d p in
    record {
      distinct = apart;
      exactly = λ x. (
        (λ c. (Contains-permutation (t ∷ new) old x (IsPermutation-sym old (t ∷ new) p) (is_later t new x c), (λ e. gone (subst (λ z. Contains new z) e c)))),
        (λ (c, other). elim (in_rest t new x (Contains-permutation old (t ∷ new) x p c)) [
          | inl is ↦ absurd (other (sym is))
          | inr later ↦ later
        ]),
      );
    }

without_absent : (old new : List Triple) (t : Triple) → AreDistinct old → ¬ Contains old t → new ≡ old → IsWithout old t new
without_absent old new t d apart same = record {
  distinct = subst AreDistinct (sym same) d;
  exactly = λ x. (
    (λ c. (let was = subst (λ xs. Contains xs x) same c in (was, (λ e. apart (subst (λ z. Contains old z) e was))))),
    (λ (c, other). subst (λ xs. Contains xs x) (sym same) c),
  );
}

-- what a removal answers tells which
pub without : (old new : List Triple) (t : Triple) (b : Bool) → AreDistinct old → IsTrue b ↔ Contains old t → OnTrue b (IsPermutation old (t ∷ new)) → OnFalse b (new ≡ old) → IsWithout old t new
without old new t true d held removed same = without_removed old new t d removed
without old new t false d held removed same = without_absent old new t d (λ c. true≢false (sym (held.1 c))) same

-- ---- sessions

pub keeps_on : (a b c : Seen) → Keeps a b → Keeps b c → Keeps a c
keeps_on a b c h k = record { schema = k.schema ∙ h.schema; strata = k.strata ∙ h.strata; budget = k.budget ∙ h.budget }

pub terms_keep : (first mid : Seen) → mid ≡ with_terms mid.terms first → Keeps first mid
terms_keep first mid e = record { schema = ap (λ (x : Seen). x.schema) e; strata = ap (λ (x : Seen). x.strata) e; budget = ap (λ (x : Seen). x.budget) e }

pub graph_keeps : (mid last : Seen) → last ≡ with_graph last.graph last.kept mid → Keeps mid last
graph_keeps mid last e = record { schema = ap (λ (x : Seen). x.schema) e; strata = ap (λ (x : Seen). x.strata) e; budget = ap (λ (x : Seen). x.budget) e }

pub kept_keeps : (mid last : Seen) → last ≡ with_kept last.kept mid → Keeps mid last
kept_keeps mid last e = record { schema = ap (λ (x : Seen). x.schema) e; strata = ap (λ (x : Seen). x.strata) e; budget = ap (λ (x : Seen). x.budget) e }

pub graph_same : (first mid : Seen) → mid ≡ with_terms mid.terms first → mid.graph ≡ first.graph
graph_same first mid e = ap (λ (x : Seen). x.graph) e

module _ (first mid last : Seen) (t : TermTriple) (n : Triple) (by_terms : mid ≡ with_terms mid.terms first) (by_graph : last ≡ with_graph last.graph last.kept mid)
    (takes : AddsAll first.terms (terms_of t) mid.terms) (few : length mid.terms ≤ max_terms) (numbered : IsNumbered mid.terms t n) where
  terms_stay : last.terms ≡ mid.terms
  terms_stay = ap (λ (x : Seen). x.terms) by_graph

  pub edits : (Changes : List Triple → Triple → List Triple → Type 0) → Changes first.graph n last.graph → Edits Changes (state_of first) t (state_of last)
  edits Changes changes = record {
    takes = subst (λ ts. AddsAll first.terms (terms_of t) ts) (sym terms_stay) takes;
    few = subst (λ ts. length ts ≤ max_terms) (sym terms_stay) few;
    number = n;
    numbered = subst (λ ts. IsNumbered ts t n) (sym terms_stay) numbered;
    changes = changes;
  }

  pub edit_keeps : Keeps first last
  edit_keeps = keeps_on first mid last (terms_keep first mid by_terms) (graph_keeps mid last by_graph)

  same_graph : mid.graph ≡ first.graph
  same_graph = graph_same first mid by_terms

  pub added : AreDistinct first.graph → Adds mid.graph n last.graph → ¬ IsFullFor mid.graph n → Edits IsWithWithin (state_of first) t (state_of last)
  added d adds room = edits IsWithWithin (
    with_added first.graph last.graph n d (subst (λ g. Adds g n last.graph) same_graph adds),
    (λ full. room (subst (λ g. IsFullFor g n) (sym same_graph) full)),
  )

  pub removed : AreDistinct first.graph → (b : Bool) → IsTrue b ↔ Contains mid.graph n → OnTrue b (IsPermutation mid.graph (n ∷ last.graph)) →
      OnFalse b (last ≡ mid) → Edits IsWithout (state_of first) t (state_of last)
  removed d b held was same = edits IsWithout (without first.graph last.graph n b d
      (subst (λ g. IsTrue b ↔ Contains g n) same_graph held) (subst (λ g. OnTrue b (IsPermutation g (n ∷ last.graph))) same_graph was) (on_false b same))
    where
      on_false : (x : Bool) → OnFalse x (last ≡ mid) → OnFalse x (last.graph ≡ first.graph)
      on_false true h = tt
      on_false false h = ap (λ (z : Seen). z.graph) h ∙ same_graph

-- the numbers of a triple are of the table
pub numbered_of : (terms : List Term) (t : TermTriple) (n : Triple) → IsNumbered terms t n → IsOfTable terms n
numbered_of terms t n h = record {
  subject = slice_get_within terms n.s.0 t.subject h.subject;
  predicate = slice_get_within terms n.p.0 t.predicate h.predicate;
  object = slice_get_within terms n.o.0 t.object h.object;
}

pub full_first : (first mid : Seen) (n : Triple) → mid ≡ with_terms mid.terms first → IsFullFor mid.graph n → IsFullFor first.graph n
full_first first mid n e full = subst (λ g. IsFullFor g n) (graph_same first mid e) full
