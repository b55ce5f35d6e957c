-- What rows lend by places is what their triples are.
use Rattle.std.proofs.Common.{◌≡◌, ◌≢◌, ℕ, ◌<◌, ◌⊎◌, inl, inr, List, [], ◌∷◌, ◌++◌, refl, ap, sym, ◌∙◌, arith, Bool, filter, nat_eq, not, All, Some, Option, eq-eqb, get_or, cond, subst}
use Rattle.std.proofs.lemmas.Bool.{ne_eqb}
use Rattle.std.proofs.lemmas.List.Elements.{All-filter}
use Rattle.std.specs.Option.{IsSomeAnd}
use Rattle.rdf_terms.specs.declared.terms.Term.{Term}
use Rattle.rdf_terms.specs.declared.terms.TermId.{TermId}
use Rattle.rdf_terms.specs.declared.terms.Triple.{Triple}
use Rattle.rdf_terms.specs.Graphs.{outs, ins, same_id, is_loop}
use Rattle.rdf_terms.specs.Order.{neighbourhood, by_object}
use Rattle.lists.specs.Sorting.{sorted_by}
use Rattle.graph_index.specs.Contents.{Arrangement, Contents, IsArranged, IsSealedWith}
use Rattle.graph_index.specs.Places.{place_of, AreApart, FollowTexts, IsPlaced}
use Rattle.graph_index.specs.Rows.{arcs_at, node_at, AreArranged}
use Rattle.graph_index.specs.declared.ends.End.{End}
use Rattle.graph_index.specs.declared.ends.End.TheVariants.{Subject, Object}
use Rattle.graph_index.proofs.Blocks.{none_pass}
use Rattle.graph_index.proofs.Noted.{id_is, same_or}
use Rattle.lists.proofs.Filters.{filter_comm}

-- tests that agree keep the same
filter_alike : {X : Type 0} (p q : X → Bool) → ((x : X) → p x ≡ q x) → (xs : List X) → filter p xs ≡ filter q xs
filter_alike p q same [] = refl
filter_alike {X = X} p q same (x ∷ xs) = ap (λ b. cond b (x ∷ filter p xs) (filter p xs)) (same x) ∙ ap (λ (ys : List X). cond (q x) (x ∷ ys) ys) (filter_alike p q same xs)

pub none_unplaced : (places : List ℕ) (rows : List Triple) (p : TermId) → All (IsPlaced places) rows → place_of places p ≡ 0 → filter (λ t. same_id t.p p) rows ≡ []
none_unplaced places rows p all none =
    none_pass (λ t. same_id t.p p) rows (λ k d l. ne_eqb (get_or rows k d).p.0 p.0 (λ e.
    let placed : 0 < place_of places (get_or rows k d).p = (all k d l).predicate in
    let same : place_of places (get_or rows k d).p ≡ place_of places p = ap (place_of places) (id_is (get_or rows k d).p p e) in
    omega (arith, placed, same, none)))

pub of_one_place : (places : List ℕ) (rows : List Triple) (p : TermId) (place : ℕ) → AreApart places → place ≡ place_of places p → place ≢ 0 →
    filter (λ t. nat_eq (place_of places t.p) place) rows ≡ filter (λ t. same_id t.p p) rows
of_one_place places rows p place apart is some = filter_alike (λ t. nat_eq (place_of places t.p) place) (λ t. same_id t.p p) (λ t. by t (same_or t.p.0 p.0)) rows
  where
    by : (t : Triple) → (t.p.0 ≡ p.0) ⊎ (t.p.0 ≢ p.0) → nat_eq (place_of places t.p) place ≡ same_id t.p p
    by t (inl e) = eq-eqb (place_of places t.p) place (ap (place_of places) (id_is t.p p e) ∙ sym is) ∙ sym (eq-eqb t.p.0 p.0 e)
    by t (inr e) =
        ne_eqb (place_of places t.p) place (λ same. e (sym (apart p t.p (let a = is in omega arith) (sym is ∙ sym same))))
        ∙ sym (ne_eqb t.p.0 p.0 e)

-- the rows of both orders
pub both_arranged :
    (terms : List Term) (places lent also : List ℕ) (triples out_rows in_rows : List Triple) → lent ≡ places → also ≡ places → FollowTexts terms places → All (IsPlaced places) triples →
    AreArranged Subject lent triples out_rows → AreArranged Object also triples in_rows → IsArranged terms triples (record { outward = out_rows; inward = in_rows })
both_arranged terms places lent also triples out_rows in_rows is as_well follow all a b = record {
  outward = λ n. (subst (λ (v : List ℕ). AreArranged Subject v triples out_rows) is a).in_texts terms follow all n;
  inward = λ n. (subst (λ (v : List ℕ). AreArranged Object v triples in_rows) as_well b).in_texts terms follow all n;
}

-- the rows of a node have places too
pub node_placed : (end : End) (places lent : List ℕ) (rows own : List Triple) (n : TermId) → lent ≡ places → own ≡ arcs_at end rows n → All (IsPlaced places) rows → All (IsPlaced lent) own
node_placed end places lent rows own n f g all =
    subst (λ (v : List ℕ). All (IsPlaced v) own) (sym f) (subst (All (IsPlaced places)) (sym g) (All-filter (λ t. same_id (node_at end t) n) (IsPlaced places) rows all))

-- a sealed graph lends these rows
pub sealed_rows : (terms : List Term) (g : Contents) (a : Arrangement) → g.lent ≡ Some a → IsSealedWith terms g → IsArranged terms g.triples a
sealed_rows terms g a is sealed = subst (λ (o : Option Arrangement). IsSomeAnd o (IsArranged terms g.triples)) is sealed

-- the neighbourhood that they lend
pub lent_neighbourhood :
    (terms : List Term) (g : Contents) (a : Arrangement) (n : TermId) → IsArranged terms g.triples a → outs a.outward n ++ filter (λ t. not (is_loop t))
    (ins a.inward n) ≡ neighbourhood terms g.triples n
lent_neighbourhood terms g a n h =
    ap (λ (ts : List Triple). ts ++ filter (λ t. not (is_loop t)) (ins a.inward n)) (h.outward n)
    ∙ ap (λ (ts : List Triple). sorted_by (by_object terms) (outs g.triples n) ++ filter (λ t. not (is_loop t)) ts) (h.inward n)

-- of a node, what is no loop
pub of_others : (rows others : List Triple) (n : TermId) → others ≡ filter (λ t. not (is_loop t)) rows → ins others n ≡ filter (λ t. not (is_loop t)) (ins rows n)
of_others rows others n is = ap (λ (ts : List Triple). ins ts n) is ∙ filter_comm (λ t. same_id t.o n) (λ t. not (is_loop t)) rows

pub two_lists :
    (one other : End) (out_rows in_rows others outward inward : List Triple) (n : TermId) → one ≡ Subject → other ≡ Object → outward ≡ arcs_at one out_rows n → inward ≡ arcs_at other others n →
    arcs_at Object others n ≡ filter (λ t. not (is_loop t)) (arcs_at Object in_rows n) → outward ++ inward ≡ outs out_rows n ++ filter (λ t. not (is_loop t)) (ins in_rows n)
two_lists one other out_rows in_rows others outward inward n e f g h is =
    ap (λ (ts : List Triple). ts ++ inward) (g ∙ ap (λ end. arcs_at end out_rows n) e)
    ∙ ap (λ (ts : List Triple). outs out_rows n ++ ts) (h ∙ ap (λ end. arcs_at end others n) f ∙ is)
