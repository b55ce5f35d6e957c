-- Triples that are loaded into an empty graph bring three terms each at most.
use Rattle.std.proofs.Common.{◌≡◌, ◌∙◌, ap, sym, subst, ℕ, zero, suc, ◌+◌, ◌*◌, ◌≤◌, ◌<◌, List, [], ◌∷◌, ◌++◌, length, arith, Some, inl, inr, ◌⊎◌}
use Rattle.std.specs.Prelude.{All, Contains, slice_get}
use Rattle.std.proofs.lemmas.List.{length-append}
use Rattle.std.proofs.lemmas.List.Elements.{All-contains_itself, Contains-push_cases}
use Rattle.std.proofs.lemmas.Option.{slice_get_within}
use Rattle.rdf_terms.specs.declared.terms.Term.{Term}
use Rattle.rdf_terms.specs.declared.terms.Triple.{Triple}
use Rattle.graph_index.specs.Laws.{IsOfTable}
use Rattle.graph_index.specs.declared.loading.TermTriple.{TermTriple}
use Rattle.graph_index.specs.Loading.{IsNumbered, Loads, nothing, terms_of, triple}
use Rattle.lists.specs.Additions.{AddsAll}
use Rattle.lists.proofs.Additions.{all_grow, held_stays, all_few}
use Rattle.lists.proofs.Members.{got_in, not_in_none}

-- the numbers of each triple of the graph are those of terms of the table
abbrev AreBelow : List Term → List Triple → Type 0
AreBelow terms graph = (n : Triple) → Contains graph n → IsOfTable terms n

-- what is read within the front is of the front
front_get : {X : Type 0} (old behind : List X) (i : ℕ) (x : X) → i < length old → slice_get (old ++ behind) i ≡ Some x → slice_get old i ≡ Some x
front_get [] behind i x l h = absurd (omega (arith, l))
front_get (y ∷ old) behind zero x l h = h
front_get (y ∷ old) behind (suc i) x l h = front_get old behind i x (omega (arith, l)) h

was_held : (old mid : List Term) (i : ℕ) (t : Term) → ((behind : List Term) × (mid ≡ old ++ behind)) → i < length old → slice_get mid i ≡ Some t → Contains old t
was_held old mid i t (behind, e) l h = got_in old i t (front_get old behind i t l (sym (ap (λ z. slice_get z i) e) ∙ h))

-- a triple whose numbers the graph has brings no term
no_more : (old mid : List Term) (t : TermTriple) (n : Triple) → AddsAll old (terms_of t) mid → IsNumbered mid t n → IsOfTable old n → mid ≡ old
no_more old mid t n adds number below =
    let grown = all_grow old mid (terms_of t) adds in
    held_stays old mid (terms_of t)
    (was_held old mid n.s.0 t.subject grown below.subject number.subject, (was_held old mid n.p.0 t.predicate grown below.predicate number.predicate, (was_held old mid n.o.0 t.object grown below.object number.object, tt))) adds

longer : (old mid : List Term) → ((behind : List Term) × (mid ≡ old ++ behind)) → length old ≤ length mid
longer old mid (behind, e) = let n = ap length e in let m = length-append old behind in omega (arith, n, m)

below_on : (old mid : List Term) (n : Triple) → length old ≤ length mid → IsOfTable old n → IsOfTable mid n
below_on old mid n l b = record { subject = let h = b.subject in omega (arith, l, h); predicate = let h = b.predicate in omega (arith, l, h); object = let h = b.object in omega (arith, l, h) }

numbered_below : (mid : List Term) (t : TermTriple) (n : Triple) → IsNumbered mid t n → IsOfTable mid n
numbered_below mid t n number = record {
  subject = slice_get_within mid n.s.0 t.subject number.subject;
  predicate = slice_get_within mid n.p.0 t.predicate number.predicate;
  object = slice_get_within mid n.o.0 t.object number.object;
}

loads_few : (old new : List Term) (graph grown : List Triple) (ts : List TermTriple) → AreBelow old graph → Loads old graph ts new grown → length new + 3 * length graph ≤ length old + 3 * length grown
loads_few old new graph grown ts below nothing = omega arith
loads_few old new graph grown ts below (triple {mid = mid} {grown = g} {t = t} {ts = us} n adds number (inl (held, e)) others) =
    let same = no_more old mid t n adds number (below n held) in
    let rest = loads_few mid new g grown us (λ m h. subst (λ z. IsOfTable z m) (sym same) (below m (subst (λ z. Contains z m) e h))) others in
    let i : length mid ≡ length old = ap length same in
    let j : length g ≡ length graph = ap length e in
    omega (arith, rest, i, j)
loads_few old new graph grown ts below (triple {mid = mid} {grown = g} {t = t} {ts = us} n adds number (inr (fresh, e)) others) =
    let rest = loads_few mid new g grown us (λ m h. next m (Contains-push_cases graph n m (subst (λ z. Contains z m) e h))) others in
    let i = all_few old mid (terms_of t) adds in
    let j : length g ≡ length (graph ++ n ∷ []) = ap length e in
    let k = length-append graph (n ∷ []) in
    omega (arith, rest, i, j, k)
  where
    next : (m : Triple) → Contains graph m ⊎ (n ≡ m) → IsOfTable mid m
    next m (inl h) = below_on old mid m (longer old mid (all_grow old mid (terms_of t) adds)) (below m h)
    next m (inr same) = subst (λ z. IsOfTable mid z) same (numbered_below mid t n number)

pub few : (old new : List Term) (grown : List Triple) (ts : List TermTriple) → Loads old [] ts new grown → length new ≤ length old + 3 * length grown
few old new grown ts loads = let h = loads_few old new [] grown ts (λ n h. absurd (not_in_none n h)) loads in omega (arith, h)

-- each triple that is loaded is of the table
loads_below : (old new : List Term) (graph grown : List Triple) (ts : List TermTriple) → AreBelow old graph → Loads old graph ts new grown → AreBelow new grown
loads_below old new graph grown ts below nothing = below
loads_below old new graph grown ts below (triple {mid = mid} {grown = g} {t = t} {ts = us} n adds number added others) = loads_below mid new g grown us (next added) others
  where
    l : length old ≤ length mid
    l = longer old mid (all_grow old mid (terms_of t) adds)

    either : (m : Triple) → Contains graph m ⊎ (n ≡ m) → IsOfTable mid m
    either m (inl h) = below_on old mid m l (below m h)
    either m (inr same) = subst (λ z. IsOfTable mid z) same (numbered_below mid t n number)

    next : (Contains graph n × (g ≡ graph)) ⊎ ((¬ Contains graph n) × (g ≡ graph ++ n ∷ [])) → AreBelow mid g
    next (inl (held, e)) m h = below_on old mid m l (below m (subst (λ z. Contains z m) e h))
    next (inr (fresh, e)) m h = either m (Contains-push_cases graph n m (subst (λ z. Contains z m) e h))

pub of_table : (old new : List Term) (grown : List Triple) (ts : List TermTriple) → Loads old [] ts new grown → All (IsOfTable new) grown
of_table old new grown ts loads k d l = loads_below old new [] grown ts (λ n h. absurd (not_in_none n h)) loads _ (All-contains_itself grown k d l)
