-- Places of nodes, which are written one by one at the numbers of these nodes in the table, and what is made by them.
use Rattle.std.proofs.Common.{◌≡◌, ◌≢◌, ◌∙◌, ◌+◌, ◌<◌, ◌≤◌, ◌⊎◌, ℕ, List, [], ◌∷◌, Some, ap, arith, inl, inr, length, map, refl, subst, sym, take}
use Rattle.std.proofs.Common.{get_or, get_or-set_other, get_or-set_same, replicate, set}
use Rattle.std.specs.Prelude.{◌↔◌, Contains, slice_get}
use Rattle.std.specs.List.{AllZip}
use Rattle.std.proofs.lemmas.List.{length-replicate}
use Rattle.std.proofs.lemmas.Option.{slice_get-get_or}
use Rattle.std.proofs.Math.ListN.{length-set}
use Rattle.lists.proofs.Fronts.{all_taken, take_cases}
use Rattle.lists.proofs.Members.{is_first, is_later, not_in_none}
use Rattle.rdf_terms.specs.declared.terms.Term.{Term}
use Rattle.rdf_terms.specs.declared.terms.TermId.{TermId}
use Rattle.schema_tree.specs.declared.schema.Answer.{Answer}
use Rattle.proof_file.specs.declared.Claim.{Claim}
use Rattle.proof_file.specs.declared.Section.{Section}
use Rattle.typing_answers.specs.Numbering.{HasPlaces, IsClaimOf, IsPlace, claim_by, place_in}
use Rattle.typing_answers.specs.Proofs.{AreInRange, IsAnswered}

-- the first i nodes have their places in a list of that length
pub record AreWritten (len : ℕ) (nodes : List TermId) (i : ℕ) (places : List ℕ) : Type 0 where
  pub size : length places ≡ len
  pub found : (n : TermId) → Contains (take i nodes) n → IsPlace nodes n (place_in places n)

pub none_written : (len : ℕ) (nodes : List TermId) (places : List ℕ) → places ≡ replicate len 0 → AreWritten len nodes 0 places
none_written len nodes places blank = record {
  size = ap length blank ∙ length-replicate {A = ℕ} len 0;
  found = λ n c. absurd (not_in_none n c);
}

-- the node of the one number is the other
is_node : (n m : TermId) → n.0 ≡ m.0 → n ≡ m
is_node n m e = λ i. record { 0 = e i }

same_or : (x y : ℕ) → (x ≡ y) ⊎ (x ≢ y)
same_or x y = by (order x y)
  where
    order : (x y : ℕ) → (x ≡ y) ⊎ ((x < y) ⊎ (y < x))
    order x y = grind arith

    by : (x ≡ y) ⊎ ((x < y) ⊎ (y < x)) → (x ≡ y) ⊎ (x ≢ y)
    by (inl e) = inl e
    by (inr (inl l)) = inr (λ e. omega arith)
    by (inr (inr l)) = inr (λ e. omega arith)

pub one_more_written : (len : ℕ) (nodes : List TermId) (i : ℕ) (places : List ℕ) (n : TermId) → i < length nodes → n.0 < len →
    ((d : TermId) → n ≡ get_or nodes i d) → AreWritten len nodes i places → AreWritten len nodes (i + 1) (set places n.0 i)
one_more_written len nodes i places n here fits own h = record {
  size = length-set places n.0 i ∙ h.size;
  found = λ m c. by m (take_cases nodes i n m here c) (same_or n.0 m.0);
}
  where
    inside : n.0 < length places
    inside = let e = h.size in omega (arith, e, fits)

    at_own : IsPlace nodes n (place_in (set places n.0 i) n)
    at_own = ap (slice_get nodes) (get_or-set_same places n.0 i 0 inside) ∙ slice_get-get_or nodes i n here ∙ ap (λ (z : TermId). Some z) (sym (own n))

    of_own : (m : TermId) → n ≡ m → IsPlace nodes m (place_in (set places n.0 i) m)
    of_own m e = subst (λ (z : TermId). IsPlace nodes z (place_in (set places n.0 i) z)) e at_own

    by : (m : TermId) → Contains (take i nodes) m ⊎ (get_or nodes i n ≡ m) → (n.0 ≡ m.0) ⊎ (n.0 ≢ m.0) → IsPlace nodes m (place_in (set places n.0 i) m)
    by m c (inl same) = of_own m (is_node n m same)
    by m (inl before) (inr other) = ap (slice_get nodes) (get_or-set_other places n.0 m.0 i 0 (λ e. other (sym e))) ∙ h.found m before
    by m (inr is) (inr other) = of_own m (own n ∙ is)

pub all_written : (len : ℕ) (nodes : List TermId) (i : ℕ) (places : List ℕ) → length nodes ≤ i → ((n : TermId) → Contains nodes n → n.0 < len) →
    AreWritten len nodes i places → HasPlaces nodes places
all_written len nodes i places whole below h = record {
  within = λ n c. subst (λ z. n.0 < z) (sym h.size) (below n c);
  found = λ n c. h.found n (all_taken nodes i n whole c);
}

-- ---- what is made by places

-- the nodes are of the table
pub of_table : (terms : List Term) (own recorded distinct nodes : List TermId) (sections : List Section) (answers : List Answer) →
    recorded ≡ own → nodes ≡ distinct → ((n : TermId) → Contains distinct n ↔ (Contains recorded n ⊎ IsAnswered answers n)) →
    AreInRange terms own sections answers → (n : TermId) → Contains nodes n → n.0 < length terms
of_table terms own recorded distinct nodes sections answers lent same exactly range n c = elim ((exactly n).0 (subst (λ ns. Contains ns n) same c)) [
  | inl held ↦ range.recorded n (subst (λ os. Contains os n) lent held)
  | inr answered ↦ subst (λ (m : TermId). m.0 < length terms) answered.2 (range.answered answered.0 answered.1)
]

-- the nodes of records and of answers are among the nodes, and the list has the places of these
pub record ArePlaced (recorded nodes : List TermId) (answers : List Answer) (by_number : List ℕ) : Type 0 where
  pub own : (n : TermId) → Contains recorded n → Contains nodes n
  pub answered : (x : Answer) → Contains answers x → Contains nodes x.node
  pub places : HasPlaces nodes by_number

pub are_placed : (recorded distinct nodes : List TermId) (answers : List Answer) (placed by_number : List ℕ) → nodes ≡ distinct →
    ((n : TermId) → Contains distinct n ↔ (Contains recorded n ⊎ IsAnswered answers n)) → by_number ≡ placed → HasPlaces nodes placed →
    ArePlaced recorded nodes answers by_number
are_placed recorded distinct nodes answers placed by_number lent exactly lent_places has = record {
  own = λ n c. subst (λ ns. Contains ns n) (sym lent) ((exactly n).1 (inl c));
  answered = λ x c. subst (λ ns. Contains ns x.node) (sym lent) ((exactly x.node).1 (inr (x, c, refl)));
  places = subst (HasPlaces nodes) (sym lent_places) has;
}

module _ (recorded nodes : List TermId) (answers : List Answer) (by_number : List ℕ) (are : ArePlaced recorded nodes answers by_number) where
  -- the list is long enough for each node
  pub own_within : (n : TermId) → Contains recorded n → n.0 < length by_number
  own_within n c = are.places.within n (are.own n c)

  pub answered_within : (x : Answer) → Contains answers x → x.node.0 < length by_number
  answered_within x c = are.places.within x.node (are.answered x c)

  nodes_beside : (own : List TermId) → ((n : TermId) → Contains own n → Contains nodes n) → AllZip (IsPlace nodes) own (map (place_in by_number) own)
  nodes_beside [] held = tt
  nodes_beside (n ∷ own) held = (are.places.found n (held n (is_first n own)), nodes_beside own (λ m c. held m (is_later n own m c)))

  claims_of_all : (xs : List Answer) → ((x : Answer) → Contains xs x → Contains nodes x.node) →
      AllZip (IsClaimOf nodes) xs (map (claim_by by_number) xs)
  claims_of_all [] held = tt
  claims_of_all (x ∷ xs) held = (
    record { node = are.places.found x.node (held x (is_first x xs)); target = refl; holds = refl },
    claims_of_all xs (λ y c. held y (is_later x xs y c)),
  )

  -- the places of the nodes of records, and the claims of answers
  pub own_beside : (places : List ℕ) → places ≡ map (place_in by_number) recorded → AllZip (IsPlace nodes) recorded places
  own_beside places made = subst (AllZip (IsPlace nodes) recorded) (sym made) (nodes_beside recorded are.own)

  pub claims_beside : (claims : List Claim) → claims ≡ map (claim_by by_number) answers → AllZip (IsClaimOf nodes) answers claims
  claims_beside claims made = subst (AllZip (IsClaimOf nodes) answers) (sym made) (claims_of_all answers are.answered)
