-- What halving finds among states that strictly rise.
use Rattle.std.proofs.Common.{◌≡◌, ℕ, ◌<◌, inl, inr, List, [], ◌∷◌, sym, ◌∙◌, ap, subst, length, get_or, Ok, Err}
use Rattle.std.proofs.lemmas.Cmp.{nat_cmp_total, nat_list_cmp_total, then_total}
use Rattle.std.proofs.lemmas.List.{map-id}
use Rattle.std.proofs.lemmas.Map.Lookups.{exact_bytes, exact_pairs, exact_unsigned}
use Rattle.std.specs.Cmp.{IsTotalOrder, nat_cmp_is, on_total}
use Rattle.std.specs.Cmp.Lexicographic.{slice_cmp}
use Rattle.std.specs.List.{AllByRecursion}
use Rattle.std.specs.List.Sorted.{IsBinarySearchResult, IsStrictlySortedBy}
use Rattle.std.specs.Ordering.{nat_cmp, ordering_then}
use Rattle.std.specs.Prelude.{Contains}
use Rattle.std.specs.declared.cmp.Ordering.TheVariants.{Less, Equal}
use Rattle.schema_tree.specs.declared.verdicts.State.{State}
use Rattle.lists.proofs.Halving.{not_missed}
use Rattle.schema_tree.specs.States.{IsStateBefore}
use Rattle.schema_tree.specs.Rising.{Rises, RisesFrom}
use Rattle.proof_checker.specs.Stated.{compare_states}

states_total : IsTotalOrder compare_states
states_total = then_total (on_total (λ (x : State). x.done) nat_cmp_total) (on_total (λ (x : State). x.counts) nat_list_cmp_total)

-- one state is before another by their order
before_less : (a b : State) → IsStateBefore a b → compare_states a b ≡ Less
before_less a b (inl lt) = ap (λ r. ordering_then r (slice_cmp nat_cmp a.counts b.counts)) (sym (nat_cmp_is a.done b.done Less lt))
before_less a b (inr (same, less)) = ap (λ r. ordering_then r (slice_cmp nat_cmp a.counts b.counts)) (sym (nat_cmp_is a.done b.done Equal same)) ∙ less

all_past : (x y : State) (ys : List State) → compare_states x y ≡ Less → AllByRecursion (λ z. compare_states y z ≡ Less) ys → AllByRecursion (λ z. compare_states x z ≡ Less) ys
all_past x y [] less all = tt
all_past x y (z ∷ zs) less (first, rest) = (states_total.trans x y z less first, all_past x y zs less rest)

-- states of which each comes before the next strictly rise
sorted_from : (x : State) (xs : List State) → RisesFrom IsStateBefore x xs → AllByRecursion (λ z. compare_states x z ≡ Less) xs × IsStrictlySortedBy compare_states xs
unfolding IsStrictlySortedBy
sorted_from x [] h = (tt, tt)
sorted_from x (y ∷ ys) (before, rest) =
    let less = before_less x y before in
    let (all, sorted) = sorted_from y ys rest in
    ((less, all_past x y ys less all), (all, sorted))

pub sorted : (xs : List State) → Rises IsStateBefore xs → IsStrictlySortedBy compare_states xs
unfolding IsStrictlySortedBy
sorted [] h = tt
sorted (x ∷ xs) h = sorted_from x xs h

-- what ties is one
states_one : (a b : State) → compare_states a b ≡ Equal → a ≡ b
states_one a b tied =
    let p = exact_pairs nat_cmp (slice_cmp nat_cmp) exact_unsigned exact_bytes (a.done, a.counts) (b.done, b.counts) tied in
    λ i. record { done = (p i).0; counts = (p i).1 }

-- a state that is listed is not missed
pub missed : (xs : List State) (x : State) (i : ℕ) → Rises IsStateBefore xs → IsBinarySearchResult (λ y. compare_states y x) xs (Err i) → ¬ Contains xs x
missed xs x i rises found held =
    not_missed compare_states states_total (λ y. y) xs (subst (IsStrictlySortedBy compare_states) (sym (map-id xs)) (sorted xs rises)) x i
    (subst (λ zs. Contains zs x) (sym (map-id xs)) held) found

-- and what is found is listed
pub listed : (xs : List State) (x : State) (i : ℕ) → i < length xs → IsBinarySearchResult (λ y. compare_states y x) xs (Ok i) → Contains xs x
listed xs x i within found = (i, within, states_one (get_or xs i x) x (found x))
