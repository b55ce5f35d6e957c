-- States and their counts, one at a time.
use Rattle.std.proofs.Common.{◌≡◌, ℕ, suc, ◌+◌, ◌<◌, ◌≤◌, ◌⊎◌, inl, inr, length, get_or, List, [], ◌∷◌, refl, arith, ap, sym, subst, ◌∙◌, Bool, true, false, take, true≢false}
use Rattle.std.proofs.lemmas.List.Elements.{Contains-get_or}
use Rattle.std.proofs.lemmas.Option.{slice_get-get_or}
use Rattle.std.specs.Prelude.{Contains, IsTrue, Option, Some, ◌↔◌, slice_get, slice_index, ◌^◌, drop}
use Rattle.rdf_terms.specs.declared.terms.TermId.{TermId}
use Rattle.rdf_terms.specs.declared.terms.Triple.{Triple}
use Rattle.schema_tree.specs.declared.schema.ExprId.{ExprId}
use Rattle.schema_tree.specs.declared.schema.Shape.{Shape}
use Rattle.schema_tree.specs.declared.schema.Occurrence.{Occurrence}
use Rattle.schema_tree.specs.declared.verdicts.Place.{Place}
use Rattle.schema_tree.specs.declared.verdicts.State.{State}
use Rattle.schema_tree.specs.States.{IsCovered, IsDead, after, opening}
use Rattle.proof_file.specs.Accepts.{AreStates}
use Rattle.bag_match.specs.Counts.{AreLeft, ArePlacesOf, IsPlaceOf, raised, state_of}
use Rattle.bag_match.specs.Least.{ArePlacesFor}
use Rattle.proof_checker.specs.Stated.{AllLeadOn, AreShaped, DecideSettled, IsSettled, IsShapedAt}
use Rattle.bag_match.proofs.Stepping.{after_is as after_place, drop_few, left_few, places_now}
use Rattle.lists.proofs.Fronts.{all_taken, take_cases}
use Rattle.lists.proofs.Members.{item_there, not_in_none}

suc-add_one : (k : ℕ) → suc k ≡ k + 1
suc-add_one k = omega arith

-- the state after a place
after_is : (done : ℕ) (counts : List ℕ) (p : Place) → after p (state_of done counts) ≡ state_of (done + 1) (raised counts p)
after_is done counts p = after_place (state_of done counts) p ∙ ap (λ k. state_of k (raised counts p)) (suc-add_one done)

-- the states one by one are the states at once
module _ (hold fail : TermId → Option ExprId → Type 0) (sh : Shape) (n : TermId) (ts : List Triple) (states : List State) where
  pub states_from : AreShaped sh ts states → IsCovered sh n ts states (opening sh) →
      ((x : State) → Contains states x → IsSettled hold fail sh n ts states x) → AreStates hold fail sh n ts states
  states_from shaped opened settled = record {
    closed = record {
      shaped = λ x c. let (len, done, counts) = shaped x c in (len, done);
      unfinished = λ x c alive. elim (settled x c) [ inl dead ↦ absurd (alive dead) | inr on ↦ on.0 ];
      steps = λ x c alive t at p allowed. elim (settled x c) [ inl dead ↦ absurd (alive dead) | inr on ↦ on.1 t at p allowed ];
    };
    counted = λ x c. let (len, done, counts) = shaped x c in counts;
    opened = opened;
  }

  pub states_shaped : AreStates hold fail sh n ts states → AreShaped sh ts states
  states_shaped h x c = let (len, done) = h.closed.shaped x c in (len, done, h.counted x c)

  pub states_settled : AreStates hold fail sh n ts states → (x : State) → Contains states x → ¬ ¬ IsSettled hold fail sh n ts states x
  states_settled h x c not_so =
      let alive : ¬ IsDead sh n ts x = λ dead. not_so (inl dead) in
      not_so (inr (h.closed.unfinished x c alive, λ t at p. h.closed.steps x c alive t at p))

-- of two ways the first fails
pub second_way : {A B : Type 0} (b : Bool) → (¬ A) → (IsTrue b ↔ B) → IsTrue b ↔ (A ⊎ B)
second_way b not_a same = ((λ h. inr (same.0 h)), λ way. elim way [ inl a ↦ absurd (not_a a) | inr h ↦ same.1 h ])

-- a count with the later triples that fit is small
pub sums_fit : (occs : List Occurrence) (n : TermId) (ts : List Triple) (done : ℕ) (counts left : List ℕ) → AreLeft occs n (drop done ts) left → length ts < 2 ^ 31 →
    ((i : ℕ) → slice_index counts i < 2 ^ 31 + 1) → (i : ℕ) → slice_index counts i + slice_index left i < 2 ^ 32
sums_fit occs n ts done counts left held few small i =
    let a = small i in
    let b = left_few occs n (drop done ts) left held i in
    let c = drop_few done ts in
    omega (arith, a, b, c, few)

-- the counts of a state of a layer, as they are lent
module _ (sh : Shape) (ts : List Triple) (done : ℕ) (x : State) (counts : List ℕ) (lent : counts ≡ x.counts) (shaped : IsShapedAt sh ts done x) where
  pub layer_state : state_of done counts ≡ x
  layer_state = λ i. record { done = sym shaped.0 i; counts = lent i }

  pub layer_long : length counts ≡ length sh.occs
  layer_long = let (long, most, few) = shaped.1 in ap (λ z. length z) lent ∙ long

  pub layer_small : length ts < 2 ^ 31 → (i : ℕ) → slice_index counts i < 2 ^ 31
  layer_small little i =
      let (long, most, few) = shaped.1 in
      let le : slice_index counts i ≤ length ts = subst (λ z. slice_index z i ≤ length ts) (sym lent) (few i) in
      omega (arith, le, little)

module _ (sh : Shape) (n : TermId) (ts : List Triple) (states : List State) where
  -- a place leads on where the state of the raised counts is covered
  pub leads : (done : ℕ) (counts : List ℕ) (p : Place) (now : List ℕ) (b : Bool) → now ≡ raised counts p →
      (IsTrue b ↔ IsCovered sh n ts states (state_of (done + 1) now)) → IsTrue b ↔ IsCovered sh n ts states (after p (state_of done counts))
  leads done counts p now b is covered =
      subst (λ x. IsTrue b ↔ IsCovered sh n ts states x) (ap (λ z. state_of (done + 1) z) is ∙ sym (after_is done counts p)) covered

  -- one more of the places leads on
  pub one_more_leads : (x : State) (places : List Place) (i : ℕ) (d : Place) → i < length places → AllLeadOn sh n ts states x (take i places) →
      IsCovered sh n ts states (after (get_or places i d) x) → AllLeadOn sh n ts states x (take (i + 1) places)
  one_more_leads x places i d within before own q h = elim (take_cases places i d q within h) [
    | inl front ↦ before q front
    | inr same ↦ subst (λ r. IsCovered sh n ts states (after r x)) same own
  ]

  -- the next of the places leads on or not, where counts that are the same are held
  module _ (done : ℕ) (counts held : List ℕ) (same : held ≡ counts) (places : List Place) (i : ℕ) (d : Place) (within : i < length places) where
    abbrev Covered : List ℕ → Type 0
    Covered z = IsCovered sh n ts states (after (get_or places i d) (state_of done z))

    pub next_leads : (IsTrue true ↔ Covered held) → AllLeadOn sh n ts states (state_of done counts) (take i places) →
        AllLeadOn sh n ts states (state_of done counts) (take (i + 1) places)
    next_leads leads before = one_more_leads (state_of done counts) places i d within before (subst Covered same (leads.0 refl))

    pub next_leads_not : (IsTrue false ↔ Covered held) → ¬ AllLeadOn sh n ts states (state_of done counts) places
    next_leads_not leads all =
        true≢false (sym (leads.1 (subst Covered (sym same) (all (get_or places i d) (Contains-get_or places i d within)))))

-- a place that is there among counts is there among the same counts
pub held_there : (counts held : List ℕ) (places : List Place) (i : ℕ) (d : Place) → held ≡ counts → ArePlacesOf (length counts) places → i < length places →
    IsPlaceOf (length held) (get_or places i d)
held_there counts held places i d same there within =
    subst (λ z. IsPlaceOf (length z) (get_or places i d)) (sym same) (there (get_or places i d) (Contains-get_or places i d within))

module _ (hold fail : TermId → Option ExprId → Type 0) (sh : Shape) (n : TermId) (ts : List Triple) (states : List State) where
  -- a state with triples left, from which each place that is allowed for the next leads on, is settled
  module _ (done : ℕ) (counts : List ℕ) (places : List Place) (within : done < length ts) (are : (t : Triple) → slice_get ts done ≡ Some t → ArePlacesFor hold fail sh n t places) where
    pub settled_on : AllLeadOn sh n ts states (state_of done counts) places → IsSettled hold fail sh n ts states (state_of done counts)
    settled_on all = inr (within, λ t at p allowed. all p (((are t at).same p).1 allowed))

    -- where some place does not, the state is settled where it is dead
    pub settled_dead : (b : Bool) → (¬ AllLeadOn sh n ts states (state_of done counts) places) →
        (IsTrue b ↔ IsDead sh n ts (state_of done counts)) → IsTrue b ↔ IsSettled hold fail sh n ts states (state_of done counts)
    settled_dead b stuck same = ((λ h. inl (same.0 h)), λ settled. back settled)
      where
        back : IsSettled hold fail sh n ts states (state_of done counts) → IsTrue b
        back (inl dead) = same.1 dead
        back (inr on) =
            let (d, offered) = places_now hold fail sh n ts done places within are in
            absurd (stuck (λ p h. on.1 (get_or ts done d) (slice_get-get_or ts done d within) p ((offered.same p).0 h)))

  -- a state with all triples done is settled where it is dead
  pub settled_last : (x : State) → x.done ≡ length ts → IsSettled hold fail sh n ts states x → IsDead sh n ts x
  settled_last x last (inl dead) = dead
  settled_last x last (inr on) = absurd (let lt = on.0 in omega (arith, last, lt))

  -- one more state is settled
  pub one_more_settled : (some : List State) (i : ℕ) (x : State) → i < length some → x ≡ get_or some i x → ((y : State) → Contains (take i some) y → IsSettled hold fail sh n ts states y) →
      IsSettled hold fail sh n ts states x → (y : State) → Contains (take (i + 1) some) y → IsSettled hold fail sh n ts states y
  one_more_settled some i x within is before own y h = elim (take_cases some i x y within h) [
    | inl front ↦ before y front
    | inr same ↦ subst (λ z. IsSettled hold fail sh n ts states z) (is ∙ same) own
  ]

  -- all of them are
  pub all_are : (some : List State) (i : ℕ) → length some ≤ i → ((y : State) → Contains (take i some) y → IsSettled hold fail sh n ts states y) → DecideSettled hold fail sh n ts states some true
  all_are some i past each = record {
    settled = λ so x h. each x (all_taken some i x past h);
    unsettled = λ e. absurd (true≢false e);
  }

  -- of none all are
  pub none_are : (some : List State) → length some ≡ 0 → DecideSettled hold fail sh n ts states some true
  none_are [] none = record {
    settled = λ so x h. absurd (not_in_none x h);
    unsettled = λ e. absurd (true≢false e);
  }
  none_are (x ∷ some) none = absurd (omega (arith, none))

  -- one is not
  pub one_is_not : (some : List State) (i : ℕ) (x : State) → i < length some → x ≡ get_or some i x → (¬ IsSettled hold fail sh n ts states x) → DecideSettled hold fail sh n ts states some false
  one_is_not some i x within is not_so = record {
    settled = λ so. absurd (true≢false (sym so));
    unsettled = λ e. (x, item_there some i x within is, not_so);
  }

-- whether all are settled decides whether the states show that no places match
pub states_decide : (hold fail : TermId → Option ExprId → Type 0) (sh : Shape) (n : TermId) (ts : List Triple) (states : List State) (b : Bool) →
    AreShaped sh ts states → IsCovered sh n ts states (opening sh) → DecideSettled hold fail sh n ts states states b → IsTrue b ↔ AreStates hold fail sh n ts states
states_decide hold fail sh n ts states true shaped opened decided =
    ((λ h. states_from hold fail sh n ts states shaped opened (decided.settled refl)), λ h. refl)
states_decide hold fail sh n ts states false shaped opened decided =
    let (x, held, not_so) = decided.unsettled refl in
    ((λ h. absurd (true≢false (sym h))), λ h. absurd (states_settled hold fail sh n ts states h x held not_so))
