-- Walks by which groups of places are found: the beginning, the end, and what leads to itself.
use Rattle.std.proofs.Common.{◌≡◌, ◌-◌, Bool, false, Option, None, ℕ, zero, suc, ◌+◌, ◌<◌, ◌≤◌, List, [], ◌∷◌, ◌++◌, refl, sym, ap, subst, arith, length, ◌∙◌, get_or, set, Some, inl, inr, ◌⊎◌, get_or-set_same, get_or-set_other, length-set, length-append, replicate, take}
use Rattle.std.specs.Option.{option_to_list}
use Rattle.std.specs.Prelude.{Contains, Err, IfOk, IsTrue, Ok, Result, ◌↔◌, slice_get}
use Rattle.std.proofs.lemmas.Bool.{cases_eq, cases_lt}
use Rattle.std.proofs.lemmas.List.{append-nil, append_assoc, get_or_past, length-replicate, take_more}
use Rattle.std.proofs.lemmas.Option.{get_or_from_slice_get, slice_get-get_or, slice_get_read, slice_get_within}
use Rattle.lists.proofs.Members.{in_rest, not_in_none}
use Rattle.schema_load.specs.declared.groups.Standing.{Standing}
use Rattle.schema_load.specs.declared.groups.Standing.TheVariants.{Grouped, Open, Unseen}
use Rattle.schema_load.specs.declared.groups.Walk.{Walk}
use Rattle.schema_load.specs.declared.part.Part.{Part}
use Rattle.schema_load.specs.declared.sorting.Visit.{Visit}
use Rattle.schema_load.specs.declared.sorting.Visit.TheVariants.{Enter, Leave}
use Rattle.schema_load.specs.Graph.{Reaches, at_once, through}
use Rattle.schema_load.specs.Groups.{AreGroups, AreNumbered, AreNumbers, IsAtFirst, IsGrouping, IsLeft, IsWalking}
use Rattle.schema_load.specs.Parts.{IsAt}
use Rattle.schema_load.specs.Requirements.{HasOne, IsTwice, NoneIs}
use Rattle.schema_load.specs.Sorting.{AreEntered, place_of}
use Rattle.schema_load.specs.Steps.{AreInside, AreTargets, IsNext, nexts}
use Rattle.schema_load.proofs.Firsts.{carried, falsely}
use Rattle.schema_load.proofs.Leads.{next_of, step_of}
use Rattle.schema_load.proofs.Closing.{closed}
use Rattle.schema_load.proofs.Loadable.{index_of}
use Rattle.schema_load.proofs.Sorts.{next_at}
use Rattle.schema_load.proofs.Visits.{get_last, get_left, split_one}
use Rattle.schema_load.proofs.Grouping.{enter_not_leave, grouped_not_unseen, one_grouped, one_there, open_not_unseen, passed}

-- ---- groups that are joined, and groups that are given

-- what is left of a list whose last item was taken
pub popped_last : (xs ys init : List ℕ) (b : ℕ) (r : Option ℕ) → xs ≡ ys ++ option_to_list r → xs ≡ init ++ b ∷ [] → length ys ≡ length xs - 1 → xs ≡ ys ++ b ∷ []
popped_last xs ys init b None e f n = let h = ap length e in let i = length-append ys [] in let j = ap length f in let k = length-append init (b ∷ []) in absurd (omega arith)
popped_last xs ys init b (Some x) e f n =
    let j = ap length f in
    let k = length-append init (b ∷ []) in
    let size : length ys ≡ length init = omega arith in
    let here : slice_get xs (length init) ≡ Some x = subst (λ z. slice_get z (length init) ≡ Some x) (sym e) (subst (λ z. slice_get (ys ++ x ∷ []) z ≡ Some x) size (get_last ys x)) in
    let there : slice_get xs (length init) ≡ Some b = subst (λ z. slice_get z (length init) ≡ Some b) (sym f) (get_last init b) in
    subst (λ z. xs ≡ ys ++ z ∷ []) (one_there xs (length init) x b here there) e

pub joined_none : (starts : List ℕ) (position : ℕ) (now : List ℕ) → now ≡ starts → (out : List ℕ) × (starts ≡ now ++ out) × ((b : ℕ) → Contains out b → position < b)
joined_none starts position now e = ([], sym e ∙ sym (append-nil now), λ b c. absurd (not_in_none b c))

pub joined_more : (starts : List ℕ) (position : ℕ) (now after : List ℕ) (b : ℕ) → now ≡ after ++ b ∷ [] → position < b → (out : List ℕ) ×
    (starts ≡ now ++ out) × ((c : ℕ) → Contains out c → position < c) →
    (out : List ℕ) × (starts ≡ after ++ out) × ((c : ℕ) → Contains out c → position < c)
joined_more starts position now after b e lt (out, all, behind) = (
  b ∷ out,
  all ∙ (ap (λ z. z ++ out) e ∙ append_assoc after (b ∷ []) out),
  λ c has. elim (in_rest b out c has) [
    | inl same ↦ omega arith
    | inr rest ↦ behind c rest
  ],
)

pub numbered_none : (s : List Standing) (trail : List ℕ) (start group : ℕ) → AreNumbered s trail start start group s
numbered_none s trail start group = record {
  size = refl;
  grouped = λ i p le lt at. absurd (omega arith);
  kept = λ p apart. refl;
}

pub numbered_more : (s now : List Standing) (trail : List ℕ) (start i group p : ℕ) → start ≤ i → slice_get trail i ≡ Some p → p < length s →
    AreNumbered s trail start i group now → AreNumbered s trail start (i + 1) group (set now p (Grouped group))
numbered_more s now trail start i group p le at lt before = record {
  size = length-set now p (Grouped group) ∙ before.size;
  grouped = λ j q low high there. elim (cases_eq q p) [
    | inl same ↦ subst (λ z. get_or (set now p (Grouped group)) z Unseen ≡ Grouped group) (sym same) set_here
    | inr apart ↦ get_or-set_other now p q (Grouped group) Unseen apart ∙ before.grouped j q low (omega (arith, earlier j q there apart)) there
  ];
  kept = λ q apart. elim (cases_eq q p) [
    | inl same ↦ absurd (apart i le (omega arith) (subst (λ z. slice_get trail i ≡ Some z) (sym same) at))
    | inr other ↦ get_or-set_other now p q (Grouped group) Unseen other ∙ before.kept q (λ j low high there. apart j low (omega arith) there)
  ];
}
  where
    set_here : get_or (set now p (Grouped group)) p Unseen ≡ Grouped group
    set_here = get_or-set_same now p (Grouped group) Unseen (let n = before.size in omega arith)

    earlier : (j q : ℕ) → slice_get trail j ≡ Some q → ¬ (q ≡ p) → ¬ (j ≡ i)
    earlier j q there apart same = apart (one_there trail i q p (subst (λ z. slice_get trail z ≡ Some q) same there) at)

pub numbers_none : (groups : List ℕ) → groups ≡ [] → AreNumbers [] groups
numbers_none groups e = record { size = ap length e; each = λ p g lt is. absurd (omega arith) }

pub numbers_more : (s : List Standing) (w : Standing) (groups : List ℕ) (g : ℕ) → w ≡ Grouped g → AreNumbers s groups → AreNumbers (s ++ w ∷ []) (groups ++ g ∷ [])
numbers_more s w groups g e before = record {
  size = length-append groups (g ∷ []) ∙ (let n = before.size in let l = length-append s (w ∷ []) in omega arith);
  each = λ p h lt is. (
      let at = slice_get-get_or (s ++ w ∷ []) p Unseen lt in
      elim (split_one s w (get_or (s ++ w ∷ []) p Unseen) p at) [
        | inl early ↦ (
            let low = slice_get_within s p (get_or (s ++ w ∷ []) p Unseen) early in
            let size = before.size in
            let was = get_or_from_slice_get s p (get_or (s ++ w ∷ []) p Unseen) Unseen early in
            get_or_from_slice_get (groups ++ g ∷ []) p h 0 (get_left groups (g ∷ []) p h (slice_get-get_or groups p 0 (omega arith) ∙ ap Some (before.each p h low (was ∙ is))))
            )
        | inr (n, same) ↦ (
            let size = before.size in
            let one = one_grouped w g h e (same ∙ is) in
            get_or_from_slice_get (groups ++ g ∷ []) p h 0 (subst (λ z. slice_get (groups ++ g ∷ []) z ≡ Some h) (let f : length groups ≡
            p = omega arith in f) (subst (λ z. slice_get (groups ++ g ∷ []) (length groups) ≡ Some z) one (get_last groups g)))
            )
      ]
      );
}

pub numbers_next : (s : List Standing) (i : ℕ) (groups after : List ℕ) (g : ℕ) → i < length s → get_or s i Unseen ≡ Grouped g → after ≡ groups ++ g ∷ [] →
    AreNumbers (take i s) groups → AreNumbers (take (i + 1) s) after
numbers_next s i groups after g lt is pushed before =
    subst (λ z. AreNumbers z after) (sym (take_more s i Unseen lt))
    (subst (AreNumbers (take i s ++ get_or s i Unseen ∷ [])) (sym pushed) (numbers_more (take i s) (get_or s i Unseen) groups g is before))

pub numbers_all : (s : List Standing) (i : ℕ) (groups : List ℕ) → length s ≤ i → AreNumbers (take i s) groups → AreNumbers s groups
numbers_all s i groups le are = subst (λ z. AreNumbers z groups) (take_all s i le) are
  where
    take_all : (xs : List Standing) (n : ℕ) → length xs ≤ n → take n xs ≡ xs
    take_all [] zero h = refl
    take_all [] (suc n) h = refl
    take_all (x ∷ xs) zero h = absurd (omega arith)
    take_all (x ∷ xs) (suc n) h = ap (λ us. x ∷ us) (take_all xs n (omega arith))

-- none of the places that were looked at is of the group
pub none_of_group : (groups places : List ℕ) (n group : ℕ) → length places ≤ n → ((k : ℕ) → k < n → ¬ (get_or groups (get_or places k 0) 0 ≡ group)) →
    IsTrue false ↔ ((q : ℕ) × Contains places q × (get_or groups q 0 ≡ group))
none_of_group groups places n group le none = falsely (λ (q, c, same). (
    let (k, at) = index_of places q c in
    let lt = slice_get_within places k q at in
    none k (omega arith) (subst (λ z. get_or groups z 0 ≡ group) (sym (get_or_from_slice_get places k q 0 at)) same)
    ))

pub on_value : {A E : Type 0} {P Q : A → Type 0} (r : Result A E) → ((x : A) → P x → Q x) → IfOk r P → IfOk r Q
on_value (Ok x) f h = f x h
on_value (Err e) f h = tt

-- what stands at a place that was read
pub read_standing : (s : List Standing) (p : ℕ) (w u : Standing) → p < length s → w ≡ get_or s p w → w ≡ u → get_or s p Unseen ≡ u
read_standing s p w u lt read is = get_or_from_slice_get s p w Unseen (slice_get_read s _ p w refl lt read) ∙ is

module _ (parts : List Part) (targets : List ℕ) where
  -- ---- the beginning and the end

  none_seen : (n p : ℕ) → get_or (replicate n Unseen) p Unseen ≡ Unseen
  none_seen zero p = refl
  none_seen (suc n) zero = refl
  none_seen (suc n) (suc p) = none_seen n p

  pub at_first : (n : ℕ) (visits : List Visit) → n ≡ length parts → AreEntered n visits → IsGrouping parts targets (replicate n Unseen) [] [] 0 visits
  at_first n visits size are = record {
    size = length-replicate n Unseen ∙ size;
    inside = λ i v at. (let e = visit_is i v at in let lt = low i v at in subst (λ z. z < length parts) (ap place_of e) (omega arith));
    held = λ i p at. absurd (let bad : ⊥ = cc in bad);
    stands = λ p i is. absurd (open_not_unseen (get_or (replicate n Unseen) p Unseen) i is (none_seen n p));
    forward = λ i j p q lt a b. absurd (let bad : ⊥ = cc in bad);
    back = λ i j p q lt a b apart. absurd (let bad : ⊥ = cc in bad);
    rising = λ k l a b lt x y. absurd (let bad : ⊥ = cc in bad);
    begun = λ b c. absurd (not_in_none b c);
    first = λ lt. absurd (omega arith);
    left = λ i p at. absurd (no_leave i p at);
    order = λ i j p q m n lt a b x y. absurd (no_leave i p a);
    reach = λ i j p v lt a b. absurd (no_leave i p a);
    pending = λ i p q at next. absurd (let bad : ⊥ = cc in bad);
    low = λ p g is. absurd (grouped_not_unseen (get_or (replicate n Unseen) p Unseen) g is (none_seen n p));
    falls = λ p q g is next. absurd (grouped_not_unseen (get_or (replicate n Unseen) p Unseen) g is (none_seen n p));
    one = λ p q g a b. absurd (grouped_not_unseen (get_or (replicate n Unseen) p Unseen) g a (none_seen n p));
    waits = λ p lt none. (p, are.each p (omega arith));
  }
    where
      low : (i : ℕ) (v : Visit) → slice_get visits i ≡ Some v → i < n
      low i v at = let w = slice_get_within visits i v at in let s = are.size in omega arith

      visit_is : (i : ℕ) (v : Visit) → slice_get visits i ≡ Some v → Enter i ≡ v
      visit_is i v at = let both : Some (Enter i) ≡ Some v = sym (are.each i (low i v at)) ∙ at in (let same : Enter i ≡ v = cc in same)

      no_leave : (i p : ℕ) → ¬ (slice_get visits i ≡ Some (Leave p))
      no_leave i p at = enter_not_leave (Leave p) i p (sym (visit_is i (Leave p) at)) refl

  -- when no visit is left each place has its group
  pub all_grouped : (s : List Standing) (trail starts : List ℕ) (count : ℕ) → IsGrouping parts targets s trail starts count [] → (p : ℕ) → p < length s → (g : ℕ) × (get_or s p Unseen ≡ Grouped g)
  all_grouped s trail starts count walking p lt = go (get_or s p Unseen) refl
    where
      go : (w : Standing) → get_or s p Unseen ≡ w → (g : ℕ) × (get_or s p Unseen ≡ Grouped g)
      go (Grouped g) is = (g, is)
      go Unseen is = let (i, at) = walking.waits p (let n = walking.size in omega arith) is in absurd (let bad : ⊥ = cc in bad)
      go (Open n) is =
          let w = slice_get_within trail n p (walking.stands p n is) in
          let (i, q, at, leave) = walking.begun 0 (walking.first (omega arith)) in
          absurd (let bad : ⊥ = cc in bad)

  pub are_groups : (s : List Standing) (trail starts groups : List ℕ) (count : ℕ) → IsGrouping parts targets s trail starts count [] → AreNumbers s groups →
      AreInside parts targets → AreGroups parts targets groups
  are_groups s trail starts groups count walking numbers all_inside = record {
    size = numbers.size ∙ walking.size;
    falls = falls;
    one = one;
  }
    where
      known : (p : ℕ) → p < length parts → (g : ℕ) × (get_or s p Unseen ≡ Grouped g) × (get_or groups p 0 ≡ g)
      known p lt =
          let size = walking.size in
          let (g, is) = all_grouped s trail starts count walking p (omega arith) in
          (g, is, numbers.each p g (omega arith) is)

      falls : (p q : ℕ) → IsNext parts targets p q → get_or groups q 0 ≤ get_or groups p 0
      falls p q next =
          let (x, at, c) = next in
          let (g, is, e) = known p (slice_get_within parts p x at) in
          let (h, also, le) = walking.falls p q g is next in
          let (k, once, f) = known q (all_inside p q next) in
          let same = one_grouped (get_or s q Unseen) h k also once in
          omega arith

      one : (p q : ℕ) → p < length parts → q < length parts → get_or groups p 0 ≡ get_or groups q 0 → (p ≡ q) ⊎ Reaches parts p q
      one p q lt less same =
          let (g, is, e) = known p lt in
          let (h, also, f) = known q less in
          let alike : h ≡ g = omega arith in
          walking.one p q g is (subst (λ z. get_or s q Unseen ≡ Grouped z) alike also)

  -- ---- what leads to itself

  module _ (once : NoneIs (HasOne (IsTwice parts))) (aims : AreTargets parts targets) (groups : List ℕ) (are : AreGroups parts targets groups) where
    never_rises : (p q : ℕ) → Reaches parts p q → get_or groups q 0 ≤ get_or groups p 0
    never_rises p q (at_once {x = x} at leads) = are.falls p q (next_of parts targets aims once p q (x, at, leads))
    never_rises p q (through {q = m} {x = x} at leads rest) =
        let a = are.falls p m (next_of parts targets aims once p m (x, at, leads)) in
        let b = never_rises m q rest in
        omega arith

    -- a place leads to itself where it leads to one of its group
    pub back_by_group : (p q : ℕ) → p < length parts → q < length parts → IsNext parts targets p q → get_or groups q 0 ≡ get_or groups p 0 → Reaches parts p p
    back_by_group p q lt less next same =
        let (x, at, leads) = step_of parts targets aims p q next in
        elim (are.one q p less lt same) [
          | inl e ↦ subst (λ z. Reaches parts p z) e (at_once at leads)
          | inr back ↦ through at leads back
        ]

    pub group_by_back : (p : ℕ) → Reaches parts p p → (q : ℕ) × IsNext parts targets p q × (get_or groups q 0 ≡ get_or groups p 0)
    group_by_back p (at_once {x = x} at leads) = (p, next_of parts targets aims once p p (x, at, leads), refl)
    group_by_back p (through {q = m} {x = x} at leads rest) =
        let next = next_of parts targets aims once p m (x, at, leads) in
        let a = are.falls p m next in
        let b = never_rises m p rest in
        (m, next, omega arith)

    pub leads_back_by : (p : ℕ) (x : Part) (b : Bool) (places : List ℕ) (group : ℕ) → AreInside parts targets → IsAt parts p x → places ≡ nexts (get_or targets p 0) x → group ≡ get_or groups p 0 →
        IsTrue b ↔ ((q : ℕ) × Contains places q × (get_or groups q 0 ≡ group)) → IsTrue b ↔ Reaches parts p p
    leads_back_by p x b places group all_inside at are_next is answer = carried b answer forth back
      where
        forth : (q : ℕ) × Contains places q × (get_or groups q 0 ≡ group) → Reaches parts p p
        forth (q, c, same) = let next : IsNext parts targets p q = (x, at, subst (λ ps. Contains ps q) are_next c) in
            back_by_group p q (slice_get_within parts p x at) (all_inside p q next) next (same ∙ is)

        back : Reaches parts p p → (q : ℕ) × Contains places q × (get_or groups q 0 ≡ group)
        back round = let (q, next, same) = group_by_back p round in (q, subst (λ ps. Contains ps q) (sym are_next) (next_at parts targets p q x at next), same ∙ sym is)

  -- ---- the visits of a walk

  -- a place of the trail stands there
  pub trail_inside : (s : List Standing) (trail starts : List ℕ) (count : ℕ) (visits : List Visit) → IsGrouping parts targets s trail starts count visits → (p : ℕ) → Contains trail p → p < length s
  trail_inside s trail starts count visits walking p has =
      let (i, at) = index_of trail p has in
      elim (cases_lt p (length s)) [
        | inl lt ↦ lt
        | inr le ↦ absurd (open_not_unseen (get_or s p Unseen) i (walking.held i p at) (get_or_past s p Unseen le))
      ]

  pub each_grouped : (w : Walk) (s : List Standing) → IsWalking parts targets w [] → s ≡ w.standings.items → (p : ℕ) → p < length s → (g : ℕ) × (get_or s p Unseen ≡ Grouped g)
  each_grouped w s walking e = subst (λ z. (p : ℕ) → p < length z → (g : ℕ) × (get_or z p Unseen ≡ Grouped g)) (sym e)
      (all_grouped w.standings.items w.trail.items w.starts.items (length w.firsts.items) walking)

  pub begins : (n : ℕ) (w : Walk) (visits : List Visit) → n ≡ length parts → IsAtFirst n w → AreEntered n visits → IsWalking parts targets w visits
  begins n w visits size first are =
      subst (λ z. IsGrouping parts targets z w.trail.items w.starts.items (length w.firsts.items) visits) (sym first.standings)
      (subst (λ z. IsGrouping parts targets (replicate n Unseen) z w.starts.items (length w.firsts.items) visits) (sym first.trail)
      (subst (λ z. IsGrouping parts targets (replicate n Unseen) [] z (length w.firsts.items) visits) (sym first.starts)
      (subst (λ z. IsGrouping parts targets (replicate n Unseen) [] [] (length z) visits) (sym first.firsts) (at_first n visits size are))))

  -- an open place is left
  pub left_as : (before after : Walk) (rest : List Visit) (v : Visit) (p : ℕ) → v ≡ Leave p → IsWalking parts targets before (rest ++ v ∷ []) →
      IsLeft before p after → IsWalking parts targets after rest
  left_as before after rest v p e walking (n, is, inl closing) =
      subst (λ z. IsGrouping parts targets after.standings.items z after.starts.items (length after.firsts.items) rest) (sym closing.trail)
      (subst (λ z. IsGrouping parts targets after.standings.items (take n before.trail.items) after.starts.items z rest) (sym closing.count)
      (closed parts targets before.standings.items before.trail.items before.starts.items (length before.firsts.items) rest v walking p n e is after.starts.items closing.ends after.standings.items closing.numbered))
  left_as before after rest v p e walking (n, is, inr (apart, same)) =
      subst (λ w. IsWalking parts targets w rest) (sym same)
      (passed parts targets before.standings.items before.trail.items before.starts.items (length before.firsts.items) rest v walking p n e is apart)
