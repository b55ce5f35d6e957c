-- The counts that are reached are those of allowed places, and different ones are few.
use Rattle.std.proofs.Common.{◌≡◌, ℕ, zero, suc, ◌+◌, ◌*◌, ◌<◌, ◌≤◌, length, get_or, take, List, [], ◌∷◌, ◌++◌, refl, arith, ap, sym, subst, ◌∙◌, true≢false, slice_index, add-one, mul-le-mul_right}
use Rattle.std.proofs.lemmas.List.{length-map, take_more}
use Rattle.std.proofs.lemmas.Map.Text.{is_eq-slice_cmp}
use Rattle.std.proofs.lemmas.Option.{slice_get-get_or, slice_get_within}
use Rattle.std.specs.Cmp.Lexicographic.{bytes_decides}
use Rattle.std.specs.Global.{Vec}
use Rattle.std.specs.List.Sorted.{IsStrictlySortedBy}
use Rattle.std.specs.Ordering.{is_eq}
use Rattle.std.specs.declared.cmp.Ordering.TheVariants.{Less}
use Rattle.std.specs.Prelude.{Contains, Option, slice_get, ◌↔◌}
use Rattle.rdf_terms.specs.declared.terms.TermId.{TermId}
use Rattle.rdf_terms.specs.declared.terms.Triple.{Triple}
use Rattle.schema_tree.specs.declared.schema.ExprId.{ExprId}
use Rattle.schema_tree.specs.declared.schema.Shape.{Shape}
use Rattle.schema_tree.specs.declared.verdicts.Place.{Place}
use Rattle.schema_tree.specs.declared.verdicts.State.{State}
use Rattle.schema_tree.specs.Places.{AreAllowed, IsAllowed, times}
use Rattle.schema_tree.specs.States.{opening}
use Rattle.lists.proofs.Quantifiers.{all_at}
use Rattle.bag_match.specs.Bounds.{AreApart, AreCountsOf, IsBound}
use Rattle.bag_match.specs.Counts.{IsPlaceOf, IsRaised, raised}
use Rattle.bag_match.specs.Layers.{IsLayer}
use Rattle.bag_match.specs.Least.{ArePlacesFor}
use Rattle.bag_match.specs.Reached.{IsReachedAt}
use Rattle.bag_match.proofs.Finishing.{count_raised}
use Rattle.bag_match.proofs.Offered.{allowed_there}
use Rattle.bag_match.proofs.Putting.{compare_items, lists}
use Rattle.schema_tree.proofs.ToPlaces.{times_append}
use Rattle.bag_match.proofs.Stepping.{after_is, opening_at, raised_long, reached_shaped, some_one}
use Rattle.lists.proofs.Members.{from_map, in_one, not_in_none}

-- keys in order have different counts
pub keys_apart : (keys : List (Vec ℕ)) → IsStrictlySortedBy compare_items keys → AreApart (lists keys)
unfolding IsStrictlySortedBy
keys_apart [] h = tt
keys_apart (k ∷ ks) h = (other, keys_apart ks h.1)
  where
    other : ¬ Contains (lists ks) k.items
    other c =
        let (y, held, e) = from_map (λ v. v.items) ks k.items c in
        let less : compare_items k y ≡ Less = all_at (λ z. compare_items k z ≡ Less) ks y h.0 held in
        true≢false (sym ((bytes_decides k.items y.items).1 (sym e)) ∙ sym (is_eq-slice_cmp k.items y.items) ∙ ap is_eq less)

module _ (hold fail : TermId → Option ExprId → Type 0) (sh : Shape) (n : TermId) where
  allowed_push : (us : List Triple) (ps : List Place) (t : Triple) (p : Place) → AreAllowed hold fail sh n us ps → IsAllowed hold fail sh n t p →
      AreAllowed hold fail sh n (us ++ t ∷ []) (ps ++ p ∷ [])
  allowed_push [] [] t p h k = (k, tt)
  allowed_push [] (q ∷ ps) t p h k = absurd h
  allowed_push (u ∷ us) [] t p h k = absurd h
  allowed_push (u ∷ us) (q ∷ ps) t p h k = (h.0, allowed_push us ps t p h.1 k)

  pub came_next : (ts : List Triple) (j : ℕ) (d : Triple) (c : List ℕ) (p : Place) → j < length ts → AreCountsOf hold fail sh n (take j ts) c → IsAllowed hold fail sh n (get_or ts j d) p →
      AreCountsOf hold fail sh n (take (j + 1) ts) (raised c p)
  came_next ts j d c p within (ps, allowed, long, counts) k = (
    ps ++ p ∷ [],
    subst (λ us. AreAllowed hold fail sh n us (ps ++ p ∷ [])) (sym (take_more ts j d within)) (allowed_push (take j ts) ps (get_or ts j d) p allowed k),
    raised_long c p ∙ long,
    λ i.
        let there : IsPlaceOf (length c) p = subst (λ m. IsPlaceOf m p) (sym long) (allowed_there hold fail sh n (get_or ts j d) p k) in
        let a = count_raised c p there [] i in
        let b = counts i in
        let e = times_append ps (p ∷ []) i in
        let f : times [] i ≡ 0 = refl in
        omega (arith, a, b, e, f),
  )

  pub came : (ts : List Triple) (j : ℕ) (x : State) → IsReachedAt hold fail sh n ts j x → AreCountsOf hold fail sh n (take j ts) x.counts
  came ts zero x h = ([], tt_none ts, (reached_shaped hold fail sh n ts 0 x h).long, λ i. subst (λ z. slice_index z.counts i ≡ 0) h.0 (opening_at sh i))
    where
      tt_none : (us : List Triple) → AreAllowed hold fail sh n (take 0 us) []
      tt_none [] = tt
      tt_none (u ∷ us) = tt
  came ts (suc j) x ((y, reached, (t, at, (p, allowed, e))), alive) =
      let d = (reached_shaped hold fail sh n ts j y reached).at in
      let lt = slice_get_within ts y.done t at in
      let within : j < length ts = omega (arith, d, lt) in
      let t_is : get_or ts j t ≡ t = some_one (get_or ts j t) t (sym (slice_get-get_or ts j t within) ∙ ap (λ k. slice_get ts k) (sym d) ∙ at) in
      subst (λ k. AreCountsOf hold fail sh n (take k ts) x.counts) (add-one j)
      (subst (λ z. AreCountsOf hold fail sh n (take (j + 1) ts) z) (ap (λ z. z.counts) (sym (after_is y p) ∙ e))
      (came_next ts j t y.counts p within (came ts j y reached) (subst (λ u. IsAllowed hold fail sh n u p) (sym t_is) allowed)))

  pub found_few : (ts : List Triple) (j : ℕ) (d : Triple) (layer : List State) (places : List Place) (cs : List (List ℕ)) → j < length ts → IsLayer hold fail sh n ts j layer →
      ArePlacesFor hold fail sh n (get_or ts j d) places → ((c : List ℕ) → Contains cs c ↔ ((x : State) × Contains layer x × IsRaised x.counts places c)) → AreApart cs →
      (bound : ℕ) → IsBound hold fail sh n ts bound → length cs ≤ bound
  found_few ts j d layer places cs within layer_is places_are found apart bound b =
      b.few (j + 1) cs apart (λ c h.
      let (x, held, (p, offered, e)) = (found c).0 h in
      subst (λ z. AreCountsOf hold fail sh n (take (j + 1) ts) z) e
      (came_next ts j d x.counts p within (came ts j x ((layer_is.same x).0 held)) ((places_are.same p).0 offered)))

  pub ticks_few : (ts : List Triple) (j : ℕ) (d : Triple) (layer : List State) (places : List Place) (cs : List (List ℕ)) → j < length ts → IsLayer hold fail sh n ts j layer →
      ArePlacesFor hold fail sh n (get_or ts j d) places → ((c : List ℕ) → Contains cs c ↔ ((x : State) × Contains layer x × IsRaised x.counts places c)) → AreApart cs →
      (start now : ℕ) → now ≤ start + length cs → (bound : ℕ) → IsBound hold fail sh n ts bound → now ≤ start + bound
  ticks_few ts j d layer places cs within layer_is places_are found apart start now most bound b =
      let few = found_few ts j d layer places cs within layer_is places_are found apart bound b in
      omega (arith, few, most)

  pub opening_came : (ts : List Triple) → AreCountsOf hold fail sh n (take 0 ts) (opening sh).counts
  opening_came ts = ([], none ts, length-map sh.occs (λ o. 0), opening_at sh)
    where
      none : (us : List Triple) → AreAllowed hold fail sh n (take 0 us) []
      none [] = tt
      none (u ∷ us) = tt

  pub bound_some : (ts : List Triple) (bound : ℕ) → IsBound hold fail sh n ts bound → 1 ≤ bound
  bound_some ts bound b = b.few 0 ((opening sh).counts ∷ []) ((λ c. not_in_none (opening sh).counts c), tt) (λ c h.
      subst (λ z. AreCountsOf hold fail sh n (take 0 ts) z) (in_one (opening sh).counts c h) (opening_came ts))

-- ---- ticks

pub most_first : (start now len bound : ℕ) → now ≤ start + 1 → 1 ≤ bound → now ≤ start + (len + 1) * bound
most_first start now len bound h k =
    let a : bound ≤ (len + 1) * bound = (let e : (len + 1) * bound ≡ len * bound + bound = omega arith in omega (arith, e)) in
    omega (arith, h, k, a)

pub most_one : (start now bound : ℕ) → now ≤ start + 1 → 1 ≤ bound → now ≤ start + (0 + 1) * bound
most_one start now bound h k = omega (arith, h, k)

pub most_next : (start before now done bound : ℕ) → before ≤ start + (done + 1) * bound → now ≤ before + bound → now ≤ start + (done + 1 + 1) * bound
most_next start before now done bound h k = omega (arith, h, k)

pub most_within : (start now done len bound : ℕ) → now ≤ start + (done + 1) * bound → done ≤ len → now ≤ start + (len + 1) * bound
most_within start now done len bound h le =
    let m = mul-le-mul_right bound le in
    omega (arith, h, m)
