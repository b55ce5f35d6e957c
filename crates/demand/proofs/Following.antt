-- Needs that are followed.
use Rattle.demand.proofs.Roots.{many_of}
use Rattle.std.proofs.Common.{◌≡◌, ◌∙◌, ℕ, ◌<◌, ◌≤◌, ◌+◌, ◌⊎◌, inl, inr, List, arith, sym, ap, subst, length, get_or}
use Rattle.std.proofs.lemmas.Bool.{cases_lt}
use Rattle.std.proofs.lemmas.Option.{slice_get-get_or}
use Rattle.std.specs.Prelude.{◌↔◌, Contains, Some, slice_get}
use Rattle.schema_tree.specs.declared.schema.Pair.{Pair}
use Rattle.rdf_terms.specs.declared.terms.Triple.{Triple}
use Rattle.schema_tree.specs.declared.schema.Schema.{Schema}
use Rattle.schema_tree.specs.Needs.{HoldNeeds, Leads, Needs, here, step}
use Rattle.demand.specs.Closing.{Grows, GrowsByNeeds, StopsByNeeds, StopsOver}
use Rattle.demand.specs.declared.error.DemandError.{DemandError}

leads_on : (s : Schema) (g : List Triple) (p r q : Pair) → Leads s g p r → Needs s g r q → Leads s g p q
leads_on s g p r q here need = step q need here
leads_on s g p r q (step u first rest) need = step u first (leads_on s g u r q rest need)

pub led_more : (s : Schema) (g : List Triple) (start old found new : List Pair) (p : Pair) → GrowsByNeeds s g start old → Contains old p → ((q : Pair) → Contains found q ↔ Needs s g p q) →
    Grows old found new → GrowsByNeeds s g start new
led_more s g start old found new p h held needs grows = (
  (λ q c. (grows.same q).1 (inl (h.0 q c))),
  (λ q c. elim ((grows.same q).0 c) [
    | inl o ↦ h.1 q o
    | inr f ↦ (let (u, of, leads) = h.1 p held in (u, of, leads_on s g u p q leads ((needs q).0 f)))
  ]),
)

pub led_stops : (s : Schema) (g : List Triple) (start old found : List Pair) (p : Pair) → GrowsByNeeds s g start old → Contains old p → ((q : Pair) → Contains found q ↔ Needs s g p q) →
    (e : DemandError) → StopsOver old found e → StopsByNeeds s g start e
led_stops s g start old found p h held needs e stops = many_of _ _ (λ q c. elim c [
  | inl o ↦ h.1 q o
  | inr f ↦ (let (u, of, leads) = h.1 p held in (u, of, leads_on s g u p q leads ((needs q).0 f)))
]) e stops

-- what the first pairs need is held
abbrev pub HoldUpTo : Schema → List Triple → ℕ → List Pair → Type 0
HoldUpTo s g at seen = (i : ℕ) (p q : Pair) → i < at → slice_get seen i ≡ Some p → Needs s g p q → Contains seen q

pub hold_more : (s : Schema) (g : List Triple) (at : ℕ) (old found new : List Pair) (d : Pair) → at < length old → HoldUpTo s g at old →
    ((q : Pair) → Contains found q ↔ Needs s g (get_or old at d) q) → Grows old found new → HoldUpTo s g (at + 1) new
hold_more s g at old found new d inside h needs grows i p q lt is need = (grows.same q).1 (by (cases_lt i at))
  where
    there : (j : ℕ) → j < length old → slice_get old j ≡ Some (get_or old j d)
    there j l = slice_get-get_or old j d l

    same : (j : ℕ) → j < length old → slice_get new j ≡ Some p → get_or old j d ≡ p
    same j l e = let both : Some (get_or old j d) ≡ Some p = sym (grows.kept j (get_or old j d) (there j l)) ∙ e in cc

    by : (i < at) ⊎ (at ≤ i) → Contains old q ⊎ Contains found q
    by (inl less) =
        let l : i < length old = omega arith in
        inl (h i (get_or old i d) q less (there i l) (subst (λ u. Needs s g u q) (sym (same i l is)) need))
    by (inr ge) =
        let e : i ≡ at = omega arith in
        inr ((needs q).1 (subst (λ u. Needs s g u q) (sym (same at inside (subst (λ j. slice_get new j ≡ Some p) e is))) need))

pub hold_all : (s : Schema) (g : List Triple) (at : ℕ) (seen : List Pair) → length seen ≤ at → HoldUpTo s g at seen → HoldNeeds s g seen
hold_all s g at seen le h p q (i, l, e) need = h i p q (omega arith) (slice_get-get_or seen i p l ∙ ap (λ u. Some u) e) need
