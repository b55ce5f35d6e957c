-- What a look at a pair comes to while pairs are confirmed.
use Rattle.std.proofs.Common.{◌≡◌, ◌≢◌, ◌∙◌, ℕ, ◌<◌, ◌+◌, ◌⊎◌, inl, inr, List, [], ap, refl, sym, subst, length, take, get_or}
use Rattle.std.proofs.lemmas.Bool.{cases_eq}
use Rattle.std.specs.Prelude.{◌↔◌, Contains, Some, option_map, slice_get, slice_set}
use Rattle.schema_tree.specs.declared.schema.Pair.{Pair}
use Rattle.schema_tree.specs.declared.verdicts.Lean.TheVariants.{Impossible}
use Rattle.schema_tree.specs.declared.verdicts.Verdict.{Verdict}
use Rattle.schema_tree.specs.declared.verdicts.Verdict.TheVariants.{Yes, Unknown}
use Rattle.schema_tree.specs.Sure.{Known}
use Rattle.schema_tree.specs.Places.{PairCanMatch}
use Rattle.lists.proofs.Members.{not_in_none}
use Rattle.removal_laws.proofs.Confirming.{begun, drops, holds}
use Rattle.removal_laws.proofs.Known.{set_here, set_other}
use Rattle.typing_refiner.specs.declared.ground.Ground.{Ground}
use Rattle.typing_refiner.specs.Ready.{GoesBack, IsAmong, IsConfirming, IsLow, IsOpen, IsRaisedBy, IsReady, IsRemoving, Waits, known_of}
use Rattle.typing_refiner.proofs.Waiting.{in_more}

-- the pair of the number can match where Unknown is impossible
abbrev CanMatch : Ground → Known → Pair → Type 0
CanMatch h view p = PairCanMatch h.schema.now h.terms.now h.graph.now.triples view Impossible p

module _ (h : Ground) (ready : IsReady h) (elsewhere lower : Known) (k : ℕ) (marks : List Verdict) (gone : List Pair) (at : ℕ) (agenda : List ℕ)
    (r : IsConfirming h elsewhere lower k marks gone (λ i. Contains agenda i ⊎ (i ≡ at))) where
  pub still : ((p : Pair) → slice_get h.table.now at ≡ Some p → CanMatch h (known_of h elsewhere marks) p) → IsConfirming h elsewhere lower k marks gone (λ i. Contains agenda i)
  still can =
      let (p, here, narrow) = (r.open_to at (inr refl)).0 in
      holds h.schema.now h.terms.now h.graph.now.triples h.strata.now h.table.now h.budget elsewhere ready.distinct lower k marks gone at p here (λ i. Contains agenda i) r
      (can p here)

  further : ((p : Pair) → slice_get h.table.now at ≡ Some p → ¬ CanMatch h (known_of h elsewhere marks) p) → ((i : ℕ) → Contains agenda i → at < i) → (next : List ℕ) →
      ((q : ℕ) → Contains next q ↔ (Contains agenda q ⊎ GoesBack h k at (slice_set marks at Unknown) Yes q)) →
      IsConfirming h elsewhere lower k (slice_set marks at Unknown) gone (λ i. Contains next i)
  further cannot least next put =
      let (p, here, narrow) = (r.open_to at (inr refl)).0 in
      drops h.schema.now h.terms.now h.graph.now.triples h.strata.now h.table.now h.budget elsewhere ready.distinct lower k marks gone at p here (λ i. Contains agenda i) r
      (cannot p here) least
      (λ i. IsAmong (option_map (λ v. v.items) (slice_get h.needing.now at)) i) (λ i. Contains next i)
      (λ i q there need. ready.needing at i p q here there need)
      (λ i. (
        (λ c. elim ((put i).0 c) [ inl l ↦ inl l | inr t ↦ inr (t.0, t.1.0, t.1.1) ]),
        (λ c. elim c [ inl l ↦ (put i).1 (inl l) | inr t ↦ (put i).1 (inr (t.0, (t.1, t.2))) ]),
      ))

  pub further_as : ((p : Pair) → slice_get h.table.now at ≡ Some p → ¬ CanMatch h (known_of h elsewhere marks) p) → ((i : ℕ) → Contains agenda i → at < i) →
      (marks' : List Verdict) → marks' ≡ slice_set marks at Unknown →
      (next : List ℕ) → ((q : ℕ) → Contains next q ↔ (Contains agenda q ⊎ GoesBack h k at marks' Yes q)) → IsConfirming h elsewhere lower k marks' gone (λ i. Contains next i)
  further_as cannot least marks' marked next put =
      subst (λ ms. IsConfirming h elsewhere lower k ms gone (λ i. Contains next i)) (sym marked)
      (further cannot least next (subst (λ ms. (q : ℕ) → Contains next q ↔ (Contains agenda q ⊎ GoesBack h k at ms Yes q)) marked put))

-- the agenda as a condition that is met by the same numbers
pub todo_same :
    (h : Ground) (elsewhere lower : Known) (k : ℕ) (marks : List Verdict) (gone : List Pair) (Todo Todo' : ℕ → Type 0) → ((i : ℕ) → Todo i ↔ Todo' i) →
    IsConfirming h elsewhere lower k marks gone Todo → IsConfirming h elsewhere lower k marks gone Todo'
todo_same h elsewhere lower k marks gone Todo Todo' same r = record {
  cand = r.cand;
  are = r.are;
  knows = r.knows;
  new = r.new;
  low = r.low;
  stay = r.stay;
  greatest = r.greatest;
  settled = λ i p at on mark out. r.settled i p at on mark (λ t. out ((same i).0 t));
  open_to = λ i t. r.open_to i ((same i).1 t);
}

-- at the start
pub started : (h : Ground) (ready : IsReady h) (elsewhere lower : Known) (k : ℕ) (old marks : List Verdict) (gone : List Pair) (members agenda : List ℕ) →
    ((i : ℕ) → Contains members i ↔ IsOpen h k i) → ((i : ℕ) → IsRaisedBy members old marks i) →
    ((i : ℕ) → Contains agenda i ↔ (Contains members i × (slice_get old i ≡ Some Unknown))) → IsLow h lower k →
    IsRemoving h elsewhere lower k old gone (λ i. ⊥) → IsConfirming h elsewhere lower k marks gone (λ i. Contains agenda i)
started h ready elsewhere lower k old marks gone members agenda are raised put low r =
    begun h.schema.now h.terms.now h.graph.now.triples h.strata.now h.table.now h.budget elsewhere ready.distinct lower k old marks gone (λ i. ⊥) r low
    (λ i. elim (raised i) [
      | inl t ↦ inl ((are i).0 t.0, t.1, t.2)
      | inr t ↦ inr ((λ w. t.0 ((are i).1 w.0, w.1)), t.1)
    ])
    (λ i. Contains agenda i) (λ i is_open unknown. (put i).1 ((are i).1 is_open, unknown))
    (λ i on. ((are i).0 ((put i).0 on).0, yes_now i ((put i).0 on) (raised i)))
  where
    yes_now : (i : ℕ) → Contains members i × (slice_get old i ≡ Some Unknown) → IsRaisedBy members old marks i → slice_get marks i ≡ Some Yes
    yes_now i w (inl t) = t.2
    yes_now i w (inr t) = absurd (t.0 w)

pub waiting : (h : Ground) (k : ℕ) (old marks : List Verdict) (members agenda : List ℕ) →
    ((i : ℕ) → Contains members i ↔ IsOpen h k i) → ((i : ℕ) → IsRaisedBy members old marks i) →
    ((i : ℕ) → Contains agenda i ↔ (Contains members i × (slice_get old i ≡ Some Unknown))) → (i : ℕ) → Contains agenda i → Waits h k marks Yes i
waiting h k old marks members agenda are raised put i on = ((are i).0 ((put i).0 on).0, yes_now ((put i).0 on) (raised i))
  where
    yes_now : Contains members i × (slice_get old i ≡ Some Unknown) → IsRaisedBy members old marks i → slice_get marks i ≡ Some Yes
    yes_now w (inl t) = t.2
    yes_now w (inr t) = absurd (t.0 w)

-- ---- one more number is raised, or passed

-- how far numbers are raised and put on the agenda
abbrev pub AreRaised : List ℕ → List Verdict → List Verdict → List ℕ → Type 0
AreRaised xs old marks agenda =
    ((i : ℕ) → IsRaisedBy xs old marks i) × ((i : ℕ) → Contains agenda i ↔ (Contains xs i × (slice_get old i ≡ Some Unknown)))

module _ (old : List Verdict) (xs : List ℕ) (j : ℕ) (inside : j < length xs) (marks : List Verdict) (agenda : List ℕ) (h : AreRaised (take j xs) old marks agenda) where
  abbrev x : ℕ
  x = get_or xs j 0

  more : (i : ℕ) → Contains (take j xs) i → Contains (take (j + 1) xs) i
  more i c = (in_more xs j i inside).1 (inl c)

  fewer : (i : ℕ) → i ≢ x → Contains (take (j + 1) xs) i → Contains (take j xs) i
  fewer i ne c = elim ((in_more xs j i inside).0 c) [ inl l ↦ l | inr e ↦ absurd (ne e) ]

  here : Contains (take (j + 1) xs) x
  here = (in_more xs j x inside).1 (inr refl)

  other : (marks' : List Verdict) (i : ℕ) → i ≢ x → slice_get marks' i ≡ slice_get marks i → IsRaisedBy (take j xs) old marks i → IsRaisedBy (take (j + 1) xs) old marks' i
  other marks' i ne same (inl t) = inl (more i t.0, t.1, same ∙ t.2)
  other marks' i ne same (inr t) = inr ((λ w. t.0 (fewer i ne w.0, w.1)), same ∙ t.1)

  -- the mark was Unknown from the start
  was : slice_get marks x ≡ Some Unknown → IsRaisedBy (take j xs) old marks x → slice_get old x ≡ Some Unknown
  was mark (inl t) = absurd (let a = t.2 in cc)
  was mark (inr t) = sym t.1 ∙ mark

  pub raise_one : slice_get marks x ≡ Some Unknown → (marks' : List Verdict) → marks' ≡ slice_set marks x Yes → (next : List ℕ) →
      ((q : ℕ) → Contains next q ↔ (Contains agenda q ⊎ (q ≡ x))) → AreRaised (take (j + 1) xs) old marks' next
  raise_one mark marks' marked next put = (raised, (λ i. (to i, from i)))
    where
      unknown : slice_get old x ≡ Some Unknown
      unknown = was mark (h.0 x)

      raised : (i : ℕ) → IsRaisedBy (take (j + 1) xs) old marks' i
      raised i = elim (cases_eq i x) [
        | inl e ↦ subst (IsRaisedBy (take (j + 1) xs) old marks') (sym e) (inl (here, unknown, ap (λ ms. slice_get ms x) marked ∙ set_here marks x Unknown Yes mark))
        | inr ne ↦ other marks' i ne (ap (λ ms. slice_get ms i) marked ∙ set_other marks x i Yes ne) (h.0 i)
      ]

      to : (i : ℕ) → Contains next i → Contains (take (j + 1) xs) i × (slice_get old i ≡ Some Unknown)
      to i c = elim ((put i).0 c) [
        | inl l ↦ (let t = (h.1 i).0 l in (more i t.0, t.1))
        | inr e ↦ (subst (λ z. Contains (take (j + 1) xs) z) (sym e) here, subst (λ z. slice_get old z ≡ Some Unknown) (sym e) unknown)
      ]

      from : (i : ℕ) → Contains (take (j + 1) xs) i × (slice_get old i ≡ Some Unknown) → Contains next i
      from i t = elim ((in_more xs j i inside).0 t.0) [
        | inl l ↦ (put i).1 (inl ((h.1 i).1 (l, t.1)))
        | inr e ↦ (put i).1 (inr e)
      ]

  pub pass_one : (¬ (slice_get marks x ≡ Some Unknown)) → AreRaised (take (j + 1) xs) old marks agenda
  pass_one none = (raised, (λ i. ((λ c. (let t = (h.1 i).0 c in (more i t.0, t.1))), from i)))
    where
      raised : (i : ℕ) → IsRaisedBy (take (j + 1) xs) old marks i
      raised i = elim (cases_eq i x) [
        | inl e ↦ subst (IsRaisedBy (take (j + 1) xs) old marks) (sym e) (by (h.0 x))
        | inr ne ↦ other marks i ne refl (h.0 i)
      ]
        where
          by : IsRaisedBy (take j xs) old marks x → IsRaisedBy (take (j + 1) xs) old marks x
          by (inl t) = inl (more x t.0, t.1, t.2)
          by (inr t) = inr ((λ w. none (t.1 ∙ w.1)), t.1)

      from : (i : ℕ) → Contains (take (j + 1) xs) i × (slice_get old i ≡ Some Unknown) → Contains agenda i
      from i t = elim ((in_more xs j i inside).0 t.0) [
        | inl l ↦ (h.1 i).1 (l, t.1)
        | inr e ↦ by e (subst (λ z. slice_get old z ≡ Some Unknown) e t.1) (h.0 x)
      ]
        where
          by : i ≡ x → slice_get old x ≡ Some Unknown → IsRaisedBy (take j xs) old marks x → Contains agenda i
          by e u (inl w) = subst (λ z. Contains agenda z) (sym e) ((h.1 x).1 (w.0, u))
          by e u (inr w) = absurd (none (w.1 ∙ u))

-- before the first number
pub none_raised : (old : List Verdict) (agenda : List ℕ) → agenda ≡ [] → AreRaised [] old old agenda
none_raised old agenda none = (
  (λ i. inr ((λ w. not_in_none i w.0), refl)),
  (λ i. ((λ c. absurd (not_in_none i (subst (λ xs. Contains xs i) none c))), (λ w. absurd (not_in_none i w.0)))),
)
