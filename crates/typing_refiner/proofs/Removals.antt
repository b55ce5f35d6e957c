-- What a look at a pair comes to while pairs are removed.
use Rattle.std.proofs.Common.{◌≡◌, ℕ, ◌<◌, ◌⊎◌, inl, inr, List, [], ◌∷◌, ◌++◌, refl, sym, subst}
use Rattle.std.specs.Prelude.{◌↔◌, ⊤, Contains, Some, option_map, slice_get, slice_set}
use Rattle.schema_tree.specs.declared.schema.Pair.{Pair}
use Rattle.schema_tree.specs.declared.verdicts.Lean.TheVariants.{Possible}
use Rattle.schema_tree.specs.declared.verdicts.State.{State}
use Rattle.schema_tree.specs.declared.verdicts.Verdict.{Verdict}
use Rattle.schema_tree.specs.declared.verdicts.Verdict.TheVariants.{No, Unknown}
use Rattle.schema_tree.specs.Sure.{Known}
use Rattle.bag_match.specs.declared.outcome.Outcome.TheVariants as outcomes
use Rattle.lists.proofs.Members.{not_in_none}
use Rattle.removal_laws.proofs.Removing.{start, stays, went}
use Rattle.typing_refiner.specs.declared.ground.Ground.{Ground}
use Rattle.typing_refiner.specs.Ready.{GoesBack, IsAmong, IsBefore, IsNarrowOf, IsOpen, IsReady, IsRemoving, known_of}
use Rattle.typing_refiner.proofs.Outcomes.{placed_can}
use Rattle.typing_refiner.specs.Findings.{IsFinding}
use Rattle.typing_refiner.specs.declared.removal.Finding.{Finding}
use Rattle.typing_refiner.specs.declared.removal.Finding.TheVariants.{Goes, Placed}
use Rattle.typing_refiner.proofs.Upheld.{decide_among}
use Rattle.schema_tree.specs.Places.{PairCanMatch}
use Rattle.removal_laws.proofs.Known.{match_known}
use Rattle.typing_refiner.specs.Holding.{CanMatchAt}
use Rattle.typing_refiner.specs.Records.{known_without}

-- the pair has places
abbrev pub IsPlaced : Finding → Type 0
IsPlaced (Placed places) = ⊤
IsPlaced (Goes states) = ⊥

-- what a look at the pair of a number comes to
abbrev pub IsLook : Ground → Known → List Verdict → ℕ → Finding → Type 0
IsLook h elsewhere marks at f = (p : Pair) → slice_get h.table.now at ≡ Some p → IsFinding h (known_of h elsewhere marks) p f

found_can : (h : Ground) (view : Known) (p : Pair) (f : Finding) → IsFinding h view p f → IsPlaced f → PairCanMatch h.schema.now h.terms.now h.graph.now.triples view Possible p
found_can h view p (Placed places) found stays = placed_can h.schema.now h.terms.now h.graph.now.triples view Possible p (outcomes.Placed places) places refl found
found_can h view p (Goes states) found stays = absurd stays

-- of the pairs that need one that went, those that can match all the same are not to be looked at
settled_back : (h : Ground) (elsewhere lower : Known) (k : ℕ) (marks : List Verdict) (gone : List Pair) (at : ℕ) (agenda next : List ℕ) →
    ((q : ℕ) → Contains next q → Contains agenda q ⊎ GoesBack h k at marks Unknown q) → ((q : ℕ) → Contains agenda q → Contains next q) →
    ((q : ℕ) → GoesBack h k at marks Unknown q → Contains next q ⊎ CanMatchAt h (known_of h elsewhere marks) q) →
    IsRemoving h elsewhere lower k marks gone (λ i. Contains agenda i ⊎ GoesBack h k at marks Unknown i) → IsRemoving h elsewhere lower k marks gone (λ i. Contains next i)
settled_back h elsewhere lower k marks gone at agenda next put kept settled r = record {
  in_turn = r.in_turn;
  knows = r.knows;
  fresh = r.fresh;
  new = r.new;
  settled = rest;
  open_to = λ i c. r.open_to i (put i c);
}
  where
    rest : (i : ℕ) (p : Pair) → slice_get h.table.now i ≡ Some p → IsNarrowOf h k p → slice_get marks i ≡ Some Unknown → ¬ Contains next i →
        PairCanMatch h.schema.now h.terms.now h.graph.now.triples (known_without lower gone) Possible p
    rest i p there narrow mark out = elim (decide_among (option_map (λ v. v.items) (slice_get h.needing.now at)) i) [
      | inr apart ↦ r.settled i p there narrow mark (λ todo. elim todo [ inl on ↦ out (kept i on) | inr back ↦ apart back.0 ])
      | inl among ↦ elim (settled i (among, ((p, there, narrow), mark))) [
        | inl on ↦ absurd (out on)
        | inr can ↦ match_known h.schema.now h.terms.now h.graph.now.triples (known_of h elsewhere marks) (known_without lower gone) Possible p r.knows (can p there)
      ]
    ]

module _ (h : Ground) (ready : IsReady h) (elsewhere lower : Known) (k : ℕ) (marks : List Verdict) (gone : List Pair) (at : ℕ) (agenda : List ℕ)
    (r : IsRemoving h elsewhere lower k marks gone (λ i. Contains agenda i ⊎ (i ≡ at))) (f : Finding) (look : IsLook h elsewhere marks at f) where
  pub still : IsPlaced f → IsRemoving h elsewhere lower k marks gone (λ i. Contains agenda i)
  still left =
      let (p, here, narrow) = (r.open_to at (inr refl)).0 in
      stays h.schema.now h.terms.now h.graph.now.triples h.strata.now h.table.now h.budget elsewhere ready.distinct lower k marks gone at p here (λ i. Contains agenda i) r
      (found_can h (known_of h elsewhere marks) p f (look p here) left)

  abbrev Back : List Verdict → ℕ → Type 0
  Back ms i = Contains agenda i ⊎ GoesBack h k at ms Unknown i

  further : (states : List State) → f ≡ Goes states → ((i : ℕ) → Contains agenda i → at < i) → (p : Pair) → slice_get h.table.now at ≡ Some p →
      IsRemoving h elsewhere lower k (slice_set marks at No) (gone ++ p ∷ []) (Back (slice_set marks at No))
  further states is least p here =
      went h.schema.now h.terms.now h.graph.now.triples h.strata.now h.table.now h.budget elsewhere ready.distinct lower k marks gone at p here (λ i. Contains agenda i) r
      (subst (IsFinding h (known_of h elsewhere marks) p) is (look p here)).0 least
      (λ i. IsAmong (option_map (λ v. v.items) (slice_get h.needing.now at)) i) (Back (slice_set marks at No))
      (λ i q there need. ready.needing at i p q here there need)
      (λ i. (
        (λ c. elim c [ inl l ↦ inl l | inr t ↦ inr (t.0, t.1.0, t.1.1) ]),
        (λ c. elim c [ inl l ↦ inl l | inr t ↦ inr (t.0, (t.1, t.2)) ]),
      ))

  pub further_as : (states : List State) → f ≡ Goes states → ((i : ℕ) → Contains agenda i → at < i) → (p : Pair) → slice_get h.table.now at ≡ Some p →
      (marks' : List Verdict) → marks' ≡ slice_set marks at No → (gone' : List Pair) → gone' ≡ gone ++ p ∷ [] → (next : List ℕ) →
      ((q : ℕ) → Contains next q → Contains agenda q ⊎ GoesBack h k at marks' Unknown q) → ((q : ℕ) → Contains agenda q → Contains next q) →
      ((q : ℕ) → GoesBack h k at marks' Unknown q → Contains next q ⊎ CanMatchAt h (known_of h elsewhere marks') q) →
      IsRemoving h elsewhere lower k marks' gone' (λ i. Contains next i)
  further_as states is least p here marks' marked gone' more next put kept settled =
      settled_back h elsewhere lower k marks' gone' at agenda next put kept settled
      (subst (λ ms. IsRemoving h elsewhere lower k ms gone' (Back ms)) (sym marked)
      (subst (λ ps. IsRemoving h elsewhere lower k (slice_set marks at No) ps (Back (slice_set marks at No))) (sym more)
      (further states is least p here)))

-- the agenda as a condition that is met by the same numbers
pub todo_same :
    (h : Ground) (elsewhere lower : Known) (k : ℕ) (marks : List Verdict) (gone : List Pair) (Todo Todo' : ℕ → Type 0) → ((i : ℕ) → Todo i ↔ Todo' i) →
    IsRemoving h elsewhere lower k marks gone Todo → IsRemoving h elsewhere lower k marks gone Todo'
todo_same h elsewhere lower k marks gone Todo Todo' same r = record {
  in_turn = r.in_turn;
  knows = r.knows;
  fresh = r.fresh;
  new = r.new;
  settled = λ i p at narrow mark out. r.settled i p at narrow mark (λ t. out ((same i).0 t));
  open_to = λ i t. r.open_to i ((same i).1 t);
}

-- nothing is on an empty agenda
pub none_left : (agenda : List ℕ) → agenda ≡ [] → (i : ℕ) → Contains agenda i ↔ ⊥
none_left agenda is i = ((λ c. not_in_none i (subst (λ xs. Contains xs i) is c)), (λ h. absurd h))

-- with the members on it, the agenda has the open pairs
pub on_agenda : (old members new : List ℕ) (P : ℕ → Type 0) → old ≡ [] → ((q : ℕ) → Contains new q ↔ (Contains old q ⊎ Contains members q)) →
    ((i : ℕ) → Contains members i ↔ P i) → (i : ℕ) → Contains new i ↔ P i
on_agenda old members new P none put are i = (
  (λ c. elim ((put i).0 c) [ inl l ↦ absurd (not_in_none i (subst (λ xs. Contains xs i) none l)) | inr m ↦ (are i).0 m ]),
  (λ p. (put i).1 (inr ((are i).1 p))),
)

-- at the start
pub begun : (h : Ground) (ready : IsReady h) (elsewhere lower : Known) (k : ℕ) (marks : List Verdict) (agenda : List ℕ) → ((i : ℕ) → Contains agenda i ↔ IsOpen h k i) →
    (gone : List Pair) → gone ≡ [] → IsBefore h elsewhere lower k marks → IsRemoving h elsewhere lower k marks gone (λ i. Contains agenda i)
begun h ready elsewhere lower k marks agenda are gone none before =
    subst (λ ps. IsRemoving h elsewhere lower k marks ps (λ i. Contains agenda i)) (sym none)
    (start h.schema.now h.terms.now h.graph.now.triples h.strata.now h.table.now h.budget elsewhere ready.distinct lower k marks before (λ i. Contains agenda i)
    (λ i o. (are i).1 o) (λ i c. (are i).0 c))
