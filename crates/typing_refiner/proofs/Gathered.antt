-- The records that are put together show the verdicts.
use Rattle.std.proofs.Common.{◌≡◌, ◌≢◌, ◌∙◌, ℕ, zero, suc, ◌<◌, ◌⊎◌, inl, inr, List, [], ◌∷◌, ◌++◌, arith, refl, sym, ap, subst, length, map, take}
use Rattle.std.proofs.lemmas.Grind.{flat_map-append}
use Rattle.std.proofs.lemmas.List.{append-nil, length-map, length-take}
use Rattle.std.proofs.lemmas.Option.{slice_get_within}
use Rattle.std.specs.List.{flat_map}
use Rattle.std.specs.Prelude.{◌↔◌, Contains, Option, Some, None, slice_get}
use Rattle.lists.proofs.Members.{from_flat_map, from_map, in_flat_map, in_map, in_rest, is_first, is_later, not_in_none}
use Rattle.schema_tree.specs.declared.schema.Pair.{Pair}
use Rattle.schema_tree.specs.declared.verdicts.Verdict.{Verdict}
use Rattle.schema_tree.specs.declared.verdicts.Verdict.TheVariants.{Yes, No}
use Rattle.rdf_terms.specs.declared.terms.TermId.{TermId}
use Rattle.schema_tree.specs.Entries.{shape_at}
use Rattle.schema_tree.specs.Removal.{IsRefinedAt}
use Rattle.schema_tree.specs.Sure.{Known}
use Rattle.schema_tree.specs.Typings.{top_of}
use Rattle.proof_file.specs.declared.RecordKind.{RecordKind}
use Rattle.proof_file.specs.declared.Section.{Section}
use Rattle.removal_laws.proofs.Known.{held_at, is_yes, yes_at}
use Rattle.removal_laws.specs.Marks.{KnowSame, known_by, marked}
use Rattle.typing_refiner.specs.declared.ground.Ground.{Ground}
use Rattle.typing_refiner.specs.declared.removal.Removed.{Removed}
use Rattle.typing_refiner.specs.declared.strata_loop.Confirmed.{Confirmed}
use Rattle.typing_refiner.specs.declared.wanted.Wanted.TheVariants as Wanteds
use Rattle.typing_refiner.specs.Confirmed.{HavePlaces, numbers_of}
use Rattle.typing_refiner.specs.Evidence.{AreInTurn, AreRecordsOf, AreRemovals, AreShownBy, Removal, Shows, pairs_removed}
use Rattle.typing_refiner.specs.Filing.{AreFiled}
use Rattle.typing_refiner.specs.Ready.{IsReady, known_of}
use Rattle.typing_refiner.specs.Records.{AreShown, AreStatesFor, HaveStates, IsShownOver, known_without, pairs_gone}
use Rattle.typing_refiner.specs.Refined.{verdicts_of}
use Rattle.typing_refiner.proofs.Accepting.{of_list, removed_are}
use Rattle.typing_refiner.proofs.Said.{IsSaid, Kinds, SaysConfirmed, SaysGoneIn, all_said, confirmed_is_said, final, gone_is_said}
use Rattle.typing_refiner.proofs.SameStates.{places_same}
use Rattle.typing_refiner.proofs.Strata.{nothing_known}
use Rattle.typing_refiner.proofs.Verdicts.{plain}

-- ---- the removals

abbrev pub removal_of : Removed → Removal
removal_of x = record { pair = x.pair; rank = x.rank; states = x.states }

abbrev pub removals_of : List Removed → List Removal
removals_of gone = map removal_of gone

pairs_same : (gone : List Removed) → pairs_gone gone ≡ pairs_removed (removals_of gone)
pairs_same [] = refl
pairs_same (x ∷ xs) = ap (λ ps. x.pair ∷ ps) (pairs_same xs)

got_of : (gone : List Removed) (j : ℕ) (r : Removal) → slice_get (removals_of gone) j ≡ Some r → (x : Removed) × (slice_get gone j ≡ Some x) × (removal_of x ≡ r)
got_of [] j r e = absurd (let f : None ≡ Some r = e in cc)
got_of (x ∷ xs) zero r e = (x, refl, (let f : Some (removal_of x) ≡ Some r = e in cc))
got_of (x ∷ xs) (suc j) r e = got_of xs j r e

one_of : {X : Type 0} (o : Option X) (x y : X) → o ≡ Some x → o ≡ Some y → x ≡ y
one_of o x y a b = let e : Some x ≡ Some y = sym a ∙ b in cc

module _ (h : Ground) (wanted : h.wanted ≡ Wanteds.Records) (first : Known) (no_yes : first.yes ≡ []) (no_no : first.no ≡ []) where
  turns : (lower : Known) (gone : List Removed) → HaveStates h lower gone → AreInTurn h.schema.now h.terms.now h.graph.now.triples h.strata.now h.table.now h.budget lower (removals_of gone)
  turns lower gone states j r at =
      let (x, there, is) = got_of gone j r at in
      let (rank, place, listed) = states j x there in
      let inside = slice_get_within gone j x there in
      let taken = length-take j (pairs_gone gone) in let all_long = length-map gone (λ y. y.pair) in
      let long : length (take j (pairs_gone gone)) ≡ j = omega (arith, taken, all_long, inside) in
      subst (λ z. (z.rank ≡ suc j) ×
      AreStatesFor h.schema.now h.terms.now h.graph.now.triples (known_without lower (take j (pairs_removed (removals_of gone)))) z.pair.node (shape_at h.schema.now z.pair.shape) z.states) is (
        rank ∙ ap suc long,
        subst (λ ps. AreStatesFor h.schema.now h.terms.now h.graph.now.triples (known_without lower (take j ps)) x.pair.node (shape_at h.schema.now x.pair.shape) x.states) (pairs_same gone)
            (listed wanted),
      )

  pub removals : (k : ℕ) (known : Known) (all : List (List Removed)) → AreShown h first k known all →
      AreRemovals h.schema.now h.terms.now h.graph.now.triples h.strata.now h.table.now h.budget k known (flat_map removals_of all)
  removals zero known all (a, b, c) = (a ∙ no_yes, b ∙ no_no, ap (flat_map removals_of) c)
  removals (suc k) known all (lower, rest, gone, kept, before, r, states, a, b, c) = (
    lower,
    flat_map removals_of rest,
    removals_of gone,
    kept,
    removals k lower rest before,
    subst (λ ps. IsRefinedAt h.schema.now h.terms.now h.graph.now.triples h.strata.now h.table.now h.budget lower k ps kept) (pairs_same gone) r,
    turns lower gone states,
    a,
    b ∙ ap (λ ps. lower.no ++ ps) (pairs_same gone),
    ap (flat_map removals_of) c ∙ (flat_map-append removals_of rest (gone ∷ []) ∙ ap (λ xs. flat_map removals_of rest ++ xs) (append-nil (removals_of gone))),
  )

-- each pair that went has its number
pub gone_there : (h : Ground) (first : Known) (k : ℕ) (known : Known) (all : List (List Removed)) → AreShown h first k known all → (v : List Removed) (x : Removed) → Contains all v → Contains v x →
    slice_get h.table.now x.at ≡ Some x.pair
gone_there h first zero known all (a, b, c) v x held inside = absurd (not_in_none v (subst (λ xs. Contains xs v) c held))
gone_there h first (suc k) known all (lower, rest, gone, kept, before, r, states, a, b, c) v x held inside =
    go (in_end rest gone v (subst (λ xs. Contains xs v) c held)) (λ d. gone_there h first k lower rest before v x d inside)
  where
    go : Contains rest v ⊎ (gone ≡ v) → (Contains rest v → slice_get h.table.now x.at ≡ Some x.pair) → slice_get h.table.now x.at ≡ Some x.pair
    go (inl l) deeper = deeper l
    go (inr e) deeper = let (j, at) = held_at gone x (subst (λ z. Contains z x) (sym e) inside) in (states j x at).1

    in_end : (xs : List (List Removed)) (y w : List Removed) → Contains (xs ++ y ∷ []) w → Contains xs w ⊎ (y ≡ w)
    in_end [] y w d = elim (in_rest y [] w d) [ inl e ↦ inr e | inr n ↦ absurd (not_in_none w n) ]
    in_end (z ∷ zs) y w d = elim (in_rest z (zs ++ y ∷ []) w d) [
      | inl e ↦ inl (subst (λ u. Contains (z ∷ zs) u) e (is_first z zs))
      | inr n ↦ (elim (in_end zs y w n) [ inl l ↦ inl (is_later z zs w l) | inr e ↦ inr e ])
    ]

-- ---- over nothing that is kept

marks_none : (v : Verdict) (pairs : List Pair) → marked v pairs [] ≡ []
marks_none v [] = refl
marks_none v (p ∷ ps) = refl

module _ (h : Ground) (ready : IsReady h) (wanted : h.wanted ≡ Wanteds.Records) (marks : List Verdict) (all : List (List Removed)) (confirmed : List Confirmed) (empty : Kinds)
    (none : (i : ℕ) (k : RecordKind) → slice_get empty i ≢ Some (Some k)) (long : length empty ≡ length h.table.now)
    (numbers : (i : ℕ) → Contains (numbers_of confirmed) i ↔ ((i < length h.table.now) × (slice_get marks i ≡ Some Yes))) (nodes : List TermId) (sections : List Section)
    (filed : AreFiled h.terms.now h.strata.now h.table.now (final empty none all confirmed) nodes sections) where
  abbrev Claim : Type 0
  Claim = AreShownBy h.schema.now h.terms.now h.graph.now.triples h.strata.now h.table.now h.budget (verdicts_of h.table.now marks) nodes sections

  module _ (shown : IsShownOver h nothing_known (known_by nothing_known h.table.now []) (suc (top_of h.strata.now)) marks all) (places : HavePlaces h (known_of h nothing_known marks) confirmed) where
    abbrev known : Known
    known = shown.known

    abbrev gone : List Removal
    gone = flat_map removals_of all

    abbrev first : Known
    first = known_by nothing_known h.table.now []

    no_yes : first.yes ≡ []
    no_yes = append-nil (marked Yes h.table.now []) ∙ marks_none Yes h.table.now

    no_no : first.no ≡ []
    no_no = append-nil (marked No h.table.now []) ∙ marks_none No h.table.now

    are : AreRemovals h.schema.now h.terms.now h.graph.now.triples h.strata.now h.table.now h.budget (suc (top_of h.strata.now)) known gone
    are = removals h wanted first no_yes no_no (suc (top_of h.strata.now)) known all shown.are

    abbrev ShowsIt : Pair → RecordKind → Type 0
    ShowsIt p k = Shows h.schema.now h.terms.now h.graph.now.triples h.strata.now h.table.now h.budget known gone p k

    has_mark : (i : ℕ) (p : Pair) → slice_get h.table.now i ≡ Some p → slice_get marks i ≡ Some Yes → Contains known.yes p
    has_mark i p at mark = shown.before.knows.0.0 p (is_yes nothing_known h.table.now ready.distinct marks i p at mark)

    sound : (i : ℕ) (p : Pair) (k : RecordKind) → slice_get h.table.now i ≡ Some p → slice_get (final empty none all confirmed) i ≡ Some (Some k) → ShowsIt p k
    sound i p k at said = by (all_said empty none all confirmed i k said)
      where
        by : SaysGoneIn all i k ⊎ SaysConfirmed confirmed i k → ShowsIt p k
        by (inl (v, c, (x, d, is, kind))) =
            let there = gone_there h first (suc (top_of h.strata.now)) known all shown.are v x c d in
            let e : x.pair ≡ p = one_of (slice_get h.table.now i) x.pair p (subst (λ j. slice_get h.table.now j ≡ Some x.pair) is there) at in
            subst (ShowsIt p) (sym kind)
            (subst (λ q. Contains gone (record { pair = q; rank = x.rank; states = x.states })) e (in_flat_map removals_of all v (removal_of x) c (in_map removal_of v x d)))
        by (inr (c, d, is, kind)) =
            let (lt, mark) = (numbers i).0 (subst (λ j. Contains (numbers_of confirmed) j) is (in_map (λ z. z.at) confirmed c d)) in
            let (r, got) = held_at confirmed c d in
            let least = places r c got p (subst (λ j. slice_get h.table.now j ≡ Some p) (sym is) at) in
            subst (ShowsIt p) (sym kind) (
              has_mark i p at mark,
              places_same h.schema.now h.terms.now h.graph.now.triples (known_of h nothing_known marks) known p c.places shown.before.knows least,
            )

    complete : (i : ℕ) (p : Pair) → slice_get h.table.now i ≡ Some p → Contains known.yes p ⊎ Contains known.no p → IsSaid (final empty none all confirmed) i
    complete i p at (inl y) =
        let mark = yes_at nothing_known h.table.now ready.distinct marks i p at (shown.before.knows.0.1 p y) in
        let (c, d, is) = from_map (λ z. z.at) confirmed i ((numbers i).1 (slice_get_within h.table.now i p at, mark)) in
        let inside = slice_get_within h.table.now i p at in
        subst (IsSaid (final empty none all confirmed)) is (confirmed_is_said empty none all confirmed c d (let l : c.at < length empty = omega (arith, is, inside, long) in l))
    complete i p at (inr n) =
        let (r, held, e) = from_map (λ z. z.pair) gone p
        (subst (λ xs. Contains xs p) (sym (removed_are h.schema.now h.terms.now h.graph.now.triples h.strata.now h.table.now h.budget (suc (top_of h.strata.now)) known gone are)) n) in
        let (v, c, d) = from_flat_map removals_of all r held in
        let (x, inside, is) = from_map removal_of v r d in
        let there = gone_there h first (suc (top_of h.strata.now)) known all shown.are v x c inside in
        let pair_is : x.pair ≡ p = ap (λ z. z.pair) is ∙ e in
        let same : x.at ≡ i = ready.distinct x.at i p (there ∙ ap (λ z. Some z) pair_is) at in
        let within = slice_get_within h.table.now x.at x.pair there in
        subst (IsSaid (final empty none all confirmed)) same (gone_is_said empty none all confirmed v x c inside (let l : x.at < length empty = omega (arith, within, long) in l))

    of_table : (p : Pair) → Contains known.yes p ⊎ Contains known.no p → Contains h.table.now p
    of_table p c = of_list h.schema.now h.terms.now h.graph.now.triples h.strata.now h.table.now h.budget (suc (top_of h.strata.now)) known gone are p c

    records : AreRecordsOf h.schema.now h.terms.now h.graph.now.triples h.strata.now h.table.now h.budget known gone nodes sections
    records = record {
      each = λ k r listed. (let (i, p, at, of, on, said) = filed.each k r listed in (p, of, on, sound i p r.kind at said));
      whole = λ p c. (let (i, at) = held_at h.table.now p (of_table p c) in let (k, said) = complete i p at c in filed.whole i p k at said);
      nodes_rise = filed.order;
      used = filed.used;
      some = filed.some;
      sections_rise = filed.sections_rise;
      records_rise = filed.records_rise;
    }

    pub gathered : Claim
    gathered = (known, gone, are, same_known, records)
      where
        same_known : KnowSame (verdicts_of h.table.now marks) known
        same_known = (
          ((λ q c. shown.before.knows.0.0 q ((plain h.table.now marks).0.1 q c)), (λ q c. (plain h.table.now marks).0.0 q (shown.before.knows.0.1 q c))),
          ((λ q c. shown.before.knows.1.0 q ((plain h.table.now marks).1.1 q c)), (λ q c. (plain h.table.now marks).1.0 q (shown.before.knows.1.1 q c))),
        )
