-- Where pairs need none but themselves, what is kept of others changes nothing.
use Rattle.std.proofs.Common.{◌∙◌, ℕ, zero, suc, ◌⊎◌, inl, inr, List, [], ◌++◌, refl, sym, subst, take}
use Rattle.std.proofs.lemmas.List.{append-nil}
use Rattle.std.proofs.lemmas.List.Elements.{Contains-append_cases, Contains-append_left, Contains-append_right}
use Rattle.std.specs.Prelude.{◌↔◌, Contains}
use Rattle.lists.proofs.Members.{got_in, not_in_none}
use Rattle.schema_tree.specs.declared.schema.Pair.{Pair}
use Rattle.schema_tree.specs.declared.verdicts.Lean.{Lean}
use Rattle.schema_tree.specs.declared.verdicts.Lean.TheVariants.{Impossible, Possible}
use Rattle.schema_tree.specs.declared.verdicts.Verdict.{Verdict}
use Rattle.schema_tree.specs.declared.verdicts.Verdict.TheVariants.{No, Yes}
use Rattle.schema_tree.specs.Needs.{HoldNeeds}
use Rattle.schema_tree.specs.Places.{PairCanMatch}
use Rattle.schema_tree.specs.Removal.{CanGo, IsConfirmed, IsRefinedAt}
use Rattle.schema_tree.specs.Sure.{Known}
use Rattle.removal_laws.specs.Marks.{known_by, marked, outside}
use Rattle.removal_laws.proofs.Carried.{match_alike}
use Rattle.removal_laws.proofs.Known.{held_at, to_outside}
use Rattle.removal_laws.proofs.Marking.{to_mark}
use Rattle.locality_laws.proofs.Alike.{by_members}
use Rattle.typing_refiner.specs.declared.ground.Ground.{Ground}
use Rattle.typing_refiner.specs.declared.removal.Removed.{Removed}
use Rattle.typing_refiner.specs.declared.strata_loop.Confirmed.{Confirmed}
use Rattle.typing_refiner.specs.Confirmed.{HavePlaces}
use Rattle.typing_refiner.specs.Ready.{known_of}
use Rattle.typing_refiner.specs.Records.{AreShown, HaveStates, IsShownOver, known_without, pairs_gone}
use Rattle.typing_refiner.proofs.SameStates.{AgreeFor, places_alike, states_alike}
use Rattle.typing_refiner.proofs.Strata.{marks_of_none, nothing_known}

module _ (h : Ground) (closed : HoldNeeds h.schema.now h.graph.now.triples h.table.now) where
  -- the two know the same of the pairs
  abbrev SameIn : Known → Known → Type 0
  SameIn a b = (q : Pair) → Contains h.table.now q → (Contains a.yes q ↔ Contains b.yes q) × (Contains a.no q ↔ Contains b.no q)

  turned : (a b : Known) → SameIn a b → SameIn b a
  turned a b same q c = let (yes_, no_) = same q c in ((yes_.1, yes_.0), (no_.1, no_.0))

  more : (xs ys zs : List Pair) (q : Pair) → (Contains xs q ↔ Contains ys q) → Contains (xs ++ zs) q → Contains (ys ++ zs) q
  more xs ys zs q same c = elim (Contains-append_cases xs zs q c) [ inl l ↦ Contains-append_left ys zs q (same.0 l) | inr r ↦ Contains-append_right ys zs q r ]

  both_more : (xs ys zs : List Pair) (q : Pair) → (Contains xs q ↔ Contains ys q) → Contains (xs ++ zs) q ↔ Contains (ys ++ zs) q
  both_more xs ys zs q same = (more xs ys zs q same, more ys xs zs q (same.1, same.0))

  abbrev with_both : Known → List Pair → List Pair → Known
  with_both a kept gone = record { yes = a.yes ++ kept; no = a.no ++ gone }

  raised : (a b : Known) (kept gone : List Pair) → SameIn a b → SameIn (with_both a kept gone) (with_both b kept gone)
  raised a b kept gone same q c = let (yes_, no_) = same q c in (both_more a.yes b.yes kept q yes_, both_more a.no b.no gone q no_)

  lowered : (a b : Known) (gone : List Pair) → SameIn a b → SameIn (known_without a gone) (known_without b gone)
  lowered a b gone same q c = let (yes_, no_) = same q c in (yes_, both_more a.no b.no gone q no_)

  agree : (a b : Known) → SameIn a b → (p : Pair) → Contains h.table.now p → AgreeFor h.schema.now h.graph.now.triples p a b
  agree a b same p c q need v = let (yes_, no_) = same q (closed p q c need) in by_members a b q yes_ no_ v

  stays : (a b : Known) (lean : Lean) (p : Pair) → SameIn a b → Contains h.table.now p → PairCanMatch h.schema.now h.terms.now h.graph.now.triples a lean p →
      PairCanMatch h.schema.now h.terms.now h.graph.now.triples b lean p
  stays a b lean p same c = match_alike h.schema.now h.terms.now h.graph.now.triples a b lean p (agree a b same p c)

  -- ---- a stratum

  abbrev Goes : Known → ℕ → List Pair → Pair → Type 0
  Goes lower k gone p = CanGo h.schema.now h.terms.now h.graph.now.triples h.strata.now h.table.now h.budget lower k gone p

  can_go : (a b : Known) (k : ℕ) (gone : List Pair) (p : Pair) → SameIn a b → Goes a k gone p → Goes b k gone p
  can_go a b k gone p same (narrow, none, stuck) =
      (narrow, none, (λ m. stuck (stays (known_without b gone) (known_without a gone) Possible p (lowered b a gone (turned a b same)) narrow.0 m)))

  confirmed : (a b : Known) (k : ℕ) (gone kept : List Pair) → SameIn a b → IsConfirmed h.schema.now h.terms.now h.graph.now.triples h.strata.now h.table.now h.budget a k gone kept →
      IsConfirmed h.schema.now h.terms.now h.graph.now.triples h.strata.now h.table.now h.budget b k gone kept
  confirmed a b k gone kept same all p c =
      let (narrow, none, m) = all p c in (narrow, none, stays (with_both a kept gone) (with_both b kept gone) Impossible p (raised a b kept gone same) narrow.0 m)

  refined : (a b : Known) (k : ℕ) (gone kept : List Pair) → SameIn a b → IsRefinedAt h.schema.now h.terms.now h.graph.now.triples h.strata.now h.table.now h.budget a k gone kept →
      IsRefinedAt h.schema.now h.terms.now h.graph.now.triples h.strata.now h.table.now h.budget b k gone kept
  refined a b k gone kept same r = record {
    in_turn = λ j p at. (let t = r.in_turn j p at in (can_go a b k (take j gone) p same t.0, (λ q c. t.1 q (can_go b a k (take j gone) q (turned a b same) c))));
    finished = λ p c. r.finished p (can_go b a k gone p (turned a b same) c);
    confirmed = confirmed a b k gone kept same r.confirmed;
    greatest = λ others c. r.greatest others (confirmed b a k gone others (turned a b same) c);
  }

  states : (a b : Known) (gone : List Removed) → SameIn a b → HaveStates h a gone → HaveStates h b gone
  states a b gone same all j x at =
      let (rank, place, listed) = all j x at in (
        rank,
        place,
        (λ wanted. states_alike h.schema.now h.terms.now h.graph.now.triples (known_without a (take j (pairs_gone gone))) (known_without b (take j (pairs_gone gone))) x.pair x.states
            (agree (known_without a (take j (pairs_gone gone))) (known_without b (take j (pairs_gone gone))) (lowered a b (take j (pairs_gone gone)) same) x.pair (got_in h.table.now x.at x.pair place)) (listed wanted)),
      )

  -- ---- all strata

  abbrev none : Known
  none = known_by nothing_known h.table.now []

  nowhere : (v : Verdict) (q : Pair) → ¬ Contains (marked v h.table.now [] ++ []) q
  nowhere v q c = not_in_none q (subst (λ xs. Contains xs q) (append-nil (marked v h.table.now []) ∙ marks_of_none v h.table.now) c)

  -- the strata below k without what was known before
  record Cut (k : ℕ) (known : Known) (all : List (List Removed)) : Type 0 where
    own : Known
    are : AreShown h none k own all
    same : SameIn known own
    inside : (q : Pair) → Contains own.yes q ⊎ Contains own.no q → Contains h.table.now q

  module _ (first : Known) (out : (q : Pair) → Contains first.yes q ⊎ Contains first.no q → ¬ Contains h.table.now q) where
    cut : (k : ℕ) (known : Known) (all : List (List Removed)) → AreShown h first k known all → Cut k known all
    cut zero known all (a, b, c) = record {
      own = none;
      are = (refl, refl, c);
      same = λ q held. (
        ((λ y. absurd (out q (inl (subst (λ xs. Contains xs q) a y)) held)), (λ y. absurd (nowhere Yes q y))),
        ((λ y. absurd (out q (inr (subst (λ xs. Contains xs q) b y)) held)), (λ y. absurd (nowhere No q y))),
      );
      inside = λ q c. elim c [ inl y ↦ absurd (nowhere Yes q y) | inr n ↦ absurd (nowhere No q n) ];
    }
    cut (suc k) known all (lower, rest, gone, kept, before, r, listed, a, b, c) = further (cut k lower rest before)
      where
        further : Cut k lower rest → Cut (suc k) known all
        further l = record {
          own = with_both l.own kept (pairs_gone gone);
          are = (l.own, rest, gone, kept, l.are, refined lower l.own k (pairs_gone gone) kept l.same r, states lower l.own gone l.same listed, refl, refl, c);
          same = λ q held. (
            subst (λ xs. Contains xs q ↔ Contains (l.own.yes ++ kept) q) (sym a) (raised lower l.own kept (pairs_gone gone) l.same q held).0,
            subst (λ xs. Contains xs q ↔ Contains (l.own.no ++ pairs_gone gone) q) (sym b) (raised lower l.own kept (pairs_gone gone) l.same q held).1,
          );
          inside = λ q d. elim d [
            | inl y ↦ (elim (Contains-append_cases l.own.yes kept q y) [ inl e ↦ l.inside q (inl e) | inr n ↦ (r.confirmed q n).0.0 ])
            | inr n ↦ (elim (Contains-append_cases l.own.no (pairs_gone gone) q n) [
              | inl e ↦ l.inside q (inr e)
              | inr w ↦ (let (j, at) = held_at (pairs_gone gone) q w in (r.in_turn j q at).0.0.0)
            ])
          ];
        }

  -- ---- the marks

  marked_inside : (v : Verdict) (marks : List Verdict) (q : Pair) → Contains (marked v h.table.now marks) q → Contains h.table.now q
  marked_inside v marks q c = let (i, at, mark) = to_mark v h.table.now marks q c in got_in h.table.now i q at

  of_marks : (v : Verdict) (marks : List Verdict) (others : List Pair) (q : Pair) → Contains h.table.now q → Contains (marked v h.table.now marks ++ outside h.table.now others) q →
      Contains (marked v h.table.now marks) q
  of_marks v marks others q held c = elim (Contains-append_cases (marked v h.table.now marks) (outside h.table.now others) q c) [
    | inl m ↦ m
    | inr o ↦ absurd ((to_outside h.table.now others q o).1 held)
  ]

  either_way : (v : Verdict) (marks : List Verdict) (xs ys : List Pair) (q : Pair) → Contains h.table.now q → Contains (marked v h.table.now marks ++ outside h.table.now xs) q →
      Contains (marked v h.table.now marks ++ outside h.table.now ys) q
  either_way v marks xs ys q held c = Contains-append_left (marked v h.table.now marks) (outside h.table.now ys) q (of_marks v marks xs q held c)

  same_marks : (elsewhere : Known) (marks : List Verdict) → SameIn (known_of h elsewhere marks) (known_of h nothing_known marks)
  same_marks elsewhere marks q held = (
    (either_way Yes marks elsewhere.yes [] q held, either_way Yes marks [] elsewhere.yes q held),
    (either_way No marks elsewhere.no [] q held, either_way No marks [] elsewhere.no q held),
  )

  by_marks : (v : Verdict) (marks : List Verdict) (q : Pair) → Contains (marked v h.table.now marks ++ []) q → Contains h.table.now q
  by_marks v marks q c = marked_inside v marks q (subst (λ xs. Contains xs q) (append-nil (marked v h.table.now marks)) c)

  pub cut_off : (elsewhere : Known) (k : ℕ) (marks : List Verdict) (all : List (List Removed)) →
      ((q : Pair) → Contains (known_by elsewhere h.table.now []).yes q ⊎ Contains (known_by elsewhere h.table.now []).no q → ¬ Contains h.table.now q) →
      IsShownOver h elsewhere (known_by elsewhere h.table.now []) k marks all → IsShownOver h nothing_known none k marks all
  cut_off elsewhere k marks all out shown = go (cut (known_by elsewhere h.table.now []) out k shown.known all shown.are)
    where
      go : Cut k shown.known all → IsShownOver h nothing_known none k marks all
      go c = record {
        known = c.own;
        are = c.are;
        before = record {
          knows = (
            (
              (λ q m. let held = by_marks Yes marks q m in (c.same q held).0.0 (shown.before.knows.0.0 q ((same_marks elsewhere marks q held).0.1 m))),
              (λ q o. let held = c.inside q (inl o) in (same_marks elsewhere marks q held).0.0 (shown.before.knows.0.1 q ((c.same q held).0.1 o))),
            ),
            (
              (λ q m. let held = by_marks No marks q m in (c.same q held).1.0 (shown.before.knows.1.0 q ((same_marks elsewhere marks q held).1.1 m))),
              (λ q o. let held = c.inside q (inr o) in (same_marks elsewhere marks q held).1.0 (shown.before.knows.1.1 q ((c.same q held).1.1 o))),
            ),
          );
          new = shown.before.new;
        };
      }

  pub places_cut : (elsewhere : Known) (marks : List Verdict) (confirmed : List Confirmed) → HavePlaces h (known_of h elsewhere marks) confirmed →
      HavePlaces h (known_of h nothing_known marks) confirmed
  places_cut elsewhere marks confirmed all j c at p there =
      places_alike h.schema.now h.terms.now h.graph.now.triples (known_of h elsewhere marks) (known_of h nothing_known marks) p c.places
      (agree (known_of h elsewhere marks) (known_of h nothing_known marks) (same_marks elsewhere marks) p (got_in h.table.now c.at p there)) (all j c at p there)
