-- A pair that refinement finds to be not satisfied cannot match by all that refinement finds.
use Rattle.std.proofs.Common.{◌≡◌, ℕ, zero, suc, ◌<◌, inl, inr, arith, sym, subst, List, ◌++◌, take}
use Rattle.std.proofs.lemmas.List.Elements.{Contains-append_cases, Contains-append_left, Contains-append_right}
use Rattle.std.specs.Prelude.{Contains, Option, Some, None}
use Rattle.lists.proofs.Members.{got_in, not_in_none, place_of}
use Rattle.rdf_terms.specs.declared.terms.Term.{Term}
use Rattle.rdf_terms.specs.declared.terms.TermId.{TermId}
use Rattle.rdf_terms.specs.declared.terms.Triple.{Triple}
use Rattle.schema_tree.specs.declared.schema.ExprId.{ExprId}
use Rattle.schema_tree.specs.declared.schema.Pair.{Pair}
use Rattle.schema_tree.specs.declared.schema.Schema.{Schema}
use Rattle.schema_tree.specs.declared.schema.Shape.{Shape}
use Rattle.schema_tree.specs.declared.verdicts.Lean.TheVariants.{Possible}
use Rattle.schema_tree.specs.declared.verdicts.Verdict.TheVariants.{Yes, No}
use Rattle.schema_tree.specs.Edges.{level}
use Rattle.schema_tree.specs.Entries.{pair_of, shape_at}
use Rattle.schema_tree.specs.Matches.{other_end}
use Rattle.schema_tree.specs.Places.{CanMatch, MayFail, MayHold, PairCanMatch}
use Rattle.schema_tree.specs.Removal.{AreRefinedBelow, IsRefinedAt}
use Rattle.schema_tree.specs.Sure.{IsSure, Known, PairIs}
use Rattle.schema_tree.proofs.Leans.{places_weaker}
use Rattle.removal_laws.proofs.Carried.{sure_carries}
use Rattle.nonconformance.proofs.Whole.{in_front}

-- where b answers all that a answers, a pair that can match by b can match by a
module _ (s : Schema) (terms : List Term) (g : List Triple) (a b : Known) (up : (q : Pair) → PairIs a q Yes → PairIs b q Yes)
    (down : (q : Pair) → PairIs a q No → PairIs b q No) where
  yes_stays : (m : TermId) (e : ExprId) → IsSure s terms a m e Yes → IsSure s terms b m e Yes
  yes_stays m e = (sure_carries s terms a b m (suc e.0) e).0 ((λ i sign st. up (pair_of m i)), (λ i st. down (pair_of m i)))

  no_stays : (m : TermId) (e : ExprId) → IsSure s terms a m e No → IsSure s terms b m e No
  no_stays m e = (sure_carries s terms a b m (suc e.0) e).1 ((λ i sign st. down (pair_of m i)), (λ i st. up (pair_of m i)))

  hold_down : (m : TermId) (v : Option ExprId) → MayHold s terms b Possible m v → MayHold s terms a Possible m v
  hold_down m None h = h
  hold_down m (Some e) h = λ never. h (no_stays m e never)

  fail_down : (m : TermId) (v : Option ExprId) → MayFail s terms b Possible m v → MayFail s terms a Possible m v
  fail_down m None h = h
  fail_down m (Some e) h = λ always. h (yes_stays m e always)

  match_down : (p : Pair) → PairCanMatch s terms g b Possible p → PairCanMatch s terms g a Possible p
  match_down p = go (shape_at s p.shape)
    where
      go : (x : Option Shape) → CanMatch s terms g b Possible p.node x → CanMatch s terms g a Possible p.node x
      go None h = h
      go (Some sh) h =
          places_weaker _ _ _ _ sh p.node (λ t. Unit {0})
          (λ t o base of fit. hold_down (other_end o.inverse t) o.value) (λ t o base extra of forward. fail_down t.o o.value) g _ (λ t c. tt) h

module _ (s : Schema) (terms : List Term) (g : List Triple) (f : List ℕ) (pairs : List Pair) (budget : ℕ) where
  -- what is known of the strata below k: no pair is both Yes and No, and each No pair could not match by a part of it
  record IsFound (k : ℕ) (known : Known) : Type 0 where
    pub yes_low : (q : Pair) → Contains known.yes q → level f q.shape < k
    pub no_low : (q : Pair) → Contains known.no q → level f q.shape < k
    pub apart : (q : Pair) → Contains known.yes q → ¬ Contains known.no q
    pub went : (p : Pair) → Contains known.no p →
        (part : Known) × ((q : Pair) → Contains part.yes q → Contains known.yes q) × ((q : Pair) → Contains part.no q → Contains known.no q)
        × (¬ PairCanMatch s terms g part Possible p)

  module _ (k : ℕ) (lower known : Known) (gone kept : List Pair) (found : IsFound k lower) (at : IsRefinedAt s terms g f pairs budget lower k gone kept)
      (yes_is : known.yes ≡ lower.yes ++ kept) (no_is : known.no ≡ lower.no ++ gone) where
    kept_level : (q : Pair) → Contains kept q → level f q.shape ≡ k
    kept_level q c = (at.confirmed q c).0.1

    gone_level : (q : Pair) → Contains gone q → level f q.shape ≡ k
    gone_level q c = let (r, here) = place_of gone q c in (at.in_turn r q here).0.0.1

    yes_held : (q : Pair) → Contains lower.yes q → Contains known.yes q
    yes_held q c = subst (λ ps. Contains ps q) (sym yes_is) (Contains-append_left lower.yes kept q c)

    no_held : (q : Pair) → Contains (lower.no ++ gone) q → Contains known.no q
    no_held q c = subst (λ ps. Contains ps q) (sym no_is) c

    less_not : (a : ℕ) → a < k → a ≡ k → ⊥
    less_not a lt e = absurd (omega (arith, lt, e))

    next_yes : (q : Pair) → Contains known.yes q → level f q.shape < suc k
    next_yes q c = elim (Contains-append_cases lower.yes kept q (subst (λ ps. Contains ps q) yes_is c)) [
      | inl low ↦ (let lt = found.yes_low q low in omega arith)
      | inr here ↦ (let same = kept_level q here in omega arith)
    ]

    next_no : (q : Pair) → Contains known.no q → level f q.shape < suc k
    next_no q c = elim (Contains-append_cases lower.no gone q (subst (λ ps. Contains ps q) no_is c)) [
      | inl low ↦ (let lt = found.no_low q low in omega arith)
      | inr here ↦ (let same = gone_level q here in omega arith)
    ]

    next_apart : (q : Pair) → Contains known.yes q → ¬ Contains known.no q
    next_apart q c d = elim (Contains-append_cases lower.yes kept q (subst (λ ps. Contains ps q) yes_is c)) [
      | inl low ↦ elim (Contains-append_cases lower.no gone q (subst (λ ps. Contains ps q) no_is d)) [
        | inl no_low ↦ found.apart q low no_low
        | inr went ↦ less_not (level f q.shape) (found.yes_low q low) (gone_level q went)
      ]
      | inr here ↦ elim (Contains-append_cases lower.no gone q (subst (λ ps. Contains ps q) no_is d)) [
        | inl no_low ↦ less_not (level f q.shape) (found.no_low q no_low) (kept_level q here)
        | inr went ↦ (at.confirmed q here).1 went
      ]
    ]

    abbrev Went : Pair → Type 0
    Went p =
        (part : Known) × ((q : Pair) → Contains part.yes q → Contains known.yes q) × ((q : Pair) → Contains part.no q → Contains known.no q)
        × (¬ PairCanMatch s terms g part Possible p)

    early : (p : Pair) → Contains lower.no p → Went p
    early p c = let (part, yes_in, no_in, none) = found.went p c in
        (part, (λ q d. yes_held q (yes_in q d)), (λ q d. no_held q (Contains-append_left lower.no gone q (no_in q d))), none)

    late : (p : Pair) → Contains gone p → Went p
    late p c =
        let (r, here) = place_of gone p c in (
          record { yes = lower.yes; no = lower.no ++ take r gone },
          yes_held,
          (λ q d. no_held q (elim (Contains-append_cases lower.no (take r gone) q d) [
            | inl low ↦ Contains-append_left lower.no gone q low
            | inr before ↦ Contains-append_right lower.no gone q (taken r q before)
          ])),
          (at.in_turn r p here).0.2,
        )
      where
        taken : (r : ℕ) (q : Pair) → Contains (take r gone) q → Contains gone q
        taken r q c = let (j, lt, there) = in_front gone r q c in got_in gone j q there

    next_found : IsFound (suc k) known
    next_found = record {
      yes_low = next_yes;
      no_low = next_no;
      apart = next_apart;
      went = λ p c. elim (Contains-append_cases lower.no gone p (subst (λ ps. Contains ps p) no_is c)) [
        | inl low ↦ early p low
        | inr here ↦ late p here
      ];
    }

  are_found : (k : ℕ) (known : Known) → AreRefinedBelow s terms g f pairs budget k known → IsFound k known
  are_found zero known (no_yes, no_no) = record {
    yes_low = λ q c. absurd (not_in_none q (subst (λ ps. Contains ps q) no_yes c));
    no_low = λ q c. absurd (not_in_none q (subst (λ ps. Contains ps q) no_no c));
    apart = λ q c d. not_in_none q (subst (λ ps. Contains ps q) no_yes c);
    went = λ p c. absurd (not_in_none p (subst (λ ps. Contains ps p) no_no c));
  }
  are_found (suc k) known (lower, gone, kept, before, at, yes_is, no_is) =
      next_found k lower known gone kept (are_found k lower before) at yes_is no_is

  pub no_cannot_match : (k : ℕ) (known : Known) → AreRefinedBelow s terms g f pairs budget k known → (p : Pair) → Contains known.no p →
      PairIs known p No × (¬ PairCanMatch s terms g known Possible p)
  no_cannot_match k known refined p c = by (are_found k known refined)
    where
      by : IsFound k known → PairIs known p No × (¬ PairCanMatch s terms g known Possible p)
      by found =
          let (part, yes_in, no_in, none) = found.went p c in (
            ((λ y. found.apart p y c), c),
            (λ can. none (match_down s terms g part known yes_in (λ q h. ((λ y. found.apart q y (no_in q h.1)), no_in q h.1)) p can)),
          )
