-- Pairs that are confirmed match under all that is known in the end.
use Rattle.std.proofs.Common.{◌≡◌, ℕ, zero, suc, ◌<◌, ◌⊎◌, inl, inr, List, ◌++◌, arith, sym, subst}
use Rattle.std.proofs.lemmas.List.Elements.{Contains-append_cases, Contains-append_left}
use Rattle.std.specs.Prelude.{Contains}
use Rattle.rdf_terms.specs.declared.terms.Term.{Term}
use Rattle.rdf_terms.specs.declared.terms.Triple.{Triple}
use Rattle.schema_tree.specs.declared.schema.Pair.{Pair}
use Rattle.schema_tree.specs.declared.schema.Schema.{Schema}
use Rattle.schema_tree.specs.declared.verdicts.Lean.TheVariants.{Impossible}
use Rattle.schema_tree.specs.declared.verdicts.Verdict.TheVariants.{Yes, No}
use Rattle.schema_tree.specs.Edges.{level}
use Rattle.schema_tree.specs.Needs.{Needs}
use Rattle.schema_tree.specs.Places.{PairCanMatch}
use Rattle.schema_tree.specs.Removal.{IsRefinedAt}
use Rattle.schema_tree.specs.Sure.{Known, PairIs}
use Rattle.removal_laws.proofs.Carried.{match_up}
use Rattle.removal_laws.proofs.Known.{held_at}
use Rattle.locality_laws.specs.Local.{AreRefinedOn}

module _ (s : Schema) (terms : List Term) (g : List Triple) (f : List ℕ) (pairs : List Pair) (budget : ℕ) (first : Known)
    (out : (q : Pair) → Contains first.yes q ⊎ Contains first.no q → ¬ Contains pairs q) where
  gone_narrow : (lower : Known) (k : ℕ) (gone kept : List Pair) → IsRefinedAt s terms g f pairs budget lower k gone kept → (q : Pair) → Contains gone q → Contains pairs q × (level f q.shape ≡ k)
  gone_narrow lower k gone kept r q c =
      let (i, at) = held_at gone q c in let narrow = (r.in_turn i q at).0.0 in (narrow.0, narrow.1)

  -- what is known below k is of lower strata, or of no pair of the list
  pub low_no : (k : ℕ) (known : Known) → AreRefinedOn s terms g f pairs budget first k known → (q : Pair) → Contains known.no q → Contains pairs q → level f q.shape < k
  low_no zero known (a, b) q c inside = absurd (out q (inr (subst (λ xs. Contains xs q) b c)) inside)
  low_no (suc k) known (lower, gone, kept, before, r, a, b) q c inside = elim (Contains-append_cases lower.no gone q (subst (λ xs. Contains xs q) b c)) [
    | inl l ↦ (let lt = low_no k lower before q l inside in let e : level f q.shape < suc k = omega (arith, lt) in e)
    | inr n ↦ (let e = (gone_narrow lower k gone kept r q n).1 in let l : level f q.shape < suc k = omega (arith, e) in l)
  ]

  as_known : (known : Known) (yes_ no_ : List Pair) → known.yes ≡ yes_ → known.no ≡ no_ → record { yes = yes_; no = no_ } ≡ known
  as_known known yes_ no_ a b = λ i. record { yes = sym a i; no = sym b i }

  -- each of the list that is known to be Yes matches
  pub yes_matches : (k : ℕ) (known : Known) → AreRefinedOn s terms g f pairs budget first k known → (p : Pair) → Contains pairs p → Contains known.yes p → PairCanMatch s terms g known Impossible p
  yes_matches zero known (a, b) p inside c = absurd (out p (inl (subst (λ xs. Contains xs p) a c)) inside)
  yes_matches (suc k) known (lower, gone, kept, before, r, a, b) p inside c = elim (Contains-append_cases lower.yes kept p (subst (λ xs. Contains xs p) a c)) [
    | inl l ↦ match_up s terms g lower known p up down (yes_matches k lower before p inside l)
    | inr n ↦ subst (λ v. PairCanMatch s terms g v Impossible p) (as_known known (lower.yes ++ kept) (lower.no ++ gone) a b) (r.confirmed p n).2
  ]
    where
      up : (q : Pair) → Needs s g p q → PairIs lower q Yes → PairIs known q Yes
      up q need y = subst (λ xs. Contains xs q) (sym a) (Contains-append_left lower.yes kept q y)

      down : (q : Pair) → Needs s g p q → PairIs lower q No → PairIs known q No
      down q need (none, held) = (
        (λ y. elim (Contains-append_cases lower.yes kept q (subst (λ xs. Contains xs q) a y)) [
          | inl l ↦ none l
          | inr n ↦ (let narrow = (r.confirmed q n).0 in let lt = low_no k lower before q held narrow.0 in let e = narrow.1 in omega (arith, lt, e))
        ]),
        subst (λ xs. Contains xs q) (sym b) (Contains-append_left lower.no gone q held),
      )
