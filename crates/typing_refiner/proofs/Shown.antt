-- Pairs that are confirmed, one after another.
use Rattle.std.proofs.Common.{◌≡◌, ◌∙◌, ℕ, zero, suc, ◌<◌, ◌+◌, ◌⊎◌, inl, inr, List, [], ◌∷◌, ◌++◌, refl, sym, ap, subst, length, true}
use Rattle.std.proofs.lemmas.List.{map-append}
use Rattle.std.specs.Prelude.{Contains, Option, Some, None, slice_get}
use Rattle.schema_tree.specs.declared.schema.Pair.{Pair}
use Rattle.schema_tree.specs.declared.verdicts.Lean.TheVariants.{Impossible}
use Rattle.schema_tree.specs.declared.verdicts.Verdict.{Verdict}
use Rattle.schema_tree.specs.declared.verdicts.Verdict.TheVariants.{Yes, No, Unknown}
use Rattle.schema_tree.specs.Sure.{Known}
use Rattle.schema_tree.specs.Width.{IsWithinWidth}
use Rattle.schema_tree.specs.Typings.{top_of}
use Rattle.lists.proofs.Members.{got_in, not_in_none}
use Rattle.std.proofs.lemmas.List.Elements.{Contains-append_cases}
use Rattle.removal_laws.specs.Marks.{known_by, marked, outside}
use Rattle.removal_laws.proofs.Known.{is_yes, know_turned, match_known, to_outside}
use Rattle.typing_refiner.specs.declared.ground.Ground.{Ground}
use Rattle.typing_refiner.specs.declared.strata_loop.Confirmed.{Confirmed}
use Rattle.typing_refiner.specs.Confirmed.{HasPlacesAt, HavePlaces, numbers_of}
use Rattle.typing_refiner.specs.Ready.{IsReady, known_of}
use Rattle.typing_refiner.specs.Records.{AreShown, IsShownOver, MatchesAt}
use Rattle.typing_refiner.specs.Spent.{narrow_test}
use Rattle.typing_refiner.specs.declared.removal.Removed.{Removed}
use Rattle.std.proofs.lemmas.Option.{slice_get-get_or}
use Rattle.typing_refiner.proofs.Spending.{narrow_true}
use Rattle.typing_refiner.specs.Refined.{IsRefinedOver}
use Rattle.typing_refiner.proofs.Kept.{yes_matches}
use Rattle.typing_refiner.proofs.Strata.{AreBelow, begun_with, below_pass, below_put, marks_of_none}

abbrev IsYes : List Verdict → ℕ → Type 0
IsYes marks i = slice_get marks i ≡ Some Yes

pub numbers_put : (marks : List Verdict) (at : ℕ) (old new : List Confirmed) (c : Confirmed) → new ≡ old ++ c ∷ [] → c.at ≡ at → slice_get marks at ≡ Some Yes →
    AreBelow (IsYes marks) at (numbers_of old) → AreBelow (IsYes marks) (at + 1) (numbers_of new)
numbers_put marks at old new c is same yes_ h =
    below_put (IsYes marks) at (numbers_of old) (numbers_of new) h yes_ (ap numbers_of is ∙ (map-append (λ x. x.at) old (c ∷ []) ∙ ap (λ k. numbers_of old ++ k ∷ []) same))

pub numbers_pass : (marks : List Verdict) (at : ℕ) (old : List Confirmed) → ¬ IsYes marks at → AreBelow (IsYes marks) at (numbers_of old) → AreBelow (IsYes marks) (at + 1) (numbers_of old)
numbers_pass marks at old none h = below_pass (IsYes marks) at (numbers_of old) h none

pub numbers_end : (marks : List Verdict) (at n : ℕ) (xs : List Confirmed) → at ≡ n → AreBelow (IsYes marks) at (numbers_of xs) → AreBelow (IsYes marks) n (numbers_of xs)
numbers_end marks at n xs is h = subst (λ k. AreBelow (IsYes marks) k (numbers_of xs)) is h

all_put : (P : Confirmed → Type 0) (old : List Confirmed) (c : Confirmed) → ((r : ℕ) (x : Confirmed) → slice_get old r ≡ Some x → P x) → P c →
    (r : ℕ) (x : Confirmed) → slice_get (old ++ c ∷ []) r ≡ Some x → P x
all_put P [] c all one zero x at = let e : c ≡ x = (let f : Some c ≡ Some x = at in cc) in subst P e one
all_put P [] c all one (suc r) x at = absurd (let f : None ≡ Some x = at in cc)
all_put P (o ∷ os) c all one zero x at = all 0 x at
all_put P (o ∷ os) c all one (suc r) x at = all_put P os c (λ j z a. all (suc j) z a) one r x at

pub places_put : (h : Ground) (view : Known) (old new : List Confirmed) (c : Confirmed) → new ≡ old ++ c ∷ [] → HasPlacesAt h view c → HavePlaces h view old → HavePlaces h view new
places_put h view old new c is one all = subst (HavePlaces h view) (sym is) (all_put (HasPlacesAt h view) old c all one)

-- ---- each that is marked Yes in the end matches

out_of : (v : Verdict) (pairs others : List Pair) (q : Pair) → Contains (marked v pairs [] ++ outside pairs others) q → ¬ Contains pairs q
out_of v pairs others q c = elim (Contains-append_cases (marked v pairs []) (outside pairs others) q c) [
  | inl m ↦ absurd (not_in_none q (subst (λ xs. Contains xs q) (marks_of_none v pairs) m))
  | inr o ↦ (to_outside pairs others q o).1
]

-- what is known before is of none of the pairs
pub none_inside : (elsewhere : Known) (pairs : List Pair) (q : Pair) → Contains (known_by elsewhere pairs []).yes q ⊎ Contains (known_by elsewhere pairs []).no q → ¬ Contains pairs q
none_inside elsewhere pairs q c = elim c [ inl y ↦ out_of Yes pairs elsewhere.yes q y | inr n ↦ out_of No pairs elsewhere.no q n ]

pub all_match :
    (h : Ground) → IsReady h → (elsewhere : Known) (old marks : List Verdict) → length old ≡ length h.table.now → ((i : ℕ) → i < length old → slice_get old i ≡ Some Unknown) →
    IsRefinedOver h elsewhere (known_of h elsewhere old) (suc (top_of h.strata.now)) marks → (i : ℕ) → slice_get marks i ≡ Some Yes → MatchesAt h (known_of h elsewhere marks) i
all_match h ready elsewhere old marks same unknown r i mark p at =
    match_known h.schema.now h.terms.now h.graph.now.triples r.known (known_of h elsewhere marks) Impossible p (know_turned (known_of h elsewhere marks) r.known r.before.knows)
    (yes_matches h.schema.now h.terms.now h.graph.now.triples h.strata.now h.table.now h.budget (known_of h elsewhere old) out (suc (top_of h.strata.now)) r.known r.are p (got_in h.table.now i p at)
    (r.before.knows.0.0 p (is_yes elsewhere h.table.now ready.distinct marks i p at mark)))
  where
    first : known_of h elsewhere old ≡ known_by elsewhere h.table.now []
    first = begun_with elsewhere h.table.now old same unknown

    out : (q : Pair) → Contains (known_of h elsewhere old).yes q ⊎ Contains (known_of h elsewhere old).no q → ¬ Contains h.table.now q
    out q c = none_inside elsewhere h.table.now q (subst (λ v. Contains v.yes q ⊎ Contains v.no q) first c)

-- ---- and is narrow

yes_within : (h : Ground) (first : Known) → ((q : Pair) → Contains first.yes q ⊎ Contains first.no q → ¬ Contains h.table.now q) → (k : ℕ) (known : Known) (all : List (List Removed)) →
    AreShown h first k known all → (p : Pair) → Contains h.table.now p → Contains known.yes p → IsWithinWidth h.schema.now h.terms.now h.graph.now.triples h.budget p
yes_within h first out zero known all (a, b, e) p inside c = absurd (out p (inl (subst (λ xs. Contains xs p) a c)) inside)
yes_within h first out (suc k) known all (lower, rest, gone, kept, before, r, states, a, b, e) p inside c =
    go (Contains-append_cases lower.yes kept p (subst (λ xs. Contains xs p) a c)) (λ l. yes_within h first out k lower rest before p inside l)
  where
    go : Contains lower.yes p ⊎ Contains kept p → (Contains lower.yes p → IsWithinWidth h.schema.now h.terms.now h.graph.now.triples h.budget p) →
        IsWithinWidth h.schema.now h.terms.now h.graph.now.triples h.budget p
    go (inl l) deeper = deeper l
    go (inr n) deeper = (r.confirmed p n).0.2

pub all_narrow : (h : Ground) → IsReady h → (elsewhere : Known) (k : ℕ) (marks : List Verdict) (all : List (List Removed)) → IsShownOver h elsewhere (known_by elsewhere h.table.now []) k marks all →
    (i : ℕ) → i < length h.table.now → slice_get marks i ≡ Some Yes → narrow_test h i ≡ true
all_narrow h ready elsewhere k marks all shown i inside mark = by (slice_get h.table.now i) refl
  where
    by : (o : Option Pair) → slice_get h.table.now i ≡ o → narrow_test h i ≡ true
    by None e = absurd (let there = slice_get-get_or h.table.now i (record { node = record { 0 = 0 }; shape = record { 0 = 0 } }) inside in let both : Some _ ≡ None = sym there ∙ e in cc)
    by (Some p) e =
        narrow_true h ready i p e
        (yes_within h (known_by elsewhere h.table.now []) (none_inside elsewhere h.table.now) k shown.known all shown.are p (got_in h.table.now i p e)
        (shown.before.knows.0.0 p (is_yes elsewhere h.table.now ready.distinct marks i p e mark)))
