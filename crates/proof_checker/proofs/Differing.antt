-- What comparisons of digests say.
use Rattle.std.proofs.Common.{◌≡◌, List, ap, refl, Bool, true, false, true≢false, not, nat_eq, sym, ◌∙◌}
use Rattle.std.specs.Bool.{Decides}
use Rattle.std.specs.Cmp.Lexicographic.{pointwise}
use Rattle.std.proofs.lemmas.Bool.Decides.{Decides-eqb}
use Rattle.std.proofs.lemmas.Slice.Eq.{slice_eq-Decides}
use Rattle.proof_file.specs.declared.head.Digest256.{Digest256}

-- whether two digests are the same
abbrev pub same_digest : Digest256 → Digest256 → Bool
same_digest a b = pointwise nat_eq a.0 b.0

pub digest_decides : (a b : Digest256) → Decides (same_digest a b) (a ≡ b)
digest_decides a b =
    let bytes = slice_eq-Decides Decides-eqb a.0 b.0 (same_digest a b) refl in
    (λ h. λ i. record { 0 = bytes.0 h i }, λ e. bytes.1 (ap (λ d. d.0) e))

pub digests_decide : (xs ys : List Digest256) → Decides (pointwise same_digest xs ys) (xs ≡ ys)
digests_decide xs ys = slice_eq-Decides digest_decides xs ys (pointwise same_digest xs ys) refl

-- what `!=` answers where they are the same, and where not
pub met : {P : Type 0} (r : Bool) → Decides r P → false ≡ not r → P
met true d h = d.0 refl
met false d h = absurd (true≢false (sym h))

pub missed : {P : Type 0} (r : Bool) → Decides r P → true ≡ not r → ¬ P
missed true d h p = true≢false h
missed false d h p = true≢false (sym (d.1 p))

pub met_list : (xs ys lent given : List Digest256) → lent ≡ xs → given ≡ ys → false ≡ not (pointwise same_digest lent given) → xs ≡ ys
met_list xs ys lent given one other h = sym one ∙ met (pointwise same_digest lent given) (digests_decide lent given) h ∙ other

pub missed_list : (xs ys lent given : List Digest256) → lent ≡ xs → given ≡ ys → true ≡ not (pointwise same_digest lent given) → ¬ (xs ≡ ys)
missed_list xs ys lent given one other h same = missed (pointwise same_digest lent given) (digests_decide lent given) h (one ∙ same ∙ sym other)
