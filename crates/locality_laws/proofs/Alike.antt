-- Views that answer alike for a pair.
use Rattle.std.proofs.Common.{◌≡◌, inl, inr, List, ◌++◌, refl}
use Rattle.std.proofs.lemmas.List.Elements.{Contains-append_cases, Contains-append_left}
use Rattle.std.specs.Prelude.{◌↔◌, Contains}
use Rattle.lists.proofs.Decided.{Decided, decide_member}
use Rattle.schema_tree.specs.declared.schema.Pair.{Pair}
use Rattle.schema_tree.specs.declared.verdicts.Verdict.{Verdict}
use Rattle.schema_tree.specs.declared.verdicts.Verdict.TheVariants.{Yes, No, Unknown}
use Rattle.schema_tree.specs.Sure.{Known, PairIs}
use Rattle.schema_tree.proofs.Decide.{same_pairs}

-- the two answer alike for the pair
abbrev pub SameOn : Known → Known → Pair → Type 0
SameOn a b q = (v : Verdict) → PairIs a q v ↔ PairIs b q v

-- what is known, with more pairs that are Yes and more that are No
abbrev pub raised : Known → List Pair → List Pair → Known
raised l kept gone = record { yes = l.yes ++ kept; no = l.no ++ gone }

pub by_members : (a b : Known) (q : Pair) → (Contains a.yes q ↔ Contains b.yes q) → (Contains a.no q ↔ Contains b.no q) → SameOn a b q
by_members a b q y n Yes = y
by_members a b q y n No = ((λ h. ((λ c. h.0 (y.1 c)), n.0 h.1)), (λ h. ((λ c. h.0 (y.0 c)), n.1 h.1)))
by_members a b q y n Unknown = ((λ h. ((λ c. h.0 (y.1 c)), (λ c. h.1 (n.1 c)))), (λ h. ((λ c. h.0 (y.0 c)), (λ c. h.1 (n.0 c)))))

pub same_turned : (a b : Known) (q : Pair) → SameOn a b q → SameOn b a q
same_turned a b q h v = ((h v).1, (h v).0)

pub same_through : (a b c : Known) (q : Pair) → SameOn a b q → SameOn b c q → SameOn a c q
same_through a b c q h k v = ((λ x. (k v).0 ((h v).0 x)), (λ x. (h v).1 ((k v).1 x)))

pub both_unknown : (a b : Known) (q : Pair) → PairIs a q Unknown → PairIs b q Unknown → SameOn a b q
both_unknown a b q x y Yes = ((λ c. absurd (x.0 c)), (λ c. absurd (y.0 c)))
both_unknown a b q x y No = ((λ h. absurd (x.1 h.1)), (λ h. absurd (y.1 h.1)))
both_unknown a b q x y Unknown = ((λ h. y), (λ h. x))

-- a pair that is not among more pairs
pub not_among : (xs more : List Pair) (q : Pair) → ¬ Contains more q → Contains (xs ++ more) q → Contains xs q
not_among xs more q none c = elim (Contains-append_cases xs more q c) [ inl l ↦ l | inr r ↦ absurd (none r) ]

pub no_other : (xs more : List Pair) (q : Pair) → ¬ Contains xs q → Contains (xs ++ more) q → Contains more q
no_other xs more q none c = elim (Contains-append_cases xs more q c) [ inl l ↦ absurd (none l) | inr r ↦ r ]

pub in_neither : (xs more : List Pair) (q : Pair) → ¬ Contains xs q → ¬ Contains more q → ¬ Contains (xs ++ more) q
in_neither xs more q a b c = elim (Contains-append_cases xs more q c) [ inl l ↦ a l | inr r ↦ b r ]

-- of a pair that is none of those that came, what is known is what was
pub not_raised : (l : Known) (kept gone : List Pair) (q : Pair) → ¬ Contains kept q → ¬ Contains gone q → SameOn l (raised l kept gone) q
not_raised l kept gone q no_kept no_gone =
    by_members l (raised l kept gone) q ((λ c. Contains-append_left l.yes kept q c), (λ c. not_among l.yes kept q no_kept c))
    ((λ c. Contains-append_left l.no gone q c), (λ c. not_among l.no gone q no_gone c))

-- each pair has a verdict
pub some_verdict : (a : Known) (q : Pair) → (v : Verdict) × PairIs a q v
some_verdict a q = by (decide_member same_pairs a.yes q) (decide_member same_pairs a.no q)
  where
    by : Decided (Contains a.yes q) → Decided (Contains a.no q) → (v : Verdict) × PairIs a q v
    by (inl y) d = (Yes, y)
    by (inr ny) (inl n) = (No, (ny, n))
    by (inr ny) (inr nn) = (Unknown, (ny, nn))

-- and one only
pub one_verdict : (a : Known) (q : Pair) (v w : Verdict) → PairIs a q v → PairIs a q w → v ≡ w
one_verdict a q Yes Yes h k = refl
one_verdict a q No No h k = refl
one_verdict a q Unknown Unknown h k = refl
one_verdict a q Yes No h k = absurd (k.0 h)
one_verdict a q Yes Unknown h k = absurd (k.0 h)
one_verdict a q No Yes h k = absurd (h.0 k)
one_verdict a q No Unknown h k = absurd (k.1 h.1)
one_verdict a q Unknown Yes h k = absurd (h.0 k)
one_verdict a q Unknown No h k = absurd (h.1 k.1)
