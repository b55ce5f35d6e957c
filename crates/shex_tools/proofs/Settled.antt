-- What the status says of associations and of what is told of them, side by side.
use Rattle.std.proofs.Common.{◌≡◌, ap, sym, refl, subst, List, [], ◌∷◌, Bool, true, false, ◌⊎◌, inl, inr, ℕ, arith}
use Rattle.std.specs.List.{AllZip, list_all, list_any, zip}
use Rattle.std.specs.Prelude.{Contains, if◌then◌else◌, not, ◌&&◌, ◌||◌}
use Rattle.explanations.specs.declared.explanation.Told.{Told}
use Rattle.lists.proofs.Members.{in_rest, is_first, is_later, not_in_none}
use Rattle.proof_file.specs.Accepts.{verdict_of}
use Rattle.rdf_terms.specs.declared.terms.Term.{Term}
use Rattle.rdf_terms.specs.declared.terms.Triple.{Triple}
use Rattle.schema_tree.specs.Needs.{ReachesWide}
use Rattle.schema_tree.specs.Truths.{IsTruth}
use Rattle.schema_tree.specs.declared.schema.Schema.{Schema}
use Rattle.schema_tree.specs.declared.verdicts.Verdict.{Verdict}
use Rattle.schema_tree.specs.declared.verdicts.Verdict.TheVariants.{No, Unknown, Yes}
use Rattle.shape_map.specs.declared.resolve.Association.{Association}
use Rattle.shex_tools.specs.Reasons.{IsTrueVerdict, are_as_asked, are_undecided, is_as_asked, is_unknown, status_of}
use Rattle.shex_tools.specs.Statuses.{IsAnswering}

-- ---- truth values

apart : {b : Bool} → b ≡ true → b ≡ false → ⊥
apart t f = cc

or_one : (a b : Bool) → (a || b) ≡ true → (a ≡ true) ⊎ (b ≡ true)
or_one true b h = inl refl
or_one false b h = inr h

or_none : (a b : Bool) → (a || b) ≡ false → (a ≡ false) × (b ≡ false)
or_none true b h = absurd cc
or_none false b h = (refl, h)

or_right : (a b : Bool) → b ≡ true → (a || b) ≡ true
or_right true b h = refl
or_right false b h = h

or_left : (a b : Bool) → a ≡ true → (a || b) ≡ true
or_left true b h = refl
or_left false b h = absurd cc

or_both : (a b : Bool) → a ≡ false → b ≡ false → (a || b) ≡ false
or_both true b h k = absurd cc
or_both false b h k = k

and_one : (a b : Bool) → (a && b) ≡ false → (a ≡ false) ⊎ (b ≡ false)
and_one true b h = inr h
and_one false b h = inl refl

and_left : (a b : Bool) → a ≡ false → (a && b) ≡ false
and_left true b h = absurd cc
and_left false b h = refl

and_right : (a b : Bool) → b ≡ false → (a && b) ≡ false
and_right true b h = h
and_right false b h = refl

and_both : (a b : Bool) → a ≡ true → b ≡ true → (a && b) ≡ true
and_both true b h k = k
and_both false b h k = absurd cc

-- ---- the status by what is undecided and what is as asked

by_both : (u b : Bool) → IsAnswering (if u then 4 else if b then 0 else 1)
by_both true b = inr (inr refl)
by_both false true = inl refl
by_both false false = inr (inl refl)

pub status_answers : (asked : List Association) (answers : List Told) (status : ℕ) → status ≡ status_of asked answers → IsAnswering status
status_answers asked answers status is = subst IsAnswering (sym is) (by_both (are_undecided answers) (are_as_asked asked answers))

pub four_means : (u b : Bool) → ◌≡◌ {A = ℕ} 4 (if u then 4 else if b then 0 else 1) → u ≡ true
four_means true b is = refl
four_means false true is = absurd (omega (arith, is))
four_means false false is = absurd (omega (arith, is))

pub one_means : (u b : Bool) → ◌≡◌ {A = ℕ} 1 (if u then 4 else if b then 0 else 1) → (u ≡ false) × (b ≡ false)
one_means true b is = absurd (omega (arith, is))
one_means false true is = absurd (omega (arith, is))
one_means false false is = (refl, refl)

pub low_means : (u b : Bool) (status : ℕ) → status ≡ (if u then 4 else if b then 0 else 1) → (status ≡ 0) ⊎ (status ≡ 1) → u ≡ false
low_means true b status is (inl e) = absurd (omega (arith, is, e))
low_means true b status is (inr e) = absurd (omega (arith, is, e))
low_means false b status is at = refl

pub is_four : (u b : Bool) → u ≡ true → ◌≡◌ {A = ℕ} (if u then 4 else if b then 0 else 1) 4
is_four true b h = refl
is_four false b h = absurd cc

pub is_nought : (u b : Bool) → u ≡ false → b ≡ true → ◌≡◌ {A = ℕ} (if u then 4 else if b then 0 else 1) 0
is_nought true b h k = absurd cc
is_nought false true h k = refl
is_nought false false h k = absurd cc

pub is_one : (u b : Bool) → u ≡ false → b ≡ false → ◌≡◌ {A = ℕ} (if u then 4 else if b then 0 else 1) 1
is_one true b h k = absurd cc
is_one false true h k = absurd cc
is_one false false h k = refl

-- ---- one of what is told

-- an association, and what is told of it, of which this is so
pub record Beside (R : Association → Told → Type 0) (P : Association → Told → Type 0) (asked : List Association) : Type 0 where
  pub association : Association
  pub listed : Contains asked association
  pub told : Told
  pub related : R association told
  pub so : P association told

module _ (R : Association → Told → Type 0) where
  later : (P : Association → Told → Type 0) (a : Association) (asked : List Association) → Beside R P asked → Beside R P (a ∷ asked)
  later P a asked x = record { association = x.association; listed = is_later a asked x.association x.listed; told = x.told; related = x.related; so = x.so }

  abbrev pub IsUnsure : Association → Told → Type 0
  IsUnsure a t = is_unknown t.verdict ≡ true

  abbrev pub IsOff : Association → Told → Type 0
  IsOff a t = (is_unknown t.verdict ≡ false) × (is_as_asked a.want t.verdict ≡ false)

  some_unknown : (asked : List Association) (answers : List Told) → AllZip R asked answers → list_any (λ (t : Told). is_unknown t.verdict) answers ≡ true → Beside R IsUnsure asked
  some_unknown [] [] h e = absurd cc
  some_unknown [] (t ∷ answers) h e = absurd h
  some_unknown (a ∷ asked) [] h e = absurd h
  some_unknown (a ∷ asked) (t ∷ answers) h e = elim (or_one (is_unknown t.verdict) (list_any (λ (w : Told). is_unknown w.verdict) answers) e) [
    | inl first ↦ record { association = a; listed = is_first a asked; told = t; related = h.0; so = first }
    | inr rest ↦ later IsUnsure a asked (some_unknown asked answers h.1 rest)
  ]

  some_off : (asked : List Association) (answers : List Told) → AllZip R asked answers → list_any (λ (t : Told). is_unknown t.verdict) answers ≡ false →
      list_all (λ (p : Association × Told). is_as_asked p.0.want p.1.verdict) (zip asked answers) ≡ false → Beside R IsOff asked
  some_off [] [] h u e = absurd cc
  some_off [] (t ∷ answers) h u e = absurd h
  some_off (a ∷ asked) [] h u e = absurd h
  some_off (a ∷ asked) (t ∷ answers) h u e =
      let (known, others) = or_none (is_unknown t.verdict) (list_any (λ (w : Told). is_unknown w.verdict) answers) u in
      elim (and_one (is_as_asked a.want t.verdict) (list_all (λ (p : Association × Told). is_as_asked p.0.want p.1.verdict) (zip asked answers)) e) [
        | inl first ↦ record { association = a; listed = is_first a asked; told = t; related = h.0; so = (known, first) }
        | inr rest ↦ later IsOff a asked (some_off asked answers h.1 others rest)
      ]

  any_unknown : (asked : List Association) (answers : List Told) → AllZip R asked answers → (a : Association) → Contains asked a → ((t : Told) → R a t → is_unknown t.verdict ≡ true) →
      list_any (λ (t : Told). is_unknown t.verdict) answers ≡ true
  any_unknown [] answers h a c to = absurd (not_in_none a c)
  any_unknown (b ∷ asked) [] h a c to = absurd h
  any_unknown (b ∷ asked) (t ∷ answers) h a c to = elim (in_rest b asked a c) [
    | inl same ↦ or_left (is_unknown t.verdict) _ (to t (subst (λ z. R z t) same h.0))
    | inr rest ↦ or_right (is_unknown t.verdict) _ (any_unknown asked answers h.1 a rest to)
  ]

  none_unknown : (asked : List Association) (answers : List Told) → AllZip R asked answers → ((a : Association) (t : Told) → Contains asked a → R a t → is_unknown t.verdict ≡ false) →
      list_any (λ (t : Told). is_unknown t.verdict) answers ≡ false
  none_unknown [] [] h to = refl
  none_unknown [] (t ∷ answers) h to = absurd h
  none_unknown (b ∷ asked) [] h to = absurd h
  none_unknown (b ∷ asked) (t ∷ answers) h to =
      or_both (is_unknown t.verdict) _ (to b t (is_first b asked) h.0) (none_unknown asked answers h.1 (λ a w c. to a w (is_later b asked a c)))

  one_off : (asked : List Association) (answers : List Told) → AllZip R asked answers → (a : Association) → Contains asked a → ((t : Told) → R a t → is_as_asked a.want t.verdict ≡ false) →
      list_all (λ (p : Association × Told). is_as_asked p.0.want p.1.verdict) (zip asked answers) ≡ false
  one_off [] answers h a c to = absurd (not_in_none a c)
  one_off (b ∷ asked) [] h a c to = absurd h
  one_off (b ∷ asked) (t ∷ answers) h a c to = elim (in_rest b asked a c) [
    | inl same ↦ and_left (is_as_asked b.want t.verdict) _ (subst (λ (z : Association). is_as_asked z.want t.verdict ≡ false) (sym same) (to t (subst (λ z. R z t) same h.0)))
    | inr rest ↦ and_right (is_as_asked b.want t.verdict) _ (one_off asked answers h.1 a rest to)
  ]

  none_off : (asked : List Association) (answers : List Told) → AllZip R asked answers → ((a : Association) (t : Told) → Contains asked a → R a t → is_as_asked a.want t.verdict ≡ true) →
      list_all (λ (p : Association × Told). is_as_asked p.0.want p.1.verdict) (zip asked answers) ≡ true
  none_off [] [] h to = refl
  none_off [] (t ∷ answers) h to = absurd h
  none_off (b ∷ asked) [] h to = absurd h
  none_off (b ∷ asked) (t ∷ answers) h to =
      and_both (is_as_asked b.want t.verdict) _ (to b t (is_first b asked) h.0) (none_off asked answers h.1 (λ a w c. to a w (is_later b asked a c)))

-- ---- the same of the tests that the status is made of

module _ (R : Association → Told → Type 0) (asked : List Association) (answers : List Told) (side : AllZip R asked answers) where
  pub undecided_one : are_undecided answers ≡ true → Beside R (IsUnsure R) asked
  unfolding are_undecided
  undecided_one e = some_unknown R asked answers side e

  pub off_one : are_undecided answers ≡ false → are_as_asked asked answers ≡ false → Beside R (IsOff R) asked
  unfolding are_undecided are_as_asked
  off_one u e = some_off R asked answers side u e

  pub undecided_by : (a : Association) → Contains asked a → ((t : Told) → R a t → is_unknown t.verdict ≡ true) → are_undecided answers ≡ true
  unfolding are_undecided
  undecided_by a c to = any_unknown R asked answers side a c to

  pub decided_by : ((a : Association) (t : Told) → Contains asked a → R a t → is_unknown t.verdict ≡ false) → are_undecided answers ≡ false
  unfolding are_undecided
  decided_by to = none_unknown R asked answers side to

  pub off_by : (a : Association) → Contains asked a → ((t : Told) → R a t → is_as_asked a.want t.verdict ≡ false) → are_as_asked asked answers ≡ false
  unfolding are_as_asked
  off_by a c to = one_off R asked answers side a c to

  pub as_asked_by : ((a : Association) (t : Told) → Contains asked a → R a t → is_as_asked a.want t.verdict ≡ true) → are_as_asked asked answers ≡ true
  unfolding are_as_asked
  as_asked_by to = none_off R asked answers side to

-- ---- verdicts

pub known_as : (v : Verdict) (want : Bool) → v ≡ verdict_of want → (is_unknown v ≡ false) × (is_as_asked want v ≡ true)
known_as v true e = subst (λ w. (is_unknown w ≡ false) × (is_as_asked true w ≡ true)) (sym e) (refl, refl)
known_as v false e = subst (λ w. (is_unknown w ≡ false) × (is_as_asked false w ≡ true)) (sym e) (refl, refl)

pub known_off : (v : Verdict) (want : Bool) → v ≡ verdict_of (not want) → is_as_asked want v ≡ false
known_off v true e = ap (is_as_asked true) e
known_off v false e = ap (is_as_asked false) e

pub unknown_is : (v : Verdict) → v ≡ Unknown → is_unknown v ≡ true
unknown_is v e = ap is_unknown e

pub known_unless : (v : Verdict) → (v ≡ Unknown → ⊥) → is_unknown v ≡ false
known_unless Yes out = refl
known_unless No out = refl
known_unless Unknown out = absurd (out refl)

module _ (s : Schema) (terms : List Term) (g : List Triple) (budget : ℕ) (a : Association) where
  -- what is Unknown depends on a wide pair
  pub unsure_wide : (v : Verdict) → is_unknown v ≡ true → IsTrueVerdict s terms g budget a v → ReachesWide s terms g budget a.node a.expr
  unsure_wide Yes e h = absurd cc
  unsure_wide No e h = absurd cc
  unsure_wide Unknown e h = h

  -- what is known and not as asked is not so
  pub off_truth : (v : Verdict) (want : Bool) → is_unknown v ≡ false → is_as_asked want v ≡ false → IsTrueVerdict s terms g budget a v → IsTruth s terms g a.node a.expr (not want)
  off_truth Yes true u e h = absurd cc
  off_truth Yes false u e h = h
  off_truth No true u e h = h
  off_truth No false u e h = absurd cc
  off_truth Unknown want u e h = absurd cc
