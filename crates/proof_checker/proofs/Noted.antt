-- One more record changes the standing of its own pair alone.
use Rattle.std.proofs.Common.{◌≡◌, ℕ, ◌+◌, ◌<◌, ◌≤◌, get_or, take, length, ◌⊎◌, inl, inr, List, [], ◌∷◌, ◌++◌, refl, arith, ap, sym, subst, ◌∙◌, Bool, true, false, true≢false, cond, if◌then◌else◌}
use Rattle.std.proofs.lemmas.Bool.{cases_lt}
use Rattle.std.proofs.lemmas.List.Elements.{Contains-append_cases, Contains-append_left, Contains-append_right}
use Rattle.std.proofs.Math.Nat.{min-eq_left, min-eq_right, min-le_left, min-le_right}
use Rattle.std.proofs.lemmas.Grind.{flat_map-append}
use Rattle.std.proofs.lemmas.List.{append-nil, append_assoc, take_all, take_more}
use Rattle.std.specs.Map.{lookup}
use Rattle.std.specs.Prelude.{unwrap_or, Contains, Option, Some, None, min, slice_get, option_map}
use Rattle.rdf_terms.specs.declared.terms.TermId.{TermId}
use Rattle.schema_tree.proofs.Pairs.{pair_is, pair_same}
use Rattle.schema_tree.specs.declared.schema.Pair.{Pair}
use Rattle.lists.proofs.Members.{in_one, is_first, not_in_none}
use Rattle.proof_file.specs.declared.RecordKind.{RecordKind}
use Rattle.proof_file.specs.declared.RecordKind.TheVariants.{Plus, Minus}
use Rattle.proof_file.specs.declared.Record.{Record}
use Rattle.proof_file.specs.declared.Section.{Section}
use Rattle.proof_file.specs.Views.{Refuted, minus_of, no_pairs, pair_at, pair_with, plus_of, yes_pairs}
use Rattle.proof_checker.specs.declared.standings.Standing.{Standing}
use Rattle.proof_checker.specs.Standings.{AreStandings, IsAtMost, IsStanding, least_rank, records_in, said_by, standing_in, unsaid}
use Rattle.schema_tree.specs.Entries.{same_pair}

-- the rank of a pair is that of a list of refuted pairs
rank_is : (a b : Refuted) → a ≡ b → a.rank ≡ b.rank
rank_is a b e = ap (λ x. x.rank) e

min_is : (a b : ℕ) → (min a b ≡ a) ⊎ (min a b ≡ b)
min_is a b = elim (cases_lt a b) [ inl lt ↦ inl (min-eq_left (omega arith)) | inr le ↦ inr (min-eq_right le) ]

at_most_less : (r : ℕ) (o : Option ℕ) (k : ℕ) → IsAtMost o k → IsAtMost (Some (least_rank r o)) k
at_most_less r None k h = absurd h
at_most_less r (Some m) k h = let l = min-le_left m r in omega (arith, l, h)

at_most_own : (r : ℕ) (o : Option ℕ) → IsAtMost (Some (least_rank r o)) r
at_most_own r None = omega arith
at_most_own r (Some m) = min-le_right m r

module _ (plus : List Pair) (minus : List Refuted) (q : Pair) (s : Standing) (ok : IsStanding plus minus q s) where
  still_plus : (p : Pair) → (¬ (p ≡ q)) → Contains (plus ++ p ∷ []) q → s.confirmed ≡ true
  still_plus p apart c = elim (Contains-append_cases plus (p ∷ []) q c) [
    | inl h ↦ ok.confirmed h
    | inr h ↦ absurd (apart (in_one p q h))
  ]

  no_more_plus : Contains (plus ++ []) q → s.confirmed ≡ true
  no_more_plus c = elim (Contains-append_cases plus [] q c) [
    | inl h ↦ ok.confirmed h
    | inr h ↦ absurd (not_in_none q h)
  ]

  no_more_minus : (r : ℕ) → Contains (minus ++ []) (record { pair = q; rank = r }) → IsAtMost s.rank r
  no_more_minus r c = elim (Contains-append_cases minus [] (record { pair = q; rank = r }) c) [
    | inl h ↦ ok.refuted r h
    | inr h ↦ absurd (not_in_none (record { pair = q; rank = r }) h)
  ]

  still_minus : (p : Pair) (rank : ℕ) → (¬ (p ≡ q)) → (r : ℕ) →
      Contains (minus ++ record { pair = p; rank = rank } ∷ []) (record { pair = q; rank = r }) → IsAtMost s.rank r
  still_minus p rank apart r c = elim (Contains-append_cases minus (record { pair = p; rank = rank } ∷ []) (record { pair = q; rank = r }) c) [
    | inl h ↦ ok.refuted r h
    | inr h ↦ absurd (apart (ap (λ x. x.pair) (in_one (record { pair = p; rank = rank }) (record { pair = q; rank = r }) h)))
  ]

  more_minus : (rank r : ℕ) →
      Contains (minus ++ record { pair = q; rank = rank } ∷ []) (record { pair = q; rank = r }) → IsAtMost (Some (least_rank rank s.rank)) r
  more_minus rank r c = elim (Contains-append_cases minus (record { pair = q; rank = rank } ∷ []) (record { pair = q; rank = r }) c) [
    | inl h ↦ at_most_less rank s.rank r (ok.refuted r h)
    | inr h ↦
        let e = rank_is (record { pair = q; rank = rank }) (record { pair = q; rank = r }) (in_one (record { pair = q; rank = rank }) (record { pair = q; rank = r }) h) in
        subst (λ z. IsAtMost (Some (least_rank rank s.rank)) z) e (at_most_own rank s.rank)
  ]

  least_there : (rank r : ℕ) (o : Option ℕ) → s.rank ≡ o → Some (least_rank rank o) ≡ Some r →
      Contains (minus ++ record { pair = q; rank = rank } ∷ []) (record { pair = q; rank = r })
  least_there rank r None is e =
      let same : rank ≡ r = cc in
      subst (λ z. Contains (minus ++ record { pair = q; rank = rank } ∷ []) (record { pair = q; rank = z })) same
      (Contains-append_right minus (record { pair = q; rank = rank } ∷ []) (record { pair = q; rank = rank }) (is_first (record { pair = q; rank = rank }) []))
  least_there rank r (Some m) is e = elim (min_is m rank) [
    | inl left ↦
        let same : m ≡ r = cc in
        Contains-append_left minus (record { pair = q; rank = rank } ∷ []) (record { pair = q; rank = r }) (ok.refutes r (is ∙ ap (λ z. Some z) same))
    | inr right ↦
        let same : rank ≡ r = cc in
        subst (λ z. Contains (minus ++ record { pair = q; rank = rank } ∷ []) (record { pair = q; rank = z })) same
        (Contains-append_right minus (record { pair = q; rank = rank } ∷ []) (record { pair = q; rank = rank }) (is_first (record { pair = q; rank = rank }) []))
  ]

  -- a record for another pair
  pub noted_other : (p : Pair) (kind : RecordKind) → (¬ (p ≡ q)) →
      IsStanding (plus ++ plus_of kind (Some p)) (minus ++ minus_of kind (Some p)) q s
  noted_other p (Plus places) apart = record {
    confirms = λ e. Contains-append_left plus (p ∷ []) q (ok.confirms e);
    confirmed = λ c. still_plus p apart c;
    refutes = λ r e. Contains-append_left minus [] (record { pair = q; rank = r }) (ok.refutes r e);
    refuted = λ r c. no_more_minus r c;
  }
  noted_other p (Minus rank states) apart = record {
    confirms = λ e. Contains-append_left plus [] q (ok.confirms e);
    confirmed = λ c. no_more_plus c;
    refutes = λ r e. Contains-append_left minus (record { pair = p; rank = rank } ∷ []) (record { pair = q; rank = r }) (ok.refutes r e);
    refuted = λ r c. still_minus p rank apart r c;
  }

  -- a record for the pair itself
  pub noted_own : (kind : RecordKind) →
      IsStanding (plus ++ plus_of kind (Some q)) (minus ++ minus_of kind (Some q)) q (said_by kind s)
  noted_own (Plus places) = record {
    confirms = λ e. Contains-append_right plus (q ∷ []) q (is_first q []);
    confirmed = λ c. refl;
    refutes = λ r e. Contains-append_left minus [] (record { pair = q; rank = r }) (ok.refutes r e);
    refuted = λ r c. no_more_minus r c;
  }
  noted_own (Minus rank states) = record {
    confirms = λ e. Contains-append_left plus [] q (ok.confirms e);
    confirmed = λ c. no_more_plus c;
    refutes = λ r e. least_there rank r s.rank refl e;
    refuted = λ r c. more_minus rank r c;
  }

pub standing_after :
    (entries more : List (Pair × Standing)) (p : Pair) (v w : Standing) (q : Pair) → v ≡ w →
    lookup (same_pair q) more ≡ cond (same_pair p q) (Some v) (lookup (same_pair q) entries) →
    standing_in more q ≡ (if same_pair p q then w else standing_in entries q)
standing_after entries more p v w q same is = go (same_pair p q) is
  where
    go : (b : Bool) → lookup (same_pair q) more ≡ cond b (Some v) (lookup (same_pair q) entries) → standing_in more q ≡ cond b w (standing_in entries q)
    go true e = ap (λ o. unwrap_or o unsaid) e ∙ same
    go false e = ap (λ o. unwrap_or o unsaid) e

-- what is noted for a pair changes its own standing alone
pub noted :
    (entries more : List (Pair × Standing)) (p : Pair) (kind : RecordKind) →
    ((q : Pair) → standing_in more q ≡ (if same_pair p q then said_by kind (standing_in entries p) else standing_in entries q)) →
    (plus : List Pair) (minus : List Refuted) → AreStandings plus minus entries →
    AreStandings (plus ++ plus_of kind (Some p)) (minus ++ minus_of kind (Some p)) more
noted entries more p kind is plus minus ok q = go (same_pair p q) refl (is q)
  where
    go : (b : Bool) → same_pair p q ≡ b → standing_in more q ≡ cond b (said_by kind (standing_in entries p)) (standing_in entries q) →
        IsStanding (plus ++ plus_of kind (Some p)) (minus ++ minus_of kind (Some p)) q (standing_in more q)
    go true same e =
        subst (λ z. IsStanding (plus ++ plus_of kind (Some p)) (minus ++ minus_of kind (Some p)) z (standing_in more q)) (pair_is p q same)
        (subst (λ z. IsStanding (plus ++ plus_of kind (Some p)) (minus ++ minus_of kind (Some p)) p z) (sym e) (noted_own plus minus p (standing_in entries p) (ok p) kind))
    go false other e =
        subst (λ z. IsStanding (plus ++ plus_of kind (Some p)) (minus ++ minus_of kind (Some p)) q z) (sym e)
        (noted_other plus minus q (standing_in entries q) (ok q) p kind (λ h. true≢false (sym (pair_same p) ∙ ap (λ z. same_pair p z) h ∙ other)))

-- no record says anything
pub none_noted : AreStandings [] [] []
none_noted q = record {
  confirms = λ e. absurd (true≢false (sym e));
  confirmed = λ c. absurd (not_in_none q c);
  refutes = λ r e. cc;
  refuted = λ r c. absurd (not_in_none (record { pair = q; rank = r }) c);
}

-- records, one after another
pub pairs_more :
    (nodes : List TermId) (rs more : List Record) (plus : List Pair) (minus : List Refuted) (entries : List (Pair × Standing)) →
    AreStandings ((plus ++ yes_pairs nodes rs) ++ yes_pairs nodes more) ((minus ++ no_pairs nodes rs) ++ no_pairs nodes more) entries →
    AreStandings (plus ++ yes_pairs nodes (rs ++ more)) (minus ++ no_pairs nodes (rs ++ more)) entries
pairs_more nodes rs more plus minus entries ok =
    let yes_same : (plus ++ yes_pairs nodes rs) ++ yes_pairs nodes more ≡ plus ++ yes_pairs nodes (rs ++ more) =
    append_assoc plus (yes_pairs nodes rs) (yes_pairs nodes more) ∙ ap (λ z. plus ++ z) (sym (flat_map-append (λ r. plus_of r.kind (pair_at nodes r.node r.shape)) rs more)) in
    let no_same : (minus ++ no_pairs nodes rs) ++ no_pairs nodes more ≡ minus ++ no_pairs nodes (rs ++ more) =
    append_assoc minus (no_pairs nodes rs) (no_pairs nodes more) ∙ ap (λ z. minus ++ z) (sym (flat_map-append (λ r. minus_of r.kind (pair_at nodes r.node r.shape)) rs more)) in
    subst (λ z. AreStandings (plus ++ yes_pairs nodes (rs ++ more)) z entries) no_same
    (subst (λ z. AreStandings z ((minus ++ no_pairs nodes rs) ++ no_pairs nodes more) entries) yes_same ok)

-- a record whose node has a line, and one whose node has none
pub noted_record :
    (nodes : List TermId) (r : Record) (o : Option TermId) → slice_get nodes r.node ≡ o →
    (plus : List Pair) (minus : List Refuted) (entries : List (Pair × Standing)) →
    AreStandings (plus ++ plus_of r.kind (option_map (pair_with r.shape) o)) (minus ++ minus_of r.kind (option_map (pair_with r.shape) o)) entries →
    AreStandings (plus ++ yes_pairs nodes (r ∷ [])) (minus ++ no_pairs nodes (r ∷ [])) entries
noted_record nodes r o is plus minus entries ok =
    let yes_same : plus_of r.kind (option_map (pair_with r.shape) o) ≡ yes_pairs nodes (r ∷ []) =
    ap (λ z. plus_of r.kind (option_map (pair_with r.shape) z)) (sym is) ∙ sym (append-nil (plus_of r.kind (pair_at nodes r.node r.shape))) in
    let no_same : minus_of r.kind (option_map (pair_with r.shape) o) ≡ no_pairs nodes (r ∷ []) =
    ap (λ z. minus_of r.kind (option_map (pair_with r.shape) z)) (sym is) ∙ sym (append-nil (minus_of r.kind (pair_at nodes r.node r.shape))) in
    subst (λ z. AreStandings (plus ++ yes_pairs nodes (r ∷ [])) (minus ++ z) entries) no_same
    (subst (λ z. AreStandings (plus ++ z) (minus ++ minus_of r.kind (option_map (pair_with r.shape) o)) entries) yes_same ok)

pub no_more : (plus : List Pair) (minus : List Refuted) (entries : List (Pair × Standing)) → AreStandings plus minus entries → AreStandings (plus ++ []) (minus ++ []) entries
no_more plus minus entries ok =
    subst (λ z. AreStandings (plus ++ []) z entries) (sym (append-nil minus)) (subst (λ z. AreStandings z minus entries) (sym (append-nil plus)) ok)

-- nothing is noted of a record whose node has no line
pub noted_none :
    (kind : RecordKind) (plus : List Pair) (minus : List Refuted) (entries : List (Pair × Standing)) → AreStandings plus minus entries →
    AreStandings (plus ++ plus_of kind None) (minus ++ minus_of kind None) entries
noted_none (Plus places) plus minus entries ok = no_more plus minus entries ok
noted_none (Minus rank states) plus minus entries ok = no_more plus minus entries ok

-- the first i records, and the next
pub next_noted :
    (nodes : List TermId) (rs : List Record) (i : ℕ) (r : Record) → i < length rs → r ≡ get_or rs i r →
    (plus : List Pair) (minus : List Refuted) (entries : List (Pair × Standing)) →
    AreStandings ((plus ++ yes_pairs nodes (take i rs)) ++ yes_pairs nodes (r ∷ [])) ((minus ++ no_pairs nodes (take i rs)) ++ no_pairs nodes (r ∷ [])) entries →
    AreStandings (plus ++ yes_pairs nodes (take (i + 1) rs)) (minus ++ no_pairs nodes (take (i + 1) rs)) entries
next_noted nodes rs i r within is plus minus entries ok =
    let same : take i rs ++ r ∷ [] ≡ take (i + 1) rs = ap (λ z. take i rs ++ z ∷ []) is ∙ sym (take_more rs i r within) in
    subst (λ z. AreStandings (plus ++ yes_pairs nodes z) (minus ++ no_pairs nodes z) entries) same
    (pairs_more nodes (take i rs) (r ∷ []) plus minus entries ok)

-- all records, once each is noted
pub all_noted :
    (nodes : List TermId) (rs : List Record) (i : ℕ) → length rs ≤ i →
    (plus : List Pair) (minus : List Refuted) (entries : List (Pair × Standing)) →
    AreStandings (plus ++ yes_pairs nodes (take i rs)) (minus ++ no_pairs nodes (take i rs)) entries →
    AreStandings (plus ++ yes_pairs nodes rs) (minus ++ no_pairs nodes rs) entries
all_noted nodes rs i past plus minus entries ok =
    subst (λ z. AreStandings (plus ++ yes_pairs nodes z) (minus ++ no_pairs nodes z) entries) (take_all i rs past) ok

-- the records of the first i sections, and of the next
pub next_section :
    (nodes : List TermId) (xs : List Section) (i : ℕ) (x : Section) → i < length xs → x ≡ get_or xs i x → (entries : List (Pair × Standing)) →
    AreStandings (yes_pairs nodes (records_in (take i xs)) ++ yes_pairs nodes x.records) (no_pairs nodes (records_in (take i xs)) ++ no_pairs nodes x.records) entries →
    AreStandings (yes_pairs nodes (records_in (take (i + 1) xs))) (no_pairs nodes (records_in (take (i + 1) xs))) entries
next_section nodes xs i x within is entries ok =
    let same : records_in (take i xs) ++ x.records ≡ records_in (take (i + 1) xs) =
    ap (λ z. records_in (take i xs) ++ z) (sym (append-nil x.records)) ∙ sym (flat_map-append (λ y. y.records) (take i xs) (x ∷ []))
    ∙ ap (λ z. records_in (take i xs ++ z ∷ [])) is ∙ ap (λ z. records_in z) (sym (take_more xs i x within)) in
    subst (λ z. AreStandings (yes_pairs nodes z) (no_pairs nodes z) entries) same
    (pairs_more nodes (records_in (take i xs)) x.records [] [] entries ok)

pub all_sections :
    (nodes : List TermId) (xs : List Section) (i : ℕ) → length xs ≤ i → (entries : List (Pair × Standing)) →
    AreStandings (yes_pairs nodes (records_in (take i xs))) (no_pairs nodes (records_in (take i xs))) entries →
    AreStandings (yes_pairs nodes (records_in xs)) (no_pairs nodes (records_in xs)) entries
all_sections nodes xs i past entries ok =
    subst (λ z. AreStandings (yes_pairs nodes (records_in z)) (no_pairs nodes (records_in z)) entries) (take_all i xs past) ok
