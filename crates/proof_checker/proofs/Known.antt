-- What the standings let a reader use is what the records let it use.
use Rattle.std.proofs.Common.{◌≡◌, ℕ, ◌≤◌, List, [], ◌∷◌, refl, arith, ap, sym, subst, ◌∙◌, Bool, true, false, true≢false, cond, map, filter}
use Rattle.std.proofs.lemmas.Bool.{and_from, and_parts}
use Rattle.std.proofs.lemmas.Bool.Decides.{nat_tests}
use Rattle.std.specs.Map.{lookup}
use Rattle.std.specs.Prelude.{Contains, Option, Some, None, nat_lt, ◌&&◌, ◌↔◌, unwrap_or}
use Rattle.schema_tree.specs.declared.schema.Pair.{Pair}
use Rattle.schema_tree.specs.declared.verdicts.Verdict.{Verdict}
use Rattle.schema_tree.specs.declared.verdicts.Verdict.TheVariants.{Yes, No, Unknown}
use Rattle.schema_tree.specs.Edges.{level}
use Rattle.schema_tree.specs.Sure.{Known, PairIs}
use Rattle.lists.proofs.Filters.{in_filter, filter_has}
use Rattle.lists.proofs.Members.{in_map, from_map, is_first, is_later}
use Rattle.proof_file.specs.Views.{Refuted, pairs_of}
use Rattle.proof_checker.specs.declared.standings.Standing.{Standing}
use Rattle.proof_checker.specs.declared.standings.Reader.{Reader}
use Rattle.proof_checker.specs.declared.standings.Reader.TheVariants.{Confirms, Refutes, Claims}
use Rattle.proof_checker.specs.Standings.{AreStandings, IsAtMost, is_minus, is_plus, known_from, sees_minus, sees_plus, sees_rank, standing_in, unsaid, view_of}
use Rattle.schema_tree.specs.Entries.{same_pair}
use Rattle.schema_tree.proofs.Pairs.{pair_is}

-- a pair of which something is said is among the keys
key_there : (q : Pair) (es : List (Pair × Standing)) → (¬ (standing_in es q ≡ unsaid)) → Contains (map (λ e. e.0) es) q
key_there q [] said = absurd (said refl)
key_there q (e ∷ es) said = go (λ h. key_there q es h) (same_pair q e.0) refl said
  where
    go : ((¬ (standing_in es q ≡ unsaid)) → Contains (map (λ d. d.0) es) q) → (b : Bool) → same_pair q e.0 ≡ b →
        (¬ (unwrap_or (cond b (Some e.1) (lookup (same_pair q) es)) unsaid ≡ unsaid)) → Contains (e.0 ∷ map (λ d. d.0) es) q
    go deeper true same h = subst (λ z. Contains (z ∷ map (λ d. d.0) es) q) (pair_is q e.0 same) (is_first q (map (λ d. d.0) es))
    go deeper false other h = is_later e.0 (map (λ d. d.0) es) q (deeper h)

-- two lists with the same members, used as what is known
abbrev SameMembers : List Pair → List Pair → Type 0
SameMembers xs ys = (q : Pair) → Contains xs q ↔ Contains ys q

-- what is known of two lists answers by their members
members_answer : (a b : Known) → SameMembers a.yes b.yes → SameMembers a.no b.no → (q : Pair) (v : Verdict) → PairIs a q v ↔ PairIs b q v
members_answer a b yes_same no_same q Yes = yes_same q
members_answer a b yes_same no_same q No =
    ((λ h. ((λ c. h.0 ((yes_same q).1 c)), (no_same q).0 h.1)), λ h. ((λ c. h.0 ((yes_same q).0 c)), (no_same q).1 h.1))
members_answer a b yes_same no_same q Unknown =
    ((λ h. ((λ c. h.0 ((yes_same q).1 c)), λ c. h.1 ((no_same q).1 c))), λ h. ((λ c. h.0 ((yes_same q).0 c)), λ c. h.1 ((no_same q).0 c)))

both_members : (xs ys zs : List Pair) → SameMembers xs ys → SameMembers ys zs → SameMembers xs zs
both_members xs ys zs a b q = ((λ c. (b q).0 ((a q).0 c)), λ c. (a q).1 ((b q).1 c))

-- a filter that all pass
all_members : (xs : List Pair) → SameMembers (filter (λ q. true) xs) xs
all_members xs q = ((λ c. (in_filter (λ q. true) xs q c).0), λ c. filter_has (λ q. true) xs q c refl)

-- pairs are sifted before or after their ranks are dropped
sifted_pairs : (t : Pair → Bool) (us : List Refuted) → SameMembers (pairs_of (filter (λ u. t u.pair) us)) (filter t (pairs_of us))
sifted_pairs t us q = (there, back)
  where
    there : Contains (pairs_of (filter (λ u. t u.pair) us)) q → Contains (filter t (pairs_of us)) q
    there c =
        let (u, held, same) = from_map (λ u. u.pair) (filter (λ u. t u.pair) us) q c in
        let (listed, test) = in_filter (λ u. t u.pair) us u held in
        subst (λ z. Contains (filter t (pairs_of us)) z) same (filter_has t (pairs_of us) u.pair (in_map (λ u. u.pair) us u listed) test)

    back : Contains (filter t (pairs_of us)) q → Contains (pairs_of (filter (λ u. t u.pair) us)) q
    back c =
        let (held, test) = in_filter t (pairs_of us) q c in
        let (u, listed, same) = from_map (λ u. u.pair) us q held in
        subst (λ z. Contains (pairs_of (filter (λ u. t u.pair) us)) z) same
        (in_map (λ u. u.pair) (filter (λ u. t u.pair) us) u (filter_has (λ u. t u.pair) us u listed (subst (λ z. t z ≡ true) (sym same) test)))

-- a reader that may use a rank may use a smaller one
sees_earlier : (reader : Reader) (l m r : ℕ) → m ≤ r → sees_minus reader l r ≡ true → sees_minus reader l m ≡ true
sees_earlier (Confirms k) l m r le seen = seen
sees_earlier (Refutes k rank) l m r le seen = grind (arith, nat_tests, le, seen)
sees_earlier Claims l m r le seen = refl

module _ (f : List ℕ) (plus : List Pair) (minus : List Refuted) (es : List (Pair × Standing)) (ok : AreStandings plus minus es) where
  confirmed_key : (q : Pair) → (standing_in es q).confirmed ≡ true → Contains (map (λ e. e.0) es) q
  confirmed_key q e = key_there q es (λ h. true≢false (sym e ∙ ap (λ s. s.confirmed) h))

  refuted_key : (q : Pair) (r : ℕ) → (standing_in es q).rank ≡ Some r → Contains (map (λ e. e.0) es) q
  refuted_key q r e = key_there q es (λ h. none_some r (sym (ap (λ s. s.rank) h) ∙ e))
    where
      none_some : (r : ℕ) → None ≡ Some r → ⊥
      none_some r e = cc

  -- confirmed pairs that pass a test of their stratum
  pub plus_members : (reader : Reader) → SameMembers (filter (is_plus f reader es) (map (λ e. e.0) es)) (filter (λ q. sees_plus reader (level f q.shape)) plus)
  plus_members reader q = (there, back)
    where
      there : Contains (filter (is_plus f reader es) (map (λ e. e.0) es)) q → Contains (filter (λ q. sees_plus reader (level f q.shape)) plus) q
      there c =
          let (held, test) = in_filter (is_plus f reader es) (map (λ e. e.0) es) q c in
          let (is, seen) = and_parts (standing_in es q).confirmed (sees_plus reader (level f q.shape)) test in
          filter_has (λ q. sees_plus reader (level f q.shape)) plus q ((ok q).confirms is) seen

      back : Contains (filter (λ q. sees_plus reader (level f q.shape)) plus) q → Contains (filter (is_plus f reader es) (map (λ e. e.0) es)) q
      back c =
          let (held, seen) = in_filter (λ q. sees_plus reader (level f q.shape)) plus q c in
          let is = (ok q).confirmed held in
          filter_has (is_plus f reader es) (map (λ e. e.0) es) q (confirmed_key q is)
          (and_from (standing_in es q).confirmed (sees_plus reader (level f q.shape)) is seen)

  by_rank : (reader : Reader) (q : Pair) (o : Option ℕ) → (standing_in es q).rank ≡ o → sees_rank reader (level f q.shape) o ≡ true →
      Contains (pairs_of (filter (λ u. sees_minus reader (level f u.pair.shape) u.rank) minus)) q
  by_rank reader q None is test = absurd (true≢false (sym test))
  by_rank reader q (Some r) is test =
      in_map (λ u. u.pair) (filter (λ u. sees_minus reader (level f u.pair.shape) u.rank) minus) (record { pair = q; rank = r })
      (filter_has (λ u. sees_minus reader (level f u.pair.shape) u.rank) minus (record { pair = q; rank = r }) ((ok q).refutes r is) test)

  by_listed : (reader : Reader) (q : Pair) (r : ℕ) → Contains minus (record { pair = q; rank = r }) → sees_minus reader (level f q.shape) r ≡ true →
      (o : Option ℕ) → (standing_in es q).rank ≡ o → IsAtMost o r → Contains (filter (is_minus f reader es) (map (λ e. e.0) es)) q
  by_listed reader q r listed seen None is most = absurd most
  by_listed reader q r listed seen (Some m) is most =
      filter_has (is_minus f reader es) (map (λ e. e.0) es) q (refuted_key q m is)
      (ap (λ o. sees_rank reader (level f q.shape) o) is ∙ sees_earlier reader (level f q.shape) m r most seen)

  -- refuted pairs that pass a test of their stratum and rank, which smaller ranks pass where greater ones do
  pub minus_members : (reader : Reader) → SameMembers (filter (is_minus f reader es) (map (λ e. e.0) es)) (pairs_of (filter (λ u. sees_minus reader (level f u.pair.shape) u.rank) minus))
  minus_members reader q = (there, back)
    where
      there : Contains (filter (is_minus f reader es) (map (λ e. e.0) es)) q → Contains (pairs_of (filter (λ u. sees_minus reader (level f u.pair.shape) u.rank) minus)) q
      there c =
          let (held, test) = in_filter (is_minus f reader es) (map (λ e. e.0) es) q c in
          by_rank reader q (standing_in es q).rank refl test

      back : Contains (pairs_of (filter (λ u. sees_minus reader (level f u.pair.shape) u.rank) minus)) q → Contains (filter (is_minus f reader es) (map (λ e. e.0) es)) q
      back c =
          let (u, held, same) = from_map (λ u. u.pair) (filter (λ u. sees_minus reader (level f u.pair.shape) u.rank) minus) q c in
          let (listed, seen) = in_filter (λ u. sees_minus reader (level f u.pair.shape) u.rank) minus u held in
          subst (λ z. Contains (filter (is_minus f reader es) (map (λ e. e.0) es)) z) same
          (by_listed reader u.pair u.rank listed seen (standing_in es u.pair).rank refl ((ok u.pair).refuted u.rank listed))

  -- what a reader knows by the standings is what it may use of the records
  pub known_is_view : (reader : Reader) (q : Pair) (v : Verdict) → PairIs (known_from f es reader) q v ↔ PairIs (view_of f plus minus reader) q v
  known_is_view (Confirms k) = members_answer (known_from f es (Confirms k)) (view_of f plus minus (Confirms k)) (plus_members (Confirms k))
      (both_members _ _ _ (minus_members (Confirms k)) (sifted_pairs (λ q. nat_lt (level f q.shape) k) minus))
  known_is_view (Refutes k rank) = members_answer (known_from f es (Refutes k rank)) (view_of f plus minus (Refutes k rank)) (plus_members (Refutes k rank))
      (minus_members (Refutes k rank))
  known_is_view Claims = members_answer (known_from f es Claims) (view_of f plus minus Claims) (both_members _ _ _ (plus_members Claims) (all_members plus))
      (both_members _ _ _ (minus_members Claims) (both_members _ _ _ (sifted_pairs (λ q. true) minus) (all_members (pairs_of minus))))

-- the standing answers a pair as what is known does
module _ (f : List ℕ) (es : List (Pair × Standing)) (reader : Reader) (q : Pair) (s : Standing) (l : ℕ) (is : s ≡ standing_in es q) (on : l ≡ level f q.shape) where
  plus_test : (b : Bool) → b ≡ s.confirmed && sees_plus reader l → is_plus f reader es q ≡ b
  plus_test b e =
      ap (λ z. z.confirmed && sees_plus reader (level f q.shape)) (sym is) ∙ ap (λ z. s.confirmed && sees_plus reader z) (sym on) ∙ sym e

  minus_test : (b : Bool) → b ≡ sees_rank reader l s.rank → is_minus f reader es q ≡ b
  minus_test b e = ap (λ z. sees_rank reader (level f q.shape) z.rank) (sym is) ∙ ap (λ z. sees_rank reader z s.rank) (sym on) ∙ sym e

  not_plus : is_plus f reader es q ≡ false → ¬ Contains (filter (is_plus f reader es) (map (λ e. e.0) es)) q
  not_plus fails c = true≢false (sym (in_filter (is_plus f reader es) (map (λ e. e.0) es) q c).1 ∙ fails)

  not_minus : is_minus f reader es q ≡ false → ¬ Contains (filter (is_minus f reader es) (map (λ e. e.0) es)) q
  not_minus fails c = true≢false (sym (in_filter (is_minus f reader es) (map (λ e. e.0) es) q c).1 ∙ fails)

  said_plus : is_plus f reader es q ≡ true → ¬ (standing_in es q ≡ unsaid)
  said_plus passes h = true≢false (sym passes ∙ ap (λ z. z.confirmed && sees_plus reader (level f q.shape)) h)

  said_minus : is_minus f reader es q ≡ true → ¬ (standing_in es q ≡ unsaid)
  said_minus passes h = true≢false (sym passes ∙ ap (λ z. sees_rank reader (level f q.shape) z.rank) h)

  pub answers_yes : true ≡ s.confirmed && sees_plus reader l → PairIs (known_from f es reader) q Yes
  answers_yes e =
      let passes = plus_test true e in
      filter_has (is_plus f reader es) (map (λ e. e.0) es) q (key_there q es (said_plus passes)) passes

  pub answers_no : false ≡ s.confirmed && sees_plus reader l → true ≡ sees_rank reader l s.rank → PairIs (known_from f es reader) q No
  answers_no fails e =
      let passes = minus_test true e in
      (not_plus (plus_test false fails), filter_has (is_minus f reader es) (map (λ e. e.0) es) q (key_there q es (said_minus passes)) passes)

  pub answers_unknown : false ≡ s.confirmed && sees_plus reader l → false ≡ sees_rank reader l s.rank → PairIs (known_from f es reader) q Unknown
  answers_unknown fails e = (not_plus (plus_test false fails), not_minus (minus_test false e))
