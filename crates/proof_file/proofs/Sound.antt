-- What an accepted proof says is true of every complete typing.
use Rattle.std.proofs.Common.{◌≡◌, ℕ, zero, suc, ◌<◌, ◌≤◌, ◌⊎◌, inl, inr, List, ◌++◌, refl, arith, sym, subst, Bool, true, false, map, filter, length}
use Rattle.std.proofs.lemmas.Bool.{cases_lt, eq-eqb, eqb-true, lt-ltb}
use Rattle.std.proofs.lemmas.Bool.Decides.{nat_tests}
use Rattle.std.proofs.lemmas.List.Elements.{Contains-append_cases, Contains-append_left, Contains-append_right}
use Rattle.std.specs.Prelude.{Contains, Option, Some, None, slice_get, nat_lt, nat_eq, option_map, ◌||◌, ◌&&◌}
use Rattle.rdf_terms.specs.declared.terms.TermId.{TermId}
use Rattle.rdf_terms.specs.declared.terms.Term.{Term}
use Rattle.rdf_terms.specs.declared.terms.Triple.{Triple}
use Rattle.schema_tree.specs.declared.schema.Shape.{Shape}
use Rattle.schema_tree.specs.declared.schema.Pair.{Pair}
use Rattle.schema_tree.specs.declared.verdicts.Lean.TheVariants.{Possible, Impossible}
use Rattle.schema_tree.specs.Entries.{shape_at}
use Rattle.schema_tree.specs.Satisfies.{Sat}
use Rattle.schema_tree.specs.Edges.{level}
use Rattle.schema_tree.specs.Typings.{IsGreatestAt, IsRival, IsComplete, IsTheTyping, below, top_of}
use Rattle.schema_tree.specs.Sure.{Known, Agrees, IsSure}
use Rattle.schema_tree.specs.Relevant.{relevant_in_order}
use Rattle.schema_tree.specs.Loaded.{IsLoaded}
use Rattle.schema_tree.specs.Places.{CanMatch, MayHold, MayFail, IsShut, PairCanMatch}
use Rattle.lists.proofs.Members.{not_in_none, in_one, from_map, from_flat_map, got_in, in_flat_map, in_map}
use Rattle.lists.proofs.Filters.{filter_has, in_filter}
use Rattle.lists.proofs.Quantifiers.{all_at}
use Rattle.schema_tree.proofs.Below.{in_below, level_top, out_below}
use Rattle.schema_tree.proofs.Leans.{sure_sound}
use Rattle.schema_tree.proofs.Truth.{match_true, mismatch_true}
use Rattle.schema_tree.proofs.Closed.{states_refute}
use Rattle.proof_file.specs.declared.RecordKind.{RecordKind}
use Rattle.proof_file.specs.declared.RecordKind.TheVariants.{Plus, Minus}
use Rattle.proof_file.specs.declared.Record.{Record}
use Rattle.proof_file.specs.declared.Claim.{Claim}
use Rattle.proof_file.specs.declared.Proof.{Proof}
use Rattle.proof_file.specs.declared.Why.TheVariants as Whys
use Rattle.proof_file.specs.Laws.{IsTrueClaim, Says, HoldsLines, Soundness}
use Rattle.proof_file.specs.Views.{records_of, Refuted, pair_with, pair_at, plus_of, minus_of, pairs_of, plus_view, is_before, minus_view, whole_view}
use Rattle.proof_file.specs.Accepts.{AreNumbers, AreStates, Setting, in_section, is_claim, items_of, yes_of, no_of, PassesKind, PassesClaim, IsAccepted, AreAccepted, verdict_of}

module _ (x : Setting) (p : Proof) (loaded : IsLoaded x.schema) (accepted : AreAccepted x p) where
  -- what is known of a confirmed pair
  pub record IsGoodPlus (q : Pair) : Type 0 where
    pub listed : Contains x.nodes q.node
    pub shaped : q.shape.0 < length x.schema.shapes
    pub can : PairCanMatch x.schema x.terms x.graph (plus_view x.strata (yes_of x p) (no_of x p) (level x.strata q.shape)) Impossible q

  -- and of a refuted one
  abbrev pub IsGoodMinus : Refuted → Type 0
  IsGoodMinus q =
      ¬ PairCanMatch x.schema x.terms x.graph (minus_view x.strata (yes_of x p) (no_of x p) (level x.strata q.pair.shape) q.rank) Possible q.pair

  plus_good :
      (k a b : ℕ) (kind : RecordKind) → IsAccepted x p (in_section k (record { node = a; shape = b; kind = kind })) →
      (q : Pair) → Contains (plus_of kind (pair_at x.nodes a b)) q → IsGoodPlus q
  plus_good k a b (Minus rank states) h q c = absurd (not_in_none q c)
  plus_good k a b (Plus places) (node, (shape, (at, (forms, (values, (counts, z)))))) q c =
      go (slice_get x.nodes a) refl (shape_at x.schema (record { 0 = b })) refl forms values counts c
    where
      go : (y : Option TermId) → slice_get x.nodes a ≡ y → (z : Option Shape) → shape_at x.schema (record { 0 = b }) ≡ z →
          PassesKind x p k (Plus places) y z Whys.Places → PassesKind x p k (Plus places) y z Whys.Value → PassesKind x p k (Plus places) y z Whys.Counts →
          Contains (plus_of (Plus places) (option_map (pair_with b) y)) q → IsGoodPlus q
      go None is z shaped forms values counts c = absurd forms
      go (Some n) is None shaped forms values counts c = absurd forms
      go (Some n) is (Some sh) shaped forms values counts c = subst IsGoodPlus (in_one (pair_with b n) q c) (record {
        listed = got_in x.nodes a n is;
        shaped = shape;
        can =
            subst (λ z. CanMatch x.schema x.terms x.graph (plus_view x.strata (yes_of x p) (no_of x p) (level x.strata (record { 0 = b }))) Impossible n z) (sym shaped)
            (subst (λ j. CanMatch x.schema x.terms x.graph (plus_view x.strata (yes_of x p) (no_of x p) j) Impossible n (Some sh)) (sym at)
            (record { open_to = forms.0; places = places; allowed = values; spelled = counts }));
      })

  minus_good :
      (k a b : ℕ) (kind : RecordKind) → IsAccepted x p (in_section k (record { node = a; shape = b; kind = kind })) →
      (q : Refuted) → Contains (minus_of kind (pair_at x.nodes a b)) q → IsGoodMinus q
  minus_good k a b (Plus places) h q c = absurd (not_in_none q c)
  minus_good k a b (Minus rank states) (node, (shape, (at, (shown, z)))) q c =
      go (slice_get x.nodes a) (shape_at x.schema (record { 0 = b })) refl shown c
    where
      go : (y : Option TermId) → (z : Option Shape) → shape_at x.schema (record { 0 = b }) ≡ z →
          PassesKind x p k (Minus rank states) y z Whys.States →
          Contains (minus_of (Minus rank states) (option_map (pair_with b) y)) q → IsGoodMinus q
      go None z shaped shown c = absurd shown
      go (Some n) None shaped shown c = absurd shown
      go (Some n) (Some sh) shaped shown c = subst IsGoodMinus (in_one (record { pair = pair_with b n; rank = rank }) q c) none
        where
          ts : List Triple
          ts = relevant_in_order x.terms x.graph sh n

          refute : (v : Known) →
              IsShut x.graph sh n ⊎ AreStates (MayHold x.schema x.terms v Possible) (MayFail x.schema x.terms v Possible) sh n ts states →
              ¬ CanMatch x.schema x.terms x.graph v Possible n (Some sh)
          refute v (inl shut) r = r.open_to shut
          refute v (inr list) r =
              states_refute (MayHold x.schema x.terms v Possible) (MayFail x.schema x.terms v Possible) sh n ts x.graph states list.closed list.opened r

          none : IsGoodMinus (record { pair = pair_with b n; rank = rank })
          none =
              subst (λ z. ¬ CanMatch x.schema x.terms x.graph (minus_view x.strata (yes_of x p) (no_of x p) (level x.strata (record { 0 = b })) rank) Possible n z) (sym shaped)
              (subst (λ j. ¬ CanMatch x.schema x.terms x.graph (minus_view x.strata (yes_of x p) (no_of x p) j rank) Possible n (Some sh)) (sym at)
              (refute (minus_view x.strata (yes_of x p) (no_of x p) k rank) shown))

  -- each record is accepted in its section
  record_accepted : (r : Record) → Contains (records_of p) r → (k : ℕ) × IsAccepted x p (in_section k r)
  record_accepted r h =
      let (sec, of, held) = from_flat_map (λ y. y.records) p.sections r h in (
        sec.stratum,
        all_at (IsAccepted x p) (items_of p) (in_section sec.stratum r) accepted
            (Contains-append_left _ _ _ (in_flat_map (λ y. map (λ u. in_section y.stratum u) y.records) p.sections sec (in_section sec.stratum r) of
            (in_map (λ u. in_section sec.stratum u) sec.records r held))),
      )

  pub all_plus : (q : Pair) → Contains (yes_of x p) q → IsGoodPlus q
  all_plus q h =
      let (r, of, held) = from_flat_map (λ r. plus_of r.kind (pair_at x.nodes r.node r.shape)) (records_of p) q h in
      let (k, ok) = record_accepted r of in
      plus_good k r.node r.shape r.kind ok q held

  pub all_minus : (q : Refuted) → Contains (no_of x p) q → IsGoodMinus q
  all_minus q h =
      let (r, of, held) = from_flat_map (λ r. minus_of r.kind (pair_at x.nodes r.node r.shape)) (records_of p) q h in
      let (k, ok) = record_accepted r of in
      minus_good k r.node r.shape r.kind ok q held

  module _ (U : List TermId) (lines : (n : TermId) → Contains x.nodes n → Contains U n) where
    abbrev f : List ℕ
    f = x.strata

    abbrev at_level : ℕ → Pair → Bool
    at_level k q = nat_eq (level f q.shape) k

    -- what holds of the records up to a stratum
    pub record AreTrueTo (T : List Pair) (k : ℕ) : Type 0 where
      pub ins : (q : Pair) → Contains (yes_of x p) q → level f q.shape ≤ k → Contains T q
      pub outs : (q : Refuted) → Contains (no_of x p) q → level f q.pair.shape ≤ k → ¬ Contains T q.pair

    module _ (k : ℕ) (T : List Pair) (complete : IsGreatestAt x.schema x.terms x.graph f U T k)
        (ins_below : (q : Pair) → Contains (yes_of x p) q → level f q.shape < k → Contains T q)
        (outs_below : (q : Refuted) → Contains (no_of x p) q → level f q.pair.shape < k → ¬ Contains T q.pair) where
      -- the confirmed pairs of the stratum, and with them what is below
      abbrev kept : List Pair
      kept = filter (at_level k) (yes_of x p)

      abbrev W : List Pair
      W = below f k T ++ kept

      out_kept : (q : Pair) → Contains kept q → Contains (yes_of x p) q × (level f q.shape ≡ k)
      out_kept q c = let t = in_filter (at_level k) (yes_of x p) q c in (t.0, eqb-true (level f q.shape) k t.1)

      refuted_is_out : (q : Pair) → Contains (below f k (pairs_of (no_of x p))) q → ¬ Contains T q
      refuted_is_out q c =
          let t = out_below f k (pairs_of (no_of x p)) q c in
          let (r, of, is) = from_map (λ (u : Refuted). u.pair) (no_of x p) q t.0 in
          subst (λ z. ¬ Contains T z) is (outs_below r of (subst (λ z. level f z.shape < k) (sym is) t.1))

      agrees : Agrees W (plus_view f (yes_of x p) (no_of x p) k)
      agrees = (
        (λ q c. let t = out_below f (suc k) (yes_of x p) q c in elim (cases_lt (level f q.shape) k) [
          | inl lt ↦ Contains-append_left (below f k T) kept q (in_below f k T q (ins_below q t.0 lt) lt)
          | inr ge ↦ Contains-append_right (below f k T) kept q (filter_has (at_level k) (yes_of x p) q t.0 (eq-eqb (level f q.shape) k (let lt = t.1 in omega arith)))
        ]),
        (λ q (not_yes, not_in) c. elim (Contains-append_cases (below f k T) kept q c) [
          | inl b ↦ refuted_is_out q not_in (out_below f k T q b).0
          | inr m ↦ (let e = (out_kept q m).1 in let lt = (out_below f k (pairs_of (no_of x p)) q not_in).1 in absurd (omega arith))
        ]),
      )

      rival : IsRival x.schema x.terms x.graph f U T k W
      rival = record {
        over = λ q c. elim (Contains-append_cases (below f k T) kept q c) [
          | inl b ↦ complete.over q (out_below f k T q b).0
          | inr m ↦ (let t = out_kept q m in let good = all_plus q t.0 in (lines q.node good.listed, good.shaped, (let e = t.1 in omega arith)))
        ];
        agrees = (
          (λ q c. let t = out_below f k W q c in
              elim (Contains-append_cases (below f k T) kept q t.0) [
                | inl b ↦ b
                | inr m ↦ (let lt = t.1 in let e = (out_kept q m).1 in absurd (omega arith))
              ]),
          (λ q c. let t = out_below f k T q c in
              filter_has (λ r. nat_lt (level f r.shape) k) W q (Contains-append_left (below f k T) kept q c) (lt-ltb (level f q.shape) k t.1)),
        );
        correct = λ q c at. elim (Contains-append_cases (below f k T) kept q c) [
          | inl b ↦ (let lt = (out_below f k T q b).1 in absurd (omega arith))
          | inr m ↦ (let t = out_kept q m in
              match_true x.schema x.terms x.graph loaded (plus_view f (yes_of x p) (no_of x p) k) W agrees q
              (subst (λ j. PairCanMatch x.schema x.terms x.graph (plus_view f (yes_of x p) (no_of x p) j) Impossible q) t.1 (all_plus q t.0).can))
        ];
      }

      ins_here : (q : Pair) → Contains (yes_of x p) q → level f q.shape ≤ k → Contains T q
      ins_here q c le = elim (cases_lt (level f q.shape) k) [
        | inl lt ↦ ins_below q c lt
        | inr ge ↦ complete.greatest W rival q
            (Contains-append_right (below f k T) kept q (filter_has (at_level k) (yes_of x p) q c (eq-eqb (level f q.shape) k (omega arith))))
      ]

      before_cases : (rank : ℕ) (q : Refuted) → is_before f k rank q ≡ true → (level f q.pair.shape < k) ⊎ ((level f q.pair.shape ≡ k) × (q.rank < rank))
      before_cases rank q e = split (level f q.pair.shape) q.rank e
        where
          split : (a b : ℕ) → nat_lt a k || (nat_eq a k && nat_lt b rank) ≡ true → (a < k) ⊎ ((a ≡ k) × (b < rank))
          split a b e = elim (cases_lt a k) [
            | inl lt ↦ inl lt
            | inr ge ↦ inr (let h : (a ≡ k) × (b < rank) = grind (arith, nat_tests) in h)
          ]

      agree_ranked : (q : Refuted) → ((r : Refuted) → Contains (no_of x p) r → level f r.pair.shape ≡ k → r.rank < q.rank → ¬ Contains T r.pair) →
          Agrees T (minus_view f (yes_of x p) (no_of x p) k q.rank)
      agree_ranked q earlier = (
        (λ u d. let t = out_below f k (yes_of x p) u d in ins_below u t.0 t.1),
        (λ u (not_yes, not_in).
            let (r, of, is) = from_map (λ (v : Refuted). v.pair) (filter (is_before f k q.rank) (no_of x p)) u not_in in
            let t = in_filter (is_before f k q.rank) (no_of x p) r of in
            subst (λ z. ¬ Contains T z) is (elim (before_cases q.rank r t.1) [
              | inl lower ↦ outs_below r t.0 lower
              | inr here ↦ earlier r t.0 here.0 here.1
            ])),
      )

      -- by the ranks
      outs_ranked : (m : ℕ) (q : Refuted) → Contains (no_of x p) q → level f q.pair.shape ≡ k → q.rank < m → ¬ Contains T q.pair
      outs_ranked zero q c at lt = absurd (omega arith)
      outs_ranked (suc m) q c at lt = λ held.
          mismatch_true x.schema x.terms x.graph loaded (minus_view f (yes_of x p) (no_of x p) k q.rank) T
          (agree_ranked q (λ r d on less. outs_ranked m r d on (omega arith))) q.pair
          (subst (λ j. ¬ PairCanMatch x.schema x.terms x.graph (minus_view f (yes_of x p) (no_of x p) j q.rank) Possible q.pair) at (all_minus q c))
          (complete.correct q.pair held at)

      true_here : AreTrueTo T k
      true_here = record {
        ins = ins_here;
        outs = λ q c le. elim (cases_lt (level f q.pair.shape) k) [
          | inl lt ↦ outs_below q c lt
          | inr ge ↦ outs_ranked (suc q.rank) q c (omega arith) (omega arith)
        ];
      }

    -- the records up to the stratum k are true of a typing that is complete up to it
    pub true_to : (k : ℕ) (T : List Pair) → IsComplete x.schema x.terms x.graph f U T k → AreTrueTo T k
    true_to zero T complete = true_here zero T complete (λ q c lt. absurd (omega arith)) (λ q c lt. absurd (omega arith))
    true_to (suc k) T complete =
        let low : AreTrueTo (below f (suc k) T) k = true_to k (below f (suc k) T) complete.1 in
        true_here (suc k) T complete.0
        (λ q c lt. (in_filter (λ r. nat_lt (level f r.shape) (suc k)) T q (low.ins q c (omega arith))).0)
        (λ q c lt held. low.outs q c (omega arith) (filter_has (λ r. nat_lt (level f r.shape) (suc k)) T q.pair held (lt-ltb (level f q.pair.shape) (suc k) lt)))

    -- a complete typing has each pair that a record confirms, and none that one refutes
    pub records_true : (T : List Pair) → IsTheTyping x.schema x.terms x.graph f U T →
        ((q : Pair) → Contains (yes_of x p) q → Contains T q) × ((q : Refuted) → Contains (no_of x p) q → ¬ Contains T q.pair)
    records_true T complete =
        let all = true_to (top_of f) T complete in
        ((λ q c. all.ins q c (level_top f q.shape.0)), λ q c. all.outs q c (level_top f q.pair.shape.0))

    claim_true : (T : List Pair) → IsTheTyping x.schema x.terms x.graph f U T → (c : Claim) (y : Option TermId) → slice_get x.nodes c.node ≡ y →
        PassesClaim x p c y → IsTrueClaim x.schema x.terms x.nodes T c
    claim_true T complete c None is h = absurd h
    claim_true T complete c (Some n) is (e, target, sure) = record { node = n; is_node = is; expr = e; is_target = target; says = says c.holds sure }
      where
        agree : Agrees T (whole_view (yes_of x p) (no_of x p))
        agree =
            let t = records_true T complete in
            (t.0, λ u (not_yes, not_in) held. let (r, of, at) = from_map (λ (v : Refuted). v.pair) (no_of x p) u not_in in t.1 r of (subst (λ z. Contains T z) (sym at) held))

        says : (b : Bool) → IsSure x.schema x.terms (whole_view (yes_of x p) (no_of x p)) n e (verdict_of b) → Says b (Sat x.schema x.terms T n e)
        says true h = (sure_sound x.schema x.terms (whole_view (yes_of x p) (no_of x p)) T agree n (suc e.0) e).0 h
        says false h = (sure_sound x.schema x.terms (whole_view (yes_of x p) (no_of x p)) T agree n (suc e.0) e).1 h

    pub claims_true : (T : List Pair) → IsTheTyping x.schema x.terms x.graph f U T → (c : Claim) → Contains p.claims c → IsTrueClaim x.schema x.terms x.nodes T c
    claims_true T complete c h = claim_true T complete c (slice_get x.nodes c.node) refl ok.1.0
      where
        ok : IsAccepted x p (is_claim c)
        ok = all_at (IsAccepted x p) (items_of p) (is_claim c) accepted (Contains-append_right _ _ _ (in_map (λ u. is_claim u) p.claims c h))

-- the numbers of the node lines are in each list that holds their terms
lines_in : (terms lines : List Term) (nodes : List TermId) → AreNumbers terms lines nodes → (U : List TermId) → HoldsLines U terms lines → (n : TermId) → Contains nodes n → Contains U n
lines_in terms lines nodes numbers U holds n c =
    let (t, of, is) = from_map (λ (t : Term). Some t) lines (slice_get terms n.0) (subst (λ xs. Contains xs (slice_get terms n.0)) numbers (in_map (λ (i : TermId). slice_get terms i.0) nodes n c)) in
    holds n t of (sym is)

pub sound : Soundness
sound f s terms g p loaded accepts U holds T complete =
    let x : Setting = record { schema = s; terms = terms; graph = g; strata = f; nodes = accepts.nodes } in
    let lines : (n : TermId) → Contains accepts.nodes n → Contains U n = lines_in terms p.nodes accepts.nodes accepts.numbers U holds in
    let all = records_true x p loaded accepts.items U lines T complete in
    record { ins = all.0; outs = all.1; claims = claims_true x p loaded accepts.items U lines T complete }
