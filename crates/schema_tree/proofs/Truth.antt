-- The pairs that refinement keeps are in the complete typing, and those that went are not: on a stratum, and on all.
use Rattle.std.proofs.Common.{◌≡◌, ℕ, zero, suc, ◌<◌, ◌≤◌, inl, inr, List, [], ◌∷◌, ◌++◌, refl, arith, sym, subst, ap, ◌∙◌, length, take, get_or}
use Rattle.std.proofs.Math.Seq.{take-suc, take-length}
use Rattle.std.proofs.lemmas.Option.{slice_get-get_or, slice_get_within}
use Rattle.std.proofs.lemmas.List.Elements.{Contains-append_cases, Contains-append_left, Contains-append_right}
use Rattle.std.specs.Prelude.{Contains, Option, Some, None, slice_get}
use Rattle.rdf_terms.specs.declared.terms.TermId.{TermId}
use Rattle.rdf_terms.specs.declared.terms.Term.{Term}
use Rattle.rdf_terms.specs.declared.terms.Triple.{Triple}
use Rattle.schema_tree.specs.declared.schema.Schema.{Schema}
use Rattle.schema_tree.specs.declared.schema.Shape.{Shape}
use Rattle.schema_tree.specs.declared.verdicts.Lean.TheVariants.{Possible, Impossible}
use Rattle.schema_tree.specs.declared.schema.Pair.{Pair}
use Rattle.schema_tree.specs.Entries.{shape_at}
use Rattle.schema_tree.specs.Shapes.{ShapeOk, ShapeHolds}
use Rattle.schema_tree.specs.Satisfies.{Sat}
use Rattle.schema_tree.specs.Edges.{level}
use Rattle.schema_tree.specs.Typings.{IsComplete, IsGreatestAt, IsPartOf, IsRival, IsTheTyping, below, top_of}
use Rattle.schema_tree.specs.Sure.{Known, Agrees}
use Rattle.lists.proofs.Members.{not_in_none, in_one, got_in}
use Rattle.schema_tree.proofs.Made.{well_made}
use Rattle.schema_tree.proofs.Leans.{placed_true, never_true}
use Rattle.schema_tree.specs.Places.{CanMatch, PairCanMatch}
use Rattle.schema_tree.specs.declared.verdicts.Lean.{Lean}
use Rattle.schema_tree.specs.Loaded.{IsLoaded}
use Rattle.rdf_terms.specs.Order.{neighbourhood}
use Rattle.schema_tree.specs.Removal.{AreRefinedBelow, IsRefined, IsRefinedAt}
use Rattle.schema_tree.proofs.Ordered.{ordered_same}
use Rattle.schema_tree.proofs.Below.{in_below, out_below}

module _ (s : Schema) (terms : List Term) (g : List Triple) (loaded : IsLoaded s) where
  -- a pair that matches where Unknown is impossible has its Shape under each typing that agrees
  pub match_true :
      (view : Known) (T : List Pair) → Agrees T view → (p : Pair) → PairCanMatch s terms g view Impossible p →
      ShapeOk s terms g T p.node p.shape
  match_true view T agrees p h = go (shape_at s p.shape) refl h
    where
      go : (x : Option Shape) → shape_at s p.shape ≡ x → CanMatch s terms g view Impossible p.node x → ShapeHolds (Sat s terms T) g p.node x
      go None e h = h
      go (Some sh) e h =
          placed_true s terms g view T agrees sh (well_made s loaded p.shape sh e) p.node (neighbourhood terms g p.node) (ordered_same terms g p.node) h

  -- one that cannot match where Unknown is possible has it under none
  pub mismatch_true :
      (view : Known) (T : List Pair) → Agrees T view → (p : Pair) → ¬ PairCanMatch s terms g view Possible p →
      ¬ ShapeOk s terms g T p.node p.shape
  mismatch_true view T agrees p h = go (shape_at s p.shape) refl h
    where
      go :
          (x : Option Shape) → shape_at s p.shape ≡ x → ¬ CanMatch s terms g view Possible p.node x →
          ¬ ShapeHolds (Sat s terms T) g p.node x
      go None e h = h
      go (Some sh) e h =
          never_true s terms g view T agrees sh (well_made s loaded p.shape sh e) p.node (neighbourhood terms g p.node) (ordered_same terms g p.node) h

  -- a pair that can match is of a Shape that is there
  has_shape : (view : Known) (lean : Lean) (p : Pair) → PairCanMatch s terms g view lean p → p.shape.0 < length s.shapes
  has_shape view lean p h = go (shape_at s p.shape) refl h
    where
      go : (x : Option Shape) → shape_at s p.shape ≡ x → CanMatch s terms g view lean p.node x → p.shape.0 < length s.shapes
      go None e h = absurd h
      go (Some sh) e h = slice_get_within s.shapes p.shape.0 sh e

  -- the pairs that went on a stratum are of it
  on_stratum :
      (f : List ℕ) (k : ℕ) (pairs : List Pair) (budget : ℕ) (lower : Known) (gone kept : List Pair) →
      IsRefinedAt s terms g f pairs budget lower k gone kept →
      (p : Pair) → Contains gone p → level f p.shape ≡ k
  on_stratum f k pairs budget lower gone kept r p (i, within, at) = (r.in_turn i p (slice_get-get_or gone i p within ∙ ap (λ q. Some q) at)).0.0.1

  module _ (f : List ℕ) (U : List TermId) (K : List Pair) (k : ℕ) (complete : IsGreatestAt s terms g f U K k) (lower : Known)
      (yes_below : (p : Pair) → Contains lower.yes p → Contains K p × (level f p.shape < k)) (no_below : (p : Pair) → Contains lower.no p → ¬ Contains K p) where
    -- pairs that match with one another, with what is known below and with gone out, are in the complete typing
    pub confirmed_in :
        (gone kept : List Pair) → ((p : Pair) → Contains gone p → level f p.shape ≡ k) →
        ((p : Pair) → Contains kept p → Contains U p.node × (level f p.shape ≡ k)) →
        ((p : Pair) → Contains kept p → PairCanMatch s terms g (record { yes = lower.yes ++ kept; no = lower.no ++ gone }) Impossible p) →
        IsPartOf kept K
    confirmed_in gone kept left there can p h = complete.greatest W rival p (Contains-append_right (below f k K) kept p h)
      where
        W : List Pair
        W = below f k K ++ kept

        view : Known
        view = record { yes = lower.yes ++ kept; no = lower.no ++ gone }

        agrees : Agrees W view
        agrees = (
          (λ q c. elim (Contains-append_cases lower.yes kept q c) [
            | inl y ↦ (let t = yes_below q y in Contains-append_left (below f k K) kept q (in_below f k K q t.0 t.1))
            | inr m ↦ Contains-append_right (below f k K) kept q m
          ]),
          (λ q (not_yes, not_in) c. elim (Contains-append_cases (below f k K) kept q c) [
            | inl b ↦ (let t = out_below f k K q b in elim (Contains-append_cases lower.no gone q not_in) [
              | inl l ↦ no_below q l t.0
              | inr m ↦ (let at = left q m in let lt = t.1 in absurd (omega arith))
            ])
            | inr m ↦ not_yes (Contains-append_right lower.yes kept q m)
          ]),
        )

        rival : IsRival s terms g f U K k W
        rival = record {
          over = λ q c. elim (Contains-append_cases (below f k K) kept q c) [
            | inl b ↦ complete.over q (out_below f k K q b).0
            | inr m ↦ (let t = there q m in let e = t.1 in (t.0, has_shape view Impossible q (can q m), omega arith))
          ];
          agrees = (
            (λ q c. let t = out_below f k W q c in
                elim (Contains-append_cases (below f k K) kept q t.0) [
                  | inl b ↦ b
                  | inr m ↦ (let lt = t.1 in let e = (there q m).1 in absurd (omega arith))
                ]),
            (λ q c. in_below f k W q (Contains-append_left (below f k K) kept q c) (out_below f k K q c).1),
          );
          correct = λ q c at. elim (Contains-append_cases (below f k K) kept q c) [
            | inl b ↦ (let lt = (out_below f k K q b).1 in absurd (omega arith))
            | inr m ↦ match_true view W agrees q (can q m)
          ];
        }

    -- the next pair that is refuted, given those before it
    refuted_next :
        (gone : List Pair) → ((p : Pair) → Contains gone p → level f p.shape ≡ k) →
        ((r : ℕ) (p : Pair) → slice_get gone r ≡ Some p → ¬ PairCanMatch s terms g (record { yes = lower.yes; no = lower.no ++ take r gone }) Possible p) →
        (r : ℕ) → suc r ≤ length gone → ((u : Pair) → Contains (take r gone) u → ¬ Contains K u) → (p : Pair) → Contains (take (suc r) gone) p → ¬ Contains K p
    refuted_next gone on cannot r short earlier p h c =
        elim (Contains-append_cases (take r gone) (q ∷ []) p (subst (λ ps. Contains ps p) (take-suc gone r p short) h)) [
          | inl early ↦ earlier p early c
          | inr last ↦ mismatch_true view K agrees q (cannot r q got) (complete.correct q (subst (λ u. Contains K u) (sym (in_one q p last)) c) (on q held))
        ]
      where
        q : Pair
        q = get_or gone r p

        got : slice_get gone r ≡ Some q
        got = slice_get-get_or gone r p short

        held : Contains gone q
        held = got_in gone r q got

        view : Known
        view = record { yes = lower.yes; no = lower.no ++ take r gone }

        agrees : Agrees K view
        agrees = (
          (λ u c. (yes_below u c).0),
          (λ u (not_yes, not_in). elim (Contains-append_cases lower.no (take r gone) u not_in) [
            | inl l ↦ no_below u l
            | inr m ↦ earlier u m
          ]),
        )

    -- pairs refuted in turn are not in it
    pub refuted_out :
        (gone : List Pair) → ((p : Pair) → Contains gone p → level f p.shape ≡ k) →
        ((r : ℕ) (p : Pair) → slice_get gone r ≡ Some p → ¬ PairCanMatch s terms g (record { yes = lower.yes; no = lower.no ++ take r gone }) Possible p) →
        (r : ℕ) → r ≤ length gone → (p : Pair) → Contains (take r gone) p → ¬ Contains K p
    refuted_out gone on cannot zero short p h = absurd (not_in_none p h)
    refuted_out gone on cannot (suc r) short p h = refuted_next gone on cannot r short (refuted_out gone on cannot r (omega arith)) p h

    -- so the verdicts of refinement on the stratum are true
    pub refined_true :
        (pairs : List Pair) (budget : ℕ) → ((p : Pair) → Contains pairs p → Contains U p.node) →
        (gone kept : List Pair) → IsRefinedAt s terms g f pairs budget lower k gone kept →
        IsPartOf kept K × ((p : Pair) → Contains gone p → ¬ Contains K p)
    refined_true pairs budget nodes gone kept r = (
      confirmed_in gone kept on (λ p c. (let t = (r.confirmed p c).0 in (nodes p t.0, t.1))) (λ p c. (r.confirmed p c).2),
      (λ p c. refuted_out gone on (λ i q at. (r.in_turn i q at).0.2) (length gone) (omega arith) p (subst (λ ps. Contains ps p) (sym (take-length gone)) c)),
    )
      where
        on : (p : Pair) → Contains gone p → level f p.shape ≡ k
        on = on_stratum f k pairs budget lower gone kept r

  module _ (f : List ℕ) (U : List TermId) (pairs : List Pair) (budget : ℕ) (nodes : (p : Pair) → Contains pairs p → Contains U p.node) where
    -- what the verdicts up to a stratum say of a typing: the Yes pairs are in it and the No pairs are not, all up to there
    record AreTrueTo (T : List Pair) (k : ℕ) (known : Known) : Type 0 where
      pub ins : (p : Pair) → Contains known.yes p → Contains T p × (level f p.shape ≤ k)
      pub outs : (p : Pair) → Contains known.no p → (¬ Contains T p) × (level f p.shape ≤ k)

    -- on one stratum more
    one_more :
        (T : List Pair) (k : ℕ) → IsGreatestAt s terms g f U T k → (lower : Known) →
        ((p : Pair) → Contains lower.yes p → Contains T p × (level f p.shape < k)) →
        ((p : Pair) → Contains lower.no p → (¬ Contains T p) × (level f p.shape < k)) →
        (gone kept : List Pair) → IsRefinedAt s terms g f pairs budget lower k gone kept →
        (known : Known) → known.yes ≡ lower.yes ++ kept → known.no ≡ lower.no ++ gone → AreTrueTo T k known
    one_more T k complete lower plus minus gone kept r known yes_is no_is = record {
      ins = λ p c. elim (Contains-append_cases lower.yes kept p (subst (λ ps. Contains ps p) yes_is c)) [
        | inl l ↦ (let t = plus p l in let lt = t.1 in (t.0, omega arith))
        | inr m ↦ (let at = (r.confirmed p m).0.1 in (both.0 p m, omega arith))
      ];
      outs = λ p c. elim (Contains-append_cases lower.no gone p (subst (λ ps. Contains ps p) no_is c)) [
        | inl l ↦ (let t = minus p l in let lt = t.1 in (t.0, omega arith))
        | inr m ↦ (let at = on_stratum f k pairs budget lower gone kept r p m in (both.1 p m, omega arith))
      ];
    }
      where
        both : IsPartOf kept T × ((p : Pair) → Contains gone p → ¬ Contains T p)
        both = refined_true f U T k complete lower plus (λ p c. (minus p c).0) pairs budget nodes gone kept r

    refined_to :
        (k : ℕ) (T : List Pair) → IsComplete s terms g f U T k → (known : Known) → AreRefinedBelow s terms g f pairs budget (suc k) known →
        AreTrueTo T k known
    refined_to zero T complete known (lower, gone, kept, (no_yes, no_no), r, yes_is, no_is) =
        one_more T zero complete lower
        (λ p c. absurd (not_in_none p (subst (λ ps. Contains ps p) no_yes c))) (λ p c. absurd (not_in_none p (subst (λ ps. Contains ps p) no_no c)))
        gone kept r known yes_is no_is
    refined_to (suc k) T complete known (lower, gone, kept, before, r, yes_is, no_is) =
        let t = refined_to k (below f (suc k) T) complete.1 lower before in
        one_more T (suc k) complete.0 lower (λ p c. out_below f (suc k) T p (t.ins p c).0)
        (λ p c. let out = t.outs p c in let le = out.1 in ((λ held. out.0 (in_below f (suc k) T p held (omega arith))), omega arith))
        gone kept r known yes_is no_is

    -- the verdicts of refinement on all strata are true of the complete typing
    pub all_true :
        (T : List Pair) → IsTheTyping s terms g f U T → (known : Known) → IsRefined s terms g f pairs budget known → Agrees T known
    all_true T complete known refined =
        let t = refined_to (top_of f) T complete known refined in ((λ p c. (t.ins p c).0), (λ p (not_yes, c). (t.outs p c).0))
