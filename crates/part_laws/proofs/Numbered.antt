-- Refinement of the same pairs of the same graph by other numbers.
use Rattle.std.proofs.Common.{◌≡◌, ◌∙◌, ℕ, zero, suc, ◌≤◌, List, [], ◌∷◌, ◌++◌, refl, sym, subst, ap, map, take, All}
use Rattle.std.proofs.lemmas.List.{map-append, take-map}
use Rattle.std.proofs.lemmas.Option.{slice_get-map}
use Rattle.std.specs.Option.{option_map}
use Rattle.std.specs.Prelude.{◌↔◌, Contains, Option, Some, None, slice_get}
use Rattle.graph_index.specs.Laws.{IsOfTable}
use Rattle.lists.specs.Distinct.{AreDistinct}
use Rattle.lists.proofs.Members.{from_map, in_map, is_first, is_later}
use Rattle.node_constraint.specs.Laws.{NodesAreDecided}
use Rattle.part_laws.specs.Numbers.{IsRenumbering, NumbersDoNotMatter, known_renumbered, pair_renumbered, renumbered}
use Rattle.part_laws.proofs.Renumbered.{match_to, pair_apart, pair_there, width_back}
use Rattle.rdf_terms.specs.declared.terms.Term.{Term}
use Rattle.rdf_terms.specs.declared.terms.TermId.{TermId}
use Rattle.rdf_terms.specs.declared.terms.Triple.{Triple}
use Rattle.rdf_terms.specs.Laws.{IsTerm, TextsAreDistinct}
use Rattle.schema_tree.specs.declared.schema.Pair.{Pair}
use Rattle.schema_tree.specs.declared.schema.Schema.{Schema}
use Rattle.schema_tree.specs.declared.verdicts.Lean.TheVariants.{Impossible, Possible}
use Rattle.schema_tree.specs.Laws.{WidthIsOne}
use Rattle.schema_tree.specs.Places.{PairCanMatch}
use Rattle.schema_tree.specs.Removal.{AreRefinedBelow, CanGo, ComesBefore, GoesNext, IsConfirmed, IsNarrow, IsRefinedAt}
use Rattle.schema_tree.specs.Sure.{Known}
use Rattle.schema_tree.specs.Typings.{IsPartOf, top_of}
use Rattle.schema_tree.specs.Width.{HasWidth, IsWithinWidth}
use Rattle.schema_tree.proofs.Widths.{some_width}

-- what is led to an item is the item that is led to it
pub some_led : {X Y : Type 0} (f : X → Y) (x : Option X) (y : Y) → option_map f x ≡ Some y → (z : X) × (x ≡ Some z) × (f z ≡ y)
some_led f None y e = absurd (cc)
some_led f (Some z) y e = (z, refl, cc)

module _ (s : Schema) (own terms : List Term) (m : TermId → TermId) (is : IsRenumbering s own terms m) (distinct : AreDistinct own) (whole : (x : Term) → Contains own x → IsTerm x)
    (texts : TextsAreDistinct) (widths : WidthIsOne) (nodes : NodesAreDecided) (g : List Triple) (ends : All (IsOfTable own) g) (f : List ℕ) (pairs : List Pair) (budget : ℕ) where
  abbrev to : Pair → Pair
  to q = pair_renumbered m q

  abbrev there : List Triple
  there = map (renumbered m) g

  abbrev moved : List Pair
  moved = map to pairs

  -- the pairs that are led to these
  sources : (ps : List Pair) → ((q : Pair) → Contains ps q → Contains moved q) → (qs : List Pair) × (map to qs ≡ ps)
  sources [] all = ([], refl)
  sources (p ∷ ps) all =
      let (q, held, e) = from_map to pairs p (all p (is_first p ps)) in
      let (qs, es) = sources ps (λ r c. all r (is_later p ps r c)) in
      (q ∷ qs, (λ i. e i ∷ es i))

  within_to : (p : Pair) → IsWithinWidth s own g budget p ↔ IsWithinWidth s terms there budget (to p)
  within_to p = (
    (λ (w, has, le). let (v, new) = some_width s terms nodes there (to p) in
        (v, new, subst (λ k. k ≤ budget) (is_one p w v has (width_back s own terms m is distinct whole texts g ends p v new)) le)),
    (λ (w, has, le). (w, width_back s own terms m is distinct whole texts g ends p w has, le)),
  )
    where
      is_one : (p : Pair) (w v : ℕ) → HasWidth s own g p w → HasWidth s own g p v → w ≡ v
      is_one p w v a b = (widths s own g p).1 w v a b

  narrow_to : (k : ℕ) (p : Pair) → IsNarrow s own g f pairs budget k p ↔ IsNarrow s terms there f moved budget k (to p)
  narrow_to k p = (
    (λ n. ((pair_there s own terms m is pairs p).0 n.0, n.1, (within_to p).0 n.2)),
    (λ n. ((pair_there s own terms m is pairs p).1 n.0, n.1, (within_to p).1 n.2)),
  )

  -- what is known is what is known of the pairs that are led to it
  abbrev lower_gone : Known → List Pair → Known
  lower_gone lower gone = record { yes = lower.yes; no = lower.no ++ gone }

  abbrev with_kept : Known → List Pair → List Pair → Known
  with_kept lower kept gone = record { yes = lower.yes ++ kept; no = lower.no ++ gone }

  gone_to : (lower : Known) (gone : List Pair) → known_renumbered m (lower_gone lower gone) ≡ lower_gone (known_renumbered m lower) (map to gone)
  gone_to lower gone = λ i. record { yes = map to lower.yes; no = map-append to lower.no gone i }

  kept_to : (lower : Known) (kept gone : List Pair) → known_renumbered m (with_kept lower kept gone) ≡ with_kept (known_renumbered m lower) (map to kept) (map to gone)
  kept_to lower kept gone = λ i. record { yes = map-append to lower.yes kept i; no = map-append to lower.no gone i }

  can_go_to : (lower : Known) (k : ℕ) (gone : List Pair) (p : Pair) → CanGo s own g f pairs budget lower k gone p ↔ CanGo s terms there f moved budget (known_renumbered m lower) k (map to gone) (to p)
  can_go_to lower k gone p = (
    (λ c. (
      (narrow_to k p).0 c.0,
      (λ d. c.1 ((pair_there s own terms m is gone p).1 d)),
      (λ h. c.2 ((matches (lower_gone lower gone)).1 (subst (λ z. PairCanMatch s terms there z Possible (to p)) (sym (gone_to lower gone)) h))),
    )),
    (λ c. (
      (narrow_to k p).1 c.0,
      (λ d. c.1 ((pair_there s own terms m is gone p).0 d)),
      (λ h. c.2 (subst (λ z. PairCanMatch s terms there z Possible (to p)) (gone_to lower gone) ((matches (lower_gone lower gone)).0 h))),
    )),
  )
    where
      matches : (view : Known) → PairCanMatch s own g view Possible p ↔ PairCanMatch s terms there (known_renumbered m view) Possible (to p)
      matches view = match_to s own terms m is distinct whole texts g ends view Possible p

  before_back : (p q : Pair) → ComesBefore moved (to q) (to p) → ComesBefore pairs q p
  before_back p q (i, j, at, later, lt) = (i, j, place q i at, place p j later, lt)
    where
      place : (r : Pair) (k : ℕ) → slice_get moved k ≡ Some (to r) → slice_get pairs k ≡ Some r
      place r k e =
          let (z, found, led) = some_led to (slice_get pairs k) (to r) (sym (slice_get-map to pairs k) ∙ e) in
          found ∙ ap Some (pair_apart s own terms m is z r led)

  goes_next_to : (lower : Known) (k : ℕ) (gone : List Pair) (p : Pair) → GoesNext s own g f pairs budget lower k gone p →
      GoesNext s terms there f moved budget (known_renumbered m lower) k (map to gone) (to p)
  goes_next_to lower k gone p (can, first) = ((can_go_to lower k gone p).0 can, others)
    where
      others : (r : Pair) → CanGo s terms there f moved budget (known_renumbered m lower) k (map to gone) r → ¬ ComesBefore moved r (to p)
      others r c before =
          let (q, held, e) = from_map to pairs r c.0.0 in
          first q ((can_go_to lower k gone q).1 (subst (λ z. CanGo s terms there f moved budget (known_renumbered m lower) k (map to gone) z) (sym e) c))
          (before_back p q (subst (λ z. ComesBefore moved z (to p)) (sym e) before))

  confirmed_to : (lower : Known) (k : ℕ) (gone kept : List Pair) → IsConfirmed s own g f pairs budget lower k gone kept →
      IsConfirmed s terms there f moved budget (known_renumbered m lower) k (map to gone) (map to kept)
  confirmed_to lower k gone kept c r held =
      let (p, in_kept, e) = from_map to kept r held in
      let u = c p in_kept in
      subst (λ z. IsNarrow s terms there f moved budget k z × (¬ Contains (map to gone) z) ×
      PairCanMatch s terms there (with_kept (known_renumbered m lower) (map to kept) (map to gone)) Impossible z) e (
        (narrow_to k p).0 u.0,
        (λ d. u.1 ((pair_there s own terms m is gone p).1 d)),
        subst (λ z. PairCanMatch s terms there z Impossible (to p)) (kept_to lower kept gone) ((match_to s own terms m is distinct whole texts g ends (with_kept lower kept gone) Impossible p).0 u.2),
      )

  confirmed_back : (lower : Known) (k : ℕ) (gone kept : List Pair) →
      IsConfirmed s terms there f moved budget (known_renumbered m lower) k (map to gone) (map to kept) → IsConfirmed s own g f pairs budget lower k gone kept
  confirmed_back lower k gone kept c p held =
      let u = c (to p) (in_map to kept p held) in (
        (narrow_to k p).1 u.0,
        (λ d. u.1 ((pair_there s own terms m is gone p).0 d)),
        (match_to s own terms m is distinct whole texts g ends (with_kept lower kept gone) Impossible p).1 (subst (λ z. PairCanMatch s terms there z Impossible (to p)) (sym (kept_to lower kept gone)) u.2),
      )

  refined_at_to : (lower : Known) (k : ℕ) (gone kept : List Pair) → IsRefinedAt s own g f pairs budget lower k gone kept →
      IsRefinedAt s terms there f moved budget (known_renumbered m lower) k (map to gone) (map to kept)
  refined_at_to lower k gone kept r = record { in_turn = in_turn; finished = finished; confirmed = confirmed_to lower k gone kept r.confirmed; greatest = greatest }
    where
      in_turn : (j : ℕ) (u : Pair) → slice_get (map to gone) j ≡ Some u → GoesNext s terms there f moved budget (known_renumbered m lower) k (take j (map to gone)) u
      in_turn j u e =
          let (p, found, led) = some_led to (slice_get gone j) u (sym (slice_get-map to gone j) ∙ e) in
          subst (λ z. GoesNext s terms there f moved budget (known_renumbered m lower) k (take j (map to gone)) z) led
          (subst (λ zs. GoesNext s terms there f moved budget (known_renumbered m lower) k zs (to p)) (sym (take-map to j gone))
          (goes_next_to lower k (take j gone) p (r.in_turn j p found)))

      finished : (u : Pair) → ¬ CanGo s terms there f moved budget (known_renumbered m lower) k (map to gone) u
      finished u c =
          let (p, held, e) = from_map to pairs u c.0.0 in
          r.finished p ((can_go_to lower k gone p).1 (subst (λ z. CanGo s terms there f moved budget (known_renumbered m lower) k (map to gone) z) (sym e) c))

      greatest : (more : List Pair) → IsConfirmed s terms there f moved budget (known_renumbered m lower) k (map to gone) more → IsPartOf more (map to kept)
      greatest more c u held =
          let (qs, e) = sources more (λ z d. (c z d).0.0) in
          let back = confirmed_back lower k gone qs (subst (λ zs. IsConfirmed s terms there f moved budget (known_renumbered m lower) k (map to gone) zs) (sym e) c) in
          let (q, in_qs, led) = from_map to qs u (subst (λ zs. Contains zs u) (sym e) held) in
          subst (λ z. Contains (map to kept) z) led (in_map to kept q (r.greatest qs back q in_qs))

  below_to : (k : ℕ) (known : Known) → AreRefinedBelow s own g f pairs budget k known → AreRefinedBelow s terms there f moved budget k (known_renumbered m known)
  below_to zero known (yes_is, no_is) = (ap (map to) yes_is, ap (map to) no_is)
  below_to (suc k) known (lower, gone, kept, before, at, yes_is, no_is) = (
    known_renumbered m lower,
    map to gone,
    map to kept,
    below_to k lower before,
    refined_at_to lower k gone kept at,
    ap (map to) yes_is
        ∙ map-append to lower.yes kept,
    ap (map to) no_is ∙ map-append to lower.no gone,
  )

pub numbers_do_not_matter : TextsAreDistinct → WidthIsOne → NodesAreDecided → NumbersDoNotMatter
numbers_do_not_matter texts widths nodes s own terms m g f pairs budget known is distinct whole ends refined =
    below_to s own terms m is distinct whole texts widths nodes g ends f pairs budget (suc (top_of f)) known refined
