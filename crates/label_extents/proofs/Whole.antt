-- What is found by the verdicts on all nodes with all labels are the extents but for what is Unknown.
use Rattle.std.proofs.Common.{◌≡◌, ◌∙◌, ◌<◌, ◌||◌, ℕ, Bool, true, false, List, [], ◌∷◌, filter, inl, inr, length, refl, subst, sym, true≢false, ◌⊎◌}
use Rattle.std.specs.Prelude.{◌↔◌, All, Contains, IsTrue}
use Rattle.std.specs.List.{flat_map, list_any}
use Rattle.std.proofs.lemmas.List.Elements.{All-contains}
use Rattle.std.proofs.lemmas.List.Kept.{IsStrictlySortedBy-filter}
use Rattle.lists.proofs.Filters.{filter_has, in_filter}
use Rattle.lists.proofs.Members.{any_true, is_first, is_later}
use Rattle.graph_index.specs.Laws.{IsOfTable}
use Rattle.rdf_terms.specs.Order.{compare_at}
use Rattle.rdf_terms.specs.declared.terms.Term.{Term}
use Rattle.rdf_terms.specs.declared.terms.TermId.{TermId}
use Rattle.rdf_terms.specs.declared.terms.Triple.{Triple}
use Rattle.schema_documents.specs.declared.label.Label.{Label}
use Rattle.schema_tree.specs.declared.schema.Answer.{Answer}
use Rattle.schema_tree.specs.declared.schema.ExprId.{ExprId}
use Rattle.schema_tree.specs.declared.schema.Pair.{Pair}
use Rattle.schema_tree.specs.declared.schema.Schema.{Schema}
use Rattle.schema_tree.specs.declared.verdicts.Verdict.{Verdict}
use Rattle.schema_tree.specs.declared.verdicts.Verdict.TheVariants.{Yes, No, Unknown}
use Rattle.schema_tree.specs.Entries.{pair_of}
use Rattle.schema_tree.specs.Laws.{OneVerdict, SomeVerdict}
use Rattle.schema_tree.specs.Needs.{HoldRoots, ReachesWide, here}
use Rattle.schema_tree.specs.Sure.{IsSure, Known}
use Rattle.schema_tree.specs.Typings.{HoldsEnds}
use Rattle.typing_answers.specs.Laws.{SureAnswersAreTrue}
use Rattle.demand.proofs.Led.{not_decided}
use Rattle.label_extents.specs.declared.finding.Extents.{Extents}
use Rattle.label_extents.specs.Demanded.{AreDemanded}
use Rattle.wide_pairs.specs.Wide.{AreWide}
use Rattle.label_extents.specs.Extents.{AreExtents, AreInOrder, AreKnownExtents, IsKnownMember, IsMember, IsNode, IsUndecided, IsUnknown}
use Rattle.label_extents.specs.Found.{AreFound, AreMembers, HoldDecided}
use Rattle.schema_tree.specs.Width.{is_certain}
use Rattle.label_extents.specs.Members.{GivesVerdicts, has_unknown, is_unknown, members_with}
use Rattle.label_extents.proofs.Judged.{AreVerdicts, fails, holds, left_wide, one_truth}
use Rattle.label_extents.proofs.Listed.{from_listed, in_listed, listed, listed_alike}

yes_unlike_unknown : Yes ≡ Unknown → ⊥
yes_unlike_unknown e = cc

no_unlike_unknown : No ≡ Unknown → ⊥
no_unlike_unknown e = cc

only_yes : (v : Verdict) → is_certain v ≡ true → v ≡ Yes
only_yes Yes e = refl
only_yes No e = absurd (true≢false (sym e))
only_yes Unknown e = absurd (true≢false (sym e))

only_unknown : (v : Verdict) → is_unknown v ≡ true → v ≡ Unknown
only_unknown Yes e = absurd (true≢false (sym e))
only_unknown No e = absurd (true≢false (sym e))
only_unknown Unknown e = refl

-- an item that passes the test, where some does
some_passing : {X : Type 0} (p : X → Bool) (xs : List X) → list_any p xs ≡ true → (x : X) × Contains xs x × (p x ≡ true)
some_passing p [] h = absurd (true≢false (sym h))
some_passing p (x ∷ xs) h = by (p x) refl h (some_passing p xs)
  where
    by : (b : Bool) → p x ≡ b → b || list_any p xs ≡ true → (list_any p xs ≡ true → (y : _) × Contains xs y × (p y ≡ true)) → (y : _) × Contains (x ∷ xs) y × (p y ≡ true)
    by true e all later = (x, is_first x xs, e)
    by false e all later = let (y, held, passes) = later all in (y, is_later x xs y held, passes)

-- what the verdicts rest on, the nodes in order, the pairs, and the laws of verdicts
module _ (s : Schema) (terms : List Term) (g : List Triple) (f : List ℕ) (pairs : List Pair) (budget : ℕ) (verdicts view : Known) (nodes : List TermId)
    (law : SureAnswersAreTrue) (some : SomeVerdict) (one : OneVerdict) (are : AreVerdicts s terms g f pairs budget verdicts view)
    (ordered : AreInOrder terms (IsNode g) nodes) (demanded : AreDemanded s terms g pairs) where
  -- the verdict on a node with an expression
  abbrev pub verdict : TermId → ExprId → Verdict
  verdict n e = (some s terms view n e).0

  sure : (n : TermId) (e : ExprId) → IsSure s terms view n e (verdict n e)
  sure n e = (some s terms view n e).1

  pub gives : GivesVerdicts s terms view verdict
  gives n e v h = one s terms view n e v (verdict n e) h (sure n e)

  roots_held : (l : Label) (e : ExprId) (n : TermId) → Contains s.labels (l, e) → IsNode g n → HoldRoots s pairs n e
  roots_held l e n declared is_node i sign stands =
      (demanded.exactly (pair_of n i)).1 (record { label = l; expr = e; node = n; declared = declared; is_node = is_node; reaches = (i, sign, stands, here) })

  ends : HoldsEnds nodes g
  ends t c = ((ordered.exactly t.s).1 (t, c, inl refl), (ordered.exactly t.o).1 (t, c, inr refl))

  module _ (l : Label) (e : ExprId) (n : TermId) (declared : Contains s.labels (l, e)) (is_node : IsNode g n) where
    roots : HoldRoots s pairs n e
    roots = roots_held l e n declared is_node

    sure_of : (v : Verdict) → verdict n e ≡ v → IsSure s terms view n e v
    sure_of v is = subst (IsSure s terms view n e) is (sure n e)

    -- a Yes is of a member that is known
    yes_known : verdict n e ≡ Yes → IsKnownMember s terms g verdicts e n
    yes_known is =
        let (own, truth) = holds s terms g f pairs budget verdicts view law are n e roots (sure_of Yes is) in
        (record { node = is_node; satisfied = truth }, λ unknown. yes_unlike_unknown (one s terms verdicts n e Yes Unknown own unknown))

    -- and each such member has a Yes
    known_yes : IsKnownMember s terms g verdicts e n → is_certain (verdict n e) ≡ true
    known_yes (m, known) = by (verdict n e) refl
      where
        by : (v : Verdict) → verdict n e ≡ v → is_certain v ≡ true
        by Yes is = refl
        by No is = absurd (one_truth s terms g nodes n e ends ((ordered.exactly n).1 is_node) m.satisfied (fails s terms g f pairs budget verdicts view law are n e roots (sure_of No is)).1)
        by Unknown is = absurd (known (left_wide s terms g f pairs budget verdicts view law are n e roots (sure_of Unknown is)).0)

    -- what is Unknown by the verdicts is so by the view
    unknown_there : IsUnknown s terms verdicts e n → is_unknown (verdict n e) ≡ true
    unknown_there unknown = by (verdict n e) refl
      where
        by : (v : Verdict) → verdict n e ≡ v → is_unknown v ≡ true
        by Yes is = absurd (yes_unlike_unknown (one s terms verdicts n e Yes Unknown (holds s terms g f pairs budget verdicts view law are n e roots (sure_of Yes is)).0 unknown))
        by No is = absurd (no_unlike_unknown (one s terms verdicts n e No Unknown (fails s terms g f pairs budget verdicts view law are n e roots (sure_of No is)).0 unknown))
        by Unknown is = refl

    unknown_from : is_unknown (verdict n e) ≡ true → IsUnknown s terms verdicts e n × ReachesWide s terms g budget n e
    unknown_from is = left_wide s terms g f pairs budget verdicts view law are n e roots (sure_of Unknown (only_unknown (verdict n e) is))

    pub only_wide : IsUnknown s terms verdicts e n → ReachesWide s terms g budget n e
    only_wide unknown = (unknown_from (unknown_there unknown)).1

  -- the nodes with Yes are the members that are known
  in_order : (d : Label × ExprId) → Contains s.labels d → AreInOrder terms (IsKnownMember s terms g verdicts d.1) (filter (λ n. is_certain (verdict n d.1)) nodes)
  in_order d declared = record {
    sorted = IsStrictlySortedBy-filter (compare_at terms) (λ n. is_certain (verdict n d.1)) nodes ordered.sorted;
    exactly = λ n. (
      λ c. (let (held, is) = in_filter (λ m. is_certain (verdict m d.1)) nodes n c in yes_known d.0 d.1 n declared ((ordered.exactly n).0 held) (only_yes (verdict n d.1) is)),
      λ m. filter_has (λ k. is_certain (verdict k d.1)) nodes n ((ordered.exactly n).1 m.0.node) (known_yes d.0 d.1 n declared m.0.node m),
    );
  }

  pub known_extents : (members : List Answer) → members ≡ flat_map (members_with verdict nodes) s.labels → AreKnownExtents s terms g verdicts members
  known_extents members is = subst (AreKnownExtents s terms g verdicts) (sym is)
      (listed terms (IsKnownMember s terms g verdicts) (λ d. filter (λ n. is_certain (verdict n d.1)) nodes) s.labels in_order)

  pub told_undecided : (told : Bool) → told ≡ list_any (has_unknown verdict nodes) s.labels → IsTrue told ↔ IsUndecided s terms g verdicts
  told_undecided told is = (there, back)
    where
      there : IsTrue told → IsUndecided s terms g verdicts
      there h =
          let (d, declared, some_there) = some_passing (has_unknown verdict nodes) s.labels (sym is ∙ h) in
          let (n, held, unknown) = some_passing (λ m. is_unknown (verdict m d.1)) nodes some_there in
          let is_node : IsNode g n = (ordered.exactly n).0 held in
          record { label = d.0; expr = d.1; node = n; declared = declared; is_node = is_node; unknown = (unknown_from d.0 d.1 n declared is_node unknown).0 }

      back : IsUndecided s terms g verdicts → IsTrue told
      back u =
          is ∙ any_true (has_unknown verdict nodes) s.labels (u.label, u.expr) u.declared
          (any_true (λ m. is_unknown (verdict m u.expr)) nodes u.node ((ordered.exactly u.node).1 u.is_node) (unknown_there u.label u.expr u.node u.declared u.is_node u.unknown))

  pub found : (x : Extents) → x.members ≡ flat_map (members_with verdict nodes) s.labels → x.undecided ≡ list_any (has_unknown verdict nodes) s.labels →
      AreWide s terms g budget pairs x.wide → AreFound s terms g f budget x
  found x members told wide = record {
    pairs = pairs;
    demanded = demanded;
    verdicts = verdicts;
    refined = are.refined;
    members = known_extents x.members members;
    undecided = told_undecided x.undecided told;
    only_wide = only_wide;
    wide = wide;
  }

-- what follows from what is found
module _ (s : Schema) (terms : List Term) (g : List Triple) (f : List ℕ) (budget : ℕ) (x : Extents) (are : AreFound s terms g f budget x) where
  pub are_members : AreMembers s terms g x.members
  are_members a c = let (l, e, n, declared, known, is) = from_listed terms (IsKnownMember s terms g are.verdicts) s.labels x.members are.members a c in (l, e, n, declared, known.0, is)

  pub hold_decided : HoldDecided s terms g budget x.members
  hold_decided l e n declared m decided =
      in_listed terms (IsKnownMember s terms g are.verdicts) s.labels x.members are.members (l, e) n declared (m, λ unknown. not_decided s terms g budget n e (are.only_wide l e n declared m.node unknown) decided)

  pub are_whole : x.undecided ≡ false → AreExtents s terms g x.members
  are_whole none = listed_alike terms (IsKnownMember s terms g are.verdicts) (IsMember s terms g) s.labels x.members
      (λ d n declared. (
        λ known. known.0,
        λ m. (
          m,
          λ unknown. true≢false (sym (are.undecided.1 (record { label = d.0; expr = d.1; node = n; declared = declared; is_node = m.node; unknown = unknown }))
              ∙ none),
        ),
      ))
      are.members

  end_held : (n : TermId) → All (IsOfTable terms) g → IsNode g n → n.0 < length terms
  end_held n all (t, held, end) = by (All-contains (IsOfTable terms) g t all held) end
    where
      by : IsOfTable terms t → (t.s ≡ n) ⊎ (t.o ≡ n) → n.0 < length terms
      by of (inl is) = subst (λ (m : TermId). m.0 < length terms) is of.subject
      by of (inr is) = subst (λ (m : TermId). m.0 < length terms) is of.object

  pub are_of_table : All (IsOfTable terms) g → (a : Answer) → Contains x.members a → a.node.0 < length terms
  are_of_table all a c = let (l, e, n, declared, m, is) = are_members a c in subst (λ (b : Answer). b.node.0 < length terms) (sym is) (end_held n all m.node)
