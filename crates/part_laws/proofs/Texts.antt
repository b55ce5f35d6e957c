-- Answers over a part are those over the whole, each numbered in a table of its own.
use Rattle.std.proofs.Common.{◌≡◌, ◌∙◌, ℕ, suc, ◌<◌, ◌+◌, inl, inr, Bool, true, false, List, refl, arith, sym, subst, ap, map, length}
use Rattle.std.proofs.lemmas.List.Elements.{All-contains}
use Rattle.std.proofs.lemmas.Option.{slice_get-map, slice_get_cases, slice_get_past}
use Rattle.std.specs.Prelude.{◌↔◌, Contains, Option, Some, None, slice_get}
use Rattle.demand.specs.declared.reach.Root.{Root}
use Rattle.demand.specs.Demand.{AreAsked}
use Rattle.graph_index.specs.declared.loading.TermTriple.{TermTriple}
use Rattle.graph_index.specs.Laws.{IsOfTable}
use Rattle.graph_index.specs.Loading.{IsNumbered}
use Rattle.lists.specs.Distinct.{AreDistinct}
use Rattle.lists.proofs.Members.{from_map, got_in, in_map, place_of}
use Rattle.locality_laws.specs.Laws.{RefinementIsLocal}
use Rattle.node_constraint.specs.Laws.{NodesAreDecided}
use Rattle.part_laws.specs.Numbers.{IsPredicateOf, IsRenumbering, known_renumbered, pair_renumbered, renumbered}
use Rattle.part_laws.specs.Parts.{IsPartAt}
use Rattle.part_laws.specs.Texts.{AreNumberedBy, AreSameRoot, Data, IsGraph, IsKnownOf, HasWhatIsRead, PartsAnswerAlike, PartsAnswerTruly, ReachWithin, Says}
use Rattle.part_laws.proofs.Answers.{closed_over, refined_back, sure_there}
use Rattle.part_laws.proofs.Grown.{front_same}
use Rattle.part_laws.proofs.Numbered.{numbers_do_not_matter, some_led}
use Rattle.part_laws.proofs.Renumbered.{needs_back, sure_to, triple_apart}
use Rattle.part_laws.proofs.Shards.{asked_closed}
use Rattle.rdf_terms.specs.declared.terms.Term.{Term}
use Rattle.rdf_terms.specs.declared.terms.TermId.{TermId}
use Rattle.rdf_terms.specs.declared.terms.Triple.{Triple}
use Rattle.rdf_terms.specs.Laws.{TextsAreDistinct}
use Rattle.schema_tree.specs.declared.schema.Pair.{Pair}
use Rattle.schema_tree.specs.declared.schema.Schema.{Schema}
use Rattle.schema_tree.specs.declared.schema.ShapeId.{ShapeId}
use Rattle.schema_tree.specs.declared.verdicts.Verdict.{Verdict}
use Rattle.schema_tree.specs.declared.verdicts.Verdict.TheVariants.{No, Yes}
use Rattle.schema_tree.specs.Edges.{StandsIn}
use Rattle.schema_tree.specs.Entries.{pair_of}
use Rattle.schema_tree.specs.Laws.{OneVerdict, RefinementIsTrue, SomeVerdict, SureIsTrue, WidthIsOne}
use Rattle.schema_tree.specs.Loaded.{IsLoaded}
use Rattle.schema_tree.specs.Matches.{other_end}
use Rattle.schema_tree.specs.Needs.{HoldNeeds, Leads, Needs, here, step}
use Rattle.schema_tree.specs.Removal.{IsRefined}
use Rattle.schema_tree.specs.Satisfies.{Sat}
use Rattle.schema_tree.specs.Sure.{Agrees, IsSure, Known, PairIs}
use Rattle.schema_tree.specs.Typings.{HoldsEnds, IsTheTyping}

some_one : {X : Type 0} (x y : X) (o : Option X) → o ≡ Some x → o ≡ Some y → x ≡ y
some_one x y o e h = cc

-- each list of distinct items that are led one to one is led to distinct items
led_apart : {X Y : Type 0} (f : X → Y) → ((a b : X) → f a ≡ f b → a ≡ b) → (xs : List X) → AreDistinct xs → AreDistinct (map f xs)
led_apart f one xs d i j y a b =
    let (x, at, is) = place i a in
    let (z, there, led) = place j b in
    d i j x at (there ∙ ap Some (one z x (led ∙ sym is)))
  where
    place : (k : ℕ) → slice_get (map f xs) k ≡ Some y → (x : _) × (slice_get xs k ≡ Some x) × (f x ≡ y)
    place k e = some_led f (slice_get xs k) y (sym (slice_get-map f xs k) ∙ e)

-- ---- the number in one table of the term of a number in another

module _ (own terms : List Term) (held : (x : Term) → Contains own x → Contains terms x) (n : TermId) where
  by_term : (o : Option Term) → slice_get own n.0 ≡ o → TermId
  by_term None e = record { 0 = n.0 + length terms }
  by_term (Some x) e = record { 0 = (place_of terms x (held x (got_in own n.0 x e))).0 }

  by_term_is : (o : Option Term) (e : slice_get own n.0 ≡ o) → slice_get terms (by_term o e).0 ≡ o
  unfolding by_term
  by_term_is None e = slice_get_past terms (n.0 + length terms) (omega arith)
  by_term_is (Some x) e = (place_of terms x (held x (got_in own n.0 x e))).1

  past_is : (o : Option Term) (e : slice_get own n.0 ≡ o) → o ≡ None → (by_term o e).0 ≡ n.0 + length terms
  unfolding by_term
  past_is None e h = refl
  past_is (Some x) e h = absurd (cc)

  pub number_of : TermId
  number_of = by_term (slice_get own n.0) refl

  pub number_is : slice_get terms number_of.0 ≡ slice_get own n.0
  unfolding number_of
  number_is = by_term_is (slice_get own n.0) refl

  pub number_past : slice_get own n.0 ≡ None → number_of.0 ≡ n.0 + length terms
  unfolding number_of
  number_past h = past_is (slice_get own n.0) refl h

module _ (texts : TextsAreDistinct) (widths : WidthIsOne) (decided : NodesAreDecided) (s : Schema) (first : List Term) (whole part : Data)
    (is_whole : IsGraph whole) (is_part : IsGraph part) (numbers : AreNumberedBy s first whole part) where
  abbrev number : TermId → TermId
  number n = number_of part.terms whole.terms numbers.held n

  abbrev same_term : (n : TermId) → slice_get whole.terms (number n).0 ≡ slice_get part.terms n.0
  same_term n = number_is part.terms whole.terms numbers.held n

  apart : (a b : TermId) → number a ≡ number b → a ≡ b
  apart a b e = by (slice_get part.terms a.0) refl (sym (same_term b) ∙ sym (ap (λ (z : TermId). slice_get whole.terms z.0) e) ∙ same_term a)
    where
      by : (o : Option Term) → slice_get part.terms a.0 ≡ o → slice_get part.terms b.0 ≡ slice_get part.terms a.0 → a ≡ b
      by None at same =
          let x = number_past part.terms whole.terms numbers.held a at in
          let y = number_past part.terms whole.terms numbers.held b (same ∙ at) in
          let z : (number a).0 ≡ (number b).0 = ap (λ (n : TermId). n.0) e in
          let u : a.0 ≡ b.0 = omega (arith, x, y, z) in
          (λ i. record { 0 = u i })
      by (Some x) at same = (λ i. record { 0 = is_part.once a.0 b.0 x at (same ∙ at) i })

  keeps : (p : TermId) → IsPredicateOf s p → number p ≡ p
  keeps p of =
      let lt = numbers.predicates p of in
      let (more, is) = numbers.whole_begins in
      let (rest, begun) = numbers.part_begins in
      let there : slice_get first p.0 ≡ slice_get whole.terms p.0 = front_same first more p.0 lt ∙ ap (λ zs. slice_get zs p.0) (sym is) in
      let own : slice_get first p.0 ≡ slice_get part.terms p.0 = front_same first rest p.0 lt ∙ ap (λ zs. slice_get zs p.0) (sym begun) in
      elim (slice_get_cases first p.0).1 [
        | inl (x, below, at, got) ↦ (λ i. record { 0 = is_whole.once (number p).0 p.0 x (same_term p ∙ sym own ∙ at) (sym there ∙ at) i })
        | inr (past, missing) ↦ absurd (omega (arith, lt, past))
      ]

  pub moves : IsRenumbering s part.terms whole.terms number
  moves = record { apart = apart; term = same_term; predicates = keeps }

  abbrev there : List Triple
  there = map (renumbered number) part.triples

  pub there_apart : AreDistinct there
  there_apart = led_apart (renumbered number) (triple_apart s part.terms whole.terms number moves) part.triples is_part.apart

  -- a triple of numbers that are there says something
  says_what : (d : Data) (t : Triple) → IsOfTable d.terms t → (x : TermTriple) × IsNumbered d.terms x t
  says_what d t of =
      let (a, ea) = term_at t.s.0 of.subject in
      let (b, eb) = term_at t.p.0 of.predicate in
      let (c, ec) = term_at t.o.0 of.object in
      (record { subject = a; predicate = b; object = c }, record { subject = ea; predicate = eb; object = ec })
    where
      term_at : (k : ℕ) → k < length d.terms → (x : Term) × (slice_get d.terms k ≡ Some x)
      term_at k lt = elim (slice_get_cases d.terms k).1 [
        | inl (x, below, at, got) ↦ (x, at)
        | inr (past, missing) ↦ absurd (omega (arith, lt, past))
      ]

  -- that of the part says the same by the numbers of the whole
  says_there : (x : TermTriple) (t : Triple) → IsNumbered part.terms x t → IsNumbered whole.terms x (renumbered number t)
  says_there x t n = record { subject = same_term t.s ∙ n.subject; predicate = same_term t.p ∙ n.predicate; object = same_term t.o ∙ n.object }

  -- and two that say the same are one
  says_one : (x : TermTriple) (t u : Triple) → IsNumbered whole.terms x t → IsNumbered whole.terms x u → t ≡ u
  says_one x t u a b = λ i. record {
    s = record { 0 = is_whole.once t.s.0 u.s.0 x.subject a.subject b.subject i };
    p = record { 0 = is_whole.once t.p.0 u.p.0 x.predicate a.predicate b.predicate i };
    o = record { 0 = is_whole.once t.o.0 u.o.0 x.object a.object b.object i };
  }

  -- ---- the part by the whole's numbers is a part at the nodes of the pairs

  module _ (nodes : List Term) (is : HasWhatIsRead s whole part nodes) (roots : List Root) (within : ReachWithin s part nodes roots) (pairs : List Pair)
      (asked : AreAsked s part.terms part.triples roots pairs) where
    abbrev moved : List Pair
    moved = map (pair_renumbered number) pairs

    abbrev at : List TermId
    at = map (λ (q : Pair). q.node) moved

    node_at : (q : Pair) → Contains moved q → Contains at q.node
    node_at q c = in_map (λ (z : Pair). z.node) moved q c

    -- the term of such a node is of the nodes
    node_is : (n : TermId) (x : Term) → Contains at n → slice_get whole.terms n.0 ≡ Some x → Contains nodes x
    node_is n x c e =
        let (u, in_moved, is_node) = from_map (λ (z : Pair). z.node) moved n c in
        let (q, held, led) = from_map (pair_renumbered number) pairs u in_moved in
        let (y, of_nodes, named) = within q ((asked.exactly q).0 held) in
        let same : number q.node ≡ n = ap (λ (z : Pair). z.node) led ∙ is_node in
        subst (λ z. Contains nodes z) (some_one y x (slice_get whole.terms n.0) (sym (ap (λ (z : TermId). slice_get whole.terms z.0) same) ∙ same_term q.node ∙ named) e) of_nodes

    back : (x : TermTriple) (t : Triple) → IsNumbered whole.terms x t → Says part x → Contains there t
    back x t named (u, held, says) =
        subst (λ z. Contains there z) (says_one x (renumbered number u) t (says_there x u says) named) (in_map (renumbered number) part.triples u held)

    is_part_at : IsPartAt s whole.triples there at
    is_part_at = record {
      inside = λ t c. (let (u, held, led) = from_map (renumbered number) part.triples t c in
          let (x, says) = says_what part u (All-contains (IsOfTable part.terms) part.triples u is_part.ends held) in
          let (v, in_whole, named) = is.inside x (u, held, says) in
          subst (λ z. Contains whole.triples z) (says_one x v (renumbered number u) named (says_there x u says) ∙ led) in_whole);
      outward = λ t held c. (let (x, named) = says_what whole t (All-contains (IsOfTable whole.terms) whole.triples t is_whole.ends held) in
          back x t named (is.outward x (t, held, named) (node_is t.s x.subject c named.subject)));
      inward = λ t held c read. (let (x, named) = says_what whole t (All-contains (IsOfTable whole.terms) whole.triples t is_whole.ends held) in
          back x t named (is.inward x (t, held, named) (node_is t.o x.object c named.object) (t.p, read, named.predicate)));
    }

    closed_there : HoldNeeds s there moved
    closed_there p r c need =
        let (q, held, led) = from_map (pair_renumbered number) pairs p c in
        let (z, needed, is_r) = needs_back s part.terms whole.terms number moves is_part.once is_part.terms texts part.triples is_part.ends q r (subst (λ u. Needs s there u r) (sym led) need) in
        subst (λ u. Contains moved u) is_r (in_map (pair_renumbered number) pairs z (asked_closed s part.terms part.triples roots pairs asked q z held needed))

    pub closed_whole : (f : List ℕ) (budget : ℕ) → HoldNeeds s whole.triples moved
    closed_whole f budget = closed_over s whole.terms whole.triples there at f budget is_whole.apart there_apart is_part_at moved node_at closed_there

    pub refined_whole : (f : List ℕ) (budget : ℕ) (known : Known) → IsRefined s part.terms part.triples f pairs budget known →
        IsRefined s whole.terms whole.triples f moved budget (known_renumbered number known)
    refined_whole f budget known refined =
        refined_back s whole.terms whole.triples there at f budget is_whole.apart there_apart is_part_at moved node_at (known_renumbered number known)
        (numbers_do_not_matter texts widths decided s part.terms whole.terms number part.triples f pairs budget known moves is_part.once is_part.terms is_part.ends refined)

  pub root_is : (r w : Root) → AreSameRoot part whole r w → number r.node ≡ w.node
  root_is r w same = λ i. record { 0 = is_whole.once (number r.node).0 w.node.0 same.term (same_term r.node ∙ same.first) same.second i }

-- ---- answers

module _ (texts : TextsAreDistinct) (widths : WidthIsOne) (decided : NodesAreDecided) (s : Schema) (first : List Term) (whole part : Data) (nodes : List Term)
    (roots : List Root) (f : List ℕ) (budget : ℕ)
    (known : Known) (is_whole : IsGraph whole) (is_part : IsGraph part) (numbers : AreNumberedBy s first whole part) (is : HasWhatIsRead s whole part nodes) (within : ReachWithin s part nodes roots)
    (own : IsKnownOf s f budget part roots known) where
  abbrev to : TermId → TermId
  to n = number_of part.terms whole.terms numbers.held n

  abbrev known_to : Known
  known_to = known_renumbered to known

  abbrev root_to : Root → Root
  root_to r = record { node = to r.node; expr = r.expr }

  abbrev pairs_to : List Pair
  pairs_to = map (pair_renumbered to) own.pairs

  refined_to : IsRefined s whole.terms whole.triples f pairs_to budget known_to
  refined_to = refined_whole texts widths decided s first whole part is_whole is_part numbers nodes is roots within own.pairs own.asked f budget known own.refined

  -- a root reaches each Shape that stands in its expression
  start : (r : Root) → Contains roots r → (i : ShapeId) (sign : Bool) → StandsIn s i r.expr sign → Contains own.pairs (pair_of r.node i)
  start r held i sign st = (own.asked.exactly (pair_of r.node i)).1 (r, held, (i, sign, st, here))

  sure_by_number : (r : Root) (v : Verdict) → IsSure s part.terms known r.node r.expr v ↔ IsSure s whole.terms known_to (to r.node) r.expr v
  sure_by_number r v = sure_to s part.terms whole.terms to (moves texts widths decided s first whole part is_whole is_part numbers) known r.node (suc r.expr.0) r.expr v

  root_same : (r w : Root) → AreSameRoot part whole r w → root_to r ≡ w
  root_same r w same = λ i. record { node = root_is texts widths decided s first whole part is_whole is_part numbers r w same i; expr = same.expr i }

  pub alike : RefinementIsLocal → OneVerdict → SomeVerdict → (all : List Root) (known_all : Known) → IsKnownOf s f budget whole all known_all → (r : Root) →
      Contains roots r → Contains all (root_to r) →
      (v : Verdict) → IsSure s whole.terms known_all (to r.node) r.expr v ↔ IsSure s part.terms known r.node r.expr v
  alike local one some all known_all other r held asked v = (
    (λ h. (sure_by_number r v).1 (sure_there one some s whole.terms known_all known_to (to r.node) r.expr (λ i sign st u. ((says i sign st u).1, (says i sign st u).0)) v h)),
    (λ h. sure_there one some s whole.terms known_to known_all (to r.node) r.expr says v ((sure_by_number r v).0 h)),
  )
    where
      says : (i : ShapeId) (sign : Bool) → StandsIn s i r.expr sign → (u : Verdict) → PairIs known_to (pair_of (to r.node) i) u ↔ PairIs known_all (pair_of (to r.node) i) u
      says i sign st u =
          local s whole.terms whole.triples f budget pairs_to other.pairs known_to known_all
          (closed_whole texts widths decided s first whole part is_whole is_part numbers nodes is roots within own.pairs own.asked f budget)
          (asked_closed s whole.terms whole.triples all other.pairs other.asked) refined_to other.refined (pair_of (to r.node) i)
          (in_map (pair_renumbered to) own.pairs (pair_of r.node i) (start r held i sign st)) ((other.asked.exactly (pair_of (to r.node) i)).1 (root_to r, asked, (i, sign, st, here))) u

  module _ (U : List TermId) (T : List Pair) (loaded : IsLoaded s) (typing : IsTheTyping s whole.terms whole.triples f U T) (ends : HoldsEnds U whole.triples)
      (rooted : (r w : Root) → Contains roots r → AreSameRoot part whole r w → Contains U w.node) where
    end_in : (t : Triple) → Contains part.triples t → (inverse : Bool) → Contains U (to (other_end inverse t))
    end_in t c inverse = by inverse (ends (renumbered to t) ((is_part_at texts widths decided s first whole part is_whole is_part numbers nodes is roots within own.pairs own.asked).inside
        (renumbered to t) (in_map (renumbered to) part.triples t c)))
      where
        by : (inverse : Bool) → Contains U (to t.s) × Contains U (to t.o) → Contains U (to (other_end inverse t))
        by true h = h.0
        by false h = h.1

    led_in : (p q : Pair) → Leads s part.triples p q → Contains U (to p.node) → Contains U (to q.node)
    led_in p q here c = c
    led_in p q (step u need rest) c = led_in u q rest (subst (λ n. Contains U (to n)) (sym need.end) (end_in need.triple need.held need.occ.inverse))

    pair_in : (p : Pair) → Contains pairs_to p → Contains U p.node
    pair_in p c =
        let (q, held, led) = from_map (pair_renumbered to) own.pairs p c in
        let (r, in_roots, (i, sign, st, leads)) = (own.asked.exactly q).0 held in
        let (x, of_nodes, named) = within (pair_of r.node i) ((own.asked.exactly (pair_of r.node i)).0 (start r in_roots i sign st)) in
        let begun : Contains U (to r.node) =
        rooted r (root_to r) in_roots (record { term = x; first = named; second = number_is part.terms whole.terms numbers.held r.node ∙ named; expr = refl }) in
        subst (λ n. Contains U n) (ap (λ (z : Pair). z.node) led) (led_in (pair_of r.node i) q leads begun)

    pub agrees : RefinementIsTrue → Agrees T known_to
    agrees truth = truth s whole.terms whole.triples f U T loaded typing pairs_to budget pair_in known_to refined_to

pub parts_answer_alike : TextsAreDistinct → WidthIsOne → NodesAreDecided → RefinementIsLocal → OneVerdict → SomeVerdict → PartsAnswerAlike
parts_answer_alike texts widths decided local one some s first whole part nodes roots all f budget known known_all loaded is_whole is_part numbers is within own other r w held asked same v =
    let e = root_same texts widths decided s first whole part nodes roots f budget known is_whole is_part numbers is within own r w same in
    subst (λ (z : Root). IsSure s whole.terms known_all z.node z.expr v ↔ IsSure s part.terms known r.node r.expr v) e
    (alike texts widths decided s first whole part nodes roots f budget known is_whole is_part numbers is within own local one some all known_all other r held (subst (λ z. Contains all z) (sym e) asked) v)

pub parts_answer_truly : TextsAreDistinct → WidthIsOne → NodesAreDecided → RefinementIsTrue → SureIsTrue → PartsAnswerTruly
parts_answer_truly texts widths decided truth sure s first whole part nodes roots f budget known U T loaded is_whole is_part numbers is within own typing ends rooted r w held same =
    let e = root_same texts widths decided s first whole part nodes roots f budget known is_whole is_part numbers is within own r w same in
    let by_number = sure_by_number texts widths decided s first whole part nodes roots f budget known is_whole is_part numbers is within own r in
    let says = sure s whole.terms (known_renumbered (λ n. number_of part.terms whole.terms numbers.held n) known) T (number_of part.terms whole.terms numbers.held r.node) r.expr
    (agrees texts widths decided s first whole part nodes roots f budget known is_whole is_part numbers is within own U T loaded typing ends rooted truth) in
    subst (λ (z : Root). (IsSure s part.terms known r.node r.expr Yes → Sat s whole.terms T z.node z.expr) × (IsSure s part.terms known r.node r.expr No → ¬ Sat s whole.terms T z.node z.expr)) e
    ((λ h. says.0 ((by_number Yes).0 h)), (λ h. says.1 ((by_number No).0 h)))
