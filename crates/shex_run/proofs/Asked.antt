-- What a map asks can be answered, and a proof of the answers is accepted and has no more than they ask for.
use Rattle.std.proofs.Common.{◌≡◌, ◌≤◌, ◌<◌, ◌∙◌, ap, sym, subst, refl, List, ℕ, [], ◌∷◌, inl, inr, ◌⊎◌, arith, length, map}
use Rattle.std.specs.Prelude.{All, Contains, Some, false, get_or, slice_get}
use Rattle.std.proofs.lemmas.List.Elements.{All-contains, All-contains_itself, All-weaker}
use Rattle.std.proofs.lemmas.Bool.{cases_lt, ne_eqb}
use Rattle.std.proofs.lemmas.Option.{slice_get-get_or, slice_get_within}
use Rattle.std.specs.Str.{IsUtf8}
use Rattle.shex_io.specs.Files.{Told}
use Rattle.lists.specs.Distinct.{AreDistinct}
use Rattle.rdf_terms.specs.Tables.{max_terms}
use Rattle.rdf_terms.specs.declared.terms.Term.{Term}
use Rattle.rdf_terms.specs.declared.terms.TermId.{TermId}
use Rattle.rdf_terms.specs.declared.terms.Triple.{Triple}
use Rattle.graph_index.specs.Laws.{IsOfTable}
use Rattle.graph_index.specs.declared.loading.TermTriple.{TermTriple}
use Rattle.graph_index.specs.Loading.{HaveOneLine, IsNumbered}
use Rattle.graph_index.proofs.Loaded.{loads_hold}
use Rattle.lists.proofs.Additions.{all_distinct, all_grow, kept_at}
use Rattle.data_reader.specs.Formats.{format_of}
use Rattle.schema_tree.specs.declared.schema.Answer.{Answer}
use Rattle.schema_tree.specs.declared.schema.Schema.{Schema}
use Rattle.lists.proofs.Members.{got_in, from_flat_map, in_map, from_map, in_rest, is_first, is_later, not_in_none}
use Rattle.proof_file.specs.declared.Proof.{Proof}
use Rattle.schema_tree.specs.Targets.{target_text}
use Rattle.proof_file.specs.Text.{ProofText}
use Rattle.proof_checker.specs.Current.{AreUsed, IsCurrent}
use Rattle.schema_tree.proofs.Strata.{stratum_stratified}
use Rattle.shape_map.specs.declared.items.Focus.{Focus}
use Rattle.shape_map.specs.declared.items.Focus.TheVariants.{Subject, Object}
use Rattle.shape_map.specs.declared.items.Item.{Item}
use Rattle.shape_map.specs.declared.items.Selector.{Selector}
use Rattle.shape_map.specs.declared.items.Selector.TheVariants.{Node, Triples}
use Rattle.shape_map.specs.declared.resolve.Association.{Association}
use Rattle.shape_map.specs.Selection.{at_focus, max_associations, written}
use Rattle.data_reader.specs.Documents.{DataHaveLines}
use Rattle.shape_map.specs.Maps.{MapHasLines}
use Rattle.input_names.specs.Laws.{BasesAreLines}
use Rattle.rdf_lex.specs.Prefixes.{AreOneLine}
use Rattle.rdf_terms.specs.Graphs.{same_id}
use Rattle.rdf_terms.specs.OneLine.{HasOneLine}
use Rattle.command_words.specs.Asked.{Command}
use Rattle.schema_files.specs.Sources.{documents_of}
use Rattle.shex_inputs.specs.Asked.{IsAskedOf, Question, node_names}
use Rattle.shape_map.specs.Answers.{IsAsked}
use Rattle.schema_tree.specs.Laws.{DecidedByFormIsDecided}
use Rattle.schema_tree.specs.Sure.{Known as Verdicts}
use Rattle.shex_inputs.specs.Held.{predicates_in}
use Rattle.shex_inputs.specs.Laws.{LabelsHaveLines}
use Rattle.typing_answers.specs.Proofs.{HasLines, IsProofOf as Proves}
use Rattle.typing_answers.specs.Replies.{AreGiven, AreReplies, AreSureAnswers, IsLeftOut, IsSureAnswer, IsTrueAnswer, IsUnsure, given, left, none}
use Rattle.demand.proofs.Led.{not_decided}
use Rattle.shex_run.specs.Proofs.{IsStoredProofOf}
use Rattle.shex_run.specs.Ready.{AreOnLines, IsOnLine, head_of}
use Rattle.shex_run.specs.Stopping.{IsFit}
use Rattle.shex_run.specs.Tasks.{inputs_of}
use Rattle.shex_run.proofs.Alone.{IsNoEnd, decided_alone}
use Rattle.shex_run.proofs.Risen.{taken_up}
use Rattle.shex_run.proofs.Selected.{From, Gives, IsNodeOf, Known, comes_from, known}
use Rattle.shex_run.proofs.Settled.{numbered_held}

-- what is so of each member is so of all
pub all_members : {X : Type 0} (P : X → Type 0) (xs : List X) → ((x : X) → Contains xs x → P x) → All P xs
all_members P xs to = All-weaker (Contains xs) P to xs (All-contains_itself xs)

-- ---- answers

-- each answer is that of an association
association_of : (L : Association → Type 0) (G : Association → Answer → Type 0) → ((a : Association) (x : Answer) → G a x → x.node ≡ a.node) →
    (asked : List Association) (xs : List Answer) → AreGiven L G asked xs → (x : Answer) → Contains xs x → (a : Association) × Contains asked a × (x.node ≡ a.node)
association_of L G on [] [] none x h = absurd (not_in_none x h)
association_of L G on [] (y ∷ xs) k x h = elim k [ ]
association_of L G on (b ∷ asked) xs (left u rest) x h = let (a, there, same) = association_of L G on asked xs rest x h in (a, is_later b asked a there, same)
association_of L G on (b ∷ asked) (y ∷ xs) (given first rest) x h = elim (in_rest y xs x h) [
  | inl e ↦ (b, is_first b asked, ap (λ (z : Answer). z.node) (sym e) ∙ on b y first)
  | inr later ↦ (let (a, there, same) = association_of L G on asked xs rest x later in (a, is_later b asked a there, same))
]

-- each association has an answer, or is left out
answer_of : (L : Association → Type 0) (G : Association → Answer → Type 0) → ((a : Association) (x : Answer) → G a x → x.node ≡ a.node) →
    (asked : List Association) (xs : List Answer) → AreGiven L G asked xs → (a : Association) → Contains asked a → L a ⊎ ((x : Answer) × Contains xs x × (x.node ≡ a.node))
answer_of L G on [] [] none a h = absurd (not_in_none a h)
answer_of L G on [] (y ∷ xs) k a h = elim k [ ]
answer_of L G on (b ∷ asked) xs (left u rest) a h = elim (in_rest b asked a h) [
  | inl e ↦ inl (subst L e u)
  | inr later ↦ answer_of L G on asked xs rest a later
]
answer_of L G on (b ∷ asked) (y ∷ xs) (given first rest) a h = elim (in_rest b asked a h) [
  | inl e ↦ inr (y, is_first y xs, on b y first ∙ ap (λ (z : Association). z.node) e)
  | inr later ↦ further (answer_of L G on asked xs rest a later)
]
  where
    further : L a ⊎ ((x : Answer) × Contains xs x × (x.node ≡ a.node)) → L a ⊎ ((x : Answer) × Contains (y ∷ xs) x × (x.node ≡ a.node))
    further (inl u) = inl u
    further (inr (x, there, same)) = inr (x, is_later y xs x there, same)

-- the nodes of the answers are of the table
pub answers_within : (s : Schema) (terms : List Term) (view : Verdicts) (asked : List Association) (xs : List Answer) → AreSureAnswers s terms view asked xs →
    All (IsAsked s terms) asked → (x : Answer) → Contains xs x → x.node.0 < length terms
answers_within s terms view asked xs are all x h =
    let (a, there, same) = association_of (IsUnsure s terms view) (IsSureAnswer s terms view) (λ b y sure. sure.node) asked xs are x h in
    let is : IsAsked s terms a = All-contains (IsAsked s terms) asked a all there in
    subst (λ n. n.0 < length terms) (sym same) is.node

-- ---- the question

one_term : (t u : Term) → Some t ≡ Some u → t ≡ u
one_term t u h = cc

empty_distinct : AreDistinct {X = Term} []
empty_distinct i j x h k = cc

module _ (told : Told) (c : Command) (q : Question) (is : IsAskedOf told (inputs_of c) q) where
  abbrev s : Schema
  s = q.held.schema

  abbrev g : List Triple
  g = q.held.graph

  facts : Known s g q.terms [] is.items q.associations
  facts = known s g q.terms is.items q.associations is.ends.ends

  from : (a : Association) → Contains q.associations a → From s g q.terms is.items a
  from a h = comes_from s g q.terms is.items q.associations facts a h

  pub few : length q.associations ≤ max_associations
  few = facts.few (omega arith)

  node_within : All (IsOfTable q.terms) g → (x : Selector) (n : TermId) → IsNodeOf s g q.terms x n → n.0 < length q.terms
  node_within all (Node t) n h = slice_get_within q.terms n.0 t h
  node_within all (Triples x) n (t, held, at) = subst (λ (z : TermId). z.0 < length q.terms) at (end x.focus)
    where
      of : IsOfTable q.terms t
      of = All-contains (IsOfTable q.terms) g t all held

      end : (f : Focus) → (at_focus f t).0 < length q.terms
      end Subject = of.subject
      end Object = of.object

  pub asked : All (IsOfTable q.terms) g → All (IsAsked s q.terms) q.associations
  asked all = all_members (IsAsked s q.terms) q.associations (λ a h. (let f = from a h in record { node = node_within all f.item.selector a.node f.node; is_target = f.declared }))

  module _ (fit : IsFit c) (one : IsUtf8 c.schema_base) (other : IsUtf8 c.data_base) (data_law : DataHaveLines) (map_law : MapHasLines) (base_law : BasesAreLines) (label_law : LabelsHaveLines) where
    data_lines : AreOneLine q.held.names.base q.held.names.prefixes × ((t : TermTriple) → Contains is.taken.triples t → HaveOneLine t)
    data_lines = data_law (format_of c.data_file) c.data_base is.taken.holds_data.bytes q.held.names is.taken.triples (base_law c.data_base other fit.data_file) is.taken.holds_data.spelled

    item_lines : (i : Item) → Contains is.items i → ((t : Term) → Contains (written i.selector) t → HasOneLine t) × (¬ Contains (target_text i.target) 10)
    item_lines = map_law (node_names q.held.names) q.held.labels is.holds_map.bytes is.items data_lines.0 (label_law told (inputs_of c) q.held (base_law c.schema_base one fit.schema) is.taken) is.holds_map.spelled

    -- the term of an end of a triple of the graph can stand on one line
    first_distinct : AreDistinct is.taken.holding.first
    first_distinct = all_distinct [] is.taken.holding.first (predicates_in (documents_of is.taken.sources)) empty_distinct is.taken.holding.is_schema.predicates

    record LineNode (n : TermId) : Type 0 where
      term : Term
      is_term : slice_get q.terms n.0 ≡ Some term
      line : HasOneLine term

    grown : (n : TermId) (t : Term) → slice_get q.held.terms n.0 ≡ Some t → HasOneLine t → LineNode n
    grown n t at line = record { term = t; is_term = kept_at q.held.terms q.terms n.0 t (all_grow q.held.terms q.terms is.ends.takes.nodes is.ends.takes.taken) at; line = line }

    end_line : (t : Triple) → Contains g t → (f : Focus) → LineNode (at_focus f t)
    end_line t held f = go f ((loads_hold is.taken.holding.first q.held.terms [] g is.taken.triples first_distinct is.taken.holding.graph t).0 held)
      where
        go : (f : Focus) → (Contains [] t ⊎ ((x : TermTriple) × Contains is.taken.triples x × IsNumbered q.held.terms x t)) → LineNode (at_focus f t)
        go f (inl h) = absurd (not_in_none t h)
        go Subject (inr (x, listed, made)) = grown t.s x.subject made.subject (data_lines.1 x listed).subject
        go Object (inr (x, listed, made)) = grown t.o x.object made.object (data_lines.1 x listed).object

    node_line : (i : Item) → Contains is.items i → (n : TermId) (x : Selector) → i.selector ≡ x → IsNodeOf s g q.terms x n → LineNode n
    node_line i listed n (Node t) e h = record { term = t; is_term = h; line = (item_lines i listed).0 t (subst (λ z. Contains (written z) t) (sym e) (is_first t [])) }
    node_line i listed n (Triples x) e (t, held, at) = subst (λ z. LineNode z) at (end_line t held x.focus)

    pub lines : All (HasLines q.terms) q.associations
    lines = all_members (HasLines q.terms) q.associations (λ a h. (
        let f = from a h in
        let l = node_line f.item f.listed a.node f.item.selector refl f.node in
        record {
          node = λ t at. subst (λ z. HasOneLine z) (one_term l.term t (sym l.is_term ∙ at)) l.line;
          target = subst (λ z. ¬ Contains (target_text z) 10) (sym f.target) (item_lines f.item f.listed).1;
        }
        ))

    pub ends : AreOnLines q.terms g
    ends t held = (on_line t.s (end_line t held Subject), on_line t.o (end_line t held Object))
      where
        on_line : (n : TermId) → LineNode n → IsOnLine q.terms n
        on_line n l u at = subst (λ z. HasOneLine z) (one_term l.term u (sym l.is_term ∙ at)) l.line

  -- ---- the proof of the answers

  module _ (of_held : All (IsOfTable q.held.terms) g) (budget : ℕ) (some : 1 ≤ budget) (law : DecidedByFormIsDecided) (verdicts : Verdicts)
      (answers : List Answer) (are : AreReplies s q.terms verdicts g budget q.associations answers) where
    -- a node beyond the terms that are held is at the end of no triple
    no_end : (n : TermId) → length q.held.terms ≤ n.0 → IsNoEnd g n
    no_end n beyond t held = (apart t.s of.subject, apart t.o of.object)
      where
        of : IsOfTable q.held.terms t
        of = All-contains (IsOfTable q.held.terms) g t of_held held

        apart : (m : TermId) → m.0 < length q.held.terms → same_id m n ≡ false
        apart m within = ne_eqb m.0 n.0 (λ e. absurd (omega (arith, e, within, beyond)))

    -- a node that is written has an answer, or is one of the terms that are held
    held_or_answered : (t : Term) → Gives s g q.terms q.associations t → Contains q.held.terms t ⊎ ((x : Answer) × Contains answers x × (slice_get q.terms x.node.0 ≡ Some t))
    held_or_answered t k = go (cases_lt k.association.node.0 (length q.held.terms))
        (answer_of (IsLeftOut s q.terms verdicts g budget) (IsTrueAnswer s q.terms verdicts g budget) (λ a x true_one. true_one.answer.node) q.associations answers are k.association k.listed)
      where
        n : TermId
        n = k.association.node

        go : (n.0 < length q.held.terms) ⊎ (length q.held.terms ≤ n.0) → IsLeftOut s q.terms verdicts g budget k.association ⊎
            ((x : Answer) × Contains answers x × (x.node ≡ n)) → Contains q.held.terms t ⊎ ((x : Answer) × Contains answers x × (slice_get q.terms x.node.0 ≡ Some t))
        go at (inr (x, there, same)) = inr (x, there, ap (λ (m : TermId). slice_get q.terms m.0) same ∙ k.node)
        go (inl within) (inl out) =
            let own : slice_get q.held.terms n.0 ≡ Some (get_or q.held.terms n.0 t) = slice_get-get_or q.held.terms n.0 t within in
            let kept : slice_get q.terms n.0 ≡ Some (get_or q.held.terms n.0 t) = kept_at q.held.terms q.terms n.0 (get_or q.held.terms n.0 t)
            (all_grow q.held.terms q.terms is.ends.takes.nodes is.ends.takes.taken) own in
            let one : get_or q.held.terms n.0 t ≡ t = one_term (get_or q.held.terms n.0 t) t (sym kept ∙ k.node) in
            inl (got_in q.held.terms n.0 t (own ∙ ap (λ z. Some z) one))
        go (inr beyond) (inl out) = absurd (not_decided s q.terms g budget n k.association.expr out.wide (decided_alone s g n (no_end n beyond) q.terms budget some law k.association.expr))

    module _ (p : Proof) (proof : Proves q.held.strata s q.terms g q.pairs budget answers p) where
      -- the nodes that are written in the map have lines, or are held
      among : (t : Term) → Contains is.ends.takes.nodes t → Contains p.nodes t ⊎ Contains q.held.terms t
      among t h =
          let (i, listed, own) = from_flat_map (λ (z : Item). written z.selector) is.items t ((is.ends.takes.ordered.same t).0 h) in
          elim (held_or_answered t (facts.gives i listed t own)) [
            | inl held ↦ inr held
            | inr (x, answered, at) ↦ inl (lined x answered at)
          ]
        where
          lined : (x : Answer) → Contains answers x → slice_get q.terms x.node.0 ≡ Some t → Contains p.nodes t
          lined x answered at =
              let held : Contains proof.nodes x.node = (proof.lean x.node).1 (inr (x, answered, refl)) in
              let there : Contains (map (λ (z : TermId). slice_get q.terms z.0) proof.nodes) (Some t) =
              subst (λ z. Contains (map (λ (z : TermId). slice_get q.terms z.0) proof.nodes) z) at (in_map (λ (z : TermId). slice_get q.terms z.0) proof.nodes x.node held) in
              let (u, listed, e) = from_map (λ z. Some z) p.nodes (Some t) (subst (λ zs. Contains zs (Some t)) proof.numbers there) in
              subst (λ z. Contains p.nodes z) (one_term u t e) listed

      pub proved : (bytes : List ℕ) → ProofText p bytes → p.head ≡ Some (head_of q.held) → length q.terms ≤ max_terms → IsStoredProofOf q budget answers bytes
      proved bytes text headed few_terms = record {
        accepted = record {
          found = record {
            strata = q.held.strata;
            found = record {
              proof = p;
              nodes = proof.nodes;
              read = record {
                text = text;
                table = taken_up q.held.terms is.ends.takes.nodes q.terms p.nodes is.ends.takes.taken is.ends.takes.ordered.rising proof.keeps.nodes among (λ t h. numbered_held q.terms p.nodes proof.nodes proof.numbers t h);
                numbers = proof.numbers;
              };
              accepted = proof.accepted;
              claims = proof.claims;
            };
            current = subst (IsCurrent s q.held.files) (sym headed) (refl, stratum_stratified s q.held.strata is.taken.holding.is_schema.strata);
            used = subst (λ o. AreUsed s o q.held.strata) (sym headed) refl;
          };
          few = few_terms;
        };
        head = head_of q.held;
        is_head = headed;
        files = refl;
        least = is.taken.holding.is_schema.strata;
        recorded = proof.recorded;
        lean = proof.lean;
      }
