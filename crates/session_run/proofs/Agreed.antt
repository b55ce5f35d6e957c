-- Two runs of the same commands, from graphs that are one set, end alike: both are refused, or both answer, and Unknown in both or in
-- neither.
use Rattle.std.proofs.Common.{◌≡◌, ◌∙◌, ap, sym, subst, refl, List, ℕ, [], ◌∷◌, ◌++◌, inl, inr, ◌⊎◌, ◌≤◌, length, false, ◌||◌}
use Rattle.std.proofs.lemmas.List.Folds.{list_any-append}
use Rattle.std.proofs.lemmas.List.Sorted.{length_permutation}
use Rattle.std.specs.Prelude.{◌↔◌, Contains, Some, slice_get, ⊤}
use Rattle.graph_index.specs.Loading.{IsNumbered, terms_of}
use Rattle.graph_index.specs.declared.loading.TermTriple.{TermTriple}
use Rattle.graph_index.proofs.Loaded.{numbered_one}
use Rattle.lists.specs.Additions.{Adds, AddsAll, more as adds_more, none as adds_none}
use Rattle.lists.specs.Distinct.{AreDistinct}
use Rattle.lists.proofs.Additions.{adds_distinct, adds_one, all_distinct, all_one}
use Rattle.rdf_terms.specs.Tables.{max_terms}
use Rattle.rdf_terms.specs.declared.terms.Term.{Term}
use Rattle.rdf_terms.specs.declared.terms.TermId.{TermId}
use Rattle.rdf_terms.specs.declared.terms.Triple.{Triple}
use Rattle.schema_tree.specs.Loaded.{IsLoaded, IsTarget}
use Rattle.schema_tree.proofs.OneTarget.{target_once}
use Rattle.schema_tree.specs.declared.schema.ExprId.{ExprId}
use Rattle.schema_tree.specs.declared.schema.Schema.{Schema}
use Rattle.schema_tree.specs.declared.schema.Target.{Target}
use Rattle.session_script.specs.declared.commands.Command.{Command}
use Rattle.session_script.specs.declared.commands.Command.TheVariants.{Add, Ask, Remove}
use Rattle.typing_session.specs.SetLaws.{AnswersAreOfSets, ReachIsOfSets}
use Rattle.typing_session.specs.Questions.{IsAnswer, ReachesTooMany}
use Rattle.part_laws.proofs.Sets.{same_set}
use Rattle.session_run.specs.Replies.{Reply, any_unknown, is_unknown}
use Rattle.session_run.specs.Script.{CannotTake, Edits, HasNoRoom, IsFullFor, IsWithWithin, IsWithout, Outcome, Replies, Runs, State, Steps, Stops, answered, ended, goes, refused, stops}
use Rattle.session_run.specs.declared.error.CommandError.{CommandError}
use Rattle.session_run.specs.declared.error.CommandError.TheVariants as Errors

-- both are refused, or both answer, and Unknown in both or in neither
abbrev pub Agree : Outcome → Outcome → Type 0
Agree (answered xs) (answered ys) = any_unknown xs ≡ any_unknown ys
Agree (answered xs) (refused e) = ⊥
Agree (refused e) (answered ys) = ⊥
Agree (refused d) (refused e) = ⊤

-- ---- states

-- the tables are one, and the graphs hold the same triples
pub record AreSame (x y : State) : Type 0 where
  pub terms : x.terms ≡ y.terms
  pub once : AreDistinct x.terms
  pub first : AreDistinct x.graph
  pub second : AreDistinct y.graph
  pub members : (t : Triple) → Contains x.graph t ↔ Contains y.graph t

pub same_itself : (x : State) → AreDistinct x.terms → AreDistinct x.graph → AreSame x x
same_itself x once distinct = record { terms = refl; once = once; first = distinct; second = distinct; members = λ t. ((λ c. c), (λ c. c)) }

turned : (x y : State) → AreSame x y → AreSame y x
turned x y h = record { terms = sym h.terms; once = subst AreDistinct h.terms h.once; first = h.second; second = h.first; members = λ t. ((h.members t).1, (h.members t).0) }

same_long : (x y : State) → AreSame x y → length x.graph ≡ length y.graph
same_long x y h = sym (length_permutation x.graph y.graph (same_set x.graph y.graph h.first h.second h.members))

number_one : (terms : List Term) (t : Term) (n k : TermId) → AreDistinct terms → slice_get terms n.0 ≡ Some t → slice_get terms k.0 ≡ Some t → n ≡ k
number_one terms t n k d a b = let e : n.0 ≡ k.0 = d n.0 k.0 t a b in λ i. record { 0 = e i }

-- ---- edits

module _ (x y : State) (h : AreSame x y) (t : TermTriple) where
  module _ (a b : List Term) (takes : AddsAll x.terms (terms_of t) a) (also : AddsAll y.terms (terms_of t) b) where
    table_one : a ≡ b
    table_one = all_one y.terms a b (terms_of t) (subst (λ ts. AddsAll ts (terms_of t) a) h.terms takes) also

    table_once : AreDistinct a
    table_once = all_distinct x.terms a (terms_of t) h.once takes

    triple_one : (n k : Triple) → IsNumbered a t n → IsNumbered b t k → n ≡ k
    triple_one n k p q = numbered_one a t n k table_once p (subst (λ ts. IsNumbered ts t k) (sym table_one) q)

  -- a table that takes the terms up is within its limit, or not
  not_both : (new : List Term) → AddsAll x.terms (terms_of t) new → length new ≤ max_terms → CannotTake y.terms (terms_of t) → ⊥
  not_both new takes few cannot = cannot new (subst (λ ts. AddsAll ts (terms_of t) new) h.terms takes) few

  full_too : (n k : Triple) → n ≡ k → IsFullFor y.graph k → IsFullFor x.graph n
  full_too n k e full = ((λ c. full.0 (subst (λ z. Contains y.graph z) e ((h.members n).0 c))), same_long x y h ∙ full.1)

  -- where the triple is added, there is room
  pub added_not_refused : (z : State) → Edits IsWithWithin x t z → CannotTake y.terms (terms_of t) ⊎ HasNoRoom y t → ⊥
  added_not_refused z e (inl cannot) = not_both z.terms e.takes e.few cannot
  added_not_refused z e (inr r) = e.changes.1 (full_too e.number r.number (triple_one z.terms r.terms e.takes r.takes e.number r.number e.numbered r.numbered) r.is_full)

  pub removed_not_refused : (z : State) → Edits IsWithout x t z → CannotTake y.terms (terms_of t) → ⊥
  removed_not_refused z e cannot = not_both z.terms e.takes e.few cannot

  module _ (z w : State) where
    edited_terms : (C D : List Triple → Triple → List Triple → Type 0) → (e : Edits C x t z) (k : Edits D y t w) → z.terms ≡ w.terms
    edited_terms C D e k = table_one z.terms w.terms e.takes k.takes

    edited_number : (C D : List Triple → Triple → List Triple → Type 0) → (e : Edits C x t z) (k : Edits D y t w) → e.number ≡ k.number
    edited_number C D e k = triple_one z.terms w.terms e.takes k.takes e.number k.number e.numbered k.numbered

    pub added_same : Edits IsWithWithin x t z → Edits IsWithWithin y t w → AreSame z w
    added_same e k = record {
      terms = edited_terms IsWithWithin IsWithWithin e k;
      once = table_once z.terms w.terms e.takes k.takes;
      first = e.changes.0.distinct;
      second = k.changes.0.distinct;
      members = λ u. (
        (λ c. (k.changes.0.exactly u).1 (elim ((e.changes.0.exactly u).0 c) [ inl was ↦ inl ((h.members u).0 was) | inr is ↦ inr (is ∙ edited_number IsWithWithin IsWithWithin e k) ])),
        (λ c. (e.changes.0.exactly u).1 (elim ((k.changes.0.exactly u).0 c) [ inl was ↦ inl ((h.members u).1 was) | inr is ↦ inr (is ∙ sym (edited_number IsWithWithin IsWithWithin e k)) ])),
      );
    }

    pub removed_same : Edits IsWithout x t z → Edits IsWithout y t w → AreSame z w
    removed_same e k = record {
      terms = edited_terms IsWithout IsWithout e k;
      once = table_once z.terms w.terms e.takes k.takes;
      first = e.changes.distinct;
      second = k.changes.distinct;
      members = λ u. (
        (λ c. (let (was, other) = (e.changes.exactly u).0 c in (k.changes.exactly u).1 ((h.members u).0 was, (λ is. other (is ∙ sym (edited_number IsWithout IsWithout e k)))))),
        (λ c. (let (was, other) = (k.changes.exactly u).0 c in (e.changes.exactly u).1 ((h.members u).1 was, (λ is. other (is ∙ edited_number IsWithout IsWithout e k))))),
      );
    }

-- ---- questions

module _ (s : Schema) (f : List ℕ) (budget : ℕ) (loaded : IsLoaded s) (sets : AnswersAreOfSets) (reach : ReachIsOfSets) where
  module _ (x y : State) (h : AreSame x y) (node : Term) (target : Target) (z : State) (r : Reply) (e : Replies s f budget x node target z r) where
    table_one_more : (terms : List Term) → Adds y.terms node terms → z.terms ≡ terms
    table_one_more terms adds = adds_one y.terms z.terms terms node (subst (λ ts. Adds ts node z.terms) h.terms e.takes) adds

    table_once_more : AreDistinct z.terms
    table_once_more = adds_distinct x.terms z.terms node h.once e.takes

    node_one : (terms : List Term) → Adds y.terms node terms → (k : TermId) → slice_get terms k.0 ≡ Some node → e.number ≡ k
    node_one terms adds k at = number_one z.terms node e.number k table_once_more e.numbered (subst (λ ts. slice_get ts k.0 ≡ Some node) (sym (table_one_more terms adds)) at)

    expr_one : (d : ExprId) → IsTarget s target d → e.expr ≡ d
    expr_one d is = target_once s loaded.once target e.expr d e.declared is

    -- a question that is answered is not refused
    pub answered_not_refused : (c : CommandError) → Stops s f budget y (Ask node target) c → ⊥
    answered_not_refused (Errors.Label label) (none, is) = none (e.expr, e.declared)
    answered_not_refused Errors.NoStart (none, is) = none (e.expr, e.declared)
    answered_not_refused Errors.Full (has, cannot) = cannot z.terms (adds_more (subst (λ ts. Adds ts node z.terms) h.terms e.takes) adds_none) e.few
    answered_not_refused Errors.Pairs m =
        e.not_many (subst (λ g. ReachesTooMany s g e.number e.expr) (sym e.graph)
        (reach s y.graph x.graph (λ t. (h.members t).1) e.number e.expr
        (subst (λ n. ReachesTooMany s y.graph n e.expr) (sym (node_one m.terms m.takes m.number m.numbered))
        (subst (λ d. ReachesTooMany s y.graph m.number d) (sym (expr_one m.expr m.declared)) m.many))))
    answered_not_refused Errors.Memory none = none

    module _ (w : State) (q : Reply) (k : Replies s f budget y node target w q) where
      pub replied_same : AreSame z w
      replied_same = record {
        terms = table_one_more w.terms k.takes;
        once = table_once_more;
        first = subst AreDistinct (sym e.graph) h.first;
        second = subst AreDistinct (sym k.graph) h.second;
        members = λ t. (
          (λ c. subst (λ g. Contains g t) (sym k.graph) ((h.members t).0 (subst (λ g. Contains g t) e.graph c))),
          (λ c. subst (λ g. Contains g t) (sym e.graph) ((h.members t).1 (subst (λ g. Contains g t) k.graph c))),
        );
      }

      -- the answers are one
      pub one_verdict : q.verdict ≡ r.verdict
      one_verdict =
          let there : IsAnswer s w.terms z.graph f budget k.number k.expr q.verdict =
          sets s w.terms w.graph z.graph f budget k.number k.expr q.verdict replied_same.second replied_same.first (λ t. ((replied_same.members t).1, (replied_same.members t).0)) k.verdict.answer in
          let here : IsAnswer s z.terms z.graph f budget k.number k.expr q.verdict = subst (λ ts. IsAnswer s ts z.graph f budget k.number k.expr q.verdict) (sym replied_same.terms) there in
          let node_here = subst (λ n. IsAnswer s z.terms z.graph f budget n k.expr q.verdict) (sym (node_one w.terms k.takes k.number k.numbered)) here in
          e.verdict.no_other q.verdict (subst (λ d. IsAnswer s z.terms z.graph f budget e.number d q.verdict) (sym (expr_one k.expr k.declared)) node_here)

  -- ---- commands

  -- a command that leads on is not refused
  steps_not_stops : (x y : State) → AreSame x y → (c : Command) (z : State) (more : List Reply) → Steps s f budget x c z more → (e : CommandError) → Stops s f budget y c e → ⊥
  steps_not_stops x y h (Add t) z more (edits, none) Errors.Full r = added_not_refused x y h t z edits r
  steps_not_stops x y h (Add t) z more (edits, none) (Errors.Label label) r = r
  steps_not_stops x y h (Add t) z more (edits, none) Errors.NoStart r = r
  steps_not_stops x y h (Add t) z more (edits, none) Errors.Pairs r = r
  steps_not_stops x y h (Add t) z more (edits, none) Errors.Memory r = r
  steps_not_stops x y h (Remove t) z more (edits, none) Errors.Full r = removed_not_refused x y h t z edits r
  steps_not_stops x y h (Remove t) z more (edits, none) (Errors.Label label) r = r
  steps_not_stops x y h (Remove t) z more (edits, none) Errors.NoStart r = r
  steps_not_stops x y h (Remove t) z more (edits, none) Errors.Pairs r = r
  steps_not_stops x y h (Remove t) z more (edits, none) Errors.Memory r = r
  steps_not_stops x y h (Ask node target) z more (reply, replies, is) e r = answered_not_refused x y h node target z reply replies e r

  -- two steps lead to the same, and to Unknown in both or in neither
  abbrev StepSame : State → List Reply → State → List Reply → Type 0
  StepSame z more w others = AreSame z w × (any_unknown more ≡ any_unknown others)

  no_replies : (more others : List Reply) → more ≡ [] → others ≡ [] → any_unknown more ≡ any_unknown others
  no_replies more others a b = ap any_unknown a ∙ sym (ap any_unknown b)

  one_reply : (r q : Reply) (more others : List Reply) → more ≡ r ∷ [] → others ≡ q ∷ [] → q.verdict ≡ r.verdict → any_unknown more ≡ any_unknown others
  one_reply r q more others a b e = ap any_unknown a ∙ ap (λ v. is_unknown v || false) (sym e) ∙ sym (ap any_unknown b)

  steps_same : (x y : State) → AreSame x y → (c : Command) (z : State) (more : List Reply) → Steps s f budget x c z more → (w : State) (others : List Reply) →
      Steps s f budget y c w others → StepSame z more w others
  steps_same x y h (Add t) z more (e, a) w others (k, b) = (added_same x y h t z w e k, no_replies more others a b)
  steps_same x y h (Remove t) z more (e, a) w others (k, b) = (removed_same x y h t z w e k, no_replies more others a b)
  steps_same x y h (Ask node target) z more (r, e, a) w others (q, k, b) =
      (replied_same x y h node target z r e w q k, one_reply r q more others a b (one_verdict x y h node target z r e w q k))

  -- ---- runs

  abbrev Next : State → List Reply → Command → List Command → Outcome → Type 0
  Next x so c cs o =
      ((y : State) × (more : List Reply) × Steps s f budget x c y more × Runs s f budget y (so ++ more) cs o)
      ⊎ ((e : CommandError) × Stops s f budget x c e × (o ≡ refused e))

  at_end : (x : State) (so : List Reply) (o : Outcome) → Runs s f budget x so [] o → o ≡ answered so
  at_end x so o ended = refl

  at_first : (x : State) (so : List Reply) (c : Command) (cs : List Command) (o : Outcome) → Runs s f budget x so (c ∷ cs) o → Next x so c cs o
  at_first x so c cs o (goes y more st rest) = inl (y, more, st, rest)
  at_first x so c cs o (stops {e = e} st) = inr (e, st, refl)

  more_unknown : (so also more others : List Reply) → any_unknown so ≡ any_unknown also → any_unknown more ≡ any_unknown others → any_unknown (so ++ more) ≡ any_unknown (also ++ others)
  more_unknown so also more others a b =
      list_any-append (λ (r : Reply). is_unknown r.verdict) so more ∙ (λ i. a i || b i) ∙ sym (list_any-append (λ (r : Reply). is_unknown r.verdict) also others)

  agree_at : (a b o p : Outcome) → o ≡ a → p ≡ b → Agree a b → Agree o p
  agree_at a b o p e k h = subst (λ z. Agree z p) (sym e) (subst (λ z. Agree a z) (sym k) h)

  pub runs_agree : (x y : State) → AreSame x y → (so also : List Reply) → any_unknown so ≡ any_unknown also → (cs : List Command) (o p : Outcome) →
      Runs s f budget x so cs o → Runs s f budget y also cs p → Agree o p
  runs_agree x y h so also same [] o p a b = agree_at (answered so) (answered also) o p (at_end x so o a) (at_end y also p b) same
  runs_agree x y h so also same (c ∷ cs) o p a b = by (at_first x so c cs o a) (at_first y also c cs p b) (λ z w k more others e. runs_agree z w k (so ++ more) (also ++ others) e cs o p)
    where
      by : Next x so c cs o → Next y also c cs p →
          ((z w : State) → AreSame z w → (more others : List Reply) → any_unknown (so ++ more) ≡ any_unknown (also ++ others) →
          Runs s f budget z (so ++ more) cs o → Runs s f budget w (also ++ others) cs p → Agree o p) → Agree o p
      by (inl (z, more, st, rest)) (inl (w, others, step, behind)) deeper =
          let (k, e) = steps_same x y h c z more st w others step in
          deeper z w k more others (more_unknown so also more others same e) rest behind
      by (inl (z, more, st, rest)) (inr (e, stop, is)) deeper = absurd (steps_not_stops x y h c z more st e stop)
      by (inr (e, stop, is)) (inl (w, others, step, behind)) deeper = absurd (steps_not_stops y x (turned x y h) c w others step e stop)
      by (inr (e, stop, is)) (inr (d, stop_too, was)) deeper = agree_at (refused e) (refused d) o p is was tt
