-- What a script's commands come to, one after the other.
use Rattle.std.proofs.Common.{◌≡◌, ◌∙◌, ap, sym, subst, refl, List, ℕ, [], ◌∷◌, ◌++◌, inl, inr, ◌≤◌, arith, length, Bool, true, false, ◌||◌}
use Rattle.std.proofs.lemmas.Grind.{flat_map-append}
use Rattle.std.proofs.lemmas.List.{append-nil}
use Rattle.std.proofs.lemmas.List.Folds.{list_any-append}
use Rattle.std.specs.Prelude.{Contains, IsNone, None, Option, Some, slice_get}
use Rattle.graph_index.specs.Loading.{IsNumbered, terms_of}
use Rattle.graph_index.specs.declared.graph.AddError.{AddError}
use Rattle.graph_index.specs.declared.graph.AddError.TheVariants as AddErrors
use Rattle.graph_index.specs.declared.loading.TermTriple.{TermTriple}
use Rattle.lists.specs.Additions.{Adds, AddsAll}
use Rattle.lists.specs.Distinct.{AreDistinct}
use Rattle.lists.proofs.Additions.{all_behind, all_grow, all_split, first_fills, no_longer}
use Rattle.rdf_terms.specs.Order.{text_at, text_if_any}
use Rattle.rdf_terms.specs.Tables.{max_terms}
use Rattle.rdf_terms.specs.Written.{term_text}
use Rattle.rdf_terms.specs.declared.table.PutError.{PutError}
use Rattle.rdf_terms.specs.declared.table.PutError.TheVariants as PutErrors
use Rattle.rdf_terms.specs.declared.terms.Term.{Term}
use Rattle.rdf_terms.specs.declared.terms.TermId.{TermId}
use Rattle.rdf_terms.specs.declared.terms.Triple.{Triple}
use Rattle.schema_tree.specs.Loaded.{HasTarget, IsTarget}
use Rattle.schema_tree.specs.Edges.{IsStratum}
use Rattle.schema_tree.specs.Loaded.{IsLoaded}
use Rattle.schema_tree.specs.declared.schema.ExprId.{ExprId}
use Rattle.schema_tree.specs.declared.schema.Schema.{Schema}
use Rattle.schema_tree.specs.declared.schema.Target.{Target}
use Rattle.schema_tree.specs.declared.schema.Target.TheVariants as Targets
use Rattle.schema_tree.specs.declared.verdicts.Verdict.{Verdict}
use Rattle.session_script.specs.declared.commands.Command.{Command}
use Rattle.session_script.specs.declared.commands.Command.TheVariants.{Add, Ask, Remove}
use Rattle.typing_session.specs.Questions.{ReachesTooMany}
use Rattle.typing_session.specs.Seen.{Seen, with_kept, with_terms}
use Rattle.typing_session.specs.declared.error.AskError.{AskError}
use Rattle.typing_session.specs.declared.error.AskError.TheVariants as AskErrors
use Rattle.session_run.specs.Replies.{Reply, any_unknown, is_unknown, line_of, notes_of, reply_line, text_of}
use Rattle.session_run.specs.Running.{FillsTable, IsDone, IsRunning, Keeps, Says, SaysMore, StopsOr, add_error, ask_error, put_error, state_of}
use Rattle.session_run.specs.Script.{AreNotes, CannotTake, IsVerdictAt, IsFullFor, Replies, Runs, State, Steps, Stops, answered, ended, goes, refusal_of, refused, stops}
use Rattle.session_run.specs.declared.error.CommandError.{CommandError}
use Rattle.session_run.specs.declared.error.CommandError.TheVariants as Errors
use Rattle.session_run.specs.declared.said.Said.{Said}
use Rattle.session_run.proofs.Edited.{graph_same, keeps_on, kept_keeps, terms_keep}

or_false : (b : Bool) → (b || false) ≡ b
or_false true = refl
or_false false = refl

-- ---- the table

cannot_more : (old xs ys : List Term) → CannotTake old xs → CannotTake old (xs ++ ys)
cannot_more old xs ys cannot new all few =
    let (mid, before, behind) = all_split old new xs ys all in
    let shorter = no_longer mid new (all_grow mid new ys behind) in
    cannot mid before (omega (arith, shorter, few))

-- a term finds no room
pub put_fills : (old : List Term) (t : Term) (p : PutError) (e : CommandError) → (p ≡ PutErrors.Full → (¬ Contains old t) × (length old ≡ max_terms)) →
    e ≡ put_error p → StopsOr (FillsTable old (t ∷ [])) e
put_fills old t PutErrors.Full e full is apart = (is, (λ new all. first_fills max_terms old new [] t (full refl) all))
put_fills old t PutErrors.Memory e full is apart = absurd (apart is)

-- so do the first, the second and the third of a triple
module _ (old mid last : List Term) (t : TermTriple) (e : CommandError) where
  pub first_stops : StopsOr (FillsTable old (t.subject ∷ [])) e → StopsOr (FillsTable old (terms_of t)) e
  first_stops h apart = let (is, cannot) = h apart in (is, cannot_more old (t.subject ∷ []) (t.predicate ∷ t.object ∷ []) cannot)

  pub second_stops : Adds old t.subject mid → StopsOr (FillsTable mid (t.predicate ∷ [])) e → StopsOr (FillsTable old (terms_of t)) e
  second_stops a h apart =
      let (is, cannot) = h apart in
      (is, (λ new all few. cannot_more mid (t.predicate ∷ []) (t.object ∷ []) cannot new (all_behind old mid new (t.predicate ∷ t.object ∷ []) t.subject a all) few))

  pub third_stops : Adds old t.subject mid → Adds mid t.predicate last → StopsOr (FillsTable last (t.object ∷ [])) e → StopsOr (FillsTable old (terms_of t)) e
  third_stops a b h apart =
      let (is, cannot) = h apart in
      (is, (λ new all few. cannot new (all_behind mid last new (t.object ∷ []) t.predicate b (all_behind old mid new (t.predicate ∷ t.object ∷ []) t.subject a all)) few))

pub terms_alone : (a b c : Seen) → b ≡ with_terms b.terms a → c ≡ with_terms c.terms b → c ≡ with_terms c.terms a
terms_alone a b c h k = k ∙ ap (λ (x : Seen). with_terms c.terms x) h

-- ---- what stays the same

pub carried : (P : Schema → List ℕ → ℕ → Type 0) (first x : Seen) → Keeps first x → P x.schema x.strata x.budget → P first.schema first.strata first.budget
carried P first x k p = subst (λ s. P s first.strata first.budget) k.schema (subst (λ f. P x.schema f first.budget) k.strata (subst (λ b. P x.schema x.strata b) k.budget p))

-- the schema stays loaded, by the same strata
pub stays_loaded : (first x : Seen) → Keeps first x → IsLoaded first.schema → IsLoaded x.schema
stays_loaded first x k loaded = subst IsLoaded (sym k.schema) loaded

pub stays_stratified : (first x : Seen) → Keeps first x → IsStratum first.schema first.strata → IsStratum x.schema x.strata
stays_stratified first x k strata = subst (λ s. IsStratum s x.strata) (sym k.schema) (subst (λ f. IsStratum first.schema f) (sym k.strata) strata)

-- ---- stops

module _ (s : Schema) (f : List ℕ) (budget : ℕ) (x : State) where
  pub added_fills : (t : TermTriple) (e : CommandError) → StopsOr (FillsTable x.terms (terms_of t)) e → StopsOr (Stops s f budget x (Add t)) e
  added_fills t e h apart = let (is, cannot) = h apart in subst (λ c. Stops s f budget x (Add t) c) (sym is) (inl cannot)

  pub removed_fills : (t : TermTriple) (e : CommandError) → StopsOr (FillsTable x.terms (terms_of t)) e → StopsOr (Stops s f budget x (Remove t)) e
  removed_fills t e h apart = let (is, cannot) = h apart in subst (λ c. Stops s f budget x (Remove t) c) (sym is) cannot

  pub asked_fills : (node : Term) (target : Target) (expr : ExprId) (e : CommandError) → IsTarget s target expr → StopsOr (FillsTable x.terms (node ∷ [])) e →
      StopsOr (Stops s f budget x (Ask node target)) e
  asked_fills node target expr e is_target h apart = let (is, cannot) = h apart in subst (λ c. Stops s f budget x (Ask node target) c) (sym is) ((expr, is_target), cannot)

  -- the graph has no room
  pub no_room : (t : TermTriple) (terms : List Term) (n : Triple) (a : AddError) (e : CommandError) → AddsAll x.terms (terms_of t) terms →
      IsNumbered terms t n → (a ≡ AddErrors.Full → IsFullFor x.graph n) → e ≡ add_error a → StopsOr (Stops s f budget x (Add t)) e
  no_room t terms n AddErrors.Full e takes numbered full is apart =
      subst (λ c. Stops s f budget x (Add t) c) (sym is) (inr (record { terms = terms; takes = takes; number = n; numbered = numbered; is_full = full refl }))
  no_room t terms n AddErrors.Memory e takes numbered full is apart = absurd (apart is)

  -- the target is not declared
  pub undeclared : (node : Term) (target : Target) (e : CommandError) → ¬ HasTarget s target → StopsOr (λ c. c ≡ refusal_of target) e → StopsOr (Stops s f budget x (Ask node target)) e
  undeclared node Targets.Start e none h apart = let is = h apart in subst (λ c. Stops s f budget x (Ask node Targets.Start) c) (sym is) (none, refl)
  undeclared node (Targets.Label label) e none h apart = let is = h apart in subst (λ c. Stops s f budget x (Ask node (Targets.Label label)) c) (sym is) (none, refl)

  -- too many pairs are asked for
  pub too_many : (node : Term) (target : Target) (expr : ExprId) (terms : List Term) (n : TermId) (a : AskError) (e : CommandError) → IsTarget s target expr →
      Adds x.terms node terms → length terms ≤ max_terms → slice_get terms n.0 ≡ Some node →
      (a ≡ AskErrors.Pairs → ReachesTooMany s x.graph n expr) → e ≡ ask_error a → StopsOr (Stops s f budget x (Ask node target)) e
  too_many node target expr terms n AskErrors.Pairs e declared takes few numbered many is apart =
      subst (λ c. Stops s f budget x (Ask node target) c) (sym is)
      (record { expr = expr; declared = declared; terms = terms; takes = takes; few = few; number = n; numbered = numbered; many = many refl })
  too_many node target expr terms n AskErrors.Memory e declared takes few numbered many is apart = absurd (apart is)

  pub for_memory : (c : Command) (e : CommandError) → e ≡ Errors.Memory → StopsOr (Stops s f budget x c) e
  for_memory c e is apart = absurd (apart is)

-- ---- answers

module _ (first mid last : Seen) (by_terms : mid ≡ with_terms mid.terms first) (by_kept : last ≡ with_kept last.kept mid) where
  pub asked_keeps : Keeps first last
  asked_keeps = keeps_on first mid last (terms_keep first mid by_terms) (kept_keeps mid last by_kept)

  state_is : state_of last ≡ record { terms = mid.terms; graph = first.graph }
  state_is =
      let p : last.terms ≡ mid.terms = ap (λ (z : Seen). z.terms) by_kept in
      let q : last.graph ≡ first.graph = ap (λ (z : Seen). z.graph) by_kept ∙ graph_same first mid by_terms in
      (λ i. record { terms = p i; graph = q i })

  module _ (node : Term) (target : Target) (expr : ExprId) (n : TermId) (v : Verdict) (notes : List ℕ) (declared : IsTarget first.schema target expr)
      (takes : Adds first.terms node mid.terms) (few : length mid.terms ≤ max_terms)
      (numbered : slice_get mid.terms n.0 ≡ Some node) (not_many : ¬ ReachesTooMany mid.schema mid.graph n expr) (is : IsVerdictAt mid.schema mid.strata mid.budget (state_of mid) n expr v)
      (noted : AreNotes last.schema (state_of last) last.budget n expr v notes) where
    there : IsVerdictAt first.schema first.strata first.budget (record { terms = mid.terms; graph = first.graph }) n expr v
    there = subst (λ (z : Seen). IsVerdictAt z.schema z.strata z.budget (record { terms = mid.terms; graph = z.graph }) n expr v) by_terms is

    few_there : ¬ ReachesTooMany first.schema first.graph n expr
    few_there = subst (λ (z : Seen). ¬ ReachesTooMany z.schema z.graph n expr) by_terms not_many

    notes_there : AreNotes first.schema (record { terms = mid.terms; graph = first.graph }) first.budget n expr v notes
    notes_there = subst (λ y. AreNotes first.schema y first.budget n expr v notes) state_is (carried (λ s f b. AreNotes s (state_of last) b n expr v notes) first last asked_keeps noted)

    pub replies : Replies first.schema first.strata first.budget (state_of first) node target (state_of last) (record { node = node; target = target; verdict = v; notes = notes })
    replies = subst (λ y. Replies first.schema first.strata first.budget (state_of first) node target y (record { node = node; target = target; verdict = v; notes = notes })) (sym state_is) (record {
      expr = expr;
      declared = declared;
      takes = takes;
      few = few;
      graph = refl;
      number = n;
      numbered = numbered;
      not_many = few_there;
      verdict = there;
      notes = notes_there;
      node_is = refl;
      target_is = refl;
    })

-- too many pairs are reached from a session as from the first
pub many_first : (first mid : Seen) (n : TermId) (expr : ExprId) → mid ≡ with_terms mid.terms first → ReachesTooMany mid.schema mid.graph n expr → ReachesTooMany first.schema first.graph n expr
many_first first mid n expr e many = subst (λ (z : Seen). ReachesTooMany z.schema z.graph n expr) e many

pub many_kept : (mid last : Seen) (n : TermId) (expr : ExprId) → last ≡ with_kept last.kept mid → ReachesTooMany last.schema last.graph n expr → ReachesTooMany mid.schema mid.graph n expr
many_kept mid last n expr e many = subst (λ (z : Seen). ReachesTooMany z.schema z.graph n expr) e many

pub is_none : {X : Type 0} (o : Option X) → ((x : X) → o ≡ Some x → ⊥) → IsNone o
is_none None none = refl
is_none (Some x) none = absurd (none x refl)

-- what is said with one more answer
pub says_one : (old new : Said) (terms : List Term) (n : TermId) (node : Term) (target : Target) (v : Verdict) (notes : List ℕ) → slice_get terms n.0 ≡ Some node →
    new.text.items ≡ old.text.items ++ line_of (text_at terms n) v target → new.notes.items ≡ old.notes.items ++ notes → new.undecided ≡ (old.undecided || is_unknown v) →
    SaysMore old (record { node = node; target = target; verdict = v; notes = notes } ∷ []) new
says_one old new terms n node target v notes numbered text noted undecided = record {
  text_is = text ∙ ap (λ z. old.text.items ++ z) (ap (λ o. line_of (text_if_any o) v target) numbered ∙ sym (append-nil (line_of (term_text node) v target)));
  notes_are = noted ∙ ap (λ z. old.notes.items ++ z) (sym (append-nil notes));
  undecided_is = undecided ∙ ap (λ b. old.undecided || b) (sym (or_false (is_unknown v)));
}

pub says_on : (old new : Said) (so more : List Reply) → Says old so → SaysMore old more new → Says new (so ++ more)
says_on old new so more h k = record {
  text_is = k.text_is ∙ (ap (λ z. z ++ text_of more) h.text_is ∙ sym (flat_map-append reply_line so more));
  notes_are = k.notes_are ∙ (ap (λ z. z ++ notes_of more) h.notes_are ∙ sym (flat_map-append (λ (r : Reply). r.notes) so more));
  undecided_is = k.undecided_is ∙ (ap (λ b. b || any_unknown more) h.undecided_is ∙ sym (list_any-append (λ (r : Reply). is_unknown r.verdict) so more));
}

pub says_first : (said : Said) → said.text.items ≡ [] → said.notes.items ≡ [] → said.undecided ≡ false → Says said []
says_first said text notes undecided = record { text_is = text; notes_are = notes; undecided_is = undecided }

-- ---- runs

-- after a command the graph's triples are distinct
pub steps_distinct : (s : Schema) (f : List ℕ) (budget : ℕ) (x : State) (c : Command) (y : State) (more : List Reply) → AreDistinct x.graph → Steps s f budget x c y more → AreDistinct y.graph
steps_distinct s f budget x (Add t) y more d (e, none) = e.changes.0.distinct
steps_distinct s f budget x (Remove t) y more d (e, none) = e.changes.distinct
steps_distinct s f budget x (Ask node target) y more d (r, e, one) = subst AreDistinct (sym e.graph) d

module _ (first : Seen) (all : List Command) where
  pub begins : (said : Said) → said.text.items ≡ [] → said.notes.items ≡ [] → said.undecided ≡ false → AreDistinct first.graph → IsRunning first all first said all
  begins said text notes undecided d = record {
    so = [];
    says = says_first said text notes undecided;
    ends = λ o r. r;
    keeps = record { schema = refl; strata = refl; budget = refl };
    distinct = d;
  }

  module _ (x y : Seen) (old new : Said) (rest behind : List Command) (c : Command) (at : rest ≡ c ∷ behind) (run : IsRunning first all x old rest) where
    pub runs_on : (more : List Reply) → Keeps x y → Steps x.schema x.strata x.budget (state_of x) c (state_of y) more → SaysMore old more new → IsRunning first all y new behind
    runs_on more keeps steps says = record {
      so = run.so ++ more;
      says = says_on old new run.so more run.says says;
      ends = λ o r. run.ends o (subst (λ cs. Runs first.schema first.strata first.budget (state_of x) run.so cs o) (sym at)
          (goes (state_of y) more (carried (λ s f b. Steps s f b (state_of x) c (state_of y) more) first x run.keeps steps) r));
      keeps = keeps_on first x y run.keeps keeps;
      distinct = steps_distinct x.schema x.strata x.budget (state_of x) c (state_of y) more run.distinct steps;
    }

    pub runs_stop : (e : CommandError) → StopsOr (Stops x.schema x.strata x.budget (state_of x) c) e → StopsOr (λ d. Runs first.schema first.strata first.budget (state_of first) [] all (refused d)) e
    runs_stop e h apart = run.ends (refused e) (subst (λ cs. Runs first.schema first.strata first.budget (state_of x) run.so cs (refused e)) (sym at)
        (stops (carried (λ s f b. Stops s f b (state_of x) c e) first x run.keeps (h apart))))

  pub runs_done : (x : Seen) (said : Said) (rest : List Command) → rest ≡ [] → IsRunning first all x said rest → IsDone first all said
  runs_done x said rest at run = record {
    replies = run.so;
    says = run.says;
    runs = run.ends (answered run.so) (subst (λ cs. Runs first.schema first.strata first.budget (state_of x) run.so cs (answered run.so)) (sym at) ended);
  }
