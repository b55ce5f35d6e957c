-- What the commands of a script lead to: a graph is edited, and questions are answered over what the edits before them left (own).
use Rattle.std.specs.Prelude.{ℕ, true, false, List, [], ◌∷◌, ◌++◌, ◌≡◌, ◌≢◌, ◌≤◌, ◌⊎◌, ◌↔◌, Contains, Some, length, slice_get}
use Rattle.graph_index.specs.Contents.{max_triples}
use Rattle.graph_index.specs.Loading.{IsNumbered, terms_of}
use Rattle.graph_index.specs.declared.loading.TermTriple.{TermTriple}
use Rattle.lists.specs.Additions.{Adds, AddsAll}
use Rattle.lists.specs.Distinct.{AreDistinct}
use Rattle.rdf_terms.specs.Tables.{max_terms}
use Rattle.rdf_terms.specs.declared.terms.Term.{Term}
use Rattle.rdf_terms.specs.declared.terms.TermId.{TermId}
use Rattle.rdf_terms.specs.declared.terms.Triple.{Triple}
use Rattle.schema_tree.specs.Loaded.{HasTarget, IsTarget}
use Rattle.schema_tree.specs.declared.schema.ExprId.{ExprId}
use Rattle.schema_tree.specs.declared.schema.Schema.{Schema}
use Rattle.schema_tree.specs.declared.schema.Target.{Target}
use Rattle.schema_tree.specs.declared.schema.Target.TheVariants as Targets
use Rattle.schema_tree.specs.declared.verdicts.Verdict.{Verdict}
use Rattle.schema_tree.specs.declared.verdicts.Verdict.TheVariants.{No, Unknown, Yes}
use Rattle.schema_tree.specs.Truths.{IsTruth}
use Rattle.session_script.specs.declared.commands.Command.{Command}
use Rattle.session_script.specs.declared.commands.Command.TheVariants.{Add, Ask, Remove}
use Rattle.typing_refiner.specs.declared.building.WidePair.{WidePair}
use Rattle.typing_session.specs.Questions.{IsAnswer, IsAnswerByAll, IsUnknownOnlyWide, ReachesTooMany}
use Rattle.typing_session.specs.Widths.{AreReachedWide}
use Rattle.wide_pairs.specs.Lines.{wide_lines}
use Rattle.session_run.specs.Replies.{Reply}
use Rattle.session_run.specs.declared.error.CommandError.{CommandError}
use Rattle.session_run.specs.declared.error.CommandError.TheVariants as Errors

-- a graph in the numbers of a table of terms
pub record State : Type 0 where
  pub terms : List Term
  pub graph : List Triple

-- ---- edits

-- a graph is a set of triples (RDF 1.1 Concepts, section 3): the graph with the triple, which it may have held
pub record IsWith (old : List Triple) (t : Triple) (new : List Triple) : Type 0 where
  pub distinct : AreDistinct new
  pub exactly : (x : Triple) → Contains new x ↔ (Contains old x ⊎ (x ≡ t))

-- the graph without the triple, which it need not have held
pub record IsWithout (old : List Triple) (t : Triple) (new : List Triple) : Type 0 where
  pub distinct : AreDistinct new
  pub exactly : (x : Triple) → Contains new x ↔ (Contains old x × (x ≢ t))

-- the graph has no room for the triple
abbrev pub IsFullFor : List Triple → Triple → Type 0
IsFullFor g t = (¬ Contains g t) × (length g ≡ max_triples)

-- the triple is added within the limit
abbrev pub IsWithWithin : List Triple → Triple → List Triple → Type 0
IsWithWithin old t new = IsWith old t new × (¬ IsFullFor old t)

-- the table takes up the terms of the triple, within its limit, and the graph changes by the triple of their numbers
pub record Edits (Changes : List Triple → Triple → List Triple → Type 0) (x : State) (t : TermTriple) (y : State) : Type 0 where
  pub takes : AddsAll x.terms (terms_of t) y.terms
  pub few : length y.terms ≤ max_terms
  pub number : Triple
  pub numbered : IsNumbered y.terms t number
  pub changes : Changes x.graph number y.graph

-- the table cannot take up the terms within its limit
abbrev pub CannotTake : List Term → List Term → Type 0
CannotTake old ts = (new : List Term) → AddsAll old ts new → ¬ (length new ≤ max_terms)

-- the table takes up the terms of the triple, and the graph has no room for it
pub record HasNoRoom (x : State) (t : TermTriple) : Type 0 where
  pub terms : List Term
  pub takes : AddsAll x.terms (terms_of t) terms
  pub number : Triple
  pub numbered : IsNumbered terms t number
  pub is_full : IsFullFor x.graph number

-- ---- questions

-- the refusal of a target that is not declared
abbrev pub refusal_of : Target → CommandError
refusal_of Targets.Start = Errors.NoStart
refusal_of (Targets.Label label) = Errors.Label label

-- the target is not declared, and this is its refusal
abbrev pub IsUndeclared : Schema → Target → CommandError → Type 0
IsUndeclared s t e = (¬ HasTarget s t) × (e ≡ refusal_of t)

-- what is noted beside a verdict: where it is Unknown, a line for each pair that the node with the expression reaches and whose
-- Width is above the budget
abbrev pub AreNotes : Schema → State → ℕ → TermId → ExprId → Verdict → List ℕ → Type 0
AreNotes s x budget n e Unknown notes = (wide : List WidePair) × AreReachedWide s x.terms x.graph budget n e wide × (notes ≡ wide_lines x.terms budget wide)
AreNotes s x budget n e Yes notes = notes ≡ []
AreNotes s x budget n e No notes = notes ≡ []

-- a node with an expression is answered over the graph of a state: by the verdicts of refinement of the pairs that the two reach in
-- it, whatever was asked before; Yes comes only where the complete typing satisfies the expression at the node, No only where it does
-- not, and Unknown only where a pair that is too wide is reached (ShEx 2.1, section 5.2)
pub record IsVerdictAt (s : Schema) (f : List ℕ) (budget : ℕ) (x : State) (n : TermId) (e : ExprId) (v : Verdict) : Type 0 where
  pub answer : IsAnswer s x.terms x.graph f budget n e v
  pub no_other : (w : Verdict) → IsAnswer s x.terms x.graph f budget n e w → w ≡ v
  pub by_all : IsAnswerByAll s x.terms x.graph budget n e v
  pub satisfied : v ≡ Yes → IsTruth s x.terms x.graph n e true
  pub unsatisfied : v ≡ No → IsTruth s x.terms x.graph n e false
  pub only_wide : IsUnknownOnlyWide s x.terms x.graph budget n e v

-- how a script ends: with its answers, or refused
pub data Outcome : Type 0 where
  answered : List Reply → Outcome
  refused : CommandError → Outcome

module _ (s : Schema) (f : List ℕ) (budget : ℕ) where
  -- the table takes up the node, within its limit; the target is declared, and the node with its expression is answered over the
  -- graph, which stays
  pub record Replies (x : State) (node : Term) (target : Target) (y : State) (r : Reply) : Type 0 where
    pub expr : ExprId
    pub declared : IsTarget s target expr
    pub takes : Adds x.terms node y.terms
    pub few : length y.terms ≤ max_terms
    pub graph : y.graph ≡ x.graph
    pub number : TermId
    pub numbered : slice_get y.terms number.0 ≡ Some node
    pub not_many : ¬ ReachesTooMany s y.graph number expr
    pub verdict : IsVerdictAt s f budget y number expr r.verdict
    pub notes : AreNotes s y budget number expr r.verdict r.notes
    pub node_is : r.node ≡ node
    pub target_is : r.target ≡ target

  -- the table takes up the node, within its limit, and the node with the expression of the target reaches more pairs than may be
  -- asked for
  pub record AsksForMany (x : State) (node : Term) (target : Target) : Type 0 where
    pub expr : ExprId
    pub declared : IsTarget s target expr
    pub terms : List Term
    pub takes : Adds x.terms node terms
    pub few : length terms ≤ max_terms
    pub number : TermId
    pub numbered : slice_get terms number.0 ≡ Some node
    pub many : ReachesTooMany s x.graph number expr

  -- ---- commands

  -- a command leads from a state to another, with these answers: a question has one, and an edit has none
  abbrev pub Steps : State → Command → State → List Reply → Type 0
  Steps x (Add t) y replies = Edits IsWithWithin x t y × (replies ≡ [])
  Steps x (Remove t) y replies = Edits IsWithout x t y × (replies ≡ [])
  Steps x (Ask node target) y replies = (r : Reply) × Replies x node target y r × (replies ≡ r ∷ [])

  -- a command is refused: of a question the target is looked at first, then the table, then what it reaches
  abbrev pub Stops : State → Command → CommandError → Type 0
  Stops x (Add t) Errors.Full = CannotTake x.terms (terms_of t) ⊎ HasNoRoom x t
  Stops x (Remove t) Errors.Full = CannotTake x.terms (terms_of t)
  Stops x (Ask node target) (Errors.Label label) = IsUndeclared s target (Errors.Label label)
  Stops x (Ask node target) Errors.NoStart = IsUndeclared s target Errors.NoStart
  Stops x (Ask node target) Errors.Full = HasTarget s target × CannotTake x.terms (node ∷ [])
  Stops x (Ask node target) Errors.Pairs = AsksForMany x node target
  Stops x c e = ⊥

  -- one command after the other, behind some answers, each over the graph that those before it left; the first that is refused ends
  -- the script
  pub data Runs : State → List Reply → List Command → Outcome → Type 0 where
    ended : {x : State} {so : List Reply} → Runs x so [] (answered so)
    goes : {x : State} {so : List Reply} {c : Command} {cs : List Command} {o : Outcome} (y : State) (more : List Reply) → Steps x c y more → Runs y (so ++ more) cs o → Runs x so (c ∷ cs) o
    stops : {x : State} {so : List Reply} {c : Command} {cs : List Command} {e : CommandError} → Stops x c e → Runs x so (c ∷ cs) (refused e)
