-- Where contents are told, what words and files hold is one thing.
use Rattle.std.proofs.Common.{◌≡◌, ◌≢◌, ◌≤◌, ◌<◌, ap, sym, subst, refl, List, ℕ, [], arith, length}
use Rattle.std.specs.Prelude.{Option, Some, None}
use Rattle.call_ends.specs.Statuses.{status_by}
use Rattle.graph_index.specs.Loading.{Loads, nothing, triple}
use Rattle.graph_index.specs.declared.loading.TermTriple.{TermTriple}
use Rattle.lists.proofs.Additions.{adds_distinct}
use Rattle.lists.proofs.Members.{got_in, not_in_none}
use Rattle.lists.specs.Distinct.{AreDistinct}
use Rattle.rdf_terms.specs.declared.terms.Term.{Term}
use Rattle.rdf_terms.specs.declared.terms.Triple.{Triple}
use Rattle.shex_io.specs.Fetching.{max_file}
use Rattle.schema_tree.specs.Loaded.{IsLoaded}
use Rattle.session_run.proofs.Agreed.{Agree, runs_agree, same_itself}
use Rattle.session_run.specs.Files.{inputs_of}
use Rattle.session_run.specs.Outcomes.{AreAnswers, AreHeld, EndsAs, HoldsScript, IsAbsent, IsRefused, start_of}
use Rattle.session_run.specs.Replies.{Reply, status_of}
use Rattle.session_run.specs.Script.{Outcome, answered, refused}
use Rattle.session_run.specs.declared.stop.File.TheVariants as Files
use Rattle.session_run.specs.declared.stop.File.{File}
use Rattle.session_run.specs.declared.stop.Refusal.TheVariants as Refusals
use Rattle.session_run.specs.declared.stop.Refusal.{Refusal}
use Rattle.session_script.specs.Scripts.{Explains, IsScript, ScriptsAreNotRefused, ScriptsAreOne}
use Rattle.session_script.specs.declared.commands.Command.{Command}
use Rattle.shex_inputs.specs.Held.{Held, IsTaken}
use Rattle.shex_inputs.specs.Laws.{InputsAreOne, TakenIsLoaded}
use Rattle.shex_inputs.specs.Named.{Inputs, source_of}
use Rattle.shex_inputs.specs.Outcomes.{IsAbsent as IsInputAbsent}
use Rattle.shex_inputs.specs.Refusals.{IsRefused as IsInputRefused}
use Rattle.shex_inputs.specs.declared.error.Refusal.{Refusal as InputRefusal}
use Rattle.shex_inputs.specs.declared.error.Source.TheVariants as Sources
use Rattle.shex_inputs.specs.declared.error.Source.{Source}
use Rattle.shex_io.specs.Files.{Holds, Lacks, Told}
use Rattle.tool_words.specs.Asked.{Editing}
use Rattle.typing_session.specs.SetLaws.{AnswersAreOfSets, ReachIsOfSets}

-- a name that is told holds one thing
same_bytes : (told : Told) (contents : List ℕ → Option (List ℕ)) → told ≡ Some contents → (name a b : List ℕ) → Holds told name (Some a) → Holds told name (Some b) → a ≡ b
same_bytes told contents e name a b h k =
    let x : contents name ≡ Some a = subst (λ t. Holds t name (Some a)) e h in
    let y : contents name ≡ Some b = subst (λ t. Holds t name (Some b)) e k in
    cc

-- and is not absent
held_not_lacking : (told : Told) (name a : List ℕ) → Holds told name (Some a) → Lacks told name → ⊥
held_not_lacking None name a h k = k
held_not_lacking (Some contents) name a h k = cc

-- the laws on what is read and asked
pub record Laws (told : Told) (i : Inputs) : Type 0 where
  pub held : (h k : Held) → IsTaken told i h → IsTaken told i k → h ≡ k
  pub taken : (h : Held) (source : Source) → IsTaken told i h → source ≢ Sources.Map →
      ((refusal : InputRefusal) → source_of refusal ≡ source → ¬ IsInputRefused told i refusal) × (¬ IsInputAbsent told i source)
  pub left : (refusal : InputRefusal) → IsInputRefused told i refusal → (source : Source) → ¬ IsInputAbsent told i source
  pub loaded : (h : Held) → IsTaken told i h → IsLoaded h.schema
  pub distinct : (h : Held) → IsTaken told i h → AreDistinct h.graph
  pub scripts : ScriptsAreOne
  pub whole : ScriptsAreNotRefused
  pub sets : AnswersAreOfSets
  pub reach : ReachIsOfSets

-- the triples of a graph into which triples were loaded are distinct
loaded_distinct : (terms a : List Term) (graph b : List Triple) (ts : List TermTriple) → AreDistinct graph → Loads terms graph ts a b → AreDistinct b
loaded_distinct terms a graph b ts d nothing = d
loaded_distinct terms a graph b ts d (triple {mid = m} {grown = g} {ts = us} n h k l rest) = loaded_distinct m a g b us (adds_distinct graph g n d l) rest

none_distinct : AreDistinct {X = Triple} []
none_distinct = λ i j x a b. absurd (not_in_none x (got_in [] i x a))

pub laws_of : InputsAreOne → TakenIsLoaded → ScriptsAreOne → ScriptsAreNotRefused → AnswersAreOfSets → ReachIsOfSets →
    (contents : List ℕ → Option (List ℕ)) (told : Told) → told ≡ Some contents → (i : Inputs) → Laws told i
laws_of law loaded scripts whole sets reach contents told e i =
    let (held, (one, (taken, (asked, left)))) = law contents i in
    subst (λ t. Laws t i) (sym e) (record {
      held = held;
      taken = taken;
      left = λ refusal why. (left refusal why).1;
      loaded = λ h is. loaded (Some contents) i h is;
      distinct = λ h is. loaded_distinct is.holding.first h.terms [] h.graph is.triples none_distinct is.holding.graph;
      scripts = scripts;
      whole = whole;
      sets = sets;
      reach = reach;
    })

module _ (told : Told) (contents : List ℕ → Option (List ℕ)) (e : told ≡ Some contents) (x : Editing) (laws : Laws told (inputs_of x)) where
  one_bytes : (a b : List ℕ) → Holds told x.script (Some a) → Holds told x.script (Some b) → a ≡ b
  one_bytes a b h k = same_bytes told contents e x.script a b h k

  one_script : (cs ds : List Command) → HoldsScript told x cs → HoldsScript told x ds → cs ≡ ds
  one_script cs ds h k = laws.scripts k.bytes cs ds (subst (λ b. IsScript b cs) (one_bytes h.bytes k.bytes h.file.held k.file.held) h.spelled) k.spelled

  -- two runs of the script end alike
  ends_agree : (h k : Held) (cs ds : List Command) (o p : Outcome) → AreHeld told x h → AreHeld told x k → HoldsScript told x cs → HoldsScript told x ds →
      EndsAs h x.budget cs o → EndsAs k x.budget ds p → Agree o p
  ends_agree h k cs ds o p held also script other a b =
      let same_held : k ≡ h = laws.held k h also held in
      let same_script : ds ≡ cs = one_script ds cs other script in
      runs_agree h.schema h.strata x.budget (laws.loaded h held) laws.sets laws.reach (start_of h) (start_of h)
      (same_itself (start_of h) held.holding.distinct (laws.distinct h held)) [] [] refl cs o p a
      (subst (λ zs. EndsAs h x.budget zs p) same_script (subst (λ z. EndsAs z x.budget ds p) same_held b))

  pub answers_agree : (xs ys : List Reply) → AreAnswers told x xs → AreAnswers told x ys → status_of xs ≡ status_of ys
  answers_agree xs ys a b = ap status_by (ends_agree a.held b.held a.commands b.commands (answered xs) (answered ys) a.taken b.taken a.script b.script a.ends b.ends)

  -- where the script is answered, nothing is refused
  pub answers_not_refused : (xs : List Reply) → AreAnswers told x xs → (refusal : Refusal) → IsRefused told x refusal → ⊥
  answers_not_refused xs a (Refusals.Input refusal) (other, why) = (laws.taken a.held (source_of refusal) a.taken other).0 refusal refl why
  answers_not_refused xs a Refusals.Size (h, held, long) =
      let size : length long.bytes ≡ length a.script.bytes = ap length (one_bytes long.bytes a.script.bytes long.held a.script.file.held) in
      let within : length a.script.bytes ≤ max_file = a.script.file.within in
      let above : max_file < length long.bytes = long.above in
      absurd (omega (arith, size, within, above))
  answers_not_refused xs a (Refusals.Script error) (h, held, (bytes, file, apart, cause)) =
      apart (laws.whole a.script.bytes a.commands error a.script.spelled (subst (λ b. Explains error b) (one_bytes bytes a.script.bytes file.held a.script.file.held) cause))
  answers_not_refused xs a (Refusals.Command error) (h, held, (commands, script, apart, ends)) =
      ends_agree a.held h a.commands commands (answered xs) (refused error) a.taken held a.script script a.ends ends

  -- and nothing is absent
  pub answers_not_absent : (xs : List Reply) → AreAnswers told x xs → (file : File) → IsAbsent told x file → ⊥
  answers_not_absent xs a (Files.Input source) ((other, reached), lacks) = (laws.taken a.held source a.taken other).1 (reached, lacks)
  answers_not_absent xs a Files.Script (reached, lacks) = held_not_lacking told x.script a.script.bytes a.script.file.held lacks

  -- nor where a file is refused
  input_not_absent : (h : Held) → AreHeld told x h → (source : Source) → IsAbsent told x (Files.Input source) → ⊥
  input_not_absent h held source ((other, reached), lacks) = (laws.taken h source held other).1 (reached, lacks)

  pub refused_not_absent : (refusal : Refusal) → IsRefused told x refusal → (file : File) → IsAbsent told x file → ⊥
  refused_not_absent (Refusals.Input refusal) (other, why) (Files.Input source) ((too, reached), lacks) = laws.left refusal why source (reached, lacks)
  refused_not_absent (Refusals.Input refusal) (other, why) Files.Script ((h, held), lacks) = (laws.taken h (source_of refusal) held other).0 refusal refl why
  refused_not_absent Refusals.Size (h, held, long) (Files.Input source) absent = input_not_absent h held source absent
  refused_not_absent Refusals.Size (h, held, long) Files.Script (reached, lacks) = held_not_lacking told x.script long.bytes long.held lacks
  refused_not_absent (Refusals.Script error) (h, held, (bytes, file, apart, cause)) (Files.Input source) absent = input_not_absent h held source absent
  refused_not_absent (Refusals.Script error) (h, held, (bytes, file, apart, cause)) Files.Script (reached, lacks) = held_not_lacking told x.script bytes file.held lacks
  refused_not_absent (Refusals.Command error) (h, held, (commands, script, apart, ends)) (Files.Input source) absent = input_not_absent h held source absent
  refused_not_absent (Refusals.Command error) (h, held, (commands, script, apart, ends)) Files.Script (reached, lacks) = held_not_lacking told x.script script.bytes script.file.held lacks
