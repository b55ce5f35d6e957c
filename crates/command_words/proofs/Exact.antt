-- Words ask for one command or have one first fault.
use Rattle.std.proofs.Common.{◌≡◌, ◌∙◌, List, [], true, refl, sym, ap, subst}
use Rattle.std.specs.Prelude.{IfErr, IfOk, IsErrAnd, MatchResult, Result, Ok, Err}
use Rattle.clap.specs.Words.{Text}
use Rattle.input_names.specs.declared.inputs.Inputs.{Inputs as LentInputs}
use Rattle.input_names.specs.Names.{Import, Inputs, is_data_name, is_schema_name}
use Rattle.input_names.specs.Lent.{inputs_of}
use Rattle.command_words.specs.declared.command.Command.{Command as LentCommand}
use Rattle.command_words.specs.declared.error.WordsError.{WordsError}
use Rattle.command_words.specs.declared.error.WordsError.TheVariants as Error
use Rattle.command_words.specs.Asked.{Command, IsAsked, IsFirstFault, command_by, failing, unasked}
use Rattle.command_words.specs.Checks.{AreImports, Fault, HasEndings, HasImports, IsGivenFault, IsImportFault, IsRequestFault, Passes, arguments, import_words, inputs_by, of_given}
use Rattle.command_words.specs.Requests.{Asks, Given, Request}
use Rattle.command_words.specs.Lent.{Because, command_of, command_with}
use Rattle.command_words.proofs.Once.{no_request_fault, one_list, one_request_fault}
use Rattle.command_words.proofs.Requested.{one_request}

pub one_command : (words : List Text) (c d : Command) → IsAsked words c → IsAsked words d → c ≡ d
one_command words c d a b =
    let requests : a.request ≡ b.request = one_request words a.request b.request a.asks b.asks in
    let passes : Passes a.request d.imports = subst (λ (r : Request). Passes r d.imports) (sym requests) b.passes in
    let imports : c.imports ≡ d.imports = one_list _ a.request.given.import_words c.imports d.imports a.passes.bases.inputs.imports_given passes.bases.inputs.imports_given in
    a.leads ∙ ap (λ (r : Request). command_by r c.imports) requests ∙ ap (command_by b.request) imports ∙ sym b.leads

pub no_fault : (words : List Text) (c : Command) (f : Fault) → IsAsked words c → IsFirstFault words f → ⊥
no_fault words c _ a (unasked none) = none a.request a.asks
no_fault words c _ a (failing r asks f h) =
    no_request_fault r c.imports f (subst (λ (s : Request). Passes s c.imports) (one_request words a.request r a.asks asks) a.passes) h

pub one_fault : (words : List Text) (f g : Fault) → IsFirstFault words f → IsFirstFault words g → f ≡ g
one_fault words _ _ (unasked none) (unasked more) = refl
one_fault words _ _ (unasked none) (failing r asks g h) = absurd (none r asks)
one_fault words _ _ (failing r asks f h) (unasked none) = absurd (none r asks)
one_fault words _ _ (failing r asks f h) (failing s other g k) =
    one_request_fault r f g h (subst (λ (x : Request). IsRequestFault x g) (one_request words s r other asks) k)

pub because : (P Q : Fault → Type 0) (e : WordsError) → ((f : Fault) → P f → Q f) → Because P e → Because Q e
because P Q Error.Arguments h p = h _ p
because P Q (Error.Ending name) h p = h _ p
because P Q (Error.Import word) h p = h _ p
because P Q (Error.Base iri) h p = h _ p
because P Q (Error.Same name) h p = h _ p
because P Q Error.Memory h p = p

-- an error that is handed on
pub handed_on : {L : Type 0} (P Q : Fault → Type 0) (r : Result L WordsError) (e : WordsError) → IsErrAnd r (λ x. x ≡ e) → ((f : Fault) → P f → Q f) → Because P e → IfErr r (Because Q)
handed_on P Q (Ok c) e h leads fault = tt
handed_on P Q (Err x) e h leads fault = because P Q x leads (subst (Because P) (sym h) fault)

-- what an answer says of a kind of things, where words ask for one or have one first fault: that is known of its parts
module _ (L C : Type 0) (of : L → C) (Is : C → Type 0) (Bad : Fault → Type 0) where
  pub record IsExact (r : Result L WordsError) : Type 0 where
    pub asked : IfOk r (λ c. Is (of c))
    pub complete : (c : C) → Is c → MatchResult r (λ d. of d ≡ c) (Because (λ f. ⊥))
    pub refused : IfErr r (Because Bad)
    pub refuses : (f : Fault) → Bad f → IsErrAnd r (Because (λ g. g ≡ f))

  module _ (one : (c d : C) → Is c → Is d → c ≡ d) (never : (c : C) (f : Fault) → Is c → Bad f → ⊥) (first : (f g : Fault) → Bad f → Bad g → f ≡ g) where
    completely : (r : Result L WordsError) → IfOk r (λ c. Is (of c)) → IfErr r (Because Bad) → (c : C) → Is c → MatchResult r (λ d. of d ≡ c) (Because (λ f. ⊥))
    completely (Ok d) asked refused c a = one (of d) c asked a
    completely (Err e) asked refused c a = because Bad (λ f. ⊥) e (λ f h. never c f a h) refused

    refusing : (r : Result L WordsError) → IfOk r (λ c. Is (of c)) → IfErr r (Because Bad) → (f : Fault) → Bad f → IsErrAnd r (Because (λ g. g ≡ f))
    refusing (Ok d) asked refused f h = never (of d) f asked h
    refusing (Err e) asked refused f h = because Bad (λ g. g ≡ f) e (λ g k. first g f k h) refused

    pub exact_by : (r : Result L WordsError) → IfOk r (λ c. Is (of c)) → IfErr r (Because Bad) → IsExact r
    exact_by r asked refused = record { asked = asked; complete = completely r asked refused; refused = refused; refuses = refusing r asked refused }

-- what an answer says of what is asked of files
abbrev pub IsExactly : List Text → Result LentCommand WordsError → Type 0
IsExactly words r = IsExact LentCommand Command command_of (IsAsked words) (IsFirstFault words) r

exactly : (words : List Text) (r : Result LentCommand WordsError) → IfOk r (λ c. IsAsked words (command_of c)) → IfErr r (Because (IsFirstFault words)) → IsExactly words r
exactly words = exact_by LentCommand Command command_of (IsAsked words) (IsFirstFault words) (one_command words) (no_fault words) (one_fault words)

-- where the words ask for no request
pub exact_unasked : (words : List Text) (r : Result LentCommand WordsError) (e : WordsError) → IsErrAnd r (λ x. x ≡ e)
    → Because (λ f. (f ≡ arguments) × ((q : Request) → ¬ Asks words q)) e → IsExactly words r
exact_unasked words (Ok c) e h because_of = absurd h
exact_unasked words (Err x) e h because_of =
    exactly words (Err x) tt
    (because (λ f. (f ≡ arguments) × ((q : Request) → ¬ Asks words q)) (IsFirstFault words) x (λ f (is, none). subst (IsFirstFault words) (sym is) (unasked none))
    (subst (Because (λ f. (f ≡ arguments) × ((q : Request) → ¬ Asks words q))) (sym h) because_of))

-- where they ask for one
pub exact_asked : (words : List Text) (q : Request) (r : Result LentCommand WordsError) → Asks words q
    → IfOk r (λ c. command_of c ≡ command_by q (command_of c).imports) → IfOk r (λ c. Passes q (command_of c).imports) → IfErr r (Because (IsRequestFault q)) → IsExactly words r
exact_asked words q (Ok c) asks leads passes fault = exactly words (Ok c) (record { request = q; asks = asks; passes = passes; leads = leads }) tt
exact_asked words q (Err e) asks leads passes fault = exactly words (Err e) tt (because (IsRequestFault q) (IsFirstFault words) e (λ f h. failing q asks f h) fault)

-- the import words that are given are at fault
pub imports_failed : (g : Given) (ws : List Text) (r : Result LentInputs WordsError) (e : WordsError) → IsErrAnd r (λ x. x ≡ e) → HasEndings g → ws ≡ g.import_words → Because (IsImportFault [] ws) e
    → IfErr r (Because (IsGivenFault g))
imports_failed g ws r e h endings same = handed_on (IsImportFault [] ws) (IsGivenFault g) r e h (λ f bad. import_words f endings (subst (λ (all : List Text). IsImportFault [] all f) same bad))

pub with_imports : (g : Given) (ws : List Text) (imports : List Import) → is_schema_name g.schema ≡ true → is_data_name g.data_file ≡ true →
    ws ≡ g.import_words → AreImports [] ws imports → HasImports g imports
with_imports g ws imports s d same given = record { endings = record { schema = s; data_file = d }; imports_given = subst (λ (all : List Text). AreImports [] all imports) same given }

-- what is given is at fault
pub given_failed : (q : Request) (r : Result LentCommand WordsError) (e : WordsError) → IsErrAnd r (λ x. x ≡ e) → Because (IsGivenFault q.given) e → IfErr r (Because (IsRequestFault q))
given_failed q r e h = handed_on (IsGivenFault q.given) (IsRequestFault q) r e h of_given

-- where the inputs are those of a request, a command of them with its task is the one to which it leads
pub leads_to : (i : LentInputs) (q : Request) → inputs_of i ≡ inputs_by q.given (inputs_of i).imports → command_with i q.task ≡ command_by q (inputs_of i).imports
leads_to i q is = ap (λ (x : Inputs). record {
  schema = x.schema;
  data_file = x.data_file;
  schema_base = x.schema_base;
  data_base = x.data_base;
  imports = x.imports;
  task = q.task;
}) is
