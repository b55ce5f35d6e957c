-- What words ask for behind a command's name.
use Rattle.std.proofs.Common.{◌≡◌, ◌≢◌, ◌⊎◌, inl, inr, ◌∙◌, ◌≤◌, ◌-◌, List, [], ◌∷◌, arith, codes, drop, get_or, length, map, refl, sym, ap, subst, take}
use Rattle.std.specs.Prelude.{Option, Some, Result, Ok, Err, IfErr, IfOk, IfSome, IsErrAnd, IsNone}
use Rattle.clap.specs.Words.{App, Row, Text}
use Rattle.command_words.specs.declared.error.WordsError.{WordsError}
use Rattle.command_words.specs.declared.requests.Request.{Request as LentRequest}
use Rattle.command_words.specs.declared.requests.Task.{Task as LentTask}
use Rattle.command_words.specs.Checks.{Fault, arguments}
use Rattle.command_words.specs.Lent.{Because, given_of, request_of, task_of}
use Rattle.command_words.proofs.Exact.{because, handed_on}
use Rattle.command_words.specs.Commands.{check, faults, rows, upgrade, validate}
use Rattle.command_words.specs.Requests.{Asks, Given, IsFound, IsGiven, IsTask, Request, Task, checking, command_for, name_of, upgrading, validation}
use Rattle.command_words.proofs.Requested.{no_check, no_upgrade, upgrade_no_check}

pub to_validate : (t : Task) → name_of t ≡ codes "validate" → command_for t ≡ validate
to_validate (validation m p n) e = refl
to_validate (checking p) e = absurd (no_check (sym e))
to_validate (upgrading p s) e = absurd (no_upgrade (sym e))

pub to_check : (t : Task) → name_of t ≡ codes "check" → command_for t ≡ check
to_check (validation m p n) e = absurd (no_check e)
to_check (checking p) e = refl
to_check (upgrading p s) e = absurd (upgrade_no_check e)

pub to_upgrade : (t : Task) → name_of t ≡ codes "upgrade" → command_for t ≡ upgrade
to_upgrade (validation m p n) e = absurd (no_upgrade e)
to_upgrade (checking p) e = absurd (upgrade_no_check (sym e))
to_upgrade (upgrading p s) e = refl

-- the command b is that of the tasks with the name n
module _ (n : Text) (a b : App) (owns : (t : Task) → name_of t ≡ n → command_for t ≡ a) (e : b ≡ a) (words : List Text) where
  command_is : (t : Task) → name_of t ≡ n → b ≡ command_for t
  command_is t named = e ∙ sym (owns t named)

  pub found_for : (seen : List Row) (g : Given) (t : Task) → faults b words ≡ [] → seen ≡ rows b words → IsGiven seen g → IsTask seen t → name_of t ≡ n → IsFound words (record { given = g; task = t })
  found_for seen g t taken same given asked named =
      let app : b ≡ command_for t = command_is t named in
      let all : seen ≡ rows (command_for t) words = same ∙ ap (λ (x : App). rows x words) app in
      record {
        taken = sym (ap (λ (x : App). faults x words) app) ∙ taken;
        given = subst (λ (s : List Row). IsGiven s g) all given;
        asked = subst (λ (s : List Row). IsTask s t) all asked;
      }

  pub not_taken : faults b words ≢ [] → (r : Request) → name_of r.task ≡ n → ¬ IsFound words r
  not_taken refused r named h = refused (ap (λ (x : App). faults x words) (command_is r.task named) ∙ h.taken)

  same_seen : (seen : List Row) (r : Request) → seen ≡ rows b words → name_of r.task ≡ n → rows (command_for r.task) words ≡ seen
  same_seen seen r same named = sym (same ∙ ap (λ (x : App). rows x words) (command_is r.task named))

  pub no_task : (seen : List Row) → seen ≡ rows b words → ((t : Task) → name_of t ≡ n → ¬ IsTask seen t) → (r : Request) → name_of r.task ≡ n → ¬ IsFound words r
  no_task seen same none r named h = none r.task named (subst (λ (s : List Row). IsTask s r.task) (same_seen seen r same named) h.asked)

  not_given : (seen : List Row) → seen ≡ rows b words → ((g : Given) → ¬ IsGiven seen g) → (r : Request) → name_of r.task ≡ n → ¬ IsFound words r
  not_given seen same none r named h = none r.given (subst (λ (s : List Row). IsGiven s r.given) (same_seen seen r same named) h.given)

  -- an error that is handed on, where `clap` refuses the words
  pub not_accepted : (r : Result LentRequest WordsError) (x : WordsError) → IsErrAnd r (λ y. y ≡ x) → Because (λ f. (f ≡ arguments) × (faults b words ≢ [])) x
      → IfErr r (Because (λ f. (f ≡ arguments) × ((q : Request) → name_of q.task ≡ n → ¬ IsFound words q)))
  not_accepted r x h = handed_on (λ f. (f ≡ arguments) × (faults b words ≢ [])) (λ f. (f ≡ arguments) ×
      ((q : Request) → name_of q.task ≡ n → ¬ IsFound words q)) r x h (λ f (is, refused). (is, not_taken refused))

  -- what is given and what is asked, if it is, put together
  pub found_with : (seen : List Row) (o : Option LentTask) (r : Result LentRequest WordsError) → faults b words ≡ [] → seen ≡ rows b words → IfSome o (λ t. IsTask seen (task_of t))
      → IfSome o (λ t. name_of (task_of t) ≡ n) → IfOk r (λ q. IsGiven seen (given_of q.given)) → IfOk r (λ q. o ≡ Some q.task) → IfOk r (λ q. IsFound words (request_of q))
  found_with seen o (Ok q) taken same asked named given is =
      found_for seen (given_of q.given) (task_of q.task) taken same given (subst (λ (p : Option LentTask). IfSome p (λ t. IsTask seen (task_of t))) is asked)
      (subst (λ (p : Option LentTask). IfSome p (λ t. name_of (task_of t) ≡ n)) is named)
  found_with seen o (Err e) taken same asked named given is = tt

  pub named_with : (o : Option LentTask) (r : Result LentRequest WordsError) → IfSome o (λ t. name_of (task_of t) ≡ n) → IfOk r (λ q. o ≡ Some q.task) → IfOk r (λ q. name_of (task_of q.task) ≡ n)
  named_with o (Ok q) named is = subst (λ (p : Option LentTask). IfSome p (λ t. name_of (task_of t) ≡ n)) is named
  named_with o (Err e) named is = tt

  not_found : (seen : List Row) (o : Option LentTask) → seen ≡ rows b words → (IsNone o → (t : Task) → name_of t ≡ n → ¬ IsTask seen t) → (f : Fault)
      → (f ≡ arguments) × (IsNone o ⊎ ((g : Given) → ¬ IsGiven seen g)) → (f ≡ arguments) × ((q : Request) → name_of q.task ≡ n → ¬ IsFound words q)
  not_found seen o same missed f (is, inl none) = (is, no_task seen same (missed none))
  not_found seen o same missed f (is, inr none) = (is, not_given seen same none)

  pub not_with : (seen : List Row) (o : Option LentTask) (r : Result LentRequest WordsError) → seen ≡ rows b words → (IsNone o → (t : Task) → name_of t ≡ n → ¬ IsTask seen t)
      → IfErr r (Because (λ f. (f ≡ arguments) × (IsNone o ⊎ ((g : Given) → ¬ IsGiven seen g)))) → IfErr r (Because (λ f. (f ≡ arguments) × ((q : Request) → name_of q.task ≡ n → ¬ IsFound words q)))
  not_with seen o (Ok q) same missed fault = tt
  not_with seen o (Err e) same missed fault = because _ _ e (not_found seen o same missed) fault

pub heads : {x y : Text} {xs ys : List Text} → x ∷ xs ≡ y ∷ ys → x ≡ y
heads e = cc

pub tails : {x y : Text} {xs ys : List Text} → x ∷ xs ≡ y ∷ ys → xs ≡ ys
tails e = cc

named_one : (t : Task) → (name_of t ≡ codes "validate" → ⊥) → (name_of t ≡ codes "check" → ⊥) → (name_of t ≡ codes "upgrade" → ⊥) → ⊥
named_one (validation m p n) a b u = a refl
named_one (checking p) a b u = b refl
named_one (upgrading p s) a b u = u refl

pub no_name : (name : Text) (behind : List Text) → name ≢ codes "validate" → name ≢ codes "check" → name ≢ codes "upgrade" → (r : Request) → ¬ Asks (name ∷ behind) r
no_name name behind a b u r asks = named_one r.task (λ e. a (heads asks.named ∙ e)) (λ e. b (heads asks.named ∙ e)) (λ e. u (heads asks.named ∙ e))

-- behind a command's name
pub asks_behind : (words behind : List Text) (n : Text) (r : Request) → words ≡ n ∷ behind → IsFound behind r → name_of r.task ≡ n → Asks words r
asks_behind words behind n r e found named = record { behind = behind; named = e ∙ ap (λ (x : Text). x ∷ behind) (sym named); found = found }

pub asks_not_behind : (words behind : List Text) (n : Text) → words ≡ n ∷ behind → ((r : Request) → name_of r.task ≡ n → ¬ IsFound behind r) → (r : Request) → ¬ Asks words r
asks_not_behind words behind n e none r asks =
    let whole : n ∷ behind ≡ name_of r.task ∷ asks.behind = sym e ∙ asks.named in
    none r (sym (heads whole)) (subst (λ (ws : List Text). IsFound ws r) (sym (tails whole)) asks.found)

take_all : {X : Type 0} (ys : List X) → take (length ys) ys ≡ ys
take_all [] = refl
take_all (y ∷ ys) = ap (λ z. y ∷ z) (take_all ys)

-- the first word and the others
pub first_and_rest : {X Y : Type 0} (f : X → Y) (ws : List X) (x : X) → 1 ≤ length ws → x ≡ get_or ws 0 x → map f ws ≡ f x ∷ map f (take (length ws - 1) (drop 1 ws))
first_and_rest f [] x l e = absurd (omega arith)
first_and_rest f (w ∷ ws) x l e =
    let n : length (w ∷ ws) - 1 ≡ length ws = omega arith in
    ap (λ z. z ∷ map f ws) (ap f (sym e)) ∙ ap (λ z. f x ∷ map f z) (sym (ap (λ k. take k ws) n ∙ take_all ws))

-- a request behind a command's name is one of all words
pub requested : (words behind : List Text) (n : Text) (r : Result LentRequest WordsError) → words ≡ n ∷ behind → IfOk r (λ q. IsFound behind (request_of q)) →
    IfOk r (λ q. name_of (task_of q.task) ≡ n)
    → IfOk r (λ q. Asks words (request_of q))
requested words behind n (Ok q) e found named = asks_behind words behind n (request_of q) e found named
requested words behind n (Err x) e found named = tt

pub unrequested : (words behind : List Text) (n : Text) (r : Result LentRequest WordsError) → words ≡ n ∷ behind
    → IfErr r (Because (λ f. (f ≡ arguments) × ((q : Request) → name_of q.task ≡ n → ¬ IsFound behind q))) → IfErr r (Because (λ f. (f ≡ arguments) × ((q : Request) → ¬ Asks words q)))
unrequested words behind n (Ok q) e fault = tt
unrequested words behind n (Err x) e fault =
    because (λ f. (f ≡ arguments) × ((q : Request) → name_of q.task ≡ n → ¬ IsFound behind q)) (λ f. (f ≡ arguments) × ((q : Request) → ¬ Asks words q)) x
    (λ f (is, none). (is, asks_not_behind words behind n e none)) fault
