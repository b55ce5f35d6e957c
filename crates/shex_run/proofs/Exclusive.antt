-- Where contents are told, what words and files hold is one thing.
use Rattle.std.proofs.Common.{◌≡◌, ◌≢◌, ◌∙◌, ap, sym, subst, refl, List, ℕ, []}
use Rattle.std.specs.Prelude.{Option, Some, None, unwrap_or}
use Rattle.input_names.specs.Names.{Text}
use Rattle.shex_io.specs.Files.{Holds, Lacks, Told}
use Rattle.command_words.specs.Asked.{Command}
use Rattle.command_words.specs.Requests.{Task, checking, upgrading, validation}
use Rattle.shex_inputs.specs.declared.error.Refusal.{Refusal}
use Rattle.shex_inputs.specs.declared.error.Source.{Source}
use Rattle.shex_inputs.specs.declared.error.Source.TheVariants as Sources
use Rattle.shex_inputs.specs.Asked.{IsAskedOf, Question}
use Rattle.shex_inputs.specs.Held.{Held, IsTaken}
use Rattle.shex_inputs.specs.Laws.{InputsAreOne}
use Rattle.shex_inputs.specs.Named.{source_of}
use Rattle.shex_inputs.specs.Outcomes.{IsAbsent as IsInputAbsent}
use Rattle.shex_inputs.specs.Refusals.{IsRefused as IsInputRefused}
use Rattle.shex_run.specs.declared.stop.File.{File}
use Rattle.shex_run.specs.declared.stop.File.TheVariants as Files
use Rattle.shex_run.specs.Checking.{IsFull, IsGiven}
use Rattle.shex_run.specs.Outcomes.{IsAbsent, IsRefused, ReachesProof}
use Rattle.shex_run.specs.Tasks.{IsFetched, IsToCheck, IsToValidate, checked_of, inputs_of}
use Rattle.shex_run.proofs.Checked.{fetched_name, no_both, no_map}

-- ---- files

-- a name that is told holds one thing
pub same_bytes : (told : Told) (contents : List ℕ → Option (List ℕ)) → told ≡ Some contents → (name a b : List ℕ) → Holds told name (Some a) → Holds told name (Some b) → a ≡ b
same_bytes told contents e name a b h k =
    let x : contents name ≡ Some a = subst (λ t. Holds t name (Some a)) e h in
    let y : contents name ≡ Some b = subst (λ t. Holds t name (Some b)) e k in
    cc

-- and is not absent
held_not_lacking : (told : Told) (name a : List ℕ) → Holds told name (Some a) → Lacks told name → ⊥
held_not_lacking None name a h k = k
held_not_lacking (Some contents) name a h k = cc

pub record AreOne (told : Told) (c : Command) : Type 0 where
  pub held : (h k : Held) → IsTaken told (inputs_of c) h → IsTaken told (inputs_of c) k → h ≡ k
  pub taken : (h : Held) (source : Source) → IsTaken told (inputs_of c) h → source ≢ Sources.Map →
      ((refusal : Refusal) → source_of refusal ≡ source → ¬ IsInputRefused told (inputs_of c) refusal) × (¬ IsInputAbsent told (inputs_of c) source)
  pub asked : (q : Question) → IsAskedOf told (inputs_of c) q → ((refusal : Refusal) → ¬ IsInputRefused told (inputs_of c) refusal) × ((source : Source) → ¬ IsInputAbsent told (inputs_of c) source)
  pub left : (refusal : Refusal) → IsInputRefused told (inputs_of c) refusal → (source : Source) → ¬ IsInputAbsent told (inputs_of c) source

pub are_one : InputsAreOne → (contents : List ℕ → Option (List ℕ)) (told : Told) → told ≡ Some contents → (c : Command) → AreOne told c
are_one law contents told e c =
    let (held, (one, (taken, (asked, left)))) = law contents (inputs_of c) in
    subst (λ t. AreOne t c) (sym e) (record { held = held; taken = taken; asked = asked; left = λ refusal refused. (left refusal refused).1 })

module _ (told : Told) (contents : List ℕ → Option (List ℕ)) (e : told ≡ Some contents) (c : Command) (one : AreOne told c) where
  -- the proof's file holds one text
  pub one_given : (a b : Held) (x y : List ℕ) → IsGiven told c a x → IsGiven told c b y → x ≡ y
  one_given a b x y h k =
      let names : h.name ≡ k.name = name_one h.name k.name (sym h.task ∙ k.task) in
      same_bytes told contents e k.name x y (subst (λ n. Holds told n (Some x)) names h.held) k.held
    where
      name_one : (m n : List ℕ) → Some m ≡ Some n → m ≡ n
      name_one m n h = ap (λ o. unwrap_or o []) h

  -- for a check whose schema and data are taken, no input is refused or absent
  pub check_not_refused : (h : Held) (name : Text) → IsTaken told (inputs_of c) h → IsToCheck c name → (refusal : Refusal) → IsRefused told c refusal → ⊥
  check_not_refused h name taken is refusal (of, refused) =
      (one.taken h (source_of refusal) taken (no_map c.task name is (source_of refusal) of)).0 refusal refl refused

  check_not_absent : (h : Held) (name : Text) → IsTaken told (inputs_of c) h → IsToCheck c name → (source : Source) → IsAbsent told c (Files.Input source) → ⊥
  check_not_absent h name taken is source (fetched, ((of, reached), lacks)) =
      (one.taken h source taken (no_map c.task name is source of)).1 (reached, lacks)

  -- where a map asks something, no input is refused or absent
  pub asked_not_refused : (q : Question) → IsAskedOf told (inputs_of c) q → (refusal : Refusal) → IsRefused told c refusal → ⊥
  asked_not_refused q asked refusal (of, refused) = (one.asked q asked).0 refusal refused

  -- and no file is absent
  pub asked_not_absent : (map : Text) (proof : Option Text) (budget : ℕ) → IsToValidate c map proof budget → (q : Question) → IsAskedOf told (inputs_of c) q → (file : File) → IsAbsent told c file → ⊥
  asked_not_absent map proof budget is q asked (Files.Input source) (fetched, ((of, reached), lacks)) = (one.asked q asked).1 source (reached, lacks)
  asked_not_absent map proof budget is q asked Files.Proof (fetched, (reached, lacks)) = subst (λ t. IsFetched t Files.Proof) is fetched
  asked_not_absent map proof budget is q asked Files.Upgraded (fetched, (reached, lacks)) = fetched

  -- a proof is full only for a check
  pub full_not_wish : (map : Text) (proof : Option Text) (budget : ℕ) → IsToValidate c map proof budget → IsFull told c → ⊥
  full_not_wish map proof budget is (h, bytes, given, full) = no_both map proof budget c.task given.name is given.task

  -- where the proof is given, none is absent
  pub given_not_absent : (h : Held) (bytes : List ℕ) (file : File) → IsGiven told c h bytes → IsAbsent told c file → ⊥
  given_not_absent h bytes (Files.Input source) given absent = check_not_absent h given.name given.taken given.task source absent
  given_not_absent h bytes Files.Proof given (fetched, (reached, lacks)) =
      held_not_lacking told given.name bytes given.held (subst (λ n. Lacks told n) (sym (fetched_name c.task given.name given.task)) lacks)
  given_not_absent h bytes Files.Upgraded given (fetched, (reached, lacks)) = fetched

  -- where a file is refused, none is absent
  pub refused_not_absent : (refusal : Refusal) (other : File) → IsRefused told c refusal → IsAbsent told c other → ⊥
  refused_not_absent refusal (Files.Input b) (of, refused) (fetched, ((also, reached), lacks)) = one.left refusal refused b (reached, lacks)
  refused_not_absent refusal Files.Proof refused (fetched, (reached, lacks)) = go c.task refl fetched reached
    where
      go : (t : Task) → c.task ≡ t → IsFetched t Files.Proof → ReachesProof told c t → ⊥
      go (validation m p n) is fetched reached = absurd fetched
      go (checking name) is fetched (h, taken) = check_not_refused h name taken (ap checked_of is) refusal refused
      go (upgrading name to) is fetched (h, taken) = check_not_refused h name taken (ap checked_of is) refusal refused
  refused_not_absent refusal Files.Upgraded refused (fetched, (reached, lacks)) = fetched

  -- nor is one where the table is full
  pub full_not_absent : (other : File) → IsFull told c → IsAbsent told c other → ⊥
  full_not_absent other (h, bytes, given, full) absent = given_not_absent h bytes other given absent
