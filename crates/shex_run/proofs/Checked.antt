-- What a task that checks a proof does with its files.
use Rattle.std.proofs.Common.{◌≡◌, ◌≢◌, ap, sym, refl, ℕ, [], ◌⊎◌}
use Rattle.std.specs.Prelude.{Option, Some, None, unwrap_or}
use Rattle.input_names.specs.Names.{Text}
use Rattle.shex_io.specs.Files.{Told}
use Rattle.shex_io.specs.declared.files.Act.TheVariants as Acts
use Rattle.command_words.specs.Asked.{Command}
use Rattle.command_words.specs.Requests.{Task, checking, proof_of, to_of, upgrading, validation}
use Rattle.shex_inputs.specs.declared.error.Source.{Source}
use Rattle.shex_inputs.specs.declared.error.Source.TheVariants as Sources
use Rattle.shex_inputs.specs.Held.{Held, IsTaken}
use Rattle.shex_run.specs.declared.stop.File.TheVariants as Files
use Rattle.shex_run.specs.Outcomes.{ReachesProof}
use Rattle.shex_run.specs.Statuses.{Concludes}
use Rattle.shex_run.specs.Tasks.{IsInputOf, act_of, checked_of, inputs_of, stored_of}

-- nothing is no value
pub nothing : {A : Type 0} (x : A) → None ≡ Some x → ⊥
nothing x h = cc

-- a task that checks a proof validates nothing
pub no_both : (m : Text) (p : Option Text) (n : ℕ) (t : Task) (name : Text) → t ≡ validation m p n → checked_of t ≡ Some name → ⊥
no_both m p n (validation a b k) name h is = nothing name is
no_both m p n (checking x) name h is = cc
no_both m p n (upgrading x to) name h is = cc

-- and has no map
pub no_map : (t : Task) (name : Text) → checked_of t ≡ Some name → (source : Source) → IsInputOf t source → source ≢ Sources.Map
no_map (validation m p n) name is source h = absurd (nothing name is)
no_map (checking x) name is (Sources.Schema file) h = λ e. cc
no_map (checking x) name is Sources.Data h = λ e. cc
no_map (checking x) name is Sources.Map h = absurd h
no_map (upgrading x to) name is (Sources.Schema file) h = λ e. cc
no_map (upgrading x to) name is Sources.Data h = λ e. cc
no_map (upgrading x to) name is Sources.Map h = absurd h

-- its inputs are taken where the steps come to the proof
pub reaches : (told : Told) (c : Command) (t : Task) (name : Text) → checked_of t ≡ Some name → (h : Held) → IsTaken told (inputs_of c) h → ReachesProof told c t
reaches told c (validation m p n) name is h taken = absurd (nothing name is)
reaches told c (checking x) name is h taken = (h, taken)
reaches told c (upgrading x to) name is h taken = (h, taken)

-- the name and the act of the proof
pub fetched_name : (t : Task) (name : Text) → checked_of t ≡ Some name → name ≡ unwrap_or (proof_of t) []
fetched_name (validation m p n) name is = absurd (nothing name is)
fetched_name (checking x) name is = sym (ap (λ o. unwrap_or o []) is)
fetched_name (upgrading x to) name is = sym (ap (λ o. unwrap_or o []) is)

pub fetched_act : (t : Task) (name : Text) → checked_of t ≡ Some name → Acts.Fetch ≡ act_of t Files.Proof
fetched_act (validation m p n) name is = absurd (nothing name is)
fetched_act (checking x) name is = refl
fetched_act (upgrading x to) name is = refl

-- the name of the file in which it stores the proof, if it stores it
pub stored_name : (t : Task) (name to : Text) → checked_of t ≡ Some name → stored_of t ≡ Some to → to ≡ unwrap_or (to_of t) []
stored_name (validation m p n) name to is at = absurd (nothing name is)
stored_name (checking x) name to is at = absurd (nothing to at)
stored_name (upgrading x y) name to is at = sym (ap (λ o. unwrap_or o []) at)

-- how it concludes
pub concludes : (t : Task) (name : Text) → checked_of t ≡ Some name → (status : ℕ) → (status ≡ 0) ⊎ ((status ≡ 3) ⊎ (status ≡ 6)) → Concludes t status
concludes (validation m p n) name is status h = absurd (nothing name is)
concludes (checking x) name is status h = h
concludes (upgrading x to) name is status h = h
