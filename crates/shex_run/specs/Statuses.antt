-- The statuses with which a call ends.
use Rattle.std.specs.Prelude.{ℕ, Bool, List, ◌≡◌, ◌⊎◌, if◌then◌else◌, length, map, nat_lt}
use Rattle.std.specs.Bool.{beq}
use Rattle.std.specs.List.{list_all, zip}
use Rattle.schema_tree.specs.declared.schema.Answer.{Answer}
use Rattle.shape_map.specs.declared.resolve.Association.{Association}
use Rattle.proof_checker.specs.declared.checking.CheckError.{CheckError}
use Rattle.proof_checker.specs.declared.checking.CheckError.TheVariants as CheckErrors
use Rattle.command_words.specs.Requests.{Task, checking, upgrading, validation}
use Rattle.shex_run.specs.declared.stop.Refusal.{Refusal}
use Rattle.shex_run.specs.declared.stop.Refusal.TheVariants as Refusals

-- each answer is as it is wanted
unfoldable pub are_wanted : List Bool → List Answer → Bool
are_wanted wants answers = list_all (λ (p : Bool × Answer). beq p.0 p.1.holds) (zip wants answers)

-- the status of answers by what is wanted: 4 where there are fewer, 0 where each is as it is wanted, and else 1
unfoldable pub status_by : List Bool → List Answer → ℕ
status_by wants answers = if nat_lt (length answers) (length wants) then 4 else if are_wanted wants answers then 0 else 1

-- the status of answers: 4 where an association has none, 0 where each is as its association wants, and else 1
abbrev pub status_of : List Association → List Answer → ℕ
status_of associations answers = status_by (map (λ a. a.want) associations) answers

-- the status of a call that answers
abbrev pub IsAnswering : ℕ → Type 0
IsAnswering status = (status ≡ 0) ⊎ ((status ≡ 1) ⊎ (status ≡ 4))

-- the statuses: 0, 1 and 4 for answers, 2 for the words, 3 for the inputs, 5 for a file, 6 for a proof, 7 for a sink, 8 for
-- memory
abbrev pub IsStatus : ℕ → Type 0
IsStatus status = IsAnswering status ⊎ ((status ≡ 2) ⊎ ((status ≡ 3) ⊎ ((status ≡ 5) ⊎ ((status ≡ 6) ⊎ ((status ≡ 7) ⊎ (status ≡ 8))))))

-- the status of a proof that is not accepted: 6 where it is rejected, and 3 where the table cannot take up its node lines (want of
-- memory, which is no refusal, has 6 here too)
abbrev pub check_status : CheckError → ℕ
check_status (CheckErrors.Syntax at) = 6
check_status (CheckErrors.Stale part) = 6
check_status CheckErrors.Strata = 6
check_status (CheckErrors.Rejected number why) = 6
check_status CheckErrors.Full = 3
check_status CheckErrors.Memory = 6

-- the status of a refusal
abbrev pub refusal_status : Refusal → ℕ
refusal_status (Refusals.Input refusal) = 3
refusal_status (Refusals.Proof error) = check_status error

-- a fault of the outside or want of memory ended the call
abbrev pub IsInterrupted : ℕ → Type 0
IsInterrupted status = (status ≡ 5) ⊎ ((status ≡ 7) ⊎ (status ≡ 8))

-- the statuses of a task whose inputs are taken: 0, 1 or 4; or, where a proof is checked, 0, 3 or 6
abbrev pub Concludes : Task → ℕ → Type 0
Concludes (validation map_name proof_name budget) status = IsAnswering status
Concludes (checking name) status = (status ≡ 0) ⊎ ((status ≡ 3) ⊎ (status ≡ 6))
Concludes (upgrading name to_name) status = (status ≡ 0) ⊎ ((status ≡ 3) ⊎ (status ≡ 6))
