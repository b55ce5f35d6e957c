-- What a fetch that stops says of the file.
use Rattle.std.proofs.Common.{◌≡◌, ◌≢◌, ◌≤◌, ◌<◌, ℕ, List, Result, Ok, Err, arith, length, refl}
use Rattle.std.proofs.lemmas.List.{length-replicate}
use Rattle.std.specs.Prelude.{IfErr, Option, Some, None, replicate}
use Rattle.shex_io.specs.Faults.{Rose}
use Rattle.shex_io.specs.Files.{IsTakenOf, IsTakenOfHeld, Told}
use Rattle.shex_io.specs.declared.files.Act.{Act}
use Rattle.shex_io.specs.declared.files.Act.TheVariants.{Fetch}
use Rattle.shex_io.specs.declared.files.FetchError.{FetchError}
use Rattle.shex_io.specs.declared.files.FetchError.TheVariants as errors
use Rattle.shex_io.specs.Fetching.{FetchStops, IsTooLong, max_file}

nought : ℕ
nought = 0

-- where more than the limit was taken, the file is too long
too_long : (told : Told) (name : List ℕ) (taken : ℕ) → IsTakenOf told name max_file taken → max_file < taken → IsTooLong told name
too_long None name taken is more = record {
  bytes = replicate taken nought;
  held = tt;
  above = let l : length (replicate taken nought) ≡ taken = length-replicate taken nought in omega (arith, l, more);
}
too_long (Some contents) name taken is more = go (contents name) refl is
  where
    go : (held : Option (List ℕ)) → contents name ≡ held → IsTakenOfHeld held max_file taken → IsTooLong (Some contents) name
    go None e h = absurd h
    go (Some bytes) e h = record { bytes = bytes; held = e; above = omega (arith, h, more) }

apart_long : errors.Long ≡ errors.Failed → ⊥
apart_long e = cc

apart_memory : errors.Memory ≡ errors.Failed → ⊥
apart_memory e = cc

one_error : {A : Type 0} (e f : FetchError) → Path (Result A FetchError) (Err e) (Err f) → e ≡ f
one_error e f h = cc

module _ {A : Type 0} (told : Told) (name : List ℕ) (taken before after : ℕ) (blame : List ℕ) (act : Act) where
  pub fetch_stops :
      (r : Result A FetchError) → (r ≡ Err errors.Failed → Rose before after) → before ≤ after → (r ≡ Err errors.Failed → blame ≡ name) → (r ≡ Err errors.Failed → act ≡ Fetch) →
      (r ≡ Err errors.Long → IsTakenOf told name max_file taken) → (r ≡ Err errors.Long → max_file < taken) → (r ≢ Err errors.Failed → after ≡ before) →
      IfErr r (FetchStops told name before after blame act)
  fetch_stops (Ok bytes) rose falls blamed acted part more stay = tt
  fetch_stops (Err errors.Failed) rose falls blamed acted part more stay = (rose refl, falls, blamed refl, acted refl)
  fetch_stops (Err errors.Long) rose falls blamed acted part more stay = (too_long told name taken (part refl) (more refl), stay (λ h. apart_long (one_error errors.Long errors.Failed h)))
  fetch_stops (Err errors.Memory) rose falls blamed acted part more stay = stay (λ h. apart_memory (one_error errors.Memory errors.Failed h))
