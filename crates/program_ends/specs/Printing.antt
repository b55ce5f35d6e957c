-- How printing ends.
use Rattle.std.specs.Prelude.{ℕ, List, ◌≡◌, ◌≤◌, ◌⊎◌, Option}
use Rattle.shex_io.specs.Faults.{Rose}
use Rattle.shex_io.specs.Sinks.{Gains, GainsPrefix}

-- a prefix of the text is printed, and the status is 7, where the sink failed, or 8, where memory ran out
abbrev pub IsCut : Option (List ℕ) → Option (List ℕ) → ℕ → ℕ → List ℕ → ℕ → Type 0
IsCut before after faults faults_after text status =
    ((status ≡ 7) × GainsPrefix before after text × Rose faults faults_after × (faults ≤ faults_after))
    ⊎ ((status ≡ 8) × GainsPrefix before after text × (faults_after ≡ faults))

-- the text is printed whole and the status is the one that is wanted; or printing stopped
abbrev pub Prints : Option (List ℕ) → Option (List ℕ) → ℕ → ℕ → List ℕ → ℕ → ℕ → Type 0
Prints before after faults faults_after text wanted status =
    ((status ≡ wanted) × Gains before after text × (faults_after ≡ faults)) ⊎ IsCut before after faults faults_after text status

-- a sink before and after a call: what it got, if that is told, and the count of faults
pub record SinkSeen : Type 0 where
  pub got : Option (List ℕ)
  pub got_after : Option (List ℕ)
  pub faults : ℕ
  pub faults_after : ℕ

-- what is seen of a sink in a call, by what it tells before and after
abbrev pub sink_seen : {Sink : Type 0} → (Sink → Option (List ℕ)) → (Sink → ℕ) → Sink → Sink → SinkSeen
sink_seen got faults before after = record { got = got before; got_after = got after; faults = faults before; faults_after = faults after }

-- nothing was printed, and no fault came
pub record IsQuiet (sink : SinkSeen) : Type 0 where
  pub got_same : sink.got_after ≡ sink.got
  pub faults_same : sink.faults_after ≡ sink.faults

-- the text was printed, or a prefix of it where printing stopped
abbrev pub PrintsTo : SinkSeen → List ℕ → ℕ → ℕ → Type 0
PrintsTo sink text wanted status = Prints sink.got sink.got_after sink.faults sink.faults_after text wanted status

-- the text was printed to the output, and then the notes to the error stream, or a prefix where printing stopped
abbrev pub PrintsBoth : SinkSeen → SinkSeen → List ℕ → List ℕ → ℕ → ℕ → Type 0
PrintsBoth out err text notes wanted status =
    (Gains out.got out.got_after text × (out.faults_after ≡ out.faults) × PrintsTo err notes wanted status)
    ⊎ (IsCut out.got out.got_after out.faults out.faults_after text status × IsQuiet err)
