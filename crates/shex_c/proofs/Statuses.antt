-- Which statuses a call in memory can have: the sinks do not fail.
use Rattle.std.proofs.Common.{arith, inl, inr, ℕ, ◌-◌, ◌<◌, ◌≡◌, ◌≤◌, ◌⊎◌, ◌^◌}
use Rattle.shex_run.specs.Statuses.{IsStatus}
use Rattle.shex_tools.specs.Statuses.{IsStatus as IsToolStatus}

-- a count of faults that stays 0 rose
abbrev pub Rises : Type 0
Rises = (0 < 0) ⊎ (2 ^ 64 - 1 ≤ 0)

none_rises : Rises → ⊥
none_rises (inl below) = omega (arith, below)
none_rises (inr above) = omega (arith, above)

neither_rises : Rises ⊎ Rises → ⊥
neither_rises (inl out) = none_rises out
neither_rises (inr err) = none_rises err

pub low_or_memory : (status : ℕ) → IsStatus status → (status ≡ 7 → Rises ⊎ Rises) → (status < 7) ⊎ (status ≡ 8)
low_or_memory status (inl (inl e)) failed = inl (omega (arith, e))
low_or_memory status (inl (inr (inl e))) failed = inl (omega (arith, e))
low_or_memory status (inl (inr (inr e))) failed = inl (omega (arith, e))
low_or_memory status (inr (inl e)) failed = inl (omega (arith, e))
low_or_memory status (inr (inr (inl e))) failed = inl (omega (arith, e))
low_or_memory status (inr (inr (inr (inl e)))) failed = inl (omega (arith, e))
low_or_memory status (inr (inr (inr (inr (inl e))))) failed = inl (omega (arith, e))
low_or_memory status (inr (inr (inr (inr (inr (inl e)))))) failed = absurd (neither_rises (failed e))
low_or_memory status (inr (inr (inr (inr (inr (inr e)))))) failed = inr e

pub tool_low_or_memory : (status : ℕ) → IsToolStatus status → (status ≡ 7 → Rises ⊎ Rises) → (status < 7) ⊎ (status ≡ 8)
tool_low_or_memory status (inl (inl e)) failed = inl (omega (arith, e))
tool_low_or_memory status (inl (inr (inl e))) failed = inl (omega (arith, e))
tool_low_or_memory status (inl (inr (inr e))) failed = inl (omega (arith, e))
tool_low_or_memory status (inr (inl e)) failed = inl (omega (arith, e))
tool_low_or_memory status (inr (inr (inl e))) failed = inl (omega (arith, e))
tool_low_or_memory status (inr (inr (inr (inl e)))) failed = inl (omega (arith, e))
tool_low_or_memory status (inr (inr (inr (inr (inl e))))) failed = absurd (neither_rises (failed e))
tool_low_or_memory status (inr (inr (inr (inr (inr e))))) failed = inr e
