-- The laws of copies and intervals.
use Rattle.std.specs.Prelude.{ℕ, ◌+◌, ◌≡◌, ◌↔◌, true, List}
use Rattle.tally.specs.Copies.{Copies}
use Rattle.tally.specs.Deals.{DealsInto, HaveCounts, Matches}
use Rattle.tally.specs.Plan.{Plan}
use Rattle.tally.specs.Span.{HasSpan, IsSound, span}
use Rattle.tally.specs.Symbols.{IsDistinct, IsUnder, has_symbol}

-- the interval of counts has exactly the numbers of copies that they spell
abbrev pub IntervalHasCopies : Type 0
IntervalHasCopies =
    (p : Plan) (counts : ℕ → ℕ) (k : ℕ) → IsSound p → HasSpan (span p counts counts) k ↔ Copies p counts k

-- counts spell k copies exactly where symbols with these counts, in whatever order, divide into k parts that match
abbrev pub CopiesAreDeals : Type 0
CopiesAreDeals =
    (p : Plan) (symbols : List ℕ) (counts : ℕ → ℕ) (k : ℕ) → IsDistinct p → IsSound p →
    HaveCounts p symbols counts → Copies p counts k ↔ DealsInto (Matches p) k symbols

-- the interval of a box has the numbers of copies of all counts in it
abbrev pub BoxHoldsCopies : Type 0
BoxHoldsCopies =
    (p : Plan) (low counts high : ℕ → ℕ) (k : ℕ) → IsUnder p low counts → IsUnder p counts high →
    Copies p counts k → HasSpan (span p low high) k

-- counts that agree at an expression's own symbols spell the same numbers of copies
abbrev pub OwnSymbolsDecide : Type 0
OwnSymbolsDecide =
    (p : Plan) (these those : ℕ → ℕ) (k : ℕ) → ((i : ℕ) → has_symbol i p ≡ true → these i ≡ those i) →
    Copies p these k → Copies p those k

-- counts of 0 spell 0 copies
abbrev pub NothingSpellsZero : Type 0
NothingSpellsZero =
    (p : Plan) (counts : ℕ → ℕ) → ((i : ℕ) → has_symbol i p ≡ true → counts i ≡ 0) → Copies p counts 0

-- where two counts spell two numbers of copies, their sum spells the sum
abbrev pub CopiesAdd : Type 0
CopiesAdd =
    (p : Plan) (these those : ℕ → ℕ) (a b : ℕ) → Copies p these a → Copies p those b →
    Copies p (λ i. these i + those i) (a + b)
