-- What reading a pattern answers, and why nothing else.
use Rattle.std.proofs.Common.{◌≡◌, ◌⊎◌, inl, inr, ℕ, arith, List, [], ◌∷◌, refl, sym, subst, ◌∙◌, Bool, true, false, map}
use Rattle.std.specs.Prelude.{Result, Ok, Err, MatchBool, MatchResult}
use Rattle.std.specs.Result.{IsErrOf}
use Rattle.xs_pattern.specs.declared.expression.Item.TheVariants as Items
use Rattle.xs_pattern.specs.declared.pattern.Pattern.{Pattern}
use Rattle.xs_pattern.specs.declared.pattern_error.PatternError.{PatternError}
use Rattle.xs_pattern.specs.declared.pattern_error.PatternError.TheVariants.{Flag, Syntax, Large, Memory}
use Rattle.xs_pattern.specs.Ends.{Ends}
use Rattle.xs_pattern.specs.Parses.{IsMeasured, IsUnmeasured, ParsesUnder}
use Rattle.xs_pattern.specs.Flagged.{AreFlags, SpellsUnder, has_flag, literal}
use Rattle.xs_pattern.specs.Limits.{IsLarge, greatest_of_all, deepest_nesting}
use Rattle.xs_pattern.specs.Patterns.{regex}
use Rattle.xs_pattern.specs.Regex.{Regex, item, one, row}
use Rattle.xs_pattern.specs.Spelling.{Spells}
use Rattle.xs_pattern.proofs.Lexed.{one_pattern}

-- a text spells at most one pattern under given flags
unique_by : (quoted : Bool) (text : List ℕ) (e d : Regex) → MatchBool quoted (e ≡ literal text) (Spells e text) → MatchBool quoted (d ≡ literal text) (Spells d text) → e ≡ d
unique_by true text e d h k = h ∙ sym k
unique_by false text e d h k = one_pattern text e d h k

pub one_under : (flags text : List ℕ) (e d : Regex) → SpellsUnder flags e text → SpellsUnder flags d text → e ≡ d
one_under flags text e d h k = unique_by (has_flag 113 flags) text e d h k

-- a literal has no quantifier, no group and no class
plain_greatest : (text : List ℕ) → greatest_of_all (row (map (λ c. one (item (Items.Char c))) text)) ≡ 0
plain_greatest [] = refl
plain_greatest (c ∷ cs) = let e = plain_greatest cs in omega arith

plain_nesting : (text : List ℕ) → deepest_nesting (row (map (λ c. one (item (Items.Char c))) text)) ≡ 0
plain_nesting [] = refl
plain_nesting (c ∷ cs) = let e = plain_nesting cs in omega arith

literal_measured : (text : List ℕ) → IsMeasured (literal text)
literal_measured text = let e = plain_greatest text in let f = plain_nesting text in (omega arith, omega arith)

pub literal_read : (flags text : List ℕ) (e : Regex) → has_flag 113 flags ≡ true → e ≡ literal text → SpellsUnder flags e text × IsMeasured e
literal_read flags text e quoted is = (
  subst (λ b. MatchBool b (e ≡ literal text) (Spells e text)) (sym quoted) is,
  subst IsMeasured (sym is) (literal_measured text),
)

-- an error of the expression is one of the pattern
unmeasured_large : (e : Regex) → IsUnmeasured e → IsLarge e
unmeasured_large e (inl h) = inl h
unmeasured_large e (inr h) = inr (inl h)

pub refused : (flags text : List ℕ) (x : PatternError) → AreFlags flags → ParsesUnder flags text (Err x) → Ends flags text (Err x)
refused flags text Flag known h = absurd h
refused flags text Syntax known h = (known, h)
refused flags text Large known h = (known, (h.0, h.1, unmeasured_large h.0 h.2))
refused flags text Memory known h = known

pub too_large_refused : (flags text : List ℕ) (r : Result Pattern PatternError) → Ends flags text r → AreFlags flags → (e : Regex) → SpellsUnder flags e text →
    IsLarge e → IsErrOf r Large ⊎ IsErrOf r Memory
too_large_refused flags text (Ok p) h known e s large = absurd (h.3 (subst IsLarge (one_under flags text e (regex p) s h.1) large))
too_large_refused flags text (Err Flag) h known e s large = absurd (h known)
too_large_refused flags text (Err Syntax) h known e s large = absurd (h.1 (e, s))
too_large_refused flags text (Err Large) h known e s large = inl refl
too_large_refused flags text (Err Memory) h known e s large = inr refl

pub good_read : (flags text : List ℕ) (r : Result Pattern PatternError) → Ends flags text r → AreFlags flags → (e : Regex) → SpellsUnder flags e text →
    (¬ IsLarge e) → MatchResult r (λ p. regex p ≡ e) (λ x. x ≡ Memory)
good_read flags text (Ok p) h known e s small = one_under flags text (regex p) e h.1 s
good_read flags text (Err Flag) h known e s small = absurd (h known)
good_read flags text (Err Syntax) h known e s small = absurd (h.1 (e, s))
good_read flags text (Err Large) (a, (d, t, l)) known e s small = absurd (small (subst IsLarge (one_under flags text d e t s) l))
good_read flags text (Err Memory) h known e s small = refl
