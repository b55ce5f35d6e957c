-- A text spells a pattern under given flags or it does not.
use Rattle.std.proofs.Common.{◌≡◌, ℕ, ◌⊎◌, inl, inr, List, Option, Some, None, Bool, true, false, refl, sym, ap, subst, ◌∙◌}
use Rattle.std.specs.Prelude.{MatchBool}
use Rattle.std.proofs.lemmas.Option.{same_Some}
use Rattle.xs_pattern.proofs.Lexed.{tokens_complete, well_placed}
use Rattle.xs_pattern.proofs.Parsed.{spelled_meaning}
use Rattle.xs_pattern.proofs.Sound.{tokens_sound}
use Rattle.xs_pattern.specs.Flagged.{IsSpelledUnder, has_flag, literal}
use Rattle.xs_pattern.specs.Lexing.{read_tokens}
use Rattle.xs_pattern.specs.Parsing.{IsSpelled, is_spelled}
use Rattle.xs_pattern.specs.Regex.{Regex}
use Rattle.xs_pattern.specs.Spelling.{Spells, SpellsTokens}
use Rattle.xs_pattern.specs.Tokens.{Token, tokens}

abbrev IsSpelledPlain : List ℕ → Type 0
IsSpelledPlain text = (e : Regex) × Spells e text

-- tokens of a pattern that are read from a text are those of a pattern that it spells
pattern_of : (text : List ℕ) (us : List Token) → read_tokens text ≡ Some us → IsSpelled us → IsSpelledPlain text
pattern_of text us read (e, same, made) = (e, (made, subst (λ v. SpellsTokens v text) (sym same) (tokens_sound text us read)))

by_tokens : (text : List ℕ) (us : List Token) → read_tokens text ≡ Some us → (b : Bool) → b ≡ is_spelled 0 false us → IsSpelledPlain text ⊎ (¬ IsSpelledPlain text)
by_tokens text us read true told = inl (pattern_of text us read ((spelled_meaning us true told).0 refl))
by_tokens text us read false told = inr none
  where
    none : ¬ IsSpelledPlain text
    none (e, s) =
        let same : us ≡ tokens e = same_Some us (tokens e) (sym read ∙ tokens_complete e text s) in
        let placed : is_spelled 0 false us ≡ true = ap (is_spelled 0 false) same ∙ well_placed e s.0 in
        absurd (cc)

by_reading : (text : List ℕ) (o : Option (List Token)) → read_tokens text ≡ o → IsSpelledPlain text ⊎ (¬ IsSpelledPlain text)
by_reading text None read = inr (λ h. let complete = tokens_complete h.0 text h.1 in absurd (cc))
by_reading text (Some us) read = by_tokens text us read (is_spelled 0 false us) refl

under : (quoted : Bool) (text : List ℕ) →
    ((e : Regex) × MatchBool quoted (e ≡ literal text) (Spells e text)) ⊎ (¬ ((e : Regex) × MatchBool quoted (e ≡ literal text) (Spells e text)))
under true text = inl (literal text, refl)
under false text = by_reading text (read_tokens text) refl

pub decide_spelling : (flags text : List ℕ) → IsSpelledUnder flags text ⊎ (¬ IsSpelledUnder flags text)
decide_spelling flags text = under (has_flag 113 flags) text
