-- What of a phrase is left after one character.
use Rattle.std.proofs.Common.{ℕ, Bool, true, false, ◌&&◌, ◌||◌, List, [], ◌∷◌}
use Rattle.std.specs.Prelude.{nat_eq}
use Rattle.rdf_lex.specs.Characters.{Class, Only, Among, Except, has, Ranges}
use Rattle.rdf_lex.specs.Phrases.{Phrase, nothing, empty, one, ◌⨾◌, ◌∣◌, each}

-- whether the empty text is spelled
abbrev pub ends : Phrase → Bool
ends nothing = false
ends empty = true
ends (one q) = false
ends (p ⨾ q) = ends p && ends q
ends (p ∣ q) = ends p || ends q
ends (each p) = true

-- either, without what spells nothing
abbrev pub beside : Phrase → Phrase → Phrase
beside p nothing = p
beside p empty = p ∣ empty
beside p (one q) = p ∣ one q
beside p (a ⨾ b) = p ∣ (a ⨾ b)
beside p (a ∣ b) = p ∣ (a ∣ b)
beside p (each a) = p ∣ each a

abbrev pub either : Phrase → Phrase → Phrase
either nothing q = q
either empty q = beside empty q
either (one a) q = beside (one a) q
either (a ⨾ b) q = beside (a ⨾ b) q
either (a ∣ b) q = beside (a ∣ b) q
either (each a) q = beside (each a) q

-- one behind the other, where the first is neither a sequence nor a choice: choices behind it are taken apart
abbrev pub follow : Phrase → Phrase → Phrase
follow a nothing = nothing
follow a empty = a
follow a (b ∣ c) = follow a b ∣ follow a c
follow a (one b) = a ⨾ one b
follow a (b ⨾ c) = a ⨾ (b ⨾ c)
follow a (each b) = a ⨾ each b

-- one behind the other
abbrev pub both : Phrase → Phrase → Phrase
both nothing q = nothing
both empty q = q
both (a ⨾ b) q = follow a (both b q)
both (one a) q = follow (one a) q
both (a ∣ b) q = either (both a q) (both b q)
both (each a) q = follow (each a) q

-- a phrase whose choices are all taken apart
abbrev pub normal : Phrase → Phrase
normal nothing = nothing
normal empty = empty
normal (one q) = one q
normal (p ⨾ q) = both (normal p) (normal q)
normal (p ∣ q) = either (normal p) (normal q)
normal (each p) = each (normal p)

abbrev pub when : Bool → Phrase → Phrase
when true p = p
when false p = nothing

-- what is left after this character
abbrev pub past : ℕ → Phrase → Phrase
past c nothing = nothing
past c empty = nothing
past c (one q) = when (has q c) empty
past c (p ⨾ q) = either (both (past c p) q) (when (ends p) (past c q))
past c (p ∣ q) = either (past c p) (past c q)
past c (each p) = both (past c p) (each p)

abbrev pub past_all : List ℕ → Phrase → Phrase
past_all [] p = p
past_all (c ∷ cs) p = past_all cs (past c p)

-- the same phrase
abbrev pub same_ranges : Ranges → Ranges → Bool
same_ranges [] [] = true
same_ranges [] (s ∷ ss) = false
same_ranges (r ∷ rs) [] = false
same_ranges (r ∷ rs) (s ∷ ss) = nat_eq r.0 s.0 && (nat_eq r.1 s.1 && same_ranges rs ss)

abbrev pub same_class : Class → Class → Bool
same_class (Only c) (Only d) = nat_eq c d
same_class (Among rs) (Among ss) = same_ranges rs ss
same_class (Except rs) (Except ss) = same_ranges rs ss
same_class (Only c) q = false
same_class (Among rs) q = false
same_class (Except rs) q = false

abbrev pub same : Phrase → Phrase → Bool
same nothing nothing = true
same empty empty = true
same (one a) (one b) = same_class a b
same (a ⨾ b) (c ⨾ d) = same a c && same b d
same (a ∣ b) (c ∣ d) = same a c && same b d
same (each a) (each b) = same a b
same nothing q = false
same empty q = false
same (one a) q = false
same (a ⨾ b) q = false
same (a ∣ b) q = false
same (each a) q = false

-- one of the choices of the second is the first
abbrev pub stands_in : Phrase → Phrase → Bool
stands_in a (b ∣ c) = stands_in a b || stands_in a c
stands_in a nothing = same a nothing
stands_in a empty = same a empty
stands_in a (one b) = same a (one b)
stands_in a (b ⨾ c) = same a (b ⨾ c)
stands_in a (each b) = same a (each b)

-- each choice of the first is one of the second
abbrev pub covered : Phrase → Phrase → Bool
covered nothing q = true
covered (a ∣ b) q = covered a q && covered b q
covered empty q = stands_in empty q
covered (one a) q = stands_in (one a) q
covered (a ⨾ b) q = stands_in (a ⨾ b) q
covered (each a) q = stands_in (each a) q

-- both have the same choices
abbrev pub alike : Phrase → Phrase → Bool
alike p q = covered p q && covered q p
