-- Frames in the code and in the definitions.
use Rattle.std.proofs.Common.{◌≡◌, ℕ, List, [], ◌∷◌, ◌++◌, refl, sym, ap, ◌∙◌, map}
use Rattle.std.proofs.lemmas.List.{map-append}
use Rattle.std.specs.Prelude.{Option}
use Rattle.std.specs.declared.alloc.Global.{Global}
use Rattle.std.specs.declared.boxed.Box.{Box}
use Rattle.xs_pattern.specs.declared.expression.Expression.{Expression, Repeat}
use Rattle.xs_pattern.specs.Parsing.{Frame}
use Rattle.xs_pattern.specs.Regex.{Regex, regex_of, repeat}
use Rattle.xs_pattern.proofs.Children.{is_repeat}

abbrev pub framed : List Regex → List Regex → Option Regex → Frame
framed bs ps a = record { branches = bs; pieces = ps; atom = a }

pub same_frame : (bs ps qs : List Regex) (a o : Option Regex) → ps ≡ qs → a ≡ o → framed bs ps a ≡ framed bs qs o
same_frame bs ps qs a o p q = λ i. framed bs (p i) (q i)

-- a quantified atom among the pieces
pub quantified_piece : (new old : List Expression) (least : ℕ) (most : Option ℕ) (b : Box Expression Global) (atom : Expression) →
    new ≡ old ++ Repeat least most b ∷ [] → b.value ≡ atom → map regex_of new ≡ map regex_of old ++ repeat least most (regex_of atom) ∷ []
quantified_piece new old least most b atom is at =
    ap (map regex_of) is ∙ (map-append regex_of old (Repeat least most b ∷ [])
    ∙ ap (λ e. map regex_of old ++ e ∷ []) (is_repeat (Repeat least most b) least most b atom refl (sym at)))
