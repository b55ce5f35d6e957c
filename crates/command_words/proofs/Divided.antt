-- Where the last `=` of a word stands.
use Rattle.std.proofs.Common.{◌≡◌, ◌≢◌, ◌∙◌, ◌==◌, [], ◌∷◌, ◌++◌, sym, ap, subst, take, drop, length, get_or, refl, arith, lit<, None, Bool, true, false, true≢false, eq-eqb}
use Rattle.std.specs.Str.{NoCharPasses}
use Rattle.std.specs.Str.Pattern.{RFindsChar, SplitsAroundMatch}
use Rattle.std.proofs.lemmas.Bool.{eqb-true}
use Rattle.std.proofs.lemmas.List.{nil_from_length, take-append-drop, get_or_at, length-append}
use Rattle.std.proofs.lemmas.List.Elements.{All-from_get_or}
use Rattle.std.proofs.lemmas.Str.Pattern.{NoCharPasses-char, drop_at_char}
use Rattle.clap.specs.Words.{Text}
use Rattle.iri_resolve.specs.Text.{Lacks}
use Rattle.input_names.specs.Names.{Import}
use Rattle.command_words.specs.Checks.{Divides}
use Rattle.command_words.proofs.Once.{one_split}

-- the parts round the last `=`
pub record Parts (word front back : Text) : Type 0 where
  pub whole : word ≡ front ++ (61 ∷ back)
  pub last : Lacks 61 back

pub parts : (word front back : Text) → SplitsAroundMatch (RFindsChar 61) word front back → Parts word front back
parts word front back h = record {
  whole = sym (take-append-drop h.0 word) ∙ ap (λ t. take h.0 word ++ t) (drop_at_char 61 word h.0 h.1 h.2.1 (lit< tt)) ∙ ap (λ t. t ++ (61 ∷ drop h.1 word))
      (sym h.3) ∙ ap (λ t. front ++ (61 ∷ t)) (sym h.4);
  last = All-from_get_or (λ b. b ≢ 61) back 0 (λ k l e. NoCharPasses-char 61 back k (subst (NoCharPasses (λ d. d == 61)) (sym h.4) h.2.0) (lit< tt) l e);
}

-- a word without `=` gives no import
pub undivided : (word : Text) → RFindsChar 61 word None → (i : Import) → ¬ Divides word i
undivided word none i d =
    NoCharPasses-char 61 word (length i.iri) none (lit< tt)
    (omega (arith, ap length d.whole, length-append i.iri (61 ∷ i.file)))
    (ap (λ t. get_or t (length i.iri) 0) d.whole ∙ get_or_at i.iri 61 i.file 0 (length i.iri) refl)

-- the parts of an import are these
pub are_parts : (word front back : Text) (i : Import) → Parts word front back → Divides word i → (i.iri ≡ front) × (i.file ≡ back)
are_parts word front back i p d = one_split i.iri i.file front back d.last p.last (sym d.whole ∙ p.whole)

pub empty_text : (xs : Text) (b : Bool) → b ≡ (length xs == 0) → b ≡ true → xs ≡ []
empty_text xs b e t = nil_from_length xs (eqb-true (length xs) 0 (sym e ∙ t))

pub some_text : (xs : Text) (b : Bool) → b ≡ (length xs == 0) → b ≡ false → xs ≢ []
some_text xs b e f none = true≢false (sym (eq-eqb (length xs) 0 (ap length none)) ∙ sym e ∙ f)
