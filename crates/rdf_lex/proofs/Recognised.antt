-- The machine ends in a state of a kind exactly behind the texts that the kind's phrase spells.
use Rattle.std.proofs.Common.{◌≡◌, ℕ, Bool, true, cond, List, [], ◌∷◌, Option, Some, None, refl, sym, ap, subst, ◌∙◌}
use Rattle.rdf_lex.specs.declared.kinds.Kind.{Kind}
use Rattle.rdf_lex.specs.declared.kinds.Mode.{Mode}
use Rattle.rdf_lex.specs.declared.machine.State.{State}
use Rattle.rdf_lex.specs.declared.machine.State.TheVariants.{Start}
use Rattle.rdf_lex.specs.Characters.{has}
use Rattle.rdf_lex.specs.Machine.{Rows, rows_of, following, step_of, label_of}
use Rattle.rdf_lex.specs.Phrases.{Phrase, Spells}
use Rattle.rdf_lex.specs.Spelling.{Spelling}
use Rattle.rdf_lex.proofs.Derivatives.{ends, past, normal, covered, alike}
use Rattle.rdf_lex.proofs.Languages.{and_true, to_ends, from_ends, to_past, from_past, to_normal, from_normal, from_covered}
use Rattle.rdf_lex.proofs.Plain.{Plain, plain_class, both_or_none, alike_bools, has_sample, is_plain, past_sample, plain_normal, plain_past_all}
use Rattle.rdf_lex.proofs.Residuals.{way, residual, residual_on, is_kind, is_kind_some, some_is_kind, every_kind_is, agrees, labelled, plain_rows, rows_plain, is_steady, spelling_plain, at_sample}
use Rattle.rdf_lex.proofs.Samples.{sample, samples, every}

abbrev pub then_from : Option State → (State → Option Kind) → Option Kind
then_from None f = None
then_from (Some s) f = f s

-- the kind of a text, read from a state on
abbrev pub kind_from : Mode → State → List ℕ → Option Kind
kind_from m s [] = label_of m s
kind_from m s (c ∷ cs) = then_from (step_of s c) (λ t. kind_from m t cs)

follows_sample : (rows : Rows) (c : ℕ) → plain_rows rows ≡ true → following rows c ≡ following rows (sample c)
follows_sample [] c e = refl
follows_sample (row ∷ rows) c e =
    let (f, g) = and_true (plain_class row.0) (plain_rows rows) e in
    ap (λ (b : Bool). cond b (Some row.1) (following rows c)) (has_sample row.0 c f) ∙ ap (λ (o : Option State). cond (has row.0 (sample c)) (Some row.1) o) (follows_sample rows c g)

step_sample : (s : State) (c : ℕ) → step_of s c ≡ step_of s (sample c)
step_sample s c = follows_sample (rows_of s) c (rows_plain s)

residual_plain : (m : Mode) (s : State) (k : Kind) (c : ℕ) → Plain (residual m s k) c
residual_plain m s k c = plain_past_all (way s) (normal (Spelling m k)) c (plain_normal (Spelling m k) c (is_plain (Spelling m k) c (spelling_plain m k)))

next_alike : (m : Mode) (s : State) (k : Kind) (c : ℕ) → alike (past (sample c) (residual m s k)) (residual_on m (step_of s (sample c)) k) ≡ true
next_alike m s k c =
    let e = and_true (every (agrees m s) samples) (labelled m s) (is_steady m s) in
    every_kind_is (λ k. alike (past (sample c) (residual m s k)) (residual_on m (step_of s (sample c)) k)) (at_sample (agrees m s) c e.0) k

to_next : (m : Mode) (s : State) (k : Kind) (c : ℕ) (cs : List ℕ) → Spells (residual m s k) (c ∷ cs) → Spells (residual_on m (step_of s c) k) cs
to_next m s k c cs h =
    let p = subst (λ (r : Phrase). Spells r cs) (past_sample (residual m s k) c (residual_plain m s k c)) (to_past (residual m s k) c cs h) in
    let e = and_true (covered (past (sample c) (residual m s k)) (residual_on m (step_of s (sample c)) k))
    (covered (residual_on m (step_of s (sample c)) k) (past (sample c) (residual m s k))) (next_alike m s k c) in
    subst (λ (o : Option State). Spells (residual_on m o k) cs) (sym (step_sample s c)) (from_covered (past (sample c) (residual m s k)) (residual_on m (step_of s (sample c)) k) cs e.0 p)

from_next : (m : Mode) (s : State) (k : Kind) (c : ℕ) (cs : List ℕ) → Spells (residual_on m (step_of s c) k) cs → Spells (residual m s k) (c ∷ cs)
from_next m s k c cs h =
    let e = and_true (covered (past (sample c) (residual m s k)) (residual_on m (step_of s (sample c)) k))
    (covered (residual_on m (step_of s (sample c)) k) (past (sample c) (residual m s k))) (next_alike m s k c) in
    let p = from_covered (residual_on m (step_of s (sample c)) k) (past (sample c) (residual m s k)) cs e.1 (subst (λ (o : Option State). Spells (residual_on m o k) cs) (step_sample s c) h) in
    from_past (residual m s k) c cs (subst (λ (r : Phrase). Spells r cs) (sym (past_sample (residual m s k) c (residual_plain m s k c))) p)

ends_here : (m : Mode) (s : State) (k : Kind) → ends (residual m s k) ≡ is_kind k (label_of m s)
ends_here m s k =
    let e = and_true (every (agrees m s) samples) (labelled m s) (is_steady m s) in
    alike_bools (ends (residual m s k)) (is_kind k (label_of m s)) (every_kind_is (λ k. both_or_none (ends (residual m s k)) (is_kind k (label_of m s))) e.1 k)

to_kind_on : (m : Mode) (k : Kind) (cs : List ℕ) (o : Option State) → ((t : State) → Spells (residual m t k) cs → kind_from m t cs ≡ Some k) →
    Spells (residual_on m o k) cs → then_from o (λ t. kind_from m t cs) ≡ Some k
to_kind_on m k cs None ih h = absurd h
to_kind_on m k cs (Some t) ih h = ih t h

to_kind_from : (m : Mode) (k : Kind) (cs : List ℕ) (s : State) → Spells (residual m s k) cs → kind_from m s cs ≡ Some k
to_kind_from m k [] s h = is_kind_some k (label_of m s) (sym (ends_here m s k) ∙ to_ends (residual m s k) h)
to_kind_from m k (c ∷ cs) s h = to_kind_on m k cs (step_of s c) (λ t g. to_kind_from m k cs t g) (to_next m s k c cs h)

from_kind_on : (m : Mode) (k : Kind) (cs : List ℕ) (o : Option State) → ((t : State) → kind_from m t cs ≡ Some k → Spells (residual m t k) cs) →
    then_from o (λ t. kind_from m t cs) ≡ Some k → Spells (residual_on m o k) cs
from_kind_on m k cs None ih h = absurd cc
from_kind_on m k cs (Some t) ih h = ih t h

from_kind_from : (m : Mode) (k : Kind) (cs : List ℕ) (s : State) → kind_from m s cs ≡ Some k → Spells (residual m s k) cs
from_kind_from m k [] s h = from_ends (residual m s k) (ends_here m s k ∙ some_is_kind k (label_of m s) h)
from_kind_from m k (c ∷ cs) s h = from_next m s k c cs (from_kind_on m k cs (step_of s c) (λ t g. from_kind_from m k cs t g) h)

-- spelled, so of the kind
pub to_kind : (m : Mode) (k : Kind) (cs : List ℕ) → Spells (Spelling m k) cs → kind_from m Start cs ≡ Some k
to_kind m k cs h = to_kind_from m k cs Start (to_normal (Spelling m k) cs h)

-- of the kind, so spelled
pub from_kind : (m : Mode) (k : Kind) (cs : List ℕ) → kind_from m Start cs ≡ Some k → Spells (Spelling m k) cs
from_kind m k cs h = from_normal (Spelling m k) cs (from_kind_from m k cs Start h)
