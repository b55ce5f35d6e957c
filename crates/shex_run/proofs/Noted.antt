-- Where an association has no answer, a wide pair is noted.
use Rattle.std.proofs.Common.{◌≡◌, ◌≢◌, ◌∙◌, ap, sym, refl, List, ℕ, [], ◌<◌, inl, inr, arith, length, map, Bool, true, false}
use Rattle.std.specs.Prelude.{Contains, if◌then◌else◌, nat_lt}
use Rattle.std.proofs.lemmas.Bool.{ltb-true}
use Rattle.std.proofs.lemmas.List.{length-map}
use Rattle.input_names.specs.Names.{Text}
use Rattle.lists.proofs.Members.{in_map, is_first, is_later}
use Rattle.rdf_terms.specs.declared.terms.Term.{Term}
use Rattle.schema_tree.specs.declared.schema.Answer.{Answer}
use Rattle.shape_map.specs.declared.resolve.Association.{Association}
use Rattle.shex_inputs.specs.Asked.{root_of}
use Rattle.shex_io.specs.Files.{Told}
use Rattle.typing_answers.specs.Replies.{AreGiven, given, left, none}
use Rattle.typing_refiner.specs.declared.building.WidePair.{WidePair}
use Rattle.wide_pairs.specs.Laws.{NoneIsWide}
use Rattle.wide_pairs.specs.Lines.{wide_lines}
use Rattle.demand.proofs.Led.{not_decided}
use Rattle.shex_run.specs.Endings.{IsAnswered, IsRespondedTo, IsResponse}
use Rattle.shex_run.specs.Statuses.{are_wanted, status_by}
use Rattle.shex_run.specs.Texts.{notes_by}
use Rattle.shex_run.proofs.Fitting.{fit}

-- where there are fewer answers than associations, one is left out
left_out : {Left : Association → Type 0} {Given : Association → Answer → Type 0} (asked : List Association) (answers : List Answer) →
    AreGiven Left Given asked answers → length answers < length asked →
    (a : Association) × Contains asked a × Left a
left_out _ _ none less = absurd (omega (arith, less))
left_out _ _ (left {a = a} {asked = asked} out others) less = (a, is_first a asked, out)
left_out _ _ (given {a = a} {asked = asked} {answers = answers} one others) less =
    let (b, c, out) = left_out asked answers others (omega (arith, less)) in (b, is_later a asked b c, out)

-- with 4 there are fewer
fewer : (wants : List Bool) (answers : List Answer) → 4 ≡ status_by wants answers → nat_lt (length answers) (length wants) ≡ true
unfolding status_by
fewer wants answers is = by (nat_lt (length answers) (length wants)) (are_wanted wants answers) is
  where
    by : (few wanted : Bool) → ◌≡◌ {A = ℕ} 4 (if few then 4 else if wanted then 0 else 1) → few ≡ true
    by true wanted e = refl
    by false true e = absurd (omega (arith, e))
    by false false e = absurd (omega (arith, e))

lines_due : (terms : List Term) (asked budget : ℕ) (answers : List Answer) (wide : List WidePair) → nat_lt (length answers) asked ≡ true →
    notes_by terms asked budget answers wide ≡ wide_lines terms budget wide
unfolding notes_by
lines_due terms asked budget answers wide some = ap (λ b. if b then wide_lines terms budget wide else []) some

-- with 4 something is noted
pub four_noted : NoneIsWide → (told after : Told) (words : List Text) (text notes : List ℕ) (status : ℕ) → status ≡ 4 → IsRespondedTo told after words status text notes → notes ≢ []
four_noted law told after words text notes status at (inr (d, is_drill, x)) nothing = absurd (omega (arith, at, x.status_is))
four_noted law told after words text notes status at (inl r) nothing = by r.response
  where
    answered : IsAnswered told after r.command status text notes → ⊥
    answered a =
        let some : nat_lt (length a.answers) (length a.question.associations) ≡ true =
        ap (λ n. nat_lt (length a.answers) n) (sym (length-map a.question.associations (λ (z : Association). z.want)))
        ∙ fewer (map (λ (z : Association). z.want) a.question.associations) a.answers (sym at ∙ a.status_is) in
        let lines : wide_lines a.question.terms a.budget a.wide ≡ [] =
        sym (lines_due a.question.terms (length a.question.associations) a.budget a.answers a.wide some) ∙ sym a.notes_are ∙ nothing in
        let few = ((fit words r.command r.is_asked).budget a.map_name a.proof_name a.budget a.task).1 in
        let (x, asked, out) = left_out a.question.associations a.answers a.are_answers.replies (ltb-true (length a.answers) (length a.question.associations) some) in
        not_decided a.question.held.schema a.question.terms a.question.held.graph a.budget x.node x.expr out.wide (λ p reached.
        law a.question.held.schema a.question.terms a.question.held.graph a.budget a.question.pairs a.wide (omega (arith, few)) a.are_wide lines p
        ((a.are_answers.asked.asked.exactly p).1 (root_of x, in_map root_of a.question.associations x asked, reached)))

    by : IsResponse told after r.command status text notes → ⊥
    by (inl a) = answered a
    by (inr k) = absurd (omega (arith, at, k.status_is))
