use Rattle.std.proofs.Common.{◌≡◌, ◌∙◌, ap, refl, subst, sym, true, true≢false}
use Rattle.std.specs.Prelude.{IfSome, None, Option, Some, is_some, option_map}
use Rattle.std.proofs.lemmas.Result.{err_from_is_err_and}
use Rattle.proof_file.specs.Text.{ProofText}
use Rattle.command_words.specs.Lent.{command_of}
use Rattle.command_words.specs.declared.command.Command.TheVariants as Lent
use Rattle.command_words.specs.declared.command.Validation.{Validation}
use Rattle.shex_io.specs.Files.{Told}
use Rattle.shex_run.specs.Ready.{IsReply, IsReplyProof}
use Rattle.shex_run.specs.declared.deciding.Decided.{Decided}
use Rattle.shex_run.proofs.Answering.{IsDue, store_stopped, stored, unstored}
use Rattle.shex_run.proofs.answers.keep.Goals as goal

-- a proof that is wanted is there
there : {X Y : Type 0} (p : Option X) (n : Option Y) (y : Y) → is_some p ≡ is_some n → ((x : X) → p ≡ Some x → ⊥) → n ≡ Some y → ⊥
there (Some x) n y same none some = none x refl
there None n y same none some = let on : is_some n ≡ true = ap is_some some in true≢false (sym on ∙ sym same)

pub unreachable-requires : goal.unreachable-requires
unreachable-requires g c = there c.args.decided.proof c.args.validation.now.proof c.in-Some.name c.requires.wanted c.in_default-proof.not-Some c.in-Some.is

-- without a name there is none for the store
none_of : {X Y : Type 0} (f : X → Y) (o : Option X) → ((x : X) → o ≡ Some x → ⊥) → option_map f o ≡ None
none_of f None none = refl
none_of f (Some x) none = absurd (none x refl)

-- what is due by a reply
due : (told : Told) (v : Validation) (d : Decided) (is : IsReply told (command_of (Lent.Validate v)) v.budget (is_some v.proof) d) →
    IsDue told (command_of (Lent.Validate v)) v.map.now (option_map (λ s. s.now) v.proof) v.budget is.question is.answers d.status d.text.items d.notes.items
due told v d is = record {
  task = refl;
  are = is.are_answers;
  status_is = is.status_is;
  text_is = is.text_is;
  wide = is.wide;
  are_wide = is.are_wide;
  notes_are = is.notes_are;
}

pub returns-in_default-clause-response : goal.returns-in_default-clause-response
returns-in_default-clause-response g c =
    let told = g.F.Files.told c.args.files.now in
    let v = c.args.validation.now in
    unstored told (command_of (Lent.Validate v)) v.map.now (option_map (λ s. s.now) v.proof) v.budget c.requires.question c.requires.answers c.args.decided.status c.args.decided.text.items c.args.decided.notes.items (due told v c.args.decided c.requires)
    (none_of (λ s. s.now) v.proof c.in_default.not-Some) told refl

pub returns-clause-response : goal.returns-clause-response
returns-clause-response g c =
    let told = g.F.Files.told c.args.files.now in
    let v = c.args.validation.now in
    let own : IsReplyProof c.requires.question v.budget c.requires.answers c.in-Some-proof.proof =
    subst (λ o. IfSome o (IsReplyProof c.requires.question v.budget c.requires.answers)) c.in-Some-proof.is c.requires.proof in
    stored told (command_of (Lent.Validate v)) v.map.now (option_map (λ s. s.now) v.proof) v.budget c.requires.question c.requires.answers c.args.decided.status c.args.decided.text.items c.args.decided.notes.items (due told v c.args.decided c.requires)
    c.in-Some.name.now c.as_slice.result.now (ap (option_map (λ s. s.now)) c.in-Some.is)
    (own.proves c.as_slice.result.now (subst (λ bytes. ProofText c.in-Some-proof.proof bytes) (sym c.as_slice.ensures.value) (c.in-Ok.ensures own.no_feeds)))
    (g.F.Files.told c.store.new.files) c.in_ok-store.ensures.holds c.store.ensures.others

pub returns-in_err-store-clause-cause : goal.returns-in_err-store-clause-cause
returns-in_err-store-clause-cause g c =
    let p = err_from_is_err_and c.from_residual.result c.from_residual.ensures.1 in
    let told = g.F.Files.told c.args.files.now in
    let v = c.args.validation.now in
    let own : IsReplyProof c.requires.question v.budget c.requires.answers c.in-Some-proof.proof =
    subst (λ o. IfSome o (IsReplyProof c.requires.question v.budget c.requires.answers)) c.in-Some-proof.is c.requires.proof in
    rw (p.1, p.2)
    ((store_stopped told (command_of (Lent.Validate v)) v.map.now (option_map (λ s. s.now) v.proof) v.budget c.requires.question c.requires.answers c.args.decided.status c.args.decided.text.items c.args.decided.notes.items (due told v c.args.decided c.requires)
    c.in-Some.name.now c.as_slice.result.now (ap (option_map (λ s. s.now)) c.in-Some.is)
    (own.proves c.as_slice.result.now (subst (λ bytes. ProofText c.in-Some-proof.proof bytes) (sym c.as_slice.ensures.value) (c.in-Ok.ensures own.no_feeds)))
    (g.F.Files.told c.store.new.files) (g.F.Files.faults c.args.files.now) (g.F.Files.faults c.store.new.files) (g.F.Files.blame c.store.new.files)
    (g.F.Files.act c.store.new.files) c.in_err-store.field-0.0 c.in_err-store.ensures.stops c.in_err-store.ensures.part c.store.ensures.others).cause)

pub returns-in_err-store-clause-stored : goal.returns-in_err-store-clause-stored
returns-in_err-store-clause-stored g c =
    let p = err_from_is_err_and c.from_residual.result c.from_residual.ensures.1 in
    let told = g.F.Files.told c.args.files.now in
    let v = c.args.validation.now in
    let own : IsReplyProof c.requires.question v.budget c.requires.answers c.in-Some-proof.proof =
    subst (λ o. IfSome o (IsReplyProof c.requires.question v.budget c.requires.answers)) c.in-Some-proof.is c.requires.proof in
    rw (p.1, p.2)
    ((store_stopped told (command_of (Lent.Validate v)) v.map.now (option_map (λ s. s.now) v.proof) v.budget c.requires.question c.requires.answers c.args.decided.status c.args.decided.text.items c.args.decided.notes.items (due told v c.args.decided c.requires)
    c.in-Some.name.now c.as_slice.result.now (ap (option_map (λ s. s.now)) c.in-Some.is)
    (own.proves c.as_slice.result.now (subst (λ bytes. ProofText c.in-Some-proof.proof bytes) (sym c.as_slice.ensures.value) (c.in-Ok.ensures own.no_feeds)))
    (g.F.Files.told c.store.new.files) (g.F.Files.faults c.args.files.now) (g.F.Files.faults c.store.new.files) (g.F.Files.blame c.store.new.files)
    (g.F.Files.act c.store.new.files) c.in_err-store.field-0.0 c.in_err-store.ensures.stops c.in_err-store.ensures.part c.store.ensures.others).stored)
