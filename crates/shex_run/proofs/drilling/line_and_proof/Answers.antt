use Rattle.std.proofs.Common.{◌≡◌, ◌∙◌, ap, rules, subst, sym}
use Rattle.std.specs.Prelude.{IfSome, Some, string_bytes}
use Rattle.command_words.specs.Requests.{default_budget}
use Rattle.proof_file.specs.Text.{ProofText}
use Rattle.shex_drill.specs.Files.{contents_of, drill_contents}
use Rattle.shex_inputs.specs.Asked.{IsAskedOf}
use Rattle.shex_run.specs.Drills.{drill_command, drill_line}
use Rattle.shex_run.specs.Ready.{IsReplyProof}
use Rattle.shex_run.specs.Tasks.{inputs_of}
use Rattle.shex_run.proofs.Drilled.{drill_answers, texts_of}
use Rattle.shex_run.proofs.drilling.line_and_proof.Goals as goal

pub decide_texts-requires-clause-texts : goal.decide_texts-requires-clause-texts
decide_texts-requires-clause-texts c =
    let d = c.in_ok-make.field-0 in
    let same : contents_of c.of-files.result ≡ drill_contents c.args.items =
    c.of-files.ensures ∙ texts_of c.args.items (string_bytes d.schema) (string_bytes d.graph) (string_bytes d.map) c.in_ok-make.ensures.schema c.in_ok-make.ensures.graph c.in_ok-make.ensures.map in
    (c.args.items, c.requires.0, c.requires.1, same)

pub check_texts-requires-clause-texts : goal.check_texts-requires-clause-texts
check_texts-requires-clause-texts c =
    let d = c.in_ok-make.field-0 in
    let same : contents_of c.of-files.result ≡ drill_contents c.args.items =
    c.of-files.ensures ∙ texts_of c.args.items (string_bytes d.schema) (string_bytes d.graph) (string_bytes d.map) c.in_ok-make.ensures.schema c.in_ok-make.ensures.graph c.in_ok-make.ensures.map in
    (c.args.items, c.requires.0, c.requires.1, c.decide_texts.ensures.texts_stay ∙ same)

pub check_texts-requires-clause-proof : goal.check_texts-requires-clause-proof
check_texts-requires-clause-proof c =
    let d = c.in_ok-answers.field-0 in
    let reply = c.in_ok-answers.ensures.decided in
    let some : d.proof ≡ Some c.in-Some.proof = search rules in
    let own : IsReplyProof reply.question default_budget reply.answers c.in-Some.proof = subst (λ o. IfSome o (IsReplyProof reply.question default_budget reply.answers)) some reply.proof in
    record {
      question = reply.question;
      answers = reply.answers;
      asked = subst (λ f. IsAskedOf (Some f) (inputs_of drill_command) reply.question) (sym c.decide_texts.ensures.texts_stay) reply.are_answers.asked;
      proof = own.proves c.as_slice.result.now (subst (λ bytes. ProofText c.in-Some.proof bytes) (sym c.as_slice.ensures.value) (c.in-Ok.ensures own.no_feeds));
    }

pub returns-clause-drilled : goal.returns-clause-drilled
returns-clause-drilled c =
    let t = c.in_ok-make.field-0 in
    let told : contents_of c.of-files.result ≡ drill_contents c.args.items =
    c.of-files.ensures ∙ texts_of c.args.items (string_bytes t.schema) (string_bytes t.graph) (string_bytes t.map) c.in_ok-make.ensures.schema c.in_ok-make.ensures.graph c.in_ok-make.ensures.map in
    let d = c.in_ok-answers.field-0 in
    let reply = c.in_ok-answers.ensures.decided in
    let some : d.proof ≡ Some c.in-Some.proof = search rules in
    let own : IsReplyProof reply.question default_budget reply.answers c.in-Some.proof = subst (λ o. IfSome o (IsReplyProof reply.question default_budget reply.answers)) some reply.proof in
    record {
      question = reply.question;
      answers = reply.answers;
      are_answers = drill_answers c.args.items c.requires.0 c.requires.1 c.drill_is_decided.ensures (Some (contents_of c.of-files.result)) (ap (λ f. Some f) told) d reply;
      text_is = c.in_ok-text.ensures ∙ ap (drill_line c.args.items) (c.as_slice-2.ensures.value ∙ reply.given);
      proof = own.proves c.in-Ok.proof.items (c.in-Ok.ensures own.no_feeds);
    }
