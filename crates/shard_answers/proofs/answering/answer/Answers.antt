use Rattle.std.proofs.Common.{◌≡◌, ℕ, List, Result, subst, sym}
use Rattle.std.specs.Result.{IfErr, IfOk}
use Rattle.call_ends.specs.declared.response.Response.{Response}
use Rattle.shex_io.specs.Files.{Told}
use Rattle.shex_io.specs.declared.files.Act.{Act}
use Rattle.tool_words.specs.declared.call.ShardCall.{ShardCall as Lent}
use Rattle.tool_words.specs.Lent.{shard_call_of}
use Rattle.shard_answers.specs.Answers.{IsAnswer, IsFit}
use Rattle.shard_answers.specs.Stops.{Explains, FaultsAs}
use Rattle.shard_answers.specs.declared.error.ShardError.{ShardError}
use Rattle.shard_answers.proofs.answering.answer.Goals as goal

-- what is so of one call is so of the call that it is
fits : (call one : Lent) → call ≡ one → IsFit (shard_call_of call) → IsFit (shard_call_of one)
fits call one is h = subst (λ z. IsFit (shard_call_of z)) is h

module _ (call one : Lent) (is : call ≡ one) (r : Result Response ShardError) where
  answers : (told : Told) → IfOk r (λ x. IsAnswer told (shard_call_of one) x.status x.text.items) → IfOk r (λ x. IsAnswer told (shard_call_of call) x.status x.text.items)
  answers told h = subst (λ z. IfOk r (λ x. IsAnswer told (shard_call_of z) x.status x.text.items)) (sym is) h

  explains : (told : Told) → IfErr r (Explains told (shard_call_of one)) → IfErr r (Explains told (shard_call_of call))
  explains told h = subst (λ z. IfErr r (Explains told (shard_call_of z))) (sym is) h

  faults : (before after : ℕ) (blame : List ℕ) (act : Act) → IfErr r (FaultsAs (shard_call_of one) before after blame act) → IfErr r (FaultsAs (shard_call_of call) before after blame act)
  faults before after blame act h = subst (λ z. IfErr r (FaultsAs (shard_call_of z) before after blame act)) (sym is) h

pub lines-requires : goal.lines-requires
lines-requires g c = fits c.args.call.now _ c.in-Lines.is c.requires

pub returns-in-Lines-clause-answer : goal.returns-in-Lines-clause-answer
returns-in-Lines-clause-answer g c = answers c.args.call.now _ c.in-Lines.is c.lines.result (g.F.Files.told c.args.files.now) c.lines.ensures.answer

pub returns-in-Lines-clause-cause : goal.returns-in-Lines-clause-cause
returns-in-Lines-clause-cause g c = explains c.args.call.now _ c.in-Lines.is c.lines.result (g.F.Files.told c.args.files.now) c.lines.ensures.cause

pub returns-in-Lines-clause-faults : goal.returns-in-Lines-clause-faults
returns-in-Lines-clause-faults g c = faults c.args.call.now _ c.in-Lines.is c.lines.result (g.F.Files.faults c.args.files.now)
    (g.F.Files.faults c.lines.new.files) (g.F.Files.blame c.lines.new.files) (g.F.Files.act c.lines.new.files) c.lines.ensures.faults

pub followed-requires : goal.followed-requires
followed-requires g c = fits c.args.call.now _ c.in-Followed.is c.requires

pub returns-in-Followed-clause-answer : goal.returns-in-Followed-clause-answer
returns-in-Followed-clause-answer g c = answers c.args.call.now _ c.in-Followed.is c.followed.result (g.F.Files.told c.args.files.now) c.followed.ensures.answer

pub returns-in-Followed-clause-cause : goal.returns-in-Followed-clause-cause
returns-in-Followed-clause-cause g c = explains c.args.call.now _ c.in-Followed.is c.followed.result (g.F.Files.told c.args.files.now) c.followed.ensures.cause

pub returns-in-Followed-clause-faults : goal.returns-in-Followed-clause-faults
returns-in-Followed-clause-faults g c = faults c.args.call.now _ c.in-Followed.is c.followed.result (g.F.Files.faults c.args.files.now)
    (g.F.Files.faults c.followed.new.files) (g.F.Files.blame c.followed.new.files) (g.F.Files.act c.followed.new.files) c.followed.ensures.faults

pub reached-requires : goal.reached-requires
reached-requires g c = let fit = fits c.args.call.now _ c.in-Reached.is c.requires in record { schema_base = fit.0; data_base = fit.1 }

pub returns-in-Reached-clause-answer : goal.returns-in-Reached-clause-answer
returns-in-Reached-clause-answer g c = answers c.args.call.now _ c.in-Reached.is c.reached.result (g.F.Files.told c.args.files.now) c.reached.ensures.answer

pub returns-in-Reached-clause-cause : goal.returns-in-Reached-clause-cause
returns-in-Reached-clause-cause g c = explains c.args.call.now _ c.in-Reached.is c.reached.result (g.F.Files.told c.args.files.now) c.reached.ensures.cause

pub returns-in-Reached-clause-faults : goal.returns-in-Reached-clause-faults
returns-in-Reached-clause-faults g c = faults c.args.call.now _ c.in-Reached.is c.reached.result (g.F.Files.faults c.args.files.now)
    (g.F.Files.faults c.reached.new.files) (g.F.Files.blame c.reached.new.files) (g.F.Files.act c.reached.new.files) c.reached.ensures.faults

pub returns-in-Covers-clause-answer : goal.returns-in-Covers-clause-answer
returns-in-Covers-clause-answer g c = answers c.args.call.now _ c.in-Covers.is c.covers.result (g.F.Files.told c.args.files.now) c.covers.ensures.answer

pub returns-in-Covers-clause-cause : goal.returns-in-Covers-clause-cause
returns-in-Covers-clause-cause g c = explains c.args.call.now _ c.in-Covers.is c.covers.result (g.F.Files.told c.args.files.now) c.covers.ensures.cause

pub returns-in-Covers-clause-faults : goal.returns-in-Covers-clause-faults
returns-in-Covers-clause-faults g c = faults c.args.call.now _ c.in-Covers.is c.covers.result (g.F.Files.faults c.args.files.now)
    (g.F.Files.faults c.covers.new.files) (g.F.Files.blame c.covers.new.files) (g.F.Files.act c.covers.new.files) c.covers.ensures.faults
