use Rattle.std.proofs.Common.{refl}
use Rattle.std.proofs.lemmas.Result.{on_ok_weaker}
use Rattle.std.specs.Str.{chars}
use Rattle.turtle_reader.specs.Objects.{term_of, triples_of}
use Rattle.turtle_reader.proofs.Adding.{end_gives_more, of_predicate}
use Rattle.turtle_reader.proofs.objects.SubjectList.add.Goals as goal

pub returns-then-is_of : goal.returns-then-is_of
returns-then-is_of c =
    let s = term_of c.args.self.now.subject in
    on_ok_weaker c.push.result (λ e. end_gives_more (triples_of s) c.args.self.now.before.items c.args.self.now.last c.push.new.self _
    (of_predicate s c.args.self.now.last c.push.new.self (chars c.args.predicate.now) c.args.object (e s) (c.if-is_of.ensures.0 refl))) c.push.ensures
