use Rattle.std.proofs.Common.{sym}
use Rattle.lists.proofs.Members.{got_in, behind_there}
use Rattle.shape_map.proofs.Listed.{listed, no_answers}
use Rattle.shape_map.proofs.results.push_answers.Goals as goal

pub push_answer-requires : goal.push_answer-requires
push_answer-requires c = c.requires c.in-Some.first.now (got_in c.args.answers.now 0 c.in-Some.first.now (sym c.in-Some.ensures.value))

pub push_more-requires : goal.push_more-requires
push_more-requires c = λ a h. c.requires a (behind_there c.args.answers.now c.in-Some.first.now a c.in-Some.ensures.value h)

pub returns-clause-written : goal.returns-clause-written
returns-clause-written c =
    listed c.args.terms.now c.args.answers.now c.in-Some.first.now c.args.out.now.items c.push_answer.new.out.items c.push_more.new.out.items c.push.new.self.items c.in-Some.ensures.value
    c.in_ok-push_answer.ensures.written c.in_ok-push_more.ensures.written c.in_ok-push.ensures.items

pub returns-in_default-clause-written : goal.returns-in_default-clause-written
returns-in_default-clause-written c = no_answers c.args.terms.now c.args.out.now.items c.args.answers.now c.in_default.ensures.value
