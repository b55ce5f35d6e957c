use Rattle.std.proofs.Common.{◌≡◌, length, replicate, rules, arith}
use Rattle.rdf_terms.proofs.Joining.{begun_all, begun_more, none_begun}
use Rattle.rdf_terms.proofs.joined.JoinedTexts.of.Goals as goal

pub loop-number-init : goal.loop-number-init
loop-number-init c =
    let one : c.in_ok-firsts.firsts.items ≡ replicate 1 0 = search rules in
    none_begun c.args.terms.now c.new-bytes.result.items c.in_ok-firsts.firsts.items c.new-bytes.ensures.items one

pub loop-number-preserved : goal.loop-number-preserved
loop-number-preserved c =
    let end : c.len.result ≡ length c.append_text.new.out.items = search rules in
    begun_more c.args.terms.now c.loop-number.number c.loop-number.bytes.items c.loop-number.firsts.items c.append_text.new.out.items c.push.new.self.items c.len.result c.get.result.now
    c.get.ensures c.in_ok-append_text.ensures end c.in_ok-push.ensures.items c.loop-number.invariant

pub invariant_of-result : goal.invariant_of-result
invariant_of-result c =
    let all : c.loop-number.number ≡ length c.args.terms.now =
    (let a = c.len-number-end.ensures.count in let b = c.loop-number-test.false in let d = c.loop-number.auto.number-end in omega (arith, a, b, d)) in
    record { joined = begun_all c.args.terms.now c.loop-number.number c.loop-number.bytes.items c.loop-number.firsts.items all c.loop-number.invariant }
