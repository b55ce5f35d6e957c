use Rattle.std.proofs.Common.{ap, length, subst, sym}
use Rattle.bag_match.specs.PlaceLists.{AreStarts}
use Rattle.bag_match.proofs.Starts.{lists_more, starts_more, starts_only}
use Rattle.bag_match.proofs.place_lists.PlaceLists.push.Goals as goal

pub invariant_of-self-in_err-extend_from_slice : goal.invariant_of-self-in_err-extend_from_slice
invariant_of-self-in_err-extend_from_slice c =
    subst (λ z. AreStarts (length z) c.push.new.self.items) (sym c.in_err-extend_from_slice.ensures.items)
    (starts_only c.self.inside.places.items c.args.places.now c.self.inside.starts.items c.push.new.self.items c.extend_from_slice.new.self.items
    _ (ap (λ z. length z) c.as_slice-start.ensures.value) c.self.invariant c.in_ok-push.ensures.items)

pub invariant_of-self-2 : goal.invariant_of-self-2
invariant_of-self-2 c =
    starts_more c.self.inside.places.items c.args.places.now c.self.inside.starts.items c.push.new.self.items c.extend_from_slice.new.self.items
    _ (ap (λ z. length z) c.as_slice-start.ensures.value) c.self.invariant c.in_ok-push.ensures.items c.in_ok-extend_from_slice.ensures.items

pub returns : goal.returns
returns c =
    lists_more c.self.inside.places.items c.args.places.now c.self.inside.starts.items c.push.new.self.items c.extend_from_slice.new.self.items
    _ (ap (λ z. length z) c.as_slice-start.ensures.value) c.self.invariant c.in_ok-push.ensures.items c.args.self.now c.self.view_is c.in_ok-extend_from_slice.ensures.items
