use Rattle.bag_match.proofs.Starts.{at_ends, at_list, at_rises, at_within}
use Rattle.bag_match.proofs.place_lists.PlaceLists.at.Goals as goal

pub start_at-start-requires : goal.start_at-start-requires
start_at-start-requires c =
    at_within c.self.inside.places.items c.self.inside.starts.items c.as_slice-places.result.now c.as_slice-starts.result.now c.args.self.now c.as_slice-places.ensures.value c.as_slice-starts.ensures.value c.self.view_is c.self.invariant c.args.i c.requires

pub next_start-end-requires : goal.next_start-end-requires
next_start-end-requires c =
    at_within c.self.inside.places.items c.self.inside.starts.items c.as_slice-places.result.now c.as_slice-starts.result.now c.args.self.now c.as_slice-places.ensures.value c.as_slice-starts.ensures.value c.self.view_is c.self.invariant c.args.i c.requires

pub part-requires-clause-start : goal.part-requires-clause-start
part-requires-clause-start c =
    at_rises c.self.inside.places.items c.self.inside.starts.items c.as_slice-places.result.now c.as_slice-starts.result.now c.args.self.now c.as_slice-places.ensures.value c.as_slice-starts.ensures.value c.self.view_is c.self.invariant c.args.i c.requires c.start_at-start.result c.next_start-end.result c.start_at-start.ensures c.next_start-end.ensures

pub part-requires-clause-end : goal.part-requires-clause-end
part-requires-clause-end c =
    at_ends c.self.inside.places.items c.self.inside.starts.items c.as_slice-places.result.now c.as_slice-starts.result.now c.args.self.now c.as_slice-places.ensures.value c.as_slice-starts.ensures.value c.self.view_is c.self.invariant c.args.i c.requires c.start_at-start.result c.next_start-end.result c.start_at-start.ensures c.next_start-end.ensures

pub returns : goal.returns
returns c = at_list c.self.inside.places.items c.self.inside.starts.items c.as_slice-places.result.now c.as_slice-starts.result.now c.args.self.now c.as_slice-places.ensures.value c.as_slice-starts.ensures.value c.self.view_is c.self.invariant c.args.i c.requires c.start_at-start.result c.next_start-end.result c.start_at-start.ensures c.next_start-end.ensures c.part.result.now c.part.ensures
