use Rattle.std.proofs.Common.{refl}
use Rattle.bag_match.proofs.Starts.{as_many}
use Rattle.bag_match.proofs.place_lists.PlaceLists.len.Goals as goal

pub returns : goal.returns
returns c = as_many c.self.inside.places.items c.self.inside.starts.items c.self.inside.places.items c.as_slice.result.now c.args.self.now refl c.as_slice.ensures.value c.self.view_is c.self.invariant
