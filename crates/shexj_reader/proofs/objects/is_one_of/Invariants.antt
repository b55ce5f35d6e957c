use Rattle.std.proofs.Common.{◌≡◌, map, drop}
use Rattle.std.specs.List.{list_any}
use Rattle.std.specs.Str.{bytes_eq}
use Rattle.shexj_reader.proofs.objects.is_one_of.Given as goal

abbrev pub invariant-loop-own : goal.invariant-loop-own
invariant-loop-own l =
    list_any (bytes_eq l.key) (map (λ k. k.now) l.keys) ≡ list_any (bytes_eq l.key) (map (λ k. k.now) (drop l.own-index l.keys))
