use Rattle.std.proofs.Common.{◌≡◌, ℕ, List, map, true}
use Rattle.serde_json.specs.View.{view, members_view}
use Rattle.shexj_reader.specs.Keys.{has_only, has_key, has_member, members_within, with_id}
use Rattle.shexj_reader.proofs.objects.only_within.Given as goal

abbrev pub invariant-loop-key : goal.invariant-loop-key
invariant-loop-key l = record {
  within : has_only (with_id l.labelled (map (λ k. k.now) l.keys)) (view l.value) ≡ members_within (with_id l.labelled (map (λ k. k.now) l.keys)) (members_view l.key-iterator);
  among : (k : List ℕ) → has_member k (members_view l.key-iterator) ≡ true → has_key k (view l.value) ≡ true;
}
