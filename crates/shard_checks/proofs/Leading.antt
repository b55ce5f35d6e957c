-- The predicates of the ways that are read in one way.
use Rattle.std.proofs.Common.{◌≡◌, List, filter, map, subst, sym}
use Rattle.std.specs.List.Sorted.{IsStrictlySortedBy}
use Rattle.std.specs.Prelude.{◌↔◌, Contains}
use Rattle.lists.proofs.Filters.{filter_has, in_filter}
use Rattle.lists.proofs.Members.{from_map, in_map}
use Rattle.rdf_terms.specs.declared.terms.Term.{Term}
use Rattle.rdf_terms.specs.declared.terms.TermId.{TermId}
use Rattle.rdf_terms.specs.Order.{compare_at}
use Rattle.schema_tree.specs.declared.schema.Schema.{Schema}
use Rattle.shard_checks.specs.declared.way_lines.Reading.{Reading}
use Rattle.shard_checks.specs.declared.ways.Way.{Way}
use Rattle.shard_checks.specs.WayLines.{AreReadSo, HasWays, predicates_in, reads_so}

pub are_read_so : (s : Schema) (terms : List Term) (reading : Reading) (ways : List Way) (nodes new : List TermId) → HasWays s ways → nodes ≡ predicates_in reading ways →
    IsStrictlySortedBy (compare_at terms) new → ((n : TermId) → Contains new n ↔ Contains nodes n) → AreReadSo s terms reading new
are_read_so s terms reading ways nodes new has made sorted same = record {
  sorted = sorted;
  exactly = λ p. (
    (λ c. let (w, held, is) = from_map (λ (w : Way). w.predicate) (filter (reads_so reading) ways) p (subst (λ xs. Contains xs p) made ((same p).0 c)) in
        let (kept, so) = in_filter (reads_so reading) ways w held in (w, (has w).0 kept, so, is)),
    (λ (w, way, so, is). (same p).1 (subst (λ xs. Contains xs p) (sym made)
        (subst (λ m. Contains (map (λ (w : Way). w.predicate) (filter (reads_so reading) ways)) m) is
        (in_map (λ (w : Way). w.predicate) (filter (reads_so reading) ways) w (filter_has (reads_so reading) ways w ((has w).1 way) so))))),
  );
}
