-- The nodes of pairs.
use Rattle.std.proofs.Common.{◌≡◌, List, map, subst, sym}
use Rattle.std.specs.List.Sorted.{IsStrictlySortedBy}
use Rattle.std.specs.Prelude.{◌↔◌, Contains}
use Rattle.demand.specs.declared.reach.Root.{Root}
use Rattle.demand.specs.Demand.{AreAsked}
use Rattle.lists.proofs.Members.{from_map, in_map}
use Rattle.rdf_terms.specs.declared.terms.Term.{Term}
use Rattle.rdf_terms.specs.declared.terms.TermId.{TermId}
use Rattle.rdf_terms.specs.declared.terms.Triple.{Triple}
use Rattle.rdf_terms.specs.Order.{compare_at}
use Rattle.schema_tree.specs.declared.schema.Pair.{Pair}
use Rattle.schema_tree.specs.declared.schema.Schema.{Schema}
use Rattle.shard_checks.specs.Reached.{AreReached}

pub are_reached : (s : Schema) (terms : List Term) (g : List Triple) (roots : List Root) (pairs lent : List Pair) (nodes new : List TermId) →
    AreAsked s terms g roots pairs → lent ≡ pairs → nodes ≡ map (λ q. q.node) lent →
    IsStrictlySortedBy (compare_at terms) new → ((n : TermId) → Contains new n ↔ Contains nodes n) → AreReached s terms g roots new
are_reached s terms g roots pairs lent nodes new asked are made sorted same = record {
  sorted = sorted;
  exactly = λ n. (
    (λ c. let (q, held, is) = from_map (λ (q : Pair). q.node) lent n (subst (λ xs. Contains xs n) made ((same n).0 c)) in (q, (asked.exactly q).0 (subst (λ xs. Contains xs q) are held), is)),
    (λ (q, reached, is). (same n).1 (subst (λ xs. Contains xs n) (sym made)
        (subst (λ m. Contains (map (λ (q : Pair). q.node) lent) m) is (in_map (λ (q : Pair). q.node) lent q (subst (λ xs. Contains xs q) (sym are) ((asked.exactly q).1 reached)))))),
  );
}
