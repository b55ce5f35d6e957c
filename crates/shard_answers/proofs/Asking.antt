-- The nodes that associations reach.
use Rattle.std.proofs.Common.{◌≡◌, ℕ, List, map, subst, sym}
use Rattle.std.specs.List.{flat_map}
use Rattle.demand.specs.Demand.{AreAsked}
use Rattle.demand.specs.declared.reach.Root.{Root}
use Rattle.rdf_terms.specs.declared.terms.TermId.{TermId}
use Rattle.rdf_terms.specs.declared.terms.Triple.{Triple}
use Rattle.schema_tree.specs.declared.schema.Pair.{Pair}
use Rattle.schema_tree.specs.declared.schema.Schema.{Schema}
use Rattle.shard_checks.specs.Reached.{AreReached, node_line}
use Rattle.shex_inputs.specs.Asked.{IsAskedOf, Question, root_of}
use Rattle.shex_inputs.specs.Held.{Held, IsTaken}
use Rattle.shex_io.specs.Files.{Told}
use Rattle.tool_words.specs.Asked.{Reaching, of_nodes}
use Rattle.shard_answers.specs.Answers.{AreNodesOf}
use Rattle.shard_answers.specs.Sources.{inputs_of}

module _ (told seen : Told) (r : Reaching) (same : seen ≡ told) where
  -- what is taken of files is taken of them as they are later
  pub taken_later : (h : Held) → IsTaken told (inputs_of (of_nodes r)) h → IsTaken seen (inputs_of (of_nodes r)) h
  taken_later h taken = subst (λ t. IsTaken t (inputs_of (of_nodes r)) h) (sym same) taken

  pub are_nodes : (q : Question) (text : List ℕ) (pairs : List Pair) → IsAskedOf seen (inputs_of (of_nodes r)) q → pairs ≡ q.pairs →
      ((s : Schema) (g : List Triple) (roots : List Root) → AreAsked s q.terms g roots pairs → (nodes : List TermId) × AreReached s q.terms g roots nodes ×
      (text ≡ flat_map (node_line q.terms) nodes)) →
      AreNodesOf told r text
  are_nodes q text pairs asked lent tell =
      let roots = map root_of q.associations in
      let (nodes, reached, made) = tell q.held.schema q.held.graph roots (subst (AreAsked q.held.schema q.terms q.held.graph roots) (sym lent) asked.asked) in
      record {
        question = q;
        is_asked = subst (λ t. IsAskedOf t (inputs_of (of_nodes r)) q) same asked;
        nodes = nodes;
        are_reached = reached;
        text_is = made;
      }
