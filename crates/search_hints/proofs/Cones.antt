-- What a cone keeps is of the circuit.
use Rattle.std.proofs.Common.{ℕ, get_or, arith}
use Rattle.std.proofs.lemmas.List.Elements.{Contains-get_or}
use Rattle.netlist.specs.Circuit.{Circuit}
use Rattle.cones.specs.KeptCones.{KeptCone, IsConeFor, IsConeAt}
use Rattle.search_hints.specs.Drafts.{IsConeIn}

pub cone_in : (c : Circuit) (end : ℕ) (cone : KeptCone) → IsConeFor c cone → IsConeAt c end cone → IsConeIn c cone
cone_in c end cone for at = record {
  marks = for.room;
  sources = λ k d inside.
      let own = (at.sources.exactly (get_or cone.sources k d).0).0 (Contains-get_or cone.sources k d inside) in omega (arith, own.0);
  gates = λ k d inside. ((at.gates.exactly (get_or cone.gates k d).0).0 (Contains-get_or cone.gates k d inside)).0;
}
