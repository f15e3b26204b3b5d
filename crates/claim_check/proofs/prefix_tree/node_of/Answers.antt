-- The set takes equal prefixes for one.
use Rattle.std.proofs.Common.{◌≡◌}
use Rattle.std.specs.Bool.{Decides}
use Rattle.claim_check.specs.declared.prefix_tree.Prefix.{Prefix}
use Rattle.claim_check.specs.declared.prefix_tree.Prefix.TheVariants.{Source, Longer}
use Rattle.claim_check.specs.contracts.prefix_tree.PrefixPartialEq.TheImpl.{eq-value}
use Rattle.claim_check.proofs.PuttingPrefixes.{one_prefix_decided, put_by}
use Rattle.claim_check.proofs.prefix_tree.node_of.Goals as goal

decided : (a b : Prefix) → Decides (eq-value.it a b) (a ≡ b)
decided (Source a) (Source b) = one_prefix_decided (Source a) (Source b)
decided (Source a) (Longer m p) = one_prefix_decided (Source a) (Longer m p)
decided (Longer n p) (Source b) = one_prefix_decided (Longer n p) (Source b)
decided (Longer n p) (Longer m q) = one_prefix_decided (Longer n p) (Longer m q)

pub returns : goal.returns
returns c =
    put_by eq-value.it decided c.args.prefixes.now.keys c.insert_full.new.self.keys c.args.prefix c.in_ok-node.node
    c.in_ok-node.ensures.keys c.in_ok-node.ensures.stored
