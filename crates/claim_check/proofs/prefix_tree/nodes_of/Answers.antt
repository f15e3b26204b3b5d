-- Prefix by prefix.
use Rattle.std.proofs.Common.{◌≡◌, ◌+◌, ◌≤◌, ℕ, List, [], ◌∷◌, ◌++◌, length, get_or, sym, ap, subst, ◌∙◌, arith}
use Rattle.std.specs.Prelude.{slice_get, Some}
use Rattle.std.proofs.lemmas.List.{get_or_push, length_push}
use Rattle.std.proofs.lemmas.Option.{slice_get-get_or}
use Rattle.pd_base.specs.declared.ids.LineId.{LineId}
use Rattle.pd_base.specs.declared.ids.PinRef.{PinRef}
use Rattle.claim_check.specs.declared.prefix_tree.Prefix.TheVariants.{Source, Longer}
use Rattle.claim_check.specs.PrefixNodes.{ArePut, IsPrefixNode, IsPut}
use Rattle.claim_check.proofs.PuttingPrefixes.{node_pushed, put_is, put_more, put_none}
use Rattle.claim_check.proofs.prefix_tree.nodes_of.Goals as goal

pub overflow_add-steps : goal.overflow_add-steps
overflow_add-steps c = omega (arith, ap length c.steps.ensures, c.requires.room)

pub push_reserved-requires : goal.push_reserved-requires
push_reserved-requires c = omega (arith, c.in_ok-nodes.ensures.len, c.in_ok-nodes.ensures.capacity)

pub loop-pin-init : goal.loop-pin-init
loop-pin-init c =
    let old = c.args.prefixes.now.keys in
    let new = c.node_of.new.prefixes.keys in
    let node = c.in_ok-node.node in
    let path = c.args.path.now in
    let items : c.push_reserved.new.self.items ≡ node ∷ [] =
    c.push_reserved.ensures.items ∙ ap (λ (list : List ℕ). list ++ node ∷ []) c.in_ok-nodes.ensures.items in
    let first = put_is old new (Source c.source.result) node c.in_ok-node.ensures in
    let source = subst (λ (line : LineId). slice_get new node ≡ Some (Source line)) c.source.ensures first in
    let P : List ℕ → Type 0 = λ list. (steps : ℕ) → steps ≤ 0 → IsPrefixNode new path steps (get_or list steps 0) in
    let Q : List ℕ → Type 0 = λ list. ArePut old new list in
    let own : (steps : ℕ) → steps ≤ 0 → IsPrefixNode new path steps (get_or (node ∷ []) steps 0) =
    λ steps few.
    let none : 0 ≡ steps = omega arith in subst (λ (k : ℕ). IsPrefixNode new path k (get_or (node ∷ []) k 0)) none source in
    record {
      so_many = ap length items;
      last = ap (λ (list : List ℕ). get_or list 0 0) items;
      own = subst P (sym items) own;
      put = subst Q (sym items) (put_more old old new [] (Source c.source.result) node (put_none old) c.in_ok-node.ensures);
      room = omega (arith, c.push_reserved.ensures.capacity, c.in_ok-nodes.ensures.capacity, ap length c.steps.ensures);
    }

pub push_reserved-requires-in-loop-pin : goal.push_reserved-requires-in-loop-pin
push_reserved-requires-in-loop-pin c =
    omega (
      arith,
      c.loop-pin.invariant.so_many,
      c.loop-pin.invariant.room,
      c.loop-pin.nodes.ok.0,
      c.loop-pin-test.true,
      ap length c.steps-pin-items.ensures,
    )

pub loop-pin-preserved : goal.loop-pin-preserved
loop-pin-preserved c =
    let old = c.args.prefixes.now.keys in
    let mid = c.loop-pin.prefixes.keys in
    let new = c.node_of-in-loop-pin.new.prefixes.keys in
    let node = c.in_ok-node-2.node in
    let path = c.args.path.now in
    let nodes = c.loop-pin.nodes.items in
    let place = c.loop-pin.pin-index in
    let none : PinRef = record { gate = record { 0 = 0 }; pin = 0 } in
    let pin = get_or c.steps-pin-items.result.now place none in
    let items : c.push_reserved-in-loop-pin.new.self.items ≡ nodes ++ node ∷ [] = c.push_reserved-in-loop-pin.ensures.items in
    let so_many = c.loop-pin.invariant.so_many in
    let read : slice_get c.steps-pin-items.result.now place ≡ Some pin =
    slice_get-get_or c.steps-pin-items.result.now place none c.loop-pin-test.true in
    let reads : slice_get path.steps place ≡ Some pin =
    subst (λ (list : List PinRef). slice_get list place ≡ Some pin) c.steps-pin-items.ensures read in
    let P : ℕ → Type 0 = λ shorter. IsPut mid (Longer shorter pin) new node in
    let put = subst P (sym c.loop-pin.invariant.last) c.in_ok-node-2.ensures in
    let Q : List ℕ → Type 0 = λ list. (steps : ℕ) → steps ≤ place + 1 → IsPrefixNode new path steps (get_or list steps 0) in
    let long = length_push nodes node in
    let many = ap length items in
    record {
      so_many = omega arith;
      last = ap (λ (list : List ℕ). get_or list (place + 1) 0) items ∙ get_or_push nodes node 0 (place + 1) so_many;
      own = subst Q (sym items) (node_pushed mid new path nodes place pin node so_many reads c.loop-pin.invariant.own put);
      put = subst (ArePut old new) (sym items)
          (put_more old mid new nodes (Longer c.loop-pin.node pin) node c.loop-pin.invariant.put c.in_ok-node-2.ensures);
      room = omega (arith, c.push_reserved-in-loop-pin.ensures.capacity, c.loop-pin.invariant.room);
    }

pub returns-clause-nodes : goal.returns-clause-nodes
returns-clause-nodes c =
    let long = ap length c.steps-pin-items.ensures in
    let many = c.loop-pin.invariant.so_many in
    record { one_each = omega arith; each = λ steps within. c.loop-pin.invariant.own steps (omega arith) }

pub returns-clause-put : goal.returns-clause-put
returns-clause-put c = c.loop-pin.invariant.put
