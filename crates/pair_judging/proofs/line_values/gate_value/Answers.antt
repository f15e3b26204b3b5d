-- The pins are joined as the operation says, and the join is inverted or not.
use Rattle.std.proofs.Common.{◌≡◌, Bool, not, map, ap, ap₂, sym, subst, ◌∙◌, rules, tests}
use Rattle.std.specs.Bool.{beq}
use Rattle.std.proofs.lemmas.List.{length-map}
use Rattle.std.proofs.lemmas.List.Folds.{list_all-map}
use Rattle.std.proofs.lemmas.Iterator.{YieldsList-from_slice}
use Rattle.std.proofs.lemmas.Iterator.Search.{all_from_yields_List, any_from_yields_List}
use Rattle.pd_base.specs.declared.ids.LineId.{LineId}
use Rattle.netlist.specs.declared.op.Op.{Op}
use Rattle.netlist.specs.Gates.{op_of}
use Rattle.netlist.specs.Lawful.{IsFanIn}
use Rattle.logic_values.specs.Known.{bit_at}
use Rattle.logic_values.proofs.PinTests.{list_any-map}
use Rattle.pair_judging.proofs.PinsJoined.{bits_joined, value_joined}
use Rattle.pair_judging.proofs.line_values.gate_value.Goals as goal
use Rattle.pair_judging.proofs.line_values.gate_value.Goals.{in-And, in-Or, in-Xor}

pub returns : goal.returns
returns c =
    let kind = c.args.kind in
    let pins = c.args.pins.now in
    let value = λ (pin : LineId). bit_at c.args.values.now pin.0 in
    let bits = map value pins in
    let as_op = λ (op : Op). bits_joined op bits in
    let joined : c.match-operation.joined ≡ bits_joined (op_of kind) bits =
    elim c.match-operation.branch [
      | in-And w ↦ w.joined-is
          ∙ (rw list_all-map (all_from_yields_List value _ _ _ w.all-joined.ensures.ran (YieldsList-from_slice pins cc) (λ x b q k. search (rules, tests))))
          ∙ ap as_op (sym w.in-And.is ∙ c.operation.ensures)
      | in-Or w ↦ w.joined-is
          ∙ (rw list_any-map (any_from_yields_List value _ _ _ w.any-joined.ensures.ran (YieldsList-from_slice pins cc) (λ x b q k. search (rules, tests))))
          ∙ ap as_op (sym w.in-Or.is ∙ c.operation.ensures)
      | in-Xor w ↦ w.joined-is ∙ w.parity-joined.ensures ∙ ap as_op (sym w.in-Xor.is ∙ c.operation.ensures)
    ] in
    ap₂ (λ (join inverts : Bool). not (beq join inverts)) joined c.inverts.ensures
    ∙ value_joined kind bits (subst (IsFanIn kind) (sym (length-map pins value)) c.requires.fan_in)
