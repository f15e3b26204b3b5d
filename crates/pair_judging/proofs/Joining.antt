-- The states of the pins of a gate, joined from the last one on.
use Rattle.std.proofs.Common.{◌≡◌, ℕ, ◌+◌, ◌-◌, ◌<◌, ◌≤◌, List, ◌∷◌, drop, map, length, get_or, sym, ap, ◌∙◌, arith}
use Rattle.std.proofs.lemmas.List.{drop_more}
use Rattle.pd_base.specs.declared.ids.LineId.{LineId}
use Rattle.netlist.specs.declared.op.Op.{Op}
use Rattle.state_sets.specs.declared.state.State.{State}
use Rattle.state_sets.specs.StateAlgebra.{StateAlgebra, joined}
use Rattle.cones.proofs.Spreading.{no_line}

-- one pin more
pub joined_more : (a : StateAlgebra) (op : Op) (f : LineId → State) (pins : List LineId) (place : ℕ) → 0 < place → place ≤ length pins → (rest more : State)
    → rest ≡ joined a op (map f (drop place pins)) → more ≡ a.join op (f (get_or pins (place - 1) no_line)) rest
    → more ≡ joined a op (map f (drop (place - 1) pins))
joined_more a op f pins place some within rest more is joins =
    let next : place - 1 + 1 ≡ place = omega arith in
    let split : drop (place - 1) pins ≡ get_or pins (place - 1) no_line ∷ drop place pins =
    drop_more pins (place - 1) no_line (omega arith) ∙ ap (λ k. get_or pins (place - 1) no_line ∷ drop k pins) next in
    joins ∙ ap (a.join op (f (get_or pins (place - 1) no_line))) is ∙ ap (λ (ls : List LineId). joined a op (map f ls)) (sym split)
