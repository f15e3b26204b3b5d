-- The gate's own line is found, and no other one.
use Rattle.std.proofs.Common.{◌≡◌, [], ◌∷◌, true, inl, inr, ⊎_elim, sym, ap, ◌∙◌, subst}
use Rattle.std.specs.List.{Contains}
use Rattle.pd_base.specs.declared.ids.LineId.{LineId}
use Rattle.netlist.specs.Circuit.{gate_line}
use Rattle.cones.proofs.Finding.{only_one, one_there}
use Rattle.hulls.specs.Awaiting.{is_inside}
use Rattle.implication.proofs.reaching.reach_gate.Goals as goal

pub returns-clause-only : goal.returns-clause-only
returns-clause-only g c = λ line has.
    let is_in : is_inside c.args.board.now.inside c.args.gate.0 ≡ true = sym c.is_inside.ensures ∙ c.if-not-is_inside.false in
    ⊎_elim (λ was. inl was)
    (λ (one : Contains (c.line_of.result ∷ []) (record { 0 = line })).
    inr (is_in, ap (λ (l : LineId). l.0) (sym (only_one c.line_of.result (record { 0 = line }) one)) ∙ ap (λ (l : LineId). l.0) c.line_of.ensures.line))
    ((c.add.ensures.exactly line).0 has)

pub returns-clause-reads : goal.returns-clause-reads
returns-clause-reads g c = λ is_in pin line read has.
    let own : LineId = record { 0 = gate_line c.args.net.now c.args.gate.0 } in
    (c.add.ensures.exactly own.0).1
    (inr (subst (λ (l : LineId). Contains (l ∷ []) own) (sym c.line_of.ensures.line) (one_there own)))
