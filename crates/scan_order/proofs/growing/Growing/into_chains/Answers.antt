-- The chains end where all flip-flops stand in them.
use Rattle.std.proofs.Common.{◌∙◌, ◌++◌, [], ◌∷◌, List, sym, ap, arith}
use Rattle.std.specs.Global.{Vec}
use Rattle.pd_base.specs.declared.ids.LineId.{LineId}
use Rattle.std.proofs.lemmas.Bool.{eqb-false, eqb-true}
use Rattle.std.proofs.lemmas.List.{nil_from_length}
use Rattle.std.proofs.lemmas.Result.{err_from_is_err_and}
use Rattle.scan_order.specs.Inside.Growing.FailsToEnd.{missing, no_memory}
use Rattle.scan_order.proofs.ReadSoFar.{ended_are, ended_are_of, ended_with, ended_without, outside_missing, AreEnded}
use Rattle.scan_order.proofs.growing.Growing.into_chains.Goals as goal
use Rattle.scan_order.proofs.growing.Growing.into_chains.Goals.{then-not-is_empty+in_ok-push, else-not-is_empty}

pub returns-in-Some-clause-missing : goal.returns-in-Some-clause-missing
returns-in-Some-clause-missing c = missing c.in-Some.flop (outside_missing c.args.net.now c.args.self c.requires.growing c.in-Some.flop c.in-Some.ensures)

pub returns-in_err-push-clause-missing : goal.returns-in_err-push-clause-missing
returns-in_err-push-clause-missing c =
    let answer = err_from_is_err_and c.from_residual.result c.from_residual.ensures.1 in
    rw (answer.1, answer.2) no_memory

pub new-requires-2 : goal.new-requires-2
new-requires-2 c =
    let ended : AreEnded c.args.net.now c.args.self c.requires.growing c.if-not-is_empty.ended.items =
    elim c.if-not-is_empty.branch [
      | then-not-is_empty+in_ok-push w ↦
          let some = eqb-false _ _ (sym c.is_empty.ensures ∙ w.if-not-is_empty.true) in
          ended_with c.args.net.now c.args.self c.requires.growing c.if-not-is_empty.ended.items (omega (arith, some, c.args.self.chain.ok))
          (ap (λ (v : Vec (List LineId)). v.items) w.ended-is ∙ w.in_ok-push.ensures.items ∙ ap (λ (chain : List LineId). c.args.self.ended.items ++ chain ∷ []) w.new.ensures)
      | else-not-is_empty w ↦
          let none = eqb-true _ _ (sym c.is_empty.ensures ∙ w.if-not-is_empty.false) in
          let empty = nil_from_length c.args.self.chain.items (omega (arith, none, c.args.self.chain.ok)) in
          ended_without c.args.net.now c.args.self c.requires.growing c.if-not-is_empty.ended.items empty (c.requires.ended empty)
          (ap (λ (v : Vec (List LineId)). v.items) w.ended-is)
    ] in
    ended_are c.args.net.now c.args.self c.requires.growing c.if-not-is_empty.ended.items ended

pub returns-clause-chains : goal.returns-clause-chains
returns-clause-chains c =
    let ended : AreEnded c.args.net.now c.args.self c.requires.growing c.if-not-is_empty.ended.items =
    elim c.if-not-is_empty.branch [
      | then-not-is_empty+in_ok-push w ↦
          let some = eqb-false _ _ (sym c.is_empty.ensures ∙ w.if-not-is_empty.true) in
          ended_with c.args.net.now c.args.self c.requires.growing c.if-not-is_empty.ended.items (omega (arith, some, c.args.self.chain.ok))
          (ap (λ (v : Vec (List LineId)). v.items) w.ended-is ∙ w.in_ok-push.ensures.items ∙ ap (λ (chain : List LineId). c.args.self.ended.items ++ chain ∷ []) w.new.ensures)
      | else-not-is_empty w ↦
          let none = eqb-true _ _ (sym c.is_empty.ensures ∙ w.if-not-is_empty.false) in
          let empty = nil_from_length c.args.self.chain.items (omega (arith, none, c.args.self.chain.ok)) in
          ended_without c.args.net.now c.args.self c.requires.growing c.if-not-is_empty.ended.items empty (c.requires.ended empty)
          (ap (λ (v : Vec (List LineId)). v.items) w.ended-is)
    ] in
    rw c.new-2.ensures (ended_are_of c.args.net.now c.args.self c.requires.growing c.if-not-is_empty.ended.items ended c.in_default.ensures)

pub returns-clause-lines : goal.returns-clause-lines
returns-clause-lines c =
    let ended : AreEnded c.args.net.now c.args.self c.requires.growing c.if-not-is_empty.ended.items =
    elim c.if-not-is_empty.branch [
      | then-not-is_empty+in_ok-push w ↦
          let some = eqb-false _ _ (sym c.is_empty.ensures ∙ w.if-not-is_empty.true) in
          ended_with c.args.net.now c.args.self c.requires.growing c.if-not-is_empty.ended.items (omega (arith, some, c.args.self.chain.ok))
          (ap (λ (v : Vec (List LineId)). v.items) w.ended-is ∙ w.in_ok-push.ensures.items ∙ ap (λ (chain : List LineId). c.args.self.ended.items ++ chain ∷ []) w.new.ensures)
      | else-not-is_empty w ↦
          let none = eqb-true _ _ (sym c.is_empty.ensures ∙ w.if-not-is_empty.false) in
          let empty = nil_from_length c.args.self.chain.items (omega (arith, none, c.args.self.chain.ok)) in
          ended_without c.args.net.now c.args.self c.requires.growing c.if-not-is_empty.ended.items empty (c.requires.ended empty)
          (ap (λ (v : Vec (List LineId)). v.items) w.ended-is)
    ] in
    rw c.new-2.ensures ended.lines
