-- One link more.
use Rattle.std.proofs.Common.{◌≡◌, true, ℕ, ◌<◌, ◌+◌, length, ⊎_elim, sym, ap, ◌∙◌, subst, arith}
use Rattle.std.specs.List.{Contains}
use Rattle.std.proofs.lemmas.Bool.{cases_eq}
use Rattle.hulls.specs.declared.turn.Turn.{Turn}
use Rattle.hulls.specs.Awaiting.{is_inside}
use Rattle.hulls.specs.Boards.{OnBoard}
use Rattle.hulls.proofs.board.Board.ask_links.Goals as goal

pub loop-link-preserved : goal.loop-link-preserved
loop-link-preserved g c =
    let at = c.loop-link.link in let gates = c.args.gates in let new = c.ask_turn.new.self.waiting in let i = c.loop-link.invariant in
    let here_in : at < length c.self.inside.links = omega (arith, c.loop-link-test.true, c.len-link-end.ensures) in
    record {
      same = c.ask_turn.ensures.labels ∙ ap (λ (b : OnBoard). let n : OnBoard = record b { waiting = new } in n) i.same;
      stays = λ turn waits. c.ask_turn.ensures.stays turn (i.stays turn waits);
      waits = λ k below. ⊎_elim
          (λ (here : k ≡ at). subst (λ (n : ℕ). Contains new (record { 0 = gates + n })) (sym here)
          (subst (λ (t : Turn). is_inside c.loop-link.self.inside t.0 ≡ true → Contains new t) c.of_link.ensures c.ask_turn.ensures.waits
          (ap (λ (b : OnBoard). is_inside b.inside (gates + at)) i.same
          ∙ c.requires.links_inside at (subst (λ (b : OnBoard). at < length b.links) c.self.view_is here_in))))
          (λ (away : k ≡ at → ⊥). c.ask_turn.ensures.stays (record { 0 = gates + k }) (i.waits k (omega (arith, below, away))))
          (cases_eq k at);
    }
