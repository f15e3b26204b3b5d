-- The links are numbered on behind the gates.
use Rattle.std.proofs.Common.{ℕ, ◌<◌, ◌+◌, length, sym, subst}
use Rattle.std.specs.List.{Contains}
use Rattle.hulls.specs.Boards.{OnBoard}
use Rattle.hulls.proofs.board.Board.ask_all.Goals as goal

pub returns-clause-links_wait : goal.returns-clause-links_wait
returns-clause-links_wait g c = λ link inside.
    subst (λ (n : ℕ). Contains c.ask_links.new.self.waiting (record { 0 = n + link })) c.gates.ensures
    (c.ask_links.ensures.waits link
    (subst (λ (b : OnBoard). link < length b.links) (sym c.ask_gates.ensures.labels) inside))
