-- The engine is made for the path's end, over all links, and tells it.
use Rattle.std.proofs.Common.{◌<◌, ◌∷◌, [], ℕ, Some, false, refl, sym, ap, subst, arith}
use Rattle.std.specs.Prelude.{IfOk}
use Rattle.std.proofs.lemmas.List.Elements.{All-cons, All-nil}
use Rattle.pd_base.specs.Links.{links_of}
use Rattle.pd_base.specs.declared.ids.LineId.{LineId}
use Rattle.netlist.specs.Circuit.{line_count}
use Rattle.netlist.specs.Paths.{end_of}
use Rattle.implication.specs.Standing.{Standing, told_ends, FollowsLinks, IsToldBy}
use Rattle.implication.proofs.Told.{end_told}
use Rattle.justify.specs.Answers.{IsFound}
use Rattle.justify.specs.Desks.{IsDeskFor}
use Rattle.prefix_sensitize.specs.Anew.{CanBeEntered}
use Rattle.prefix_sensitize.specs.Outcomes.{target_for}
use Rattle.prefix_sensitize.proofs.anew.search_anew.Goals as goal

pub within-requires-clause-ends : goal.within-requires-clause-ends
within-requires-clause-ends g c =
    let P : LineId → Type 0 = λ end. end.0 < line_count c.args.setting.net.now in
    All-cons P c.args.end [] c.requires.line (All-nil P)

pub within-requires-clause-fit : goal.within-requires-clause-fit
within-requires-clause-fit g c = c.requires.desk.fit

pub search_begun-found-requires-clause-idle : goal.search_begun-found-requires-clause-idle
search_begun-found-requires-clause-idle g c = ap (λ (s : Standing). s.beginning) c.in_ok-engine.ensures

pub search_begun-found-requires-clause-told : goal.search_begun-found-requires-clause-told
search_begun-found-requires-clause-told g c =
    let net = c.args.setting.net.now in let links = links_of c.args.setting.rules.now in
    let ends = told_ends (c.args.end ∷ []) false in
    let P : ℕ → Type 0 = λ line. IsToldBy net links (Some ends) line in
    let Q : Standing → Type 0 = λ s. IsToldBy s.net (links_of s.rules) s.ends (end_of s.net c.args.path.now) in
    subst Q (sym c.in_ok-engine.ensures)
    (subst P c.requires.end (end_told net links ends c.args.end (0, omega arith, refl)))

pub search_begun-found-requires-clause-follows : goal.search_begun-found-requires-clause-follows
search_begun-found-requires-clause-follows g c =
    let P : Standing → Type 0 = λ s. FollowsLinks s.ends in subst P (sym c.in_ok-engine.ensures) refl

pub search_begun-found-requires-clause-enter : goal.search_begun-found-requires-clause-enter
search_begun-found-requires-clause-enter g c =
    let P : Standing → Type 0 = λ s. CanBeEntered s.net s.rules c.args.aim c.args.path.now in
    subst P (sym c.in_ok-engine.ensures) c.requires.enter

pub search_begun-found-requires-clause-desk : goal.search_begun-found-requires-clause-desk
search_begun-found-requires-clause-desk g c =
    let P : Standing → Type 0 = λ s. IsDeskFor g.A.Algebra.algebra s.net s.rules c.args.desk.now in
    subst P (sym c.in_ok-engine.ensures) c.requires.desk

pub returns-clause-desk : goal.returns-clause-desk
returns-clause-desk g c =
    let P : Standing → Type 0 = λ s. IsDeskFor g.A.Algebra.algebra s.net s.rules c.search_begun-found.new.desk in
    subst P c.in_ok-engine.ensures c.search_begun-found.ensures.desk

pub returns-clause-found : goal.returns-clause-found
returns-clause-found g c =
    let P : Standing → Type 0 = λ s. IfOk c.search_begun-found.result
    (IsFound s.net s.rules (target_for c.args.aim c.args.path.now) c.args.aim.budget) in
    subst P c.in_ok-engine.ensures c.search_begun-found.ensures.found
