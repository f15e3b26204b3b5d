-- The marks tell which flip-flops stand in the chains.
use Rattle.std.proofs.Common.{◌≡◌, ◌∙◌, ◌+◌, ◌<◌, ◌++◌, ◌∷◌, List, length, get_or, take, drop, Contains, sym, ap, subst, take-append-drop, arith}
use Rattle.std.specs.List.{All}
use Rattle.std.proofs.lemmas.List.{drop_more, get_or-map, length-map, take_all}
use Rattle.std.proofs.lemmas.List.Elements.{All-more}
use Rattle.pd_base.specs.declared.ids.LineId.{LineId}
use Rattle.scan_order.specs.Chains.{flop_lines, in_chains}
use Rattle.scan_order.specs.Inside.Growing.{chains_so_far}
use Rattle.scan_order.proofs.Taken.{marked, unmarked}
use Rattle.scan_order.proofs.growing.Growing.first_missing.Goals as goal

pub returns-then-not-index : goal.returns-then-not-index
returns-then-not-index c =
    let flops = c.flops-flop-items.result.now in
    let lines : List LineId = flop_lines c.args.net.now in
    let at = c.loop-flop.flop-index in
    let none : LineId = record { 0 = 0 } in
    let long : length lines ≡ length c.flops-flop-items.result.now =
    length-map c.args.net.now.flops (λ (flop : LineId × LineId). flop.0) ∙ ap length (sym c.flops-flop-items.ensures.flops) in
    let within : c.loop-flop.flop-index < length lines = omega arith in
    let own : get_or lines at none ≡ (get_or flops at (none, none)).0 =
    get_or-map (λ (flop : LineId × LineId). flop.0) c.args.net.now.flops at (none, none) none (omega (arith, ap length c.flops-flop-items.ensures.flops))
    ∙ ap (λ (list : List (LineId × LineId)). (get_or list at (none, none)).0) (sym c.flops-flop-items.ensures.flops) in
    record {
      before = take at lines;
      behind = drop (at + 1) lines;
      place = sym (take-append-drop at lines) ∙ ap (λ (rest : List LineId). take at lines ++ rest)
          (drop_more lines at none within ∙ ap (λ (first : LineId). first ∷ drop (at + 1) lines) own);
      others = c.loop-flop.invariant;
      outside = unmarked c.args.net.now (chains_so_far c.args.self.now) c.args.self.now c.requires.marks (get_or flops at (none, none)).0.0
          (c.flops-flop-items.ensures.sources at (none, none) c.loop-flop-test.true) c.index.result.now c.index.ensures c.if-not-index.true;
    }

pub loop-flop-preserved : goal.loop-flop-preserved
loop-flop-preserved c =
    let flops = c.flops-flop-items.result.now in
    let lines : List LineId = flop_lines c.args.net.now in
    let at = c.loop-flop.flop-index in
    let none : LineId = record { 0 = 0 } in
    let long : length lines ≡ length c.flops-flop-items.result.now =
    length-map c.args.net.now.flops (λ (flop : LineId × LineId). flop.0) ∙ ap length (sym c.flops-flop-items.ensures.flops) in
    let within : c.loop-flop.flop-index < length lines = omega arith in
    let own : get_or lines at none ≡ (get_or flops at (none, none)).0 =
    get_or-map (λ (flop : LineId × LineId). flop.0) c.args.net.now.flops at (none, none) none (omega (arith, ap length c.flops-flop-items.ensures.flops))
    ∙ ap (λ (list : List (LineId × LineId)). (get_or list at (none, none)).0) (sym c.flops-flop-items.ensures.flops) in
    All-more (Contains (in_chains (chains_so_far c.args.self.now))) lines at none within c.loop-flop.invariant
    (subst (Contains (in_chains (chains_so_far c.args.self.now))) (sym own)
    (marked c.args.net.now (chains_so_far c.args.self.now) c.args.self.now c.requires.marks (get_or flops at (none, none)).0.0
    (c.flops-flop-items.ensures.sources at (none, none) c.loop-flop-test.true) c.index.result.now c.index.ensures c.if-not-index.false))

pub returns : goal.returns
returns c =
    let long : length (flop_lines c.args.net.now) ≡ length c.args.net.now.flops = length-map c.args.net.now.flops (λ (flop : LineId × LineId). flop.0) in
    subst (All (Contains (in_chains (chains_so_far c.args.self.now))))
    (take_all c.loop-flop.flop-index (flop_lines c.args.net.now) (omega (arith, long, ap length c.flops-flop-items.ensures.flops))) c.loop-flop.invariant
