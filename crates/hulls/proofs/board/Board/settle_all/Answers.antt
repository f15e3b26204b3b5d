-- A line without a state is emptied; else all gates inside are asked, and the labels stay as they are until the board settles.
use Rattle.std.proofs.Common.{List, [], inl, refl, sym, ap, ◌∙◌, subst, arith}
use Rattle.std.proofs.lemmas.Grind.{common_steps}
use Rattle.state_sets.specs.declared.state.StateSet.{StateSet}
use Rattle.state_sets.specs.States.{AreWithin}
use Rattle.state_sets.specs.Hulls.{HasNoEmptySet}
use Rattle.state_sets.specs.Labellings.{label_at}
use Rattle.state_laws.specs.Cones.{IsNarrowingIn}
use Rattle.state_laws.proofs.Sweeps.{keeps_none, emptied_of_kept}
use Rattle.hulls.specs.Awaiting.{is_inside}
use Rattle.hulls.specs.Boards.{OnBoard}
use Rattle.hulls.specs.Settling.{IsNarrowed, MaySettle}
use Rattle.hulls.proofs.board.Board.settle_all.Goals as goal

pub returns-in-Some-clause-emptied : goal.returns-in-Some-clause-emptied
returns-in-Some-clause-emptied g c =
    let on = c.args.conditions.now in let net = c.args.net.now in let a = g.A.Algebra.algebra in let old = c.args.self.now in (
      c.in-Some.ensures.some.0,
      emptied_of_kept a net (IsNarrowingIn net (is_inside old.inside) old.links on.kind on.steps) old.labels old.labels
          (keeps_none a net (IsNarrowingIn net (is_inside old.inside) old.links on.kind on.steps) old.labels (record {
            one_each = c.requires.of.lines;
            within = subst (λ (l : List StateSet). AreWithin a.count l) c.labels.ensures.labels c.labels.ensures.within;
          })) c.in-Some.line.0
          (ap (λ (l : List StateSet). label_at l c.in-Some.line.0) (sym c.labels.ensures.labels) ∙ c.in-Some.ensures.some.1),
    )

pub returns-in-Some-clause-narrowed : goal.returns-in-Some-clause-narrowed
returns-in-Some-clause-narrowed g c =
    let on = c.args.conditions.now in let net = c.args.net.now in let a = g.A.Algebra.algebra in let old = c.args.self.now in
    subst (IsNarrowed a net on.kind on.steps old) (sym c.rest.ensures) (record {
      keeps = keeps_none a net (IsNarrowingIn net (is_inside old.inside) old.links on.kind on.steps) old.labels (record {
        one_each = c.requires.of.lines;
        within = subst (λ (l : List StateSet). AreWithin a.count l) c.labels.ensures.labels c.labels.ensures.within;
      });
      inside = refl;
      links = refl;
      follows = record { more = []; notes = grind (arith, common_steps); back = refl };
    })

pub returns-clause-narrowed : goal.returns-clause-narrowed
returns-clause-narrowed g c =
    let on = c.args.conditions.now in let net = c.args.net.now in let narrowed = c.settle.ensures.narrowed in
    let P : OnBoard → Type 0 = λ b. IsNarrowed g.A.Algebra.algebra net on.kind on.steps b c.settle.new.self in
    let asked = subst P c.ask_all.ensures.labels narrowed in
    record {
      keeps = asked.keeps;
      inside = asked.inside;
      links = asked.links;
      follows = record { more = asked.follows.more; notes = asked.follows.notes; back = asked.follows.back };
    }

pub returns-clause-emptied : goal.returns-clause-emptied
returns-clause-emptied g c = grind (arith, common_steps)

pub returns-clause-hull : goal.returns-clause-hull
returns-clause-hull g c = grind (arith, common_steps)

pub settle-requires-clause-ready : goal.settle-requires-clause-ready
settle-requires-clause-ready g c =
    let on = c.args.conditions.now in let net = c.args.net.now in let a = g.A.Algebra.algebra in let old = c.args.self.now in
    subst (MaySettle a net on.kind on.steps) (sym c.ask_all.ensures.labels) (record {
      of = record {
        lines = c.requires.of.lines;
        gates = c.requires.of.gates;
        few = c.requires.of.few;
        links = c.requires.of.links;
        links_inside = c.requires.of.links_inside;
      };
      labelling = record {
        one_each = c.requires.of.lines;
        within = subst (λ (l : List StateSet). AreWithin a.count l) c.labels.ensures.labels c.labels.ensures.within;
      };
      some = subst (HasNoEmptySet net) c.labels.ensures.labels c.in_default.ensures.none;
      awake = record {
        gates = λ gate within here. inl (c.ask_all.ensures.waits gate within here);
        links = λ link inside. inl (c.ask_all.ensures.links_wait link inside);
      };
    })
