-- The sets are cut to the limits, and choices out of the cut sets are those within the limits.
use Rattle.std.proofs.Common.{◌<◌, ◌^◌, ◌⊎◌, inl, inr, ⊎_elim, subst, arith}
use Rattle.std.proofs.lemmas.List.{get_or_default}
use Rattle.netlist.specs.declared.op.Op.{Op}
use Rattle.netlist.specs.Gates.{op_of}
use Rattle.state_sets.specs.declared.state.StateSet.{StateSet}
use Rattle.state_sets.specs.States.{Has, no_states}
use Rattle.hulls.specs.Sets.{Means, set_at}
use Rattle.hulls.specs.Joins.{FoldsInto, Supports}
use Rattle.hulls.specs.Passes.{PassSupports}
use Rattle.hulls.specs.GateViews.{pin_sets}
use Rattle.hulls.proofs.Limited.{cut_sets_within, cut_choice, choice_cut}
use Rattle.hulls.proofs.collecting.pass.Goals as goal

pub join_suffixes-requires-clause-sets : goal.join_suffixes-requires-clause-sets
join_suffixes-requires-clause-sets g c = λ k d inside.
    subst (λ (s : StateSet). s.0 < 2 ^ g.A.Algebra.algebra.count) (get_or_default c.cut_to.new.cut k no_states d inside)
    (cut_sets_within g.A.Algebra.algebra.count c.args.limits (pin_sets c.args.gate.now)
    c.cut_to.new.cut c.cut_to.ensures c.requires.on_path c.requires.sides k (let e = c.cut_to.ensures.one_each in omega arith))

pub support_each-requires-clause-sets : goal.support_each-requires-clause-sets
support_each-requires-clause-sets g c = λ k d inside.
    subst (λ (s : StateSet). s.0 < 2 ^ g.A.Algebra.algebra.count) (get_or_default c.cut_to.new.cut k no_states d inside)
    (cut_sets_within g.A.Algebra.algebra.count c.args.limits (pin_sets c.args.gate.now)
    c.cut_to.new.cut c.cut_to.ensures c.requires.on_path c.requires.sides k (let e = c.cut_to.ensures.one_each in omega arith))

pub returns-clause-at_pins : goal.returns-clause-at_pins
returns-clause-at_pins g c = λ pin inside state.
    let a = g.A.Algebra.algebra in let cut = c.cut_to.new.cut in
    let sets = pin_sets c.args.gate.now in
    let P : Op → Type 0 = λ op. Means a.count (set_at c.support_each.new.kept pin)
    (λ s. Has a.count (set_at c.args.kept.now pin) s ⊎ Supports a op cut c.args.target pin s) in
    let supported = subst P c.operation-op.ensures (c.support_each.ensures.each pin (omega arith)) state in (
      (λ has. ⊎_elim (λ had. inl had)
          (λ (supports : Supports a (op_of c.args.gate.now.kind) cut c.args.target pin state).
          let both = cut_choice a c.args.limits sets cut c.cut_to.ensures supports.each in
          inr (record { choice = supports.choice; each = both.0; limited = both.1; hits = supports.hits; here = supports.here }))
          (supported.0 has)),
      λ either. supported.1 (⊎_elim (λ had. inl had)
          (λ (supports : PassSupports a (op_of c.args.gate.now.kind) c.args.limits sets c.args.target pin state). inr (record {
            choice = supports.choice;
            each = choice_cut a c.args.limits sets cut c.cut_to.ensures supports.each supports.limited;
            hits = supports.hits;
            here = supports.here;
          })) either),
    )

pub returns-clause-all : goal.returns-clause-all
returns-clause-all g c = λ state.
    let a = g.A.Algebra.algebra in let cut = c.cut_to.new.cut in
    let sets = pin_sets c.args.gate.now in
    let P : Op → Type 0 = λ op. Means a.count c.support_each.result (FoldsInto a op cut c.args.target) in
    let folds = subst P c.operation-op.ensures c.support_each.ensures.all state in (
      (λ has. let into = folds.0 has in
          let both = cut_choice a c.args.limits sets cut c.cut_to.ensures into.folds.each in
          record { choice = into.folds.choice; each = both.0; limited = both.1; joins = into.folds.joins; hits = into.hits }),
      λ found. folds.1 (record {
        folds = record {
          choice = found.choice;
          each = choice_cut a c.args.limits sets cut c.cut_to.ensures found.each found.limited;
          joins = found.joins;
        };
        hits = found.hits;
      }),
    )
