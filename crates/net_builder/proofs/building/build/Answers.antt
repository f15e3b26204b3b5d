-- What is left after all checks is the circuit that the statements describe.
use Rattle.std.proofs.Common.{◌≡◌, ◌≤◌, sym, subst, ◌∙◌}
use Rattle.netlist.specs.declared.limits.TheConstants.{MOST_LEVELS}
use Rattle.netlist.specs.Description.{described}
use Rattle.netlist.specs.Lawful.{IsLoopFree}
use Rattle.netlist.specs.Levels.{greatest_level}
use Rattle.net_builder.proofs.Assembly.{stored_itself, stored_view}
use Rattle.net_builder.proofs.building.build.Goals as goal

pub new-requires : goal.new-requires
new-requires c = stored_itself (described c.args.raw.now) c.in_ok-layout.layout c.in_ok-layout.ensures.stored

pub returns-clause-circuit : goal.returns-clause-circuit
returns-clause-circuit c =
    let same : c.new.result ≡ described c.args.raw.now =
    c.new.ensures ∙ stored_view (described c.args.raw.now) c.in_ok-layout.layout c.in_ok-layout.ensures.stored in
    record {
      named = c.in_ok-parts.ensures.named;
      is = same;
      loop_free = subst IsLoopFree (sym same) c.in_ok-layout.ensures.loop_free;
      few_levels = subst (λ d. greatest_level d ≤ MOST_LEVELS) (sym same) c.in_ok-layout.ensures.few_levels;
    }
