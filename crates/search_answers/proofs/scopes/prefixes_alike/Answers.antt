-- The next scope leaves the circuit, and what is told, as they were.
use Rattle.std.proofs.Common.{◌<◌, All, sym, subst}
use Rattle.netlist.specs.Circuit.{Circuit, source_count}
use Rattle.state_laws.specs.declared.split.Half.{Half}
use Rattle.trees.specs.Unlinked.{IsUnlinked}
use Rattle.search_answers.proofs.Told.{still_told}
use Rattle.search_answers.proofs.scopes.prefixes_alike.Goals as goal

pub loop-count-preserved : goal.loop-count-preserved
loop-count-preserved g c =
    let now = c.in_ok-scope_alike.ensures in
    let was = c.loop-count.invariant in
    let Source : Circuit → Type 0 = λ n. c.args.assumed.now.source.0 < source_count n in
    let Halves : Circuit → Type 0 = λ n. All (λ (half : Half). half.split.line.0 < source_count n) c.args.assumed.now.halves.now in
    record {
      idle = now.idle;
      source = subst Source (sym now.net) was.source;
      halves = subst Halves (sym now.net) was.halves;
      told = still_told c.loop-count.engine c.scope_alike.new.engine c.args.marks.now now.net now.rules now.ends was.told;
      unlinked = subst IsUnlinked (sym now.rules) was.unlinked;
    }
