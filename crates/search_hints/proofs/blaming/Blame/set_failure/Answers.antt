-- The lines of the failure are lines of the circuit, and those behind them lie where they do.
use Rattle.std.proofs.Common.{ℕ, ◌<◌, List, get_or, subst}
use Rattle.std.specs.List.{All, Contains}
use Rattle.std.proofs.lemmas.List.Elements.{All-contains}
use Rattle.pd_base.specs.declared.ids.LineId.{LineId}
use Rattle.netlist.specs.Circuit.{line_count}
use Rattle.netlist.specs.LinkedPairs.{IsSupported}
use Rattle.search_hints.proofs.Behind.{all_of_each, failing_all}
use Rattle.search_hints.proofs.blaming.Blame.set_failure.Goals as goal

pub spread-requires-clause-lines : goal.spread-requires-clause-lines
spread-requires-clause-lines c =
    all_of_each (λ n. n < line_count c.args.net.now) c.find_failing.new.found.lines
    (λ other has. failing_all (λ n. n < line_count c.args.net.now) c.args.line c.args.side c.requires.line c.requires.side other
    (c.find_failing.ensures.only other has))

pub returns-clause-blamed : goal.returns-clause-blamed
returns-clause-blamed c =
    let net = c.args.net.now in
    let items = c.list_open.new.list.items in
    record {
      are_sources = subst (λ (n : ℕ). All (λ (source : LineId). source.0 < n) items) c.sources.ensures.count c.list_open.ensures.sources;
      supported = λ links end here there k d inside.
          All-contains (λ (l : LineId). IsSupported net links end l.0) c.spread.new.found.lines (get_or items k d)
          (c.spread.ensures.behind.supported links end
          (all_of_each (IsSupported net links end) c.find_failing.new.found.lines
          (λ other has. failing_all (IsSupported net links end) c.args.line c.args.side here there other (c.find_failing.ensures.only other has))))
          (subst (λ (ls : List LineId). Contains ls (get_or items k d)) c.lines.ensures.lines (c.list_open.ensures.among k d inside));
    }
