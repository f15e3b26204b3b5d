-- Both tests are made on the old sets, and then both sets are cut.
use Rattle.std.proofs.Common.{List, sym, ap, ◌∙◌, subst}
use Rattle.std.proofs.Math.ListN.{set}
use Rattle.state_sets.specs.declared.state.StateSet.{StateSet}
use Rattle.state_sets.specs.States.{both_sets}
use Rattle.state_sets.specs.Labellings.{label_at}
use Rattle.state_sets.specs.Narrowing.{IsLinkNarrowing}
use Rattle.hulls.proofs.LinkCuts.{link_narrowed}
use Rattle.hulls.proofs.link.narrow_sets.Goals as goal

pub returns-clause-narrowed : goal.returns-clause-narrowed
returns-clause-narrowed g c =
    let a = g.A.Algebra.algebra in let old = c.args.labels.now in
    let at_line = c.linked_lines-at_line.result in
    subst (IsLinkNarrowing a c.args.source.0 c.args.line.0 old)
    (sym (c.cut_line-line_cut.ensures.labels
    ∙ ap (λ (mid : List StateSet). set mid c.args.line.0 (both_sets (label_at mid c.args.line.0) at_line)) c.cut_line-source_cut.ensures.labels))
    (link_narrowed a c.args.source.0 c.args.line.0 old c.requires.source c.requires.line c.linked_sources-at_source.result at_line
    c.linked_sources-at_source.ensures c.linked_lines-at_line.ensures)
