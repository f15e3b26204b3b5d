-- The texts of a path call for no quotes: digits never do, and names of this circuit don't.
use Rattle.std.proofs.Common.{◌≡◌, ◌∙◌, ap, sym, subst, arith}
use Rattle.pd_base.specs.Route.{Route}
use Rattle.netlist.specs.Circuit.{Circuit}
use Rattle.netlist.specs.Names.{name_at}
use Rattle.runs.specs.Lawful.{IsNameable}
use Rattle.run_files.specs.declared.rows.PathTexts.{PathTexts}
use Rattle.run_files.specs.PlainTexts.{HasPlainNames, IsPlain}
use Rattle.run_files.specs.ReportRows.{ArePlain}
use Rattle.run_files.specs.ReportText.{steps_text}
use Rattle.run_files.proofs.StepTexts.{name_plain, steps_plain}
use Rattle.run_files.proofs.report.write_path.Goals as goal

-- where source and steps are those of a path that the report can name
texts_plain : (c : Circuit) (path : Route) (texts : PathTexts) → HasPlainNames c → IsNameable c path
    → IsPlain texts.number.now → IsPlain texts.length.now
    → texts.source.now ≡ name_at c path.source.0 → texts.steps.now ≡ steps_text c path.steps → ArePlain texts
texts_plain c path texts names nameable number length source steps = record {
  number = number;
  length = length;
  source = subst IsPlain (sym source) (name_plain c names path.source.0 (omega (arith, nameable.source)));
  steps = subst IsPlain (sym steps) (steps_plain c names path.steps nameable.steps);
}

pub write_faults-requires-clause-plain : goal.write_faults-requires-clause-plain
write_faults-requires-clause-plain c =
    let net = c.args.net.now in
    texts_plain net c.args.listed.now.path _ c.requires.names c.requires.path c.digits_of.ensures.plain c.digits_of-2.ensures.plain
    (c.name.ensures ∙ ap (λ line. name_at net line.0) c.source.ensures)
    (c.as_slice.ensures.value ∙ c.in_ok-steps.ensures ∙ ap (steps_text net) c.steps.ensures)
