-- The scope begins at the source of the prefix, and enters its pins where no conflict stands from there on.
use Rattle.std.proofs.Common.{◌<◌, ℕ, Option, Some, sym, ap, subst, ◌∙◌}
use Rattle.std.specs.Prelude.{is_some, IfNone}
use Rattle.pd_base.specs.declared.ids.LineId.{LineId}
use Rattle.netlist.specs.Circuit.{Circuit, source_count}
use Rattle.netlist.specs.Paths.{IsPrefix}
use Rattle.implication.specs.AlongPrefix.{HasEnteredAlong}
use Rattle.implication.specs.Standing.{IsOpenIn, IsTold}
use Rattle.implication.proofs.AlongPrefix.{none_entered, none_if}
use Rattle.implication.proofs.Settings.{end_told_there, own_told}
use Rattle.implication.proofs.engine.Engine.begin_at.Goals as goal

pub begin-requires-clause-source : goal.begin-requires-clause-source
begin-requires-clause-source g c =
    let P : LineId → Type 0 = λ line. line.0 < source_count c.args.self.now.net in subst P (sym c.source.ensures) c.requires.prefix.source

pub begin-requires-clause-told : goal.begin-requires-clause-told
begin-requires-clause-told g c =
    let P : LineId → Type 0 = λ line. IsTold c.args.self.now line.0 in
    subst P (sym c.source.ensures) (own_told c.args.self.now c.args.prefix.now c.requires.prefix c.requires.told)

pub enter_all-requires-clause-prefix : goal.enter_all-requires-clause-prefix
enter_all-requires-clause-prefix g c =
    let P : Circuit → Type 0 = λ n. IsPrefix n c.args.prefix.now in subst P (sym c.begin.ensures.begun.net) c.requires.prefix

pub enter_all-requires-clause-told : goal.enter_all-requires-clause-told
enter_all-requires-clause-told g c =
    let begun = c.begin.ensures.begun in
    end_told_there c.args.self.now c.begin.new.self (record { net = begun.net; rules = begun.rules; ends = begun.ends }) c.args.prefix.now
    c.requires.told

pub enter_all-requires-clause-start : goal.enter_all-requires-clause-start
enter_all-requires-clause-start g c =
    let begun = c.begin.ensures.begun in let now = c.begin.new.self in
    let free = sym c.conflict.ensures.stands ∙ none_if c.conflict.result (sym c.is_some.ensures ∙ c.if-is_some.false) in
    let P : Option LineId → Type 0 = λ o. IfNone o (IsOpenIn g.A.Algebra.algebra now) in
    record {
      begun = record { source = c.source.result; direction = c.args.direction; kind = c.args.kind };
      beginning = begun.beginning;
      source = c.source.ensures;
      entered = begun.nothing;
      free = free;
      left_open = subst P free c.begin.ensures.open;
    }

pub returns-then-is_some-clause-begun : goal.returns-then-is_some-clause-begun
returns-then-is_some-clause-begun g c =
    let begun = c.begin.ensures.begun in
    record {
      net = begun.net;
      rules = begun.rules;
      ends = begun.ends;
      beginning = begun.beginning
          ∙ (λ i. Some (record { source = c.source.ensures i; direction = c.args.direction; kind = c.args.kind }));
      along = none_entered c.args.prefix.now c.args.self.now.closings c.begin.new.self begun.nothing
          (ap is_some (sym c.conflict.ensures.stands) ∙ sym c.is_some.ensures ∙ c.if-is_some.true) begun.closings;
    }

pub returns-then-is_some-clause-tells : goal.returns-then-is_some-clause-tells
returns-then-is_some-clause-tells g c = record { left_open = c.begin.ensures.open; emptied = c.begin.ensures.emptied }

pub returns-clause-begun : goal.returns-clause-begun
returns-clause-begun g c =
    let begun = c.begin.ensures.begun in let setting = c.enter_all.ensures.setting in
    let P : ℕ → Type 0 = λ n. HasEnteredAlong c.args.prefix.now n c.enter_all.new.self in
    record {
      net = setting.net ∙ begun.net;
      rules = setting.rules ∙ begun.rules;
      ends = setting.ends ∙ begun.ends;
      beginning = c.enter_all.ensures.beginning ∙ begun.beginning
          ∙ (λ i. Some (record { source = c.source.ensures i; direction = c.args.direction; kind = c.args.kind }));
      along = subst P begun.closings c.enter_all.ensures.along;
    }
