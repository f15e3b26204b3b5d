-- The names are those of the circuit's lines, and short and few.
use Rattle.std.proofs.Common.{ℕ, List, length, map, sym, ap, subst, ◌∙◌, arith}
use Rattle.std.specs.List.{All}
use Rattle.netlist.specs.Greatest.{greatest}
use Rattle.netlist.specs.Names.{IsByName, IsName}
use Rattle.net_builder.proofs.Circuits.{described_lines, described_names, names_are}
use Rattle.net_builder.proofs.Deep.{few_lines}
use Rattle.net_builder.proofs.named_lines.named_lines.Goals as goal

pub lines_by_name-requires-clause-few : goal.lines_by_name-requires-clause-few
lines_by_name-requires-clause-few c =
    let st = c.args.raw.now in
    omega (arith, ap length c.requires.names, described_lines st, few_lines st c.requires.named.limits)

pub lines_by_name-requires-clause-names : goal.lines_by_name-requires-clause-names
lines_by_name-requires-clause-names c =
    subst (All IsName) (sym c.requires.names) (names_are c.args.raw.now c.requires.named c.requires.lawful)

pub longest_of-longest_name-requires : goal.longest_of-longest_name-requires
longest_of-longest_name-requires c =
    subst (All IsName) (sym c.requires.names) (names_are c.args.raw.now c.requires.named c.requires.lawful)

pub returns : goal.returns
returns c =
    let own_names = c.requires.names ∙ sym (described_names c.args.raw.now) in
    record {
      names = own_names;
      by_name = subst (λ names. IsByName names c.in_ok-by_name.by_name.items) own_names c.in_ok-by_name.ensures;
      longest = c.longest_of-longest_name.ensures ∙ ap (λ (names : List (List ℕ)). greatest (map length names)) own_names;
      outputs = c.requires.outputs;
      flops = c.requires.flops;
    }
