-- Each name that is used is defined where all pins read lines, and the outputs and data lines are among the names.
use Rattle.std.proofs.Common.{ℕ, ◌+◌, ◌<◌, List, [], ◌∷◌, ◌++◌, length, map, take, get_or, Some, None, cond, sym, ap, subst, arith}
use Rattle.std.specs.List.{All, Contains, flat_map, position_or_len}
use Rattle.std.specs.Str.{bytes_eq}
use Rattle.std.proofs.lemmas.Bool.{lt-ltb}
use Rattle.std.proofs.lemmas.List.Elements.{All-append, All-cons, All-tail}
use Rattle.pd_base.specs.declared.ids.LineId.{LineId}
use Rattle.netlist.specs.declared.raw_net.RawStmt.{RawStmt}
use Rattle.netlist.specs.declared.raw_net.RawStmt.TheVariants.{Input, Output, Gate, Flop}
use Rattle.netlist.specs.Description.{NamedGate, gate_in, gates, line_named, used_names}
use Rattle.netlist.specs.Statements.{Numbered, used_by}
use Rattle.net_builder.specs.Reading.{no_statement, statement_at}
use Rattle.net_builder.specs.Groups.{other_uses}
use Rattle.net_builder.proofs.Defining.{all_unmapped}
use Rattle.net_builder.proofs.Naming.{found_in}
use Rattle.net_builder.proofs.Pieces.{flat_more}

-- the outputs and data lines, with one statement more
pub others_more : (statements : List Numbered) (place : ℕ) → place < length statements → (P : List ℕ → Type 0)
    → All P (flat_map (λ s. other_uses s.statement) (take place statements)) → All P (other_uses (statement_at statements place))
    → All P (flat_map (λ s. other_uses s.statement) (take (place + 1) statements))
others_more statements place within P before own =
    subst (All P) (sym (flat_more (λ s. other_uses s.statement) statements place no_statement within))
    (All-append P (flat_map (λ s. other_uses s.statement) (take place statements)) (other_uses (statement_at statements place)) before own)

-- a name that is given a line is among the names
pub has_line : (names : List (List ℕ)) (name : List ℕ) → (line_named names name).0 < length names → Contains names name
has_line names name below =
    let place = position_or_len (bytes_eq name) names in
    found_in name names place (ap (λ b. cond b (Some place) None) (lt-ltb place (length names) below))

-- and so are the arguments of gates whose pins read lines
pub arguments_have_lines : (names : List (List ℕ)) (named : List NamedGate)
    → All (λ gate. All (λ (line : LineId). line.0 < length names) gate) (map (λ gate. map (line_named names) gate.arguments) named)
    → All (λ gate. All (Contains names) gate.arguments) named
arguments_have_lines names named all =
    λ at d within k e below.
    has_line names (get_or (get_or named at d).arguments k e)
    (all_unmapped (λ (line : LineId). line.0 < length names) (line_named names) (get_or named at d).arguments
    (all_unmapped (λ (gate : List LineId). All (λ (line : LineId). line.0 < length names) gate)
    (λ (gate : NamedGate). map (line_named names) gate.arguments) named all at d within) k e below)

module _ (P : List ℕ → Type 0) where
  -- what one statement uses, and what those behind it use
  used_first : (s : RawStmt) (more : List NamedGate) (others used : List (List ℕ))
      → All (λ gate. All P gate.arguments) (gate_in s ++ more) → All P (other_uses s ++ others)
      → (All (λ gate. All P gate.arguments) more → All P others → All P used) → All P (used_by s ++ used)
  used_first (Input name) more others used a b rest = rest a b
  used_first (Output name) more others used a b rest =
      All-cons P name used (b 0 name (omega arith)) (rest a (All-tail P name others b))
  used_first (Gate name kind arguments) more others used a b rest =
      let gate : NamedGate = record { name = name; kind = kind; arguments = arguments } in
      All-append P arguments used (a 0 gate (omega arith)) (rest (All-tail (λ gate. All P gate.arguments) gate more a) b)
  used_first (Flop name data_line) more others used a b rest =
      All-cons P data_line used (b 0 data_line (omega arith)) (rest a (All-tail P data_line others b))

  -- so what all of them use
  pub all_used : (statements : List Numbered) → All (λ gate. All P gate.arguments) (gates statements)
      → All P (flat_map (λ s. other_uses s.statement) statements) → All P (used_names statements)
  all_used [] a b = b
  all_used (s ∷ statements) a b =
      used_first s.statement (gates statements) (flat_map (λ s. other_uses s.statement) statements) (used_names statements) a b
      (all_used statements)
