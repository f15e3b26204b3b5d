-- What is read of a statement that is kept flat: its form, its own name and the names that it uses.
use Rattle.std.proofs.Common.{◌≡◌, ℕ, zero, suc, ◌+◌, ◌≤◌, ◌<◌, List, [], ◌∷◌, length, drop, get_or, refl, sym, ap, subst, ◌∙◌, arith}
use Rattle.std.proofs.lemmas.List.{get_or-drop, get_or-map, get_or-take, length-drop, length-map, length-take-le}
use Rattle.netlist.specs.declared.raw_net.RawStmt.{RawStmt}
use Rattle.netlist.specs.declared.raw_net.RawStmt.TheVariants.{Input as InputOf, Output as OutputOf, Gate as GateOf, Flop as FlopOf}
use Rattle.netlist.specs.declared.kind.GateKind.{GateKind}
use Rattle.netlist.specs.declared.kind.GateKind.TheVariants.{And, Nand, Or, Nor, Xor, Xnor, Not, Buff}
use Rattle.netlist.specs.Lawful.{IsFanIn}
use Rattle.netlist.specs.Names.{IsName}
use Rattle.netlist.specs.Statements.{IsStatement, Numbered, used_by}
use Rattle.net_builder.specs.declared.raw_net.Form.{Form}
use Rattle.net_builder.specs.declared.raw_net.Form.TheVariants.{Input, Output, Gate, Flop}
use Rattle.net_builder.specs.declared.raw_net.Placed.{Placed}
use Rattle.net_builder.specs.declared.raw_net.RawNet.TheInside.{Inside}
use Rattle.net_builder.specs.RawStored.{IsRaw, own_names, skipped, statement_in, statements_in, used_count, with_names}
use Rattle.net_builder.specs.Reading.{no_statement, own_name, statement_at}

-- a gate has no more pins than the limit
few_pins : (kind : GateKind) (count : ℕ) → IsFanIn kind count → count ≤ 1024
few_pins And count is = is.few
few_pins Nand count is = is.few
few_pins Or count is = is.few
few_pins Nor count is = is.few
few_pins Xor count is = is.few
few_pins Xnor count is = is.few
few_pins Not count is = omega (arith, is)
few_pins Buff count is = omega (arith, is)

-- so no statement uses more names
pub few_used : (s : RawStmt) → IsStatement s → length (used_by s) ≤ 1024
few_used (InputOf name) is = omega arith
few_used (OutputOf name) is = omega arith
few_used (GateOf name kind arguments) is = few_pins kind (length arguments) is.fan_in
few_used (FlopOf name data_line) is = omega arith

-- a name that is the one at a place of a list stands in the list
stands : (names : List (List ℕ)) (place : ℕ) → IsName (get_or names place []) → place < length names
stands [] place is = absurd (omega (arith, is.some_byte))
stands (name ∷ names) zero is = omega arith
stands (name ∷ names) (suc place) is = omega (arith, stands names place is)

-- at most one of its names is not used
pub skipped_few : (form : Form) → skipped form ≤ 1
skipped_few Input = omega arith
skipped_few Output = omega arith
skipped_few (Gate kind) = omega arith
skipped_few Flop = omega arith

-- its own name is the first
name_first : (form : Form) (own : List (List ℕ)) → own_name (with_names form own) ≡ get_or own 0 []
name_first Input own = refl
name_first Output own = refl
name_first (Gate kind) own = refl
name_first Flop own = refl

-- a lawful statement has one
has_name : (form : Form) (own : List (List ℕ)) → IsStatement (with_names form own) → 0 < length own
has_name Input own is = stands own 0 is
has_name Output own is = stands own 0 is
has_name (Gate kind) own is = stands own 0 is.own_name
has_name Flop own is = stands own 0 is.own_name

-- so many names are used
as_many_used : (form : Form) (own : List (List ℕ)) → length (used_by (with_names form own)) ≡ used_count form (length own)
as_many_used Input own = refl
as_many_used Output own = refl
as_many_used (Gate kind) own = length-drop 1 own
as_many_used Flop own = refl

-- a name that is used stands behind those that are skipped
record IsUsedAt (form : Form) (own : List (List ℕ)) (argument : ℕ) : Type 0 where
  within : skipped form + argument < length own
  is : get_or (used_by (with_names form own)) argument [] ≡ get_or own (skipped form + argument) []

used_at : (form : Form) (own : List (List ℕ)) (argument : ℕ) → IsStatement (with_names form own)
    → argument < length (used_by (with_names form own)) → IsUsedAt form own argument
used_at Input own argument is within = absurd (omega arith)
used_at Output own zero is within = record { within = stands own 0 is; is = refl }
used_at Output own (suc argument) is within = absurd (omega arith)
used_at (Gate kind) own argument is within =
    record { within = omega (arith, length-drop 1 own); is = get_or-drop 1 own argument [] }
used_at Flop own zero is within = record { within = stands own 1 is.data_name; is = refl }
used_at Flop own (suc argument) is within = absurd (omega arith)

module _ (raw : Inside) (is : IsRaw raw) (now : List Numbered) (view : statements_in raw ≡ now) (place : ℕ)
    (within : place < length now) where
  -- there are as many places as statements
  pub placed_within : place < length raw.statements.items
  placed_within = omega (arith, ap length view, length-map raw.statements.items (statement_in raw.names))

  module _ (placed : Placed) (at : placed ≡ get_or raw.statements.items place placed) where
    -- the names of the statement
    abbrev own : List (List ℕ)
    own = own_names raw.names placed

    -- the statement that is kept at the place
    read_at : get_or now place no_statement ≡ statement_in raw.names placed
    read_at =
        ap (λ l. get_or l place no_statement) (sym view)
        ∙ get_or-map (statement_in raw.names) raw.statements.items place placed no_statement placed_within
        ∙ ap (statement_in raw.names) (sym at)

    -- it is lawful
    lawful : IsStatement (with_names placed.form own)
    lawful =
        let all = is.lawful place no_statement (omega (arith, ap length view)) in
        subst (λ (s : Numbered). IsStatement s.statement)
        (ap (λ l. get_or l place no_statement) view ∙ read_at) all

    -- its names stand among those of all
    has : placed.first + placed.count ≤ length raw.names
    has = subst (λ (p : Placed). p.first + p.count ≤ length raw.names) (sym at) (is.places place placed placed_within)

    own-length : length own ≡ placed.count
    own-length = length-take-le placed.count (drop placed.first raw.names) (omega (arith, has, length-drop placed.first raw.names))

    own-at : (k : ℕ) → k < placed.count → get_or own k [] ≡ get_or raw.names (placed.first + k) []
    own-at k below = get_or-take placed.count (drop placed.first raw.names) k [] below ∙ get_or-drop placed.first raw.names k []

    -- it has a name
    pub some_name : 1 ≤ placed.count
    some_name = omega (arith, has_name placed.form own lawful, own-length)

    -- which stands among those of all
    pub first_within : placed.first < length raw.names
    first_within = omega (arith, some_name, has)

    pub reads_name : get_or raw.names placed.first [] ≡ own_name (statement_at now place)
    reads_name =
        let start : placed.first + 0 ≡ placed.first = omega arith in
        sym (ap (λ (s : Numbered). own_name s.statement) read_at ∙ name_first placed.form own
        ∙ own-at 0 (omega (arith, some_name)) ∙ ap (λ n. get_or raw.names n []) start)

    -- so many names are used
    pub reads_used_count : used_count placed.form placed.count ≡ length (used_by (statement_at now place))
    reads_used_count =
        sym (ap (λ (s : Numbered). length (used_by s.statement)) read_at ∙ as_many_used placed.form own
        ∙ ap (used_count placed.form) own-length)

    -- and no more than a gate may have
    pub reads_few : used_count placed.form placed.count ≤ 1024
    reads_few = omega (
      arith,
      few_used (with_names placed.form own) lawful,
      as_many_used placed.form own,
      ap (used_count placed.form) own-length,
    )

    module _ (argument : ℕ) (below : argument < length (used_by (statement_at now place))) where
      -- and here stands one of them
      used : IsUsedAt placed.form own argument
      used = used_at placed.form own argument lawful
          (subst (λ (s : Numbered). argument < length (used_by s.statement)) read_at below)

      -- it has a small place
      pub used_small : argument < 1024
      used_small = omega (arith, below, few_used (with_names placed.form own) lawful, ap (λ (s : Numbered). length (used_by s.statement)) read_at)

      -- it stands so far behind the first one
      pub used_within : skipped placed.form + argument < placed.count
      used_within = omega (arith, used.within, own-length)

      -- and among the names of all
      pub used_among : placed.first + (skipped placed.form + argument) < length raw.names
      used_among = omega (arith, used_within, has)

      pub reads_used : get_or raw.names (placed.first + (skipped placed.form + argument)) []
          ≡ get_or (used_by (statement_at now place)) argument []
      reads_used =
          sym (ap (λ (s : Numbered). get_or (used_by s.statement) argument []) read_at ∙ used.is
          ∙ own-at (skipped placed.form + argument) used_within)
