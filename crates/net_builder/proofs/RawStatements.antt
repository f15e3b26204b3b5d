-- A list of statements whose names get more behind them keeps its statements, and a statement put last stands there.
use Rattle.std.proofs.Common.{◌≡◌, ℕ, ◌<◌, List, [], ◌∷◌, ◌++◌, length, map, take, drop, sym, ap, subst, subst₂, ◌∙◌, arith, append_assoc}
use Rattle.std.specs.List.{All}
use Rattle.std.proofs.lemmas.List.{drop-append-le, drop_at, length-append, length-drop, length-map, length_push, map_push, take-append-le, take_all}
use Rattle.std.proofs.lemmas.List.Elements.{All-push, All-weaker}
use Rattle.netlist.specs.declared.limits.TheConstants.{MOST_STATEMENTS}
use Rattle.std.specs.Global.{Vec}
use Rattle.net_builder.specs.declared.raw_net.Placed.{Placed}
use Rattle.net_builder.specs.declared.raw_net.RawNet.TheInside.{Inside}
use Rattle.netlist.specs.declared.raw_net.RawStmt.{RawStmt}
use Rattle.net_builder.specs.RawStored.{HasNames, IsRaw, own_names, statement_in, statements_in, with_names}
use Rattle.netlist.specs.Statements.{IsStatement, Numbered, numbered}
use Rattle.netlist.proofs.Evaluation.{map_agree}

-- the statements that are kept so are lawful
abbrev pub AreLawful : List Numbered → Type 0
AreLawful statements = All (λ s. IsStatement s.statement) statements

-- one name and then others put last are all put last
pub names_behind : (before one all : List (List ℕ)) (name : List ℕ) (more : List (List ℕ)) → one ≡ before ++ name ∷ []
    → all ≡ one ++ more → all ≡ before ++ name ∷ more
names_behind before one all name more first rest =
    rest ∙ ap (λ names. names ++ more) first ∙ append_assoc before (name ∷ []) more

module _ (names more : List (List ℕ)) where
  -- a statement's own names
  names_stay : (placed : Placed) → HasNames names placed → own_names (names ++ more) placed ≡ own_names names placed
  names_stay placed has =
      ap (take placed.count) (drop-append-le placed.first names more (omega arith))
      ∙ take-append-le placed.count (drop placed.first names) more (omega (arith, length-drop placed.first names))

  -- a statement
  statement_stays : (placed : Placed) → HasNames names placed
      → statement_in (names ++ more) placed ≡ statement_in names placed
  statement_stays placed has =
      ap (λ own. numbered placed.line (with_names placed.form own)) (names_stay placed has)

  -- all statements
  statements_stay : (placed : List Placed) → All (HasNames names) placed
      → map (statement_in (names ++ more)) placed ≡ map (statement_in names) placed
  statements_stay placed has =
      map_agree (statement_in (names ++ more)) (statement_in names) placed
      (All-weaker (HasNames names) (λ p. statement_in (names ++ more) p ≡ statement_in names p) statement_stays placed has)

  -- their places
  places_stay : (placed : List Placed) → All (HasNames names) placed → All (HasNames (names ++ more)) placed
  places_stay placed has =
      All-weaker (HasNames names) (HasNames (names ++ more)) (λ p within. omega (arith, length-append names more)) placed has

  -- the names of a statement that is put last
  names_last : (placed : Placed) → placed.first ≡ length names → placed.count ≡ length more
      → own_names (names ++ more) placed ≡ more
  names_last placed first count =
      ap (take placed.count) (drop_at names more placed.first (sym first)) ∙ take_all placed.count more (omega arith)

-- a list with these names and these statements
abbrev pub kept_as : List (List ℕ) → Vec Placed → Inside
kept_as names statements = record { names = names; statements = statements }

module _ (raw : Inside) (is : IsRaw raw) (names more : List (List ℕ)) (statements : Vec Placed)
    (longer : names ≡ raw.names ++ more) where
  -- more names alone make the same statements
  pub raw_same : statements.items ≡ raw.statements.items → statements_in (kept_as names statements) ≡ statements_in raw
  raw_same same =
      (λ i. map (statement_in (longer i)) (same i)) ∙ statements_stay raw.names more raw.statements.items is.places

  -- and keep what is true of the list
  pub raw_kept : statements.items ≡ raw.statements.items → IsRaw (kept_as names statements)
  raw_kept same = record {
    places = subst₂ (λ n s. All (HasNames n) s) (sym longer) (sym same)
        (places_stay raw.names more raw.statements.items is.places);
    lawful = subst AreLawful (sym (raw_same same)) is.lawful;
    few = omega (arith, ap length same, is.few);
  }

  module _ (line : ℕ) (statement : RawStmt) (placed : Placed) (put : statements.items ≡ raw.statements.items ++ placed ∷ [])
      (first : placed.first ≡ length raw.names) (count : placed.count ≡ length more)
      (stated : numbered placed.line (with_names placed.form more) ≡ numbered line statement) where
    -- one statement more, on the names that were put last
    pub raw_pushed : statements_in (kept_as names statements) ≡ statements_in raw ++ numbered line statement ∷ []
    raw_pushed =
        (λ i. map (statement_in (longer i)) (put i))
        ∙ map_push (statement_in (raw.names ++ more)) raw.statements.items placed
        ∙ (λ i. statements_stay raw.names more raw.statements.items is.places i ++ last i ∷ [])
      where
        last : statement_in (raw.names ++ more) placed ≡ numbered line statement
        last =
            ap (λ own. numbered placed.line (with_names placed.form own)) (names_last raw.names more placed first count)
            ∙ stated

    -- keeps what is true of the list
    pub raw_grown : (now : List Numbered) → statements_in raw ≡ now → IsStatement statement
        → length now < MOST_STATEMENTS → IsRaw (kept_as names statements)
    raw_grown now view lawful few = record {
      places = places_are;
      lawful = subst AreLawful (sym raw_pushed)
          (All-push (λ s. IsStatement s.statement) (statements_in raw) (numbered line statement) is.lawful lawful);
      few = omega (
        arith,
        ap length put,
        length_push raw.statements.items placed,
        ap length view,
        length-map raw.statements.items (statement_in raw.names),
      );
    }
      where
        places_are : All (HasNames names) statements.items
        places_are = subst₂ (λ n s. All (HasNames n) s) (sym longer) (sym put)
            (All-push (HasNames (raw.names ++ more)) raw.statements.items placed
            (places_stay raw.names more raw.statements.items is.places)
            (omega (arith, length-append raw.names more)))
