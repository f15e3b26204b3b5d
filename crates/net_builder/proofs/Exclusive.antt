-- Statements that describe a circuit are refused for no reason.
use Rattle.std.proofs.Common.{◌≡◌, ◌≢◌, ℕ, zero, suc, ◌<◌, ◌≤◌, List, [], ◌∷◌, ◌++◌, length, map, get_or, refl, ap, sym, ◌∙◌, subst, arith, zero-add}
use Rattle.std.specs.List.{All, AllPairs, Contains, range_with_len}
use Rattle.std.proofs.lemmas.List.{get_or_append_left, get_or-map, length-append, length-map, map-append}
use Rattle.std.proofs.lemmas.List.FromFn.{get_or-range_with_len, length-range_with_len}
use Rattle.std.proofs.lemmas.Option.{slice_get_within}
use Rattle.netlist.specs.Circuit.{Circuit, gate_line, line_count}
use Rattle.netlist.specs.Description.{Describes, Mention, NamedGate, defined_names, definitions, described, gate_in, gate_mentions, gate_on, gates, mentions, names_by_line, used_names, uses}
use Rattle.netlist.specs.Lawful.{IsLoopFree, IsLooped}
use Rattle.netlist.specs.declared.limits.TheConstants.{MOST_LEVELS}
use Rattle.netlist.specs.Greatest.{greatest}
use Rattle.netlist.specs.Levels.{greatest_level, level, line_levels}
use Rattle.netlist.specs.Statements.{Numbered, defined_by, used_by}
use Rattle.net_builder.specs.declared.fault.BuildFault.{BuildFault}
use Rattle.net_builder.specs.declared.fault.BuildFault.TheVariants.{TooManyLines, TooManyPins, Twice, Undefined, Loop, TooDeep, NoMemory}
use Rattle.net_builder.specs.Refusals.{IsFirstGate, IsTooDeep, IsTwice, IsUndefined, Refuses}

-- the names of some mentions
abbrev names_of : List Mention → List (List ℕ)
names_of all = map (λ mention. mention.name) all

-- the names of the mentions of some names, and of those behind them
mentioned : (line : ℕ) (names : List (List ℕ)) (rest : List Mention) → names_of (mentions line names ++ rest) ≡ names ++ names_of rest
mentioned line [] rest = refl
mentioned line (name ∷ names) rest = ap (λ others. name ∷ others) (mentioned line names rest)

-- the names of all definitions
pub names_of_definitions : (statements : List Numbered) → names_of (definitions statements) ≡ defined_names statements
names_of_definitions [] = refl
names_of_definitions (s ∷ statements) =
    mentioned s.line (defined_by s.statement) (definitions statements)
    ∙ ap (λ rest. defined_by s.statement ++ rest) (names_of_definitions statements)

-- the names of all uses
pub names_of_uses : (statements : List Numbered) → names_of (uses statements) ≡ used_names statements
names_of_uses [] = refl
names_of_uses (s ∷ statements) =
    mentioned s.line (used_by s.statement) (uses statements)
    ∙ ap (λ rest. used_by s.statement ++ rest) (names_of_uses statements)

-- each gate is mentioned once
mentioned_once : (line : ℕ) (some : List NamedGate) (rest : List Mention) (others : List NamedGate) → length rest ≡ length others
    → length (mentions line (map (λ gate. gate.name) some) ++ rest) ≡ length (some ++ others)
mentioned_once line [] rest others same = same
mentioned_once line (gate ∷ some) rest others same = ap suc (mentioned_once line some rest others same)

-- so there are as many mentions as gates
pub count_of_mentions : (statements : List Numbered) → length (gate_mentions statements) ≡ length (gates statements)
count_of_mentions [] = refl
count_of_mentions (s ∷ statements) =
    mentioned_once s.line (gate_in s.statement) (gate_mentions statements) (gates statements) (count_of_mentions statements)

-- a list that is cut at an element has that element behind the first part
at_cut : {X : Type 0} (before later : List X) (x d : X) → get_or (before ++ x ∷ later) (length before) d ≡ x
at_cut [] later x d = refl
at_cut (other ∷ before) later x d = at_cut before later x d

-- none stands twice in a list of which any two differ
not_again : {X : Type 0} (before later : List X) (x : X) → AllPairs (λ a b. a ≢ b) (before ++ x ∷ later) → ¬ Contains before x
not_again before later x differ again =
    let k = again.0 in
    let within = again.1 in
    let long = length-append before (x ∷ later) in
    differ k (length before) x within (omega (arith, long))
    (get_or_append_left before (x ∷ later) x k within ∙ again.2 ∙ sym (at_cut before later x x))

-- a mention that is defined again
not_twice : (statements : List Numbered) (mention : Mention) → AllPairs (λ a b. a ≢ b) (defined_names statements)
    → ¬ IsTwice statements mention
not_twice statements mention distinct twice =
    let cut = sym (names_of_definitions statements) ∙ ap names_of twice.place ∙ map-append (λ m. m.name) twice.before (mention ∷ twice.later) in
    not_again (names_of twice.before) (names_of twice.later) mention.name
    (subst (AllPairs (λ a b. a ≢ b)) cut distinct) twice.again

-- a use of a name that is not defined
not_undefined : (statements : List Numbered) (mention : Mention) → All (λ name. Contains (defined_names statements) name) (used_names statements)
    → ¬ IsUndefined statements mention
not_undefined statements mention defined free =
    let cut = sym (names_of_uses statements) ∙ ap names_of free.place ∙ map-append (λ m. m.name) free.before (mention ∷ free.later) in
    let long = length-append (names_of free.before) (mention.name ∷ names_of free.later) in
    free.undefined (subst (Contains (defined_names statements)) (at_cut (names_of free.before) (names_of free.later) mention.name [])
    (subst (All (λ name. Contains (defined_names statements) name)) cut defined (length (names_of free.before)) [] (omega (arith, long))))

-- a gate that is mentioned is one of the circuit
is_gate : (statements : List Numbered) (P : ℕ → Type 0) (mention : Mention) (first : IsFirstGate statements P mention)
    → first.gate < length (described statements).gates
is_gate statements P mention first =
    let within = slice_get_within (gate_mentions statements) first.gate mention first.place in
    let same = count_of_mentions statements in
    let mapped = length-map (gates statements) (gate_on (names_by_line statements)) in
    omega (arith, within, same, mapped)

-- no number of some is above the greatest
below_greatest : (numbers : List ℕ) (at : ℕ) → at < length numbers → get_or numbers at 0 ≤ greatest numbers
below_greatest [] at within = absurd (omega arith)
below_greatest (first ∷ numbers) zero within = omega arith
below_greatest (first ∷ numbers) (suc at) within = let rest = below_greatest numbers at (omega arith) in omega (arith, rest)

-- no line stands above the greatest level
below_greatest_level : (c : Circuit) (line : ℕ) → line < line_count c → level c line ≤ greatest_level c
below_greatest_level c line within =
    let all = range_with_len 0 (line_count c) in
    let long = length-range_with_len 0 (line_count c) in
    let mapped = length-map all (level c) in
    let at : get_or all line 0 ≡ line = get_or-range_with_len 0 (line_count c) line 0 within ∙ zero-add line in
    let here = get_or-map (level c) all line 0 0 (omega (arith, long)) ∙ ap (level c) at in
    let below = below_greatest (line_levels c) line (omega (arith, long, mapped)) in
    omega (arith, here, below)

-- statements that describe a circuit are refused for no reason
pub refuses_none : (statements : List Numbered) (c : Circuit) (fault : BuildFault) → Describes statements c → ¬ Refuses statements fault
refuses_none statements c (TooManyLines count) describes refused =
    omega (arith, describes.named.limits.few_lines, refused.counted, refused.many)
refuses_none statements c (TooManyPins count) describes refused =
    omega (arith, describes.named.limits.few_pins, refused.pins.counted, refused.pins.many)
refuses_none statements c (Twice line name) describes refused =
    not_twice statements (record { line = line; name = name }) describes.named.distinct refused.twice
refuses_none statements c (Undefined line name) describes refused =
    not_undefined statements (record { line = line; name = name }) describes.named.defined refused.undefined
refuses_none statements c (Loop line name) describes refused =
    let first = refused.looped in
    let free = subst IsLoopFree describes.is describes.loop_free in
    free first.gate (is_gate statements (IsLooped (described statements)) (record { line = line; name = name }) first) first.is
refuses_none statements c (TooDeep line name) describes refused =
    let first = refused.deep in
    let d = described statements in
    let few = subst (λ c. greatest_level c ≤ MOST_LEVELS) describes.is describes.few_levels in
    let inside = is_gate statements (IsTooDeep d) (record { line = line; name = name }) first in
    let below = below_greatest_level d (gate_line d first.gate) (omega (arith, inside)) in
    omega (arith, few, below, first.is)
refuses_none statements c (NoMemory _) describes refused = refused

-- statements describe one circuit at most
pub describes_one : (statements : List Numbered) (c d : Circuit) → Describes statements c → Describes statements d → c ≡ d
describes_one statements c d first second = first.is ∙ sym second.is
