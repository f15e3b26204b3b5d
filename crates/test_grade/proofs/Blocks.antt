-- Pairs that are put into lanes one after another, and words that are written one after another.
use Rattle.std.proofs.Common.{◌≡◌, ◌≢◌, ⊎_elim, ℕ, ◌+◌, ◌-◌, ◌*◌, ◌/◌, ◌%◌, ◌<◌, ◌≤◌, ◌↔◌, Bool, IsTrue, List, length, slice_get, get_or, set, length-set, get_or-set_same, get_or-set_other, mul-le-mul_right, Some, sym, ap, subst, ◌∙◌, arith}
use Rattle.std.proofs.lemmas.Bool.{cases_eq, cases_lt}
use Rattle.std.proofs.lemmas.Option.{same_Some, slice_get_within}
use Rattle.pd_base.specs.declared.fault.Direction.{Direction}
use Rattle.pd_base.specs.declared.fault.Direction.TheVariants.{Rise, Fall}
use Rattle.pd_base.specs.declared.test.Test.{Test}
use Rattle.pd_base.specs.Pair.{Vectors}
use Rattle.netlist.specs.Circuit.{Circuit}
use Rattle.netlist.specs.Conditions.{Meets}
use Rattle.logic_values.specs.Lanes.{IsInLane, lane_bit, lane_of}
use Rattle.runs.specs.declared.run.ListedPath.{ListedPath}
use Rattle.test_grade.specs.declared.kind_asked.KindAsked.{KindAsked}
use Rattle.test_grade.specs.Lines.{AreUnder}
use Rattle.test_grade.specs.Serving.{AreGraded, IsMatrix, StandInLanes, fault_place, target_at}

-- the vectors so far stay in their lanes when one more is put into its own
pub one_more_lane : (vector : Vectors → List Bool) (begin place : ℕ) (tests : List Test) (old new : List ℕ) → begin ≤ place → place < begin + 64
    → (own : Test) → slice_get tests place ≡ Some own → StandInLanes vector begin place tests old
    → IsInLane new (place - begin) (vector own.pair)
    → ((other line : ℕ) → other < 64 → other ≢ place - begin → lane_bit new other line ≡ lane_bit old other line)
    → StandInLanes vector begin (place + 1) tests new
one_more_lane vector begin place tests old new from few own at are there others other test first last is =
    ⊎_elim
    (λ (same : other ≡ place).
    let its : own ≡ test = same_Some own test (sym at ∙ ap (slice_get tests) (sym same) ∙ is) in
    subst (λ (t : Test). IsInLane new (other - begin) (vector t.pair)) its
    (subst (λ (p : ℕ). IsInLane new (p - begin) (vector own.pair)) (sym same) there))
    (λ (differs : other ≢ place).
    let before : other < place = omega arith in
    let lane : other - begin ≢ place - begin = λ e. differs (omega arith) in
    record {
      each = λ source within.
          others (other - begin) source (omega arith) lane ∙ (are other test first before is).each source within;
    })
    (cases_eq other place)

-- two words are written side by side
both_set : (words : List ℕ) (i a b : ℕ) → i + 1 < length words → get_or (set (set words i a) (i + 1) b) i 0 ≡ a
both_set words i a b within =
    get_or-set_other (set words i a) (i + 1) i b 0 (λ e. omega (arith, e)) ∙ get_or-set_same words i a 0 (omega arith)

second_set : (words : List ℕ) (i a b : ℕ) → i + 1 < length words → get_or (set (set words i a) (i + 1) b) (i + 1) 0 ≡ b
second_set words i a b within = get_or-set_same (set words i a) (i + 1) b 0 (omega (arith, within, length-set words i a))

pub others_kept : (words : List ℕ) (i a b k : ℕ) → k ≢ i → k ≢ i + 1 → get_or (set (set words i a) (i + 1) b) k 0 ≡ get_or words k 0
others_kept words i a b k first second =
    get_or-set_other (set words i a) (i + 1) k b 0 second ∙ get_or-set_other words i k a 0 first

module _ (asked : KindAsked) (c : Circuit) (paths : List ListedPath) (finals steadies : List ℕ) (base : ℕ) where
  -- what a word tells of each lane
  abbrev pub TellsOf : ℕ → ListedPath → Direction → Type 0
  TellsOf word listed direction = (lane : ℕ) (pair : Vectors) → lane < 64 → AreUnder c pair lane finals steadies
      → IsTrue (lane_of word lane) ↔ Meets c (target_at asked listed direction) pair

  -- one path more is graded
  pub graded_more : (words : List ℕ) (place rise fall : ℕ) (listed : ListedPath) → slice_get paths place ≡ Some listed
      → base + 2 * place + 1 < length words → TellsOf rise listed Rise → TellsOf fall listed Fall
      → AreGraded asked c paths finals steadies base place words
      → AreGraded asked c paths finals steadies base (place + 1) (set (set words (base + 2 * place) rise) (base + 2 * place + 1) fall)
  graded_more words place rise fall listed at room rises falls are = record { each = each }
    where
      new : List ℕ
      new = set (set words (base + 2 * place) rise) (base + 2 * place + 1) fall

      own : (direction : Direction) → TellsOf (get_or new (base + fault_place place direction) 0) listed direction
      own Rise = subst (λ word. TellsOf word listed Rise) (sym (both_set words (base + 2 * place) rise fall room)) rises
      own Fall =
          let same : base + (2 * place + 1) ≡ base + 2 * place + 1 = omega arith in
          subst (λ word. TellsOf word listed Fall)
          (sym (ap (λ k. get_or new k 0) same ∙ second_set words (base + 2 * place) rise fall room)) falls

      apart : (path : ℕ) (direction : Direction) → path < place
          → get_or new (base + fault_place path direction) 0 ≡ get_or words (base + fault_place path direction) 0
      apart path Rise before = others_kept words (base + 2 * place) rise fall (base + 2 * path) (λ e. omega (arith, e)) (λ e. omega (arith, e))
      apart path Fall before =
          others_kept words (base + 2 * place) rise fall (base + (2 * path + 1)) (λ e. omega (arith, e)) (λ e. omega (arith, e))

      each : (path : ℕ) (its : ListedPath) (direction : Direction) (lane : ℕ) (pair : Vectors)
          → path < place + 1 → slice_get paths path ≡ Some its → lane < 64 → AreUnder c pair lane finals steadies
          → IsTrue (lane_bit new lane (base + fault_place path direction)) ↔ Meets c (target_at asked its direction) pair
      each path its direction lane pair inside stands within under =
          ⊎_elim
          (λ (same : path ≡ place).
          let one : listed ≡ its = same_Some listed its (sym at ∙ ap (slice_get paths) (sym same) ∙ stands) in
          subst (λ l. IsTrue (lane_bit new lane (base + fault_place path direction)) ↔ Meets c (target_at asked l direction) pair) one
          (subst (λ p. IsTrue (lane_bit new lane (base + fault_place p direction)) ↔ Meets c (target_at asked listed direction) pair) (sym same)
          (own direction lane pair within under)))
          (λ (differs : path ≢ place).
          let before : path < place = omega arith in
          subst (λ word. IsTrue (lane_of word lane) ↔ Meets c (target_at asked its direction) pair) (sym (apart path direction before))
          (are.each path its direction lane pair before stands within under))
          (cases_eq path place)

-- the places of a path's faults lie below twice the number of paths
pub place_below : (path : ℕ) (direction : Direction) (paths : ℕ) → path < paths → fault_place path direction < 2 * paths
place_below path Rise paths within = omega arith
place_below path Fall paths within = omega arith

-- the words of a block lie below those of the next ones
pub block_below : (before block faults fault : ℕ) → before < block → fault < faults → before * faults + fault < block * faults
block_below before block faults fault earlier inside =
    let more : (before + 1) * faults ≤ block * faults = mul-le-mul_right {m = before + 1} {n = block} faults (omega arith) in
    omega (arith, more)

-- one block more is graded
pub matrix_more : (asked : KindAsked) (c : Circuit) (paths : List ListedPath) (tests : List Test) (block base end : ℕ) (words new finals steadies : List ℕ)
    → base ≡ block * (2 * length paths) → IsMatrix asked c paths tests (block * 64) words
    → ((k : ℕ) → k < base → get_or new k 0 ≡ get_or words k 0)
    → AreGraded asked c paths finals steadies base (length paths) new
    → ((place : ℕ) (test : Test) → block * 64 ≤ place → place < end → slice_get tests place ≡ Some test
    → AreUnder c test.pair (place - block * 64) finals steadies)
    → ((place : ℕ) → place < block * 64 + 64 → place < length tests → place < end)
    → IsMatrix asked c paths tests ((block + 1) * 64) new
matrix_more asked c paths tests block base end words new finals steadies begins old before graded under last = record {
  each = λ place test path listed direction inside at stands.
      let F = 2 * length paths in
      let its = place_below path direction (length paths) (slice_get_within paths path listed stands) in
      ⊎_elim
      (λ (earlier : place < block * 64).
      let below = block_below (place / 64) block F (fault_place path direction) (omega arith) its in
      subst (λ word. IsTrue (lane_of word (place % 64)) ↔ Meets c (target_at asked listed direction) test.pair)
      (sym (before (place / 64 * F + fault_place path direction) (omega arith)))
      (old.each place test path listed direction earlier at stands))
      (λ (this : block * 64 ≤ place).
      let same : place / 64 ≡ block = omega arith in
      let lane : place - block * 64 ≡ place % 64 = omega arith in
      let there : base + fault_place path direction ≡ place / 64 * F + fault_place path direction =
      ap (λ k. k + fault_place path direction) (begins ∙ ap (λ b. b * F) (sym same)) in
      subst (λ k. IsTrue (lane_bit new (place % 64) k) ↔ Meets c (target_at asked listed direction) test.pair) there
      (subst (λ l. IsTrue (lane_bit new l (base + fault_place path direction)) ↔ Meets c (target_at asked listed direction) test.pair) lane
      (graded.each path listed direction (place - block * 64) test.pair (slice_get_within paths path listed stands) stands (omega arith)
      (under place test this (last place (omega arith) (slice_get_within tests place test at)) at))))
      (cases_lt place (block * 64));
}
