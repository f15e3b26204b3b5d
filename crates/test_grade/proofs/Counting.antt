-- How many places hold: what follows for single places, and what becomes of the count where one place ceases to hold.
use Rattle.std.proofs.Common.{◌≡◌, ◌≢◌, ⊎_elim, ℕ, zero, suc, ◌+◌, ◌-◌, ◌<◌, ◌≤◌, Bool, true, false, ◌&&◌, ◌==◌, if◌then◌else◌, IsTrue, List, length, set, get_or-set_same, get_or-set_other, refl, sym, ap, ap₂, subst, ◌∙◌, arith}
use Rattle.std.proofs.lemmas.Bool.{cases_lt, cases_eq, eq-eqb, ne_eqb, false≢true}
use Rattle.std.proofs.lemmas.List.{get_or_past}
use Rattle.test_grade.specs.Compact.{count_below, is_kept, servers}

-- 1 where a bit is true
abbrev pub one_if : Bool → ℕ
one_if bit = if bit then 1 else 0

-- of nothing nothing is kept
nothing : (bit : Bool) → (bit && false) ≡ false
nothing true = refl
nothing false = refl

-- counts of what holds at the same places are the same
pub same_count : (a b : ℕ → Bool) (places : ℕ) → ((k : ℕ) → k < places → a k ≡ b k) → count_below a places ≡ count_below b places
same_count a b zero same = refl
same_count a b (suc places) same =
    ap₂ (λ before this. before + one_if this) (same_count a b places (λ k within. same k (omega arith))) (same places (omega arith))

-- where one place holds the count is not 0
pub some_counted : (a : ℕ → Bool) (places k : ℕ) → k < places → IsTrue (a k) → 1 ≤ count_below a places
some_counted a zero k within holds = absurd (omega arith)
some_counted a (suc places) k within holds =
    ⊎_elim
    (λ before. let some = some_counted a places k before holds in omega arith)
    (λ behind. let this : k ≡ places = omega arith in
    let one : one_if (a places) ≡ 1 = ap one_if (subst (λ at. a at ≡ true) this holds) in omega arith)
    (cases_lt k places)

-- and where it is not 0 some place holds
pub counted_some : (a : ℕ → Bool) (places : ℕ) → 1 ≤ count_below a places → (k : ℕ) × ((k < places) × IsTrue (a k))
counted_some a zero some = absurd (omega arith)
counted_some a (suc places) some = at (a places) refl (counted_some a places)
  where
    at : (bit : Bool) → a places ≡ bit → (1 ≤ count_below a places → (k : ℕ) × ((k < places) × IsTrue (a k)))
        → (k : ℕ) × ((k < suc places) × IsTrue (a k))
    at true holds before = (places, (omega arith, holds))
    at false none before =
        let zero_here : one_if (a places) ≡ 0 = ap one_if none in
        let found = before (omega arith) in
        (found.0, (omega (arith, found.1.0), found.1.1))

-- one place ceases to hold
pub one_less : (a b : ℕ → Bool) (places k : ℕ) → k < places → a k ≡ true → b k ≡ false
    → ((other : ℕ) → other ≢ k → b other ≡ a other) → count_below a places ≡ count_below b places + 1
one_less a b zero k within held ceased others = absurd (omega arith)
one_less a b (suc places) k within held ceased others =
    ⊎_elim
    (λ this.
    let one : one_if (a places) ≡ 1 = ap one_if (subst (λ at. a at ≡ true) this held) in
    let none : one_if (b places) ≡ 0 = ap one_if (subst (λ at. b at ≡ false) this ceased) in
    let before = same_count b a places (λ other inside. others other (λ e. omega (arith, e))) in
    omega arith)
    (λ differs.
    let before = one_less a b places k (omega arith) held ceased others in
    let same : one_if (b places) ≡ one_if (a places) = ap one_if (others places (λ e. differs (sym e))) in
    omega arith)
    (cases_eq k places)

-- a count below 2 is that of one place at most
pub only_one : (a : ℕ → Bool) (places k other : ℕ) → count_below a places < 2 → k < places → other < places
    → IsTrue (a k) → IsTrue (a other) → other ≡ k
only_one a places k other few within inside held holds =
    ⊎_elim
    (λ same. same)
    (λ differs.
    let without = λ (at : ℕ). if at == k then false else a at in
    let less = one_less a without places k within held (ap (λ bit. if bit then false else a k) (eq-eqb k k refl))
    (λ at apart. ap (λ bit. if bit then false else a at) (ne_eqb at k apart)) in
    let some = some_counted without places other inside (ap (λ bit. if bit then false else a other) (ne_eqb other k differs) ∙ holds) in
    absurd (omega arith))
    (cases_eq other k)

-- the count of those that are kept and serve a fault, where one that is kept is left out
pub counted_off : (kept : List Bool) (serves : ℕ → ℕ → Bool) (test fault count : ℕ) → test < length kept → is_kept kept test ≡ true
    → count ≡ servers (length kept) serves kept fault
    → count - one_if (serves test fault) ≡ servers (length kept) serves (set kept test false) fault
counted_off kept serves test fault count within held counts = at (serves test fault) refl
  where
    new : List Bool
    new = set kept test false

    off : is_kept new test ≡ false
    off = get_or-set_same kept test false false within

    others : (other : ℕ) → other ≢ test → (is_kept new other && serves other fault) ≡ (is_kept kept other && serves other fault)
    others other differs = ap (λ bit. bit && serves other fault) (get_or-set_other kept test other false false differs)

    at : (bit : Bool) → serves test fault ≡ bit
        → count - one_if (serves test fault) ≡ servers (length kept) serves new fault
    at true does =
        let less = one_less (λ test. is_kept kept test && serves test fault) (λ test. is_kept new test && serves test fault) (length kept) test within
        (ap (λ bit. bit && serves test fault) held ∙ does) (ap (λ bit. bit && serves test fault) off) others in
        let one : one_if (serves test fault) ≡ 1 = ap one_if does in
        omega arith
    at false not =
        let none : one_if (serves test fault) ≡ 0 = ap one_if not in
        let same : servers (length kept) serves kept fault ≡ servers (length kept) serves new fault =
        same_count (λ test. is_kept kept test && serves test fault) (λ test. is_kept new test && serves test fault) (length kept)
        (λ k inside. ⊎_elim
        (λ this. ap (λ bit. is_kept kept k && bit) (ap (λ at. serves at fault) this ∙ not)
        ∙ nothing (is_kept kept k) ∙ sym (nothing (is_kept new k))
        ∙ ap (λ bit. is_kept new k && bit) (sym (ap (λ at. serves at fault) this ∙ not)))
        (λ differs. sym (others k differs))
        (cases_eq k test)) in
        omega arith

-- a kept test is one of the tests
pub kept_within : (kept : List Bool) (test : ℕ) → IsTrue (is_kept kept test) → test < length kept
kept_within kept test is =
    ⊎_elim (λ within. within) (λ past. absurd (false≢true (sym (get_or_past kept test false past) ∙ is))) (cases_lt test (length kept))
